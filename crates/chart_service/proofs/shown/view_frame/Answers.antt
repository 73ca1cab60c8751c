use Rattle.std.proofs.Common.{rules, ◌∙◌, ap, length, FitsSigned, w64}
use Rattle.std.proofs.lemmas.Int.{to_z-of_z}
use Rattle.chart_service.proofs.shown.view_frame.Goals as goal

pub returns-clause-fields : goal.returns-clause-fields
returns-clause-fields c =
    let t0 : FitsSigned w64 c.t0.result = search rules in
    let t1 : FitsSigned w64 c.t1.result = search rules in
    let lo : FitsSigned w64 c.args.planned.told.range.lo = search rules in
    let hi : FitsSigned w64 c.args.planned.told.range.hi = search rules in
    let start : FitsSigned w64 c.args.planned.told.axis.start = search rules in
    let least : FitsSigned w64 c.stored_of-stored.result.least = search rules in
    let greatest : FitsSigned w64 c.stored_of-stored.result.greatest = search rules in
    λ i. record {
      session = c.args.number;
      series = c.args.id;
      w = c.w.ensures.value i;
      h = c.h.ensures.value i;
      t0 = (to_z-of_z w64 c.t0.result t0 ∙ c.t0.ensures.value) i;
      t1 = (to_z-of_z w64 c.t1.result t1 ∙ c.t1.ensures.value) i;
      lo = to_z-of_z w64 c.args.planned.told.range.lo lo i;
      hi = to_z-of_z w64 c.args.planned.told.range.hi hi i;
      start = to_z-of_z w64 c.args.planned.told.axis.start start i;
      step = c.args.planned.told.axis.step;
      slots = c.args.planned.told.axis.slots;
      has = c.stored_of-stored.ensures.has i;
      rmin = (to_z-of_z w64 c.stored_of-stored.result.least least ∙ c.stored_of-stored.ensures.least) i;
      rmax = (to_z-of_z w64 c.stored_of-stored.result.greatest greatest ∙ c.stored_of-stored.ensures.greatest) i;
      count = ap length (c.as_slice.ensures ∙ c.into_send-coefs.ensures.send) i;
      coefs = c.into_send-coefs.ensures.send i;
    }
