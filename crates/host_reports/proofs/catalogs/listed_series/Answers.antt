use Rattle.std.proofs.Common.{rules, ◌≡◌, ◌≤◌, ◌^◌, ◌∙◌, ap, arith, length, FitsSigned, w64}
use Rattle.std.proofs.lemmas.Int.{to_z-of_z}
use Rattle.om3_coeff.proofs.ListLemmas.{top_span}
use Rattle.host_reports.specs.Reports.{has_of, least_of, greatest_of, values_span}
use Rattle.host_reports.proofs.catalogs.listed_series.Goals as goal

pub returns-clause-listed : goal.returns-clause-listed
returns-clause-listed c = λ series id name is.
    let start : FitsSigned w64 c.args.info.now.start = search rules in
    let least : FitsSigned w64 c.stored_of-stored.result.least = search rules in
    let greatest : FitsSigned w64 c.stored_of-stored.result.greatest = search rules in
    let few : length series.slots ≤ 2 ^ 35 = omega (arith, is.slots, c.requires.slots) in
    let span : c.args.info.now.span ≡ values_span series = is.span_is ∙ top_span series.slots few in
    λ i. record {
      name = (c.in_ok-copy.ensures.equal ∙ name) i;
      scale = is.scale i;
      start = (to_z-of_z w64 c.args.info.now.start start ∙ is.start) i;
      step = is.step i;
      slots = is.slots i;
      has = (c.stored_of-stored.ensures.has ∙ ap has_of span) i;
      rmin = (to_z-of_z w64 c.stored_of-stored.result.least least ∙ c.stored_of-stored.ensures.least ∙ ap least_of span) i;
      rmax = (to_z-of_z w64 c.stored_of-stored.result.greatest greatest ∙ c.stored_of-stored.ensures.greatest ∙ ap greatest_of span) i;
    }
