use Rattle.std.proofs.Common.{rules, ◌-◌, ◌∙◌, sym, ap, subst, arith, ltb, ℕ, ℤ, List, map, FitsSigned, w64}
use Rattle.std.specs.Int.{w128}
use Rattle.std.proofs.lemmas.Int.{to_z-of_z}
use Rattle.whole_number.specs.Range.{IsTime}
use Rattle.tree_walk.proofs.StepLemmas.{error_so}
use Rattle.series_store.specs.Opening.{IsOutside}
use Rattle.series_store.specs.declared.slot_run.SlotRun.{SlotRun}
use Rattle.series_store.proofs.AskLemmas.{start_same}
use Rattle.retention.specs.Sweeps.{slots_before}
use Rattle.host_reports.specs.Reports.{AreInOrder, run_in, time_left}
use Rattle.host_reports.proofs.FrameLemmas.{some_in_order, values_fit, values_same, none_left}
use Rattle.host_reports.proofs.values.values_frame.Goals as goal

pub returns-in_err-values-clause-stands : goal.returns-in_err-values-clause-stands
returns-in_err-values-clause-stands g c = λ total book series told stands there.
    error_so _ IsOutside c.from_residual.result c.from_residual.ensures.1
    (λ e same. subst IsOutside (sym same) (c.in_err-values.ensures.stands total book series told stands there))

pub frame_runs-requires : goal.frame_runs-requires
frame_runs-requires g c =
    subst AreInOrder (sym c.deref.ensures.value) (some_in_order c.slots_before-from.result
    (c.piece_end-end.result - c.slots_before-from.result) c.in_ok-values.values c.in_ok-values.ensures.some)

pub returns-clause-frame : goal.returns-clause-frame
returns-clause-frame g c = λ total book series told stands there.
    let info = c.info-info.ensures.info total book series c.requires.sound told stands there in
    let from = c.slots_before-from.result in
    let to = c.slots_before-to.result in
    let end = c.piece_end-end.result in
    let start = start_same c.info-info.result.start c.info-info.ensures.start in
    let fits : FitsSigned w64 c.time_left.result = search rules in
    values_same c.args.id series c.args.t0 c.args.t1 from to end _ c.from_vec.result c.from_vec-2.result c.in_ok-values.values
    (c.slots_before-from.ensures.before series (record { start = start ∙ info.start; step = info.step; slots = info.slots })
    ∙ ap (λ (t : ℤ). slots_before series t) (to_z-of_z w128 c.args.t0 c.ranges.t0))
    (c.slots_before-to.ensures.before series (record { start = start ∙ info.start; step = info.step; slots = info.slots })
    ∙ ap (λ (t : ℤ). slots_before series t) (to_z-of_z w128 c.args.t1 c.ranges.t1))
    c.piece_end-end.ensures.end
    (to_z-of_z w64 c.time_left.result fits ∙ c.time_left.ensures.time
    ∙ ap (λ (s : ℤ). time_left s c.info-info.result.step end to) (start ∙ info.start)
    ∙ ap (λ (n : ℕ). time_left series.start n end to) info.step)
    (c.from_vec.ensures ∙ c.in-Ok.ensures ∙ ap (λ (l : List SlotRun). map run_in l) c.deref.ensures.value)
    c.from_vec-2.ensures
    (c.in_ok-values.ensures.values total book series told stands there)

pub returns-clause-fits : goal.returns-clause-fits
returns-clause-fits g c =
    let from = c.slots_before-from.result in
    let to = c.slots_before-to.result in
    let end = c.piece_end-end.result in
    let fits : FitsSigned w64 c.time_left.result = search rules in
    let same = to_z-of_z w64 c.time_left.result fits in
    values_fit c.args.id from end (ltb end to) _ c.from_vec.result c.from_vec-2.result c.in_ok-values.values
    (omega (arith, c.info-info.ensures.few, c.info-info.ensures.id)) (subst IsTime (sym same) c.time_left.ensures.far) (λ none. same
    ∙ c.time_left.ensures.time ∙ none_left _ _ end to none) c.piece_end-end.ensures.piece
    (omega (arith, c.slots_before-from.ensures.few, c.info-info.ensures.slots))
    (omega (arith, c.piece_end-end.ensures.within, c.slots_before-to.ensures.few, c.info-info.ensures.slots))
    c.in_ok-values.ensures.some (c.from_vec.ensures ∙ c.in-Ok.ensures
    ∙ ap (λ (l : List SlotRun). map run_in l) c.deref.ensures.value) c.from_vec-2.ensures
