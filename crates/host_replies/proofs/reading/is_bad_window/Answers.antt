use Rattle.std.proofs.Common.{◌∙◌, ℤ, sym, subst, to_z, of_z}
use Rattle.std.specs.Int.{w128}
use Rattle.std.proofs.lemmas.Int.{to_z-of_z}
use Rattle.chart_grid.specs.Limits.{IsBadWindow, IsWindow}
use Rattle.host_replies.proofs.ReadLemmas.{window_bad, window_good}
use Rattle.host_replies.proofs.reading.is_bad_window.Goals as goal

pub returns-clause-bad : goal.returns-clause-bad
returns-clause-bad c = λ is.
    let t0 = to_z w128 (of_z w128 c.args.t0) in
    let t1 = to_z w128 (of_z w128 c.args.t1) in
    let A : ℤ → Type 0 = λ t. IsBadWindow t t1 in
    let B : ℤ → Type 0 = λ t. IsBadWindow c.args.t0 t in
    subst B (to_z-of_z w128 c.args.t1 c.ranges.t1) (subst A (to_z-of_z w128 c.args.t0 c.ranges.t0)
    (window_bad c.new.result t0 t1 c.new.ensures.window c.new.ensures.canvas (sym c.is_err.ensures.value ∙ is)))

pub returns-clause-good : goal.returns-clause-good
returns-clause-good c = λ none.
    let t0 = to_z w128 (of_z w128 c.args.t0) in
    let t1 = to_z w128 (of_z w128 c.args.t1) in
    let A : ℤ → Type 0 = λ t. IsWindow t t1 in
    let B : ℤ → Type 0 = λ t. IsWindow c.args.t0 t in
    subst B (to_z-of_z w128 c.args.t1 c.ranges.t1) (subst A (to_z-of_z w128 c.args.t0 c.ranges.t0)
    (window_good c.new.result t0 t1 c.new.ensures.shown (sym c.is_err.ensures.value ∙ none)))
