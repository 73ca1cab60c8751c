use Rattle.std.proofs.Common.{◌≡◌, ◌-◌, ◌/◌, ℕ, ap, ap₂, arith, ◌∙◌}
use Rattle.std.proofs.lemmas.Int.{ints, to_z-of_z}
use Rattle.std.specs.Int.{w128}
use Rattle.series_book.specs.Edits.{distance}
use Rattle.retention.proofs.TimeLemmas.{before_all, before_none, before_some}
use Rattle.retention.proofs.clears.slots_before.Goals as goal

pub returns-then-time-from-clause-before : goal.returns-then-time-from-clause-before
returns-then-time-from-clause-before c = λ series is. before_none series c.args.time
    (omega (arith, ints, is.start, c.if-time-from.true, c.from.ensures))

pub returns-then-last-from-clause-before : goal.returns-then-last-from-clause-before
returns-then-last-from-clause-before c = λ series is.
    let n : ℕ = c.distance-before.result in
    let place : (n - 1) / c.from-2.result ≡ (distance series c.args.time - 1) / series.step =
    ap₂ (λ (a b : ℕ). (a - 1) / b) (c.distance-before.ensures.far series is
    ∙ ap (distance series) (to_z-of_z w128 c.args.time c.ranges.time)) (c.from-2.ensures ∙ is.step) in
    is.slots ∙ before_all series c.args.time ((n - 1) / c.from-2.result) (omega (arith, is.step, c.requires.step))
    (omega (arith, ints, is.start, c.if-time-from.false, c.from.ensures)) place
    (omega (arith, is.slots, c.if-last-from.true, c.from-3.ensures))

pub returns-clause-before : goal.returns-clause-before
returns-clause-before c = λ series is.
    let n : ℕ = c.distance-before.result in
    let place : (n - 1) / c.from-2.result ≡ (distance series c.args.time - 1) / series.step =
    ap₂ (λ (a b : ℕ). (a - 1) / b) (c.distance-before.ensures.far series is
    ∙ ap (distance series) (to_z-of_z w128 c.args.time c.ranges.time)) (c.from-2.ensures ∙ is.step) in
    before_some series c.args.time ((n - 1) / c.from-2.result) (omega (arith, is.step, c.requires.step))
    (omega (arith, ints, is.start, c.if-time-from.false, c.from.ensures)) place
    (omega (arith, is.slots, c.if-last-from.false, c.from-3.ensures))
