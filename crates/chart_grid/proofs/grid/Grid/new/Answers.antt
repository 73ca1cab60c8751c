use Rattle.std.proofs.Common.{SFits, refl, inl, inr, arith}
use Rattle.std.specs.Int.{w128}
use Rattle.std.proofs.lemmas.Int.{ints, to_z-of_z}
use Rattle.chart_grid.specs.Limits.{IsBadWindow}
use Rattle.chart_grid.proofs.Windows.{no_bad_window}
use Rattle.chart_grid.proofs.grid.Grid.new.Goals.{then-t0-t1-via-then-t0-t1, then-t0-t1-via-else-t0-t1+then-is_far}
use Rattle.chart_grid.proofs.grid.Grid.new.Goals.{then-t0-t1-via-else-t0-t1+else-is_far+then-is_far-2}
use Rattle.chart_grid.proofs.grid.Grid.new.Goals as goal

is_bad : (c : goal.Joined-then-t0-t1) → IsBadWindow c.args.t0 c.args.t1
is_bad c =
    let from_fits : SFits w128 c.args.t0 = c.ranges.t0 in
    let to_fits : SFits w128 c.args.t1 = c.ranges.t1 in
    elim c.then-t0-t1.branch [
      | then-t0-t1-via-then-t0-t1 w ↦ (let order = simp to_z-of_z at w.if-t0-t1.true in inl (omega (arith, ints, order)))
      | then-t0-t1-via-else-t0-t1+then-is_far w ↦ (let far = simp to_z-of_z at w.is_far.ensures in inr (inl (far.0 w.if-is_far.true)))
      | then-t0-t1-via-else-t0-t1+else-is_far+then-is_far-2 w ↦ (let far = simp to_z-of_z at w.is_far-else-is_far.ensures in
          inr (inr (far.0 w.if-is_far-2.true)))
    ]

pub returns-then-t0-t1-clause-accepted : goal.returns-then-t0-t1-clause-accepted
returns-then-t0-t1-clause-accepted c = λ window wide high. absurd (no_bad_window c.args.t0 c.args.t1 window (is_bad c))

pub returns-then-t0-t1-clause-window : goal.returns-then-t0-t1-clause-window
returns-then-t0-t1-clause-window c = (λ same. is_bad c, λ bad. refl)

pub returns-then-t0-t1-clause-canvas : goal.returns-then-t0-t1-clause-canvas
returns-then-t0-t1-clause-canvas c = (λ same. absurd (cc), λ good. absurd (no_bad_window c.args.t0 c.args.t1 good.0 (is_bad c)))
