use Rattle.std.proofs.Common.{pos, arith, ◌<ℤ◌, ◌≤ℤ◌}
use Rattle.std.proofs.lemmas.Int.{ints}
use Rattle.line_raster.proofs.Drawn.{alike}
use Rattle.line_raster.proofs.SegmentLemmas.{run_down, run_up}
use Rattle.line_raster.proofs.steep.fill_run.Goals as goal

pub returns-then-to-from : goal.returns-then-to-from
returns-then-to-from c =
    let down : c.args.to <ℤ c.args.from = grind (arith, ints, c.if-to-from.true) in
    alike _ _ _ _ c.fill_rows.ensures (λ x y column row. run_down c.args.from c.args.to c.args.first c.args.end c.args.x _ _ down
    (omega (arith, ints)) (omega (arith, ints)) x (pos y))

pub returns-else-to-from : goal.returns-else-to-from
returns-else-to-from c =
    let up : c.args.from ≤ℤ c.args.to = grind (arith, ints, c.if-to-from.false) in
    alike _ _ _ _ c.fill_rows-else-to-from.ensures (λ x y column row. run_up c.args.from c.args.to c.args.first c.args.end c.args.x _ _ up
    (omega (arith, ints)) (omega (arith, ints)) x (pos y))
