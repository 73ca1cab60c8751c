use Rattle.std.proofs.Common.{refl, arith}
use Rattle.demo_workload.specs.Draws.{walked, values}
use Rattle.demo_workload.proofs.draws.Walk.values.Goals as goal

pub loop-drawn-init : goal.loop-drawn-init
unfolding walked values
loop-drawn-init c = record { values = c.in_ok-values.ensures.items; walk = refl; near = omega arith }
