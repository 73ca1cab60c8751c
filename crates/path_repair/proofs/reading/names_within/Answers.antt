use Rattle.std.proofs.Common.{◌<◌, arith}
use Rattle.node_page.specs.Fields.{child_at}
use Rattle.path_repair.proofs.SumLemmas.{below_next}
use Rattle.path_repair.proofs.reading.names_within.Goals as goal

pub loop-child-preserved : goal.loop-child-preserved
loop-child-preserved c =
    below_next (λ n. child_at c.args.page.now.bytes.now n < c.args.total) c.loop-child.child c.loop-child.invariant
    (omega (arith, c.child_at.ensures.child, c.if-child_at-total.false))
