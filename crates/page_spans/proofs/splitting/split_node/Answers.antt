use Rattle.std.proofs.Common.{◌+◌, ◌*◌, slice_set, length-set, arith}
use Rattle.page_spans.specs.Heaps.{span_at, AreProper}
use Rattle.page_spans.proofs.Steps.{proper_set}
use Rattle.page_spans.proofs.splitting.split_node.Goals as goal

pub returns-clause-proper : goal.returns-clause-proper
returns-clause-proper c =
    let spans = c.args.spans.now in
    let i = 2 * c.from-at.result + 1 in
    let both = c.in_ok-left.ensures.proper in
    let one : AreProper (span_at (slice_set spans i c.in_ok-left.left)) = proper_set spans i c.in_ok-left.left
    (omega arith) c.requires.proper both.0 in
    proper_set (slice_set spans i c.in_ok-left.left) (2 * c.from-at.result + 2) c.in_ok-left.right
    (omega (arith, length-set spans i c.in_ok-left.left)) one both.1
