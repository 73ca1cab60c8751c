use Rattle.std.proofs.Common.{arith}
use Rattle.gate_pages.proofs.Moving.{moves_on}
use Rattle.gate_pages.proofs.journal.write_images.Goals as goal

pub returns-in_err-write_block-clause-moves : goal.returns-in_err-write_block-clause-moves
returns-in_err-write_block-clause-moves g c = moves_on (λ number is. is)
    (λ number at. (omega (arith, at), omega (arith, at, c.loop-i-test.true, c.len-i-end.ensures))) (omega arith) (omega arith)
    (omega (arith, c.loop-i-test.true, c.len-i-end.ensures.len)) c.loop-i.invariant.moves c.write_block.ensures.moves
