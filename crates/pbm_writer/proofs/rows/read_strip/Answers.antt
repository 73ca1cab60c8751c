use Rattle.std.proofs.Common.{arith}
use Rattle.pbm_writer.proofs.StripLemmas.{column_more}
use Rattle.pbm_writer.proofs.rows.read_strip.Goals as goal

pub loop-y-preserved : goal.loop-y-preserved
loop-y-preserved c =
    column_more c.args.bitmap.now c.args.k c.loop-y.y _ _ _ _
    (omega (arith, c.loop-y-test.true, c.height-y-end.ensures.value, c.requires.room)) c.from.ensures c.byte_at.ensures
    c.loop-y.invariant
