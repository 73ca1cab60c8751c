use Rattle.std.proofs.Common.{arith}
use Rattle.page_space.proofs.Words.{placed}
use Rattle.page_space.specs.Layout.{word}
use Rattle.page_space.proofs.fields.put_word.Goals as goal

pub returns : goal.returns
unfolding word
returns c = placed _ _ _ _ (omega arith) c.write_u32.ensures
