use Rattle.page_space.proofs.Writing.{written}
use Rattle.page_space.proofs.superblock.Superblock.write.Goals as goal

pub returns : goal.returns
returns c =
    written _ _ _ _ _ _ _ c.start.ensures c.put_word.ensures c.put_word-2.ensures c.put_word-3.ensures c.put_word-4.ensures
    c.put_word-5.ensures
