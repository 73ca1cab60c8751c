use Rattle.page_space.proofs.Writing.{written_freed}
use Rattle.page_space.proofs.freed_page.write_freed.Goals as goal

pub returns : goal.returns
returns c = written_freed _ _ _ c.start.ensures c.put_word.ensures
