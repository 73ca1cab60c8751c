use Rattle.stored_book.proofs.FrameLemmas.{same_image}
use Rattle.stored_book.proofs.laws.same_pages_stand.Goals as goal

pub returns : goal.returns
returns c = same_image
