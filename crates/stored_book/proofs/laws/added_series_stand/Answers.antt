use Rattle.stored_book.proofs.AddedLemmas.{added_store}
use Rattle.stored_book.proofs.laws.added_series_stand.Goals as goal

pub returns : goal.returns
returns c = added_store
