use Rattle.stored_book.proofs.ChangedLemmas.{changed_store}
use Rattle.stored_book.proofs.laws.changed_series_stand.Goals as goal

pub returns : goal.returns
returns c = changed_store
