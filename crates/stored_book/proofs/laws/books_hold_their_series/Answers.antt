use Rattle.stored_book.proofs.OneSeriesLemmas.{holds_each, one_series}
use Rattle.stored_book.proofs.laws.books_hold_their_series.Goals as goal

pub returns-clause-each : goal.returns-clause-each
returns-clause-each c = holds_each

pub returns-clause-one : goal.returns-clause-one
returns-clause-one c = one_series
