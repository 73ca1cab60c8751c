use Rattle.chart_program.proofs.LivesLemmas.{lives_left}
use Rattle.chart_program.proofs.laws.books_outlive_their_runs.Goals as goal

pub returns : goal.returns
returns c = lives_left c.pages_stand_for_one_book.ensures.book
