use Rattle.chart_program.proofs.DrawnBook.{Accepted, Draws, draws_book, replies_good}
use Rattle.chart_program.proofs.Parsing.{Known}
use Rattle.chart_program.proofs.laws.frames_draw_the_book.Goals as goal

known : goal.After-own_hosts_are_accepted → Known
known c = record { one = c.one_frame_a_spelling.ensures; told = c.length_is_told.ensures; good = c.spellings_are_good.ensures }

draws : goal.After-own_hosts_are_accepted → Draws
draws c = record {
  all = c.replies_draw_the_book.ensures;
  own = c.one_session_draws_the_book.ensures;
  live = c.runs_draw_the_book.ensures;
  own_live = c.own_runs_draw_the_book.ensures;
  host = c.hosts_draw_the_book.ensures;
  own_host = c.own_hosts_draw_the_book.ensures;
}

accepted : goal.After-own_hosts_are_accepted → Accepted
accepted c = record {
  all = c.replies_are_accepted.ensures;
  own = c.own_replies_are_accepted.ensures;
  live = c.runs_are_accepted.ensures;
  own_live = c.own_runs_are_accepted.ensures;
  host = c.hosts_are_accepted.ensures;
  own_host = c.own_hosts_are_accepted.ensures;
}

pub returns-clause-book : goal.returns-clause-book
returns-clause-book c = draws_book (known c) (draws c)

pub returns-clause-good : goal.returns-clause-good
returns-clause-good c = replies_good (accepted c)
