use Rattle.served_fronts.proofs.Keeping.{crashes_keep}
use Rattle.served_fronts.proofs.laws.crashes_keep_the_lines.Goals as goal

pub returns : goal.returns
returns c = crashes_keep c.replies_are_one.ensures.line c.lines_have_their_answers.ensures
