use Rattle.served_fronts.proofs.Agreeing.{agree}
use Rattle.served_fronts.proofs.laws.first_bytes_agree.Goals as goal

pub returns : goal.returns
returns c = agree c.replies_are_one.ensures.line
