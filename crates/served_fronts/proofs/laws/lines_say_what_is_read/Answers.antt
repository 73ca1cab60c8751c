use Rattle.served_fronts.proofs.Reading.{are_said}
use Rattle.served_fronts.proofs.laws.lines_say_what_is_read.Goals as goal

pub returns : goal.returns
returns c = are_said (record { spelt = c.lines_spell_requests.ensures.spelt; one = c.lines_spell_requests.ensures.one })
