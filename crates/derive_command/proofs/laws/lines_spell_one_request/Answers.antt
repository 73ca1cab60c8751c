use Rattle.derive_command.proofs.SpellLemmas.{one_request}
use Rattle.derive_command.proofs.laws.lines_spell_one_request.Goals as goal

pub returns : goal.returns
returns c = one_request
