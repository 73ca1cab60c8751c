use Rattle.retain_command.proofs.SpellLemmas.{one_rule}
use Rattle.retain_command.proofs.laws.lines_spell_one_rule.Goals as goal

pub returns : goal.returns
returns c = one_rule
