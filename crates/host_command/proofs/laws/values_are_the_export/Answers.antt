use Rattle.host_command.proofs.ValuesLemmas.{values_export}
use Rattle.host_command.proofs.laws.values_are_the_export.Goals as goal

pub returns : goal.returns
returns c = values_export c.pieces_are_the_export.ensures.window c.slots_before_a_time.ensures.earlier c.slots_before_a_time.ensures.slot
