use Rattle.live_service.proofs.OneEdit.{one_edit}
use Rattle.live_service.proofs.laws.groups_of_one_are_lines.Goals as goal

pub returns : goal.returns
returns c = one_edit
