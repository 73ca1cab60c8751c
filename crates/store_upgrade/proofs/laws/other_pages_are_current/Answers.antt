use Rattle.store_upgrade.proofs.Magics.{current_same, new_not_old, either_magic}
use Rattle.store_upgrade.proofs.laws.other_pages_are_current.Goals as goal

pub returns-clause-same : goal.returns-clause-same
returns-clause-same c = current_same

pub returns-clause-apart : goal.returns-clause-apart
returns-clause-apart c = new_not_old

pub returns-clause-either : goal.returns-clause-either
returns-clause-either c = either_magic
