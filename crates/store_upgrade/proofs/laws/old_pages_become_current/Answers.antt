use Rattle.store_upgrade.proofs.Magics.{current_first, current_behind, current_once}
use Rattle.store_upgrade.proofs.laws.old_pages_become_current.Goals as goal

pub returns-clause-first : goal.returns-clause-first
returns-clause-first c = current_first

pub returns-clause-behind : goal.returns-clause-behind
returns-clause-behind c = current_behind

pub returns-clause-once : goal.returns-clause-once
returns-clause-once c = current_once
