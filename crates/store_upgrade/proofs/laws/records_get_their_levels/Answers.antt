use Rattle.store_upgrade.proofs.Records.{page_kind, page_levels_set, page_rest}
use Rattle.store_upgrade.proofs.laws.records_get_their_levels.Goals as goal

pub returns-clause-kind : goal.returns-clause-kind
returns-clause-kind c = page_kind

pub returns-clause-levels : goal.returns-clause-levels
returns-clause-levels c = page_levels_set

pub returns-clause-rest : goal.returns-clause-rest
returns-clause-rest c = page_rest
