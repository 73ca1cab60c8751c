use Rattle.value_filter.proofs.Spaced.{spaced-is_filter}
use Rattle.value_filter.proofs.Apart.{filter-spaced}
use Rattle.value_filter.proofs.laws.spaces_change_nothing.Goals as goal

pub returns-clause-spaced : goal.returns-clause-spaced
returns-clause-spaced c = spaced-is_filter

pub returns-clause-only : goal.returns-clause-only
returns-clause-only c = filter-spaced
