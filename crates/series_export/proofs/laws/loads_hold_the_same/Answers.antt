use Rattle.series_export.proofs.SetLemmas.{holds_named, same_text}
use Rattle.series_export.proofs.laws.loads_hold_the_same.Goals as goal

pub returns-clause-sets : goal.returns-clause-sets
returns-clause-sets c = holds_named

pub returns-clause-text : goal.returns-clause-text
returns-clause-text c = same_text
