use Rattle.series_store.proofs.FitLemmas.{damaged_tree}
use Rattle.series_store.proofs.laws.damaged_trees_stand_where_pages_fit.Goals as goal

pub returns : goal.returns
returns c = damaged_tree
