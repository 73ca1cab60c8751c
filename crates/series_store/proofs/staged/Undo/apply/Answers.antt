use Rattle.std.proofs.Common.{subst}
use Rattle.series_catalog.specs.Shown.{series_in}
use Rattle.series_store.specs.Staging.{TakesBack}
use Rattle.series_store.specs.declared.staged.Undo.{Undo}
use Rattle.series_store.proofs.RecordLemmas.{set_back}
use Rattle.series_store.proofs.staged.Undo.apply.Goals as goal

pub returns-in-Tree : goal.returns-in-Tree
returns-in-Tree c = λ before takes.
    let T : Undo → Type 0 = λ u. TakesBack u (series_in c.args.catalog.now) before in
    set_back before (series_in c.args.catalog.now) (series_in c.set_tree.new.self) c.in-Tree.id c.in-Tree.tree
    (subst T c.in-Tree.is takes) c.set_tree.ensures.set
