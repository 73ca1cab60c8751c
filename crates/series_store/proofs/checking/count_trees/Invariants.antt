use Rattle.std.proofs.Common.{◌≡◌}
use Rattle.series_store.proofs.BookCountLemmas.{AreCounted}
use Rattle.series_store.proofs.checking.count_trees.Given as goal

abbrev pub invariant-loop-id : goal.invariant-loop-id
invariant-loop-id g l = AreCounted (g.P.Pages.told l.fn.space.pages) (g.P.Pages.told l.space.pages) (g.P.Pages.view l.fn.space.pages)
    (g.P.Pages.view l.space.pages) (g.P.Pages.under l.fn.space.pages)
    (g.P.Pages.under l.space.pages) l.fn.space.superblock l.space.superblock
    l.catalog.series.items l.values l.id
    × ((g.P.Pages.view l.space.pages).faults ≡ (g.P.Pages.view l.fn.space.pages).faults)
