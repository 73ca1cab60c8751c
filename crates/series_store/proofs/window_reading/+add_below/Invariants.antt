use Rattle.std.proofs.Common.{◌≡◌, ◌-◌}
use Rattle.series_store.proofs.ReadingLemmas.{IsReading}
use Rattle.series_store.proofs.window_reading.+add_below.Given as goal

abbrev pub decreases-add_below : goal.decreases-add_below
decreases-add_below g l = l.level

abbrev pub invariant-loop-child : goal.invariant-loop-child
invariant-loop-child g l = IsReading (g.P.Pages.told l.fn.space.pages) (g.P.Pages.told l.space.pages) (g.P.Pages.view l.fn.space.pages)
    (g.P.Pages.view l.space.pages) (g.P.Pages.under l.fn.space.pages)
    (g.P.Pages.under l.space.pages) l.fn.space.superblock l.space.superblock
    l.fn.from l.fn.to l.fn.level (l.fn.level - 1) l.fn.index l.fn.page l.fn.top l.fn.values l.values l.child
    × ((g.P.Pages.view l.space.pages).faults ≡ (g.P.Pages.view l.fn.space.pages).faults)
