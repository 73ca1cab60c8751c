use Rattle.std.proofs.Common.{◌≡◌, ◌-◌}
use Rattle.page_spans.specs.Heaps.{span_at}
use Rattle.series_store.proofs.TreeCountLemmas.{IsCounting}
use Rattle.series_store.proofs.counting.+count_values.Given as goal

abbrev pub decreases-count_values : goal.decreases-count_values
decreases-count_values g l = l.level

abbrev pub invariant-loop-child : goal.invariant-loop-child
invariant-loop-child g l = IsCounting (g.P.Pages.told l.fn.space.pages) (g.P.Pages.told l.space.pages) (g.P.Pages.view l.fn.space.pages)
    (g.P.Pages.view l.space.pages) (g.P.Pages.under l.fn.space.pages)
    (g.P.Pages.under l.space.pages) l.fn.space.superblock l.space.superblock
    l.fn.slots l.fn.level (l.fn.level - 1) l.fn.index l.fn.page l.fn.top l.bytes (span_at l.spans) l.values l.child
    × ((g.P.Pages.view l.space.pages).faults ≡ (g.P.Pages.view l.fn.space.pages).faults)
