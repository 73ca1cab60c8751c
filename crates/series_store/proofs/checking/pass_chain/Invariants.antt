use Rattle.std.proofs.Common.{◌≡◌, ◌-◌}
use Rattle.series_store.proofs.ChainLemmas.{IsPassing}
use Rattle.series_store.proofs.checking.pass_chain.Given as goal

abbrev pub invariant-loop : goal.invariant-loop
invariant-loop g l = IsPassing (g.P.Pages.told l.fn.space.pages) (g.P.Pages.told l.space.pages) (g.P.Pages.view l.fn.space.pages)
    (g.P.Pages.view l.space.pages) (g.P.Pages.under l.fn.space.pages)
    (g.P.Pages.under l.space.pages) l.fn.space.superblock l.space.superblock
    l.txn (l.freed - l.counter)
    × ((g.P.Pages.view l.space.pages).faults ≡ (g.P.Pages.view l.fn.space.pages).faults)
