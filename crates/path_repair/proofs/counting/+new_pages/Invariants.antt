use Rattle.std.proofs.Common.{◌≡◌, ◌-◌}
use Rattle.path_repair.proofs.SeenLemmas.{IsCounting}
use Rattle.page_space.specs.Shown as shown
use Rattle.path_repair.proofs.counting.+new_pages.Given as goal

abbrev pub decreases-new_pages : goal.decreases-new_pages
decreases-new_pages g l = l.at.level

abbrev pub invariant-loop-child : goal.invariant-loop-child
invariant-loop-child g l = IsCounting (shown.IsTold l.fn.space) (shown.IsTold l.space) (shown.view l.fn.space) (shown.view l.space)
    (shown.under l.fn.space) (shown.under l.space) (shown.numbers l.fn.space) (shown.numbers l.space) l.fn.txn
    l.fn.slots.first l.fn.slots.end l.fn.values l.fn.at.height l.fn.at.level
    (l.fn.at.level - 1) l.fn.at.index l.fn.page l.bytes l.initial.pages l.pages l.child
    × ((shown.view l.space).faults ≡ (shown.view l.fn.space).faults)
