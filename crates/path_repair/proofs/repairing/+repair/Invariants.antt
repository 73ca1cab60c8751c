use Rattle.std.proofs.Common.{◌≡◌, ◌-◌}
use Rattle.page_spans.specs.Heaps.{span_at}
use Rattle.path_repair.proofs.RepairLemmas.{IsOnWay}
use Rattle.path_repair.proofs.SpareLemmas.{IsSparing}
use Rattle.path_repair.proofs.StillLemmas.{IsStill}
use Rattle.path_repair.proofs.StoredLemmas.{IsLeaving}
use Rattle.page_space.specs.Shown as shown
use Rattle.path_repair.proofs.repairing.+repair.Given as goal

abbrev pub decreases-repair : goal.decreases-repair
decreases-repair g l = l.at.level

abbrev pub invariant-loop-child : goal.invariant-loop-child
invariant-loop-child g l = IsOnWay (shown.IsTold l.fn.space) (shown.IsTold l.space) (shown.view l.fn.space) (shown.view l.space)
    (shown.under l.fn.space) (shown.under l.space) (shown.numbers l.fn.space) (shown.numbers l.space) l.fn.txn l.txn
    l.fn.slots.first l.fn.slots.end l.fn.values l.fn.at.height l.fn.at.level
    (l.fn.at.level - 1) l.fn.at.index l.fn.root.page l.fn.root.span l.number l.bytes (span_at l.spans) l.child
    × (IsSparing (shown.IsTold l.fn.space) (shown.view l.fn.space) l.fn.txn l.initial.txn l.txn (l.fn.at.level - 1) l.initial.bytes l.bytes
    (span_at l.initial.spans) (span_at l.spans) l.child
    × (IsLeaving (shown.IsTold l.fn.space) (shown.view l.fn.space) l.fn.txn l.txn l.fn.at.height l.fn.at.level
    (l.fn.at.level - 1) l.fn.at.index l.fn.root.page l.number l.initial.bytes l.child
    × (IsStill (shown.IsTold l.fn.space) (shown.view l.fn.space) l.fn.txn l.txn l.fn.slots.first l.fn.slots.end l.fn.values l.fn.at.height
    l.fn.at.level (l.fn.at.level - 1) l.fn.at.index l.fn.root.page l.fn.root.span l.is_changed l.child
    × ((shown.view l.space).faults ≡ (shown.view l.fn.space).faults))))
