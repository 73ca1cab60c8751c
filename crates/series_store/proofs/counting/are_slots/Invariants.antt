use Rattle.std.proofs.Common.{◌<◌, ◌+◌, ◌*◌, ℕ}
use Rattle.page_spans.specs.Heaps.{span_at}
use Rattle.series_store.specs.Counting.{IsSlot}
use Rattle.series_store.proofs.counting.are_slots.Given as goal

abbrev pub invariant-loop-child : goal.invariant-loop-child
invariant-loop-child l = (n : ℕ) → n < l.child → IsSlot l.slots (128 * l.index + n) (span_at l.spans (127 + n))
