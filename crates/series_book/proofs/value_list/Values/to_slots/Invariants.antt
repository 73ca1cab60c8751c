use Rattle.std.proofs.Common.{◌≡◌, take}
use Rattle.series_book.proofs.value_list.Values.to_slots.Given as goal

abbrev pub invariant-loop-value : goal.invariant-loop-value
invariant-loop-value l = l.slots.items ≡ take l.value-index l.value-items
