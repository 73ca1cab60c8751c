use Rattle.std.proofs.Common.{◌≡◌, ◌-◌, ◌<◌, ◌≤◌, ℕ, ℤ, Some, slice_get}
use Rattle.path_repair.proofs.change.Place.has_new.Given as goal

abbrev pub invariant-loop-slot : goal.invariant-loop-slot
invariant-loop-slot l = (s : ℕ) (v : ℤ) → l.from ≤ s → s < l.slot → slice_get l.values (s - l.fn.slots.first) ≡ Some (Some v) → ⊥
