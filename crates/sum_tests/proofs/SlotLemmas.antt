-- Slots behind slots.
use Rattle.std.proofs.Common.{◌≡◌, ℤ, Some}

same_value : (u v : ℤ) → Some (Some u) ≡ Some (Some v) → u ≡ v
same_value u v h = cc
