-- The list of the sums of two series, as one that could be stored.
use Rattle.std.specs.Prelude.{ℕ, ℤ, pos, negsuc, ◌+◌, ◌+ℤ◌, ◌*ℤ◌, List, [], ◌∷◌, Option, None, Some, slice_get, unwrap_or}
use Rattle.std.specs.Option.{option_map}
use Rattle.derived_chart.specs.declared.sum.Sum.{Sum}

-- what stands in the list at this place, which may lie outside it
abbrev pub value_at : List (Option ℤ) → ℤ → Option ℤ
value_at list (pos i) = unwrap_or (slice_get list i) None
value_at list (negsuc i) = None

-- the sum at slot i of the first series, which holds this
abbrev pub sum_at : Sum → List (Option ℤ) → ℕ → Option ℤ → Option ℤ
sum_at sum ys i None = None
sum_at sum ys i (Some x) = option_map (λ y. sum.a *ℤ x +ℤ sum.b *ℤ y) (value_at ys (pos i +ℤ sum.shift))

-- the sums at the slots of a list of which the first is slot i of the first series
unfoldable pub sums_from : Sum → List (Option ℤ) → ℕ → List (Option ℤ) → List (Option ℤ)
sums_from sum ys i [] = []
sums_from sum ys i (x ∷ xs) = sum_at sum ys i x ∷ sums_from sum ys (i + 1) xs

-- a slot for each of the first series, with the sum that stands there, if one does
abbrev pub sums_of : Sum → List (Option ℤ) → List (Option ℤ) → List (Option ℤ)
sums_of sum xs ys = sums_from sum ys 0 xs
