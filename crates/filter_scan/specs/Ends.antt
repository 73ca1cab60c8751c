-- The ends of a range: its first and its last stored value.
use Rattle.std.specs.Prelude.{ℕ, ℤ, ◌≡◌, ◌≤ℤ◌, ◌⊎◌, List, Option, None, Some}
use Rattle.om3_coeff.specs.declared.key.Key.{Key}
use Rattle.om3_coeff.specs.declared.span.Span.{Span}
use Rattle.om3_coeff.specs.Keys.{left_of, right_of}
use Rattle.om3_coeff.specs.Spans.{AreExtremes}
use Rattle.om3_coeff.specs.Walks.{IsFirstStored, IsLastStored}
use Rattle.m4_groups.specs.declared.row.Row.{Row}
use Rattle.filter_scan.specs.declared.ends.Side.{Side}
use Rattle.filter_scan.specs.declared.ends.Side.TheVariants.{First, Last}

-- v is the value of the first, or of the last, stored slot from a on and below b
abbrev pub IsEndValue : Side → List (Option ℤ) → ℕ → ℕ → ℤ → Type 0
IsEndValue First list a b v = (i : ℕ) × IsFirstStored list a b (Some (i, v))
IsEndValue Last list a b v = (i : ℕ) × IsLastStored list a b (Some (i, v))

-- v lies in the span
pub record IsAmong (s : Span) (v : ℤ) : Type 0 where
  pub low : s.min ≤ℤ v
  pub high : v ≤ℤ s.max

-- the half of a range that has its end, and that half's span: the one on this side, or the other one
-- where that has none
abbrev pub IsEndHalf : Side → Key → Option Span → Option Span → Key × Span → Type 0
IsEndHalf First k l r h =
    ((h.0 ≡ left_of k) × (l ≡ Some h.1)) ⊎ ((h.0 ≡ right_of k) × (r ≡ Some h.1) × (l ≡ None))
IsEndHalf Last k l r h =
    ((h.0 ≡ right_of k) × (r ≡ Some h.1)) ⊎ ((h.0 ≡ left_of k) × (l ≡ Some h.1) × (r ≡ None))

-- the row has the first, the least, the greatest and the last stored value of the slots from a on and
-- below b
pub record IsWholeRow (list : List (Option ℤ)) (a b : ℕ) (r : Row) : Type 0 where
  pub first : IsEndValue First list a b r.first
  pub extremes : AreExtremes list a b (record { min = r.least; max = r.greatest })
  pub last : IsEndValue Last list a b r.last
