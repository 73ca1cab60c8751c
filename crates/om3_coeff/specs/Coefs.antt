-- Coefficients: what a key's coefficient is, and how it splits a span into those of the two halves.
use Rattle.std.specs.Prelude.{ℤ, pos, ◌≡◌, ◌+ℤ◌, ◌-ℤ◌, ◌⊎◌, Bool, true, false, ◌&&◌, int_le, if◌then◌else◌, List, Option, None, Some}
use Rattle.om3_coeff.specs.declared.key.Key.{Key}
use Rattle.om3_coeff.specs.declared.span.Span.{Span}
use Rattle.om3_coeff.specs.declared.coef.Coef.{Coef}
use Rattle.om3_coeff.specs.Keys.{left_of, right_of}
use Rattle.om3_coeff.specs.Spans.{IsProper, span, is_proper}

-- The coefficient of two halves with these spans: which of them has a span, and by how much the
-- left one's ends exceed the right one's. The differences are 0 where a half has none.
abbrev pub coef_of : Option Span → Option Span → Coef
coef_of None None = record { left = false; right = false; dmin = pos 0; dmax = pos 0 }
coef_of (Some l) None = record { left = true; right = false; dmin = pos 0; dmax = pos 0 }
coef_of None (Some r) = record { left = false; right = true; dmin = pos 0; dmax = pos 0 }
coef_of (Some l) (Some r) = record { left = true; right = true; dmin = l.min -ℤ r.min; dmax = l.max -ℤ r.max }

-- the coefficient of a key of a level of at least 1
abbrev pub coef : List (Option ℤ) → Key → Coef
coef list k = coef_of (span list (left_of k)) (span list (right_of k))

-- Where both halves have a span, one of them has the parent's least value, and the other's is further
-- up by the difference; the greatest values are recovered likewise.
abbrev pub left_part : Span → Coef → Span
left_part s c = record {
  min = if int_le c.dmin (pos 0) then s.min else s.min +ℤ c.dmin;
  max = if int_le (pos 0) c.dmax then s.max else s.max +ℤ c.dmax;
}

abbrev pub right_part : Span → Coef → Span
right_part s c = record {
  min = if int_le c.dmin (pos 0) then s.min -ℤ c.dmin else s.min;
  max = if int_le (pos 0) c.dmax then s.max -ℤ c.dmax else s.max;
}

-- the coefficient has no differences
abbrev pub IsFlat : Coef → Type 0
IsFlat c = (c.dmin ≡ pos 0) × (c.dmax ≡ pos 0)

-- The coefficient splits this span for no two halves: neither half has a span; a difference isn't 0
-- though a half has none; or a recovered span isn't ordered or in range. One half alone has the
-- parent's span.
abbrev pub IsBadFor : Bool → Bool → Span → Coef → Type 0
IsBadFor false false s c = Unit {0}
IsBadFor true false s c = (IsFlat c → ⊥) ⊎ (IsProper s → ⊥)
IsBadFor false true s c = (IsFlat c → ⊥) ⊎ (IsProper s → ⊥)
IsBadFor true true s c = (IsProper (left_part s c) → ⊥) ⊎ (IsProper (right_part s c) → ⊥)

abbrev pub IsBad : Span → Coef → Type 0
IsBad s c = IsBadFor c.left c.right s c

-- the span, where it is proper
abbrev pub proper_only : Span → Option Span
proper_only s = if is_proper s then Some s else None

-- both, where both are proper
abbrev pub if_proper : Span → Span → Option (Option Span × Option Span)
if_proper l r = if is_proper l && is_proper r then Some (Some l, Some r) else None

-- the differences are both 0, as a test
abbrev pub is_flat : Coef → Bool
is_flat c = int_le c.dmin (pos 0) && int_le (pos 0) c.dmin && int_le c.dmax (pos 0) && int_le (pos 0) c.dmax

-- the spans of the two halves, where the coefficient splits the span
abbrev pub parts_by : Bool → Bool → Span → Coef → Option (Option Span × Option Span)
parts_by false false s c = None
parts_by true false s c = if is_flat c && is_proper s then Some (Some s, None) else None
parts_by false true s c = if is_flat c && is_proper s then Some (None, Some s) else None
parts_by true true s c = if_proper (left_part s c) (right_part s c)

unfoldable pub parts : Span → Coef → Option (Option Span × Option Span)
parts s c = parts_by c.left c.right s c
