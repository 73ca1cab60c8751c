-- What a list of slots stores in a range, and the least and the greatest of it.
use Rattle.std.specs.Prelude.{ℕ, ℤ, ◌≡◌, ◌-◌, ◌<◌, ◌≤◌, ◌≤ℤ◌, Bool, ◌&&◌, int_le, List, [], ◌∷◌, take, drop, slice_get, Option, None, Some}
use Rattle.std.specs.Prelude.{IfSome}
use Rattle.std.specs.Int.{int_min, int_max}
use Rattle.whole_number.specs.Range.{IsValue, is_value}
use Rattle.om3_coeff.specs.declared.key.Key.{Key}
use Rattle.om3_coeff.specs.declared.span.Span.{Span}
use Rattle.om3_coeff.specs.Keys.{first_slot, end_slot}

-- the span is ordered, and its ends are values that a slot can hold
pub record IsProper (s : Span) : Type 0 where
  pub ordered : s.min ≤ℤ s.max
  pub low : IsValue s.min
  pub high : IsValue s.max

abbrev pub IsProperIfAny : Option Span → Type 0
IsProperIfAny s = IfSome s IsProper

-- slot i holds the value v
abbrev pub Holds : List (Option ℤ) → ℕ → ℤ → Type 0
Holds list i v = slice_get list i ≡ Some (Some v)

-- what the slots of the list hold are values that a slot can hold
abbrev pub AreSlots : List (Option ℤ) → Type 0
AreSlots list = (i : ℕ) (v : ℤ) → Holds list i v → IsValue v

-- none of the slots from a on and below b holds a value
abbrev pub IsClear : List (Option ℤ) → ℕ → ℕ → Type 0
IsClear list a b = (i : ℕ) (v : ℤ) → a ≤ i → i < b → Holds list i v → ⊥

-- one of the slots from a on and below b holds the value v
pub record IsStored (list : List (Option ℤ)) (a b : ℕ) (v : ℤ) : Type 0 where
  pub slot : ℕ
  pub low : a ≤ slot
  pub high : slot < b
  pub holds : Holds list slot v

-- s has the least and the greatest value that the slots from a on and below b hold
pub record AreExtremes (list : List (Option ℤ)) (a b : ℕ) (s : Span) : Type 0 where
  pub least : IsStored list a b s.min
  pub greatest : IsStored list a b s.max
  pub above : (i : ℕ) (v : ℤ) → a ≤ i → i < b → Holds list i v → s.min ≤ℤ v
  pub below : (i : ℕ) (v : ℤ) → a ≤ i → i < b → Holds list i v → v ≤ℤ s.max

-- s is the span of the slots from a on and below b: the least and the greatest stored value, or
-- nothing where none is stored
abbrev pub IsSpanOf : List (Option ℤ) → ℕ → ℕ → Option Span → Type 0
IsSpanOf list a b None = IsClear list a b
IsSpanOf list a b (Some s) = AreExtremes list a b s

-- the span of two ranges together
abbrev pub hull : Option Span → Option Span → Option Span
hull None r = r
hull (Some l) None = Some l
hull (Some l) (Some r) = Some (record { min = int_min l.min r.min; max = int_max l.max r.max })

-- the span of one slot
abbrev pub span_of_slot : Option ℤ → Option Span
span_of_slot None = None
span_of_slot (Some v) = Some (record { min = v; max = v })

-- the span of a list of slots
abbrev pub span_of : List (Option ℤ) → Option Span
span_of [] = None
span_of (slot ∷ slots) = hull (span_of_slot slot) (span_of slots)

-- the span of the slots from a on and below b
unfoldable pub span_over : List (Option ℤ) → ℕ → ℕ → Option Span
span_over list a b = span_of (take (b - a) (drop a list))

-- the span of a key's range; slots past the list's end hold nothing
abbrev pub span : List (Option ℤ) → Key → Option Span
span list k = span_over list (first_slot k) (end_slot k)

-- the same as IsProper, as a test
unfoldable pub is_proper : Span → Bool
is_proper s = int_le s.min s.max && is_value s.min && is_value s.max
