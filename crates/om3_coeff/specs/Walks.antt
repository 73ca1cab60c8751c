-- What the walks answer, and how many keys they ask.
use Rattle.std.specs.Prelude.{ℕ, ℤ, ◌≡◌, ◌+◌, ◌*◌, ◌<◌, ◌≤◌, ◌⊎◌, ◌&&◌, ◌||◌, nat_le, if◌then◌else◌, List, Option, None, Some}
use Rattle.om3_coeff.specs.declared.key.Key.{Key}
use Rattle.om3_coeff.specs.declared.span.Span.{Span}
use Rattle.om3_coeff.specs.declared.places.Place.{Place}
use Rattle.om3_coeff.specs.declared.places.Place.TheVariants.{Outside, Within, Cut}
use Rattle.om3_coeff.specs.Keys.{first_slot, end_slot, height, IsKey, IsOver}
use Rattle.om3_coeff.specs.Spans.{IsProperIfAny, Holds, IsClear}
use Rattle.whole_number.specs.Range.{IsValue}
use Rattle.om3_coeff.specs.View.{NodesView, known_of}

-- the first stored slot from a on and below b with its value, or nothing where none is stored
abbrev pub IsFirstStored : List (Option ℤ) → ℕ → ℕ → Option (ℕ × ℤ) → Type 0
IsFirstStored list a b None = IsClear list a b
IsFirstStored list a b (Some p) = (a ≤ p.0) × (p.0 < b) × Holds list p.0 p.1 × IsClear list a p.0

-- the last one likewise
abbrev pub IsLastStored : List (Option ℤ) → ℕ → ℕ → Option (ℕ × ℤ) → Type 0
IsLastStored list a b None = IsClear list a b
IsLastStored list a b (Some p) = (a ≤ p.0) × (p.0 < b) × Holds list p.0 p.1 × IsClear list (p.0 + 1) b

-- a slot from a on and below b, with a value that a slot can hold
abbrev pub IsSlotIn : ℕ → ℕ → ℕ × ℤ → Type 0
IsSlotIn a b p = (a ≤ p.0) × (p.0 < b) × IsValue p.1

-- a walk has come to the key k, which has the span s if any
pub record IsReached (view : NodesView) (k : Key) (s : Option Span) : Type 0 where
  pub key : IsKey (height view.slots) k
  pub proper : IsProperIfAny s
  pub known : view.tells → known_of view k ≡ Some s

-- how a key's range lies to the slots from a on and below b
abbrev pub IsPlace : ℕ → ℕ → Key → Place → Type 0
IsPlace a b k Outside = (end_slot k ≤ a) ⊎ (b ≤ first_slot k)
IsPlace a b k Within = (a ≤ first_slot k) × (end_slot k ≤ b)
IsPlace a b k Cut = (a < end_slot k) × (first_slot k < b) × ((first_slot k < a) ⊎ (b < end_slot k))

-- The most keys at or below one with this range that an end of the slots from a on and below b cuts:
-- none where the range lies outside or within, one on each level where one end cuts it, two where both do.
unfoldable pub cut_keys : ℕ → ℕ → ℕ → ℕ → ℕ → ℕ
cut_keys a b first end level =
    if (nat_le end a || nat_le b first) || (nat_le a first && nat_le end b) then 0
    else (if nat_le a first || nat_le end b then level else 2 * level)

abbrev pub most_cut : ℕ → ℕ → Key → ℕ
most_cut a b k = cut_keys a b (first_slot k) (end_slot k) k.level

-- between two asks nothing was asked, or the key asked last is k or lies below it
abbrev pub StaysBelow : Key → Option Key → Option Key → Type 0
StaysBelow k before now = (now ≡ before) ⊎ IsOver k now
