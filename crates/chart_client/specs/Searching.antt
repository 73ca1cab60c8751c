-- The search for wanted keys that fail: from each side of a column, up to the first slot that isn't
-- known to hold nothing.
use Rattle.std.specs.Prelude.{ℕ, ℤ, ◌≡◌, ◌<◌, ◌≤◌, ◌⊎◌, Bool, true, false, Option, None, Some}
use Rattle.om3_coeff.specs.declared.key.Key.{Key}
use Rattle.om3_coeff.specs.declared.span.Span.{Span}
use Rattle.om3_coeff.specs.Keys.{height, IsNode}
use Rattle.om3_coeff.specs.Known.{known, IsKnownClear}
use Rattle.chart_grid.specs.declared.axis.Axis.{Axis}
use Rattle.chart_grid.specs.declared.grid.Grid.{Grid}
use Rattle.view_keys.specs.Ranges.{IsInRange, IsWithin, IsCut}
use Rattle.view_keys.specs.Flat.{IsFlat}
use Rattle.view_keys.specs.Wanted.{Seen, IsClearBefore, IsClearBehind}
use Rattle.view_keys.specs.Listed.{ComesBefore}
use Rattle.chart_client.specs.Failing.{IsMissing, IsMisfit, Fails}
use Rattle.chart_client.specs.declared.failure.Failure.{Failure}
use Rattle.chart_client.specs.declared.search.Side.{Side}
use Rattle.chart_client.specs.declared.search.Side.TheVariants.{First, Last}
use Rattle.chart_client.specs.declared.search.End.{End}
use Rattle.chart_client.specs.declared.search.End.TheVariants.{Nowhere, Value, Stuck}

-- slot i is known to hold nothing
abbrev pub IsClearAt : Seen → ℕ → ℕ → Type 0
IsClearAt seen slots i = IsKnownClear seen.root seen.told (height slots) i

-- slot i lies from a on and below b
abbrev pub IsBetween : ℕ → ℕ → ℕ → Type 0
IsBetween a b i = (a ≤ i) × (i < b)

-- slot i lies in the key's range, and from a on and below b
pub record IsAmong (k : Key) (a b i : ℕ) : Type 0 where
  pub in_range : IsInRange k i
  pub from : a ≤ i
  pub to : i < b

-- seen from a side, slot j comes before slot i
abbrev pub IsNearer : Side → ℕ → ℕ → Type 0
IsNearer First j i = j < i
IsNearer Last j i = i < j

-- Slot i is the first one from a side, among some slots, that isn't known to hold nothing.
pub record IsEnd (seen : Seen) (slots : ℕ) (Among : ℕ → Type 0) (side : Side) (i : ℕ) : Type 0 where
  pub among : Among i
  pub unclear : IsClearAt seen slots i → ⊥
  pub nearer : (j : ℕ) → Among j → IsNearer side j i → IsClearAt seen slots j

-- the key's span is seen, and its coefficient can't be used
pub record IsFailing (seen : Seen) (slots : ℕ) (k : Key) : Type 0 where
  pub node : IsNode (height slots) k
  pub span : Span
  pub known_so : known seen.root seen.told (height slots) k ≡ Some (Some span)
  pub fails : Fails seen slots k

-- in which way a key fails
abbrev pub FailsAs : Seen → ℕ → Key → Bool → Type 0
FailsAs seen slots k true = IsMissing seen k
FailsAs seen slots k false = IsMisfit seen slots k

pub record IsFailure (seen : Seen) (slots : ℕ) (f : Failure) : Type 0 where
  pub failing : IsFailing seen slots f.key
  pub how : FailsAs seen slots f.key f.is_missing

-- the key's span is seen and flat, and all slots of its range are own ones
pub record IsSettled (seen : Seen) (slots : ℕ) (Flat : Span → Type 0) (Own : ℕ → Type 0) (k : Key) : Type 0 where
  pub high : k.level ≤ height slots
  pub span : Span
  pub known_so : known seen.root seen.told (height slots) k ≡ Some (Some span)
  pub flat : Flat span
  pub within : (i : ℕ) → IsInRange k i → Own i

-- slot i is known to hold a value, or lies in the range of a settled key
abbrev pub IsKnownAt : Seen → ℕ → (Span → Type 0) → (ℕ → Type 0) → ℕ → Type 0
IsKnownAt seen slots Flat Own i =
    ((s : Span) × (known seen.root seen.told (height slots) (record { level = 0; index = i }) ≡ Some (Some s)))
    ⊎ ((k : Key) × IsInRange k i × IsSettled seen slots Flat Own k)

-- What a search among some of the own slots found: all are known to hold nothing; or the first one that
-- isn't is known to hold a value or lies in the range of a settled key, or in that of a key that fails
-- and isn't settled.
abbrev pub Finds : Seen → ℕ → (Span → Type 0) → (ℕ → Type 0) → (ℕ → Type 0) → Side → End → Type 0
Finds seen slots Flat Own Among side Nowhere = (i : ℕ) → Among i → IsClearAt seen slots i
Finds seen slots Flat Own Among side Value = (i : ℕ) × IsEnd seen slots Among side i × IsKnownAt seen slots Flat Own i
Finds seen slots Flat Own Among side (Stuck f) =
    (i : ℕ) × IsEnd seen slots Among side i × IsInRange f.key i × IsFailure seen slots f × (IsSettled seen slots Flat Own f.key → ⊥)

-- a key that a view over the range lo to hi wants for column c
pub record IsWantedIn (seen : Seen) (axis : Axis) (grid : Grid) (lo hi : ℤ) (c : ℕ) (k : Key) : Type 0 where
  pub node : IsNode (height axis.slots) k
  pub span : Span
  pub known_so : known seen.root seen.told (height axis.slots) k ≡ Some (Some span)
  pub reason : IsCut axis grid c k ⊎ (IsWithin axis grid c k × (IsFlat lo hi grid.h span → ⊥)
      × (IsClearBefore seen axis grid c k ⊎ IsClearBehind seen axis grid c k))

-- a key that it wants for one of the first n columns
abbrev pub IsWantedBelow : Seen → Axis → Grid → ℤ → ℤ → ℕ → Key → Type 0
IsWantedBelow seen axis grid lo hi n k = (c : ℕ) × (c < n) × IsWantedIn seen axis grid lo hi c k

-- the failure is that of a key of this kind that fails, and none of them that fails comes before it
pub record IsFirst (seen : Seen) (slots : ℕ) (Kind : Key → Type 0) (f : Failure) : Type 0 where
  pub kind : Kind f.key
  pub how : FailsAs seen slots f.key f.is_missing
  pub first : (k : Key) → Kind k → Fails seen slots k → ComesBefore k f.key → ⊥

-- the first failure of a key of this kind, or nothing where none fails
abbrev pub IsFirstOf : Seen → ℕ → (Key → Type 0) → Option Failure → Type 0
IsFirstOf seen slots Kind None = (k : Key) → Kind k → Fails seen slots k → ⊥
IsFirstOf seen slots Kind (Some f) = IsFirst seen slots Kind f

-- the one of two failures that comes first
abbrev pub IsEarlier : Option Failure → Option Failure → Option Failure → Type 0
IsEarlier None other first = first ≡ other
IsEarlier (Some f) None first = first ≡ Some f
IsEarlier (Some f) (Some other) first =
    ((first ≡ Some other) × ComesBefore other.key f.key) ⊎ ((first ≡ Some f) × (ComesBefore other.key f.key → ⊥))

-- the failure at which a search got stuck
abbrev pub failure_of : End → Option Failure
failure_of Nowhere = None
failure_of Value = None
failure_of (Stuck f) = Some f

-- half of a key's range: the one that a search from a side comes to first, and the other one
abbrev pub near_of : {X : Type 0} → Side → X → X → X
near_of First left right = left
near_of Last left right = right

abbrev pub far_of : {X : Type 0} → Side → X → X → X
far_of First left right = right
far_of Last left right = left
