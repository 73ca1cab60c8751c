-- What the searches find.
use Rattle.std.specs.Prelude.{ℕ, ℤ, ◌≡◌, ◌<◌, ◌≤◌, ◌^◌, ◌≤ℤ◌, ◌<ℤ◌, ◌⊎◌, ◌+◌, Bool, true, List, Option, None, Some, IfSome, unsigned_abs}
use Rattle.whole_number.specs.Range.{IsValue}
use Rattle.om3_coeff.specs.Spans.{Holds, IsClear, IsStored}
use Rattle.derived_chart.specs.declared.searches.Best.{Best}
use Rattle.derived_chart.specs.declared.searches.Best.TheVariants.{Least, Greatest}
use Rattle.derived_chart.specs.declared.ends.Side.{Side}
use Rattle.derived_chart.specs.Bounds.{AreBetween, IsValueOf}
use Rattle.derived_chart.specs.declared.ends.Side.TheVariants.{First, Last}

-- m is at least as good as v, where the least or the greatest is looked for
abbrev pub Beats : Best → ℤ → ℤ → Type 0
Beats Least m v = m ≤ℤ v
Beats Greatest m v = v ≤ℤ m

-- the least, or the greatest, of the values of the slots from p on and below q and of what was found before, if any
abbrev pub IsBestWith : Best → List (Option ℤ) → ℕ → ℕ → Option ℤ → Option ℤ → Type 0
IsBestWith best list p q before None = (before ≡ None) × IsClear list p q
IsBestWith best list p q before (Some m) = ((before ≡ Some m) ⊎ IsStored list p q m) × IfSome before (λ b. Beats best m b)
    × ((i : ℕ) (v : ℤ) → p ≤ i → i < q → Holds list i v → Beats best m v)

-- the least, or the greatest, of the values of the slots from p on and below q, or nothing where none is stored
abbrev pub IsBestOf : Best → List (Option ℤ) → ℕ → ℕ → Option ℤ → Type 0
IsBestOf best list p q None = IsClear list p q
IsBestOf best list p q (Some m) = IsStored list p q m × ((i : ℕ) (v : ℤ) → p ≤ i → i < q → Holds list i v → Beats best m v)

-- the values of the slots from p on and below q lie between these two numbers, which are the value where it is a single slot
pub record IsRangeOf (list : List (Option ℤ)) (p q : ℕ) (b : Option (ℤ × ℤ)) : Type 0 where
  pub between : AreBetween list p q b
  pub one : q ≡ p + 1 → IsValueOf list p b

-- no value between these two numbers is better than what was found before
abbrev pub IsNoBetter : Best → Option ℤ → ℤ × ℤ → Type 0
IsNoBetter best None b = ⊥
IsNoBetter Least (Some m) b = m ≤ℤ b.0
IsNoBetter Greatest (Some m) b = b.1 ≤ℤ m

-- the best that stands between them is better
abbrev pub IsBetter : Best → Option ℤ → ℤ × ℤ → Type 0
IsBetter best None b = Unit {0}
IsBetter Least (Some m) b = b.0 <ℤ m
IsBetter Greatest (Some m) b = m <ℤ b.1

-- the value is one that is looked for: any, or one that no series could hold
abbrev pub IsWanted : Bool → ℤ → Type 0
IsWanted large v = large ≡ true → 10 ^ 18 < unsigned_abs v

-- none of the slots from p on and below q has a value that is looked for
abbrev pub HasNone : Bool → List (Option ℤ) → ℕ → ℕ → Type 0
HasNone large list p q = (i : ℕ) (v : ℤ) → p ≤ i → i < q → Holds list i v → IsWanted large v → ⊥

-- the slot lies in the range and has a value that is looked for
pub record IsFound (large : Bool) (list : List (Option ℤ)) (p q : ℕ) (found : ℕ × ℤ) : Type 0 where
  pub low : p ≤ found.0
  pub high : found.0 < q
  pub holds : Holds list found.0 found.1
  pub wanted : IsWanted large found.1

-- the first, or the last, of the slots from p on and below q that has such a value, or nothing where none does
abbrev pub IsEndOf : Side → Bool → List (Option ℤ) → ℕ → ℕ → Option (ℕ × ℤ) → Type 0
IsEndOf side large list p q None = HasNone large list p q
IsEndOf First large list p q (Some found) = IsFound large list p q found × HasNone large list p found.0
IsEndOf Last large list p q (Some found) = IsFound large list p q found × HasNone large list (found.0 + 1) q

-- a range is cut in two; the half at its first, or its last, slot comes first
abbrev pub AreHalves : Side → ℕ → ℕ → (ℕ × ℕ) × (ℕ × ℕ) → Type 0
AreHalves First p q h = (h.0.0 ≡ p) × (h.0.1 ≡ h.1.0) × (h.1.1 ≡ q) × (p < h.0.1) × (h.0.1 < q)
AreHalves Last p q h = (h.1.0 ≡ p) × (h.1.1 ≡ h.0.0) × (h.0.1 ≡ q) × (p < h.1.1) × (h.1.1 < q)

-- both are shorter than the range, and lie in it
pub record AreShorter (p q : ℕ) (h : (ℕ × ℕ) × (ℕ × ℕ)) : Type 0 where
  pub near : h.0.0 < h.0.1
  pub near_end : h.0.1 ≤ q
  pub near_short : h.0.1 + p < q + h.0.0
  pub far : h.1.0 < h.1.1
  pub far_end : h.1.1 ≤ q
  pub far_short : h.1.1 + p < q + h.1.0

-- what a single slot gives, whose sum is the lower of these two numbers
abbrev pub IsOneFound : Bool → ℕ → ℤ × ℤ → Option (ℕ × ℤ) → Type 0
IsOneFound large p b None = (IsWanted large b.0 → ⊥)
IsOneFound large p b (Some found) = (found.0 ≡ p) × (found.1 ≡ b.0) × IsWanted large b.0

-- the first of the slots from p on and below q with a value that no series can hold, or nothing where none has one
abbrev pub IsFirstLarge : List (Option ℤ) → ℕ → ℕ → Option (ℕ × ℤ) → Type 0
IsFirstLarge list p q None = (i : ℕ) (v : ℤ) → p ≤ i → i < q → Holds list i v → IsValue v
IsFirstLarge list p q (Some found) = (p ≤ found.0) × (found.0 < q) × Holds list found.0 found.1 × (10 ^ 18 < unsigned_abs found.1)
    × ((i : ℕ) (v : ℤ) → p ≤ i → i < found.0 → Holds list i v → IsValue v)
