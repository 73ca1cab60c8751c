-- Between which numbers the values of a range lie.
use Rattle.std.specs.Prelude.{ℕ, ℤ, pos, ◌≡◌, ◌+◌, ◌^◌, ◌<◌, ◌≤◌, ◌+ℤ◌, ◌*ℤ◌, ◌<ℤ◌, ◌≤ℤ◌, List, Option, None, Some, unsigned_abs}
use Rattle.om3_coeff.specs.declared.span.Span.{Span}
use Rattle.om3_coeff.specs.Spans.{Holds, IsClear}

-- the values of the slots from p on and below q lie between these two numbers; None is for no value
abbrev pub AreBetween : List (Option ℤ) → ℕ → ℕ → Option (ℤ × ℤ) → Type 0
AreBetween list p q None = IsClear list p q
AreBetween list p q (Some b) = (i : ℕ) (v : ℤ) → p ≤ i → i < q → Holds list i v → (b.0 ≤ℤ v) × (v ≤ℤ b.1)

-- of a single slot both numbers are its value
abbrev pub IsValueOf : List (Option ℤ) → ℕ → Option (ℤ × ℤ) → Type 0
IsValueOf list p None = IsClear list p (p + 1)
IsValueOf list p (Some b) = Holds list p b.0 × (b.1 ≡ b.0)

-- two numbers of at most 10^27 in size
abbrev pub AreSmall : ℤ × ℤ → Type 0
AreSmall b = (unsigned_abs b.0 ≤ 10 ^ 27) × (unsigned_abs b.1 ≤ 10 ^ 27)

-- the products of a number with the values of a span lie between these two; both are its product where the span has one value alone
pub record AreProducts (a : ℤ) (s : Span) (b : ℤ × ℤ) : Type 0 where
  pub within : (x : ℤ) → s.min ≤ℤ x → x ≤ℤ s.max → (b.0 ≤ℤ (a *ℤ x)) × ((a *ℤ x) ≤ℤ b.1)
  pub small : AreSmall b
  pub one : s.min ≡ s.max → (b.0 ≡ a *ℤ s.min) × (b.1 ≡ a *ℤ s.min)

-- The slots from r.0 on and below r.1 of the second series are those, below its length, that have the times of the slots from p on
-- and below q.
pub record AreBeside (shift : ℤ) (count p q : ℕ) (r : ℕ × ℕ) : Type 0 where
  pub ordered : r.0 ≤ r.1
  pub within : r.1 ≤ count
  pub each : (i j : ℕ) → p ≤ i → i < q → j < count → pos j ≡ pos i +ℤ shift → (r.0 ≤ j) × (j < r.1)
  pub only : (j : ℕ) → r.0 ≤ j → j < r.1 → ((pos p +ℤ shift) ≤ℤ pos j) × (pos j <ℤ (pos q +ℤ shift))

-- the first r slots of so many are those before this place
pub record AreBefore (shift : ℤ) (count p r : ℕ) : Type 0 where
  pub within : r ≤ count
  pub before : (j : ℕ) → j < r → pos j <ℤ (pos p +ℤ shift)
  pub behind : (j : ℕ) → r ≤ j → j < count → (pos p +ℤ shift) ≤ℤ pos j

-- both are at most 10^18 in size, and so is each number between them
abbrev pub AreInLimits : ℤ × ℤ → Type 0
AreInLimits b = (unsigned_abs b.0 ≤ 10 ^ 18) × (unsigned_abs b.1 ≤ 10 ^ 18)
