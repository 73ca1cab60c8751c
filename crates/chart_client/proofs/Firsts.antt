-- The first of the keys that fail.
use Rattle.std.proofs.Common.{ℕ, ℤ, ◌≡◌, ◌+◌, ◌<◌, ◌≤◌, ◌⊎◌, inl, inr, refl, sym, ◌∙◌, ap, subst, arith}
use Rattle.std.proofs.lemmas.Bool.{cases_lt}
use Rattle.std.specs.Prelude.{Option, Some, None}
use Rattle.om3_coeff.specs.declared.key.Key.{Key}
use Rattle.chart_grid.specs.declared.axis.Axis.{Axis}
use Rattle.chart_grid.specs.declared.grid.Grid.{Grid}
use Rattle.chart_grid.specs.Slots.{IsInColumn}
use Rattle.view_keys.specs.Flat.{IsFlat}
use Rattle.view_keys.specs.Wanted.{Seen}
use Rattle.view_keys.specs.Listed.{ComesBefore}
use Rattle.view_keys.proofs.Orders.{not_itself, before_on}
use Rattle.needed_nodes.proofs.EndLaws.{FlatBelow}
use Rattle.chart_client.specs.Failing.{Fails}
use Rattle.chart_client.specs.Searching.{IsFailing, IsFirst, IsFirstOf, IsEarlier, IsWantedIn, IsWantedBelow, Finds, failure_of}
use Rattle.chart_client.specs.declared.failure.Failure.{Failure}
use Rattle.chart_client.specs.declared.search.Side.TheVariants.{First, Last}
use Rattle.chart_client.specs.declared.search.End.{End}
use Rattle.chart_client.proofs.Columns.{IsColumn, IsOf, IsGood, wanted_ends, ends_at, stuck_good}

-- ---- the order of keys

-- a key doesn't come before another one: the other one isn't below it
before_cases : (a b : Key) → ComesBefore a b ⊎ ((a.level ≤ b.level) × (a.level ≡ b.level → b.index ≤ a.index))
before_cases a b = elim (cases_lt b.level a.level) [
  | inl higher ↦ inl (inl higher)
  | inr low ↦ elim (cases_lt a.level b.level) [
    | inl lower ↦ inr (low, λ same. absurd (omega (arith, lower, same)))
    | inr high ↦ elim (cases_lt a.index b.index) [
      | inl less ↦ inl (inr (omega (arith, low, high), less))
      | inr more ↦ inr (low, λ same. more)
    ]
  ]
]

before_past : (k g f : Key) → ((k.level ≤ g.level) × (k.level ≡ g.level → g.index ≤ k.index)) → ComesBefore k f → ComesBefore g f
before_past k g f past (inl higher) = inl (omega (arith, past.0, higher))
before_past k g f past (inr less) = elim (cases_lt k.level g.level) [
  | inl lower ↦ inl (omega (arith, lower, less.0))
  | inr same ↦
      (let e : k.level ≡ g.level = omega (arith, same, past.0) in
      inr (omega (arith, e, less.0), omega (arith, past.1 e, less.1)))
]

-- where k doesn't come before g, but before f, g comes before f
before_between : (k g f : Key) → (ComesBefore k g → ⊥) → ComesBefore k f → ComesBefore g f
before_between k g f not less = elim (before_cases k g) [
  | inl before ↦ absurd (not before)
  | inr past ↦ before_past k g f past less
]

-- ---- first failures

-- the keys of either kind
abbrev pub Either : (Key → Type 0) → (Key → Type 0) → Key → Type 0
Either A B k = A k ⊎ B k

wider : (seen : Seen) (slots : ℕ) (A B : Key → Type 0) (f : Failure) → ((k : Key) → A k → B k)
    → ((k : Key) → B k → Fails seen slots k → ComesBefore k f.key → ⊥) → IsFirst seen slots A f → IsFirst seen slots B f
wider seen slots A B f to first h = record { kind = to f.key h.kind; how = h.how; first = first }

pub merged : (seen : Seen) (slots : ℕ) (A B : Key → Type 0) (x y r : Option Failure) → IsFirstOf seen slots A x → IsFirstOf seen slots B y
    → IsEarlier x y r → IsFirstOf seen slots (Either A B) r
merged seen slots A B None None r hx hy is = subst (λ (o : Option Failure). IsFirstOf seen slots (Either A B) o) (sym is)
    (λ k either fails. elim either [ inl a ↦ hx k a fails | inr b ↦ hy k b fails ])
merged seen slots A B None (Some g) r hx hy is = subst (λ (o : Option Failure). IsFirstOf seen slots (Either A B) o) (sym is)
    (wider seen slots B (Either A B) g (λ k b. inr b)
    (λ k either fails less. elim either [ inl a ↦ hx k a fails | inr b ↦ hy.first k b fails less ]) hy)
merged seen slots A B (Some f) None r hx hy is = subst (λ (o : Option Failure). IsFirstOf seen slots (Either A B) o) (sym is)
    (wider seen slots A (Either A B) f (λ k a. inl a)
    (λ k either fails less. elim either [ inl a ↦ hx.first k a fails less | inr b ↦ hy k b fails ]) hx)
merged seen slots A B (Some f) (Some g) r hx hy (inl is) = subst (λ (o : Option Failure). IsFirstOf seen slots (Either A B) o) (sym is.0)
    (wider seen slots B (Either A B) g (λ k b. inr b)
    (λ k either fails less. elim either [
      | inl a ↦ hx.first k a fails (before_on k g.key f.key less is.1)
      | inr b ↦ hy.first k b fails less
    ]) hy)
merged seen slots A B (Some f) (Some g) r hx hy (inr is) = subst (λ (o : Option Failure). IsFirstOf seen slots (Either A B) o) (sym is.0)
    (wider seen slots A (Either A B) f (λ k a. inl a)
    (λ k either fails less. elim either [
      | inl a ↦ hx.first k a fails less
      | inr b ↦ is.1 (before_between k g.key f.key (λ before. hy.first k b fails before) less)
    ]) hx)

-- the same failure is the first of another kind, where the keys of that kind that fail are of this one
pub first_same : (seen : Seen) (slots : ℕ) (A B : Key → Type 0) (x : Option Failure) → ((k : Key) → A k → B k)
    → ((k : Key) → B k → Fails seen slots k → A k) → IsFirstOf seen slots A x → IsFirstOf seen slots B x
first_same seen slots A B None to from h = λ k b fails. h k (from k b fails) fails
first_same seen slots A B (Some f) to from h = record {
  kind = to f.key h.kind;
  how = h.how;
  first = λ k b fails less. h.first k (from k b fails) fails less;
}

-- ---- one column

-- a key that is wanted for the column, at which a search got stuck
pub record IsFound (seen : Seen) (axis : Axis) (grid : Grid) (lo hi : ℤ) (c : ℕ) (x : Option Failure) (k : Key) : Type 0 where
  pub wanted : IsWantedIn seen axis grid lo hi c k
  pub of : IsOf x k

no_failure : (f : Failure) → ◌≡◌ {A = Option Failure} None (Some f) → ⊥
no_failure f e = cc

same_failure : (f g : Failure) → ◌≡◌ {A = Option Failure} (Some f) (Some g) → f.key ≡ g.key
same_failure f g e = let h : f ≡ g = cc in ap (λ x. x.key) h

found_first : (seen : Seen) (axis : Axis) (grid : Grid) (lo hi : ℤ) (c : ℕ) (x : Option Failure)
    → ((f : Failure) → x ≡ Some f → IsGood seen axis grid lo hi c f)
    → IsFirstOf seen axis.slots (IsFound seen axis grid lo hi c x) x
found_first seen axis grid lo hi c None good = λ k found fails. no_failure found.of.failure found.of.is
found_first seen axis grid lo hi c (Some f) good =
    let h : IsGood seen axis grid lo hi c f = good f refl in record {
      kind = record { wanted = h.wanted; of = record { failure = f; is = refl; key = refl } };
      how = h.how;
      first = λ k found fails less.
          let same : f.key ≡ k = same_failure f found.of.failure found.of.is ∙ found.of.key in
          not_itself f.key (subst (λ (w : Key). ComesBefore w f.key) (sym same) less);
    }

failing_of : (seen : Seen) (axis : Axis) (grid : Grid) (lo hi : ℤ) (c : ℕ) (k : Key) → IsWantedIn seen axis grid lo hi c k
    → Fails seen axis.slots k → IsFailing seen axis.slots k
failing_of seen axis grid lo hi c k wanted fails = record {
  node = wanted.node;
  span = wanted.span;
  known_so = wanted.known_so;
  fails = fails;
}

-- the earlier one of the failures from the two sides is the first in the column
pub column_first : FlatBelow → (seen : Seen) (axis : Axis) (grid : Grid) (lo hi : ℤ) (c a b : ℕ) (near far : End) (r : Option Failure)
    → IsColumn axis grid c a b
    → Finds seen axis.slots (IsFlat lo hi grid.h) (IsInColumn axis grid c) (IsInColumn axis grid c) First near
    → Finds seen axis.slots (IsFlat lo hi grid.h) (IsInColumn axis grid c) (IsInColumn axis grid c) Last far
    → IsEarlier (failure_of near) (failure_of far) r → IsFirstOf seen axis.slots (IsWantedIn seen axis grid lo hi c) r
column_first below_flat seen axis grid lo hi c a b near far r column hn hf is =
    let A : Key → Type 0 = IsFound seen axis grid lo hi c (failure_of near) in
    let B : Key → Type 0 = IsFound seen axis grid lo hi c (failure_of far) in
    first_same seen axis.slots (Either A B) (IsWantedIn seen axis grid lo hi c) r
    (λ k either. elim either [ inl found ↦ found.wanted | inr found ↦ found.wanted ])
    (λ k wanted fails.
    let failing = failing_of seen axis grid lo hi c k wanted fails in
    elim (wanted_ends seen axis grid lo hi c a b k column failing wanted) [
      | inl h ↦ inl (record { wanted = wanted; of = ends_at below_flat seen axis grid lo hi c k First near failing wanted h hn })
      | inr h ↦ inr (record { wanted = wanted; of = ends_at below_flat seen axis grid lo hi c k Last far failing wanted h hf })
    ])
    (merged seen axis.slots A B (failure_of near) (failure_of far) r
    (found_first seen axis grid lo hi c (failure_of near) (λ f e. stuck_good seen axis grid lo hi c a b First near f column hn e))
    (found_first seen axis grid lo hi c (failure_of far) (λ f e. stuck_good seen axis grid lo hi c a b Last far f column hf e)) is)

empty : (a b i : ℕ) → b ≤ a → (a ≤ i) × (i < b) → ⊥
empty a b i none at = omega (arith, none, at.0, at.1)

-- a column without slots has no wanted key
pub empty_first : (seen : Seen) (axis : Axis) (grid : Grid) (lo hi : ℤ) (c a b : ℕ) → IsColumn axis grid c a b → b ≤ a
    → IsFirstOf seen axis.slots (IsWantedIn seen axis grid lo hi c) None
empty_first seen axis grid lo hi c a b column none k wanted fails =
    elim (wanted_ends seen axis grid lo hi c a b k column (failing_of seen axis grid lo hi c k wanted fails) wanted) [
      | inl h ↦ empty a b h.slot none (column.into h.slot h.in_column)
      | inr h ↦ empty a b h.slot none (column.into h.slot h.in_column)
    ]

-- ---- all columns

below_cases : (seen : Seen) (axis : Axis) (grid : Grid) (lo hi : ℤ) (n : ℕ) (k : Key) → IsWantedBelow seen axis grid lo hi (n + 1) k
    → IsWantedBelow seen axis grid lo hi n k ⊎ IsWantedIn seen axis grid lo hi n k
below_cases seen axis grid lo hi n k wanted = elim (cases_lt wanted.0 n) [
  | inl less ↦ inl (wanted.0, less, wanted.2)
  | inr more ↦
      (let same : wanted.0 ≡ n = omega (arith, more, wanted.1) in
      inr (subst (λ (c : ℕ). IsWantedIn seen axis grid lo hi c k) same wanted.2))
]

-- one column more
pub more_first : (seen : Seen) (axis : Axis) (grid : Grid) (lo hi : ℤ) (n : ℕ) (x y r : Option Failure)
    → IsFirstOf seen axis.slots (IsWantedBelow seen axis grid lo hi n) x
    → IsFirstOf seen axis.slots (IsWantedIn seen axis grid lo hi n) y → IsEarlier x y r
    → IsFirstOf seen axis.slots (IsWantedBelow seen axis grid lo hi (n + 1)) r
more_first seen axis grid lo hi n x y r hx hy is =
    first_same seen axis.slots (Either (IsWantedBelow seen axis grid lo hi n) (IsWantedIn seen axis grid lo hi n))
    (IsWantedBelow seen axis grid lo hi (n + 1)) r
    (λ k either. elim either [ inl h ↦ (h.0, omega (arith, h.1), h.2) | inr h ↦ (n, omega arith, h) ])
    (λ k wanted fails. below_cases seen axis grid lo hi n k wanted)
    (merged seen axis.slots (IsWantedBelow seen axis grid lo hi n) (IsWantedIn seen axis grid lo hi n) x y r hx hy is)
