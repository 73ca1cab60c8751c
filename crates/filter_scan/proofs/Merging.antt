-- The row of two ranges of slots, one behind the other.
use Rattle.std.proofs.Common.{ℕ, ℤ, ◌≡◌, ◌<◌, ◌≤◌, ◌≤ℤ◌, inl, inr, arith, List, subst}
use Rattle.std.proofs.lemmas.Int.{ints, clamps, by_lt_z}
use Rattle.std.proofs.lemmas.Bool.{cases_lt}
use Rattle.std.specs.Int.{int_min, int_max}
use Rattle.std.specs.Prelude.{Option, Some, None}
use Rattle.m4_groups.specs.declared.row.Row.{Row}
use Rattle.filter_scan.specs.Table.{joined}
use Rattle.filter_scan.specs.Taken.{IsTaken, IsRowOf, IsNoneTaken, IsRowIn}

-- what is taken of a part, and of the whole
in_first : (T : ℕ → ℤ → Type 0) (list : List (Option ℤ)) (a m b i : ℕ) (v : ℤ) → m ≤ b → IsTaken T list a m i v → IsTaken T list a b i v
in_first T list a m b i v le h = record { low = h.low; high = omega (arith, h.high, le); holds = h.holds; takes = h.takes }

in_second : (T : ℕ → ℤ → Type 0) (list : List (Option ℤ)) (a m b i : ℕ) (v : ℤ) → a ≤ m → IsTaken T list m b i v → IsTaken T list a b i v
in_second T list a m b i v le h = record { low = omega (arith, h.low, le); high = h.high; holds = h.holds; takes = h.takes }

before_middle : (T : ℕ → ℤ → Type 0) (list : List (Option ℤ)) (a m b i : ℕ) (v : ℤ) → i < m → IsTaken T list a b i v
    → IsTaken T list a m i v
before_middle T list a m b i v less h = record { low = h.low; high = less; holds = h.holds; takes = h.takes }

after_middle : (T : ℕ → ℤ → Type 0) (list : List (Option ℤ)) (a m b i : ℕ) (v : ℤ) → m ≤ i → IsTaken T list a b i v → IsTaken T list m b i v
after_middle T list a m b i v le h = record { low = le; high = h.high; holds = h.holds; takes = h.takes }

either_part : {P : Type 0} (T : ℕ → ℤ → Type 0) (list : List (Option ℤ)) (a m b i : ℕ) (v : ℤ) → IsTaken T list a b i v
    → (IsTaken T list a m i v → P) → (IsTaken T list m b i v → P) → P
either_part T list a m b i v h first second =
    elim (cases_lt i m) [
      | inl less ↦ first (before_middle T list a m b i v less h)
      | inr le ↦ second (after_middle T list a m b i v le h)
    ]

-- nothing is taken of both
pub none_both : (T : ℕ → ℤ → Type 0) (list : List (Option ℤ)) (a m b : ℕ) → IsNoneTaken T list a m → IsNoneTaken T list m b
    → IsNoneTaken T list a b
none_both T list a m b first second = λ i v h. either_part T list a m b i v h (first i v) (second i v)

-- something is taken of one alone
pub row_first : (T : ℕ → ℤ → Type 0) (list : List (Option ℤ)) (a m b : ℕ) (r : Row) → m ≤ b → IsRowOf T list a m r → IsNoneTaken T list m b
    → IsRowOf T list a b r
row_first T list a m b r le h none = record {
  first_at = h.first_at;
  first = in_first T list a m b h.first_at r.first le h.first;
  before = λ i v less t. either_part T list a m b i v t (h.before i v less) (none i v);
  least_at = h.least_at;
  least = in_first T list a m b h.least_at r.least le h.least;
  above = λ i v t. either_part T list a m b i v t (h.above i v) (λ u. absurd (none i v u));
  greatest_at = h.greatest_at;
  greatest = in_first T list a m b h.greatest_at r.greatest le h.greatest;
  below = λ i v t. either_part T list a m b i v t (h.below i v) (λ u. absurd (none i v u));
  last_at = h.last_at;
  last = in_first T list a m b h.last_at r.last le h.last;
  behind = λ i v less t. either_part T list a m b i v t (h.behind i v less) (none i v);
}

pub row_second : (T : ℕ → ℤ → Type 0) (list : List (Option ℤ)) (a m b : ℕ) (r : Row) → a ≤ m → IsNoneTaken T list a m → IsRowOf T list m b r
    → IsRowOf T list a b r
row_second T list a m b r le none h = record {
  first_at = h.first_at;
  first = in_second T list a m b h.first_at r.first le h.first;
  before = λ i v less t. either_part T list a m b i v t (none i v) (h.before i v less);
  least_at = h.least_at;
  least = in_second T list a m b h.least_at r.least le h.least;
  above = λ i v t. either_part T list a m b i v t (λ u. absurd (none i v u)) (h.above i v);
  greatest_at = h.greatest_at;
  greatest = in_second T list a m b h.greatest_at r.greatest le h.greatest;
  below = λ i v t. either_part T list a m b i v t (λ u. absurd (none i v u)) (h.below i v);
  last_at = h.last_at;
  last = in_second T list a m b h.last_at r.last le h.last;
  behind = λ i v less t. either_part T list a m b i v t (none i v) (h.behind i v less);
}

-- the lesser and the greater one is one of both
pub min_either : (P : ℤ → Type 0) (x y : ℤ) → P x → P y → P (int_min x y)
min_either P x y p q =
    by_lt_z x y
    (λ less. let e : x ≡ int_min x y = omega (arith, ints, clamps, less) in subst P e p)
    (λ le. let e : y ≡ int_min x y = omega (arith, ints, clamps, le) in subst P e q)

pub max_either : (P : ℤ → Type 0) (x y : ℤ) → P x → P y → P (int_max x y)
max_either P x y p q =
    by_lt_z x y
    (λ less. let e : y ≡ int_max x y = omega (arith, ints, clamps, less) in subst P e q)
    (λ le. let e : x ≡ int_max x y = omega (arith, ints, clamps, le) in subst P e p)

pub min_low : (x y v : ℤ) → x ≤ℤ v → int_min x y ≤ℤ v
min_low x y v h = omega (arith, ints, clamps, h)

pub min_high : (x y v : ℤ) → y ≤ℤ v → int_min x y ≤ℤ v
min_high x y v h = omega (arith, ints, clamps, h)

pub max_low : (x y v : ℤ) → v ≤ℤ x → v ≤ℤ int_max x y
max_low x y v h = omega (arith, ints, clamps, h)

pub max_high : (x y v : ℤ) → v ≤ℤ y → v ≤ℤ int_max x y
max_high x y v h = omega (arith, ints, clamps, h)

-- something is taken of both
pub row_both : (T : ℕ → ℤ → Type 0) (list : List (Option ℤ)) (a m b : ℕ) (r s : Row) → a ≤ m → m ≤ b → IsRowOf T list a m r
    → IsRowOf T list m b s → IsRowOf T list a b (joined (Some r) s)
row_both T list a m b r s low high h g =
    let P : ℤ → Type 0 = λ v. (i : ℕ) × IsTaken T list a b i v in
    let least : P (int_min r.least s.least) =
    min_either P r.least s.least (h.least_at, in_first T list a m b h.least_at r.least high h.least) (
      g.least_at,
      in_second T list a m b g.least_at s.least low g.least,
    ) in
    let greatest : P (int_max r.greatest s.greatest) =
    max_either P r.greatest s.greatest (h.greatest_at, in_first T list a m b h.greatest_at r.greatest high h.greatest)
    (g.greatest_at, in_second T list a m b g.greatest_at s.greatest low g.greatest) in
    record {
      first_at = h.first_at;
      first = in_first T list a m b h.first_at r.first high h.first;
      before = λ i v less t. either_part T list a m b i v t (h.before i v less) (λ u. omega (arith, less, u.low, h.first.high));
      least_at = least.0;
      least = least.1;
      above = λ i v t. either_part T list a m b i v t (λ u. min_low r.least s.least v (h.above i v u))
          (λ u. min_high r.least s.least v (g.above i v u));
      greatest_at = greatest.0;
      greatest = greatest.1;
      below = λ i v t. either_part T list a m b i v t (λ u. max_low r.greatest s.greatest v (h.below i v u))
          (λ u. max_high r.greatest s.greatest v (g.below i v u));
      last_at = g.last_at;
      last = in_second T list a m b g.last_at s.last low g.last;
      behind = λ i v less t. either_part T list a m b i v t (λ u. omega (arith, less, u.high, g.last.low)) (g.behind i v less);
    }

-- a row behind what there is
pub row_more : (T : ℕ → ℤ → Type 0) (list : List (Option ℤ)) (a m b : ℕ) (o : Option Row) (s : Row) → a ≤ m → m ≤ b → IsRowIn T list a m o
    → IsRowOf T list m b s → IsRowOf T list a b (joined o s)
row_more T list a m b None s low high h g = row_second T list a m b s low h g
row_more T list a m b (Some r) s low high h g = row_both T list a m b r s low high h g

-- nothing behind what there is
pub row_same : (T : ℕ → ℤ → Type 0) (list : List (Option ℤ)) (a m b : ℕ) (o : Option Row) → m ≤ b → IsRowIn T list a m o
    → IsNoneTaken T list m b → IsRowIn T list a b o
row_same T list a m b None le h none = none_both T list a m b h none
row_same T list a m b (Some r) le h none = row_first T list a m b r le h none
