-- The sums of two series.
use Rattle.std.specs.Prelude.{ℕ, ℤ, pos, ◌≡◌, ◌≤◌, ◌*◌, ◌^◌, ◌+ℤ◌, ◌*ℤ◌, ◌↔◌, Bool, true, false, List, length, Option, unsigned_abs}
use Rattle.om3_coeff.specs.Spans.{Holds}
use Rattle.derived_chart.specs.declared.sum.Sum.{Sum}

-- a factor is at most 10^9 in size, a shift at most 4 * 10^18
pub record IsSmall (sum : Sum) : Type 0 where
  pub a : unsigned_abs sum.a ≤ 10 ^ 9
  pub b : unsigned_abs sum.b ≤ 10 ^ 9
  pub shift : unsigned_abs sum.shift ≤ 4 * 10 ^ 18

-- v stands in the list at this place, which may lie outside it
pub record HoldsAt (list : List (Option ℤ)) (place v : ℤ) : Type 0 where
  pub slot : ℕ
  pub here : pos slot ≡ place
  pub holds : Holds list slot v

-- both series store a value at the time of slot i of the first one, and v is their sum there
pub record Adds (sum : Sum) (xs ys : List (Option ℤ)) (i : ℕ) (v : ℤ) : Type 0 where
  pub x : ℤ
  pub y : ℤ
  pub first : Holds xs i x
  pub second : HoldsAt ys (pos i +ℤ sum.shift) y
  pub is : v ≡ sum.a *ℤ x +ℤ sum.b *ℤ y

-- the list has a slot for each of the first series, with the sum that stands there, if one does
pub record AreSums (sum : Sum) (xs ys sums : List (Option ℤ)) : Type 0 where
  pub same : length sums ≡ length xs
  pub each : (i : ℕ) (v : ℤ) → Holds sums i v ↔ Adds sum xs ys i v

-- the list of the one or the other series
abbrev pub one_of : Bool → List (Option ℤ) → List (Option ℤ) → List (Option ℤ)
one_of false xs ys = xs
one_of true xs ys = ys
