-- The values of a column, and a row of them.
use Rattle.std.proofs.Common.{ℕ, ℤ, suc, ◌≡◌, ◌≢◌, ◌-◌, ◌<◌, ◌≤ℤ◌, arith, refl, ap, sym, ◌∙◌, subst, List, [], ◌∷◌, Bool, true, false, cond}
use Rattle.std.proofs.Common.{◌==◌, eq-eqb, map, length, slice_get, Some, All, Contains}
use Rattle.std.specs.Int.{int_min, int_max}
use Rattle.std.proofs.lemmas.Int.{ints, clamps, by_lt_z}
use Rattle.std.proofs.lemmas.List.Elements.{All-nil, All-cons, All-head, All-tail, All-weaker}
use Rattle.line_raster.specs.declared.position.Point.{Point}
use Rattle.m4_groups.specs.declared.row.Row.{Row}
use Rattle.m4_groups.specs.Points.{values_in}
use Rattle.m4_groups.specs.Rows.{IsLeast, IsGreatest, Sums}
use Rattle.m4_groups.specs.Folded.{row_of_one, row_from}

kept : (b : Bool) (x y : List Point) → b ≡ true → cond b x y ≡ x
kept b x y e = rw e

left_out : (b : Bool) (x y : List Point) → b ≡ false → cond b x y ≡ y
left_out b x y e = rw e

not_same : (a b : ℕ) → a ≢ b → (a == b) ≡ false
not_same a b n = grind arith

-- a point of the column adds its value in front
pub values_in-own : (c : ℕ) (s : Point) (xs : List Point) → s.x ≡ c → values_in c (s ∷ xs) ≡ s.y ∷ values_in c xs
values_in-own c s xs e = ap (map (λ t. t.y)) (kept (s.x == c) _ _ (eq-eqb s.x c e))

-- a point of another column adds none
pub values_in-other : (c : ℕ) (s : Point) (xs : List Point) → s.x ≢ c → values_in c (s ∷ xs) ≡ values_in c xs
values_in-other c s xs n = ap (map (λ t. t.y)) (left_out (s.x == c) _ _ (not_same s.x c n))

-- a column below those of all points has no values
pub values_in-none : (c : ℕ) (xs : List Point) → All (λ s. c < s.x) xs → values_in c xs ≡ []
values_in-none c [] h = refl
values_in-none c (s ∷ xs) h =
    let here : c < s.x = All-head (λ t. c < t.x) s xs h in
    values_in-other c s xs (λ e. absurd (omega arith)) ∙ values_in-none c xs (All-tail (λ t. c < t.x) s xs h)

pub Contains-here : {X : Type 0} (x : X) (xs : List X) → Contains (x ∷ xs) x
Contains-here x xs = (0, omega arith, refl)

pub Contains-later : {X : Type 0} (x y : X) (xs : List X) → Contains xs y → Contains (x ∷ xs) y
Contains-later x y xs h = (suc h.0, omega (arith, h.1), h.2)

least_more : (v m : ℤ) (vs : List ℤ) → IsLeast m vs → IsLeast (int_min v m) (v ∷ vs)
least_more v m vs h =
    by_lt_z m v
    (λ old.
    let is : int_min v m ≡ m = omega (arith, ints, clamps, old) in
    let P : ℤ → Type 0 = λ z. IsLeast z (v ∷ vs) in
    subst P (sym is) (record {
      among = Contains-later v m vs h.among;
      least = All-cons (λ u. m ≤ℤ u) v vs (omega (arith, ints, old)) h.least;
    }))
    (λ fresh.
    let is : int_min v m ≡ v = omega (arith, ints, clamps, fresh) in
    let P : ℤ → Type 0 = λ z. IsLeast z (v ∷ vs) in
    subst P (sym is) (record {
      among = Contains-here v vs;
      least = All-cons (λ u. v ≤ℤ u) v vs (omega (arith, ints))
          (All-weaker (λ u. m ≤ℤ u) (λ u. v ≤ℤ u) (λ u le. omega (arith, ints, le, fresh)) vs h.least);
    }))

greatest_more : (v m : ℤ) (vs : List ℤ) → IsGreatest m vs → IsGreatest (int_max v m) (v ∷ vs)
greatest_more v m vs h =
    by_lt_z m v
    (λ fresh.
    let is : int_max v m ≡ v = omega (arith, ints, clamps, fresh) in
    let P : ℤ → Type 0 = λ z. IsGreatest z (v ∷ vs) in
    subst P (sym is) (record {
      among = Contains-here v vs;
      greatest = All-cons (λ u. u ≤ℤ v) v vs (omega (arith, ints))
          (All-weaker (λ u. u ≤ℤ m) (λ u. u ≤ℤ v) (λ u le. omega (arith, ints, le, fresh)) vs h.greatest);
    }))
    (λ old.
    let is : int_max v m ≡ m = omega (arith, ints, clamps, old) in
    let P : ℤ → Type 0 = λ z. IsGreatest z (v ∷ vs) in
    subst P (sym is) (record {
      among = Contains-later v m vs h.among;
      greatest = All-cons (λ u. u ≤ℤ m) v vs (omega (arith, ints, old)) h.greatest;
    }))

last_more : (v l : ℤ) (vs : List ℤ) → slice_get vs (length vs - 1) ≡ Some l → slice_get (v ∷ vs) (length (v ∷ vs) - 1) ≡ Some l
last_more v l [] e = absurd (cc)
last_more v l (u ∷ us) e =
    let outer : length (v ∷ (u ∷ us)) - 1 ≡ suc (length us) = omega arith in
    let inner : length us ≡ length (u ∷ us) - 1 = omega arith in
    ap (slice_get (v ∷ (u ∷ us))) outer ∙ ap (slice_get (u ∷ us)) inner ∙ e

-- a row with a value more in front
pub Sums-more : (p : Point) (r : Row) (vs : List ℤ) → Sums r vs → Sums (row_from p r) (p.y ∷ vs)
Sums-more p r vs h = record {
  first = refl;
  least = least_more p.y r.least vs h.least;
  greatest = greatest_more p.y r.greatest vs h.greatest;
  last = last_more p.y r.last vs h.last;
}

-- the row of one value
pub Sums-one : (p : Point) → Sums (row_of_one p) (p.y ∷ [])
Sums-one p = record {
  first = refl;
  least = record { among = Contains-here p.y []; least = All-cons (λ u. p.y ≤ℤ u) p.y [] (omega (arith, ints)) (All-nil (λ u. p.y ≤ℤ u)) };
  greatest = record {
    among = Contains-here p.y [];
    greatest = All-cons (λ u. u ≤ℤ p.y) p.y [] (omega (arith, ints)) (All-nil (λ u. u ≤ℤ p.y));
  };
  last = refl;
}
