-- The folded rows are those of the definition.
use Rattle.std.proofs.Common.{ℕ, ℤ, suc, ◌≡◌, ◌<◌, ◌≤◌, arith, refl, ap, sym, ◌∙◌, subst, List, [], ◌∷◌, true, false, cond, ◌==◌, eqb-true}
use Rattle.std.proofs.Common.{All, AllPairs, Contains}
use Rattle.std.proofs.lemmas.Bool.{eqb-false}
use Rattle.std.proofs.lemmas.List.Elements.{All-nil, All-cons, All-head, All-tail, All-weaker}
use Rattle.std.proofs.lemmas.List.Kept.{AllPairs-cons}
use Rattle.line_raster.specs.declared.position.Point.{Point}
use Rattle.m4_groups.specs.declared.row.Row.{Row}
use Rattle.m4_groups.specs.Points.{values_in}
use Rattle.m4_groups.specs.Rows.{Sums, columns_of, AreRows}
use Rattle.m4_groups.specs.Folded.{row_of_one, row_from, put_first, rows_from}
use Rattle.m4_groups.proofs.Values.{values_in-own, values_in-other, values_in-none, Sums-more, Sums-one, Contains-here, Contains-later}
use Rattle.m4_groups.proofs.Vertical.{Begins}
use Rattle.m4_groups.proofs.DrawnRows.{Starts, starts}

pub AllPairs-head : {X : Type 0} (R : X → X → Type 0) (x : X) (xs : List X) → AllPairs R (x ∷ xs) → All (R x) xs
AllPairs-head R x xs h k d lt = h 0 (suc k) d (omega arith) (omega (arith, lt))

pub AllPairs-tail : {X : Type 0} (R : X → X → Type 0) (x : X) (xs : List X) → AllPairs R (x ∷ xs) → AllPairs R xs
AllPairs-tail R x xs h i j d lt in' = h (suc i) (suc j) d (omega (arith, lt)) (omega (arith, in'))

pub AllPairs-none : {X : Type 0} (R : X → X → Type 0) → AllPairs R []
AllPairs-none R i j d lt in' = absurd (omega (arith, in'))

-- the columns of the points don't fall
abbrev pub GoRight : List Point → Type 0
GoRight xs = AllPairs (λ p q. p.x ≤ q.x) xs

-- a row takes the same sums of the same values
same_sums : (r : Row) (us vs : List ℤ) → us ≡ vs → Sums r vs → Sums r us
same_sums r us vs e h =
    let P : List ℤ → Type 0 = λ l. Sums r l in
    subst P (sym e) h

-- rows of later columns don't see a point more
others : (p : Point) (xs : List Point) (rs : List Row) → All (λ r. p.x < r.column) rs → All (λ r. Sums r (values_in r.column xs)) rs
    → All (λ r. Sums r (values_in r.column (p ∷ xs))) rs
others p xs [] later each = All-nil (λ r. Sums r (values_in r.column (p ∷ xs)))
others p xs (r ∷ rs) later each =
    let beyond : p.x < r.column = All-head (λ s. p.x < s.column) r rs later in
    All-cons (λ s. Sums s (values_in s.column (p ∷ xs))) r rs
    (same_sums r _ _ (values_in-other r.column p xs (λ e. absurd (omega (arith, e, beyond))))
    (All-head (λ s. Sums s (values_in s.column xs)) r rs each))
    (others p xs rs (All-tail (λ s. p.x < s.column) r rs later) (All-tail (λ s. Sums s (values_in s.column xs)) r rs each))

-- the rows of one point
one_row : (p : Point) → AreRows (p ∷ []) (row_of_one p ∷ [])
one_row p = record {
  rising = AllPairs-cons (λ r s. r.column < s.column) (row_of_one p) [] (All-nil (λ s. p.x < s.column))
      (AllPairs-none (λ r s. r.column < s.column));
  each = All-cons (λ r. Sums r (values_in r.column (p ∷ []))) (row_of_one p) []
      (same_sums (row_of_one p) _ _ (values_in-own p.x p [] refl) (Sums-one p)) (All-nil (λ r. Sums r (values_in r.column (p ∷ []))));
  every = All-cons (λ s. Contains (p.x ∷ []) s.x) p [] (Contains-here p.x []) (All-nil (λ s. Contains (p.x ∷ []) s.x));
}

-- a point more in the column of the first row
same_row : (p : Point) (xs : List Point) (r : Row) (rs : List Row) → p.x ≡ r.column → AreRows xs (r ∷ rs)
    → AreRows (p ∷ xs) (row_from p r ∷ rs)
same_row p xs r rs e h =
    let later : All (λ s. r.column < s.column) rs = AllPairs-head (λ a b. a.column < b.column) r rs h.rising in
    record {
      rising = AllPairs-cons (λ a b. a.column < b.column) (row_from p r) rs later
          (AllPairs-tail (λ a b. a.column < b.column) r rs h.rising);
      each = All-cons (λ s. Sums s (values_in s.column (p ∷ xs))) (row_from p r) rs
          (same_sums (row_from p r) _ _ (values_in-own r.column p xs e)
          (Sums-more p r (values_in r.column xs) (All-head (λ s. Sums s (values_in s.column xs)) r rs h.each)))
          (others p xs rs (All-weaker (λ s. r.column < s.column) (λ s. p.x < s.column) (λ s lt. omega (arith, lt, e)) rs later)
          (All-tail (λ s. Sums s (values_in s.column xs)) r rs h.each));
      every = All-cons (λ s. Contains (columns_of (r ∷ rs)) s.x) p xs
          (let P : ℕ → Type 0 = λ c. Contains (columns_of (r ∷ rs)) c in subst P (sym e) (Contains-here r.column (columns_of rs)))
          h.every;
    }

-- a point before the column of the first row
new_row : (p : Point) (xs : List Point) (r : Row) (rs : List Row) → p.x < r.column → All (λ s. p.x < s.x) xs → AreRows xs (r ∷ rs)
    → AreRows (p ∷ xs) (row_of_one p ∷ (r ∷ rs))
new_row p xs r rs lt beyond h =
    let later : All (λ s. p.x < s.column) (r ∷ rs) =
    All-cons (λ s. p.x < s.column) r rs lt
    (All-weaker (λ s. r.column < s.column) (λ s. p.x < s.column) (λ s less. omega (arith, less, lt)) rs
    (AllPairs-head (λ a b. a.column < b.column) r rs h.rising)) in
    record {
      rising = AllPairs-cons (λ a b. a.column < b.column) (row_of_one p) (r ∷ rs) later h.rising;
      each = All-cons (λ s. Sums s (values_in s.column (p ∷ xs))) (row_of_one p) (r ∷ rs)
          (same_sums (row_of_one p) _ _ (values_in-own p.x p xs refl ∙ ap (λ l. p.y ∷ l) (values_in-none p.x xs beyond)) (Sums-one p))
          (others p xs (r ∷ rs) later h.each);
      every = All-cons (λ s. Contains (columns_of (row_of_one p ∷ (r ∷ rs))) s.x) p xs (Contains-here p.x (columns_of (r ∷ rs)))
          (All-weaker (λ s. Contains (columns_of (r ∷ rs)) s.x) (λ s. Contains (columns_of (row_of_one p ∷ (r ∷ rs))) s.x)
          (λ s own. Contains-later p.x s.x (columns_of (r ∷ rs)) own) xs h.every);
    }

one_more : (p q : Point) (xs : List Point) (r : Row) (rs : List Row) → GoRight (p ∷ (q ∷ xs)) → Begins q r → AreRows (q ∷ xs) (r ∷ rs)
    → AreRows (p ∷ (q ∷ xs)) (put_first p (r ∷ rs))
one_more p q xs r rs right b h =
    elim (p.x == r.column) as (λ t. (p.x == r.column) ≡ t → AreRows (p ∷ (q ∷ xs)) (cond t (row_from p r ∷ rs) (row_of_one p ∷ (r ∷ rs)))) [
      | true ↦ λ e. same_row p (q ∷ xs) r rs (eqb-true p.x r.column e) h
      | false ↦ λ e. new_row p (q ∷ xs) r rs (before_row e) (before_all e) h
    ] refl
  where
    reaches : p.x ≤ q.x
    reaches = All-head (λ s. p.x ≤ s.x) q xs (AllPairs-head (λ a c. a.x ≤ c.x) p (q ∷ xs) right)

    onwards : All (λ s. q.x ≤ s.x) xs
    onwards = AllPairs-head (λ a c. a.x ≤ c.x) q xs (AllPairs-tail (λ a c. a.x ≤ c.x) p (q ∷ xs) right)

    before_row : (p.x == r.column) ≡ false → p.x < r.column
    before_row e = omega (arith, eqb-false p.x r.column e, reaches, b.column)

    before_all : (p.x == r.column) ≡ false → All (λ s. p.x < s.x) (q ∷ xs)
    before_all e =
        All-cons (λ s. p.x < s.x) q xs (omega (arith, before_row e, b.column))
        (All-weaker (λ s. q.x ≤ s.x) (λ s. p.x < s.x) (λ s le. omega (arith, le, before_row e, b.column)) xs onwards)

extended : (p q : Point) (xs : List Point) (rs : List Row) → GoRight (p ∷ (q ∷ xs)) → Starts q rs → AreRows (q ∷ xs) rs
    → AreRows (p ∷ (q ∷ xs)) (put_first p rs)
extended p q xs rs right s ih =
    let P : List Row → Type 0 = λ l. AreRows (q ∷ xs) l → AreRows (p ∷ (q ∷ xs)) (put_first p l) in
    subst P (sym s.is) (one_more p q xs s.row s.rest right s.begins) ih

no_rows : AreRows [] []
no_rows = record {
  rising = AllPairs-none (λ r s. r.column < s.column);
  each = All-nil (λ r. Sums r (values_in r.column []));
  every = All-nil (λ s. Contains [] s.x);
}

-- the folded rows of points whose columns don't fall
pub rows_from-are : (xs : List Point) → GoRight xs → AreRows xs (rows_from xs)
rows_from-are [] right = no_rows
rows_from-are (p ∷ []) right = one_row p
rows_from-are (p ∷ (q ∷ xs)) right =
    extended p q xs (rows_from (q ∷ xs)) right (starts q xs)
    (rows_from-are (q ∷ xs) (AllPairs-tail (λ a c. a.x ≤ c.x) p (q ∷ xs) right))
