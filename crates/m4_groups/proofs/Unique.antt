-- A list of points has one list of rows.
use Rattle.std.proofs.Common.{ℕ, ℤ, zero, suc, ◌≡◌, ◌-◌, ◌<◌, ◌≤◌, ◌≤ℤ◌, arith, refl, ap, ap₂, sym, ◌∙◌, subst, List, [], ◌∷◌, length}
use Rattle.std.proofs.Common.{slice_get, slice_index_or, Option, Some, All, Contains, ◌==◌, true, false, eqb-true}
use Rattle.std.proofs.lemmas.Int.{ints}
use Rattle.std.proofs.lemmas.Bool.{eqb-false}
use Rattle.std.proofs.lemmas.List.Elements.{All-cons, All-head, All-tail, All-weaker, All-contains, All-map}
use Rattle.line_raster.specs.declared.position.Point.{Point}
use Rattle.m4_groups.specs.declared.row.Row.{Row}
use Rattle.m4_groups.specs.Points.{values_in}
use Rattle.m4_groups.specs.Rows.{IsLeast, IsGreatest, Sums, AreRising, columns_of, AreRows}
use Rattle.m4_groups.proofs.Values.{values_in-other}
use Rattle.m4_groups.proofs.Sets.{AllPairs-head, AllPairs-tail}

pub least_is : (u v : ℤ) (vs : List ℤ) → IsLeast u vs → IsLeast v vs → u ≡ v
least_is u v vs g h =
    omega (arith, ints, All-contains (λ w. u ≤ℤ w) vs v g.least h.among, All-contains (λ w. v ≤ℤ w) vs u h.least g.among)

pub greatest_is : (u v : ℤ) (vs : List ℤ) → IsGreatest u vs → IsGreatest v vs → u ≡ v
greatest_is u v vs g h =
    omega (arith, ints, All-contains (λ w. w ≤ℤ u) vs v g.greatest h.among, All-contains (λ w. w ≤ℤ v) vs u h.greatest g.among)

got : {X : Type 0} (o : Option X) (u v : X) → o ≡ Some u → o ≡ Some v → u ≡ v
got o u v e f = cc

fields_are : (r s : Row) → r.column ≡ s.column → r.first ≡ s.first → r.least ≡ s.least → r.greatest ≡ s.greatest → r.last ≡ s.last → r ≡ s
fields_are r s a b c d f =
    let front : ℕ → ℤ → Row = λ i j. record { column = i; first = j; least = r.least; greatest = r.greatest; last = r.last } in
    let middle : ℤ → ℤ → Row = λ i j. record { column = s.column; first = s.first; least = i; greatest = j; last = r.last } in
    let back : ℤ → Row = λ i. record { column = s.column; first = s.first; least = s.least; greatest = s.greatest; last = i } in
    ap₂ front a b ∙ ap₂ middle c d ∙ ap back f

-- the same values have one row in a column
one_row : (r s : Row) (vs : List ℤ) → r.column ≡ s.column → Sums r vs → Sums s vs → r ≡ s
one_row r s vs e g h =
    let first : r.first ≡ s.first = got (slice_get vs 0) r.first s.first g.first h.first in
    let least : r.least ≡ s.least = least_is r.least s.least vs g.least h.least in
    let greatest : r.greatest ≡ s.greatest = greatest_is r.greatest s.greatest vs g.greatest h.greatest in
    let last : r.last ≡ s.last = got (slice_get vs (length vs - 1)) r.last s.last g.last h.last in
    fields_are r s e first least greatest last

-- what a row of the column has to be
abbrev pub SumsIn : List Point → Row → Type 0
SumsIn xs r = Sums r (values_in r.column xs)

same_column : (xs : List Point) (r s : Row) → SumsIn xs r → SumsIn xs s → r.column ≡ s.column → r ≡ s
same_column xs r s g h e =
    let P : ℕ → Type 0 = λ c. Sums s (values_in c xs) in
    one_row r s (values_in r.column xs) e g (subst P (sym e) h)

-- the columns of these rows are columns of those
abbrev pub HaveColumnsOf : List Row → List Row → Type 0
HaveColumnsOf rs ss = All (λ r. Contains (columns_of ss) r.column) rs

first_lowest : (s : Row) (ss : List Row) (c : ℕ) → AreRising (s ∷ ss) → Contains (columns_of (s ∷ ss)) c → s.column ≤ c
first_lowest s ss c rising has =
    All-contains (λ d. s.column ≤ d) (columns_of (s ∷ ss)) c
    (All-cons (λ d. s.column ≤ d) s.column (columns_of ss) (omega arith)
    (All-map (λ d. s.column ≤ d) (λ r. r.column) ss
    (All-weaker (λ r. s.column < r.column) (λ r. s.column ≤ r.column) (λ r lt. omega (arith, lt)) ss
    (AllPairs-head (λ a b. a.column < b.column) s ss rising))))
    has

among_rest : (d c : ℕ) (ds : List ℕ) → d < c → Contains (d ∷ ds) c → Contains ds c
among_rest d c ds lt h =
    elim h.0 as (λ k. k < length (d ∷ ds) → slice_index_or (d ∷ ds) k c ≡ c → Contains ds c) [
      | zero ↦ λ within e. absurd (omega (arith, e, lt))
      | suc j ↦ λ within e. (j, omega (arith, within), e)
    ] h.1 h.2

rest_columns : (r s : Row) (rs ss : List Row) → r.column ≡ s.column → AreRising (r ∷ rs) → HaveColumnsOf rs (s ∷ ss) → HaveColumnsOf rs ss
rest_columns r s rs ss e rising has =
    both_all (λ t. r.column < t.column) (λ t. Contains (columns_of (s ∷ ss)) t.column) (λ t. Contains (columns_of ss) t.column) rs
    (λ t lt own. among_rest s.column t.column (columns_of ss) (omega (arith, lt, e)) own)
    (AllPairs-head (λ a b. a.column < b.column) r rs rising) has
  where
    both_all : (P Q R : Row → Type 0) (rs : List Row) → ((t : Row) → P t → Q t → R t) → All P rs → All Q rs → All R rs
    both_all P Q R rs f p q k d lt = f (slice_index_or rs k d) (p k d lt) (q k d lt)

same_rows : (xs : List Point) (rs ss : List Row) → AreRising rs → AreRising ss → All (SumsIn xs) rs → All (SumsIn xs) ss
    → HaveColumnsOf rs ss → HaveColumnsOf ss rs → rs ≡ ss
same_rows xs [] [] up down g h into back = refl
same_rows xs [] (s ∷ ss) up down g h into back =
    absurd (omega (arith, (All-head (λ r. Contains [] r.column) s ss back).1))
same_rows xs (r ∷ rs) [] up down g h into back =
    absurd (omega (arith, (All-head (λ t. Contains [] t.column) r rs into).1))
same_rows xs (r ∷ rs) (s ∷ ss) up down g h into back =
    let low : s.column ≤ r.column = first_lowest s ss r.column down (All-head (λ t. Contains (columns_of (s ∷ ss)) t.column) r rs into) in
    let high : r.column ≤ s.column = first_lowest r rs s.column up (All-head (λ t. Contains (columns_of (r ∷ rs)) t.column) s ss back) in
    let e : r.column ≡ s.column = omega arith in
    let head : r ≡ s = same_column xs r s (All-head (SumsIn xs) r rs g) (All-head (SumsIn xs) s ss h) e in
    let tail : rs ≡ ss =
    same_rows xs rs ss (AllPairs-tail (λ a b. a.column < b.column) r rs up) (AllPairs-tail (λ a b. a.column < b.column) s ss down)
    (All-tail (SumsIn xs) r rs g) (All-tail (SumsIn xs) s ss h)
    (rest_columns r s rs ss e up (All-tail (λ t. Contains (columns_of (s ∷ ss)) t.column) r rs into))
    (rest_columns s r ss rs (sym e) down (All-tail (λ t. Contains (columns_of (r ∷ rs)) t.column) s ss back)) in
    ap₂ (λ a b. a ∷ b) head tail

-- a column with a value has a point
has_point : (c : ℕ) (v : ℤ) (xs : List Point) (cs : List ℕ) → slice_get (values_in c xs) 0 ≡ Some v → All (λ s. Contains cs s.x) xs
    → Contains cs c
has_point c v [] cs e every = absurd (cc)
has_point c v (s ∷ xs) cs e every =
    elim (s.x == c) as (λ t. (s.x == c) ≡ t → Contains cs c) [
      | true ↦ λ same.
          let P : ℕ → Type 0 = λ d. Contains cs d in
          subst P (eqb-true s.x c same) (All-head (λ p. Contains cs p.x) s xs every)
      | false ↦ λ other.
          has_point c v xs cs
          (ap (λ l. slice_get l 0) (sym (values_in-other c s xs (eqb-false s.x c other))) ∙ e)
          (All-tail (λ p. Contains cs p.x) s xs every)
    ] refl

columns_within : (xs : List Point) (rs ss : List Row) → AreRows xs rs → AreRows xs ss → HaveColumnsOf rs ss
columns_within xs rs ss g h =
    All-weaker (SumsIn xs) (λ r. Contains (columns_of ss) r.column)
    (λ r sums. has_point r.column r.first xs (columns_of ss) sums.first h.every) rs g.each

-- a list of points has one list of rows
pub AreRows-one : (xs : List Point) (rs ss : List Row) → AreRows xs rs → AreRows xs ss → rs ≡ ss
AreRows-one xs rs ss g h =
    same_rows xs rs ss g.rising h.rising g.each h.each (columns_within xs rs ss g h) (columns_within xs ss rs h g)
