-- The range of values that rows show is that of their points.
use Rattle.std.proofs.Common.{◌≡◌, ℕ, ℤ, pos, ◌<◌, ◌≤ℤ◌, ◌⊎◌, inl, inr, zero, suc, List, [], ◌∷◌, ◌++◌, length, map, get_or, Option, None}
use Rattle.std.proofs.Common.{Some, unwrap_or, All, Contains, sym, ap, subst, refl, arith}
use Rattle.std.specs.Int.{int_min, int_max}
use Rattle.std.proofs.lemmas.Int.{ints}
use Rattle.std.proofs.lemmas.Bool.{cases_eq}
use Rattle.std.proofs.lemmas.List.{map-append}
use Rattle.std.proofs.lemmas.List.Elements.{All-nil, All-cons, All-append, All-contains, Contains-append_left, Contains-append_right}
use Rattle.chart_grid.specs.declared.grid.Grid.{Grid}
use Rattle.chart_grid.specs.Projection.{column}
use Rattle.line_raster.specs.declared.position.Point.{Point}
use Rattle.plain_chart.specs.declared.value_range.ValueRange.{ValueRange}
use Rattle.plain_chart.specs.Samples.{Spans, IsRange, values_of, sample_points}
use Rattle.whole_number.specs.Range.{IsValue}
use Rattle.plain_chart.specs.declared.sample.Sample.{Sample}
use Rattle.m4_groups.specs.declared.row.Row.{Row}
use Rattle.m4_groups.specs.Points.{spots, values_in}
use Rattle.m4_groups.specs.Rows.{columns_of, AreRowsOf}
use Rattle.m4_groups.specs.Heights.{IsDrawable}
use Rattle.m4_groups.proofs.Values.{values_in-own, values_in-other, Contains-here, Contains-later}
use Rattle.row_chart.specs.Ranges.{values_at, SpanRows, SpansRows}

min-either : (a b : ℤ) → (int_min a b ≡ a) ⊎ (int_min a b ≡ b)
min-either a b = grind (arith, ints)

max-either : (a b : ℤ) → (int_max a b ≡ a) ⊎ (int_max a b ≡ b)
max-either a b = grind (arith, ints)

min-left : (a b w : ℤ) → a ≤ℤ w → int_min a b ≤ℤ w
min-left a b w h = grind (arith, ints)

min-right : (a b : ℤ) → int_min a b ≤ℤ b
min-right a b = grind (arith, ints)

max-left : (a b w : ℤ) → w ≤ℤ a → w ≤ℤ int_max a b
max-left a b w h = grind (arith, ints)

max-right : (a b : ℤ) → b ≤ℤ int_max a b
max-right a b = grind (arith, ints)

-- one of two numbers is among the values of all rows
among-more : (f : Row → ℤ) (rows : List Row) (r : Row) (a m : ℤ) → Contains (map f rows) a → (m ≡ a) ⊎ (m ≡ f r)
    → Contains (map f (rows ++ r ∷ [])) m
among-more f rows r a m old is =
    let P : ℤ → Type 0 = λ v. Contains (map f (rows ++ r ∷ [])) v in
    let Q : List ℤ → Type 0 = λ vs. Contains vs a in
    let R : List ℤ → Type 0 = λ vs. Contains vs (f r) in
    elim is [
      | inl e ↦ subst P (sym e) (subst Q (sym (map-append f rows (r ∷ []))) (Contains-append_left (map f rows) (f r ∷ []) a old))
      | inr e ↦ subst P (sym e) (subst R (sym (map-append f rows (r ∷ [])))
          (Contains-append_right (map f rows) (f r ∷ []) (f r) (Contains-here (f r) [])))
    ]

alone : (P : Row → Type 0) (r : Row) → P r → All P (r ∷ [])
alone P r h = All-cons P r [] h (All-nil P)

weaker : (P Q : Row → Type 0) (rows : List Row) → ((r : Row) → P r → Q r) → All P rows → All Q rows
weaker P Q rows f h k d inside = f (get_or rows k d) (h k d inside)

pub span_more : (rows : List Row) (r : Row) (a b : ValueRange) → b.lo ≡ int_min a.lo r.least → b.hi ≡ int_max a.hi r.greatest
    → SpanRows rows a → SpanRows (rows ++ r ∷ []) b
span_more rows r a b low high s =
    let L : ℤ → Type 0 = λ z. Contains (map (λ (r : Row). r.least) (rows ++ r ∷ [])) z in
    let G : ℤ → Type 0 = λ z. Contains (map (λ (r : Row). r.greatest) (rows ++ r ∷ [])) z in
    let B : ℤ → Type 0 = λ z. All (λ (r : Row). z ≤ℤ r.least) (rows ++ r ∷ []) in
    let A : ℤ → Type 0 = λ z. All (λ (r : Row). r.greatest ≤ℤ z) (rows ++ r ∷ []) in
    record {
      least = subst L (sym low) (among-more (λ (r : Row). r.least) rows r a.lo (int_min a.lo r.least) s.least (min-either a.lo r.least));
      none_below = subst B (sym low) (All-append (λ (q : Row). int_min a.lo r.least ≤ℤ q.least) rows (r ∷ [])
          (weaker (λ q. a.lo ≤ℤ q.least) (λ q. int_min a.lo r.least ≤ℤ q.least) rows (λ q h. min-left a.lo r.least q.least h) s.none_below)
          (alone (λ q. int_min a.lo r.least ≤ℤ q.least) r (min-right a.lo r.least)));
      greatest = subst G (sym high) (among-more (λ (r : Row). r.greatest) rows r a.hi (int_max a.hi r.greatest) s.greatest
          (max-either a.hi r.greatest));
      none_above = subst A (sym high) (All-append (λ (q : Row). q.greatest ≤ℤ int_max a.hi r.greatest) rows (r ∷ [])
          (weaker (λ q. q.greatest ≤ℤ a.hi) (λ q. q.greatest ≤ℤ int_max a.hi r.greatest) rows
          (λ q h. max-left a.hi r.greatest q.greatest h) s.none_above)
          (alone (λ q. q.greatest ≤ℤ int_max a.hi r.greatest) r (max-right a.hi r.greatest)));
    }

head-or-tail : (x v : ℤ) (vs : List ℤ) → Contains (x ∷ vs) v → (x ≡ v) ⊎ Contains vs v
head-or-tail x v vs (zero, low, is) = inl is
head-or-tail x v vs (suc i, low, is) = inr (i, omega (arith, low), is)

among-own : (g : Grid) (c : ℕ) (p : ℤ × ℤ) (points : List (ℤ × ℤ)) (v : ℤ) → Contains (p.1 ∷ values_in c (spots g points)) v
    → (Contains (values_in c (spots g points)) v → Contains (values_at points) v) → Contains (values_at (p ∷ points)) v
among-own g c p points v h ih = elim (head-or-tail p.1 v (values_in c (spots g points)) h) [
  | inl is ↦ subst (λ (u : ℤ). Contains (values_at (p ∷ points)) u) is (Contains-here p.1 (values_at points))
  | inr later ↦ Contains-later p.1 v (values_at points) (ih later)
]

-- a value of a column is one of the points'
among-points : (g : Grid) (c : ℕ) (points : List (ℤ × ℤ)) (v : ℤ) → Contains (values_in c (spots g points)) v
    → Contains (values_at points) v
among-points g c [] v h = absurd (omega (arith, h.1))
among-points g c (p ∷ points) v h =
    let s : Point = record { x = column g p.0; y = p.1 } in
    elim (cases_eq s.x c) [
      | inl same ↦ among-own g c p points v (subst (λ (vs : List ℤ). Contains vs v) (values_in-own c s (spots g points) same) h)
          (among-points g c points v)
      | inr other ↦ Contains-later p.1 v (values_at points)
          (among-points g c points v (subst (λ (vs : List ℤ). Contains vs v) (values_in-other c s (spots g points) other) h))
    ]

-- a point's value is one of its column's
in-column : (g : Grid) (points : List (ℤ × ℤ)) (k : ℕ) (d : ℤ × ℤ) → k < length points
    → Contains (values_in (column g (get_or points k d).0) (spots g points)) (get_or points k d).1
in-column g [] k d low = absurd (omega (arith, low))
in-column g (p ∷ points) zero d low =
    let s : Point = record { x = column g p.0; y = p.1 } in
    subst (λ (vs : List ℤ). Contains vs p.1) (sym (values_in-own s.x s (spots g points) refl)) (Contains-here p.1 _)
in-column g (p ∷ points) (suc k) d low =
    let s : Point = record { x = column g p.0; y = p.1 } in
    let c = column g (get_or points k d).0 in
    let v = (get_or points k d).1 in
    let rest = in-column g points k d (omega (arith, low)) in
    elim (cases_eq s.x c) [
      | inl same ↦ subst (λ (vs : List ℤ). Contains vs v) (sym (values_in-own c s (spots g points) same)) (Contains-later s.y v _ rest)
      | inr other ↦ subst (λ (vs : List ℤ). Contains vs v) (sym (values_in-other c s (spots g points) other)) rest
    ]

-- a row of a column
row-at : (rows : List Row) (c : ℕ) → Contains (columns_of rows) c → (k : ℕ) × (k < length rows) × ((d : Row) → (get_or rows k d).column ≡ c)
row-at [] c h = absurd (omega (arith, h.1))
row-at (r ∷ rows) c (zero, low, is) = (0, omega arith, λ d. is)
row-at (r ∷ rows) c (suc k, low, is) =
    let found = row-at rows c (k, omega (arith, low), is) in (suc found.0, omega (arith, found.1), λ d. found.2 d)

-- a row with a least value among the rows
row-with : (f : Row → ℤ) (rows : List Row) (v : ℤ) → Contains (map f rows) v
    → (k : ℕ) × (k < length rows) × ((d : Row) → f (get_or rows k d) ≡ v)
row-with f [] v h = absurd (omega (arith, h.1))
row-with f (r ∷ rows) v (zero, low, is) = (0, omega arith, λ d. is)
row-with f (r ∷ rows) v (suc k, low, is) =
    let found = row-with f rows v (k, omega (arith, low), is) in (suc found.0, omega (arith, found.1), λ d. found.2 d)

some-row : Row
some-row = record { column = 0; first = pos 0; least = pos 0; greatest = pos 0; last = pos 0 }

value-at : (points : List (ℤ × ℤ)) (k : ℕ) (d : ℤ) → k < length (values_at points)
    → (k < length points) × (get_or (values_at points) k d ≡ (get_or points k (pos 0, pos 0)).1)
value-at [] k d low = absurd (omega (arith, low))
value-at (p ∷ points) zero d low = (omega arith, refl)
value-at (p ∷ points) (suc k) d low = let rest = value-at points k d (omega (arith, low)) in (omega (arith, rest.0), rest.1)

spot-at : (g : Grid) (points : List (ℤ × ℤ)) (k : ℕ) (d : Point) → k < length points
    → (k < length (spots g points)) × ((get_or (spots g points) k d).x ≡ column g (get_or points k (pos 0, pos 0)).0)
spot-at g [] k d low = absurd (omega (arith, low))
spot-at g (p ∷ points) zero d low = (omega arith, refl)
spot-at g (p ∷ points) (suc k) d low = let rest = spot-at g points k d (omega (arith, low)) in (omega (arith, rest.0), rest.1)

-- a row has each point's value between its ends
row-holds : (g : Grid) (points : List (ℤ × ℤ)) (rows : List Row) → AreRowsOf g points rows → (k : ℕ) (d : ℤ) → k < length (values_at points)
    → (j : ℕ) × (j < length rows) × ((get_or rows j some-row).least ≤ℤ get_or (values_at points) k d)
    × (get_or (values_at points) k d ≤ℤ (get_or rows j some-row).greatest)
row-holds g points rows own k d inside =
    let p = get_or points k (pos 0, pos 0) in
    let is = value-at points k d inside in
    let dot : Point = record { x = 0; y = pos 0 } in
    let spot = spot-at g points k dot is.0 in
    let row = row-at rows (column g p.0) (subst (λ (c : ℕ). Contains (columns_of rows) c) spot.1 (own.every k dot spot.0)) in
    let r = get_or rows row.0 some-row in
    let sums = own.each row.0 some-row row.1 in
    let among : Contains (values_in r.column (spots g points)) p.1 =
    subst (λ (c : ℕ). Contains (values_in c (spots g points)) p.1) (sym (row.2 some-row)) (in-column g points k (pos 0, pos 0) is.0) in (
      row.0,
      row.1,
      subst (λ (v : ℤ). r.least ≤ℤ v) (sym is.1) (All-contains (λ v. r.least ≤ℤ v)
          (values_in r.column (spots g points)) p.1 sums.least.least among),
      subst (λ (v : ℤ). v ≤ℤ r.greatest) (sym is.1)
          (All-contains (λ v. v ≤ℤ r.greatest) (values_in r.column (spots g points)) p.1 sums.greatest.greatest among),
    )

point-above : (g : Grid) (points : List (ℤ × ℤ)) (rows : List Row) (a : ValueRange) → AreRowsOf g points rows → SpanRows rows a
    → (k : ℕ) (d : ℤ) → k < length (values_at points)
    → a.lo ≤ℤ get_or (values_at points) k d
point-above g points rows a own s k d inside =
    let row = row-holds g points rows own k d inside in omega (arith, ints, s.none_below row.0 some-row row.1, row.2)

point-below : (g : Grid) (points : List (ℤ × ℤ)) (rows : List Row) (a : ValueRange) → AreRowsOf g points rows → SpanRows rows a
    → (k : ℕ) (d : ℤ) → k < length (values_at points)
    → get_or (values_at points) k d ≤ℤ a.hi
point-below g points rows a own s k d inside =
    let row = row-holds g points rows own k d inside in omega (arith, ints, s.none_above row.0 some-row row.1, row.3)

spans-points : (g : Grid) (points : List (ℤ × ℤ)) (rows : List Row) (a : ValueRange) → AreRowsOf g points rows → SpanRows rows a
    → Spans (values_at points) a
spans-points g points rows a own s =
    let low = row-with (λ (r : Row). r.least) rows a.lo s.least in
    let high = row-with (λ (r : Row). r.greatest) rows a.hi s.greatest in
    let l = get_or rows low.0 some-row in
    let h = get_or rows high.0 some-row in
    record {
      least = among-points g l.column points a.lo
          (subst (λ (v : ℤ). Contains (values_in l.column (spots g points)) v) (low.2 some-row)
          (own.each low.0 some-row low.1).least.among);
      greatest = among-points g h.column points a.hi
          (subst (λ (v : ℤ). Contains (values_in h.column (spots g points)) v) (high.2 some-row)
          (own.each high.0 some-row high.1).greatest.among);
      none_below = λ k d inside. point-above g points rows a own s k d inside;
      none_above = λ k d inside. point-below g points rows a own s k d inside;
    }

pub range_from : (g : Grid) (points : List (ℤ × ℤ)) (rows : List Row) (o : Option ValueRange) (zero_range : ValueRange)
    → zero_range.lo ≡ pos 0 → zero_range.hi ≡ pos 0 → AreRowsOf g points rows → SpansRows o rows
    → IsRange (values_at points) (unwrap_or o zero_range)
range_from g [] rows None z low high own s = (low, high)
range_from g (p ∷ points) rows None z low high own s =
    absurd (omega (
      arith,
      (subst (λ (rs : List Row). Contains (columns_of rs) (column g p.0)) s
          (own.every 0 (record { x = 0; y = pos 0 }) (omega arith))).1,
    ))
range_from g [] rows (Some a) z low high own s =
    let found = row-with (λ (r : Row). r.least) rows a.lo s.least in
    absurd (omega (arith, (own.each found.0 some-row found.1).least.among.1))
range_from g (p ∷ points) rows (Some a) z low high own s = spans-points g (p ∷ points) rows a own s

-- its ends are values that a series can hold
pub range_sizes : (w : ℕ) (rows : List Row) (o : Option ValueRange) (z : ValueRange) → z.lo ≡ pos 0 → z.hi ≡ pos 0 → All (IsDrawable w) rows
    → SpansRows o rows
    → IsValue (unwrap_or o z).lo × IsValue (unwrap_or o z).hi
range_sizes w rows None z low high drawable s =
    (subst (λ (v : ℤ). IsValue v) (sym low) (omega arith), subst (λ (v : ℤ). IsValue v) (sym high) (omega arith))
range_sizes w rows (Some a) z low high drawable s =
    let l = row-with (λ (r : Row). r.least) rows a.lo s.least in
    let h = row-with (λ (r : Row). r.greatest) rows a.hi s.greatest in (
      subst (λ (v : ℤ). IsValue v) (l.2 some-row) (drawable l.0 some-row l.1).least,
      subst (λ (v : ℤ). IsValue v) (h.2 some-row) (drawable h.0 some-row h.1).greatest,
    )

-- samples as points have their values
pub values-same : (samples : List Sample) → values_at (sample_points samples) ≡ values_of samples
values-same [] = refl
values-same (s ∷ samples) = ap (λ vs. s.value ∷ vs) (values-same samples)

-- and they are in order
pub range_rises : (w : ℕ) (rows : List Row) (o : Option ValueRange) (z : ValueRange) → z.lo ≡ pos 0 → z.hi ≡ pos 0 → All (IsDrawable w) rows
    → SpansRows o rows
    → (unwrap_or o z).lo ≤ℤ (unwrap_or o z).hi
range_rises w rows None z low high drawable s = omega (arith, ints, low, high)
range_rises w rows (Some a) z low high drawable s =
    let l = row-with (λ (r : Row). r.least) rows a.lo s.least in
    let order = (drawable l.0 some-row l.1).order in
    omega (arith, ints, l.2 some-row, order, s.none_above l.0 some-row l.1)
