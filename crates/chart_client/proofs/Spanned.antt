-- What rows tell of the columns of their points.
use Rattle.std.proofs.Common.{ℕ, ℤ, zero, suc, ◌≡◌, ◌≢◌, ◌<◌, ◌≤◌, arith, refl, sym, ap, subst, ◌∙◌, inl, inr, cond, ◌==◌, eq-eqb, List, []}
use Rattle.std.proofs.Common.{◌∷◌, length, get_or, map}
use Rattle.std.specs.Prelude.{Option, Some, None, Result, Ok, Err, IfOk, OnErr, All, Contains, HoldsAt}
use Rattle.std.specs.List.Sorted.{IsSearchInRange, IsBinarySearchResult, IsNonDecreasingBy}
use Rattle.std.specs.Ordering.{nat_cmp, ordering_index}
use Rattle.std.proofs.lemmas.Bool.{cases_eq, cases_lt, ne_eqb, cond-true, cond-false}
use Rattle.std.proofs.lemmas.Bool.Decides.{nat_tests}
use Rattle.std.proofs.lemmas.Cmp.{ranked}
use Rattle.std.proofs.lemmas.Option.{same_Some}
use Rattle.std.proofs.lemmas.List.Elements.{All-head, All-tail}
use Rattle.om3_coeff.specs.declared.span.Span.{Span}
use Rattle.chart_grid.specs.declared.grid.Grid.{Grid}
use Rattle.line_raster.specs.declared.position.Point.{Point}
use Rattle.m4_groups.specs.declared.row.Row.{Row}
use Rattle.m4_groups.specs.Points.{spots, values_in}
use Rattle.m4_groups.specs.Rows.{Sums, columns_of, AreRising, AreRowsOf}
use Rattle.m4_groups.proofs.Values.{values_in-other}
use Rattle.m4_groups.proofs.Sets.{AllPairs-tail}
use Rattle.needed_nodes.specs.Answers.{Extent, extent_of, AreDrawnAs, IsSpanOfValues, points_of}
use Rattle.chart_frames.specs.declared.frame.Frame.TheVariants.{View, Rows}
use Rattle.chart_frames.specs.declared.frame.ViewFrame.{ViewFrame}
use Rattle.chart_frames.specs.declared.frame.RowsFrame.{RowsFrame}
use Rattle.chart_client.specs.declared.holding.Holding.{Holding}
use Rattle.chart_client.specs.Holdings.{axis_of}
use Rattle.chart_client.specs.Agreeing.{IsGridOf, Agrees}
use Rattle.chart_client.specs.Spanning.{row_span, span_in, SpanColumns, SpanPicture}
use Rattle.chart_client.proofs.Grids.{grid_one}
use Rattle.chart_client.proofs.Places.{IsAt, held_at}

-- where columns rise, the row at a place is the first of its column
row_at : (rows : List Row) (x i : ℕ) (d : Row) → AreRising rows → i < length rows → (get_or rows i d).column ≡ x
    → span_in rows x ≡ Some (row_span (get_or rows i d))
row_at [] x i d rising within is = absurd (omega (arith, within))
row_at (r ∷ rows) x zero d rising within is = cond-true (r.column == x) (Some (row_span r)) (span_in rows x) (eq-eqb r.column x is)
row_at (r ∷ rows) x (suc i) d rising within is =
    let later : r.column < (get_or rows i d).column = rising 0 (suc i) d (omega arith) within in
    cond-false (r.column == x) (Some (row_span r)) (span_in rows x) (ne_eqb r.column x (λ same. absurd (omega (arith, later, is, same))))
    ∙ row_at rows x i d (AllPairs-tail (λ a b. a.column < b.column) r rows rising) (omega (arith, within)) is

-- where no row is of the column there is no span
no_row : (rows : List Row) (x : ℕ) → All (λ r. r.column ≢ x) rows → span_in rows x ≡ None
no_row [] x each = refl
no_row (r ∷ rows) x each =
    cond-false (r.column == x) (Some (row_span r)) (span_in rows x) (ne_eqb r.column x (All-head (λ s. s.column ≢ x) r rows each))
    ∙ no_row rows x (All-tail (λ s. s.column ≢ x) r rows each)

higher : (a b x : ℕ) → a ≤ b → ordering_index (nat_cmp a x) ≤ ordering_index (nat_cmp b x)
higher a b x le = grind (arith, nat_tests)

-- a search by the column comes upon its row, or there is none
pub searched : (rows : List Row) (x : ℕ) (r : Result ℕ ℕ) → AreRising rows → IsSearchInRange r (length rows)
    → IsBinarySearchResult (λ row. nat_cmp row.column x) rows r
    → record {
      within : IfOk r (λ place. place < length rows);
      found : IfOk r (HoldsAt (λ row. span_in rows x ≡ Some (row_span row)) rows);
      none : OnErr r (span_in rows x ≡ None);
    }
searched rows x (Ok i) rising within equal = record {
  within = within;
  found = λ d. row_at rows x i d rising within (ranked (get_or rows i d).column x _ (sym (equal d)));
  none = tt;
}
searched rows x (Err i) rising within parted =
    let up : IsNonDecreasingBy (λ row. ordering_index (nat_cmp row.column x)) rows = λ a b d le inside. higher (get_or rows a d).column
    (get_or rows b d).column x
    (elim (cases_lt a b) [
      | inl lt ↦ (let below : (get_or rows a d).column < (get_or rows b d).column = rising a b d lt inside in omega arith)
      | inr ge ↦ (let same : (get_or rows a d).column ≡ (get_or rows b d).column = ap (λ (n : ℕ). (get_or rows n d).column) {x = a} {y = b}
          (omega arith) in omega arith)
    ]) in record {
      within = tt;
      found = tt;
      none = no_row rows x (λ k d inside same. elim (cases_lt k i) [
        | inl before ↦ omega (arith, same, ranked (get_or rows k d).column x _ (sym ((parted up).0 k d (omega arith) before)))
        | inr behind ↦ omega (arith, same, ranked (get_or rows k d).column x _ (sym ((parted up).1 k d behind inside)))
      ]);
    }

-- a column that no point has holds no value
no_values : (P : ℕ → Type 0) (x : ℕ) (points : List Point) → All (λ s. P s.x) points → (P x → ⊥) → values_in x points ≡ []
no_values P x [] each none = refl
no_values P x (s ∷ points) each none =
    values_in-other x s points (λ same. none (subst P same (All-head (λ t. P t.x) s points each)))
    ∙ no_values P x points (All-tail (λ t. P t.x) s points each) none

contains_later : (c : ℕ) (cs : List ℕ) (x : ℕ) → (c ≡ x → ⊥) → Contains (c ∷ cs) x → Contains cs x
contains_later c cs x other (zero, within, is) = absurd (other is)
contains_later c cs x other (suc k, within, is) = (k, omega (arith, within), is)

-- rows that sum the values of their columns span these
spanned : (points : List Point) (x : ℕ) (rows : List Row) → All (λ r. Sums r (values_in r.column points)) rows
    → ((Contains (columns_of rows) x → ⊥) → values_in x points ≡ [])
    → IsSpanOfValues (values_in x points) (span_in rows x)
spanned points x [] each none = none (λ has. absurd (omega (arith, has.1)))
spanned points x (r ∷ rows) each none =
    let Q : Option Span → Type 0 = λ o. IsSpanOfValues (values_in x points) o in
    let sums : Sums r (values_in r.column points) = All-head (λ s. Sums s (values_in s.column points)) r rows each in
    elim (cases_eq r.column x) [
      | inl same ↦
          subst Q (sym (cond-true (r.column == x) (Some (row_span r)) (span_in rows x) (eq-eqb r.column x same)))
          (subst (λ (c : ℕ). IsSpanOfValues (values_in c points) (Some (row_span r))) same
          (record {
            least = sums.least.among;
            none_below = sums.least.least;
            greatest = sums.greatest.among;
            none_above = sums.greatest.greatest;
          }))
      | inr other ↦
          subst Q (sym (cond-false (r.column == x) (Some (row_span r)) (span_in rows x) (ne_eqb r.column x other)))
          (spanned points x rows (All-tail (λ s. Sums s (values_in s.column points)) r rows each)
          (λ no. none (λ has. no (contains_later r.column (columns_of rows) x other has))))
    ]

-- so do the rows of points
columns_spanned : (grid : Grid) (points : List (ℤ × ℤ)) (rows : List Row) → AreRowsOf grid points rows → SpanColumns grid points rows
columns_spanned grid points rows exact = λ x.
    spanned (spots grid points) x rows exact.each (no_values (λ c. Contains (columns_of rows) c) x (spots grid points) exact.every)

-- the span of a column by the extents of rows
abbrev span_by : List Extent → ℕ → Option Span
span_by [] x = None
span_by (e ∷ es) x = cond (e.column == x) (Some (record { min = e.least; max = e.greatest })) (span_by es x)

by_extents : (rows : List Row) (x : ℕ) → span_in rows x ≡ span_by (map extent_of rows) x
by_extents [] x = refl
by_extents (r ∷ rows) x = ap (λ (o : Option Span). cond (r.column == x) (Some (row_span r)) o) (by_extents rows x)

-- rows that are drawn as those of the points span their columns
drawn_spanned : (grid : Grid) (lo hi : ℤ) (points : List (ℤ × ℤ)) (rows : List Row) → AreDrawnAs grid lo hi points rows
    → SpanColumns grid points rows
drawn_spanned grid lo hi points rows alike = λ x.
    subst (λ (o : Option Span). IsSpanOfValues (values_in x (spots grid points)) o)
    (sym (by_extents rows x ∙ ap (λ (es : List Extent). span_by es x) alike.extents ∙ sym (by_extents alike.of x)))
    (columns_spanned grid points alike.of alike.exact x)

-- the rows that were found of a view span the columns of its picture
pub view_spanned : (view : ViewFrame) (old : List Holding) (place : ℕ) (h : Holding) (grid : Grid) (rows columns : List Row)
    → IsAt view.session old place h → IsGridOf view grid
    → ((list : List (Option ℤ)) → Agrees view h.cache grid list → AreDrawnAs grid view.lo view.hi (points_of (axis_of view) grid list) rows)
    → columns ≡ rows
    → SpanPicture (View view) old columns
view_spanned view old place h grid rows columns at is shown same = λ holding other list held_is other_is agrees.
    let one : other ≡ grid = grid_one view other grid other_is is in
    let held : holding ≡ h = same_Some holding h (sym held_is ∙ held_at view.session old place h at) in
    let there : Agrees view h.cache grid list = subst (λ (g : Grid). Agrees view h.cache g list) one
    (subst (λ (k : Holding). Agrees view k.cache other list) held agrees) in
    subst (λ (rs : List Row). SpanColumns other (points_of (axis_of view) other list) rs) (sym same)
    (subst (λ (g : Grid). SpanColumns g (points_of (axis_of view) g list) rows) (sym one)
    (drawn_spanned grid view.lo view.hi (points_of (axis_of view) grid list) rows (shown list there)))

-- a frame's rows span the columns of its picture
pub rows_spanned : (frame : RowsFrame) (old : List Holding) (columns : List Row) → columns ≡ frame.rows
    → SpanPicture (Rows frame) old columns
rows_spanned frame old columns same = λ grid points canvas order exact.
    subst (λ (rs : List Row). SpanColumns grid points rs) (sym same) (columns_spanned grid points frame.rows exact)
