-- The rows of points can be drawn.
use Rattle.std.proofs.Common.{ℕ, ℤ, ◌≡◌, ◌-◌, ◌<◌, ◌≤ℤ◌, refl, ap, sym, ◌∙◌, subst, List, [], ◌∷◌, filter, length, slice_get}
use Rattle.std.proofs.Common.{slice_index_or, Some, All, ◌==◌, true, false, eqb-true}
use Rattle.std.proofs.lemmas.Bool.{eqb-false}
use Rattle.std.proofs.lemmas.Option.{slice_get_within, get_or_from_slice_get}
use Rattle.std.proofs.lemmas.List.Elements.{All-head, All-tail, All-map, All-filter, All-contains}
use Rattle.chart_grid.specs.declared.grid.Grid.{Grid}
use Rattle.chart_grid.specs.Projection.{column}
use Rattle.chart_grid.proofs.Rising.{column-below}
use Rattle.line_raster.specs.declared.position.Point.{Point}
use Rattle.m4_groups.specs.declared.row.Row.{Row}
use Rattle.m4_groups.specs.Points.{AreInOrder, spots, values_in}
use Rattle.m4_groups.specs.Rows.{Sums, AreRowsOf}
use Rattle.m4_groups.specs.Heights.{IsDrawable}
use Rattle.whole_number.specs.Range.{IsValue}
use Rattle.m4_groups.proofs.Values.{values_in-other}

-- what holds of each value holds of the one at a place
held : (P : ℤ → Type 0) (vs : List ℤ) (k : ℕ) (v : ℤ) → All P vs → slice_get vs k ≡ Some v → P v
held P vs k v all e =
    subst P (get_or_from_slice_get vs k v v e) (all k v (slice_get_within vs k v e))

-- what holds of the values of all points holds of those of a column
values_hold : (P : ℤ → Type 0) (c : ℕ) (xs : List Point) → All (λ s. P s.y) xs → All P (values_in c xs)
values_hold P c xs all =
    All-map P (λ s. s.y) (filter (λ s. s.x == c) xs) (All-filter (λ s. s.x == c) (λ s. P s.y) xs all)

-- a column with a value is one of the points' columns
column_drawn : (w c : ℕ) (v : ℤ) (xs : List Point) → All (λ s. s.x < w) xs → slice_get (values_in c xs) 0 ≡ Some v → c < w
column_drawn w c v [] all e = absurd (cc)
column_drawn w c v (s ∷ xs) all e =
    elim (s.x == c) as (λ t. (s.x == c) ≡ t → c < w) [
      | true ↦ λ same.
          let P : ℕ → Type 0 = λ d. d < w in
          subst P (eqb-true s.x c same) (All-head (λ p. p.x < w) s xs all)
      | false ↦ λ other.
          column_drawn w c v xs (All-tail (λ p. p.x < w) s xs all)
          (ap (λ l. slice_get l 0) (sym (values_in-other c s xs (eqb-false s.x c other))) ∙ e)
    ] refl

row_drawable : (w : ℕ) (xs : List Point) (r : Row) → All (λ s. s.x < w) xs → All (λ s. IsValue s.y) xs → Sums r (values_in r.column xs)
    → IsDrawable w r
row_drawable w xs r drawn values sums =
    let all : All IsValue (values_in r.column xs) = values_hold IsValue r.column xs values in
    record {
      column = column_drawn w r.column r.first xs drawn sums.first;
      order = All-contains (λ u. u ≤ℤ r.greatest) (values_in r.column xs) r.least sums.greatest.greatest sums.least.among;
      first = held IsValue (values_in r.column xs) 0 r.first all sums.first;
      least = All-contains IsValue (values_in r.column xs) r.least all sums.least.among;
      greatest = All-contains IsValue (values_in r.column xs) r.greatest all sums.greatest.among;
      last = held IsValue (values_in r.column xs) (length (values_in r.column xs) - 1) r.last all sums.last;
    }

-- the rows of points in order can be drawn on the grid's canvas
pub rows-drawable : (g : Grid) (points : List (ℤ × ℤ)) (rows : List Row) → AreInOrder g points → All (λ p. IsValue p.1) points
    → AreRowsOf g points rows → All (IsDrawable g.w) rows
rows-drawable g points rows order values own k d lt =
    let spot : ℤ × ℤ → Point = λ p. record { x = column g p.0; y = p.1 } in
    row_drawable g.w (spots g points) (slice_index_or rows k d)
    (All-map (λ s. s.x < g.w) spot points (λ i e within. column-below g (slice_index_or points i e).0 (order.shown i e within)))
    (All-map (λ s. IsValue s.y) spot points values)
    (own.each k d lt)
