use Rattle.std.proofs.Common.{ℕ, zero, suc, ℤ, ◌≡◌, ◌+◌, ◌*◌, ◌<◌, ◌≤◌, ◌≤ℤ◌, ◌<ℤ◌, inl, inr, Bool, true, false, cond, List, [], ◌∷◌, map}
use Rattle.std.proofs.Common.{length, get_or, refl, sym, ◌∙◌, ap, ap₂, subst, arith, le_refl}
use Rattle.std.proofs.Math.Nat.{mul-le-mul_right}
use Rattle.std.proofs.lemmas.Int.{ints, by_lt_z}
use Rattle.std.proofs.lemmas.Bool.Decides.{nat_tests}
use Rattle.std.proofs.lemmas.Option.{slice_get_within}
use Rattle.std.proofs.lemmas.List.Elements.{All-nil, All-cons}
use Rattle.std.specs.Prelude.{Option, Some, None, All, AllPairs, Contains, filter, ◌==◌, ◌&&◌, int_le, int_lt, if◌then◌else◌}
use Rattle.std.specs.List.{enumerate_from, filter_map, cons_option}
use Rattle.std.proofs.lemmas.Bool.{and_parts, and_from}
use Rattle.chart_grid.specs.Projection.{InWindow, column, height as height_of}
use Rattle.chart_grid.specs.Slots.{slot_time, IsInColumn, AreSlotsBefore, slot_time as time_at}
use Rattle.chart_grid.specs.declared.axis.Axis.{Axis}
use Rattle.chart_grid.specs.declared.grid.Grid.{Grid}
use Rattle.line_raster.specs.declared.position.Point.{Point}
use Rattle.om3_coeff.specs.declared.span.Span.{Span}
use Rattle.om3_coeff.specs.Spans.{Holds, IsSpanOf, span_over}
use Rattle.om3_coeff.proofs.ExtremeLemmas.{span_over_is}
use Rattle.om3_coeff.proofs.KeyLemmas.{by_lt}
use Rattle.m4_groups.specs.declared.row.Row.{Row}
use Rattle.m4_groups.specs.Points.{AreInOrder, spots, pixels, values_in}
use Rattle.m4_groups.specs.Rows.{Sums, columns_of, AreRising}
use Rattle.m4_groups.specs.Heights.{row_height}
use Rattle.plain_chart.specs.declared.sample.Sample.{Sample}
use Rattle.plain_chart.specs.declared.value_range.ValueRange.{ValueRange}
use Rattle.plain_chart.specs.Samples.{kept, kept_at, values_of, in_window}
use Rattle.plain_chart.specs.Chart.{place, places}
use Rattle.needed_nodes.specs.declared.window.Window.{Window}
use Rattle.needed_nodes.specs.Answers.{points_of, IsSpanOfValues, IsShownRow, extent_of, AreDrawnAs}
use Rattle.needed_nodes.specs.Ranks.{rank}
use Rattle.needed_nodes.specs.Columns.{IsRowOf}
use Rattle.needed_nodes.proofs.RankLaws.{column_rank, rank_column, column_drawn}
use Rattle.needed_nodes.proofs.ColumnLaws.{shown_end}
use Rattle.needed_nodes.proofs.PairLaws.{ArePairs, choose, pairs_map, pairs_all, pairs_rise}
use Rattle.needed_nodes.proofs.PickLaws.{picked, picked_all, picked_among, picked_none, picked_first, picked_last, bool_cases}

-- the tests of a window and of a column
pub window_true : (g : Grid) (t : ℤ) → in_window g t ≡ true → InWindow g t
window_true g t h =
    let both : (int_le g.t0 t ≡ true) × (int_lt t g.t1 ≡ true) = and_parts (int_le g.t0 t) (int_lt t g.t1) h in
    record { from = grind (arith, ints, nat_tests); to = grind (arith, ints, nat_tests) }

pub true_window : (g : Grid) (t : ℤ) → InWindow g t → in_window g t ≡ true
true_window g t shown =
    let from : int_le g.t0 t ≡ true = grind (arith, ints, nat_tests, shown.from) in
    let to : int_lt t g.t1 ≡ true = grind (arith, ints, nat_tests, shown.to) in
    and_from (int_le g.t0 t) (int_lt t g.t1) from to

-- slot i is drawn in column c
abbrev in_column : Grid → Axis → ℕ → ℕ → Bool
in_column g axis c i = in_window g (time_at axis i) && (column g (time_at axis i) == c)

test_same : (m n : ℕ) → (m == n) ≡ true → m ≡ n
test_same m n h = grind (arith, nat_tests)

same_test : (m n : ℕ) → m ≡ n → (m == n) ≡ true
same_test m n h = grind (arith, nat_tests)

column_true : (w : Window) (c i : ℕ) → i < w.axis.slots → in_column w.grid w.axis c i ≡ true → rank w i ≡ suc c
column_true w c i slot h =
    let both : (in_window w.grid (time_at w.axis i) ≡ true) × ((column w.grid (time_at w.axis i) == c) ≡ true) =
    and_parts (in_window w.grid (time_at w.axis i)) (column w.grid (time_at w.axis i) == c) h in
    column_rank w c i (record {
      slot = slot;
      shown = window_true w.grid (time_at w.axis i) both.0;
      place = test_same (column w.grid (time_at w.axis i)) c both.1;
    })

true_column : (w : Window) (c i : ℕ) → rank w i ≡ suc c → c < w.grid.w → in_column w.grid w.axis c i ≡ true
true_column w c i is drawn =
    let own : IsInColumn w.axis w.grid c i = rank_column w c i is drawn in
    and_from (in_window w.grid (time_at w.axis i)) (column w.grid (time_at w.axis i) == c) (true_window w.grid (time_at w.axis i) own.shown)
    (same_test (column w.grid (time_at w.axis i)) c own.place)

-- the points of a list of which the first slot is slot n
abbrev point : Sample → ℤ × ℤ
point s = (s.time, s.value)

abbrev kept_from : Grid → Axis → ℕ → List (Option ℤ) → List Sample
kept_from g axis n xs = filter_map (kept_at g axis) (enumerate_from n xs)

abbrev spots_from : Grid → Axis → ℕ → List (Option ℤ) → List Point
spots_from g axis n xs = spots g (map point (kept_from g axis n xs))

abbrev sample_of : Axis → ℕ → ℤ → Sample
sample_of axis n v = record { time = time_at axis n; value = v }

-- the values of a column are those of its slots
spot_values : (c : ℕ) (s : Point) (ss : List Point) (vs : List ℤ) (t : Bool) → (s.x == c) ≡ t → values_in c ss ≡ vs
    → values_in c (s ∷ ss) ≡ cond t (s.y ∷ vs) vs
spot_values c s ss vs true e h = ap (λ b. map (λ s. s.y) (cond b (s ∷ filter (λ s. s.x == c) ss) (filter (λ s. s.x == c) ss))) e
    ∙ ap (λ zs. s.y ∷ zs) h
spot_values c s ss vs false e h = ap (λ b. map (λ s. s.y) (cond b (s ∷ filter (λ s. s.x == c) ss) (filter (λ s. s.x == c) ss))) e ∙ h

column_values : (g : Grid) (axis : Axis) (c n : ℕ) (xs : List (Option ℤ))
    → values_in c (spots_from g axis n xs) ≡ picked (in_column g axis c) n xs
column_values g axis c n [] = refl
column_values g axis c n (None ∷ xs) = column_values g axis c (n + 1) xs
column_values g axis c n (Some v ∷ xs) =
    let rest : values_in c (spots_from g axis (n + 1) xs) ≡ picked (in_column g axis c) (n + 1) xs = column_values g axis c (n + 1) xs in
    let vs : List ℤ = picked (in_column g axis c) (n + 1) xs in
    let t : Bool = column g (time_at axis n) == c in
    elim (in_window g (time_at axis n)) as (λ b.
    values_in c (spots g (map point (cons_option (if b then Some (sample_of axis n v) else None) (kept_from g axis (n + 1) xs)))) ≡ cond (b
    && t) (v ∷ vs) vs) [
      | true ↦ spot_values c (record { x = column g (time_at axis n); y = v }) (spots_from g axis (n + 1) xs) vs t refl rest
      | false ↦ rest
    ]

window_values : (g : Grid) (axis : Axis) (n : ℕ) (xs : List (Option ℤ))
    → values_of (kept_from g axis n xs) ≡ picked (λ i. in_window g (time_at axis i)) n xs
window_values g axis n [] = refl
window_values g axis n (None ∷ xs) = window_values g axis (n + 1) xs
window_values g axis n (Some v ∷ xs) =
    let rest : values_of (kept_from g axis (n + 1) xs) ≡ picked (λ i. in_window g (time_at axis i)) (n + 1) xs = window_values g axis
    (n + 1) xs in
    let vs : List ℤ = picked (λ i. in_window g (time_at axis i)) (n + 1) xs in
    elim (in_window g (time_at axis n)) as (λ b.
    values_of (cons_option (if b then Some (sample_of axis n v) else None) (kept_from g axis (n + 1) xs)) ≡ cond b (v ∷ vs) vs) [
      | true ↦ ap (λ zs. v ∷ zs) rest
      | false ↦ rest
    ]

-- what holds of each stored slot of the window
spots_all : (Q : Point → Type 0) (g : Grid) (axis : Axis) (n : ℕ) (xs : List (Option ℤ))
    → ((i : ℕ) (v : ℤ) → Holds xs i v → in_window g (time_at axis (n + i)) ≡ true
    → Q (record { x = column g (time_at axis (n + i)); y = v }))
    → All Q (spots_from g axis n xs)
spots_all Q g axis n [] each = All-nil Q
spots_all Q g axis n (None ∷ xs) each =
    spots_all Q g axis (n + 1) xs
    (λ i v holds.
    let e : n + suc i ≡ (n + 1) + i = omega arith in
    let P : ℕ → Type 0 = λ m. in_window g (time_at axis m) ≡ true → Q (record { x = column g (time_at axis m); y = v }) in
    subst P e (each (suc i) v holds))
spots_all Q g axis n (Some u ∷ xs) each =
    let rest : All Q (spots_from g axis (n + 1) xs) =
    spots_all Q g axis (n + 1) xs
    (λ i v holds.
    let e : n + suc i ≡ (n + 1) + i = omega arith in
    let P : ℕ → Type 0 = λ m. in_window g (time_at axis m) ≡ true → Q (record { x = column g (time_at axis m); y = v }) in
    subst P e (each (suc i) v holds)) in
    let first : in_window g (time_at axis n) ≡ true → Q (record { x = column g (time_at axis n); y = u }) =
    (let e : n + 0 ≡ n = omega arith in
    let P : ℕ → Type 0 = λ m. in_window g (time_at axis m) ≡ true → Q (record { x = column g (time_at axis m); y = u }) in
    subst P e (each 0 u refl)) in
    let P : Bool → Type 0 = λ b. All Q (spots g (map point
    (cons_option (if b then Some (sample_of axis n u) else None) (kept_from g axis (n + 1) xs)))) in
    elim (bool_cases (in_window g (time_at axis n))) [
      | inl set ↦ subst P (sym set) (All-cons Q (record { x = column g (time_at axis n); y = u }) (spots_from g axis (n + 1) xs)
          (first set) rest)
      | inr unset ↦ subst P (sym unset) rest
    ]

-- the row with the first and the last value themselves
abbrev exact_row : (list : List (Option ℤ)) (w : Window) (r : Row) → IsRowOf list w r → Row
exact_row list w r h = record {
  column = r.column;
  first = h.first.2.value;
  least = r.least;
  greatest = r.greatest;
  last = h.last.2.value;
}

-- it has the four values of its column's points
row_sums : (w : Window) (list : List (Option ℤ)) (r : Row) → w.axis.slots ≡ length list → r.column < w.grid.w → (h : IsRowOf list w r)
    → Sums (exact_row list w r h) (picked (in_column w.grid w.axis r.column) 0 list)
row_sums w list r slots drawn h =
    let p : ℕ → Bool = in_column w.grid w.axis r.column in
    let on : (i : ℕ) → rank w i ≡ suc r.column → p (0 + i) ≡ true =
    λ i is. (let e : 0 + i ≡ i = omega arith in ap p e ∙ true_column w r.column i is drawn) in
    let off : (i : ℕ) (v : ℤ) → Holds list i v → p (0 + i) ≡ true → rank w i ≡ suc r.column =
    λ i v holds set.
    (let e : i ≡ 0 + i = omega arith in
    let short : i < length list = slice_get_within list i (Some v) holds in
    column_true w r.column i (omega (arith, slots)) (ap p e ∙ set)) in
    record {
      first = picked_first p 0 list h.first.0 h.first.2.value h.first.2.stored (on h.first.0 h.first.1)
          (λ j u before holds set. h.first.3 j u (off j u holds set) before holds);
      least = record {
        among = picked_among p 0 list h.span.least_at r.least h.span.least (on h.span.least_at h.span.least_in);
        least = picked_all (λ u. r.least ≤ℤ u) p 0 list
            (λ j u holds set. h.span.above j u (off j u holds set) (shown_end w r.column j (off j u holds set) drawn) holds);
      };
      greatest = record {
        among = picked_among p 0 list h.span.greatest_at r.greatest h.span.greatest (on h.span.greatest_at h.span.greatest_in);
        greatest = picked_all (λ u. u ≤ℤ r.greatest) p 0 list
            (λ j u holds set. h.span.below j u (off j u holds set) (shown_end w r.column j (off j u holds set) drawn) holds);
      };
      last = picked_last p 0 list h.last.0 h.last.2.value h.last.2.stored (on h.last.0 h.last.1)
          (λ j u behind holds set. h.last.3 j u (off j u holds set) behind holds);
    }

-- e is a row of the list's points, and is drawn as r is
record IsExact (list : List (Option ℤ)) (w : Window) (r e : Row) : Type 0 where
  column : r.column ≡ e.column
  extent : extent_of r ≡ extent_of e
  heights : row_height w.lo w.hi w.grid.h r ≡ row_height w.lo w.hi w.grid.h e
  sums : Sums e (values_in e.column (spots w.grid (points_of w.axis w.grid list)))

abbrev height_row : ℕ → ℤ → ℤ → ℤ → ℤ → Row
height_row c least greatest first last = record { column = c; first = first; least = least; greatest = greatest; last = last }

exact : (list : List (Option ℤ)) (w : Window) (r : Row) → w.axis.slots ≡ length list → r.column < w.grid.w → IsRowOf list w r
    → (e : Row) × IsExact list w r e
exact list w r slots drawn h = (
  exact_row list w r h,
  record {
    column = refl;
    extent = refl;
    heights =
        ap₂ (height_row r.column (height_of r.least w.lo w.hi w.grid.h) (height_of r.greatest w.lo w.hi w.grid.h)) h.first.2.same
        h.last.2.same;
    sums =
        (let P : List ℤ → Type 0 = λ vs. Sums (exact_row list w r h) vs in
        subst P (sym (column_values w.grid w.axis r.column 0 list)) (row_sums w list r slots drawn h));
  },
)

pub rows_are : (w : Window) (list : List (Option ℤ)) (rows : List Row) → w.axis.slots ≡ length list → AreRising rows
    → All (IsShownRow w.grid.w) rows → All (IsRowOf list w) rows
    → ((c i : ℕ) (v : ℤ) → c < w.grid.w → rank w i ≡ suc c → Holds list i v → Contains (columns_of rows) c)
    → AreDrawnAs w.grid w.lo w.hi (points_of w.axis w.grid list) rows
rows_are w list rows slots rising shown each every =
    let found : (es : List Row) × ArePairs (IsExact list w) rows es =
    choose (IsExact list w) rows (λ k d less. exact list w (get_or rows k d) slots (shown k d less).drawable.column (each k d less)) in
    record {
      of = found.0;
      exact = record {
        rising = pairs_rise (IsExact list w) (λ r e h. h.column) rows found.0 found.1 rising;
        each =
            pairs_all (IsExact list w) (λ e. Sums e (values_in e.column (spots w.grid (points_of w.axis w.grid list))))
            (λ r e h. h.sums) rows found.0 found.1;
        every =
            (let P : List ℕ → Type 0 = λ cs. All (λ s. Contains cs s.x) (spots w.grid (points_of w.axis w.grid list)) in
            subst P (pairs_map (IsExact list w) (λ r. r.column) (λ r e h. h.column) rows found.0 found.1)
            (all_columns w list rows slots every));
      };
      extents = pairs_map (IsExact list w) extent_of (λ r e h. h.extent) rows found.0 found.1;
      heights = pairs_map (IsExact list w) (row_height w.lo w.hi w.grid.h) (λ r e h. h.heights) rows found.0 found.1;
    }
  where
    drawn_column : (w : Window) (i : ℕ) → IsInColumn w.axis w.grid (column w.grid (slot_time w.axis i)) i
        → column w.grid (slot_time w.axis i) < w.grid.w
    drawn_column w i own = column_drawn w (column w.grid (slot_time w.axis i)) i own

    all_columns : (w : Window) (list : List (Option ℤ)) (rows : List Row) → w.axis.slots ≡ length list
        → ((c i : ℕ) (v : ℤ) → c < w.grid.w → rank w i ≡ suc c → Holds list i v → Contains (columns_of rows) c)
        → All (λ s. Contains (columns_of rows) s.x) (spots w.grid (points_of w.axis w.grid list))
    all_columns w list rows slots every =
        spots_all (λ s. Contains (columns_of rows) s.x) w.grid w.axis 0 list
        (λ i v holds set.
        let short : i < length list = slice_get_within list i (Some v) holds in
        let e : 0 + i ≡ i = omega arith in
        let P : ℕ → Type 0 = λ m. in_window w.grid (time_at w.axis m) ≡ true in
        let inside : InWindow w.grid (slot_time w.axis i) = window_true w.grid (time_at w.axis i) (subst P e set) in
        let own : IsInColumn w.axis w.grid (column w.grid (slot_time w.axis i)) i = record {
          slot = omega (arith, slots);
          shown = inside;
          place = refl;
        } in
        let found : Contains (columns_of rows) (column w.grid (slot_time w.axis i)) =
        every (column w.grid (slot_time w.axis i)) i v (drawn_column w i own)
        (column_rank w (column w.grid (slot_time w.axis i)) i own) holds in
        let Q : ℕ → Type 0 = λ m. Contains (columns_of rows) (column w.grid (time_at w.axis m)) in
        subst Q (sym e) found)

-- a view that shows no slot keeps no point, and has no row
pub no_rows : (axis : Axis) (g : Grid) (lo hi : ℤ) (list : List (Option ℤ)) → axis.slots ≡ length list
    → ((c i : ℕ) → IsInColumn axis g c i → ⊥) → AreDrawnAs g lo hi (points_of axis g list) []
no_rows axis g lo hi list slots none = record {
  of = [];
  exact = record {
    rising = λ i j d less short. absurd (omega arith);
    each = All-nil (λ r. Sums r (values_in r.column (spots g (points_of axis g list))));
    every =
        spots_all (λ s. Contains (columns_of []) s.x) g axis 0 list
        (λ i v holds set.
        let short : i < length list = slice_get_within list i (Some v) holds in
        let e : 0 + i ≡ i = omega arith in
        let P : ℕ → Type 0 = λ m. in_window g (time_at axis m) ≡ true in
        let inside : InWindow g (slot_time axis i) = window_true g (time_at axis i) (subst P e set) in
        absurd (none (column g (slot_time axis i)) i (record { slot = omega (arith, slots); shown = inside; place = refl })));
  };
  extents = refl;
  heights = refl;
}

-- the points are in order of time
points_all : (Q : ℤ × ℤ → Type 0) (g : Grid) (axis : Axis) (n : ℕ) (xs : List (Option ℤ))
    → ((i : ℕ) (v : ℤ) → n ≤ i → in_window g (time_at axis i) ≡ true → Q (time_at axis i, v)) → All Q (map point (kept_from g axis n xs))
points_all Q g axis n [] each = All-nil Q
points_all Q g axis n (None ∷ xs) each = points_all Q g axis (n + 1) xs (λ i v le. each i v (omega arith))
points_all Q g axis n (Some u ∷ xs) each =
    let rest : All Q (map point (kept_from g axis (n + 1) xs)) = points_all Q g axis (n + 1) xs (λ i v le. each i v (omega arith)) in
    let P : Bool → Type 0 = λ b. All Q (map point (cons_option (if b then Some (sample_of axis n u)
    else None) (kept_from g axis (n + 1) xs))) in
    elim (bool_cases (in_window g (time_at axis n))) [
      | inl set ↦ subst P (sym set) (All-cons Q (
        time_at axis n,
        u,
      ) (map point (kept_from g axis (n + 1) xs)) (each n u (le_refl n) set) rest)
      | inr unset ↦ subst P (sym unset) rest
    ]

pairs_cons : (R : ℤ × ℤ → ℤ × ℤ → Type 0) (x : ℤ × ℤ) (xs : List (ℤ × ℤ)) → All (R x) xs → AllPairs R xs → AllPairs R (x ∷ xs)
pairs_cons R x xs first rest zero zero d less short = absurd (omega arith)
pairs_cons R x xs first rest zero (suc j) d less short = first j d (omega arith)
pairs_cons R x xs first rest (suc i) zero d less short = absurd (omega arith)
pairs_cons R x xs first rest (suc i) (suc j) d less short = rest i j d (omega arith) (omega arith)

time_before : (axis : Axis) (i j : ℕ) → 0 < axis.step → i < j → time_at axis i <ℤ time_at axis j
time_before axis i j step less =
    let steps : (i + 1) * axis.step ≤ j * axis.step = mul-le-mul_right {m = i + 1} {n = j} axis.step (omega arith) in omega (arith, ints)

points_rise : (g : Grid) (axis : Axis) (n : ℕ) (xs : List (Option ℤ)) → 0 < axis.step
    → AllPairs (λ p q. p.0 <ℤ q.0) (map point (kept_from g axis n xs))
points_rise g axis n [] step = λ i j d less short. absurd (omega arith)
points_rise g axis n (None ∷ xs) step = points_rise g axis (n + 1) xs step
points_rise g axis n (Some u ∷ xs) step =
    let rest : AllPairs (λ p q. p.0 <ℤ q.0) (map point (kept_from g axis (n + 1) xs)) = points_rise g axis (n + 1) xs step in
    let later : All (λ q. time_at axis n <ℤ q.0) (map point (kept_from g axis (n + 1) xs)) =
    points_all (λ q. time_at axis n <ℤ q.0) g axis (n + 1) xs (λ i v le inside. time_before axis n i step (omega arith)) in
    let P : Bool → Type 0 = λ b. AllPairs (λ p q. p.0 <ℤ q.0)
    (map point (cons_option (if b then Some (sample_of axis n u) else None) (kept_from g axis (n + 1) xs))) in
    elim (bool_cases (in_window g (time_at axis n))) [
      | inl set ↦ subst P (sym set) (pairs_cons (λ p q. p.0 <ℤ q.0) (
        time_at axis n,
        u,
      ) (map point (kept_from g axis (n + 1) xs)) later rest)
      | inr unset ↦ subst P (sym unset) rest
    ]

pub points_in_order : (list : List (Option ℤ)) (axis : Axis) (g : Grid) → 0 < axis.step → AreInOrder g (points_of axis g list)
points_in_order list axis g step = record {
  shown = points_all (λ p. InWindow g p.0) g axis 0 list (λ i v le inside. window_true g (time_at axis i) inside);
  rising = points_rise g axis 0 list step;
}

-- the span of the slots of a window is that of the values that the view keeps
window_test : (axis : Axis) (g : Grid) (a b i : ℕ) → AreSlotsBefore axis g.t0 a → AreSlotsBefore axis g.t1 b → a ≤ i → i < b
    → in_window g (time_at axis i) ≡ true
window_test axis g a b i start stop from to =
    let slot : i < axis.slots = omega (arith, stop.within) in
    true_window g (time_at axis i) (record {
      from = not_less (time_at axis i) g.t0 (λ less. omega (arith, (start.before i slot).1 less));
      to = (stop.before i slot).0 to;
    })
  where
    not_less : (s t : ℤ) → (s <ℤ t → ⊥) → t ≤ℤ s
    not_less s t h = by_lt_z s t (λ less. absurd (h less)) (λ le. le)

test_window : (axis : Axis) (g : Grid) (a b i : ℕ) → AreSlotsBefore axis g.t0 a → AreSlotsBefore axis g.t1 b → i < axis.slots
    → in_window g (time_at axis i) ≡ true → (a ≤ i) × (i < b)
test_window axis g a b i start stop slot inside =
    let shown : InWindow g (time_at axis i) = window_true g (time_at axis i) inside in
    (by_lt i a (λ less. absurd (omega (arith, ints, shown.from, (start.before i slot).0 less))) (λ le. le), (stop.before i slot).1 shown.to)

span_values : (axis : Axis) (g : Grid) (list : List (Option ℤ)) (a b : ℕ) (s : Option Span) → axis.slots ≡ length list
    → AreSlotsBefore axis g.t0 a → AreSlotsBefore axis g.t1 b
    → IsSpanOf list a b s → IsSpanOfValues (picked (λ i. in_window g (time_at axis i)) 0 list) s
span_values axis g list a b None slots start stop clear =
    picked_none (λ i. in_window g (time_at axis i)) 0 list
    (λ i v holds set.
    let short : i < length list = slice_get_within list i (Some v) holds in
    let e : 0 + i ≡ i = omega arith in
    let P : ℕ → Type 0 = λ m. in_window g (time_at axis m) ≡ true in
    let place : (a ≤ i) × (i < b) = test_window axis g a b i start stop (omega (arith, slots)) (subst P e set) in
    clear i v place.0 place.1 holds)
span_values axis g list a b (Some s) slots start stop h =
    let p : ℕ → Bool = λ i. in_window g (time_at axis i) in
    let on : (i : ℕ) → a ≤ i → i < b → p (0 + i) ≡ true =
    λ i from to. (let e : 0 + i ≡ i = omega arith in ap p e ∙ window_test axis g a b i start stop from to) in
    let off : (i : ℕ) (v : ℤ) → Holds list i v → p (0 + i) ≡ true → (a ≤ i) × (i < b) =
    λ i v holds set.
    (let short : i < length list = slice_get_within list i (Some v) holds in
    let e : i ≡ 0 + i = omega arith in
    test_window axis g a b i start stop (omega (arith, slots)) (ap p e ∙ set)) in
    record {
      least = picked_among p 0 list h.least.slot s.min h.least.holds (on h.least.slot h.least.low h.least.high);
      none_below = picked_all (λ u. s.min ≤ℤ u) p 0 list (λ j u holds set. h.above j u (off j u holds set).0 (off j u holds set).1 holds);
      greatest = picked_among p 0 list h.greatest.slot s.max h.greatest.holds (on h.greatest.slot h.greatest.low h.greatest.high);
      none_above = picked_all (λ u. u ≤ℤ s.max) p 0 list (λ j u holds set. h.below j u (off j u holds set).0 (off j u holds set).1 holds);
    }

pub window_span_is : (axis : Axis) (g : Grid) (list : List (Option ℤ)) (a b : ℕ) (s : Option Span) → axis.slots ≡ length list
    → AreSlotsBefore axis g.t0 a → AreSlotsBefore axis g.t1 b
    → s ≡ span_over list a b → IsSpanOfValues (values_of (kept g axis list)) s
window_span_is axis g list a b s slots start stop is =
    let P : List ℤ → Type 0 = λ vs. IsSpanOfValues vs s in
    let Q : Option Span → Type 0 = λ o. IsSpanOf list a b o in
    subst P (sym (window_values g axis 0 list)) (span_values axis g list a b s slots start stop (subst Q (sym is) (span_over_is list a b)))

-- a window without slots shows none
pub none_shown : (axis : Axis) (g : Grid) (a b : ℕ) → AreSlotsBefore axis g.t0 a → AreSlotsBefore axis g.t1 b → b ≤ a → (c i : ℕ)
    → IsInColumn axis g c i → ⊥
none_shown axis g a b start stop none c i own =
    by_lt i a (λ less. omega (arith, ints, own.shown.from, (start.before i own.slot).0 less))
    (λ from. omega (arith, from, (stop.before i own.slot).1 own.shown.to, none))

-- the pixels of the points are the places of the samples
pixels_of : (g : Grid) (range : ValueRange) (samples : List Sample)
    → pixels g range.lo range.hi (map point samples) ≡ places g range samples
pixels_of g range [] = refl
pixels_of g range (s ∷ ss) = ap (λ ps. place g range s ∷ ps) (pixels_of g range ss)

pub points_placed : (list : List (Option ℤ)) (axis : Axis) (g : Grid) (range : ValueRange)
    → pixels g range.lo range.hi (points_of axis g list) ≡ places g range (kept g axis list)
points_placed list axis g range = pixels_of g range (kept g axis list)
