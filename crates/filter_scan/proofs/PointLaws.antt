-- The rows of a table are those of the points that a plan keeps.
use Rattle.std.proofs.Common.{ℕ, suc, ℤ, ◌≡◌, ◌+◌, ◌^◌, ◌<◌, ◌≤◌, ◌≤ℤ◌, inl, inr, Bool, true, false, cond, List, [], ◌∷◌, map, length}
use Rattle.std.proofs.Common.{get_or, refl, sym, ◌∙◌, ap, subst, arith}
use Rattle.std.proofs.lemmas.Bool.Decides.{nat_tests}
use Rattle.std.proofs.lemmas.Option.{slice_get_within, slice_get-get_or}
use Rattle.std.proofs.lemmas.List.Elements.{All-nil, All-cons}
use Rattle.std.specs.Prelude.{Option, Some, None, All, Contains, filter, slice_get, nat_le, nat_lt, ◌==◌, ◌&&◌, if◌then◌else◌}
use Rattle.std.specs.List.{enumerate_from, filter_map, cons_option}
use Rattle.std.proofs.lemmas.Bool.{and_parts, and_from}
use Rattle.chart_grid.specs.declared.axis.Axis.{Axis}
use Rattle.chart_grid.specs.declared.grid.Grid.{Grid}
use Rattle.chart_grid.specs.Projection.{column}
use Rattle.line_raster.specs.declared.position.Point.{Point}
use Rattle.om3_coeff.specs.declared.key.Key.{Key}
use Rattle.om3_coeff.specs.Keys.{first_slot, end_slot, top_key}
use Rattle.om3_coeff.specs.Spans.{Holds, AreSlots}
use Rattle.om3_coeff.specs.View.{NodesView, Agrees}
use Rattle.om3_coeff.proofs.KeyLemmas.{height_covers}
use Rattle.om3_coeff.proofs.WalkLemmas.{top_first, top_end}
use Rattle.m4_groups.specs.declared.row.Row.{Row}
use Rattle.m4_groups.specs.Points.{spots, values_in}
use Rattle.m4_groups.specs.Rows.{Sums, columns_of, AreRowsOf}
use Rattle.plain_chart.specs.declared.sample.Sample.{Sample}
use Rattle.plain_chart.specs.Samples.{IsSlot, sample_points}
use Rattle.chart_grid.specs.Slots.{slot_time}
use Rattle.needed_nodes.specs.Answers.{IsShownRow}
use Rattle.needed_nodes.proofs.PickLaws.{picked, picked_all, picked_among, picked_first, picked_last, bool_cases}
use Rattle.value_filter.specs.declared.steps.Step.{Step}
use Rattle.query_rewriter.specs.declared.queries.Plan.{Plan}
use Rattle.query_rewriter.specs.declared.queries.ViewQuery.{ViewQuery}
use Rattle.query_rewriter.specs.Kept.{passes, stored_at, stored_in, plan_keeps, query_keeps}
use Rattle.filter_scan.specs.declared.scans.Scan.{Scan}
use Rattle.filter_scan.specs.Answers.{HasRows}
use Rattle.filter_scan.specs.Table.{entry, entries, AreShown}
use Rattle.filter_scan.specs.Taken.{Takes, IsTaken, IsRowOf, IsRowIn, Fills}
use Rattle.filter_scan.proofs.FillLaws.{fills_start}
use Rattle.filter_scan.proofs.TableLaws.{entries_each, rows_rise, rows_shown, none_shown, empty_entries, listed}

-- tests
test_same : (m n : ℕ) → (m == n) ≡ true → m ≡ n
test_same m n h = grind (arith, nat_tests)

same_test : (m n : ℕ) → m ≡ n → (m == n) ≡ true
same_test m n h = grind (arith, nat_tests)

from_test : (a i : ℕ) → nat_le a i ≡ true → a ≤ i
from_test a i h = grind (arith, nat_tests)

test_from : (a i : ℕ) → a ≤ i → nat_le a i ≡ true
test_from a i h = grind (arith, nat_tests)

to_test : (i b : ℕ) → nat_lt i b ≡ true → i < b
to_test i b h = grind (arith, nat_tests)

test_to : (i b : ℕ) → i < b → nat_lt i b ≡ true
test_to i b h = grind (arith, nat_tests)

-- the point of slot i with the value v is kept
abbrev sample_of : Axis → ℕ → ℤ → Sample
sample_of axis i v = record { time = slot_time axis i; value = v }

abbrev in_range : Scan → ℕ → Bool
in_range s i = nat_le s.from i && nat_lt i s.end

abbrev is_kept : Scan → Option (List Step) → ℕ → ℤ → Bool
is_kept s f i v = in_range s i && passes f (sample_of s.axis i v)

-- and has column c
abbrev in_column : Scan → Option (List Step) → ℕ → ℕ → ℤ → Bool
in_column s f c i v = is_kept s f i v && (column s.grid (slot_time s.axis i) == c)

takes_test : (s : Scan) (f : Option (List Step)) (c i : ℕ) (v : ℤ) → Takes s f c i v → in_column s f c i v ≡ true
takes_test s f c i v h =
    and_from (is_kept s f i v) (column s.grid (slot_time s.axis i) == c)
    (and_from (in_range s i) (passes f (sample_of s.axis i v))
    (and_from (nat_le s.from i) (nat_lt i s.end) (test_from s.from i h.from) (test_to i s.end h.to)) h.passes)
    (same_test (column s.grid (slot_time s.axis i)) c h.place)

test_takes : (s : Scan) (f : Option (List Step)) (c i : ℕ) (v : ℤ) → in_column s f c i v ≡ true → Takes s f c i v
test_takes s f c i v h =
    let outer : (is_kept s f i v ≡ true) × ((column s.grid (slot_time s.axis i) == c) ≡ true) = and_parts (is_kept s f i v)
    (column s.grid (slot_time s.axis i) == c) h in
    let inner : (in_range s i ≡ true) × (passes f (sample_of s.axis i v) ≡ true) = and_parts (in_range s i)
    (passes f (sample_of s.axis i v)) outer.0 in
    let range : (nat_le s.from i ≡ true) × (nat_lt i s.end ≡ true) = and_parts (nat_le s.from i) (nat_lt i s.end) inner.0 in
    record {
      from = from_test s.from i range.0;
      to = to_test i s.end range.1;
      passes = inner.1;
      place = test_same (column s.grid (slot_time s.axis i)) c outer.1;
    }

-- the test of a slot by what it holds
abbrev test_by : (ℕ → ℤ → Bool) → ℕ → Option (Option ℤ) → Bool
test_by q i None = false
test_by q i (Some None) = false
test_by q i (Some (Some v)) = q i v

abbrev test_in : (ℕ → ℤ → Bool) → List (Option ℤ) → ℕ → Bool
test_in q list i = test_by q i (slice_get list i)

test_at : (q : ℕ → ℤ → Bool) (list : List (Option ℤ)) (i : ℕ) (v : ℤ) → Holds list i v → test_in q list i ≡ q i v
test_at q list i v holds = ap (test_by q i) holds

-- the points of a list of which the first slot is slot n
abbrev kept_from : Scan → Option (List Step) → ℕ → List (Option ℤ) → List Sample
kept_from s f n xs = filter (passes f) (filter_map (stored_at s.axis (s.from, s.end)) (enumerate_from n xs))

abbrev spots_from : Scan → Option (List Step) → ℕ → List (Option ℤ) → List Point
spots_from s f n xs = spots s.grid (sample_points (kept_from s f n xs))

abbrev spot_of : Scan → ℕ → ℤ → Point
spot_of s i v = record { x = column s.grid (slot_time s.axis i); y = v }

-- one slot more in front
spots_one : (s : Scan) (P : Sample → Bool) (b : Bool) (x : Sample) (rest : List Sample)
    → spots s.grid (sample_points (filter P (cons_option (if b then Some x else None) rest)))
    ≡ cond (b && P x) (record { x = column s.grid x.time; y = x.value } ∷ spots s.grid (sample_points (filter P rest)))
    (spots s.grid (sample_points (filter P rest)))
spots_one s P false x rest = refl
spots_one s P true x rest =
    elim (P x) as (λ b. spots s.grid (sample_points (cond b (x ∷ filter P rest) (filter P rest)))
    ≡ cond b (record { x = column s.grid x.time; y = x.value } ∷ spots s.grid (sample_points (filter P rest)))
    (spots s.grid (sample_points (filter P rest)))) [
      | true ↦ refl
      | false ↦ refl
    ]

pub spots_more : (s : Scan) (f : Option (List Step)) (n : ℕ) (u : ℤ) (xs : List (Option ℤ))
    → spots_from s f n (Some u ∷ xs) ≡ cond (is_kept s f n u) (spot_of s n u ∷ spots_from s f (n + 1) xs) (spots_from s f (n + 1) xs)
spots_more s f n u xs = spots_one s (passes f) (in_range s n) (sample_of s.axis n u)
    (filter_map (stored_at s.axis (s.from, s.end)) (enumerate_from (n + 1) xs))

-- the values of a column are those of its slots
value_one : (c : ℕ) (a : Bool) (x : Point) (rest : List Point)
    → values_in c (cond a (x ∷ rest) rest) ≡ cond (a && (x.x == c)) (x.y ∷ values_in c rest) (values_in c rest)
value_one c false x rest = refl
value_one c true x rest =
    elim (x.x == c) as (λ b. map (λ s. s.y) (cond b (x ∷ filter (λ s. s.x == c) rest) (filter (λ s. s.x == c) rest)) ≡ cond b
    (x.y ∷ values_in c rest) (values_in c rest)) [
      | true ↦ refl
      | false ↦ refl
    ]

column_values : (s : Scan) (f : Option (List Step)) (c n : ℕ) (p : ℕ → Bool) (xs : List (Option ℤ))
    → ((i : ℕ) (v : ℤ) → Holds xs i v → p (n + i) ≡ in_column s f c (n + i) v)
    → values_in c (spots_from s f n xs) ≡ picked p n xs
column_values s f c n p [] at = refl
column_values s f c n p (None ∷ xs) at =
    column_values s f c (n + 1) p xs (λ i v holds.
    (let e : n + suc i ≡ (n + 1) + i = omega arith in
    let P : ℕ → Type 0 = λ m. p m ≡ in_column s f c m v in
    subst P e (at (suc i) v holds)))
column_values s f c n p (Some u ∷ xs) at =
    let rest : values_in c (spots_from s f (n + 1) xs) ≡ picked p (n + 1) xs =
    column_values s f c (n + 1) p xs (λ i v holds.
    (let e : n + suc i ≡ (n + 1) + i = omega arith in
    let P : ℕ → Type 0 = λ m. p m ≡ in_column s f c m v in
    subst P e (at (suc i) v holds))) in
    let here : p n ≡ in_column s f c n u =
    (let e : n + 0 ≡ n = omega arith in
    let P : ℕ → Type 0 = λ m. p m ≡ in_column s f c m u in
    subst P e (at 0 u refl)) in
    ap (values_in c) (spots_more s f n u xs)
    ∙ value_one c (is_kept s f n u) (spot_of s n u) (spots_from s f (n + 1) xs)
    ∙ ap (λ vs. cond (in_column s f c n u) (u ∷ vs) vs) rest
    ∙ ap (λ b. cond b (u ∷ picked p (n + 1) xs) (picked p (n + 1) xs)) (sym here)

-- what holds of each point that is kept
spots_all : (Q : Point → Type 0) (s : Scan) (f : Option (List Step)) (n : ℕ) (xs : List (Option ℤ))
    → ((i : ℕ) (v : ℤ) → Holds xs i v → is_kept s f (n + i) v ≡ true → Q (spot_of s (n + i) v))
    → All Q (spots_from s f n xs)
spots_all Q s f n [] each = All-nil Q
spots_all Q s f n (None ∷ xs) each =
    spots_all Q s f (n + 1) xs (λ i v holds.
    (let e : n + suc i ≡ (n + 1) + i = omega arith in
    let P : ℕ → Type 0 = λ m. is_kept s f m v ≡ true → Q (spot_of s m v) in
    subst P e (each (suc i) v holds)))
spots_all Q s f n (Some u ∷ xs) each =
    let rest : All Q (spots_from s f (n + 1) xs) =
    spots_all Q s f (n + 1) xs (λ i v holds.
    (let e : n + suc i ≡ (n + 1) + i = omega arith in
    let P : ℕ → Type 0 = λ m. is_kept s f m v ≡ true → Q (spot_of s m v) in
    subst P e (each (suc i) v holds))) in
    let here : is_kept s f n u ≡ true → Q (spot_of s n u) =
    (let e : n + 0 ≡ n = omega arith in
    let P : ℕ → Type 0 = λ m. is_kept s f m u ≡ true → Q (spot_of s m u) in
    subst P e (each 0 u refl)) in
    let P : List Point → Type 0 = λ ps. All Q ps in
    let R : Bool → Type 0 = λ b. All Q (cond b (spot_of s n u ∷ spots_from s f (n + 1) xs) (spots_from s f (n + 1) xs)) in
    subst P (sym (spots_more s f n u xs))
    (elim (bool_cases (is_kept s f n u)) [
      | inl set ↦ subst R (sym set) (All-cons Q (spot_of s n u) (spots_from s f (n + 1) xs) (here set) rest)
      | inr unset ↦ subst R (sym unset) rest
    ])

-- a row has the four values of its column's points
row_sums : (s : Scan) (f : Option (List Step)) (list : List (Option ℤ)) (n c : ℕ) (r : Row) → length list ≤ n
    → IsRowOf (Takes s f c) list 0 n r → Sums r (picked (test_in (in_column s f c) list) 0 list)
row_sums s f list n c r long h =
    let p : ℕ → Bool = test_in (in_column s f c) list in
    let on : (i : ℕ) (v : ℤ) → IsTaken (Takes s f c) list 0 n i v → p (0 + i) ≡ true =
    λ i v t.
    (let e : 0 + i ≡ i = omega arith in
    ap p e ∙ test_at (in_column s f c) list i v t.holds ∙ takes_test s f c i v t.takes) in
    let off : (i : ℕ) (v : ℤ) → Holds list i v → p (0 + i) ≡ true → IsTaken (Takes s f c) list 0 n i v =
    λ i v holds set.
    (let e : i ≡ 0 + i = omega arith in
    let short : i < length list = slice_get_within list i (Some v) holds in
    record {
      low = omega arith;
      high = omega (arith, short, long);
      holds = holds;
      takes = test_takes s f c i v (sym (test_at (in_column s f c) list i v holds) ∙ ap p e ∙ set);
    }) in
    record {
      first = picked_first p 0 list h.first_at r.first h.first.holds (on h.first_at r.first h.first)
          (λ j u before holds set. h.before j u before (off j u holds set));
      least = record {
        among = picked_among p 0 list h.least_at r.least h.least.holds (on h.least_at r.least h.least);
        least = picked_all (λ u. r.least ≤ℤ u) p 0 list (λ j u holds set. h.above j u (off j u holds set));
      };
      greatest = record {
        among = picked_among p 0 list h.greatest_at r.greatest h.greatest.holds (on h.greatest_at r.greatest h.greatest);
        greatest = picked_all (λ u. u ≤ℤ r.greatest) p 0 list (λ j u holds set. h.below j u (off j u holds set));
      };
      last = picked_last p 0 list h.last_at r.last h.last.holds (on h.last_at r.last h.last)
          (λ j u behind holds set. h.behind j u behind (off j u holds set));
    }

-- an entry's row
entry_row : (s : Scan) (f : Option (List Step)) (list : List (Option ℤ)) (n : ℕ) (table : List (Option Row)) (c : ℕ) (r : Row)
    → Fills s f list n table → AreShown table → entry table c ≡ Some r
    → IsRowOf (Takes s f r.column) list 0 n r
entry_row s f list n table c r fills shown e =
    let P : Option Row → Type 0 = λ o. IsRowIn (Takes s f c) list 0 n o in
    let Q : ℕ → Type 0 = λ d. IsRowOf (Takes s f d) list 0 n r in
    subst Q (sym (shown.each c r e).column) (subst P e (fills.each c))

-- a column of which something is taken has a row
taken_entry : (T : ℕ → ℤ → Type 0) (list : List (Option ℤ)) (n i : ℕ) (v : ℤ) (o : Option Row) → IsRowIn T list 0 n o
    → IsTaken T list 0 n i v → (r : Row) × (o ≡ Some r)
taken_entry T list n i v None h t = absurd (h i v t)
taken_entry T list n i v (Some r) h t = (r, refl)

pub table_rows : (s : Scan) (f : Option (List Step)) (list : List (Option ℤ)) (n : ℕ) (table : List (Option Row)) → length list ≤ n
    → Fills s f list n table → AreShown table
    → AreRowsOf s.grid (sample_points (filter (passes f) (stored_in s.axis (s.from, s.end) list))) (entries table)
table_rows s f list n table long fills shown = record {
  rising = rows_rise table shown;
  each =
      entries_each (λ r. Sums r (values_in r.column (spots_from s f 0 list))) table (λ c r e.
      (let P : List ℤ → Type 0 = λ vs. Sums r vs in
      subst P (sym (column_values s f r.column 0 (test_in (in_column s f r.column) list) list (λ i v holds. value_at r.column i v holds)))
      (row_sums s f list n r.column r long (entry_row s f list n table c r fills shown e))));
  every = spots_all (λ x. Contains (columns_of (entries table)) x.x) s f 0 list (λ i v holds set. found i v holds set);
}
  where
    value_at : (c i : ℕ) (v : ℤ) → Holds list i v → test_in (in_column s f c) list (0 + i) ≡ in_column s f c (0 + i) v
    value_at c i v holds =
        let e : i ≡ 0 + i = omega arith in
        let P : ℕ → Type 0 = λ m. test_in (in_column s f c) list m ≡ in_column s f c m v in
        subst P e (test_at (in_column s f c) list i v holds)

    found : (i : ℕ) (v : ℤ) → Holds list i v → is_kept s f (0 + i) v ≡ true
        → Contains (columns_of (entries table)) (column s.grid (slot_time s.axis (0 + i)))
    found i v holds set =
        let e : i ≡ 0 + i = omega arith in
        let P : ℕ → Type 0 = λ m. is_kept s f m v ≡ true in
        let Q : ℕ → Type 0 = λ m. Contains (columns_of (entries table)) (column s.grid (slot_time s.axis m)) in
        let c : ℕ = column s.grid (slot_time s.axis i) in
        let short : i < length list = slice_get_within list i (Some v) holds in
        let kept : is_kept s f i v ≡ true = subst P (sym e) set in
        let takes : Takes s f c i v = test_takes s f c i v
        (and_from (is_kept s f i v) (column s.grid (slot_time s.axis i) == c) kept (same_test c c refl)) in
        let row : (r : Row) × (entry table c ≡ Some r) =
        taken_entry (Takes s f c) list n i v (entry table c) (fills.each c)
        (record { low = omega arith; high = omega (arith, short, long); holds = holds; takes = takes }) in
        subst Q e (listed table c row.0 shown row.1)

-- the same for the plan of which the scan is made
pub plan_rows : (s : Scan) (axis : Axis) (plan : Plan) (list : List (Option ℤ)) (rows : List Row) → s.axis ≡ axis → s.grid ≡ plan.grid
    → s.from ≡ plan.slots.0 → s.end ≡ plan.slots.1
    → AreRowsOf s.grid (sample_points (filter (passes plan.filter) (stored_in s.axis (s.from, s.end) list))) rows
    → AreRowsOf plan.grid (sample_points (plan_keeps axis plan list)) rows
plan_rows s axis plan list rows a g from end h =
    let A : Axis → Type 0 = λ x. AreRowsOf s.grid (sample_points (filter (passes plan.filter) (stored_in x (s.from, s.end) list))) rows in
    let G : Grid → Type 0 = λ x. AreRowsOf x (sample_points (filter (passes plan.filter) (stored_in axis (s.from, s.end) list))) rows in
    let F : ℕ → Type 0 = λ x. AreRowsOf plan.grid (sample_points (filter (passes plan.filter) (stored_in axis (x, s.end) list))) rows in
    let E : ℕ → Type 0 = λ x. AreRowsOf plan.grid (sample_points (filter (passes plan.filter) (stored_in axis (plan.slots.0, x) list))) rows
    in
    subst E end (subst F from (subst G g (subst A a h)))

-- the same for the query that was planned
pub query_rows : (query : ViewQuery) (plan : Plan) (list : List (Option ℤ)) (rows : List Row) → plan.grid ≡ query.grid
    → plan_keeps query.axis plan list ≡ query_keeps query list
    → AreRowsOf plan.grid (sample_points (plan_keeps query.axis plan list)) rows
    → AreRowsOf query.grid (sample_points (query_keeps query list)) rows
query_rows query plan list rows g same h =
    let G : Grid → Type 0 = λ x. AreRowsOf x (sample_points (plan_keeps query.axis plan list)) rows in
    let S : List Sample → Type 0 = λ x. AreRowsOf query.grid (sample_points x) rows in
    subst S same (subst G g h)

pub shown_by_plan : (query : ViewQuery) (plan : Plan) (rows : List Row) → plan.grid ≡ query.grid → All (IsShownRow plan.grid.w) rows
    → All (IsShownRow query.grid.w) rows
shown_by_plan query plan rows g h = let G : Grid → Type 0 = λ x. All (IsShownRow x.w) rows in subst G g h

slot_by : (list : List (Option ℤ)) (i : ℕ) (o : Option ℤ) → AreSlots list → slice_get list i ≡ Some o → IsSlot o
slot_by list i None slots is = tt
slot_by list i (Some v) slots is = slots i v is

pub all_slots : (list : List (Option ℤ)) → AreSlots list → All IsSlot list
all_slots list slots = λ k d less. slot_by list k (get_or list k d) slots (slice_get-get_or list k d less)

-- the walk from the top over an empty table finds them
pub has_rows : (view : NodesView) (s : Scan) (f : Option (List Step)) (top : Key) (old table : List (Option Row)) → top ≡ top_key view.slots
    → length old ≡ s.grid.w → length table ≡ length old → All (λ o. o ≡ None) old
    → ((list : List (Option ℤ)) → Agrees view list → Fills s f list (first_slot top) old → Fills s f list (end_slot top) table)
    → (AreShown old → AreShown table) → HasRows view s f (entries table)
has_rows view s f top old table is sized same empty fills shown =
    let none : (c : ℕ) → entry old c ≡ None = λ c. empty_entries old c empty in
    let good : AreShown table = shown (none_shown old none) in
    record {
      rising = rows_rise table good;
      shown = rows_shown s.grid.w table (same ∙ sized) good;
      of_list = λ list agrees.
          let few : view.slots ≤ 2 ^ 35 = omega (arith, agrees.few, agrees.slots) in
          let long : length list ≤ end_slot top = omega (
            arith,
            ap end_slot is,
            top_end view.slots,
            height_covers view.slots few,
            agrees.slots,
          ) in
          let zero : first_slot top ≡ 0 = ap first_slot is ∙ top_first view.slots in
          table_rows s f list (end_slot top) table long (fills list agrees (fills_start s f list (first_slot top) old zero none)) good;
    }
