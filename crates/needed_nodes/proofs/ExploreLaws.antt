use Rattle.std.proofs.Common.{ℕ, ℤ, ◌≡◌, ◌+◌, ◌-◌, ◌*◌, ◌^◌, ◌<◌, ◌≤◌, inl, inr, List, [], length, get_or, refl, sym, ◌∙◌, ap, subst, arith}
use Rattle.std.proofs.Common.{le_refl, lit<}
use Rattle.std.proofs.Math.Nat.{mul-le-mul_left, pow-le-pow_right}
use Rattle.std.proofs.lemmas.List.Elements.{All-nil, All-weaker}
use Rattle.std.proofs.lemmas.List.Sorted.{All-permutation, Contains-permutation, IsPermutation-map, length_permutation}
use Rattle.std.specs.Prelude.{Option, Some, None, All, IsPermutation, ◌↔◌, ⊤}
use Rattle.chart_grid.specs.Slots.{IsInColumn}
use Rattle.chart_grid.specs.declared.axis.Axis.{Axis}
use Rattle.chart_grid.specs.declared.grid.Grid.{Grid}
use Rattle.om3_coeff.specs.declared.key.Key.{Key}
use Rattle.om3_coeff.specs.declared.span.Span.{Span}
use Rattle.om3_coeff.specs.declared.coef.Coef.{Coef}
use Rattle.om3_coeff.specs.Keys.{first_slot, end_slot, page_levels, height, top_key, IsNode}
use Rattle.om3_coeff.specs.Spans.{AreSlots, IsProperIfAny, span}
use Rattle.om3_coeff.specs.Coefs.{coef}
use Rattle.om3_coeff.specs.View.{NodesView, StaysSame, MayAsk}
use Rattle.om3_coeff.proofs.KeyLemmas.{height_few, height_covers, end_within}
use Rattle.om3_coeff.proofs.KnownLemmas.{known_top}
use Rattle.m4_groups.specs.declared.row.Row.{Row}
use Rattle.view_keys.specs.Needed.{IsNeeded}
use Rattle.view_keys.specs.Wanted.{Seen, IsWanted}
use Rattle.view_keys.specs.Listed.{keys_of, AreInOrder, IsListOf}
use Rattle.needed_nodes.specs.declared.window.Window.{Window}
use Rattle.needed_nodes.specs.declared.blocks.Blocks.{Blocks}
use Rattle.needed_nodes.specs.declared.scan_of.ScanOf.{ScanOf}
use Rattle.needed_nodes.specs.declared.scan_of.ScanOf.TheVariants.{Node, NoMemory}
use Rattle.needed_nodes.specs.Answers.{seen_of, AgreesForView, IsEntry, IsShownRow, IsCauseFor, most_needed, most_reads}
use Rattle.needed_nodes.specs.Ranks.{first_rank, last_rank, IsBelow, IsTopmost}
use Rattle.needed_nodes.specs.Serving.{Serves, ServesList, list_seen, IsReady, IsCauseOf}
use Rattle.needed_nodes.specs.Gathering.{AreApart, Gathered}
use Rattle.needed_nodes.specs.Blocks.{IsCutBelow, most_cut, AreBlocksIfAny, AreEndsIfAny, IsSpanBelowIfAny, entry, HoldBlocks, HoldEnds}
use Rattle.needed_nodes.specs.Blocks.{HoldSpans}
use Rattle.needed_nodes.specs.Columns.{top_end, IsEndKey, IsInColumns, HasColumns}
use Rattle.needed_nodes.specs.Ordering.{IsSmallKey, AreSmallKeys}
use Rattle.needed_nodes.specs.Exploring.{AreAllOf, ExploresWindow, Explores}
use Rattle.needed_nodes.proofs.Nesting.{some_slot}
use Rattle.needed_nodes.proofs.RankLaws.{rank_most, inside_not_cut}
use Rattle.needed_nodes.proofs.ServeLaws.{serves_list_later, serves_own, cut_wanted, end_wanted, wanted_cases}
use Rattle.needed_nodes.proofs.GatherLaws.{Joins, gathers_join, gathers_earlier}
use Rattle.needed_nodes.proofs.ColumnLaws.{shown_end}
use Rattle.needed_nodes.proofs.PointLaws.{rows_are, no_rows}

-- the walk begins at the top
pub top_ready : (v : NodesView) (w : Window) (top : Key) (root : Option Span) (n : ℕ) → v.fit → v.slots ≡ w.axis.slots → n ≡ v.slots
    → top ≡ top_key n → root ≡ v.root → IsProperIfAny root
    → IsReady v w top root
top_ready v w top root n fit slots count is from proper =
    let here : top ≡ top_key w.axis.slots = is ∙ ap top_key (count ∙ slots) in
    let P : Key → Type 0 = λ k. IsReady v w k root in
    let none_off : height w.axis.slots - height w.axis.slots ≡ 0 = omega arith in
    let one : 2 ^ (height w.axis.slots - height w.axis.slots) ≡ 1 = ap (λ m. 2 ^ m) none_off in
    subst P (sym here) (record {
      fit = fit;
      slots = slots;
      key = record { high = le_refl (height w.axis.slots); within = omega (arith, one) };
      proper = proper;
      known = λ S served. known_top S.root S.told w.axis.slots ∙ ap (λ s. Some s) (sym served.root ∙ sym from);
    })

pub top_follows : (v : NodesView) (top : Key) (n : ℕ) → n ≡ v.slots → top ≡ top_key n → MayAsk v top
top_follows v top n count is = inl (ap (λ k. k.level) is ∙ ap height count)

pub top_topmost : (v : NodesView) (w : Window) (top : Key) (n : ℕ) → v.slots ≡ w.axis.slots → n ≡ v.slots → top ≡ top_key n
    → IsTopmost w top
top_topmost v w top n slots count is = inl (ap (λ k. k.level) is ∙ ap height (count ∙ slots))

top_is : (v : NodesView) (w : Window) (top : Key) (n : ℕ) → v.slots ≡ w.axis.slots → n ≡ v.slots → top ≡ top_key n
    → top ≡ top_key w.axis.slots
top_is v w top n slots count is = is ∙ ap top_key (count ∙ slots)

-- the table at the start
empty_entry : (table : List (Option Blocks)) (c : ℕ) → All (λ b. b ≡ None) table → c < length table → entry table c ≡ None
empty_entry table c empty less = empty c None less

start_blocks : (w : Window) (table : List (Option Blocks)) → length table ≡ w.grid.w → All (λ b. b ≡ None) table → HoldBlocks w 0 table
start_blocks w table sized empty c below =
    let P : Option Blocks → Type 0 = λ o. AreBlocksIfAny w 0 c o in subst P (sym (empty_entry table c empty (omega (arith, sized)))) tt

start_ends : (S : Seen) (w : Window) (table : List (Option Blocks)) → length table ≡ w.grid.w → All (λ b. b ≡ None) table
    → HoldEnds S w 0 table
start_ends S w table sized empty c below =
    let P : Option Blocks → Type 0 = λ o. AreEndsIfAny S w 0 c o in
    subst P (sym (empty_entry table c empty (omega (arith, sized)))) (λ i is less. absurd (omega arith))

start_spans : (list : List (Option ℤ)) (w : Window) (table : List (Option Blocks)) → length table ≡ w.grid.w → All (λ b. b ≡ None) table
    → HoldSpans list w 0 table
start_spans list w table sized empty c below =
    let P : Option Blocks → Type 0 = λ o. IsSpanBelowIfAny list w 0 c o in
    subst P (sym (empty_entry table c empty (omega (arith, sized)))) (λ i v is less holds. omega arith)

first_zero : (w : Window) → first_slot (top_key w.axis.slots) ≡ 0
first_zero w = omega arith

-- the table at the end says of all slots of the window what it says of those below the top's end
end_past : (w : Window) → w.axis.slots ≤ 2 ^ 35 → w.end ≤ top_end w
end_past w few = omega (arith, w.stop.within, height_covers w.axis.slots few)

ends_back : (S : Seen) (w : Window) (x y c : ℕ) (bs : Option Blocks) → y ≤ x → AreEndsIfAny S w x c bs → AreEndsIfAny S w y c bs
ends_back S w x y c None le h = λ i is less. h i is (omega arith)
ends_back S w x y c (Some bs) le h = record {
  first = h.first;
  last = h.last;
  before = h.before;
  behind = λ i is past less. h.behind i is past (omega arith);
}

spans_back : (list : List (Option ℤ)) (w : Window) (x c : ℕ) (bs : Option Blocks) → c < w.grid.w → w.end ≤ x
    → IsSpanBelowIfAny list w x c bs → IsSpanBelowIfAny list w w.end c bs
spans_back list w x c None drawn le h = λ i v is less holds. h i v is (omega arith) holds
spans_back list w x c (Some bs) drawn le h = record {
  least_at = h.least_at;
  least_in = h.least_in;
  least_below = shown_end w c h.least_at h.least_in drawn;
  least = h.least;
  greatest_at = h.greatest_at;
  greatest_in = h.greatest_in;
  greatest_below = shown_end w c h.greatest_at h.greatest_in drawn;
  greatest = h.greatest;
  above = λ i v is less holds. h.above i v is (omega arith) holds;
  below = λ i v is less holds. h.below i v is (omega arith) holds;
}

pub found_blocks : (v : NodesView) (w : Window) (top : Key) (n : ℕ) (table later : List (Option Blocks)) → v.slots ≡ w.axis.slots
    → n ≡ v.slots → top ≡ top_key n
    → length table ≡ w.grid.w → All (λ b. b ≡ None) table → (HoldBlocks w (first_slot top) table → HoldBlocks w (end_slot top) later)
    → HoldBlocks w (top_end w) later
found_blocks v w top n table later slots count is sized empty step =
    let P : Key → Type 0 = λ k. HoldBlocks w (first_slot k) table → HoldBlocks w (end_slot k) later in
    let Q : ℕ → Type 0 = λ x. HoldBlocks w x table in
    subst P (top_is v w top n slots count is) step (subst Q (sym (first_zero w)) (start_blocks w table sized empty))

pub found_ends : (v : NodesView) (S : Seen) (w : Window) (top : Key) (n : ℕ) (table later : List (Option Blocks)) → v.slots ≡ w.axis.slots
    → n ≡ v.slots → n ≤ 2 ^ 35 → top ≡ top_key n
    → length table ≡ w.grid.w → All (λ b. b ≡ None) table → (HoldEnds S w (first_slot top) table → HoldEnds S w (end_slot top) later)
    → HoldEnds S w w.end later
found_ends v S w top n table later slots count few is sized empty step c below =
    let P : Key → Type 0 = λ k. HoldEnds S w (first_slot k) table → HoldEnds S w (end_slot k) later in
    let Q : ℕ → Type 0 = λ x. HoldEnds S w x table in
    let all : HoldEnds S w (top_end w) later = subst P (top_is v w top n slots count is) step
    (subst Q (sym (first_zero w)) (start_ends S w table sized empty)) in
    ends_back S w (top_end w) w.end c (entry later c) (end_past w (omega (arith, few, count, slots))) (all c below)

pub found_spans : (v : NodesView) (list : List (Option ℤ)) (w : Window) (top : Key) (n : ℕ) (table later : List (Option Blocks))
    → v.slots ≡ w.axis.slots → n ≡ v.slots → n ≤ 2 ^ 35 → top ≡ top_key n
    → length table ≡ w.grid.w → All (λ b. b ≡ None) table
    → (HoldSpans list w (first_slot top) table → HoldSpans list w (end_slot top) later) → HoldSpans list w w.end later
found_spans v list w top n table later slots count few is sized empty step c below =
    let P : Key → Type 0 = λ k. HoldSpans list w (first_slot k) table → HoldSpans list w (end_slot k) later in
    let Q : ℕ → Type 0 = λ x. HoldSpans list w x table in
    let all : HoldSpans list w (top_end w) later = subst P (top_is v w top n slots count is) step
    (subst Q (sym (first_zero w)) (start_spans list w table sized empty)) in
    spans_back list w (top_end w) c (entry later c) below (end_past w (omega (arith, few, count, slots))) (all c below)

-- the counts
cut_most : (w : Window) (top : Key) → top ≡ top_key w.axis.slots → most_cut w top ≤ height w.axis.slots * (w.grid.w + 1)
cut_most w top is =
    let level : top.level ≡ height w.axis.slots = ap (λ k. k.level) is in
    omega (
      arith,
      mul-le-mul_left {m = last_rank w top - first_rank w top} {n = w.grid.w + 1} (height w.axis.slots)
          (omega (arith, rank_most w (end_slot top - 1))),
      ap (λ n. n * (last_rank w top - first_rank w top)) level,
    )

count_all : (h c w m : ℕ) → c ≤ h * (w + 1) → m ≡ w * (2 * h) → c + m ≤ (3 * w + 1) * h
count_all h c w m a b = omega (arith, a, b)

count_reads : (p h c w r0 r1 r2 : ℕ) → h ≡ 7 * p → c ≤ h * (w + 1) → r1 ≤ r0 + c → r2 ≤ r1 + w * (2 * h + 2 * p) → r2 ≤ r0 + (4 * w + 2) * h
count_reads p h c w r0 r1 r2 e a b d = omega (arith, a, b, d, ap (λ n. n * w) e, ap (λ n. w * n) e)

pub reads_found : (v : NodesView) (w : Window) (top : Key) (n r0 r1 : ℕ) → v.slots ≡ w.axis.slots → n ≡ v.slots → top ≡ top_key n
    → r1 ≤ r0 + most_cut w top → r1 ≤ r0 + most_reads w.grid.w w.axis.slots
reads_found v w top n r0 r1 slots count is a =
    count_reads (page_levels w.axis.slots) (height w.axis.slots) (most_cut w top) w.grid.w r0 r1 r1 refl
    (cut_most w top (top_is v w top n slots count is)) a (omega arith)

pub reads_all : (v : NodesView) (w : Window) (top : Key) (n r0 r1 r2 : ℕ) → v.slots ≡ w.axis.slots → n ≡ v.slots → top ≡ top_key n
    → r1 ≤ r0 + most_cut w top
    → r2 ≤ r1 + w.grid.w * (2 * height w.axis.slots + 2 * page_levels w.axis.slots) → r2 ≤ r0 + most_reads w.grid.w w.axis.slots
reads_all v w top n r0 r1 r2 slots count is a b =
    count_reads (page_levels w.axis.slots) (height w.axis.slots) (most_cut w top) w.grid.w r0 r1 r2 refl
    (cut_most w top (top_is v w top n slots count is)) a b

-- all keys of a window
node_below : (w : Window) (k : Key) → IsNode (height w.axis.slots) k → IsBelow (top_key w.axis.slots) k
node_below w k node = record {
  lower = node.high;
  from = omega (arith, first_zero w);
  to = omega (arith, end_within (height w.axis.slots) k node.high node.within);
}

window_keys : (v u : NodesView) (w : Window) (top : Key) (old mid new : List (Key × Coef)) → top ≡ top_key w.axis.slots → StaysSame v u
    → Gathered v w (IsCutBelow w top) (λ S k. ⊤) (most_cut w top) old mid
    → Gathered u w (IsInColumns w w.grid.w) (IsEndKey w) (w.grid.w * (2 * height w.axis.slots)) mid new
    → Gathered v w (λ k. ⊤) (λ S. IsWanted S w.axis w.grid w.lo w.hi) (most_needed w.grid.w w.axis.slots) old new
window_keys v u w top old mid new is same g h =
    let P : Key → Type 0 = λ t. (k : Key) → IsNode (height w.axis.slots) k → IsBelow t k in
    let top_below : P top = subst P (sym is) (node_below w) in
    let joins : Joins v w (IsCutBelow w top) (IsInColumns w w.grid.w) (λ k. ⊤) (λ S k. ⊤) (IsEndKey w)
    (λ S. IsWanted S w.axis w.grid w.lo w.hi) = record {
      apart = λ k cut part. inside_not_cut w part.column k part.inside cut.cut;
      first = λ k cut. tt;
      second = λ k part. tt;
      first_kind = λ S served k node cut seen kind. cut_wanted S w k seen.0 node seen.1 cut.cut;
      second_kind = λ S served k node part seen kind. end_wanted S w kind.column k seen.0 node seen.1 kind.inside
          (kind.clear.0 seen.0 seen.1) kind.clear.1;
      covers = λ S served k node part seen wanted. elim (wanted_cases S w k wanted) [
        | inl cut ↦ inl (record { below = top_below k node; cut = cut }, tt)
        | inr end ↦ inr (
          record { column = end.column; below = end.inside.shown; inside = end.inside },
          record { column = end.column; inside = end.inside; clear = (end.uneven, end.clear) },
        )
      ];
    } in
    gathers_join v w (IsCutBelow w top) (IsInColumns w w.grid.w) (λ k. ⊤) (λ S k. ⊤) (IsEndKey w) (λ S. IsWanted S w.axis w.grid w.lo w.hi)
    (most_cut w top) (w.grid.w * (2 * height w.axis.slots)) (most_needed w.grid.w w.axis.slots) old mid new joins
    (count_all (height w.axis.slots) (most_cut w top) w.grid.w (w.grid.w * (2 * height w.axis.slots)) (cut_most w top is) refl) g
    (gathers_earlier v u w (IsInColumns w w.grid.w) (IsEndKey w) (w.grid.w * (2 * height w.axis.slots)) mid new same h)

pub explores_window : (v u : NodesView) (w : Window) (top : Key) (n : ℕ) (old mid new : List (Key × Coef)) (rows : List Row)
    → v.slots ≡ w.axis.slots → n ≡ v.slots → top ≡ top_key n → StaysSame v u
    → Gathered v w (IsCutBelow w top) (λ S k. ⊤) (most_cut w top) old mid → HasColumns u w w.grid.w mid new rows
    → ExploresWindow v w old new rows
explores_window v u w top n old mid new rows slots count is same g h = record {
  gathered = window_keys v u w top old mid new (top_is v w top n slots count is) same g h.gathered;
  rising = h.rising;
  shown = h.shown;
  of_list = λ list served.
      let later : ServesList u w list = serves_list_later v u w list same served in
      rows_are w list rows served.slots h.rising h.shown (h.each list later) (h.every list later);
}

-- the law of needed and wanted keys, at a list's own tree
abbrev pub WantedLaw : Type 0
WantedLaw =
    (list : List (Option ℤ)) (axis : Axis) (grid : Grid) (lo hi : ℤ) (seen : Seen) → AreSlots list → length list ≤ 2 ^ 35
    → axis.slots ≡ length list → seen.root ≡ span list (top_key (length list))
    → ((k : Key) → IsNeeded list axis grid lo hi k → IsWanted seen axis grid lo hi k → seen.told k ≡ Some (coef list k))
    → (k : Key) → IsWanted seen axis grid lo hi k ↔ IsNeeded list axis grid lo hi k

pub list_law : WantedLaw → (v : NodesView) (axis : Axis) (grid : Grid) (lo hi : ℤ) (list : List (Option ℤ)) → axis.slots ≡ v.slots
    → AgreesForView v axis grid lo hi list
    → (k : Key) → IsWanted (list_seen list) axis grid lo hi k ↔ IsNeeded list axis grid lo hi k
list_law law v axis grid lo hi list slots agrees = law list axis grid lo hi (list_seen list) agrees.values agrees.few (slots
    ∙ agrees.slots) refl (λ k needed wanted. refl)

pub agrees_serves : WantedLaw → (v : NodesView) (w : Window) (list : List (Option ℤ)) → w.axis.slots ≡ v.slots
    → AgreesForView v w.axis w.grid w.lo w.hi list → ServesList v w list
agrees_serves law v w list slots agrees = record {
  values = agrees.values;
  few = agrees.few;
  slots = slots ∙ agrees.slots;
  serves = record {
    tells = agrees.tells;
    root = agrees.root;
    told = λ k wanted.
        let needed : IsNeeded list w.axis w.grid w.lo w.hi k = (list_law law v w.axis w.grid w.lo w.hi list slots agrees k).0 wanted in
        agrees.told k needed.node needed.stored needed;
  };
}

-- the keys that were gathered of a window are all wanted keys
all_of_window : (v : NodesView) (w : Window) (S : Seen) (new : List (Key × Coef))
    → Gathered v w (λ k. ⊤) (λ S. IsWanted S w.axis w.grid w.lo w.hi) (most_needed w.grid.w w.axis.slots) [] new
    → Serves v w S → AreAllOf (IsWanted S w.axis w.grid w.lo w.hi) S.told new
all_of_window v w S new g served =
    let P : List (Key × Coef) → Type 0 = λ es. AreAllOf (IsWanted S w.axis w.grid w.lo w.hi) S.told es in
    subst P (sym g.is) (record {
      each = λ k d less. (g.told S served k d less).kind;
      all = λ k wanted. g.all S served k wanted.node tt (wanted.span, wanted.known_so) wanted;
      coefs = λ k d less. (g.told S served k d less).coef;
    })

all_as : (Kind Kind' : Key → Type 0) (coefs : Key → Option Coef) (es : List (Key × Coef)) → ((k : Key) → Kind k ↔ Kind' k)
    → AreAllOf Kind coefs es → AreAllOf Kind' coefs es
all_as Kind Kind' coefs es same h = record {
  each = All-weaker (λ e. Kind e.0) (λ e. Kind' e.0) (λ e kind. (same e.0).0 kind) es h.each;
  all = λ k kind. h.all k ((same k).1 kind);
  coefs = h.coefs;
}

window_explores : WantedLaw → (v : NodesView) (w : Window) (new : List (Key × Coef)) (rows : List Row) → w.axis.slots ≡ v.slots
    → ExploresWindow v w [] new rows → Explores v w.axis w.grid w.lo w.hi new rows
window_explores law v w new rows slots h =
    let g : Gathered v w (λ k. ⊤) (λ S. IsWanted S w.axis w.grid w.lo w.hi) (most_needed w.grid.w w.axis.slots) [] new = h.gathered in
    let P : List (Key × Coef) → Type 0 = λ es. All (IsEntry w.axis.slots) es in
    let Q : List (Key × Coef) → Type 0 = λ es. AreApart es in
    record {
      entries = subst P (sym g.is) (λ k d less. record { node = g.nodes k d less; good = g.good k d less });
      apart = subst Q (sym g.is) g.apart;
      few = omega (arith, g.few, ap length g.is);
      told = λ tells. all_of_window v w (seen_of v) new g (serves_own v w tells);
      of_list = λ list agrees.
          all_as (IsWanted (list_seen list) w.axis w.grid w.lo w.hi) (IsNeeded list w.axis w.grid w.lo w.hi) (λ k. Some (coef list k)) new
          (list_law law v w.axis w.grid w.lo w.hi list slots agrees)
          (all_of_window v w (list_seen list) new g (agrees_serves law v w list slots agrees).serves);
      rising = h.rising;
      shown = h.shown;
      rows_of_list = λ list agrees. h.of_list list (agrees_serves law v w list slots agrees);
    }

pub explores_as : WantedLaw → (v : NodesView) (w : Window) (axis : Axis) (grid : Grid) (lo hi : ℤ) (old new : List (Key × Coef))
    (rows : List Row) → w.axis ≡ axis → w.grid ≡ grid → w.lo ≡ lo → w.hi ≡ hi → axis.slots ≡ v.slots → old ≡ []
    → ExploresWindow v w old new rows → Explores v axis grid lo hi new rows
explores_as law v w axis grid lo hi old new rows ea eg el eh slots none h =
    let A : Axis → Type 0 = λ a. Explores v a grid lo hi new rows in
    let G : Grid → Type 0 = λ g. Explores v w.axis g lo hi new rows in
    let L : ℤ → Type 0 = λ x. Explores v w.axis w.grid x hi new rows in
    let H : ℤ → Type 0 = λ x. Explores v w.axis w.grid w.lo x new rows in
    let O : List (Key × Coef) → Type 0 = λ es. ExploresWindow v w es new rows in
    subst A ea (subst G eg (subst L el (subst H eh (window_explores law v w new rows (ap (λ a. a.slots) ea ∙ slots) (subst O none h)))))

-- the same where the ends of the range have other names
pub explores_at : (v : NodesView) (axis : Axis) (grid : Grid) (a b lo hi : ℤ) (keys : List (Key × Coef)) (rows : List Row) → a ≡ lo → b ≡ hi
    → Explores v axis grid a b keys rows → Explores v axis grid lo hi keys rows
explores_at v axis grid a b lo hi keys rows el eh h =
    let L : ℤ → Type 0 = λ x. Explores v axis grid x hi keys rows in
    let H : ℤ → Type 0 = λ x. Explores v axis grid a x keys rows in
    subst L el (subst H eh h)

-- a view that shows no slot wants and needs no key
none_wanted : (S : Seen) (axis : Axis) (grid : Grid) (lo hi : ℤ) (k : Key) → ((c i : ℕ) → IsInColumn axis grid c i → ⊥)
    → IsWanted S axis grid lo hi k → ⊥
none_wanted S axis grid lo hi k none wanted = elim wanted.reason [
  | inl cut ↦ none wanted.column cut.slot cut.in_column
  | inr own ↦ none wanted.column (first_slot k) (own.0 (first_slot k) (record { from = le_refl (first_slot k); to = some_slot k }))
]

none_needed : (list : List (Option ℤ)) (axis : Axis) (grid : Grid) (lo hi : ℤ) (k : Key) → ((c i : ℕ) → IsInColumn axis grid c i → ⊥)
    → IsNeeded list axis grid lo hi k → ⊥
none_needed list axis grid lo hi k none needed = elim needed.reason [
  | inl cut ↦ none needed.column cut.slot cut.in_column
  | inr own ↦ none needed.column (first_slot k) (own.0 (first_slot k) (record { from = le_refl (first_slot k); to = some_slot k }))
]

all_none : (Kind : Key → Type 0) (coefs : Key → Option Coef) → ((k : Key) → Kind k → ⊥) → AreAllOf Kind coefs []
all_none Kind coefs none = record {
  each = All-nil (λ e. Kind e.0);
  all = λ k kind. absurd (none k kind);
  coefs = All-nil (λ e. coefs e.0 ≡ Some e.1);
}

pub explores_nothing : (v : NodesView) (axis : Axis) (grid : Grid) (lo hi : ℤ) (es : List (Key × Coef)) (rows : List Row)
    → axis.slots ≡ v.slots → es ≡ [] → rows ≡ [] → ((c i : ℕ) → IsInColumn axis grid c i → ⊥)
    → Explores v axis grid lo hi es rows
explores_nothing v axis grid lo hi es rows slots no_keys none_shown none =
    let P : List (Key × Coef) → Type 0 = λ es. Explores v axis grid lo hi es rows in
    let Q : List Row → Type 0 = λ rs. Explores v axis grid lo hi [] rs in
    subst P (sym no_keys) (subst Q (sym none_shown) (record {
      entries = All-nil (IsEntry axis.slots);
      apart = tt;
      few = omega arith;
      told = λ tells. all_none (IsWanted (seen_of v) axis grid lo hi) v.told (λ k. none_wanted (seen_of v) axis grid lo hi k none);
      of_list = λ list agrees. all_none (IsNeeded list axis grid lo hi) (λ k. Some (coef list k))
          (λ k. none_needed list axis grid lo hi k none);
      rising = λ i j d less short. absurd (omega arith);
      shown = All-nil (IsShownRow grid.w);
      rows_of_list = λ list agrees. no_rows axis grid lo hi list (slots ∙ agrees.slots) none;
    }))

-- causes, in the words of a view
pub cause_for : (v u : NodesView) (w : Window) (axis : Axis) (grid : Grid) (lo hi : ℤ) (e : ScanOf) → w.axis ≡ axis → w.grid ≡ grid
    → w.lo ≡ lo → w.hi ≡ hi → IsCauseOf v u w e → IsCauseFor v u axis grid lo hi e
cause_for v u w axis grid lo hi (Node e) ea eg el eh h =
    let A : Axis → Type 0 = λ a. IsCauseFor v u a grid lo hi (Node e) in
    let G : Grid → Type 0 = λ g. IsCauseFor v u w.axis g lo hi (Node e) in
    let L : ℤ → Type 0 = λ x. IsCauseFor v u w.axis w.grid x hi (Node e) in
    let H : ℤ → Type 0 = λ x. IsCauseFor v u w.axis w.grid w.lo x (Node e) in
    subst A ea (subst G eg (subst L el (subst H eh (h.0, λ tells. h.1 (seen_of v) (serves_own v w tells)))))
cause_for v u w axis grid lo hi NoMemory ea eg el eh h = tt

pub reads_for : (w : Window) (axis : Axis) (grid : Grid) (r0 r1 : ℕ) → w.axis ≡ axis → w.grid ≡ grid
    → r1 ≤ r0 + most_reads w.grid.w w.axis.slots → r1 ≤ r0 + most_reads grid.w axis.slots
reads_for w axis grid r0 r1 ea eg h =
    let A : Axis → Type 0 = λ a. r1 ≤ r0 + most_reads grid.w a.slots in
    let G : Grid → Type 0 = λ g. r1 ≤ r0 + most_reads g.w w.axis.slots in
    subst A ea (subst G eg h)

-- sorted keys
small_key : (n : ℕ) (k : Key) → IsNode (height n) k → IsSmallKey k
small_key n k node = record {
  level = omega (arith, node.high, height_few n);
  index = omega (arith, node.within, pow-le-pow_right {n = 2} (lit< tt) {i = height n - k.level} {j = 35} (omega (arith, height_few n)));
}

pub small_keys : (n : ℕ) (es : List (Key × Coef)) → All (IsEntry n) es → AreSmallKeys es
small_keys n es entries k d less = small_key n (get_or es k d).0 (entries k d less).node

pub sorted_list : (Kind : Key → Type 0) (coefs : Key → Option Coef) (es sorted : List (Key × Coef)) → IsPermutation es sorted
    → AreInOrder sorted → AreAllOf Kind coefs es → IsListOf Kind coefs sorted
sorted_list Kind coefs es sorted moved order h = record {
  order = order;
  each = All-permutation (λ e. Kind e.0) es sorted moved h.each;
  all = λ k kind. Contains-permutation (keys_of es) (keys_of sorted) k (IsPermutation-map (λ e. e.0) es sorted moved) (h.all k kind);
  coefs = All-permutation (λ e. coefs e.0 ≡ Some e.1) es sorted moved h.coefs;
}

pub sorted_few : (es sorted : List (Key × Coef)) (n : ℕ) → IsPermutation es sorted → length es ≤ n → length sorted ≤ n
sorted_few es sorted n moved few = omega (arith, length_permutation es sorted moved, few)

pub sorted_entries : (n : ℕ) (es sorted : List (Key × Coef)) → IsPermutation es sorted → All (IsEntry n) es → All (IsEntry n) sorted
sorted_entries n es sorted moved entries = All-permutation (IsEntry n) es sorted moved entries
