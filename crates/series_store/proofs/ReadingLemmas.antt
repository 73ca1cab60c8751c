-- The values of a window are read child by child.
use Rattle.std.proofs.Common.{◌≡◌, ◌≢◌, ℕ, ℤ, suc, ◌+◌, ◌-◌, ◌*◌, ◌^◌, ◌<◌, ◌≤◌, true, List, Option, Some, sym, ap, subst, arith, inl, inr}
use Rattle.std.proofs.Common.{◌∙◌}
use Rattle.std.specs.Prelude.{Result, Ok, Err, IfErr, OnOk}
use Rattle.whole_number.specs.Range.{IsValue}
use Rattle.block_disk.specs.View.{Image, View}
use Rattle.om3_coeff.specs.declared.span.Span.{Span}
use Rattle.om3_coeff.specs.Keys.{first_slot, end_slot, page_levels}
use Rattle.om3_coeff.specs.Spans.{AreSlots, span}
use Rattle.om3_coeff.proofs.KeyLemmas.{height_covers}
use Rattle.catalog_page.specs.Entries.{Entry}
use Rattle.node_page.specs.Fields.{child_at}
use Rattle.page_space.specs.declared.superblock.Superblock.{Superblock}
use Rattle.path_repair.specs.Damage.{AreBelow as AreSpansBelow}
use Rattle.path_repair.specs.Forms.{AreTops}
use Rattle.path_repair.specs.Sums.{sum_below}
use Rattle.path_repair.proofs.CountLemmas.{count_one}
use Rattle.path_repair.proofs.ListLemmas.{width}
use Rattle.path_repair.proofs.SumLemmas.{sum_suc, sum_none, sum_upto}
use Rattle.series_book.specs.declared.limits.TheConstants.{MOST_SLOTS}
use Rattle.series_catalog.specs.Catalogs.{entry_of}
use Rattle.series_catalog.specs.declared.stored_series.StoredSeries.{StoredSeries}
use Rattle.series_catalog.proofs.ReadLemmas.{risen_on}
use Rattle.stored_book.specs.Records.{entry}
use Rattle.tree_walk.specs.Trees.{top_of_page, IsTree, StandsFor}
use Rattle.tree_walk.specs.declared.tree.Tree.{Tree}
use Rattle.series_store.specs.Counting.{Looks, IsBadFor, IsPageCause}
use Rattle.series_store.specs.Opening.{IsOutside}
use Rattle.series_store.specs.Sending.{HasUnfitPage}
use Rattle.series_store.specs.Windows.{AreBelow, AreNone, AreOf, AreOfSome, meets, pages_met, reach, window}
use Rattle.series_store.specs.WindowReading.{IsAdded, IsTreeWindowCause, IsWindowCause}
use Rattle.series_store.specs.declared.errors.StoreError.{StoreError}
use Rattle.series_store.specs.declared.errors.StoreError.TheVariants.{Refused, NotAStore, DiskFault, Damaged, NoMemory}
use Rattle.series_store.specs.declared.window_values.WindowValues.{WindowValues}
use Rattle.series_store.proofs.BookCountLemmas.{root_stands}
use Rattle.series_store.proofs.LookLemmas.{looks_then}
use Rattle.series_store.proofs.TreeCountLemmas.{child_stands}
use Rattle.series_store.proofs.WindowLemmas.{none_below, none_some, below_end, some_end, below_value, some_value, slot_met, slot_holds}
use Rattle.series_store.proofs.WindowLemmas.{slot_first, slot_end}

-- where the pages of the children before one are read
abbrev pub met_before : ℕ → ℕ → ℕ → ℕ → ℕ → ℕ
met_before from to below index child = sum_below (λ c. pages_met from to below (128 * index + c)) child

-- the values of the children before this one are gathered
pub record IsReading (told told' : Type 0) (old new under under' : View) (s s' : Superblock) (from to level below index page : ℕ)
    (top : Option Span) (values values' : WindowValues) (child : ℕ) : Type 0 where
  pub looks : Looks told told' old new under under' s s'
  pub reads : new.reads ≤ old.reads + 1 + met_before from to below index child
  pub some : AreOfSome from (reach from to (first_slot (top_of_page level index))) values
      → AreOfSome from (reach from to (first_slot (top_of_page below (128 * index + child)))) values'
  pub values_are : (list : List (Option ℤ)) → told → AreSlots list → IsTree old.image s.total list level index page
      → top ≡ span list (top_of_page level index)
      → AreBelow list from to (first_slot (top_of_page level index)) values
      → AreBelow list from to (first_slot (top_of_page below (128 * index + child))) values'

first_child : (q p w : ℕ) → w ≡ 128 * p → q * w ≡ (128 * q + 0) * p
first_child q p w e = omega (arith, ap (λ n. q * n) e)

last_child : (q p w : ℕ) → w ≡ 128 * p → (128 * q + 128) * p ≡ (q + 1) * w
last_child q p w e = omega (arith, ap (λ n. (q + 1) * n) e)

next_child : (q c p : ℕ) → (128 * q + c + 1) * p ≡ (128 * q + (c + 1)) * p
next_child q c p = omega arith

begins : (level below index : ℕ) → level ≡ suc below
    → first_slot (top_of_page level index) ≡ first_slot (top_of_page below (128 * index + 0))
begins level below index is =
    ap (λ l. index * 2 ^ (7 * l)) is ∙ first_child index (2 ^ (7 * below)) (2 ^ (7 * suc below)) (width below)

ends : (level below index child : ℕ) → level ≡ suc below → child ≡ 128
    → first_slot (top_of_page below (128 * index + child)) ≡ end_slot (top_of_page level index)
ends level below index child is end =
    ap (λ c. (128 * index + c) * 2 ^ (7 * below)) end ∙ last_child index (2 ^ (7 * below)) (2 ^ (7 * suc below)) (width below)
    ∙ ap (λ l. (index + 1) * 2 ^ (7 * l)) (sym is)

pub read_start : (told told' : Type 0) (old new under under' : View) (s s' : Superblock) (from to level below index page : ℕ)
    (top : Option Span) (values : WindowValues) → level ≡ suc below → Looks told told' old new under under' s s' → new.reads ≤ old.reads + 1
    → IsReading told told' old new under under' s s' from to level below index page top values values 0
read_start told told' old new under under' s s' from to level below index page top values is looks one =
    let at = begins level below index is in
    let S : ℕ → Type 0 = λ n. AreOfSome from (reach from to n) values in
    record {
      looks = looks;
      reads = omega (arith, one, sum_none (λ c. pages_met from to below (128 * index + c)));
      some = λ are. subst S at are;
      values_are = λ list t slots tree top_is are.
          let B : ℕ → Type 0 = λ n. AreBelow list from to n values in
          subst B at are;
    }

pub read_on : (told told' told'' : Type 0) (old mid new under under' under'' : View) (s s' s'' : Superblock)
    (from to level below index page number child : ℕ) (top part : Option Span) (bytes : List ℕ) (spans : ℕ
    → Option Span) (values between later : WindowValues)
    → IsReading told told' old mid under under' s s' from to level below index page top values between child → level ≡ suc below → page ≢ 0
    → child < 128 → number ≡ child_at bytes child → part ≡ spans (127 + child) → (told → bytes ≡ old.image page)
    → ((list : List (Option ℤ)) → told → AreSlots list → IsTree old.image s.total list level index page
    → top ≡ span list (top_of_page level index) → AreTops list below index (λ c. spans (127 + c)))
    → Looks told' told'' mid new under' under'' s' s'' → new.reads ≤ mid.reads + pages_met from to below (128 * index + child)
    → (AreOfSome from (reach from to (first_slot (top_of_page below (128 * index + child)))) between
    → AreOfSome from (reach from to (end_slot (top_of_page below (128 * index + child)))) later)
    → ((list : List (Option ℤ)) → told' → AreSlots list → IsTree mid.image s'.total list below (128 * index + child) number
    → part ≡ span list (top_of_page below (128 * index + child))
    → AreBelow list from to (first_slot (top_of_page below (128 * index + child))) between
    → AreBelow list from to (end_slot (top_of_page below (128 * index + child))) later)
    → IsReading told told'' old new under under'' s s'' from to level below index page top values later (child + 1)
read_on told told' told'' old mid new under under' under'' s s' s'' from to level below index page number child top part bytes spans values
    between later way is some within is_child is_part read tops looks reads some_more more =
    let at : end_slot (top_of_page below (128 * index + child)) ≡ first_slot
    (top_of_page below (128 * index + (child + 1))) = next_child index child (2 ^ (7 * below)) in
    let S : ℕ → Type 0 = λ n. AreOfSome from (reach from to n) later in
    let next : suc child ≡ child + 1 = omega arith in
    record {
      looks = looks_then told told' told'' old mid new under under' under'' s s' s'' way.looks looks;
      reads = omega (
        arith,
        way.reads,
        reads,
        sum_suc (λ c. pages_met from to below (128 * index + c)) child,
        ap (λ n. met_before from to below index n) next,
      );
      some = λ are. subst S at (some_more (way.some are));
      values_are = λ list t slots tree top_is are.
          let stands = child_stands old.image mid.image s.total s'.total list level below index page number child part bytes spans
          (way.looks.kept.image t) (ap (λ (x : Superblock). x.total) way.looks.over.superblock) is some within is_child is_part (read t)
          (tops list t slots tree top_is) tree in
          let B : ℕ → Type 0 = λ n. AreBelow list from to n later in
          subst B at (more list (way.looks.kept.told t) slots stands.tree stands.top_is (way.values_are list t slots tree top_is are));
    }

-- what is read below a page is what it and its children have
pub met_page : (from to level below index : ℕ) → level ≡ suc below → meets from to level index ≡ true
    → pages_met from to level index ≡ suc (met_before from to below index 128)
met_page from to level below index is met =
    let P : ℕ → Type 0 = λ l. pages_met from to l index ≡ suc (met_before from to below index 128) in
    let M : ℕ → Type 0 = λ l. meets from to l index ≡ true in
    subst P (sym is) (count_one (meets from to) below index (subst M is met))

pub read_one_page : (old new : View) (from to level below index : ℕ) → level ≡ suc below → meets from to level index ≡ true
    → new.reads ≤ old.reads + 1 → new.reads ≤ old.reads + pages_met from to level index
read_one_page old new from to level below index is met one = omega (arith, one, met_page from to level below index is met)

pub read_some : (told told' : Type 0) (old mid new under under' : View) (s s' : Superblock) (from to level below index page : ℕ)
    (top : Option Span) (values between : WindowValues) (child : ℕ)
    → IsReading told told' old mid under under' s s' from to level below index page top values between child → level ≡ suc below
    → meets from to level index ≡ true → child < 128 → new.reads ≤ mid.reads + pages_met from to below (128 * index + child)
    → new.reads ≤ old.reads + pages_met from to level index
read_some told told' old mid new under under' s s' from to level below index page top values between child way is met within reads =
    omega (
      arith,
      way.reads,
      reads,
      sum_upto (λ c. pages_met from to below (128 * index + c)) child 128 within,
      met_page from to level below index is met,
    )

-- where all children are done
pub record IsRead (old new : View) (from to level index page total : ℕ) (told : Type 0) (top : Option Span)
    (values values' : WindowValues) : Type 0 where
  pub reads : new.reads ≤ old.reads + pages_met from to level index
  pub some : AreOfSome from (reach from to (first_slot (top_of_page level index))) values
      → AreOfSome from (reach from to (end_slot (top_of_page level index))) values'
  pub values_are : (list : List (Option ℤ)) → told → AreSlots list → IsTree old.image total list level index page
      → top ≡ span list (top_of_page level index)
      → AreBelow list from to (first_slot (top_of_page level index)) values
      → AreBelow list from to (end_slot (top_of_page level index)) values'

pub read_end : (told told' : Type 0) (old new under under' : View) (s s' : Superblock) (from to level below index page : ℕ)
    (top : Option Span) (values values' : WindowValues) (child : ℕ)
    → IsReading told told' old new under under' s s' from to level below index page top values values' child → level ≡ suc below
    → meets from to level index ≡ true → child ≡ 128 → IsRead old new from to level index page s.total told top values values'
read_end told told' old new under under' s s' from to level below index page top values values' child way is met end =
    let at = ends level below index child is end in
    let S : ℕ → Type 0 = λ n. AreOfSome from (reach from to n) values' in
    record {
      reads = omega (arith, way.reads, ap (λ n. met_before from to below index n) end, met_page from to level below index is met);
      some = λ are. subst S at (way.some are);
      values_are = λ list t slots tree top_is are.
          let B : ℕ → Type 0 = λ n. AreBelow list from to n values' in
          subst B at (way.values_are list t slots tree top_is are);
    }

-- why a page wasn't read is why the values below it weren't
pub page_window_cause : (e : StoreError) (told : Type 0) (old new : View) (total level below page : ℕ) (top : Option Span)
    → level ≡ suc below → page ≢ 0 → page < total → IsPageCause e told old new total level page top
    → IsTreeWindowCause e told old new total level page top
page_window_cause (Refused refusal) told old new total level below page top is some low bad = bad
page_window_cause NotAStore told old new total level below page top is some low bad = bad
page_window_cause DiskFault told old new total level below page top is some low bad = bad
page_window_cause (Damaged at) told old new total level below page top is some low bad = (
  omega (arith, bad.0, low),
  λ t.
      let P : ℕ → Type 0 = λ l. HasUnfitPage old.image total l page top at in
      let B : ℕ → Type 0 = λ l. IsBadFor total l top (old.image page) in
      subst P (sym is) (inl (some, bad.0, subst B is (bad.1 t))),
)
page_window_cause NoMemory told old new total level below page top is some low bad = tt

unfit_child : (old mid : Image) (total total' level below page number child at : ℕ) (top part : Option Span) (bytes : List ℕ) (spans : ℕ
    → Option Span) → mid ≡ old → total' ≡ total → level ≡ suc below → page ≢ 0 → child < 128
    → number ≡ child_at bytes child → part ≡ spans (127 + child) → bytes ≡ old page → AreSpansBelow top bytes spans
    → HasUnfitPage mid total' below number part at → HasUnfitPage old total level page top at
unfit_child old mid total total' level below page number child at top part bytes spans same same_total is some within is_child is_part read
    split bad =
    let P : ℕ → Type 0 = λ l. HasUnfitPage old total l page top at in
    let I : Image → Type 0 = λ image. HasUnfitPage image total' below number part at in
    let T : ℕ → Type 0 = λ n. HasUnfitPage old n below number part at in
    let N : ℕ → Type 0 = λ n. HasUnfitPage old total below n part at in
    let S : Option Span → Type 0 = λ s. HasUnfitPage old total below (child_at bytes child) s at in
    let B : List ℕ → Type 0 = λ b. HasUnfitPage old total below (child_at b child) (spans (127 + child)) at in
    let A : List ℕ → Type 0 = λ b. AreSpansBelow top b spans in
    subst P (sym is) (inr (
      some,
      spans,
      child,
      subst A read split,
      within,
      subst B read (subst S is_part (subst N is_child (subst T same_total (subst I same bad)))),
    ))

pub child_window_cause : (e : StoreError) (told told' : Type 0) (old mid new under under' : View) (s s' : Superblock)
    (level below page number child : ℕ) (top part : Option Span) (bytes : List ℕ) (spans : ℕ → Option Span)
    → Looks told told' old mid under under' s s'
    → mid.faults ≡ old.faults → level ≡ suc below → page ≢ 0 → child < 128 → number ≡ child_at bytes child → part ≡ spans (127 + child)
    → (told → bytes ≡ old.image page) → AreSpansBelow top bytes spans
    → IsTreeWindowCause e told' mid new s'.total below number part → IsTreeWindowCause e told old new s.total level page top
child_window_cause (Refused refusal) told told' old mid new under under' s s' level below page number child top part bytes spans looks quiet
    is some within is_child is_part read split bad = bad
child_window_cause NotAStore told told' old mid new under under' s s' level below page number child top part bytes spans looks quiet is some
    within is_child is_part read split bad = bad
child_window_cause DiskFault told told' old mid new under under' s s' level below page number child top part bytes spans looks quiet is some
    within is_child is_part read split bad = risen_on old.faults mid.faults new.faults quiet bad
child_window_cause (Damaged at) told told' old mid new under under' s s' level below page number child top part bytes spans looks quiet is
    some within is_child is_part read split bad =
    let same : s'.total ≡ s.total = ap (λ (x : Superblock). x.total) looks.over.superblock in (
      omega (arith, bad.0, same),
      λ t. unfit_child old.image mid.image s.total s'.total level below page number child at top part bytes spans
          (looks.kept.image t) same is some within is_child is_part (read t) split (bad.1 (looks.kept.told t)),
    )
child_window_cause NoMemory told told' old mid new under under' s s' level below page number child top part bytes spans looks quiet is some
    within is_child is_part read split bad = tt

-- want of memory is a cause of its own
pub memory_cause : (r : Result (Unit {0}) StoreError) (told : Type 0) (old new : View) (total level page : ℕ) (top : Option Span)
    → IfErr r (λ e. e ≡ NoMemory) → IfErr r (λ e. IsTreeWindowCause e told old new total level page top)
memory_cause (Ok done) told old new total level page top is = tt
memory_cause (Err e) told old new total level page top is =
    let P : StoreError → Type 0 = λ x. IsTreeWindowCause x told old new total level page top in
    subst P (sym is) tt

pub memory_outside : (r : Result (Unit {0}) StoreError) → IfErr r (λ e. e ≡ NoMemory) → IfErr r IsOutside
memory_outside (Ok done) is = tt
memory_outside (Err e) is = inr is

-- a child's error is one of its range's
pub child_outside : (old mid : View) (told told' : Type 0) (under under' : View) (s s' : Superblock)
    (from to level below index page number child : ℕ) (top part : Option Span) (bytes : List ℕ) (spans : ℕ
    → Option Span) (values between : WindowValues) (e : StoreError) (list : List (Option ℤ))
    → IsReading told told' old mid under under' s s' from to level below index page top values between child → level ≡ suc below → page ≢ 0
    → child < 128 → number ≡ child_at bytes child → part ≡ spans (127 + child) → bytes ≡ old.image page
    → AreTops list below index (λ c. spans (127 + c)) → told → AreSlots list → IsTree old.image s.total list level index page
    → ((list : List (Option ℤ)) → told' → AreSlots list → IsTree mid.image s'.total list below (128 * index + child) number
    → part ≡ span list (top_of_page below (128 * index + child)) → IsOutside e) → IsOutside e
child_outside old mid told told' under under' s s' from to level below index page number child top part bytes spans values between e list
    way is some within is_child is_part read tops t slots tree more =
    let stands = child_stands old.image mid.image s.total s'.total list level below index page number child part bytes spans
    (way.looks.kept.image t) (ap (λ (x : Superblock). x.total) way.looks.over.superblock) is some within is_child is_part read tops tree
    in
    more list (way.looks.kept.told t) slots stands.tree stands.top_is

-- the root's range holds all slots
covers : (levels slots : ℕ) → levels ≡ page_levels slots → slots ≤ MOST_SLOTS → slots ≤ end_slot (top_of_page levels 0)
covers levels slots is few =
    let high : slots ≤ 2 ^ (7 * levels) = omega (arith, height_covers slots few, ap (λ l. 2 ^ (7 * l)) is) in
    once slots (2 ^ (7 * levels)) high
  where
    once : (n p : ℕ) → n ≤ p → n ≤ (0 + 1) * p
    once n p few = omega (arith, few)

pub root_covers : (levels to : ℕ) (tree : Tree) → levels ≡ page_levels tree.slots → tree.slots ≤ MOST_SLOTS → to ≤ tree.slots
    → to ≤ end_slot (top_of_page levels 0)
root_covers levels to tree is few within = omega (arith, within, covers levels tree.slots is few)

pub tree_window_by : (r : Result (Unit {0}) StoreError) (list : List (Option ℤ)) (image : Image) (total levels from to : ℕ) (tree : Tree)
    (values values' : WindowValues) → levels ≡ page_levels tree.slots → StandsFor image total tree list
    → to ≤ end_slot (top_of_page levels 0) → AreNone values
    → ((list : List (Option ℤ)) → AreSlots list → IsTree image total list levels 0 tree.root → tree.span ≡ span list (top_of_page levels 0)
    → AreBelow list from to (first_slot (top_of_page levels 0)) values
    → OnOk r (AreBelow list from to (end_slot (top_of_page levels 0)) values'))
    → OnOk r (AreOf from (window list from to) values')
tree_window_by (Ok done) list image total levels from to tree values values' is stands covers none below =
    let root = root_stands image total tree list levels is stands in
    below_end list from to (end_slot (top_of_page levels 0)) values' covers
    (below list stands.values root.pages root.top_is (none_below list from to (2 ^ (7 * levels)) values none))
tree_window_by (Err e) list image total levels from to tree values values' is stands covers none below = tt

pub tree_some_by : (r : Result (Unit {0}) StoreError) (levels from to : ℕ) (values values' : WindowValues)
    → to ≤ end_slot (top_of_page levels 0) → AreNone values
    → (AreOfSome from (reach from to (first_slot (top_of_page levels 0))) values
    → OnOk r (AreOfSome from (reach from to (end_slot (top_of_page levels 0))) values')) → OnOk r (AreOfSome from (to - from) values')
tree_some_by (Ok done) levels from to values values' covers none below =
    some_end from to (end_slot (top_of_page levels 0)) values' covers (below (none_some from to (2 ^ (7 * levels)) values none))
tree_some_by (Err e) levels from to values values' covers none below = tt

-- why the values of a series weren't read, by its record
pub window_cause : (e : StoreError) (told : Type 0) (s : Superblock) (id : ℕ) (one : StoredSeries) (old new : View)
    → (told → entry old.image id ≡ entry_of one) → IsTreeWindowCause e told old new s.total
    (page_levels one.tree.slots) one.tree.root one.tree.span → IsWindowCause e told s id old new
window_cause (Refused refusal) told s id one old new is cause = cause
window_cause NotAStore told s id one old new is cause = cause
window_cause DiskFault told s id one old new is cause = cause
window_cause (Damaged at) told s id one old new is cause =
    let P : Entry → Type 0 = λ e. HasUnfitPage old.image s.total (page_levels e.slots) e.root e.span at in
    (cause.0, λ t. subst P (sym (is t)) (cause.1 t))
window_cause NoMemory told s id one old new is cause = cause

-- the value of a slot is added
pub value_on : (list : List (Option ℤ)) (from to level index : ℕ) (s : Span) (old new : WindowValues) (r : Result (Unit {0}) StoreError)
    → level ≡ 0 → meets from to level index ≡ true → Some s ≡ span list (top_of_page level index) → OnOk r (IsAdded index s.min old new)
    → AreBelow list from to (first_slot (top_of_page level index)) old
    → OnOk r (AreBelow list from to (end_slot (top_of_page level index)) new)
value_on list from to level index s old new (Ok done) is met there added are =
    let within = slot_met from to level index is met in
    let F : ℕ → Type 0 = λ n. AreBelow list from to n old in
    let E : ℕ → Type 0 = λ n. AreBelow list from to n new in
    subst E (sym (slot_end level index is)) (below_value list from to index s.min old new within.0 within.1
    (slot_holds list level index s is there) added (subst F (slot_first level index is) are))
value_on list from to level index s old new (Err e) is met there added are = tt

pub value_some : (from to level index : ℕ) (s : Span) (old new : WindowValues) (r : Result (Unit {0}) StoreError) → level ≡ 0
    → meets from to level index ≡ true → IsValue s.min → OnOk r (IsAdded index s.min old new)
    → AreOfSome from (reach from to (first_slot (top_of_page level index))) old
    → OnOk r (AreOfSome from (reach from to (end_slot (top_of_page level index))) new)
value_some from to level index s old new (Ok done) is met range added are =
    let within = slot_met from to level index is met in
    let F : ℕ → Type 0 = λ n. AreOfSome from (reach from to n) old in
    let E : ℕ → Type 0 = λ n. AreOfSome from (reach from to n) new in
    subst E (sym (slot_end level index is)) (some_value from to index s.min old new within.0 within.1 range added
    (subst F (slot_first level index is) are))
value_some from to level index s old new (Err e) is met range added are = tt
