-- An edit is staged: what a transaction would leave is a store, as the pages are.
use Rattle.std.proofs.Common.{◌≡◌, ◌≢◌, ℕ, ℤ, ◌+◌, ◌<◌, ◌≤◌, ◌^◌, max, List, length, slice_get, Option, Some, Result, Ok, Err, IfOk, IfErr}
use Rattle.std.proofs.Common.{OnOk, OnErr, unwrap_or, refl, sym, ap, subst, ◌∙◌, arith}
use Rattle.std.specs.Result.{IsErrAnd}
use Rattle.std.proofs.lemmas.Option.{slice_get_within}
use Rattle.block_disk.specs.Counts.{HasRisen}
use Rattle.block_disk.specs.View.{Image, View}
use Rattle.gate_pages.specs.Pages.{Reads, GoesOn}
use Rattle.gate_pages.specs.GateLaws.{goes_none}
use Rattle.page_space.specs.Layout.{superblock_page}
use Rattle.page_space.specs.Transactions.{held, left_by}
use Rattle.page_space.specs.declared.superblock.Superblock.{Superblock}
use Rattle.page_space.specs.declared.txn.Txn.{Txn}
use Rattle.om3_coeff.specs.Keys.{page_levels}
use Rattle.path_repair.proofs.EditLemmas.{levels_few}
use Rattle.path_repair.proofs.TouchLemmas.{touch_wide}
use Rattle.path_repair.specs.Costs.{touch}
use Rattle.path_repair.specs.Edited.{IsErrorFor}
use Rattle.path_repair.specs.Keeping.{KeepsCatalog}
use Rattle.path_repair.specs.Standing.{Moved, IsCause}
use Rattle.path_repair.specs.declared.errors.RepairError.{RepairError}
use Rattle.path_repair.specs.declared.errors.RepairError.TheVariants.{Full as FullTree, DiskFault as TreeFault, Damaged as DamagedTree}
use Rattle.path_repair.specs.declared.errors.RepairError.TheVariants.{NoMemory as TreeMemory}
use Rattle.catalog_page.specs.Entries.{IsEntry, entry_at}
use Rattle.catalog_page.specs.Layout.{KeepsLayout}
use Rattle.catalog_page.specs.Places.{page_of, number_of, records_of}
use Rattle.series_book.specs.declared.limits.TheConstants.{MOST_SLOTS}
use Rattle.series_book.specs.declared.one_series.Series.{Series}
use Rattle.series_book.specs.declared.outcomes.Outcome.{Outcome}
use Rattle.series_book.specs.declared.refusals.Refusal.{Refusal}
use Rattle.series_book.specs.Edits.{Edited}
use Rattle.series_catalog.specs.Catalogs.{entry_of, with_tree, AreFit, AreAsTold}
use Rattle.series_catalog.specs.declared.stored_series.StoredSeries.{StoredSeries}
use Rattle.series_catalog.proofs.ReadLemmas.{reads_one, reads_more, risen_on}
use Rattle.stored_book.proofs.FrameLemmas.{page_low, page_high, layout_later}
use Rattle.stored_book.specs.Changing.{IsLater, IsRecordSet, KeepsRecords}
use Rattle.stored_book.specs.Standing.{IsStore, StandsForBook, AreCatalog}
use Rattle.tree_walk.proofs.SpaceLemmas.{stays_then}
use Rattle.tree_walk.specs.declared.tree.Tree.{Tree}
use Rattle.series_store.specs.Changing.{IsRefusedBy}
use Rattle.series_store.specs.Errors.{error_of}
use Rattle.series_store.specs.Staging.{IsCatalogOf, IsWholeOf, IsStaging, IsStagedBy, IsStageCause, IsAnswer, IsRefusal, TakesBack}
use Rattle.series_store.specs.declared.errors.StoreError.{StoreError}
use Rattle.series_store.specs.declared.errors.StoreError.TheVariants.{DiskFault}
use Rattle.series_store.specs.declared.staged.Staged.{Staged}
use Rattle.series_store.specs.declared.staged.Undo.TheVariants as undo
use Rattle.series_store.proofs.CarryLemmas.{NamesBelow}
use Rattle.series_store.proofs.CommitLemmas.{no_read}
use Rattle.series_store.proofs.RecordLemmas.{entry_later, catalog_stays, fit_after, told_after, whole_after}
use Rattle.series_store.proofs.StoreLemmas.{store_of}

-- page 0 of what a transaction would leave has its numbers
pub first_page : (txn : Txn) (base : Image) → left_by txn base 0 ≡ superblock_page txn.superblock
first_page txn base = ap (λ o. unwrap_or o (base 0)) txn.first

-- the numbers of the transaction are those of the store
pub staged_store : (txn : Txn) (base : Image) (total : ℕ) (book : List Series) → txn.superblock.total < 2 ^ 32
    → StandsForBook (left_by txn base) total book → IsStore (left_by txn base) txn.superblock book × (txn.superblock.total ≡ total)
staged_store txn base total book small stands = store_of txn.superblock.total (left_by txn base) txn.superblock total book small txn.rules
    (first_page txn base) stands

-- a catalog of pages is one of the same pages
pub catalog_as : (told told' : Type 0) (image image' : Image) (s s' : Superblock) (items items' : List StoredSeries) → (told' → told)
    → (told' → image' ≡ image) → s' ≡ s → items' ≡ items → IsCatalogOf told image s items → IsCatalogOf told' image' s' items'
catalog_as told told' image image' s s' items items' back same numbers kept are =
    let S : Superblock → Type 0 = λ s. IsCatalogOf told' image' s items' in
    let L : List StoredSeries → Type 0 = λ items. IsCatalogOf told' image' s items in
    let A : Image → Type 0 = λ i. AreAsTold i items in
    let W : Image → Type 0 = λ i. AreCatalog i s.fresh s.series in
    subst S (sym numbers) (subst L (sym kept) (record {
      small = are.small;
      count = are.count;
      fits = are.fits;
      are_told = λ now. subst A (sym (same now)) (are.are_told (back now));
      whole = λ now. subst W (sym (same now)) (are.whole (back now));
    }))

-- and of pages whose trees were changed
pub catalog_later : (told : Type 0) (before after : Image) (s s' : Superblock) (items : List StoredSeries) → length items ≤ 512
    → IsLater s s' → (told → KeepsCatalog before after) → IsCatalogOf told before s items → IsCatalogOf told after s' items
catalog_later told before after s s' items few later keeps are = record {
  small = omega (arith, are.small, later.total);
  count = are.count ∙ sym later.series;
  fits = λ id one there. entry_later s.fresh s'.fresh (entry_of one) later.fresh (are.fits id one there);
  are_told = λ now id one there.
      let low : id < 512 = omega (arith, few, slice_get_within items id one there) in
      ap (λ page. entry_at page (number_of id)) (catalog_stays before after s.fresh s.series (page_of id) (are.whole now) (keeps now)
      (page_low id) (page_high id low)) ∙ are.are_told now id one there;
  whole = λ now p from to.
      let N : ℕ → Type 0 = λ n. KeepsLayout (records_of p n) s'.fresh (after p) in
      let M : List ℕ → Type 0 = λ page. KeepsLayout (records_of p s.series) s'.fresh page in
      subst N (sym later.series) (subst M (sym (catalog_stays before after s.fresh s.series p (are.whole now) (keeps now) from to))
      (layout_later (before p) (records_of p s.series) s.fresh s'.fresh later.fresh (are.whole now p from to)));
}

few_series : (txn : Txn) (told : Type 0) (image : Image) (items : List StoredSeries) → IsCatalogOf told image txn.superblock items
    → length items ≤ 512
few_series txn told image items are = omega (arith, are.count, txn.rules.series_high)

-- a change of a tree leaves the catalog in memory that of the pages
pub later_staged : {most puts : ℕ} (told told' : Type 0) (old new under under' : View) (s s' : Superblock) (txn txn' : Txn)
    (items : List StoredSeries) → Moved most puts told told' old new under under' s s' txn txn'
    → (told → KeepsCatalog (left_by txn old.image) (left_by txn' old.image))
    → IsWholeOf s.total told (left_by txn old.image) txn.superblock items
    → IsWholeOf s'.total told' (left_by txn' new.image) txn'.superblock items
later_staged {most} {puts} told told' old new under under' s s' txn txn' items moved keeps are = record {
  total_is = moved.total ∙ are.total_is ∙ ap (λ (s : Superblock). s.total) (sym moved.over.superblock);
  catalog = catalog_as told told' (left_by txn' old.image)
      (left_by txn' new.image) txn'.superblock txn'.superblock items items moved.reads.was_told
      (λ now. ap (λ (i : Image). left_by txn' i) (moved.reads.image (moved.reads.was_told now))) refl refl
      (catalog_later told (left_by txn old.image) (left_by txn' old.image) txn.superblock txn'.superblock items
      (few_series txn told (left_by txn old.image) items are.catalog)
      (record { total = moved.total; series = moved.series; fresh = moved.fresh }) keeps are.catalog);
}

-- and so does the record of a series with another tree
pub saved_catalog : (told : Type 0) (mid after : Image) (s : Superblock) (items items' : List StoredSeries) (id : ℕ) (one : StoredSeries)
    (tree : Tree) → length items ≤ 512 → slice_get items id ≡ Some one → IsEntry s.fresh (entry_of (record one { tree = tree }))
    → items' ≡ with_tree items id one tree → length items' ≡ length items
    → (told → IsRecordSet mid after id (entry_of (record one { tree = tree }))) → (told → KeepsRecords mid after id s.fresh)
    → IsCatalogOf told mid s items → IsCatalogOf told after s items'
saved_catalog told mid after s items items' id one tree few there is changed len put kept are =
    let F : List StoredSeries → Type 0 = λ list. AreFit s.fresh list in
    let T : List StoredSeries → Type 0 = λ list. AreAsTold after list in
    record {
      small = are.small;
      count = len ∙ are.count;
      fits = subst F (sym changed) (fit_after s.fresh s.fresh items id one tree (omega arith) there is are.fits);
      are_told = λ now. subst T (sym changed) (told_after mid mid after s.fresh s.series items id one tree (are.whole now)
          (λ p low high none. refl) (put now) there few (are.are_told now));
      whole = λ now. whole_after mid mid after s.fresh s.fresh s.series s.series id (entry_of (record one { tree = tree })) (are.whole now)
          (omega arith) refl (λ p low high none. refl) (put now) (kept now)
          (omega (arith, slice_get_within items id one there, are.count));
    }

-- why a change of a tree wasn't made is why an edit wasn't staged
stage_cause : (told : Type 0) (image : Image) (s : Superblock) (e : RepairError) (old new : ℕ) → IsCause s.total e old new
    → NamesBelow told image s e → IsStageCause (error_of e) told image s old new
stage_cause told image s (FullTree needed have) old new why bad = tt
stage_cause told image s TreeFault old new why bad = why
stage_cause told image s (DamagedTree page) old new why bad = (why, bad)
stage_cause told image s TreeMemory old new why bad = tt

-- the tree wasn't changed
pub staging_error : {most puts : ℕ} (told told' : Type 0) (old new under under' : View) (s s' : Superblock) (txn txn' : Txn)
    (items : List StoredSeries) (result : Result Staged StoreError) (e : RepairError) → most ≤ 96 → puts ≤ 41
    → IsErrAnd result (λ cause. cause ≡ error_of e)
    → Moved most puts told told' old new under under' s s' txn txn' → (told → KeepsCatalog (left_by txn old.image) (left_by txn' old.image))
    → IsWholeOf s.total told (left_by txn old.image) txn.superblock items
    → IsCause s.total e old.faults new.faults → NamesBelow told (left_by txn old.image) txn.superblock e
    → IsStaging told told' old new under under' s s' txn txn' items items result
staging_error told told' old new under under' s s' txn txn' items (Ok staged) e few short is moved keeps are why bad = absurd is
staging_error {most} {puts} told told' old new under under' s s' txn txn' items (Err cause) e few short is moved keeps are why bad =
    let C : StoreError → Type 0 = λ x. IsStageCause x told (left_by txn old.image) txn.superblock old.faults new.faults in
    let N : ℕ → Type 0 = λ n. IsCause n e old.faults new.faults in
    record {
      reads = reads_more most 96 told told' old new few moved.reads;
      over = moved.over;
      total = moved.total;
      cause = subst C (sym is) (stage_cause told (left_by txn old.image) txn.superblock e old.faults new.faults
          (subst N (sym are.total_is) why) bad);
      kept = refl;
      back = tt;
      nothing = tt;
      stands = λ answer. (later_staged told told' old new under under' s s' txn txn' items moved keeps are).catalog;
      few = omega (arith, moved.held, short);
      slots = tt;
    }

fault_cause : (told : Type 0) (image : Image) (s : Superblock) (old mid new : ℕ) (result : Result Staged StoreError) → mid ≡ old
    → IfErr result (λ e. e ≡ DiskFault) → OnErr result (HasRisen mid new) → IfErr result (λ e. IsStageCause e told image s old new)
fault_cause told image s old mid new (Ok staged) quiet is risen = tt
fault_cause told image s old mid new (Err e) quiet is risen =
    let C : StoreError → Type 0 = λ x. IsStageCause x told image s old new in
    subst C (sym is) (risen_on old mid new quiet risen)

-- a record was written, or a call of the disk failed
saved_answer : (P : Type 0) (result : Result Staged StoreError) → IfErr result (λ e. e ≡ DiskFault) → OnOk result P → IsAnswer result → P
saved_answer P (Ok staged) is holds answer = holds
saved_answer P (Err e) is holds answer = let A : StoreError → Type 0 = λ e. IsAnswer (Err e) in absurd (subst A is answer)

saved_back : (P : Type 0) (now before : List StoredSeries) (result : Result Staged StoreError)
    → IfOk result (λ staged. (staged.undo ≢ undo.Nothing) × TakesBack staged.undo now before)
    → IfOk result (λ staged. TakesBack staged.undo now before) × IfOk result (λ staged. staged.undo ≡ undo.Nothing → P)
saved_back P now before (Ok staged) back = (back.1, λ none. absurd (back.0 none))
saved_back P now before (Err e) back = (tt, tt)

few_slots : (n : ℕ) (result : Result Staged StoreError) → n ≤ MOST_SLOTS → IfOk result (λ staged. staged.outcome.slots ≡ n)
    → IfOk result (λ staged. staged.outcome.slots ≤ MOST_SLOTS)
few_slots n (Ok staged) few is = omega (arith, few, is)
few_slots n (Err e) few is = tt

-- the tree was changed, and its record written
pub staging_saved : {most puts : ℕ} (told told' told'' : Type 0) (old mid new under under' under'' : View) (s s' s'' : Superblock)
    (txn txn' txn'' : Txn) (items items' : List StoredSeries) (slots : ℕ) (result : Result Staged StoreError) → most ≤ 95 → puts ≤ 40
    → slots ≤ MOST_SLOTS
    → Moved most puts told told' old mid under under' s s' txn txn' → mid.faults ≡ old.faults → Reads told' told'' mid new
    → GoesOn under' under'' → s'' ≡ s' → txn''.superblock ≡ txn'.superblock → length (held txn'') ≤ length (held txn') + 1
    → IfErr result (λ e. e ≡ DiskFault) → OnErr result (HasRisen mid.faults new.faults) → OnErr result (items' ≡ items)
    → IfOk result (λ staged. (staged.undo ≢ undo.Nothing) × TakesBack staged.undo items' items)
    → OnOk result (IsWholeOf s''.total told'' (left_by txn'' new.image) txn''.superblock items')
    → IfOk result (λ staged. staged.outcome.slots ≡ slots)
    → IsStaging told told'' old new under under'' s s'' txn txn'' items items' result
staging_saved {most} {puts} told told' told'' old mid new under under' under'' s s' s'' txn txn' txn'' items items' slots result few short
    fewer moved quiet reads on same numbers len error risen kept back stands count =
    let backs = saved_back (txn'' ≡ txn) items' items result back in
    record {
      reads = reads_more (most + 1) 96 told told'' old new (omega (arith, few))
          (reads_one most (most + 1) told told' told'' old mid new refl moved.reads reads);
      over = stays_then s s' s'' under under' under'' moved.over (record { superblock = same; goes_on = on });
      total = ap (λ (s : Superblock). s.total) numbers ∙ moved.total;
      cause = fault_cause told (left_by txn old.image) txn.superblock old.faults mid.faults new.faults result quiet error risen;
      kept = kept;
      back = backs.0;
      nothing = backs.1;
      stands = λ answer. (saved_answer (IsWholeOf s''.total told'' (left_by txn'' new.image) txn''.superblock items') result error stands
          answer).catalog;
      few = omega (arith, moved.held, len, short);
      slots = few_slots slots result fewer count;
    }

-- the error tells that a book refuses so
pub staged_error : (answer : Result Edited Refusal) (touched total : ℕ) (result : Result Staged StoreError) (e : StoreError)
    (txn txn' : Txn) (image : Image) → IsErrAnd result (λ cause. cause ≡ e) → IsRefusedBy answer e → (IsRefusal e → txn' ≡ txn)
    → IsStagedBy answer touched total result txn txn' image
staged_error answer touched total (Ok staged) e txn txn' image is says same = absurd is
staged_error answer touched total (Err cause) e txn txn' image is says same =
    let R : StoreError → Type 0 = λ x. IsRefusedBy answer x in
    let S : StoreError → Type 0 = λ x. IsRefusal x → txn' ≡ txn in
    record { done = tt; refused = subst R (sym is) says; same = subst S (sym is) same; few = tt }

-- a tree that wants pages wasn't changed
pub full_same : (old new : Txn) (list list' : List (Option ℤ)) (e : RepairError) → IsErrorFor old new list list' e → IsRefusal (error_of e)
    → new ≡ old
full_same old new list list' (FullTree needed have) error is = error.1
full_same old new list list' TreeFault error is = absurd is
full_same old new list list' (DamagedTree page) error is = absurd is
full_same old new list list' TreeMemory error is = absurd is

-- the edited book stands as the transaction would leave it, or a call of the disk failed
pub staged_saved : (answer : Result Edited Refusal) (edited : Edited) (touched total slots : ℕ) (result : Result Staged StoreError)
    (txn txn' : Txn) (image : Image) → (StandsForBook image total edited.book → answer ≡ Ok edited) → slots ≡ edited.slots
    → IfErr result (λ e. e ≡ DiskFault) → OnOk result (StandsForBook image total edited.book)
    → IfOk result (λ staged. staged.outcome.slots ≡ slots) → length (held txn') ≤ length (held txn) + (1 + touched)
    → IsStagedBy answer touched total result txn txn' image
staged_saved answer edited touched total slots (Ok staged) txn txn' image fit at error stands count few = record {
  done = record { edited = edited; accepted = fit stands; slots = count ∙ at; stands = stands };
  refused = tt;
  same = tt;
  few = few;
}
staged_saved answer edited touched total slots (Err e) txn txn' image fit at error stands count few =
    let R : StoreError → Type 0 = λ x. IsRefusedBy answer x in
    let S : StoreError → Type 0 = λ x. IsRefusal x → txn' ≡ txn in
    record { done = tt; refused = subst R (sym error) tt; same = subst S (sym error) (λ is. absurd is); few = tt }

-- a clear of slots that are there adds no page level
pub clear_touch : (first end slots n : ℕ) → slots ≡ n → end ≤ slots
    → touch first end (page_levels slots) (page_levels slots) 0 ≡ touch first end (page_levels n) (page_levels (max n end)) 0
clear_touch first end slots n same low =
    let most : max n end ≡ n = omega (arith, same, low) in
    ap (λ k. touch first end (page_levels k) (page_levels k) 0) same
    ∙ ap (λ k. touch first end (page_levels n) (page_levels k) 0) (sym most)

-- nothing was to be done
pub staging_nothing : (told : Type 0) (at under : View) (s : Superblock) (txn : Txn) (items : List StoredSeries) (outcome : Outcome)
    → IsCatalogOf told (left_by txn at.image) txn.superblock items → outcome.slots ≤ MOST_SLOTS
    → IsStaging told told at at under under s s txn txn items items (Ok (record { outcome = outcome; undo = undo.Nothing }))
staging_nothing told at under s txn items outcome are few = record {
  reads = no_read 96 told at;
  over = record { superblock = refl; goes_on = goes_none under };
  total = refl;
  cause = tt;
  kept = tt;
  back = refl;
  nothing = λ none. refl;
  stands = λ answer. are;
  few = omega arith;
  slots = few;
}

pub last_changes : undo.Last ≡ undo.Nothing → ⊥
last_changes none = cc

-- at most 256 slots lie in at most fifteen pages of a tree
pub run_pages : (first n slots len : ℕ) → n ≤ 256 → touch first (first + n) (page_levels slots) (page_levels len) 0 ≤ 15
run_pages first n slots len few =
    omega (
      arith,
      touch_wide 3 first (first + n) n (page_levels slots) (page_levels len) (omega arith) (omega arith) (omega (arith, few))
          (omega (arith, few)),
      levels_few len,
    )
