-- What calls did, whatever the pages are.
use Rattle.std.proofs.Common.{◌≡◌, ℕ, ◌<◌, ◌≤◌, ◌^◌, Result, Ok, Err, sym, ap, subst, arith}
use Rattle.std.specs.Result.{IsErrAnd}
use Rattle.block_disk.specs.View.{Image, View}
use Rattle.gate_pages.specs.Pages.{GoesOn}
use Rattle.page_space.specs.declared.superblock.Superblock.{Superblock}
use Rattle.page_space.specs.declared.txn.Txn.{Txn}
use Rattle.page_space.specs.Transactions.{left_by}
use Rattle.om3_coeff.specs.Keys.{page_levels}
use Rattle.catalog_page.specs.Entries.{Entry}
use Rattle.path_repair.specs.Apart.{AreApart, IsDamagedPage, reached_pages}
use Rattle.path_repair.specs.Edits.{BlamesStored}
use Rattle.path_repair.specs.Standing.{ReadsMost}
use Rattle.path_repair.proofs.SumLemmas.{times_in_join}
use Rattle.path_repair.specs.declared.errors.RepairError.{RepairError}
use Rattle.path_repair.specs.declared.errors.RepairError.TheVariants.{Full as FullTree, DiskFault as TreeFault, Damaged as DamagedTree}
use Rattle.path_repair.specs.declared.errors.RepairError.TheVariants.{NoMemory as TreeMemory}
use Rattle.series_book.specs.declared.outcomes.Outcome.{Outcome}
use Rattle.series_catalog.specs.Catalogs.{entry_of}
use Rattle.series_catalog.specs.declared.stored_series.StoredSeries.{StoredSeries}
use Rattle.stored_book.specs.Damage.{IsDamagedOnce}
use Rattle.stored_book.specs.Records.{entry}
use Rattle.series_store.specs.Changing.{IsCarriedOut}
use Rattle.series_store.specs.Results.{IsEditCause, IsUnchanged, IsUnchangedFor}
use Rattle.series_store.specs.declared.errors.StoreError.{StoreError}
use Rattle.series_store.specs.declared.errors.StoreError.TheVariants.{Refused, NotAStore, DiskFault, Damaged, NoMemory}
use Rattle.series_store.proofs.CommitLemmas.{reads_move, reads_leave}

-- the page of the tree of a series that a change of it calls damaged is so
abbrev pub NamesBelow : Type 0 → Image → Superblock → RepairError → Type 0
NamesBelow told image s (FullTree needed have) = Unit {0}
NamesBelow told image s TreeFault = Unit {0}
NamesBelow told image s (DamagedTree page) = told → IsDamagedOnce image s page
NamesBelow told image s TreeMemory = Unit {0}

unchanged_for : (s : Superblock) (told : Type 0) (e : StoreError) (old new : View) → IsEditCause e told s old new → IsUnchanged told old new
    → IsUnchangedFor e told old new
unchanged_for s told (Refused refusal) old new why same = same
unchanged_for s told NotAStore old new why same = why
unchanged_for s told DiskFault old new why same = tt
unchanged_for s told (Damaged page) old new why same = same
unchanged_for s told NoMemory old new why same = same

-- where the catalog says what the pages tell, the page is one of the tree that a record names
pub names_below : (told : Type 0) (base : Image) (txn : Txn) (id : ℕ) (one : StoredSeries) (e : RepairError) → id < txn.superblock.series
    → txn.superblock.total < 2 ^ 32 → (told → entry (left_by txn base) id ≡ entry_of one) → (told → BlamesStored txn base one.tree e)
    → NamesBelow told (left_by txn base) txn.superblock e
names_below told base txn id one (FullTree needed have) there small says blames = tt
names_below told base txn id one TreeFault there small says blames = tt
names_below told base txn id one (DamagedTree page) there small says blames = λ t once.
    let image : Image = left_by txn base in
    let s : Superblock = txn.superblock in
    let E : Entry → Type 0 = λ x. IsDamagedPage image s s.total (page_levels x.slots) x.root x.span page in
    let A : Entry → Type 0 = λ x. AreApart image s (reached_pages once.fits image (page_levels x.slots) x.root) in
    let own : A (entry image id) = record {
      small = small;
      chain = once.apart.chain;
      chained = once.apart.chained;
      once = λ p. omega (
        arith,
        once.apart.once p,
        times_in_join p
            (λ other. reached_pages once.fits image (page_levels (entry image other).slots) (entry image other).root) id s.series there,
      );
    } in
    record {
      id = id;
      there = there;
      damaged = subst E (sym (says t)) (blames t once.fits once.tells (subst A (says t) own));
    }
names_below told base txn id one TreeMemory there small says blames = tt

-- blocks were read, and nothing was changed
pub carried_read : {most : ℕ} {told told' : Type 0} {old new under under' : View} {s s' : Superblock} (result : Result Outcome StoreError)
    (e : StoreError) → most ≤ 96 → IsErrAnd result (λ cause. cause ≡ e)
    → ReadsMost most told told' old new → GoesOn under under' → s' ≡ s → IsEditCause e told s old new
    → IsCarriedOut told told' old new under under' s s' result
carried_read (Ok outcome) e few is reads on same why = absurd is
carried_read {most} {told} {told'} {old} {new} {under} {under'} {s} (Err cause) e few is reads on same why =
    let C : StoreError → Type 0 = λ x. IsEditCause x told s old new in
    let U : StoreError → Type 0 = λ x. IsUnchangedFor x told old new in
    record {
      moves = reads_move most told told' old new few reads;
      goes_on = on;
      cause = subst C (sym is) why;
      unchanged = subst U (sym is) (unchanged_for s told e old new why (reads_leave most told told' old new reads));
      sound = tt;
      total = ap (λ (one : Superblock). one.total) same;
      slots = tt;
    }
