-- A store is opened and made.
use Rattle.std.proofs.Common.{◌≡◌, ◌≢◌, ℕ, ◌+◌, ◌^◌, ◌<◌, ◌≤◌, ◌⊎◌, List, [], length, map, get_or, AllPairs, Some, refl, sym, ap, subst}
use Rattle.std.proofs.Common.{arith, inl, inr, ◌∙◌, ◌∷◌}
use Rattle.std.specs.Prelude.{Result, Ok, Err, IfErr}
use Rattle.std.proofs.Math.Path.{fun_ext}
use Rattle.std.specs.List.{slice_get}
use Rattle.std.proofs.lemmas.List.{length-map, get_or-map}
use Rattle.std.proofs.lemmas.Option.{slice_get-get_or, get_or_from_slice_get}
use Rattle.block_disk.specs.Counts.{HasRisen}
use Rattle.block_disk.specs.View.{Image, View, Now}
use Rattle.block_disk.proofs.Passing.{passes_weaker, now_back}
use Rattle.gate_pages.specs.Batch.{put_all}
use Rattle.gate_pages.specs.Pages.{Quiet, Reads, Commits, BeforeOrAfter}
use Rattle.gate_pages.proofs.Moving.{time_then}
use Rattle.catalog_page.specs.Layout.{KeepsLayout}
use Rattle.catalog_page.specs.Places.{records_of}
use Rattle.page_space.specs.Causes.{Uninitialized}
use Rattle.page_space.specs.Firsts.{first_pages, empty_over}
use Rattle.page_space.specs.Layout.{Keeps}
use Rattle.page_space.specs.declared.superblock.Superblock.{Superblock}
use Rattle.page_space.specs.declared.errors.SpaceError.{SpaceError}
use Rattle.page_space.specs.declared.errors.SpaceError.TheVariants.{NotAStore as NoStore, Full, DiskFault as AtDisk, Damaged as AtPage}
use Rattle.page_space.specs.declared.errors.SpaceError.TheVariants.{NoMemory as AtMemory}
use Rattle.path_repair.specs.Standing.{ReadsMost}
use Rattle.series_book.specs.declared.one_series.Series.{Series}
use Rattle.series_store.specs.Opening.{IsFirstPage, IsReadCause, IsOutside, MakesStore, space_error_of, catalog_error_of}
use Rattle.series_store.specs.declared.errors.StoreError.{StoreError}
use Rattle.series_store.specs.declared.errors.StoreError.TheVariants.{Refused, NotAStore, DiskFault, Damaged, NoMemory}
use Rattle.series_catalog.specs.Reading.{IsBadCatalog, IsCatalogPage}
use Rattle.series_catalog.specs.declared.errors.CatalogError.{CatalogError}
use Rattle.series_catalog.specs.declared.errors.CatalogError.TheVariants.{DiskFault as DiskCatalog, Damaged as BadPage, NoMemory as NoRoom}
use Rattle.stored_book.proofs.EmptyLemmas.{first_book, first_over, empty_store}
use Rattle.series_catalog.proofs.ReadLemmas.{nothing}
use Rattle.stored_book.specs.Standing.{AreCatalog}
use Rattle.page_space.specs.Layout.{empty_of}
use Rattle.series_catalog.specs.Catalogs.{AreFit}
use Rattle.series_catalog.specs.declared.stored_series.StoredSeries.{StoredSeries}
use Rattle.stored_book.specs.Records.{entry}
use Rattle.stored_book.specs.Standing.{IsStore, StandsForBook}

pub reads_then : (a b most : ℕ) (told told' told'' : Type 0) (old mid new : View) → a + b ≡ most → ReadsMost a told told' old mid
    → ReadsMost b told' told'' mid new → ReadsMost most told told'' old new
reads_then a b most told told' told'' old mid new sum first second = record {
  time = time_then old mid new (Now old) first.time
      (passes_weaker mid new (Now mid) (Now old) (Quiet mid) (Quiet mid) (now_back old mid (Quiet old) first.time)
      (λ count quiet. quiet) second.time);
  told = λ t. second.told (first.told t);
  was_told = λ t. first.was_told (second.was_told t);
  image = λ t. second.image (first.told t) ∙ first.image t;
  size = second.size ∙ first.size;
  beside = second.beside ∙ first.beside;
  fit = λ f. second.fit (first.fit f);
  faults = omega (arith, first.faults, second.faults);
  reads = record { low = omega (arith, first.reads.low, second.reads.low); high = omega (arith, sum, first.reads.high, second.reads.high) };
  syncs = second.syncs ∙ first.syncs;
  writes = second.writes ∙ first.writes;
}

pub err_so : {T E : Type 0} → (P Q : E → Type 0) (r : Result T E) → IfErr r P → ((e : E) → P e → Q e) → IfErr r Q
err_so P Q (Ok v) is more = tt
err_so P Q (Err e) is more = more e is

-- why no store was made: the disk failed, or there was no memory
module _ (old new : View) where
  pub init_fault : (e : SpaceError) → Uninitialized e old new → space_error_of e ≡ DiskFault → HasRisen old.faults new.faults
  init_fault NoStore cause is = absurd cause
  init_fault (Full needed have) cause is = absurd cause
  init_fault AtDisk cause is = cause
  init_fault (AtPage page) cause is = absurd cause
  init_fault AtMemory cause is = absurd (cc)

  pub init_unsound : (fit : Type 0) (e : SpaceError) → Uninitialized e old new → (e ≡ AtDisk → fit → ⊥) → space_error_of e ≡ DiskFault → fit
      → ⊥
  init_unsound fit NoStore cause unsound is = absurd cause
  init_unsound fit (Full needed have) cause unsound is = absurd cause
  init_unsound fit AtDisk cause unsound is = unsound refl
  init_unsound fit (AtPage page) cause unsound is = absurd cause
  init_unsound fit AtMemory cause unsound is = absurd (cc)

  pub init_same : {P : Type 0} (value pages : P) (e : SpaceError) → Uninitialized e old new → (e ≡ AtMemory → value ≡ pages)
      → space_error_of e ≡ NoMemory → value ≡ pages
  init_same value pages NoStore cause same is = absurd cause
  init_same value pages (Full needed have) cause same is = absurd cause
  init_same value pages AtDisk cause same is = absurd (cc)
  init_same value pages (AtPage page) cause same is = absurd cause
  init_same value pages AtMemory cause same is = same refl

-- Where pages stand for a book, only the disk and the memory may fail.

-- a series of a book, by its place
at_place : (book : List Series) (id : ℕ) → id < length book → (series : Series) × (slice_get book id ≡ Some series)
at_place [] id within = absurd (omega (arith, within))
at_place (one ∷ book) id within = (get_or (one ∷ book) id one, slice_get-get_or (one ∷ book) id one within)

two_names : (book : List Series) (first second : ℕ) (one other : Series) → AllPairs (λ a b. a ≢ b) (map (λ (s : Series). s.name) book)
    → first < second → second < length book → slice_get book first ≡ Some one → slice_get book second ≡ Some other → one.name ≢ other.name
two_names book first second one other distinct before within there there' same =
    let name : Series → List ℕ = λ s. s.name in
    let apart : get_or (map name book) first [] ≢ get_or (map name book) second [] = distinct first second [] before
    (omega (arith, within, length-map book name)) in
    let is : get_or (map name book) first [] ≡ one.name = get_or-map name book first one [] (omega (arith, before, within))
    ∙ ap name (get_or_from_slice_get book first one one there) in
    let is' : get_or (map name book) second [] ≡ other.name = get_or-map name book second one [] within
    ∙ ap name (get_or_from_slice_get book second other one there') in
    apart (is ∙ same ∙ sym is')

pub sound_catalog : (image : Image) (s : Superblock) (book : List Series) (page : ℕ) → IsStore image s book → IsBadCatalog image s page → ⊥
sound_catalog image s book page store bad = elim bad.bad [
  | inl broken ↦
      let P : ℕ → Type 0 = λ n. KeepsLayout (records_of page n) s.fresh (image page) in
      broken (subst P (sym store.series_are) (store.catalog page bad.low bad.high))
  | inr twice ↦
      let within : twice.second < length book = omega (arith, twice.within, store.series_are) in
      let one = at_place book twice.first (omega (arith, twice.before, within)) in
      let other = at_place book twice.second within in
      let name_one : (entry image twice.first).name ≡ (one.0).name = (store.kept twice.first one.0 one.1).record_is.name in
      let name_other : (entry image twice.second).name ≡ (other.0).name = (store.kept twice.second other.0 other.1).record_is.name in
      two_names book twice.first twice.second one.0 other.0 store.is_book.distinct twice.before within one.1 other.1 (sym name_one
      ∙ twice.same ∙ name_other)
]

pub keeps_of : (size total : ℕ) (image : Image) (book : List Series) (stands : StandsForBook image total book) → total ≤ size
    → Keeps size stands.superblock (image 0)
keeps_of size total image book stands within =
    let is = stands.store.stands in
    record {
      spelled = is.spelled;
      rules = record {
        total_low = is.rules.total_low;
        total_high = omega (arith, within, stands.total_is);
        fresh_low = is.rules.fresh_low;
        fresh_high = is.rules.fresh_high;
        head_is = is.rules.head_is;
        chain_high = is.rules.chain_high;
        none = is.rules.none;
        series_high = is.rules.series_high;
      };
    }

-- a page that is called damaged is one of the catalog
pub first_read : (e : CatalogError) → IsCatalogPage e → IsFirstPage (catalog_error_of e)
first_read DiskCatalog placed = tt
first_read (BadPage page) placed = placed.1
first_read NoRoom placed = tt

-- a catalog that is bad in nothing is read, but for the disk and the memory
pub read_outside : (told : Type 0) (s : Superblock) (old new : View) (e : StoreError) → told
    → ((page : ℕ) → IsBadCatalog old.image s page → ⊥) → IsReadCause e told s old new → IsOutside e
read_outside told s old new (Refused refusal) t sound cause = absurd cause
read_outside told s old new NotAStore t sound cause = absurd cause
read_outside told s old new DiskFault t sound cause = inl refl
read_outside told s old new (Damaged page) t sound cause = absurd (sound page (cause t))
read_outside told s old new NoMemory t sound cause = inr refl

-- The first pages of a store stand for a book without a series.
pub made : (count : ℕ) (image : Image) → 62 ≤ count → count < 2 ^ 32
    → ((p : ℕ) → put_all (first_pages count) image p ≡ empty_over count image p)
    → StandsForBook (put_all (first_pages count) image) count []
made count image many small first =
    let P : Image → Type 0 = λ i. StandsForBook i count [] in
    subst P (sym (fun_ext first)) (first_book count image many small)

pub making : (told told' : Type 0) (old new : View) → 62 ≤ old.size → old.size < 2 ^ 32
    → ((p : ℕ) → put_all (first_pages old.size) old.image p ≡ empty_over old.size old.image p)
    → Commits (first_pages old.size) told told' old new → MakesStore old new
making told told' old new many small first commits =
    let P : Image → Type 0 = λ i. StandsForBook i old.size [] in
    passes_weaker old new (BeforeOrAfter (first_pages old.size) old.image) (λ image. (image ≡ old.image)
    ⊎ StandsForBook image old.size []) (Quiet old) (Quiet old)
    (either old.image (put_all (first_pages old.size) old.image) P (made old.size old.image many small first))
    (λ count quiet. quiet) commits.time
  where
    either : (before after : Image) (P : Image → Type 0) → P after → (image : Image) → (image ≡ before) ⊎ (image ≡ after)
        → (image ≡ before) ⊎ P image
    either before after P is image (inl same) = inl same
    either before after P is image (inr same) = inr (subst P (sym same) is)

-- and its catalog is whole
pub made_whole : (count : ℕ) (image new : Image) (s : Superblock) → 62 ≤ count → count < 2 ^ 32
    → ((p : ℕ) → put_all (first_pages count) image p ≡ empty_over count image p) → new ≡ put_all (first_pages count) image
    → s ≡ empty_of count → AreCatalog new s.fresh s.series
made_whole count image new s many small first done is =
    let P : Image → Type 0 = λ i. AreCatalog i 17 0 in
    let Q : Superblock → Type 0 = λ one. AreCatalog new one.fresh one.series in
    let store = empty_store count (empty_over count image) many small (first_over count image) in
    subst Q (sym is) (subst P (sym (fun_ext first) ∙ sym done) store.catalog)

pub none_fit : (fresh : ℕ) (series : List StoredSeries) → series ≡ [] → AreFit fresh series
none_fit fresh series none =
    let P : List StoredSeries → Type 0 = λ l. AreFit fresh l in
    subst P (sym none) (λ id one there. absurd (nothing id one there))

-- the pages stand for the book with the numbers of the space that was opened
pub opened_store : (told told' : Type 0) (old new : View) (total : ℕ) (book : List Series) (s : Superblock)
    (stands : StandsForBook old.image total book) → Reads told told' old new → told → stands.superblock ≡ s → IsStore new.image s book
opened_store told told' old new total book s stands reads t same =
    let P : Superblock → Type 0 = λ one. IsStore old.image one book in
    let Q : Image → Type 0 = λ image. IsStore image s book in
    subst Q (sym (reads.image t)) (subst P same stands.store)
