-- Pages are read one after the other.
use Rattle.std.proofs.Common.{◌≡◌, ℕ, zero, suc, Some, ◌+◌, ◌<◌, ◌≤◌, ◌⊎◌, List, [], sym, subst, refl, arith, inl, inr, ◌∙◌}
use Rattle.std.specs.List.{slice_get}
use Rattle.std.proofs.lemmas.Bool.{cases_lt}
use Rattle.block_disk.specs.Counts.{HasRisen}
use Rattle.block_disk.specs.View.{Image, View, Now}
use Rattle.block_disk.proofs.Passing.{passes_none, passes_weaker, now_back}
use Rattle.gate_pages.specs.Pages.{Quiet, Reads}
use Rattle.gate_pages.proofs.Moving.{time_then}
use Rattle.page_space.specs.declared.superblock.Superblock.{Superblock}
use Rattle.path_repair.specs.Standing.{ReadsMost}
use Rattle.catalog_page.specs.Layout.{KeepsLayout}
use Rattle.catalog_page.specs.Places.{records_of}
use Rattle.series_catalog.specs.Catalogs.{AreAsTold}
use Rattle.series_catalog.specs.Reading.{IsBadCatalog, IsCatalogCause, IsPageCause, AreRead, HasRepeatedName, IsCatalogPage}
use Rattle.series_catalog.specs.declared.stored_series.StoredSeries.{StoredSeries}
use Rattle.series_catalog.specs.declared.errors.CatalogError.{CatalogError}
use Rattle.series_catalog.specs.declared.errors.CatalogError.TheVariants.{DiskFault, Damaged, NoMemory}

pub reads_none : (told : Type 0) (at : View) → ReadsMost 0 told told at at
reads_none told at = record {
  time = passes_none at (Now at) (Quiet at);
  told = λ t. t;
  was_told = λ t. t;
  image = λ t. refl;
  size = refl;
  beside = refl;
  fit = λ f. f;
  faults = omega arith;
  reads = record { low = omega arith; high = omega arith };
  syncs = refl;
  writes = refl;
}

-- one more page
pub reads_one : (most more : ℕ) (told told' told'' : Type 0) (old mid new : View) → most + 1 ≡ more → ReadsMost most told told' old mid
    → Reads told' told'' mid new → ReadsMost more told told'' old new
reads_one most more told told' told'' old mid new is first second = record {
  time = time_then old mid new (Now old) first.time
      (passes_weaker mid new (Now mid) (Now old) (Quiet mid) (Quiet mid) (now_back old mid (Quiet old) first.time)
      (λ count quiet. quiet) second.time);
  told = λ t. second.told (first.told t);
  was_told = λ t. first.was_told (second.was_told t);
  image = λ t. second.image (first.told t) ∙ first.image t;
  size = second.size ∙ first.size;
  beside = second.beside ∙ first.beside;
  fit = λ f. second.fit (first.fit f);
  faults = omega (arith, first.faults, second.faults);
  reads = record { low = omega (arith, first.reads.low, second.reads.low); high = omega (arith, is, first.reads.high, second.reads.high) };
  syncs = second.syncs ∙ first.syncs;
  writes = second.writes ∙ first.writes;
}

pub reads_more : (most more : ℕ) (told told' : Type 0) (old new : View) → most ≤ more → ReadsMost most told told' old new
    → ReadsMost more told told' old new
reads_more most more told told' old new less reads = record {
  time = reads.time;
  told = reads.told;
  was_told = reads.was_told;
  image = reads.image;
  size = reads.size;
  beside = reads.beside;
  fit = reads.fit;
  faults = reads.faults;
  reads = record { low = reads.reads.low; high = omega (arith, reads.reads.high, less) };
  syncs = reads.syncs;
  writes = reads.writes;
}

-- the page that is called damaged is the one that was read
pub page_placed : (e : CatalogError) (page : ℕ) (bad : Type 0) → 1 ≤ page → page < 17 → IsPageCause e page bad → IsCatalogPage e
page_placed DiskFault page bad low high cause = tt
page_placed (Damaged at) page bad low high cause = (omega (arith, low, cause.0), omega (arith, high, cause.0))
page_placed NoMemory page bad low high cause = tt

pub risen_on : (old mid new : ℕ) → mid ≡ old → HasRisen mid new → HasRisen old new
risen_on old mid new quiet (inl risen) = inl (omega (arith, quiet, risen))
risen_on old mid new quiet (inr last) = inr (omega (arith, quiet, last.0), omega (arith, quiet, last.1))

-- an error at a page that is read after others
pub cause_on : (most : ℕ) (told told' : Type 0) (old mid new : View) (s s' : Superblock) (e : CatalogError)
    → ReadsMost most told told' old mid → mid.faults ≡ old.faults → s' ≡ s → IsCatalogCause e told' s' mid new
    → IsCatalogCause e told s old new
cause_on most told told' old mid new s s' DiskFault reads quiet same cause = risen_on old.faults mid.faults new.faults quiet cause
cause_on most told told' old mid new s s' (Damaged page) reads quiet same cause = λ t.
    let P : Superblock → Type 0 = λ one. IsBadCatalog mid.image one page in
    let Q : Image → Type 0 = λ image. IsBadCatalog image s page in
    subst Q (reads.image t) (subst P same (cause (reads.told t)))
cause_on most told told' old mid new s s' NoMemory reads quiet same cause = tt

-- what was read before a page is of the pages as they are now
pub told_now : (told told' : Type 0) (old new : View) (most : ℕ) (series : List StoredSeries) → ReadsMost most told told' old new
    → (told → AreAsTold old.image series) → told' → AreAsTold new.image series
told_now told told' old new most series reads were t =
    let P : Image → Type 0 = λ image. AreAsTold image series in
    subst P (sym (reads.image (reads.was_told t))) (were (reads.was_told t))

-- and of the pages as they were
pub told_then : (told told' : Type 0) (old new : View) (most : ℕ) (series : List StoredSeries) → ReadsMost most told told' old new
    → (told' → AreAsTold new.image series) → told → AreAsTold old.image series
told_then told told' old new most series reads are t =
    let P : Image → Type 0 = λ image. AreAsTold image series in
    subst P (reads.image t) (are (reads.told t))

pub read_for : (pages pages' : ℕ) (s s' : Superblock) (series : List StoredSeries) → pages' ≡ pages → s' ≡ s
    → AreRead pages s.series s.fresh series → AreRead pages' s'.series s'.fresh series
read_for pages pages' s s' series as_many same read =
    let P : Superblock → Type 0 = λ one. AreRead pages one.series one.fresh series in
    let Q : ℕ → Type 0 = λ n. AreRead n s'.series s'.fresh series in
    subst Q (sym as_many) (subst P (sym same) read)

pub nothing : (id : ℕ) (one : StoredSeries) → slice_get {X = StoredSeries} [] id ≡ Some one → ⊥
nothing zero one there = cc
nothing (suc id) one there = cc

-- before the first page is read
pub none_read : (count fresh : ℕ) (series : List StoredSeries) → series ≡ [] → AreRead 0 count fresh series
none_read count fresh series none =
    let P : List StoredSeries → Type 0 = λ l. AreRead 0 count fresh l in
    subst P (sym none) (record {
      len = omega arith;
      fit = λ id one there. absurd (nothing id one there);
      distinct = λ i j d before within. absurd (omega (arith, within));
    })

pub none_told : (image : Image) (series : List StoredSeries) → series ≡ [] → AreAsTold image series
none_told image series none =
    let P : List StoredSeries → Type 0 = λ l. AreAsTold image l in
    subst P (sym none) (λ id one there. absurd (nothing id one there))

-- the pages of the catalog below a page, and that page
pub keeps_more : (told told' : Type 0) (old new : View) (most page : ℕ) (s s' : Superblock) → ReadsMost most told told' old new → s' ≡ s
    → (told → (p : ℕ) → 1 ≤ p → p < page → KeepsLayout (records_of p s.series) s.fresh (old.image p))
    → (told' → KeepsLayout (records_of page s'.series) s'.fresh (new.image page))
    → told → (p : ℕ) → 1 ≤ p → p < page + 1 → KeepsLayout (records_of p s.series) s.fresh (old.image p)
keeps_more told told' old new most page s s' reads same before here t p low high = elim (cases_lt p page) [
  | inl below ↦ before t p low below
  | inr last ↦
      let is : page ≡ p = omega (arith, last, high) in
      let P : Superblock → Type 0 = λ one. KeepsLayout (records_of page one.series) one.fresh (new.image page) in
      let Q : Image → Type 0 = λ image. KeepsLayout (records_of page s.series) s.fresh (image page) in
      let R : ℕ → Type 0 = λ q. KeepsLayout (records_of q s.series) s.fresh (old.image q) in
      subst R is (subst Q (reads.image t) (subst P same (here (reads.told t))))
]

-- why the series of a page weren't added, for a weaker reason
pub page_cause_so : (e : CatalogError) (page : ℕ) (P Q : Type 0) → (P → Q) → IsPageCause e page P → IsPageCause e page Q
page_cause_so DiskFault page P Q more cause = cause
page_cause_so (Damaged at) page P Q more cause = (cause.0, more cause.1)
page_cause_so NoMemory page P Q more cause = tt

-- a page of the catalog that is bad makes the catalog bad
abbrev pub IsBadPage : ℕ → ℕ → ℕ → List ℕ → Image → Type 0
IsBadPage page count fresh bytes image = (KeepsLayout (records_of page count) fresh bytes → ⊥) ⊎ HasRepeatedName image count page

pub page_cause : (told : Type 0) (s : Superblock) (old new : View) (page count fresh : ℕ) (bytes : List ℕ) (series : List StoredSeries)
    (e : CatalogError) → 1 ≤ page → page < 17 → count ≡ s.series → fresh ≡ s.fresh
    → (told → bytes ≡ old.image page) → (told → AreAsTold old.image series)
    → IsPageCause e page ((image : Image) → image page ≡ bytes → AreAsTold image series → IsBadPage page count fresh bytes image)
    → IsCatalogCause e told s old new
page_cause told s old new page count fresh bytes series DiskFault low high same same' read are cause = absurd cause
page_cause told s old new page count fresh bytes series (Damaged at) low high same same' read are cause = λ t.
    let bad : IsBadPage page count fresh bytes old.image = cause.1 old.image (sym (read t)) (are t) in
    let P : ℕ → Type 0 = λ n. IsBadPage page n fresh bytes old.image in
    let Q : ℕ → Type 0 = λ n. IsBadPage page s.series n bytes old.image in
    let R : List ℕ → Type 0 = λ b. IsBadPage page s.series s.fresh b old.image in
    let S : ℕ → Type 0 = λ p. IsBadCatalog old.image s p in
    subst S (sym cause.0) (record { low = low; high = high; bad = subst R (read t) (subst Q same' (subst P same bad)) })
page_cause told s old new page count fresh bytes series NoMemory low high same same' read are cause = tt
