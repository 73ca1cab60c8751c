-- What reads of a store come to.
use Rattle.std.proofs.Common.{◌≡◌, ◌≢◌, ◌⊎◌, ◌↔◌, ℕ, zero, suc, ℤ, ◌+◌, ◌*◌, ◌<◌, ◌≤◌, false, IsTrue, List, Option, None, Some, Result, Ok}
use Rattle.std.proofs.Common.{Err, IfErr, IfOk, refl, sym, ap, subst, arith, inl, inr, ◌∙◌}
use Rattle.std.specs.Prelude.{slice_get}
use Rattle.std.specs.Result.{is_err}
use Rattle.block_disk.specs.View.{Image, View}
use Rattle.chart_frames.specs.declared.frame.Frame.{Frame}
use Rattle.chart_grid.specs.Limits.{IsBadSide, IsBadWindow, IsWindow}
use Rattle.chart_grid.specs.Projection.{HasCanvas, ShowsWindow}
use Rattle.chart_grid.specs.declared.grid.Grid.{Grid}
use Rattle.chart_grid.specs.declared.grid_error.GridError.{GridError}
use Rattle.chart_grid.specs.declared.grid_error.GridError.TheVariants as grid
use Rattle.chart_service.specs.Faulting.{step_fault}
use Rattle.chart_service.specs.Stepping.{IsOutside}
use Rattle.chart_service.specs.declared.failure.ServiceError.{ServiceError}
use Rattle.chart_service.specs.declared.failure.ServiceError.TheVariants.{DiskFault, Damaged, NoMemory}
use Rattle.chart_world.specs.FaultLaws.{counts_disk, counts_no_disk}
use Rattle.chart_world.specs.Faults.{CountsFault}
use Rattle.derive_command.specs.declared.request.Request.{Request}
use Rattle.host_lines.specs.declared.asked.HostLine.TheVariants.{Sum, Values}
use Rattle.node_page.specs.Fields.{child_at}
use Rattle.om3_coeff.specs.declared.span.Span.{Span}
use Rattle.om3_coeff.specs.Keys.{page_levels}
use Rattle.page_space.specs.Layout.{Keeps}
use Rattle.page_space.specs.declared.superblock.Superblock.{Superblock}
use Rattle.retention.specs.Moving.{Looks}
use Rattle.series_book.specs.Edits.{id_of}
use Rattle.series_book.specs.declared.one_series.Series.{Series}
use Rattle.series_catalog.specs.declared.catalog.Catalog.{Catalog}
use Rattle.series_store.specs.Counting.{HasBadPage}
use Rattle.series_store.specs.Opening as opening
use Rattle.series_store.specs.Sending.{HasUnfitPage}
use Rattle.series_store.specs.WindowReading.{IsWindowCause}
use Rattle.series_store.specs.declared.errors.StoreError.{StoreError}
use Rattle.series_store.specs.declared.errors.StoreError.TheVariants as store
use Rattle.session_sums.specs.Sums.{IsSumCause}
use Rattle.store_commands.proofs.LoadStored.{named_or}
use Rattle.store_commands.specs.Exported.{IsBadForExport}
use Rattle.stored_book.specs.Records.{entry}
use Rattle.host_replies.specs.Reading.{read_error}
use Rattle.host_replies.specs.Replies.{IsReportCause, Tells, TellsValues, TellsValuesOf}

some_same : (a b : ℕ) → Some a ≡ Some b → a ≡ b
some_same a b same = cc

-- ---- a page that is called damaged

-- a page that is unfit for its place is bad for it
unfit_bad : (image : Image) (total slots level index page : ℕ) (top : Option Span) (at : ℕ) → HasUnfitPage image total level page top at
    → HasBadPage image total slots level index page top at
unfit_bad image total slots zero index page top at is = is
unfit_bad image total slots (suc level) index page top at (inl here) = inl (here.0, here.1, inl here.2)
unfit_bad image total slots (suc level) index page top at (inr below) =
    inr (
      below.0,
      below.1,
      below.2,
      below.3,
      below.4,
      unfit_bad image total slots level (128 * index + below.2) (child_at (image page) below.2) (below.1 (127 + below.2)) at below.5,
    )

-- page 0 tells these numbers, and the record of this id the name
pub record Names (told : Type 0) (view : View) (s : Superblock) (id : ℕ) (name : List ℕ) : Type 0 where
  pub within : s.total ≤ view.size
  pub keeps : told → Keeps view.size s (view.image 0)
  pub there : id < s.series
  pub named : told → (entry view.image id).name ≡ name

bad_tree : (told : Type 0) (view : View) (s : Superblock) (id : ℕ) (name : List ℕ) (page : ℕ) → Names told view s id name → told
    → page < s.total
    → HasUnfitPage view.image s.total (page_levels (entry view.image id).slots) (entry view.image id).root (entry view.image id).span page
    → IsBadForExport name view.size view.image page
bad_tree told view s id name page names t low unfit = record {
  numbers = s;
  keeps = names.keeps t;
  so = (
    low,
    record {
      bad = record {
        id = id;
        within = names.there;
        bad = unfit_bad view.image s.total (entry view.image id).slots (page_levels (entry view.image id).slots) 0
            (entry view.image id).root (entry view.image id).span page unfit;
      };
      named = names.named t;
    },
  );
}

module _ (told told' : Type 0) (old new under under' : View) (s s' : Superblock) (catalog catalog' : Catalog)
    (looks : Looks told told' old new under under' s s' catalog catalog') where
  -- why values weren't read
  pub values_cause : (name : List ℕ) (t0 t1 : ℤ) (id : ℕ) (e : StoreError) → Names told old s id name → IsWindowCause e told s id old new
      → IsReportCause (Values name t0 t1) (read_error e) told' old new
  values_cause name t0 t1 id (store.Refused refusal) names cause = absurd cause
  values_cause name t0 t1 id store.NotAStore names cause = absurd cause
  values_cause name t0 t1 id store.DiskFault names cause = cause
  values_cause name t0 t1 id (store.Damaged page) names cause =
      let I : Image → Type 0 = λ i. IsBadForExport name old.size i page in
      let C : ℕ → Type 0 = λ n. IsBadForExport name n new.image page in (
        omega (arith, cause.0, names.within, looks.size),
        λ t. let was = looks.was_told t in subst C (sym looks.size)
            (subst I (sym (looks.image was)) (bad_tree told old s id name page names was cause.0 (cause.1 was))),
      )
  values_cause name t0 t1 id store.NoMemory names cause = tt

  -- why a sum wasn't
  sum_cause : (session : ℕ) (request : Request) (e : ServiceError) → s.total ≤ old.size → IsSumCause e told' s.total old new
      → IsReportCause (Sum session request) e told' old new
  sum_cause session request DiskFault within cause = cause
  sum_cause session request (Damaged page) within cause = (omega (arith, cause.0, within, looks.size), cause.1)
  sum_cause session request NoMemory within cause = tt

  pub sum_why : (session : ℕ) (request : Request) (r : Result Frame ServiceError) → s.total ≤ old.size
      → IfErr r (λ e. IsSumCause e told' s.total old new) → IfErr r (λ e. IsReportCause (Sum session request) e told' old new)
  sum_why session request (Ok frame) within cause = tt
  sum_why session request (Err e) within cause = sum_cause session request e within cause

-- no error of a read is a fault but that of the disk, for which the count has risen
pub read_faults : (told : Type 0) (s : Superblock) (id : ℕ) (e : StoreError) (old new : View) → new.beside ≡ old.beside
    → (e ≢ store.DiskFault → new.faults ≡ old.faults) → IsWindowCause e told s id old new → CountsFault (step_fault (read_error e)) old new
read_faults told s id (store.Refused refusal) old new beside quiet cause = absurd cause
read_faults told s id store.NotAStore old new beside quiet cause = absurd cause
read_faults told s id store.DiskFault old new beside quiet cause = counts_disk old new beside cause
read_faults told s id (store.Damaged page) old new beside quiet cause = counts_no_disk old new beside (quiet (λ is. cc))
read_faults told s id store.NoMemory old new beside quiet cause = counts_no_disk old new beside (quiet (λ is. cc))

-- nothing but a fault of the disk and want of memory
pub read_outside : (e : StoreError) → opening.IsOutside e → IsOutside (read_error e)
read_outside e (inl disk) = inl (ap read_error disk)
read_outside e (inr memory) = inr (ap read_error memory)

-- ---- values

-- the series of a name is at its id
pub found_there : (name : List ℕ) (book : List Series) (id : ℕ) → id_of name book ≡ Some id
    → (series : Series) × (slice_get book id ≡ Some series)
found_there name book id found = elim (named_or name book) [
  | inl none ↦ (let never : Some id ≡ None = sym found ∙ none in cc)
  | inr named ↦ (
      let same : Some named.1.id ≡ Some id = sym named.1.id_is ∙ found in
      let N : ℕ → Type 0 = λ n. slice_get book n ≡ Some named.0 in
      (named.0, subst N (some_same named.1.id id same) named.1.there))
]

pub values_told : (name : List ℕ) (t0 t1 : ℤ) (total : ℕ) (book : List Series) (id : ℕ) (frame : Frame) → id_of name book ≡ Some id
    → ((series : Series) → slice_get book id ≡ Some series → TellsValues (Some series) id t0 t1 frame)
    → Tells (Values name t0 t1) total book frame
values_told name t0 t1 total book id frame found tells =
    let O : Option ℕ → Type 0 = λ o. TellsValuesOf o book t0 t1 frame in
    let S : Option Series → Type 0 = λ o. TellsValues o id t0 t1 frame in
    let it = found_there name book id found in
    subst O (sym found) (subst S (sym it.1) (tells it.0 it.1))

-- ---- windows

pub window_good : (r : Result Grid GridError) (t0 t1 : ℤ) → IfOk r (λ g. ShowsWindow g t0 t1 × HasCanvas g 1 1) → is_err r ≡ false
    → IsWindow t0 t1
window_good (Ok g) t0 t1 shown same =
    let A : ℤ → Type 0 = λ t. IsWindow t g.t1 in
    let B : ℤ → Type 0 = λ t. IsWindow t0 t in
    subst B shown.0.to (subst A shown.0.from g.window)
window_good (Err e) t0 t1 shown same = cc

pub window_bad : (r : Result Grid GridError) (t0 t1 : ℤ) → ((r ≡ Err grid.BadWindow) ↔ IsBadWindow t0 t1)
    → ((r ≡ Err grid.BadCanvas) ↔ (IsWindow t0 t1 × (IsBadSide 1 ⊎ IsBadSide 1))) → IsTrue (is_err r) → IsBadWindow t0 t1
window_bad (Ok g) t0 t1 window canvas is = cc
window_bad (Err grid.BadWindow) t0 t1 window canvas is = window.0 refl
window_bad (Err grid.BadCanvas) t0 t1 window canvas is = elim (canvas.0 refl).1 [
  | inl side ↦ elim side [ inl low ↦ absurd (omega (arith, low)) | inr high ↦ absurd (omega (arith, high)) ]
  | inr side ↦ elim side [ inl low ↦ absurd (omega (arith, low)) | inr high ↦ absurd (omega (arith, high)) ]
]
