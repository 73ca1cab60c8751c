-- What the nodes of the selected series tell, by what the pages stand for.
use Rattle.std.proofs.Common.{◌≡◌, ℕ, ◌<◌, List, length, Some, sym, ap, ◌∙◌, arith}
use Rattle.std.specs.List.{slice_get}
use Rattle.catalog_page.specs.Entries.{Entry}
use Rattle.gate_pages.specs.declared.pages.Pages.{Ghosts}
use Rattle.om3_coeff.specs.View.{Agrees}
use Rattle.om3_coeff.specs.declared.errors.NodeError.TheVariants.{Damaged}
use Rattle.series_book.specs.declared.one_series.Series.{Series}
use Rattle.series_catalog.specs.Catalogs.{entry_of}
use Rattle.series_catalog.specs.declared.stored_series.StoredSeries.{StoredSeries}
use Rattle.stored_book.specs.Records.{entry}
use Rattle.stored_book.specs.Standing.{IsKept, IsRecordOf, IsStore, StandsForBook}
use Rattle.series_store.proofs.AskLemmas.{agrees, as_many, bad_in, own_store, there, whole_in}
use Rattle.series_store.specs.Asking.{IsBadPage, IsStoredInfo}
use Rattle.series_store.specs.Shown as shown
use Rattle.series_store.specs.declared.series_info.SeriesInfo.{SeriesInfo}
use Rattle.series_store.specs.declared.store.Store.{Store}

-- the axis and the scale that are told of a series are its own
pub record IsToldOf (series : Series) (info : SeriesInfo) : Type 0 where
  pub start : info.start ≡ series.start
  pub step : info.step ≡ series.step
  pub scale : info.scale ≡ series.scale

module _ {P : Type 0} {g : Ghosts P} where
  -- the pages stand for a book with the numbers that the store has
  pub own : (at : Store P g) (total : ℕ) (book : List Series) → shown.IsSound at → shown.IsTold at
      → StandsForBook (shown.image at) total book → IsStore (shown.image at) (shown.numbers at) book
  own at total book sound told stands = (own_store (shown.view at).size total (shown.image at) book
      (shown.numbers at) at.space.rules at.small (at.space.spelled sound told) stands).0

  -- and have a series for each of its catalog
  pub book_there : (at : Store P g) (total : ℕ) (book : List Series) (id : ℕ) → shown.IsSound at → shown.IsTold at
      → StandsForBook (shown.image at) total book → id < length (shown.catalog at) → (series : Series) × (slice_get book id ≡ Some series)
  book_there at total book id sound told stands low = there book id
      (omega (
        arith,
        low,
        as_many (shown.image at) (shown.numbers at) book (shown.catalog at)
            (own at total book sound told stands) at.count,
      ))

  -- in which the record of a series and its tree stand for it
  pub kept_at : (at : Store P g) (total : ℕ) (book : List Series) (id : ℕ) (series : Series) → shown.IsSound at → shown.IsTold at
      → StandsForBook (shown.image at) total book → slice_get book id ≡ Some series
      → IsKept (shown.image at) (shown.total at) series (entry (shown.image at) id)
  kept_at at total book id series sound told stands is = (own at total book sound told stands).kept id series is

  -- what is told of a series by the catalog is so of the one that its record says
  pub told_at : (at : Store P g) (id : ℕ) (series : Series) (info : SeriesInfo) → shown.IsSound at → shown.IsTold at
      → id < length (shown.catalog at) → ((one : StoredSeries) → slice_get (shown.catalog at) id ≡ Some one → IsStoredInfo one info)
      → IsRecordOf series (entry (shown.image at) id) → IsToldOf series info
  told_at at id series info sound told low stored record_is =
      let one = there (shown.catalog at) id low in
      let is = stored one.0 one.1 in
      let says : entry (shown.image at) id ≡ entry_of one.0 = at.told sound told id one.0 one.1 in
      record {
        start = is.start ∙ ap (λ (e : Entry). e.start) (sym says) ∙ record_is.start;
        step = is.step ∙ ap (λ (e : Entry). e.step) (sym says) ∙ record_is.step;
        scale = is.scale ∙ ap (λ (e : Entry). e.scale) (sym says) ∙ record_is.scale;
      }

  pub agrees_at : (at : Store P g) (total : ℕ) (book : List Series) (id : ℕ) (series : Series) → shown.IsSound at → shown.IsTold at
      → StandsForBook (shown.image at) total book → id < length (shown.catalog at)
      → shown.Selects at id → slice_get book id ≡ Some series → Agrees (shown.nodes at) series.slots
  agrees_at at total book id series sound told stands low selected is =
      let one = there (shown.catalog at) id low in
      agrees (shown.IsTold at) (shown.view at) (shown.under at) (shown.numbers at) book
      (shown.catalog at) id one.0 series at.tree at.trail told (own at total book sound told stands) (at.told sound told) one.1 is
      (selected one.0 one.1)

  -- a page of which they tell is damaged
  pub bad_at : (at : Store P g) (id page : ℕ) → shown.IsSound at → id < length (shown.catalog at) → shown.Selects at id
      → (shown.nodes at).bad (Damaged page) → IsBadPage (shown.IsTold at) (shown.total at) (shown.view at) page
  bad_at at id page sound low selected bad =
      let one = there (shown.catalog at) id low in
      bad_in (shown.IsTold at) (shown.view at) (shown.numbers at) (shown.catalog at) id one.0 at.tree page
      (λ t. record { spelled = at.space.spelled sound t; rules = at.space.rules }) at.count (at.told sound) one.1
      (selected one.0 one.1) bad

  -- and where the pages stand for a book there is none
  pub whole_at : (at : Store P g) (id page : ℕ) → shown.IsSound at → id < length (shown.catalog at) → shown.Selects at id
      → (shown.nodes at).bad (Damaged page) → shown.ForBook at (λ total book. ⊥)
  whole_at at id page sound low selected bad = λ total book told stands.
      let one = there (shown.catalog at) id low in
      let two = book_there at total book id sound told stands low in
      whole_in (shown.image at) (shown.numbers at) book (shown.catalog at) id one.0 two.0 at.tree page (own at total book sound told stands)
      (at.told sound told) one.1 two.1 (selected one.0 one.1) (bad.1 told)
