-- A page of an opened store that was called damaged, a name that its catalog lacks, and the scale that it tells of a name.
use Rattle.std.proofs.Common.{◌≡◌, ◌∙◌, ℕ, zero, suc, ◌<◌, List, [], ◌∷◌, Option, Some, None, Result, Ok, Err, IfErr, IfOk, IfSome, length}
use Rattle.std.proofs.Common.{refl, ap, sym, subst, arith}
use Rattle.std.specs.List.{slice_get}
use Rattle.block_disk.specs.View.{Honest, Image, View}
use Rattle.gate_pages.specs.Journal.{pages_of}
use Rattle.stored_book.proofs.CurrentLemmas.{spelled_current}
use Rattle.page_space.specs.Layout.{Keeps}
use Rattle.page_space.specs.declared.superblock.Superblock.{Superblock}
use Rattle.stored_book.specs.Damage.{IsBadForRequest, SaysNumbers}
use Rattle.stored_book.specs.Records.{entry}
use Rattle.store_commands.proofs.Held.{RestsNew}
use Rattle.store_commands.specs.Damaged.{IsDamagedLater}
use Rattle.store_commands.specs.Lacking.{HasNoRecord, HasScale, LacksRecord, TellsScale}
use Rattle.store_commands.specs.Loaded.{IsAtLine, IsReadByRecord}
use Rattle.catalog_page.specs.Entries.{Entry}
use Rattle.run_ends.specs.Statuses.{block_of}
use Rattle.run_ends.specs.declared.ending.End.{End}
use Rattle.run_ends.specs.declared.ending.End.TheVariants.{BadInput}
use Rattle.series_catalog.specs.Catalogs.{AreAsTold}
use Rattle.series_catalog.specs.declared.stored_series.StoredSeries.{StoredSeries}
use Rattle.series_load.specs.Ends.{EndsAtBadOf, IsRead, OfScale}

-- it is so of the disk, whose pages are of version 2
pub later_bad : (count count' : ℕ) (new : View) (page : ℕ) → count' ≡ count → page < count'
    → (Honest new → IsBadForRequest count' (pages_of count' new.image) page) → IsDamagedLater IsBadForRequest count new (block_of page)
later_bad count count' new page same within bad =
    let P : ℕ → Type 0 = λ n. IsBadForRequest n (pages_of n new.image) page in
    let Q : Image → Type 0 = λ pages. IsBadForRequest count pages page in
    record {
      page = page;
      place_is = refl;
      within = omega (arith, within, same);
      bad = λ honest. let here = subst P same (bad honest) in
          subst Q (sym (spelled_current (pages_of count new.image) here.numbers here.keeps.spelled)) here;
    }

pub lacks_record : (count : ℕ) (disk : View) (s : Superblock) (name : List ℕ) → RestsNew count disk
    → (Honest disk → Keeps count s (pages_of count disk.image 0))
    → (Honest disk → (id : ℕ) → id < s.series → (entry (pages_of count disk.image) id).name ≡ name → ⊥) → LacksRecord count disk name
lacks_record count disk s name rests keeps none = λ honest.
    let P : Image → Type 0 = λ image. HasNoRecord count image name in
    subst P (sym (rests.current honest)) (record { numbers = s; keeps = keeps honest; so = none honest })

-- ---- the line at which a load ended

low_of : {A : Type 0} (list : List A) (id : ℕ) (a : A) → slice_get list id ≡ Some a → id < length list
low_of {A} [] id a at = cc
low_of {A} (x ∷ xs) zero a at = omega arith
low_of {A} (x ∷ xs) (suc id) a at = omega (arith, low_of xs id a at)

has_scale : (image : Image) (s : Superblock) (items : List StoredSeries) (name : List ℕ) (id : ℕ) (one : StoredSeries)
    → length items ≡ s.series
    → AreAsTold image items → slice_get items id ≡ Some one → one.name ≡ name → HasScale image s name one.scale
has_scale image s items name id one count told at named = record {
  id = id;
  there = omega (arith, low_of items id one at, count);
  named = ap (λ (e : Entry). e.name) (told id one at) ∙ named;
  scale_is = ap (λ (e : Entry). e.scale) (told id one at);
}

module _ (count : ℕ) (disk : View) (s : Superblock) (items : List StoredSeries) (name : List ℕ) (rests : RestsNew count disk)
    (keeps : Honest disk → Keeps count s (pages_of count disk.image 0)) (counted : length items ≡ s.series)
    (told : Honest disk → AreAsTold (pages_of count disk.image) items) where
  tells_scale : (id : ℕ) (one : StoredSeries) → slice_get items id ≡ Some one → one.name ≡ name → TellsScale count disk name one.scale
  tells_scale id one at named = λ honest.
      let P : Image → Type 0 = λ image. SaysNumbers count image (λ n. HasScale image n name one.scale) in
      subst P (sym (rests.current honest))
      (record {
        numbers = s;
        keeps = keeps honest;
        so = has_scale (pages_of count disk.image) s items name id one counted
            (told honest) at named;
      })

  by_record : (input : List ℕ) (end : End) → EndsAtBadOf items name input end → IsAtLine name count disk input end
  by_record input (BadInput at) is = record { scale = is.one.scale; tells = tells_scale is.id is.one is.there is.named; line = is.so }
  by_record input end is = tt

  pub line_by : (o : Option (List ℕ)) (answer : Result ℕ End) → IfErr answer (λ e. IfSome o (λ input. EndsAtBadOf items name input e))
      → IfErr answer (λ e. IfSome o (λ input. IsAtLine name count disk input e))
  line_by o (Ok readings) line = tt
  line_by None (Err e) line = tt
  line_by (Some input) (Err e) line = by_record input e line

  pub read_by : (o : Option (List ℕ)) (answer : Result ℕ End)
      → IfOk answer (λ readings. IfSome o (λ input. OfScale items name (λ scale. IsRead scale input readings)))
      → IfOk answer (λ readings. IfSome o (λ input. IsReadByRecord count disk name input readings))
  read_by o (Err e) read = tt
  read_by None (Ok readings) read = tt
  read_by (Some input) (Ok readings) read =
      record { scale = read.one.scale; tells = tells_scale read.id read.one read.there read.named; read = read.so }
