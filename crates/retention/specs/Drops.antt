-- What sweeps leave of a book.
use Rattle.std.specs.Prelude.{ℕ, ℤ, ◌≡◌, ◌≢◌, ◌<◌, ◌<ℤ◌, ◌≤ℤ◌, List, [], ◌∷◌, length, slice_get, Some, IsOk, ⊤, ◌-◌, ◌≤◌, ◌⊎◌}
use Rattle.series_book.specs.Pages.{pages_of}
use Rattle.series_book.specs.Books.{IsBook}
use Rattle.retention.specs.declared.rule.Rule.{Rule}
use Rattle.om3_coeff.specs.Spans.{Holds}
use Rattle.series_book.specs.declared.one_series.Series.{Series}
use Rattle.series_book.specs.declared.edits.Edit.{Edit}
use Rattle.series_book.specs.Edits.{apply, id_of}
use Rattle.series_book.specs.EditLists.{book_behind, after_edits}
use Rattle.retention.specs.Sweeps.{Found, found_time, slot_time, sweeps, sweeps_some}

-- each of the edits is accepted, one after the other
abbrev pub AreAccepted : ℕ → List Series → List Edit → Type 0
AreAccepted total book [] = ⊤
AreAccepted total book (edit ∷ edits) = IsOk (apply book total edit) × AreAccepted total (book_behind book (apply book total edit)) edits

-- the series of an id lost the slots that are old, and kept its other slots and all else
pub record LosesSlots (IsOld : ℕ → Type 0) (old new : Series) : Type 0 where
  pub name : new.name ≡ old.name
  pub start : new.start ≡ old.start
  pub step : new.step ≡ old.step
  pub scale : new.scale ≡ old.scale
  pub length_is : length new.slots ≡ length old.slots
  pub lost : (slot : ℕ) (value : ℤ) → IsOld slot → Holds new.slots slot value → ⊥
  pub kept : (slot : ℕ) → (IsOld slot → ⊥) → slice_get new.slots slot ≡ slice_get old.slots slot

-- and so did the book, in which all other series stay
pub record LosesIn (IsOld : Series → ℕ → Type 0) (id : ℕ) (old new : List Series) : Type 0 where
  pub count : length new ≡ length old
  pub before : Series
  pub was : slice_get old id ≡ Some before
  pub after : Series
  pub is : slice_get new id ≡ Some after
  pub loses : LosesSlots (IsOld before) before after
  pub others : (other : ℕ) → other ≢ id → slice_get new other ≡ slice_get old other

-- no series of the book stores a value
abbrev pub HoldsNothing : List Series → Type 0
HoldsNothing book = (id slot : ℕ) (series : Series) (value : ℤ) → slice_get book id ≡ Some series → Holds series.slots slot value → ⊥

-- a stored slot of the book, and none that is stored is older, nor as old in a series of a lower id
pub record IsOldest (book : List Series) (found : Found) : Type 0 where
  pub there : slice_get book found.id ≡ Some found.series
  pub value : ℤ
  pub holds : Holds found.series.slots found.slot value
  pub least : (id slot : ℕ) (series : Series) (value : ℤ) → slice_get book id ≡ Some series → Holds series.slots slot value
      → found_time found ≤ℤ slot_time series slot
  pub first : (id slot : ℕ) (series : Series) (value : ℤ) → id < found.id → slice_get book id ≡ Some series → Holds series.slots slot value
      → found_time found <ℤ slot_time series slot

-- so of each book, and of the series of a name in it
abbrev pub ForNamed : (ℕ → List Series → List ℕ → ℕ → Series → Type 0) → Type 0
ForNamed IsSo = (total : ℕ) (book : List Series) (name : List ℕ) (id : ℕ) (series : Series) → IsBook book → id_of name book ≡ Some id
    → slice_get book id ≡ Some series → IsSo total book name id series

-- the book behind the clears of a rule
abbrev pub book_swept : ℕ → List Series → Rule → List Series
book_swept total book rule = after_edits total book (sweeps total book rule)

-- the book behind a step of at most so many clears of a rule
abbrev pub book_stepped : ℕ → List Series → Rule → ℕ → List Series
book_stepped total book rule most = after_edits total book (sweeps_some total book rule most)

-- of so many pages in all so many are free beside those of the book, or it stores nothing
abbrev pub HasFree : ℕ → ℕ → List Series → Type 0
HasFree total pages book = (pages ≤ total - pages_of book) ⊎ HoldsNothing book
