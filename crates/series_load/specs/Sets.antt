-- Runs as sets of a series.
use Rattle.std.specs.Prelude.{◌≡◌, ◌≤◌, ℕ, List, [], ◌∷◌, ◌++◌, All, length, map, Option, None, Some, Ok, Err, slice_get}
use Rattle.block_disk.specs.View.{Image}
use Rattle.series_book.specs.declared.one_series.Series.{Series}
use Rattle.series_book.specs.declared.edits.Edit.{Edit}
use Rattle.series_book.specs.declared.edits.Edit.TheVariants.{Set}
use Rattle.series_book.specs.declared.refusals.Refusal.{Refusal}
use Rattle.series_book.specs.Edits.{Edited, IsEdit, apply, id_of}
use Rattle.series_book.specs.Refusals.{number_of}
use Rattle.stored_book.specs.Standing.{StandsForBook}
use Rattle.series_load.specs.Runs.{Run, readings, AreFirst}

-- the series of this name in the book
pub record IsNamed (book : List Series) (name : List ℕ) (series : Series) : Type 0 where
  pub id : ℕ
  pub id_is : id_of name book ≡ Some id
  pub there : slice_get book id ≡ Some series

-- the set of a run: its values, from the time of its first reading on
abbrev pub set_of : List ℕ → Run → Edit
set_of name run = Set name run.first.time (map (λ reading. Some reading.value) (readings run))

-- these are the sets of the runs, and the offset of the first line of each
pub record AreSets (name : List ℕ) (runs : List Run) (sets : List Edit) (ats : List ℕ) : Type 0 where
  pub sets_are : sets ≡ map (set_of name) runs
  pub ats_are : ats ≡ map (λ run. run.first.at) runs

-- a book can be asked each set, and each has an offset
pub record AreEdits (sets : List Edit) (ats : List ℕ) : Type 0 where
  pub edits : All IsEdit sets
  pub placed : length sets ≤ length ats

-- the sets of the runs are accepted one by one, and make one book the other
abbrev pub Loads : ℕ → List ℕ → List Series → List Run → List Series → Type 0
Loads total name old [] new = new ≡ old
Loads total name old (run ∷ later) new = (edited : Edited) × (apply old total (set_of name run) ≡ Ok edited)
    × Loads total name edited.book later new

-- the pages stand for the book after the sets of these runs
pub record IsAfter (total : ℕ) (name : List ℕ) (book : List Series) (runs : List Run) (image : Image) : Type 0 where
  pub new : List Series
  pub loads : Loads total name book runs new
  pub stands : StandsForBook image total new

-- the sets of some first of the runs were done
pub record IsPartDone (total : ℕ) (name : List ℕ) (book : List Series) (runs : List Run) (image : Image) : Type 0 where
  pub done : List Run
  pub later : List Run
  pub split : runs ≡ done ++ later
  pub after : IsAfter total name book done image

-- The sets of some first of the runs were done. The run behind them begins at this offset, and its set is refused so.
pub record IsRefusedIn (total : ℕ) (name : List ℕ) (book : List Series) (runs : List Run) (at : ℕ) (refusal : Refusal)
    (image : Image) : Type 0 where
  pub done : List Run
  pub run : Run
  pub later : List Run
  pub split : runs ≡ done ++ run ∷ later
  pub at_is : at ≡ run.first.at
  pub new : List Series
  pub loads : Loads total name book done new
  pub refused : apply new total (set_of name run) ≡ Err refusal
  pub stands : StandsForBook image total new

-- this is so of a refusal with this number
pub record OfRefusal (number : ℕ) (IsSo : Refusal → Type 0) : Type 0 where
  pub refusal : Refusal
  pub number_is : number ≡ number_of refusal
  pub so : IsSo refusal

-- the runs are the first of the input, where that is told
abbrev pub AreFirstOf : ℕ → ℕ → Option (List ℕ) → List Run → Type 0
AreFirstOf scale step None runs = Unit {0}
AreFirstOf scale step (Some input) runs = AreFirst scale step input runs

-- the pages stand for the book after the sets of some first runs of the input
pub record IsAfterSome (total : ℕ) (name : List ℕ) (book : List Series) (series : Series) (input : Option (List ℕ))
    (image : Image) : Type 0 where
  pub runs : List Run
  pub first : AreFirstOf series.scale series.step input runs
  pub after : IsAfter total name book runs image
