-- How a load ends, and what it has done then.
use Rattle.std.specs.Prelude.{◌≡◌, ℕ, ◌-◌, ◌^◌, ◌<◌, ◌≤◌, List, [], ◌∷◌, ◌++◌, length, take, slice_get, Option, Some, Result, Ok, Err}
use Rattle.std.specs.Prelude.{count_by, is_some, IfSome, ⊤}
use Rattle.block_disk.specs.Counts.{HasRisen}
use Rattle.block_disk.specs.View.{Image, View, Passes}
use Rattle.gate_pages.specs.Pages.{Quiet}
use Rattle.chart_world.specs.Lines.{NoLineFeed}
use Rattle.series_book.specs.declared.one_series.Series.{Series}
use Rattle.series_book.specs.declared.refusals.Refusal.{Refusal}
use Rattle.series_book.specs.Edits.{apply}
use Rattle.series_catalog.specs.declared.stored_series.StoredSeries.{StoredSeries}
use Rattle.stored_book.specs.Damage.{IsBadForEdit}
use Rattle.stored_book.specs.Standing.{StandsForBook}
use Rattle.series_load.specs.Costs.{Costs, spent_by}
use Rattle.series_load.specs.Rows.{Reading, ReadsRows, BadFirst}
use Rattle.chart_world.specs.Fronts.{IsWhole, first_piece}
use Rattle.series_load.specs.Fronts.{told}
use Rattle.series_load.specs.Runs.{Run, Ended, AllRuns, AreFirst}
use Rattle.series_load.specs.Sets.{set_of, Loads, IsAfter, IsAfterSome, OfRefusal, AreFirstOf}
use Rattle.run_ends.specs.declared.ending.End.{End}
use Rattle.run_ends.specs.declared.ending.End.TheVariants.{NoMemory, ReadFault, DiskFault, DamagedPage, BadInput, InputTooLong}
use Rattle.run_ends.specs.declared.ending.End.TheVariants.{UnknownSeries, Refused}

-- all lines are rows, the sets of all runs were done, and so many rows have a reading
pub record IsLoaded (total : ℕ) (name : List ℕ) (book : List Series) (series : Series) (input : List ℕ) (count : ℕ)
    (image : Image) : Type 0 where
  pub rows : List (Option Reading)
  pub reads : ReadsRows series.scale input input [] rows
  pub runs : List Run
  pub all : AllRuns series.step rows runs
  pub after : IsAfter total name book runs image
  pub counted : count ≡ count_by is_some rows

-- The first bad line is the one at this offset, and ends among the first 2^32 bytes: those before it are rows, or empty.
pub record IsBadLine (scale : ℕ) (input : List ℕ) (at : ℕ) : Type 0 where
  pub front : List ℕ
  pub rest : List ℕ
  pub rows : List (Option Reading)
  pub reads : ReadsRows scale input front rest rows
  pub bad : BadFirst scale (told front) rest
  pub early : length (front ++ first_piece rest) ≤ 2 ^ 32
  pub at_is : at ≡ length front

-- the first bad line is the one at this offset, and the sets of all runs before it were done
pub record IsAtBad (total : ℕ) (name : List ℕ) (book : List Series) (series : Series) (input : List ℕ) (at : ℕ)
    (image : Image) : Type 0 where
  pub line : IsBadLine series.scale input at
  pub runs : List Run
  pub all : AllRuns series.step line.rows runs
  pub after : IsAfter total name book runs image

-- The sets of some first runs were done. The run behind them begins at this offset, and its set is refused so.
pub record IsAtRefusal (total : ℕ) (name : List ℕ) (book : List Series) (series : Series) (input : List ℕ) (at : ℕ) (refusal : Refusal)
    (image : Image) : Type 0 where
  pub runs : List Run
  pub run : Run
  pub first : AreFirst series.scale series.step input (runs ++ run ∷ [])
  pub at_is : at ≡ run.first.at
  pub new : List Series
  pub loads : Loads total name book runs new
  pub refused : apply new total (set_of name run) ≡ Err refusal
  pub stands : StandsForBook image total new

-- The sets of the runs that ended within the lines whose line feeds were among the bytes taken were done, and these bytes are left.
pub record IsTaken (total : ℕ) (name : List ℕ) (book : List Series) (series : Series) (input left : List ℕ) (image : Image) : Type 0 where
  pub front : List ℕ
  pub partial : List ℕ
  pub rows : List (Option Reading)
  pub reads : ReadsRows series.scale input front (partial ++ left) rows
  pub whole : IsWhole front
  pub unended : NoLineFeed partial
  pub runs : List Run
  pub ended : Ended series.step rows runs
  pub after : IsAfter total name book runs image

-- the sets of the runs that ended within the whole lines among the first 2^32 bytes were done, and there is a byte more
pub record IsPast (total : ℕ) (name : List ℕ) (book : List Series) (series : Series) (input : List ℕ) (image : Image) : Type 0 where
  pub front : List ℕ
  pub rest : List ℕ
  pub rows : List (Option Reading)
  pub reads : ReadsRows series.scale input front rest rows
  pub within : length front ≤ 2 ^ 32
  pub unended : NoLineFeed (take (2 ^ 32 - length front) rest)
  pub past : 2 ^ 32 < length input
  pub runs : List Run
  pub ended : Ended series.step rows runs
  pub after : IsAfter total name book runs image

-- why not all of the input was loaded, and what was done
abbrev pub EndsLoad : ℕ → List ℕ → List Series → Series → List ℕ → Option (List ℕ) → Image → End → Type 0
EndsLoad total name book series input left image NoMemory = ⊤
EndsLoad total name book series input left image ReadFault = IfSome left (λ bytes. IsTaken total name book series input bytes image)
EndsLoad total name book series input left image DiskFault = ⊤
EndsLoad total name book series input left image (BadInput at) = IsAtBad total name book series input at image
EndsLoad total name book series input left image InputTooLong = IsPast total name book series input image
EndsLoad total name book series input left image (Refused at number) =
    OfRefusal number (λ refusal. IsAtRefusal total name book series input at refusal image)
EndsLoad total name book series input left image end = ⊥

-- unless a call of the disk failed, the sets of some first runs were done
abbrev pub KeepsSome : ℕ → List ℕ → List Series → Series → Option (List ℕ) → Image → End → Type 0
KeepsSome total name book series input image NoMemory = IsAfterSome total name book series input image
KeepsSome total name book series input image ReadFault = IsAfterSome total name book series input image
KeepsSome total name book series input image DiskFault = ⊤
KeepsSome total name book series input image (BadInput at) = IsAfterSome total name book series input image
KeepsSome total name book series input image InputTooLong = IsAfterSome total name book series input image
KeepsSome total name book series input image (Refused at number) = IsAfterSome total name book series input image
KeepsSome total name book series input image end = ⊥

-- why a load ended, whatever the pages are: by whether reads give what they are, their total, the pages and the counts of
-- read faults before and after. A page that is called damaged is one of the store's, and is so where reads give it.
abbrev pub IsLoadCause : End → Type 0 → ℕ → View → View → ℕ → ℕ → Type 0
IsLoadCause NoMemory told total old new reads reads' = ⊤
IsLoadCause ReadFault told total old new reads reads' = HasRisen reads reads'
IsLoadCause DiskFault told total old new reads reads' = HasRisen old.faults new.faults
IsLoadCause (DamagedPage page) told total old new reads reads' = (page < total) × (told → IsBadForEdit new.size new.image page)
IsLoadCause (BadInput at) told total old new reads reads' = ⊤
IsLoadCause InputTooLong told total old new reads reads' = ⊤
IsLoadCause UnknownSeries told total old new reads reads' = ⊤
IsLoadCause (Refused at number) told total old new reads reads' = ⊤
IsLoadCause end told total old new reads reads' = ⊥

-- a line that an end tells is the first bad one, whatever the pages are
abbrev pub EndsAtBad : ℕ → List ℕ → End → Type 0
EndsAtBad scale input (BadInput at) = IsBadLine scale input at
EndsAtBad scale input end = ⊤

-- all lines are rows, whatever the pages are, and so many of them have a reading
pub record IsRead (scale : ℕ) (input : List ℕ) (count : ℕ) : Type 0 where
  pub rows : List (Option Reading)
  pub reads : ReadsRows scale input input [] rows
  pub counted : count ≡ count_by is_some rows

-- a series of a catalog has this name, and this is so of its scale
pub record OfScale (catalog : List StoredSeries) (name : List ℕ) (IsSo : ℕ → Type 0) : Type 0 where
  pub id : ℕ
  pub one : StoredSeries
  pub there : slice_get catalog id ≡ Some one
  pub named : one.name ≡ name
  pub so : IsSo one.scale

-- the same by the scale of the series that has this name in a catalog
abbrev pub EndsAtBadOf : List StoredSeries → List ℕ → List ℕ → End → Type 0
EndsAtBadOf catalog name input (BadInput at) = OfScale catalog name (λ scale. IsBadLine scale input at)
EndsAtBadOf catalog name input end = ⊤

-- Some first runs of the input were stored, or tried, and their sets cost no more than they may.
pub record CostsFirst (series : Series) (input : Option (List ℕ)) (old new : View) : Type 0 where
  pub runs : List Run
  pub first : AreFirstOf series.scale series.step input runs
  pub costs : Costs (length runs) (spent_by old) new

-- all of the input was loaded: what was done, whether or not the streams tell their bytes, and what a crash at a
-- moment on the way leaves; no byte is sent
pub record Finished (total : ℕ) (name : List ℕ) (book : List Series) (series : Series) (input : Option (List ℕ)) (count : ℕ)
    (old new : View) : Type 0 where
  pub costs : CostsFirst series input old new
  pub done : IfSome input (λ bytes. IsLoaded total name book series bytes count new.image)
  pub some : IsAfterSome total name book series input new.image
  pub moments : Passes old new (IsAfterSome total name book series input) (Quiet old)

-- the same, where not all of it was
pub record Stopped (total : ℕ) (name : List ℕ) (book : List Series) (series : Series) (input left : Option (List ℕ)) (e : End)
    (old new : View) : Type 0 where
  pub costs : CostsFirst series input old new
  pub ends : IfSome input (λ bytes. EndsLoad total name book series bytes left new.image e)
  pub some : KeepsSome total name book series input new.image e
  pub moments : Passes old new (IsAfterSome total name book series input) (Quiet old)

-- what a load has done, where the pages stood for the book, with a series of this name
abbrev pub Outcome : ℕ → List ℕ → List Series → Series → Option (List ℕ) → Option (List ℕ) → Result ℕ End → View → View → Type 0
Outcome total name book series input left (Ok count) old new = Finished total name book series input count old new
Outcome total name book series input left (Err e) old new = Stopped total name book series input left e old new
