-- What an edit does.
use Rattle.std.specs.Prelude.{ℕ, ◌≡◌, ◌<◌, ◌≤◌, ◌⊎◌, List, length, slice_get, Some, Result, Ok, Err}
use Rattle.block_disk.specs.Counts.{HasRisen}
use Rattle.block_disk.specs.View.{Image, View, Rises}
use Rattle.series_book.specs.declared.one_series.Series.{Series}
use Rattle.series_book.specs.declared.edits.Edit.{Edit}
use Rattle.series_book.specs.declared.edits.Edit.TheVariants.{Create, Append, Set, Clear}
use Rattle.series_book.specs.declared.outcomes.Outcome.{Outcome}
use Rattle.series_book.specs.declared.refusals.Refusal.{Refusal}
use Rattle.series_book.specs.Edits.{Edited, apply, id_of, place_of}
use Rattle.page_space.specs.declared.superblock.Superblock.{Superblock}
use Rattle.stored_book.specs.Damage.{IsDamagedOnce}
use Rattle.stored_book.specs.Standing.{StandsForBook}
use Rattle.series_store.specs.declared.errors.StoreError.{StoreError}
use Rattle.series_store.specs.declared.errors.StoreError.TheVariants.{Refused, NotAStore, DiskFault, Damaged, NoMemory}

-- the edit was accepted, and the pages stand for the edited book
pub record IsDone (total : ℕ) (book : List Series) (edit : Edit) (outcome : Outcome) (image : Image) : Type 0 where
  pub edited : Edited
  pub accepted : apply book total edit ≡ Ok edited
  pub slots : outcome.slots ≡ edited.slots
  pub stands : StandsForBook image total edited.book

-- where pages stand for a book, an edit is refused so, or the disk or the memory failed
abbrev pub IsRefusedWith : ℕ → List Series → Edit → StoreError → Type 0
IsRefusedWith total book edit (Refused refusal) = apply book total edit ≡ Err refusal
IsRefusedWith total book edit NotAStore = ⊥
IsRefusedWith total book edit DiskFault = Unit {0}
IsRefusedWith total book edit (Damaged page) = ⊥
IsRefusedWith total book edit NoMemory = Unit {0}

-- the pages of the accepted edit's book
pub record IsAfter (total : ℕ) (book : List Series) (edit : Edit) (image : Image) : Type 0 where
  pub edited : Edited
  pub accepted : apply book total edit ≡ Ok edited
  pub stands : StandsForBook image total edited.book

-- pages that stand for the book from before the edit, or for the one after it
abbrev pub IsBeforeOrAfter : ℕ → List Series → Edit → Image → Type 0
IsBeforeOrAfter total book edit image = StandsForBook image total book ⊎ IsAfter total book edit image

-- why an edit wasn't done, beside what the book is: a page that is called damaged is one of the store's, and is so where
-- reads give what the pages are
abbrev pub IsEditCause : StoreError → Type 0 → Superblock → View → View → Type 0
IsEditCause (Refused refusal) told s old new = Unit {0}
IsEditCause NotAStore told s old new = ⊥
IsEditCause DiskFault told s old new = HasRisen old.faults new.faults
IsEditCause (Damaged page) told s old new = (page < s.total) × (told → IsDamagedOnce old.image s page)
IsEditCause NoMemory told s old new = Unit {0}

-- nothing was committed
pub record IsUnchanged (told : Type 0) (old new : View) : Type 0 where
  pub image : told → new.image ≡ old.image
  pub fit : old.fit → new.fit
  pub syncs : new.syncs ≡ old.syncs
  pub writes : new.writes ≡ old.writes

-- nothing was written or synced
abbrev pub CommitsNone : View → View → Type 0
CommitsNone old new = (new.syncs ≡ old.syncs) × (new.writes ≡ old.writes)

-- the edit is a clear, and the series of its name has none of the slots that it names
abbrev pub ClearsNone : List Series → Edit → Type 0
ClearsNone book (Create name start step scale) = ⊥
ClearsNone book (Append name values) = ⊥
ClearsNone book (Set name time values) = ⊥
ClearsNone book (Clear name time count) = (id : ℕ) (series : Series) → id_of name book ≡ Some id → slice_get book id ≡ Some series
    → (count ≡ 0) ⊎ (length series.slots ≤ place_of series time)

-- an edited book is the one from before
abbrev pub KeepsBook : List Series → Result Edited Refusal → Type 0
KeepsBook book answer = (edited : Edited) → answer ≡ Ok edited → edited.book ≡ book

-- the edit is such a clear, or leaves the book as it is
abbrev pub ChangesNone : ℕ → List Series → Edit → Type 0
ChangesNone total book edit = ClearsNone book edit ⊎ KeepsBook book (apply book total edit)

-- unless a call of the disk failed, nothing was committed
abbrev pub IsUnchangedFor : StoreError → Type 0 → View → View → Type 0
IsUnchangedFor (Refused refusal) told old new = IsUnchanged told old new
IsUnchangedFor NotAStore told old new = ⊥
IsUnchangedFor DiskFault told old new = Unit {0}
IsUnchangedFor (Damaged page) told old new = IsUnchanged told old new
IsUnchangedFor NoMemory told old new = IsUnchanged told old new

-- what an edit moves, whatever the pages are
pub record Moves (told_old told_new : Type 0) (old new : View) : Type 0 where
  pub told : told_old → told_new
  pub was_told : told_new → told_old
  pub size : new.size ≡ old.size
  pub beside : new.beside ≡ old.beside
  pub faults : old.faults ≤ new.faults
  pub reads : Rises 96 old.reads new.reads
  pub syncs : Rises 4 old.syncs new.syncs
  pub writes : Rises 87 old.writes new.writes
