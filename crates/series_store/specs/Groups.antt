-- What a group of edits does, in one commit.
use Rattle.std.specs.Prelude.{ℕ, ◌≡◌, ◌+◌, ◌<◌, ◌≤◌, ◌⊎◌, min, max, List, [], ◌∷◌, length, map, take, slice_get, All, Option, None, Some}
use Rattle.std.specs.Prelude.{Result, Ok, Err, IsErr, IfOk, ⊤}
use Rattle.block_disk.specs.Counts.{HasRisen}
use Rattle.block_disk.specs.View.{Image, View, Passes, Rises}
use Rattle.gate_pages.specs.Pages.{Quiet}
use Rattle.om3_coeff.specs.Keys.{page_levels}
use Rattle.page_space.specs.declared.superblock.Superblock.{Superblock}
use Rattle.path_repair.specs.Costs.{touch}
use Rattle.series_book.specs.declared.limits.TheConstants.{MOST_SLOTS}
use Rattle.series_book.specs.declared.one_series.Series.{Series}
use Rattle.series_book.specs.declared.edits.Edit.{Edit}
use Rattle.series_book.specs.declared.edits.Edit.TheVariants.{Create, Append, Set, Clear}
use Rattle.series_book.specs.declared.outcomes.Outcome.{Outcome}
use Rattle.series_book.specs.declared.refusals.Refusal.{Refusal}
use Rattle.series_book.specs.Edits.{Edited, apply, id_of, place_of}
use Rattle.series_book.specs.EditLists.{book_behind, after_edits, edits_give}
use Rattle.stored_book.specs.Standing.{StandsForBook}
use Rattle.series_store.specs.Results.{ChangesNone, IsEditCause}
use Rattle.series_store.specs.declared.errors.StoreError.{StoreError}
use Rattle.series_store.specs.declared.errors.StoreError.TheVariants.{Refused, NotAStore, DiskFault, Damaged, NoMemory}

-- how many pages of the tree of a series a change of the slots from first on and below end touches, and how many new roots
-- it gets
abbrev pub touched_slots : Series → ℕ → ℕ → ℕ
touched_slots series first end = touch first end (page_levels (length series.slots)) (page_levels (max (length series.slots) end)) 0

abbrev pub touched_in : Option Series → (Series → ℕ) → ℕ
touched_in None touched = 0
touched_in (Some series) touched = touched series

abbrev pub touched_at : List Series → Option ℕ → (Series → ℕ) → ℕ
touched_at book None touched = 0
touched_at book (Some id) touched = touched_in (slice_get book id) touched

-- how many pages of its series' tree an edit of the book touches
abbrev pub touch_of : List Series → Edit → ℕ
touch_of book (Create name start step scale) = 0
touch_of book (Append name values) = touched_at book (id_of name book)
    (λ series. touched_slots series (length series.slots) (length series.slots + length values))
touch_of book (Set name time values) = touched_at book (id_of name book)
    (λ series. touched_slots series (place_of series time) (place_of series time + length values))
touch_of book (Clear name time count) = touched_at book (id_of name book)
    (λ series. touched_slots series (place_of series time) (min (place_of series time + count) (length series.slots)))

abbrev pub weight_of : Result Edited Refusal → ℕ → ℕ
weight_of (Ok edited) touched = 1 + touched
weight_of (Err refusal) touched = 0

-- the sum of 1 + touch over the accepted ones of the edits, done one after the other
abbrev pub weight : ℕ → List Series → List Edit → ℕ
weight total book [] = 0
weight total book (edit ∷ edits) = weight_of (apply book total edit) (touch_of book edit) + weight total
    (book_behind book (apply book total edit)) edits

-- how many slots an edited series has then, or the refusal
abbrev pub answer_of : Result Outcome Refusal → Result ℕ Refusal
answer_of (Ok outcome) = Ok outcome.slots
answer_of (Err refusal) = Err refusal

-- As many first edits as there are answers were answered as the book answers them one by one, and the pages stand for the
-- book behind them.
pub record AreDone (total : ℕ) (book : List Series) (edits : List Edit) (answers : List (Result Outcome Refusal))
    (image : Image) : Type 0 where
  pub answered : map answer_of answers ≡ edits_give total book (take (length answers) edits)
  pub stands : StandsForBook image total (after_edits total book (take (length answers) edits))

-- these are some of the edits, and not more than there are
abbrev pub AreSome : List Edit → ℕ → Type 0
AreSome edits covered = (0 < covered) × (covered ≤ length edits)

-- these are all of the edits, or so many that their pages may be more than 22 with page 0
abbrev pub AreMany : ℕ → List Series → List Edit → ℕ → Type 0
AreMany total book edits covered = (covered ≡ length edits) ⊎ (22 < 1 + weight total book (take covered edits))

-- the pages stand for the book from before, or for the one behind so many first edits
abbrev pub IsNoneOrAll : ℕ → List Series → List Edit → ℕ → Image → Type 0
IsNoneOrAll total book edits covered image = StandsForBook image total book
    ⊎ StandsForBook image total (after_edits total book (take covered edits))

-- a crash at any moment leaves none of some first edits, or all of them: always the same ones
pub record PassesWhole (total : ℕ) (book : List Series) (edits : List Edit) (old new : View) : Type 0 where
  pub covered : ℕ
  pub within : covered ≤ length edits
  pub moments : Passes old new (IsNoneOrAll total book edits covered) (Quiet old)

-- why no edit of a group was done: as for an edit, and never a refusal
abbrev pub IsGroupCause : StoreError → Type 0 → Superblock → View → View → Type 0
IsGroupCause (Refused refusal) told s old new = ⊥
IsGroupCause NotAStore told s old new = ⊥
IsGroupCause DiskFault told s old new = HasRisen old.faults new.faults
IsGroupCause (Damaged page) told s old new = IsEditCause (Damaged page) told s old new
IsGroupCause NoMemory told s old new = Unit {0}

-- each edit is refused, clears slots that aren't there, or leaves the book as it is
abbrev pub ChangeNone : ℕ → List Series → List Edit → Type 0
ChangeNone total book [] = ⊤
ChangeNone total book (edit ∷ edits) = (IsErr (apply book total edit) ⊎ ChangesNone total book edit)
    × ChangeNone total (book_behind book (apply book total edit)) edits

-- no series has more slots than a book allows
abbrev pub HaveFewSlots : List (Result Outcome Refusal) → Type 0
HaveFewSlots answers = All (λ answer. IfOk answer (λ outcome. outcome.slots ≤ MOST_SLOTS)) answers

-- the book refuses none of the edits but the last one, done one after the other
abbrev pub RefuseLast : ℕ → List Series → List Edit → Type 0
RefuseLast total book [] = ⊤
RefuseLast total book (edit ∷ later) = (IsErr (apply book total edit) → later ≡ [])
    × RefuseLast total (book_behind book (apply book total edit)) later

-- a crash at any moment leaves none of some first edits, or all of them: always the same ones, and none behind a refused one
pub record PassesUntil (total : ℕ) (book : List Series) (edits : List Edit) (old new : View) : Type 0 where
  pub covered : ℕ
  pub within : covered ≤ length edits
  pub last : RefuseLast total book (take covered edits)
  pub moments : Passes old new (IsNoneOrAll total book edits covered) (Quiet old)

-- what a group of edits moves, whatever the pages are
pub record GroupMoves (told_old told_new : Type 0) (old new : View) : Type 0 where
  pub told : told_old → told_new
  pub was_told : told_new → told_old
  pub size : new.size ≡ old.size
  pub beside : new.beside ≡ old.beside
  pub faults : old.faults ≤ new.faults
  pub reads : old.reads ≤ new.reads
  pub syncs : Rises 4 old.syncs new.syncs
  pub writes : Rises 131 old.writes new.writes
