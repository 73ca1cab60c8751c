use Rattle.std.specs.Prelude.{◌≡◌, ◌⊎◌, ℕ, ℤ, ◌+◌, ◌-◌, ◌/◌, ◌%◌, ◌<◌, ◌≤◌, min, max, Bool, true, false, not, ◌||◌, ◌==◌, nat_lt, nat_le}
use Rattle.std.specs.Prelude.{int_lt, unsigned_abs, ◌-ℤ◌, if◌then◌else◌, List, [], ◌∷◌, ◌++◌, length, take, drop, replicate, slice_get}
use Rattle.std.specs.Prelude.{slice_set, position, All, Option, None, Some, is_some, IsSome, Result, Ok, Err, ⊤}
use Rattle.std.specs.Str.{bytes_eq}
use Rattle.std.specs.List.{list_any}
use Rattle.series_book.specs.declared.limits.TheConstants.{MOST_SLOTS, MOST_SERIES, MOST_VALUES, MOST_CLEARED, GREATEST_START}
use Rattle.series_book.specs.declared.limits.TheConstants.{GREATEST_STEP, GREATEST_SCALE}
use Rattle.whole_number.specs.declared.limits.TheConstants.{GREATEST_VALUE}
use Rattle.whole_number.specs.SlotTimes.{ends_in_time}
use Rattle.series_book.specs.declared.one_series.Series.{Series}
use Rattle.series_book.specs.declared.edits.Edit.{Edit}
use Rattle.series_book.specs.declared.edits.Edit.TheVariants.{Create, Append, Set, Clear}
use Rattle.series_book.specs.declared.errors.BookError.{BookError}
use Rattle.series_book.specs.declared.errors.BookError.TheVariants.{Refused, NoMemory}
use Rattle.series_book.specs.declared.refusals.Refusal.{Refusal}
use Rattle.series_book.specs.declared.refusals.Refusal.TheVariants.{UnknownSeries, SeriesExists, TooManySeries, OffGrid, BeforeStart}
use Rattle.series_book.specs.declared.refusals.Refusal.TheVariants.{ValueTooLarge, RangeTooLong, SeriesFull, Full}
use Rattle.series_book.specs.Pages.{pages_of}

-- what a book can be asked: start, step and scale are in range, an append or a set has a value, and
-- the values of a set are all there
abbrev pub IsEdit : Edit → Type 0
IsEdit (Create name start step scale) =
    (unsigned_abs start ≤ GREATEST_START) × (1 ≤ step) × (step ≤ GREATEST_STEP) × (scale ≤ GREATEST_SCALE)
IsEdit (Append name values) = 0 < length values
IsEdit (Set name time values) = (0 < length values) × All (λ value. IsSome value) values
IsEdit (Clear name time count) = ⊤

-- the id of the series of this name
unfoldable pub id_of : List ℕ → List Series → Option ℕ
id_of name book = position (λ series. bytes_eq series.name name) book

-- a value that passes 10^18 in size
abbrev pub is_too_large : Option ℤ → Bool
is_too_large None = false
is_too_large (Some value) = nat_lt GREATEST_VALUE (unsigned_abs value)

-- how far a time is from the start of a series
abbrev pub distance : Series → ℤ → ℕ
distance series time = unsigned_abs (time -ℤ series.start)

-- the slot at a time of the grid that isn't before the start
abbrev pub place_of : Series → ℤ → ℕ
place_of series time = distance series time / series.step

-- so many slots are more than 2^35, or the last of them would stand later than 2 * 10^18
abbrev pub is_overfull : Series → ℕ → Bool
is_overfull series n = nat_lt MOST_SLOTS n || not (ends_in_time series.start series.step n)

-- a time between the times of slots
abbrev pub is_off_grid : Series → ℤ → Bool
is_off_grid series time = not (distance series time % series.step == 0)

-- the slots with these values from a place on: what stood before it, missing slots up to it, the
-- values, and what stood after them
unfoldable pub overwritten : List (Option ℤ) → ℕ → List (Option ℤ) → List (Option ℤ)
overwritten slots place values =
    take place slots ++ replicate (place - length slots) None ++ values ++ drop (place + length values) slots

-- the slots without the values of this many slots from a place on, as far as there are slots
unfoldable pub cleared : List (Option ℤ) → ℕ → ℕ → List (Option ℤ)
cleared slots place count =
    take place slots ++ replicate (min (place + count) (length slots) - place) None ++ drop (place + count) slots

-- the refusal of the first cause that stands, and the slots where none does
abbrev pub unless : List (Bool × Refusal) → List (Option ℤ) → Result (List (Option ℤ)) Refusal
unless [] slots = Ok slots
unless (cause ∷ causes) slots = if cause.0 then Err cause.1 else unless causes slots

-- the slots of a series after an append
unfoldable pub appended : Series → List (Option ℤ) → Result (List (Option ℤ)) Refusal
appended series values =
    unless
    ((list_any is_too_large values, ValueTooLarge)
    ∷ (nat_lt MOST_VALUES (length values), RangeTooLong)
    ∷ (is_overfull series (length series.slots + length values), SeriesFull)
    ∷ [])
    (series.slots ++ values)

-- a time of the grid that isn't before the start
abbrev pub IsOnGrid : Series → ℤ → Type 0
IsOnGrid series time = (is_off_grid series time ≡ false) × (int_lt time series.start ≡ false)

-- the refusal of a time that is no slot's
abbrev pub RefusesTime : Series → ℤ → Refusal → Type 0
RefusesTime series time refusal =
    ((is_off_grid series time ≡ true) × (refusal ≡ OffGrid))
    ⊎ ((is_off_grid series time ≡ false) × (int_lt time series.start ≡ true) × (refusal ≡ BeforeStart))

-- the slots of a series after a set: its length would be the greater of the old length and the end
-- of what is set
unfoldable pub set_at : Series → ℤ → List (Option ℤ) → Result (List (Option ℤ)) Refusal
set_at series time values =
    unless
    ((is_off_grid series time, OffGrid)
    ∷ (int_lt time series.start, BeforeStart)
    ∷ (list_any is_too_large values, ValueTooLarge)
    ∷ (nat_lt MOST_VALUES (length values), RangeTooLong)
    ∷ (is_overfull series (max (length series.slots) (place_of series time + length values)), SeriesFull)
    ∷ [])
    (overwritten series.slots (place_of series time) values)

-- the slots of a series after a clear
unfoldable pub cleared_at : Series → ℤ → ℕ → Result (List (Option ℤ)) Refusal
cleared_at series time count =
    unless
    ((is_off_grid series time, OffGrid)
    ∷ (int_lt time series.start, BeforeStart)
    ∷ (nat_lt MOST_CLEARED count, RangeTooLong)
    ∷ [])
    (cleared series.slots (place_of series time) count)

-- what an accepted edit gives: the book after it, and the number of slots of the edited series
pub record Edited : Type 0 where
  pub book : List Series
  pub slots : ℕ

-- the book with these slots in the series of this id
abbrev pub with_slots : List Series → ℕ → Series → List (Option ℤ) → List Series
with_slots book id series slots = slice_set book id (record series { slots = slots })

-- the edited book, where its pages are no more than the total
unfoldable pub fitted : ℕ → List Series → ℕ → Result Edited Refusal
fitted total book slots =
    if nat_lt total (pages_of book) then Err (Full (pages_of book) total)
    else Ok (record { book = book; slots = slots })

-- the book with the changed slots, unless they were refused or need too many pages
abbrev pub within : ℕ → List Series → ℕ → Series → Result (List (Option ℤ)) Refusal → Result Edited Refusal
within total book id series (Err refusal) = Err refusal
within total book id series (Ok slots) = fitted total (with_slots book id series slots) (length slots)

-- the book with the changed slots, unless they were refused
abbrev pub unbounded : List Series → ℕ → Series → Result (List (Option ℤ)) Refusal → Result Edited Refusal
unbounded book id series (Err refusal) = Err refusal
unbounded book id series (Ok slots) = Ok (record { book = with_slots book id series slots; slots = length slots })

-- a change of the series of an id
abbrev pub change_series : ℕ → Option Series → (ℕ → Series → Result Edited Refusal) → Result Edited Refusal
change_series id None change = Err UnknownSeries
change_series id (Some series) change = change id series

-- a change of a series that is there
abbrev pub change_at : List Series → Option ℕ → (ℕ → Series → Result Edited Refusal) → Result Edited Refusal
change_at book None change = Err UnknownSeries
change_at book (Some id) change = change_series id (slice_get book id) change

-- a new series at the end of the book
unfoldable pub created : List Series → Series → Result Edited Refusal
created book series =
    if is_some (id_of series.name book) then Err SeriesExists
    else if nat_le MOST_SERIES (length book) then Err TooManySeries
    else Ok (record { book = book ++ series ∷ []; slots = 0 })

-- the book after an edit, where the pages are limited by a total, or the first refusal that stands
abbrev pub apply : List Series → ℕ → Edit → Result Edited Refusal
apply book total (Create name start step scale) =
    created book (record { name = name; start = start; step = step; scale = scale; slots = [] })
apply book total (Append name values) =
    change_at book (id_of name book) (λ id series. within total book id series (appended series values))
apply book total (Set name time values) =
    change_at book (id_of name book) (λ id series. within total book id series (set_at series time values))
apply book total (Clear name time count) =
    change_at book (id_of name book) (λ id series. unbounded book id series (cleared_at series time count))

-- an edit that is not done is refused so, or memory was wanting
abbrev pub RefusesEdit : Result Edited Refusal → BookError → Type 0
RefusesEdit edited (Refused refusal) = edited ≡ Err refusal
RefusesEdit edited NoMemory = ⊤
