-- Which clears a rule makes of a book.
use Rattle.std.specs.Prelude.{◌≡◌, ℕ, zero, suc, ℤ, pos, ◌+◌, ◌-◌, ◌*◌, ◌/◌, ◌+ℤ◌, min, Bool, nat_le, int_lt, if◌then◌else◌, List, [], ◌∷◌}
use Rattle.std.specs.Prelude.{take, drop, length, map, slice_get, position, count_by, sum_by, Option, None, Some, is_some}
use Rattle.std.specs.List.{list_any, filter, range_with_len}
use Rattle.series_book.specs.declared.limits.TheConstants.{MOST_CLEARED, PAGE_SLOTS}
use Rattle.series_book.specs.declared.one_series.Series.{Series}
use Rattle.series_book.specs.declared.edits.Edit.{Edit}
use Rattle.series_book.specs.declared.edits.Edit.TheVariants.{Clear}
use Rattle.series_book.specs.Edits.{apply, id_of}
use Rattle.series_book.specs.EditLists.{book_behind}
use Rattle.series_book.specs.Pages.{count_below, pages_of}
use Rattle.series_catalog.specs.declared.stored_series.StoredSeries.{StoredSeries}
use Rattle.series_store.specs.Asking.{LacksName}
use Rattle.retention.specs.declared.rule.Rule.{Rule}
use Rattle.retention.specs.declared.rule.Rule.TheVariants.{Before, Last, Free}

-- the time of a slot
abbrev pub slot_time : Series → ℕ → ℤ
slot_time series slot = series.start +ℤ pos (slot * series.step)

-- one of the slots from first on and below end holds a value
unfoldable pub holds_value : List (Option ℤ) → ℕ → ℕ → Bool
holds_value slots first end = list_any is_some (take (end - first) (drop first slots))

-- how many values the slots of a series hold, and those of a book
abbrev pub values_in : List (Option ℤ) → ℕ
values_in slots = count_by is_some slots

abbrev pub values_of : List Series → ℕ
values_of book = sum_by (λ series. values_in series.slots) book

-- how many slots of a series stand before a time
unfoldable pub slots_before : Series → ℤ → ℕ
slots_before series time = count_below (λ slot. int_lt (slot_time series slot) time) (length series.slots)

-- the clear of the slots of a series from first on and below end, by the name of the series
abbrev pub clear_of : List ℕ → Series → ℕ → ℕ → Edit
clear_of name series first end = Clear name (slot_time series first) (end - first)

-- where the old slots of an aligned range of 4,096 slots begin, and where they end
abbrev pub range_first : ℕ → ℕ
range_first q = q * MOST_CLEARED

abbrev pub range_end : ℕ → ℕ → ℕ
range_end old q = min ((q + 1) * MOST_CLEARED) old

-- the clears of the first so many slots of a series: in rising order, one for each aligned range of 4,096 slots in which
-- one of them holds a value
unfoldable pub clears_of : List ℕ → Series → ℕ → List Edit
clears_of name series old =
    map (λ q. clear_of name series (range_first q) (range_end old q))
    (filter (λ q. holds_value series.slots (range_first q) (range_end old q)) (range_with_len 0 old))

-- the series of a name, where there is one
abbrev pub at_id : List Series → Option ℕ → Option Series
at_id book None = None
at_id book (Some id) = slice_get book id

abbrev pub named : List Series → List ℕ → Option Series
named book name = at_id book (id_of name book)

abbrev pub clears_if : List ℕ → Option Series → (Series → ℕ) → List Edit
clears_if name None old = []
clears_if name (Some series) old = clears_of name series (old series)

-- the first stored slot of a series of the book
pub record Found : Type 0 where
  pub id : ℕ
  pub series : Series
  pub slot : ℕ

abbrev pub found_time : Found → ℤ
found_time found = slot_time found.series found.slot

abbrev pub found_in : ℕ → Series → Option ℕ → Option Found
found_in id series None = None
found_in id series (Some slot) = Some (record { id = id; series = series; slot = slot })

abbrev pub found_at : ℕ → Option Series → Option Found
found_at id None = None
found_at id (Some series) = found_in id series (position is_some series.slots)

-- the one whose time is less, and the first of two with one time
abbrev pub older : Option Found → Option Found → Option Found
older None other = other
older (Some one) None = Some one
older (Some one) (Some other) = if int_lt (found_time other) (found_time one) then Some other else Some one

-- the first stored slot that has the least time, among so many first series, or among all
unfoldable pub oldest_among : List Series → ℕ → Option Found
oldest_among book zero = None
oldest_among book (suc id) = older (oldest_among book id) (found_at id (slice_get book id))

abbrev pub oldest : List Series → Option Found
oldest book = oldest_among book (length book)

-- the clear of the aligned range of 128 slots that holds a slot, cut at the length
abbrev pub page_first : ℕ → ℕ
page_first slot = slot / PAGE_SLOTS * PAGE_SLOTS

abbrev pub clear_page : Found → Edit
clear_page found = clear_of found.series.name found.series (page_first found.slot)
    (min (page_first found.slot + PAGE_SLOTS) (length found.series.slots))

-- the clears that free pages: each takes the oldest stored slot with its range, until so many pages are free or nothing
-- is stored
abbrev pub unless_none : Option Found → (Edit → List Edit) → List Edit
unless_none None later = []
unless_none (Some found) later = clear_page found ∷ later (clear_page found)

unfoldable pub frees : ℕ → ℕ → ℕ → List Series → List Edit
frees total pages zero book = []
frees total pages (suc most) book =
    if nat_le pages (total - pages_of book) then []
    else unless_none (oldest book) (λ clear. frees total pages most (book_behind book (apply book total clear)))

-- the clears of a rule: of the slots before a time, of all but the last so many, or those that free pages
abbrev pub sweeps : ℕ → List Series → Rule → List Edit
sweeps total book (Before name time) = clears_if name (named book name) (λ series. slots_before series time)
sweeps total book (Last name count) = clears_if name (named book name) (λ series. length series.slots - count)
sweeps total book (Free pages) = frees total pages (values_of book) book

-- the clears of a rule that a step of at most so many makes: its first ones
abbrev pub sweeps_some : ℕ → List Series → Rule → ℕ → List Edit
sweeps_some total book rule most = take most (sweeps total book rule)

-- the rule names a series that the book hasn't
abbrev pub NamesNone : List Series → Rule → Type 0
NamesNone book (Before name time) = id_of name book ≡ None
NamesNone book (Last name count) = id_of name book ≡ None
NamesNone book (Free pages) = ⊥

-- the rule names the series of this name
abbrev pub Names : Rule → List ℕ → Type 0
Names (Before named time) name = named ≡ name
Names (Last named count) name = named ≡ name
Names (Free pages) name = ⊥

-- it names a series that the catalog hasn't
abbrev pub LacksNamed : List StoredSeries → Rule → Type 0
LacksNamed catalog rule = (name : List ℕ) × Names rule name × LacksName catalog name

-- how many first slots of a series are old by a rule that names it
abbrev pub old_slots : Rule → Series → ℕ
old_slots (Before name time) series = slots_before series time
old_slots (Last name count) series = length series.slots - count
old_slots (Free pages) series = 0
