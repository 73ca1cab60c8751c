use Rattle.std.specs.Prelude.{◌≡◌, ◌≢◌, ℕ, ◌≤◌, false, List, length, map, All, AllPairs, unsigned_abs, IsTrue}
use Rattle.series_book.specs.declared.limits.TheConstants.{MOST_SLOTS, MOST_SERIES, GREATEST_START, GREATEST_STEP, GREATEST_SCALE}
use Rattle.whole_number.specs.SlotTimes.{EndsInTime}
use Rattle.series_book.specs.declared.one_series.Series.{Series}
use Rattle.series_book.specs.Names.{is_name}
use Rattle.series_book.specs.declared.edits.Edit.{Edit}
use Rattle.series_book.specs.declared.edits.Edit.TheVariants.{Create, Append, Set, Clear}
use Rattle.series_book.specs.Edits.{is_too_large}

-- a series whose fields and stored values are in range
pub record IsSeries (series : Series) : Type 0 where
  pub named : IsTrue (is_name series.name)
  pub start_in_range : unsigned_abs series.start ≤ GREATEST_START
  pub step_above_zero : 1 ≤ series.step
  pub step_in_range : series.step ≤ GREATEST_STEP
  pub scale_in_range : series.scale ≤ GREATEST_SCALE
  pub slots_in_range : length series.slots ≤ MOST_SLOTS
  pub last_in_range : EndsInTime series.start series.step (length series.slots)
  pub values_in_range : All (λ value. is_too_large value ≡ false) series.slots

-- a book: at most 512 series, each in range, and no two of one name
pub record IsBook (book : List Series) : Type 0 where
  pub few : length book ≤ MOST_SERIES
  pub all_in_range : All IsSeries book
  pub distinct : AllPairs (λ one other. one ≢ other) (map (λ series. series.name) book)

-- a book, and the number of pages that it may take
pub record LimitedBook : Type 0 where
  pub book : List Series
  pub total : ℕ

-- the name of a new series is one that a series may have
abbrev pub IsNamed : Edit → Type 0
IsNamed (Create name start step scale) = IsTrue (is_name name)
IsNamed (Append name values) = Unit {0}
IsNamed (Set name time values) = Unit {0}
IsNamed (Clear name time count) = Unit {0}
