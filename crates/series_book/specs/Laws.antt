-- Laws of books.
use Rattle.std.specs.Prelude.{◌≡◌, ◌≤◌, ℕ, ℤ, Some, List, Option, All, false, length, slice_get}
use Rattle.series_book.specs.declared.limits.TheConstants.{MOST_SLOTS}
use Rattle.whole_number.specs.SlotTimes.{EndsInTime}
use Rattle.series_book.specs.declared.one_series.Series.{Series}
use Rattle.series_book.specs.Books.{IsBook}
use Rattle.series_book.specs.Edits.{is_too_large, with_slots}

-- A book with other slots of one series, not too many, in time and in range, is a book.
abbrev pub OtherSlotsKeepBooks : Type 0
OtherSlotsKeepBooks =
    (book : List Series) (id : ℕ) (series : Series) (slots : List (Option ℤ))
    → IsBook book → slice_get book id ≡ Some series → length slots ≤ MOST_SLOTS → EndsInTime series.start series.step (length slots)
    → All (λ value. is_too_large value ≡ false) slots → IsBook (with_slots book id series slots)
