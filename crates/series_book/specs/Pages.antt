use Rattle.std.specs.Prelude.{ℕ, zero, suc, ℤ, ◌+◌, ◌^◌, Bool, nat_le, if◌then◌else◌, List, length, sum_by, Option, is_some}
use Rattle.std.specs.List.{list_any}
use Rattle.std.specs.Fork.{slice_chunk}
use Rattle.series_book.specs.declared.limits.TheConstants.{PAGE_SLOTS, FIXED_PAGES}
use Rattle.series_book.specs.declared.one_series.Series.{Series}

-- how many of the numbers below n pass
unfoldable pub count_below : (ℕ → Bool) → ℕ → ℕ
count_below passes zero = 0
count_below passes (suc n) = count_below passes n + (if passes n then 1 else 0)

-- a slot of the range q of this many slots holds a stored value
unfoldable pub range_has_value : ℕ → List (Option ℤ) → ℕ → Bool
range_has_value size slots q = list_any is_some (slice_chunk slots size q)

-- how many aligned ranges of this many slots hold a stored value
unfoldable pub ranges_with_value : ℕ → List (Option ℤ) → ℕ
ranges_with_value size slots = count_below (range_has_value size slots) (length slots)

-- the ranges with a stored value on the page levels 1 to k
unfoldable pub level_pages : ℕ → List (Option ℤ) → ℕ
level_pages zero slots = 0
level_pages (suc k) slots = level_pages k slots + ranges_with_value (PAGE_SLOTS ^ suc k) slots

-- the first level from j on whose pages cover n slots in one page, of this many levels that are tried
unfoldable pub first_covering : ℕ → ℕ → ℕ → ℕ
first_covering zero j n = j
first_covering (suc tries) j n = if nat_le n (PAGE_SLOTS ^ j) then j else first_covering tries (j + 1) n

-- the number of page levels of a series of n slots: the least k of at least 1 with 128^k >= n
unfoldable pub page_levels : ℕ → ℕ
page_levels n = first_covering n 1 n

-- the pages of a series
unfoldable pub series_pages : List (Option ℤ) → ℕ
series_pages slots = level_pages (page_levels (length slots)) slots

-- the pages of a book
unfoldable pub pages_of : List Series → ℕ
pages_of book = FIXED_PAGES + sum_by (λ series. series_pages series.slots) book
