-- Where the record of a series stands.
use Rattle.std.specs.Prelude.{ℕ, ◌+◌, ◌-◌, ◌*◌, ◌/◌, ◌%◌, min}

-- the page of the series with this id
unfoldable pub page_of : ℕ → ℕ
page_of id = 1 + id / 32

-- the number of its record there
unfoldable pub number_of : ℕ → ℕ
number_of id = id % 32

-- how many records of a page from 1 on are of series where there are so many
unfoldable pub records_of : ℕ → ℕ → ℕ
records_of page series = min 32 (series - 32 * (page - 1))
