-- The records of a page of the catalog, and the fields of a record of 96 bytes.
use Rattle.std.specs.Prelude.{ℕ, ℤ, ◌+◌, ◌*◌, List, take, drop, slice_index}
use Rattle.node_page.specs.Fields.{number_at, signed_at}

-- the bytes of record i of a page, 0 to 31
unfoldable pub record_bytes : List ℕ → ℕ → List ℕ
record_bytes page i = take 96 (drop (8 + 96 * i) page)

-- The fields of a record.

-- 1 in a record of a series
abbrev pub used_at : List ℕ → ℕ
used_at bytes = slice_index bytes 0

-- how many bytes the name has
abbrev pub length_at : List ℕ → ℕ
length_at bytes = slice_index bytes 1

abbrev pub scale_at : List ℕ → ℕ
scale_at bytes = slice_index bytes 2

abbrev pub name_at : List ℕ → List ℕ
name_at bytes = take (length_at bytes) (drop 4 bytes)

abbrev pub step_at : List ℕ → ℕ
step_at bytes = number_at bytes 4 36

abbrev pub start_at : List ℕ → ℤ
start_at bytes = signed_at bytes 40

abbrev pub slots_at : List ℕ → ℕ
slots_at bytes = number_at bytes 8 48

-- the page of the root, 0 where nothing is stored
abbrev pub root_at : List ℕ → ℕ
root_at bytes = number_at bytes 4 56

-- the least and the greatest stored value, 0 without a root
abbrev pub min_at : List ℕ → ℤ
min_at bytes = signed_at bytes 64

abbrev pub max_at : List ℕ → ℤ
max_at bytes = signed_at bytes 72

-- the page levels of the slots
abbrev pub levels_at : List ℕ → ℕ
levels_at bytes = slice_index bytes 80
