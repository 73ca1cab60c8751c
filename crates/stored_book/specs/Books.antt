-- The book that pages tell. Where they stand for a book, it is that one.
use Rattle.std.specs.Prelude.{ℕ, ℤ, List, map, Option, None, Some}
use Rattle.std.specs.List.{range_with_len}
use Rattle.block_disk.specs.View.{Image}
use Rattle.om3_coeff.specs.declared.span.Span.{Span}
use Rattle.om3_coeff.specs.Keys.{height}
use Rattle.om3_coeff.specs.Known.{known}
use Rattle.node_page.specs.Fields.{number_at}
use Rattle.series_book.specs.declared.one_series.Series.{Series}
use Rattle.catalog_page.specs.Entries.{Entry}
use Rattle.tree_walk.specs.declared.tree.Tree.{Tree}
use Rattle.tree_walk.specs.Paths.{told_by_pages}
use Rattle.stored_book.specs.Records.{entry, tree_of}

-- the value of a slot of which this is known
abbrev pub value_known : Option (Option Span) → Option ℤ
value_known None = None
value_known (Some None) = None
value_known (Some (Some span)) = Some span.min

-- the value that pages and a tree tell of a slot
abbrev pub value_told : Image → Tree → ℕ → Option ℤ
value_told image tree slot = value_known (known tree.span (told_by_pages image tree) (height tree.slots)
    (record { level = 0; index = slot }))

-- the slots that they tell
unfoldable pub slots_told : Image → Tree → List (Option ℤ)
slots_told image tree = map (value_told image tree) (range_with_len 0 tree.slots)

-- the series that a record and its tree tell
abbrev pub series_told : Image → Entry → Series
series_told image e = record { name = e.name; start = e.start; step = e.step; scale = e.scale; slots = slots_told image (tree_of e) }

-- the series that page 0 counts, by their records and their trees
unfoldable pub book_of : Image → List Series
book_of image = map (λ id. series_told image (entry image id)) (range_with_len 0 (number_at (image 0) 4 24))
