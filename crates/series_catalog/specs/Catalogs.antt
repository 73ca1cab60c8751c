-- The series that a catalog has.
use Rattle.std.specs.Prelude.{ℕ, ◌≡◌, List, slice_get, slice_set, position, Option, Some}
use Rattle.std.specs.Str.{bytes_eq}
use Rattle.block_disk.specs.View.{Image}
use Rattle.catalog_page.specs.Entries.{Entry, IsEntry}
use Rattle.stored_book.specs.Records.{entry}
use Rattle.tree_walk.specs.declared.tree.Tree.{Tree}
use Rattle.series_catalog.specs.declared.stored_series.StoredSeries.{StoredSeries}

-- what the record of the series says
abbrev pub entry_of : StoredSeries → Entry
entry_of series = record {
  name = series.name;
  scale = series.scale;
  step = series.step;
  start = series.start;
  slots = series.tree.slots;
  root = series.tree.root;
  span = series.tree.span;
}

-- what it says with this tree
abbrev pub entry_with : StoredSeries → Tree → Entry
entry_with series tree = entry_of (record series { tree = tree })

-- so of each first page that was never used with which a record is in range
abbrev pub ForEntry : Entry → (ℕ → Type 0) → Type 0
ForEntry e IsSo = (fresh : ℕ) → IsEntry fresh e → IsSo fresh

-- the place of the series of this name
unfoldable pub place_of : List ℕ → List StoredSeries → Option ℕ
place_of name series = position (λ one. bytes_eq one.name name) series

-- the same series with another tree
abbrev pub with_tree : List StoredSeries → ℕ → StoredSeries → Tree → List StoredSeries
with_tree series id one tree = slice_set series id (record one { tree = tree })

-- what each says is in range, where the first page that was never used is this one
abbrev pub AreFit : ℕ → List StoredSeries → Type 0
AreFit fresh series = (id : ℕ) (one : StoredSeries) → slice_get series id ≡ Some one → IsEntry fresh (entry_of one)

-- the records of the pages say the same
abbrev pub AreAsTold : Image → List StoredSeries → Type 0
AreAsTold image series = (id : ℕ) (one : StoredSeries) → slice_get series id ≡ Some one → entry image id ≡ entry_of one
