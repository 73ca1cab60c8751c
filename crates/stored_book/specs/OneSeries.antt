-- One series that pages hold, whatever else they are.
use Rattle.std.specs.Prelude.{ℕ, ◌≡◌, ◌<◌, List, Some, slice_get}
use Rattle.block_disk.specs.View.{Image}
use Rattle.catalog_page.specs.Entries.{Entry}
use Rattle.page_space.specs.declared.superblock.Superblock.{Superblock}
use Rattle.series_book.specs.declared.one_series.Series.{Series}
use Rattle.stored_book.specs.Records.{entry}
use Rattle.stored_book.specs.Standing.{IsKept, IsStore}

-- of the records that page 0 counts one has this name, and this is so of it
pub record HasOneRecord (image : Image) (s : Superblock) (name : List ℕ) (IsSo : Entry → Type 0) : Type 0 where
  pub id : ℕ
  pub there : id < s.series
  pub named : (entry image id).name ≡ name
  pub alone : (other : ℕ) → other < s.series → (entry image other).name ≡ name → other ≡ id
  pub so : IsSo (entry image id)

-- the record says what the series is, and the tree that it names stands for the series' slots
abbrev pub HoldsSeries : Image → Superblock → List ℕ → Series → Type 0
HoldsSeries image s name series = HasOneRecord image s name (IsKept image s.total series)

-- Pages that stand for a book hold each of its series.
abbrev pub BooksHoldTheirSeries : Type 0
BooksHoldTheirSeries =
    (image : Image) (s : Superblock) (book : List Series) (id : ℕ) (series : Series)
    → IsStore image s book → slice_get book id ≡ Some series → HoldsSeries image s series.name series

-- Pages hold one series of a name at most.
abbrev pub NamesHaveOneSeries : Type 0
NamesHaveOneSeries =
    (image : Image) (s : Superblock) (name : List ℕ) (series other : Series)
    → HoldsSeries image s name series → HoldsSeries image s name other → other ≡ series
