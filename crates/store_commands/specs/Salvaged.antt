-- What an export sends of a series that a store holds, whatever else is damaged.
use Rattle.std.specs.Prelude.{ℕ, ◌≡◌, ◌+◌, ◌<◌, ◌≤◌, List, Option, Some, slice_get, ⊤}
use Rattle.block_disk.specs.Streams.{sent_after}
use Rattle.block_disk.specs.View.{Honest, Image, View}
use Rattle.disk_store.specs.Held.{HoldsBook}
use Rattle.run_ends.specs.declared.ending.End.{End}
use Rattle.run_ends.specs.declared.ending.End.TheVariants.{Done, DamagedPage, UnknownSeries}
use Rattle.page_space.specs.declared.superblock.Superblock.{Superblock}
use Rattle.series_book.specs.declared.one_series.Series.{Series}
use Rattle.series_export.specs.Cuts.{ExportsBefore}
use Rattle.series_export.specs.Exports.{export_text, window_pages}
use Rattle.series_export.specs.declared.window.Window.{Window}
use Rattle.series_store.specs.WhereFit.{HoldsWhereFit}
use Rattle.stored_book.specs.Damage.{SaysNumbers}
use Rattle.stored_book.specs.OneSeries.{HoldsSeries}
use Rattle.stored_book.specs.Records.{entry}
use Rattle.stored_book.specs.Standing.{book_pages}
use Rattle.store_commands.specs.Books.{SendsPartOf}

-- page 0 of the pages for which the disk stands, in version 2, keeps its layout, and by its numbers they hold this series
abbrev pub HasSeries : ℕ → View → List ℕ → Series → Type 0
HasSeries count disk name series = SaysNumbers count (book_pages count disk.image)
    (λ s. HoldsSeries (book_pages count disk.image) s name series)

-- the same where the pages of its tree fit their places: others may be damaged
abbrev pub HasWhereFit : ℕ → View → List ℕ → Series → Type 0
HasWhereFit count disk name series = SaysNumbers count (book_pages count disk.image)
    (λ s. HoldsWhereFit (book_pages count disk.image) s name series)

-- this is so of each series that they hold under this name, where reads give what a crash may leave
abbrev pub OfHeldSeries : ℕ → View → List ℕ → (Series → Type 0) → Type 0
OfHeldSeries count disk name IsSo = (series : Series) → Honest disk → HasSeries count disk name series → IsSo series

-- and of each that they hold where pages fit
abbrev pub OfFitSeries : ℕ → View → List ℕ → (Series → Type 0) → Type 0
OfFitSeries count disk name IsSo = (series : Series) → Honest disk → HasWhereFit count disk name series → IsSo series

-- the series is known, and no page is called damaged as it is read
abbrev pub IsSalvageEnd : End → Type 0
IsSalvageEnd (DamagedPage page) = ⊥
IsSalvageEnd UnknownSeries = ⊥
IsSalvageEnd end = ⊤

-- with 0 the text of the series was sent, in the window if there is one; with any other end a front of it
pub record SendsHeld (series : Series) (window : Option Window) (before now : Option (List ℕ)) (end : End) : Type 0 where
  pub all : end ≡ Done → now ≡ sent_after (export_text series window) before
  pub part : SendsPartOf (export_text series window) before now

-- a record of this name names a tree of which this page is unfit for its place, and the series' export before the slots of the
-- page's range was sent, all of it and no more
pub record SendsBefore (image : Image) (s : Superblock) (name : List ℕ) (page : ℕ) (series : Series) (window : Option Window)
    (before now : Option (List ℕ)) : Type 0 where
  pub id : ℕ
  pub there : id < s.series
  pub named : (entry image id).name ≡ name
  pub sends : ExportsBefore image s.total id page series window before now

-- so it is by the numbers of page 0 where the export ended at a damaged page
abbrev pub IsCutEnd : End → ℕ → Image → List ℕ → Series → Option Window → Option (List ℕ) → Option (List ℕ) → Type 0
IsCutEnd (DamagedPage page) count image name series window before now = SaysNumbers count image
    (λ s. SendsBefore image s name page series window before now)
IsCutEnd end count image name series window before now = ⊤

-- What an export does over a store of which something is damaged. Of a series that the pages hold where those of its tree fit,
-- whatever else they are, so much is sent; and of one whose whole tree stands no page is called damaged.
pub record Salvages (name : List ℕ) (window : Option Window) (count : ℕ) (disk : View) (before now : Option (List ℕ))
    (end : End) : Type 0 where
  pub sends : OfFitSeries count disk name (λ series. SendsHeld series window before now end)
  pub cut : OfFitSeries count disk name (λ series. IsCutEnd end count (book_pages count disk.image) name series window before now)
  pub sound : OfHeldSeries count disk name (λ series. IsSalvageEnd end)

-- and at most the blocks were read that an opening reads, and once each page of its tree in whose range a slot holds a value
-- and a time may be in the window
abbrev pub ReadsHeld : List ℕ → Option Window → ℕ → View → View → Type 0
ReadsHeld name window count old new = OfFitSeries count old name (λ series. new.reads ≤ old.reads + 200 + window_pages series window)

-- a series that a disk has it has where pages fit
abbrev pub HeldSeriesAreFit : View → Type 0
HeldSeriesAreFit disk = (count : ℕ) (name : List ℕ) (series : Series) → HasSeries count disk name series
    → HasWhereFit count disk name series

-- a disk that holds a book has each of its series
abbrev pub BooksHaveTheirSeries : View → Type 0
BooksHaveTheirSeries disk =
    (count total : ℕ) (book : List Series) (id : ℕ) (series : Series)
    → HoldsBook count total book disk → slice_get book id ≡ Some series → HasSeries count disk series.name series
