-- The book that the disk of a command holds, the one that the command leaves, and what a crash leaves meanwhile.
use Rattle.std.specs.Prelude.{ℕ, ◌≡◌, ◌≤◌, List, [], length, take, Option}
use Rattle.block_disk.specs.Streams.{sent_after}
use Rattle.block_disk.specs.View.{Image, View, Honest, Now}
use Rattle.gate_pages.specs.GatePages.{IsReadable}
use Rattle.gate_pages.specs.Journal.{pages_of}
use Rattle.series_book.specs.declared.one_series.Series.{Series}
use Rattle.disk_store.specs.Held.{HoldsBook}
use Rattle.stored_book.specs.Standing.{KeepsOldStore, StandsForBook, book_pages, RecoversTo}
use Rattle.chart_service.specs.Moments.{Since}
use Rattle.chart_service.specs.State.{State}

-- how a command begins: with the book that the disk holds, and no session
abbrev pub begun : ℕ → List Series → State
begun total book = record { book = book; total = total; sessions = [] }

-- this is so of the book that the disk holds
abbrev pub OfBook : ℕ → View → (ℕ → List Series → Type 0) → Type 0
OfBook count disk IsSo = (total : ℕ) (book : List Series) → HoldsBook count total book disk → IsSo total book

-- this is so where its pages stand for a book
abbrev pub OfPages : ℕ → View → (ℕ → List Series → Type 0) → Type 0
OfPages count disk IsSo = (total : ℕ) (book : List Series) → Honest disk → StandsForBook (pages_of count disk.image) total book
    → IsSo total book

-- the pages stand for the book, or the disk holds it
abbrev pub Stands : ℕ → Image → List Series → Type 0
Stands total image book = StandsForBook image total book

abbrev pub Holds : ℕ → ℕ → View → List Series → Type 0
Holds count total disk book = HoldsBook count total book disk

-- From the book that the disk held this was done, and the disk holds the book that it left.
abbrev pub FromBook : ℕ → View → View → (State → State → Type 0) → Type 0
FromBook count old new Done =
    OfBook count old (λ total book. (state : State) × Done (begun total book) state × HoldsBook count total state.book new)

-- where the disk held a book, it holds one again
abbrev pub HoldsAgain : ℕ → View → View → Type 0
HoldsAgain count old new = OfBook count old (λ total book. (next : List Series) × HoldsBook count total next new)

-- this doesn't come where the disk holds a book
abbrev pub Never : ℕ → View → Type 0
Never count disk = OfBook count disk (λ total book. ⊥)

-- at each moment a crash leaves the book
abbrev pub LeavesSame : ℕ → View → View → Type 0
LeavesSame count old new = OfBook count old (λ total book. Since old new (λ image sent. RecoversTo count image total book))

-- the first bytes of a text were sent
pub record SendsPartOf (text : List ℕ) (before now : Option (List ℕ)) : Type 0 where
  pub count : ℕ
  pub within : count ≤ length text
  pub sent : now ≡ sent_after (take count text) before

-- The image can be read, and this is so of its pages.
pub record IsOn (count total : ℕ) (IsSo : Image → Type 0) (image : Image) : Type 0 where
  pub readable : IsReadable count image
  pub within : total ≤ count
  pub so : IsSo (pages_of count image)

-- The same of the pages in version 2; where they are of version 1, they keep its rules.
pub record IsOnBook (count total : ℕ) (IsSo : Image → Type 0) (image : Image) : Type 0 where
  pub readable : IsReadable count image
  pub within : total ≤ count
  pub old : KeepsOldStore count image
  pub so : IsSo (book_pages count image)

-- Every image that a crash now may leave has the same pages, and this is so of them.
pub record HoldsPages (count total : ℕ) (IsSo : Image → Type 0) (disk : View) : Type 0 where
  pub honest : Honest disk
  pub on : IsOn count total IsSo disk.image
  pub images : (image : Image) → Now disk image → IsReadable count image × (pages_of count image ≡ pages_of count disk.image)
