-- What the records of a catalog say of a name, whatever else the disk holds.
use Rattle.std.specs.Prelude.{◌≡◌, ℕ, ◌<◌, List}
use Rattle.block_disk.specs.View.{Image, View, Honest}
use Rattle.page_space.specs.declared.superblock.Superblock.{Superblock}
use Rattle.series_store.specs.Counting.{HasBadTree}
use Rattle.stored_book.specs.Damage.{SaysNumbers}
use Rattle.stored_book.specs.Records.{entry}
use Rattle.stored_book.specs.Standing.{book_pages}

-- page 0 keeps its layout, and no record that it counts has this name
abbrev pub HasNoRecord : ℕ → Image → List ℕ → Type 0
HasNoRecord count image name = SaysNumbers count image (λ s. (id : ℕ) → id < s.series → (entry image id).name ≡ name → ⊥)

-- so are the pages for which the disk stands, in version 2, where reads give what a crash may leave
abbrev pub LacksRecord : ℕ → View → List ℕ → Type 0
LacksRecord count disk name = Honest disk → HasNoRecord count (book_pages count disk.image) name

-- a record that page 0 counts has this name, and this is its scale
pub record HasScale (image : Image) (s : Superblock) (name : List ℕ) (scale : ℕ) : Type 0 where
  pub id : ℕ
  pub there : id < s.series
  pub named : (entry image id).name ≡ name
  pub scale_is : (entry image id).scale ≡ scale

-- so it is of the pages for which the disk stands, in version 2, where reads give what a crash may leave
abbrev pub TellsScale : ℕ → View → List ℕ → ℕ → Type 0
TellsScale count disk name scale =
    Honest disk → SaysNumbers count (book_pages count disk.image) (λ s. HasScale (book_pages count disk.image) s name scale)

-- the page is a bad one of the tree that the record of this name names
pub record HasBadTreeOf (image : Image) (s : Superblock) (name : List ℕ) (at : ℕ) : Type 0 where
  pub bad : HasBadTree image s at
  pub named : (entry image bad.id).name ≡ name
