-- What pages on a disk mean.
use Rattle.std.specs.Prelude.{ℕ, ◌≡◌, Bool, true, false, IsTrue, List, None, Some}
use Rattle.block_disk.specs.View.{Image, View, Now, Honest, Only, Passes}
use Rattle.gate_pages.specs.Batch.{Entry}
use Rattle.gate_pages.specs.Journal.{home, pages_of, page_count, is_open, directory}
use Rattle.gate_pages.specs.Pages.{Quiet, BeforeOrAfter}

-- the gate is open, and the directory breaks its layout
pub record IsBroken (count : ℕ) (image : Image) : Type 0 where
  pub gate : is_open (image 0) ≡ true
  pub layout : directory count (image 1) ≡ None

abbrev pub IsReadable : ℕ → Image → Type 0
IsReadable count image = IsBroken count image → ⊥

-- The pages of one of these images. Where its journal can't be read, they may be any.
pub record PagesOf (count : ℕ) (images : Image → Type 0) (pages : Image) : Type 0 where
  pub from : Image
  pub was : images from
  pub same : IsReadable count from → pages ≡ pages_of count from

-- so many pages on a disk
abbrev pub pages_view : ℕ → Bool → View → View
pages_view count sound disk = record {
  size = count;
  image = pages_of count disk.image;
  clock = disk.clock;
  crash = λ at pages. PagesOf count (disk.crash at) pages;
  sent_by = disk.sent_by;
  faults = disk.faults;
  reads = disk.reads;
  syncs = disk.syncs;
  writes = disk.writes;
  beside = disk.beside;
  fit = IsTrue sound;
}

-- each image that a crash now may leave has an open gate and a broken directory
abbrev pub IsBrokenNow : View → Type 0
IsBrokenNow disk = (image : Image) → Now disk image → IsBroken (page_count disk.size) image

-- reads tell what the disk holds, and its gate is closed
pub record HasClosedGate (disk : View) : Type 0 where
  pub honest : Honest disk
  pub gate : is_open (disk.image 0) ≡ false

-- nothing is pending, and the gate is closed
pub record IsClosed (disk : View) : Type 0 where
  pub only : Only disk.image (Now disk)
  pub gate : Honest disk → is_open (disk.image 0) ≡ false

-- The image stands for pages that one of the images stood for which a crash might leave before, and its journal
-- can be read where that one's could.
pub record StandsAsBefore (count : ℕ) (before : View) (image : Image) : Type 0 where
  pub from : Image
  pub was : Now before from
  pub same : pages_of count image ≡ pages_of count from
  pub readable : IsReadable count from → IsReadable count image

-- Time goes on from old to new, and no byte is sent. At each moment a crash leaves so many pages that it might have left before.
abbrev pub PassesStanding : ℕ → View → View → Type 0
PassesStanding count old new = Passes old new (StandsAsBefore count old) (Quiet old)

-- and they are all pages of the disk
abbrev pub PassesAsBefore : View → View → Type 0
PassesAsBefore old new = PassesStanding (page_count old.size) old new

-- the directory keeps its layout over so many pages, and these are the numbers in it
abbrev pub Lists : ℕ → List ℕ → View → Type 0
Lists count ns disk = directory count (disk.image 1) ≡ Some ns

-- the pages lie as they stood before
abbrev pub IsReplayed : ℕ → View → View → Type 0
IsReplayed count old new = home new.image ≡ pages_of count old.image

-- Time goes on from old to new, and no byte is sent. At each moment a crash leaves a journal that can be read, and the
-- pages from before or those with the batch in their places.
abbrev pub PassesWith : List Entry → ℕ → View → View → Type 0
PassesWith batch count old new = Passes old new (λ image. IsReadable count image
    × BeforeOrAfter batch (pages_of count old.image) (pages_of count image)) (Quiet old)
