-- That a disk can be as the laws on runs ask for it.
use Rattle.std.specs.Prelude.{◌≡◌, ℕ, ◌≤◌, []}
use Rattle.block_disk.specs.View.{Image, View, Honest, Now, Only}
use Rattle.block_disk.specs.MemDisk.{alone, mem_view}
use Rattle.block_disk.specs.declared.mem_disk.MemDisk.{MemDisk}
use Rattle.gate_pages.specs.Journal.{page_count}
use Rattle.stored_book.specs.Standing.{RecoversTo}

-- a disk of so many blocks at rest: reads give the image, and a crash leaves it
abbrev pub at_rest : ℕ → Image → View
at_rest size image = record {
  size = size;
  image = image;
  clock = 0;
  crash = λ at left. left ≡ image;
  sent_by = λ at. 0;
  faults = 0;
  reads = 0;
  syncs = 0;
  writes = 0;
  beside = alone;
  fit = Unit {0};
}

-- a disk of so many blocks has the book without a series, and nothing is pending
pub record CanHoldNone (size : ℕ) : Type 0 where
  pub image : Image
  pub honest : Honest (at_rest size image)
  pub only : Only image (Now (at_rest size image))
  pub recovers : RecoversTo (page_count size) image (page_count size) []

abbrev pub StoresCanBe : Type 0
StoresCanBe = (size : ℕ) → 128 ≤ size → CanHoldNone size

-- what reads give of a disk in memory, a crash now may leave
abbrev pub DisksInMemoryAreHonest : Type 0
DisksInMemoryAreHonest = (disk : MemDisk) → Honest (mem_view disk)
