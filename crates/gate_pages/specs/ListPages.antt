-- What pages in memory mean. A crash leaves none of them.
use Rattle.std.specs.Prelude.{ℕ, List}
use Rattle.block_disk.specs.View.{View}
use Rattle.block_disk.specs.MemDisk.{blocks_of, alone}

abbrev pub list_view : ℕ → List ℕ → View
list_view count bytes = record {
  size = count;
  image = blocks_of bytes;
  clock = 0;
  crash = λ at pages. ⊥;
  sent_by = λ at. 0;
  faults = 0;
  reads = 0;
  syncs = 0;
  writes = 0;
  beside = alone;
  fit = Unit {0};
}
