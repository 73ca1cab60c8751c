-- What a disk means that tells no content.
use Rattle.std.specs.Prelude.{ℕ, []}
use Rattle.block_disk.specs.View.{View}
use Rattle.block_disk.specs.MemDisk.{alone}

abbrev pub untold : ℕ → ℕ → ℕ → ℕ → ℕ → View
untold size faults reads syncs writes = record {
  size = size;
  image = λ number. [];
  clock = 0;
  crash = λ at image. ⊥;
  sent_by = λ at. 0;
  faults = faults;
  reads = reads;
  syncs = syncs;
  writes = writes;
  beside = alone;
  fit = Unit {0};
}
