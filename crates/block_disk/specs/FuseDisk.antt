-- What a disk means whose fuse has so many faults of its own.
use Rattle.std.specs.Prelude.{ℕ, ◌+◌}
use Rattle.block_disk.specs.View.{View}

abbrev pub fused : View → ℕ → View
fused inner faults = record {
  size = inner.size;
  image = inner.image;
  clock = inner.clock;
  crash = inner.crash;
  sent_by = inner.sent_by;
  faults = inner.faults + faults;
  reads = inner.reads;
  syncs = inner.syncs;
  writes = inner.writes;
  beside = inner.beside;
  fit = inner.fit;
}
