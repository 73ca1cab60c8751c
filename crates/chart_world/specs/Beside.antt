-- Streams beside a disk.
use Rattle.std.specs.Prelude.{ℕ, List, Option}
use Rattle.block_disk.specs.View.{View, Beside}

abbrev pub streams : Option (List ℕ) → Option (List ℕ) → ℕ → ℕ → ℕ → Beside
streams left sent read_faults send_faults pieces = record {
  left = left;
  sent = sent;
  read_faults = read_faults;
  send_faults = send_faults;
  pieces = pieces;
}

-- the disk, with these streams beside it
abbrev pub beside : View → Beside → View
beside disk others = record {
  size = disk.size;
  image = disk.image;
  clock = disk.clock;
  crash = disk.crash;
  sent_by = disk.sent_by;
  faults = disk.faults;
  reads = disk.reads;
  syncs = disk.syncs;
  writes = disk.writes;
  beside = others;
  fit = disk.fit;
}
