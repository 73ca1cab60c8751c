-- What a disk in memory means: its past is told by the record of its calls.
use Rattle.std.specs.Prelude.{ℕ, ◌+◌, ◌*◌, ◌++◌, ◌==◌, ◌≡◌, ◌⊎◌, if◌then◌else◌, List, [], ◌∷◌, Some, length, take, drop}
use Rattle.block_disk.specs.Blocks.{block_size}
use Rattle.block_disk.specs.View.{Image, View, Beside}
use Rattle.block_disk.specs.declared.mem_disk.MemDisk.{MemDisk}
use Rattle.block_disk.specs.declared.mem_disk.Call.{Call}
use Rattle.block_disk.specs.declared.mem_disk.Call.TheVariants.{Wrote, Synced, Asked}

-- the blocks that lie in these bytes one after another
abbrev pub blocks_of : List ℕ → Image
blocks_of bytes number = take block_size (drop (block_size * number) bytes)

-- these bytes with others in place of those from there on
unfoldable pub replaced : List ℕ → ℕ → List ℕ → List ℕ
replaced bytes start from = take start bytes ++ (from ++ drop (start + length from) bytes)

-- an image with another block in one place
abbrev pub put : ℕ → List ℕ → Image → Image
put one block image number = if number == one then block else image number

-- what was there before a call
abbrev pub before : Call → Image → Image
before (Wrote number block) image = put number block.items image
before Synced image = image
before Asked image = image

-- what was there before some calls in a row
abbrev pub before_all : List Call → Image → Image
before_all [] image = image
before_all (call ∷ calls) image = before call (before_all calls image)

-- no sync is among the calls
abbrev pub HasNoSync : List Call → Type 0
HasNoSync [] = Unit {0}
HasNoSync (Wrote number block ∷ calls) = HasNoSync calls
HasNoSync (Synced ∷ calls) = ⊥
HasNoSync (Asked ∷ calls) = HasNoSync calls

-- a block is pending that was written with no sync after it
abbrev pub IsPending : List Call → ℕ → Type 0
IsPending [] number = ⊥
IsPending (Wrote one block ∷ calls) number = ((number ≡ one) × HasNoSync calls) ⊎ IsPending calls number
IsPending (Synced ∷ calls) number = IsPending calls number
IsPending (Asked ∷ calls) number = IsPending calls number

-- a crash leaves each block that isn't pending; in a pending one any bytes may stand
abbrev pub MayBeLeft : List Call → Image → Image → Type 0
MayBeLeft calls image left = (number : ℕ) → (IsPending calls number → ⊥) → left number ≡ image number

-- nothing stands beside a disk alone
abbrev pub alone : Beside
alone = record { left = Some []; sent = Some []; read_faults = 0; send_faults = 0; pieces = 0 }

-- a disk of so many blocks in these bytes, after these calls; each call is a moment
abbrev pub view_of : ℕ → List Call → List ℕ → ℕ → ℕ → ℕ → ℕ → View
view_of size calls bytes faults reads syncs writes = record {
  size = size;
  image = blocks_of bytes;
  clock = length calls;
  crash = λ at left. MayBeLeft (take at calls) (before_all (drop at calls) (blocks_of bytes)) left;
  sent_by = λ at. 0;
  faults = faults;
  reads = reads;
  syncs = syncs;
  writes = writes;
  beside = alone;
  fit = Unit {0};
}

abbrev pub mem_view : MemDisk → View
mem_view disk = view_of disk.blocks disk.record.items disk.bytes.items disk.faults disk.reads disk.syncs disk.writes
