-- What comes of an opening.
use Rattle.std.specs.Prelude.{◌≡◌, ◌≤◌, ◌<◌, Result, Ok, Err}
use Rattle.block_disk.specs.Counts.{HasRisen}
use Rattle.block_disk.specs.View.{Image, View, Now, Honest, Moves, Nowhere}
use Rattle.block_disk.specs.declared.disk.Disk.{Ghosts}
use Rattle.block_disk.specs.declared.back.Back.{Back}
use Rattle.gate_pages.specs.Journal.{page_count}
use Rattle.gate_pages.specs.GatePages.{IsBroken}
use Rattle.gate_pages.specs.declared.errors.OpenCause.{OpenCause}
use Rattle.gate_pages.specs.declared.errors.OpenCause.TheVariants.{DiskFault, TooSmall, BadDirectory, NoMemory}
use Rattle.gate_pages.specs.declared.gate_pages.GatePages.{GatePages}

-- the disk, within pages or handed back
abbrev pub disk_in : {D : Type 0} {disk : Ghosts D} → Result (GatePages D disk) (Back D OpenCause) → D
disk_in (Ok pages) = pages.disk
disk_in (Err back) = back.value

-- when each cause comes
abbrev pub Explains : OpenCause → View → View → Type 0
Explains DiskFault old new = HasRisen old.faults new.faults
Explains (TooSmall size) old new = (size ≡ old.size) × (size < 128)
Explains BadDirectory old new = (128 ≤ old.size) × (Honest old → IsBroken (page_count old.size) old.image)
Explains NoMemory old new = Unit {0}

-- what is left where nothing was written: each image that a crash may leave has a broken directory
pub record LeftBroken (old new : View) : Type 0 where
  pub moves : Moves Nowhere 2 1 0 old new
  pub broken : (image : Image) → Now new image → IsBroken (page_count old.size) image

-- what each cause leaves
abbrev pub Leaves : OpenCause → View → View → Type 0
Leaves DiskFault old new = Unit {0}
Leaves (TooSmall size) old new = Moves Nowhere 0 0 0 old new
Leaves BadDirectory old new = LeftBroken old new
Leaves NoMemory old new = Unit {0}
