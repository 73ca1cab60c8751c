-- What comes of the making of a store.
use Rattle.std.specs.Prelude.{◌≡◌, ◌≤◌, ◌<◌, Result, Ok, Err}
use Rattle.block_disk.specs.Counts.{HasRisen}
use Rattle.block_disk.specs.View.{View, Honest}
use Rattle.block_disk.specs.declared.back.Back.{Back}
use Rattle.block_disk.specs.declared.disk.Disk.{Ghosts}
use Rattle.gate_pages.specs.declared.gate_pages.GatePages.{GatePages}
use Rattle.gate_pages.specs.Journal.{page_count}
use Rattle.gate_pages.specs.Shown as shown
use Rattle.page_space.specs.Layout.{HasMagic}
use Rattle.store_upgrade.specs.Upgraded.{current}
use Rattle.empty_store.specs.Stores.{HasStore}
use Rattle.empty_store.specs.declared.errors.InitCause.{InitCause}
use Rattle.empty_store.specs.declared.errors.InitCause.TheVariants.{TooSmall, IsStore, DiskFault, NoMemory}

-- the disk or the pages, given or handed back
abbrev pub given : {T : Type 0} → Result T (Back T InitCause) → T
given (Ok value) = value
given (Err back) = back.value

-- the disk of pages, given or handed back
abbrev pub lowered : {D : Type 0} {disk : Ghosts D} → Result (GatePages D disk) (Back (GatePages D disk) InitCause)
    → Result D (Back D InitCause)
lowered (Ok pages) = Ok (shown.disk pages)
lowered (Err back) = Err (record { value = shown.disk back.value; cause = back.cause })

-- when each cause comes
abbrev pub Prevents : InitCause → View → View → Type 0
Prevents (TooSmall size) old new = (size ≡ old.size) × (size < 128)
Prevents IsStore old new = (128 ≤ old.size) × (Honest old → HasStore (page_count old.size) old.image)
Prevents DiskFault old new = HasRisen old.faults new.faults
Prevents NoMemory old new = Unit {0}

-- the same for pages, where reads may give what they are
abbrev pub PreventsPages : InitCause → Type 0 → View → View → Type 0
PreventsPages (TooSmall size) told old new = ⊥
PreventsPages IsStore told old new = told → HasMagic (current old.image 0)
PreventsPages DiskFault told old new = HasRisen old.faults new.faults
PreventsPages NoMemory told old new = Unit {0}
