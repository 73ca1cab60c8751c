-- Why a host's run over lines ended before their end, whatever the pages are.
use Rattle.std.specs.Prelude.{ℕ, ◌<◌, ◌⊎◌, List, ⊤}
use Rattle.block_disk.specs.Counts.{HasRisen}
use Rattle.block_disk.specs.View.{Image}
use Rattle.run_ends.specs.declared.ending.End.{End}
use Rattle.run_ends.specs.declared.ending.End.TheVariants.{NoMemory, ReadFault, SendFault, DiskFault, DamagedPage, InputTooLong}
use Rattle.stored_book.specs.Damage.{IsBadForRequest}
use Rattle.store_commands.specs.Exported.{IsBadForExport}
use Rattle.hosted_lines.specs.Doing.{Side}

-- the page is damaged for a request, or one of the tree of some series that is bad for its place
abbrev pub IsBadForHost : ℕ → Image → ℕ → Type 0
IsBadForHost count image page = IsBadForRequest count image page ⊎ ((name : List ℕ) × IsBadForExport name count image page)

-- A page that is called damaged is one of so many, and is so where reads give what the pages are.
abbrev pub IsHostCause : End → Side → Side → Type 0
IsHostCause NoMemory old new = ⊤
IsHostCause ReadFault old new = HasRisen old.read_faults new.read_faults
IsHostCause SendFault old new = HasRisen old.send_faults new.send_faults
IsHostCause DiskFault old new = HasRisen old.view.faults new.view.faults
IsHostCause (DamagedPage page) old new = (page < new.view.size) × (new.told → IsBadForHost new.view.size new.view.image page)
IsHostCause InputTooLong old new = ⊤
IsHostCause end old new = ⊥
