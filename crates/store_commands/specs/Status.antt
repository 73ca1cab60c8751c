-- How a run ends whose store isn't opened, and the failed call that a code tells of.
use Rattle.std.specs.Prelude.{ℕ, ◌==◌, if◌then◌else◌, Option, None, Some}
use Rattle.chart_world.specs.Faults.{Fault, OfDisk, OfTake, OfSend}
use Rattle.disk_store.specs.declared.causes.OpeningCause.{OpeningCause}
use Rattle.disk_store.specs.declared.causes.OpeningCause.TheVariants as opening
use Rattle.run_ends.specs.Statuses.{status_of}
use Rattle.run_ends.specs.declared.ending.End.{End}
use Rattle.run_ends.specs.declared.ending.End.TheVariants as ends
use Rattle.run_ends.specs.declared.status.Status.{Status}

-- the end where a store wasn't opened
abbrev pub opening_end : OpeningCause → End
opening_end (opening.TooSmall size) = ends.TooSmall size
opening_end (opening.Damaged block) = ends.DamagedBlock block
opening_end opening.DiskFault = ends.DiskFault
opening_end opening.NoMemory = ends.NoMemory

-- and its status
abbrev pub opening_status : OpeningCause → Status
opening_status cause = status_of (opening_end cause)

-- the failed call that a code tells of: a take, a send, one of the disk, or none
abbrev pub code_fault : ℕ → Option Fault
code_fault code = if code == 4 then Some OfTake else if code == 5 then Some OfSend else if code == 6 then Some OfDisk else None
