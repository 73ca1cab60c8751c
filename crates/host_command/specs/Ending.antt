-- What is done over a store on a disk. Private contracts are stated by these words.
use Rattle.std.specs.Prelude.{ℕ, IfSome, ⊤}
use Rattle.block_disk.specs.Counts.{HasRisen}
use Rattle.block_disk.specs.View.{Honest, View}
use Rattle.gate_pages.specs.Pages.{GoesOn}
use Rattle.run_ends.specs.declared.ending.End.{End}
use Rattle.store_commands.specs.Traffic.{IsPast, Traffic, WasReadWithin}
use Rattle.run_ends.specs.Statuses.{block_of}
use Rattle.run_ends.specs.declared.ending.End.TheVariants.{Done, NoMemory, ReadFault, SendFault, DiskFault, DamagedPage, InputTooLong}
use Rattle.store_commands.specs.Damaged.{IsDamagedLater}
use Rattle.hosted_lines.specs.HostCauses.{IsBadForHost}
use Rattle.hosted_lines.specs.Input.{most_bytes}
use Rattle.host_command.specs.Ended.{DoesHost, LeavesHosted}

-- why the lines were answered so far, whatever the disk holds
abbrev pub IsServeCause : End → ℕ → View → View → Traffic → Type 0
IsServeCause Done count old new t = WasReadWithin most_bytes t.left t.left_now
IsServeCause NoMemory count old new t = ⊤
IsServeCause ReadFault count old new t = HasRisen t.reads t.reads_now
IsServeCause SendFault count old new t = HasRisen t.sends t.sends_now
IsServeCause DiskFault count old new t = HasRisen old.faults new.faults
IsServeCause (DamagedPage page) count old new t = IsDamagedLater IsBadForHost count new (block_of page)
IsServeCause InputTooLong count old new t = IsPast most_bytes t.left
IsServeCause end count old new t = ⊥

-- The lines of the input were answered over a disk, all of them or some first ones.
pub record Served (count : ℕ) (old new : View) (t : Traffic) (end : End) : Type 0 where
  pub cause : IsServeCause end count old new t
  pub does : DoesHost count old new t end
  pub crash : IfSome t.left (λ input. IfSome t.sent (λ bytes. LeavesHosted count input old new))
  -- reads give what a crash may leave, where they did
  pub honest : Honest old → Honest new
  pub goes_on : GoesOn old new
