-- How a command ends whose store isn't opened.
use Rattle.std.specs.Prelude.{◌≡◌, ◌<◌, ⊤}
use Rattle.block_disk.specs.Counts.{HasRisen}
use Rattle.block_disk.specs.View.{View}
use Rattle.gate_pages.specs.Journal.{page_count}
use Rattle.run_ends.specs.declared.ending.End.{End}
use Rattle.run_ends.specs.declared.ending.End.TheVariants.{NoMemory, DiskFault, DamagedBlock, TooSmall}
use Rattle.store_commands.specs.Books.{Never}
use Rattle.store_commands.specs.Damaged.{IsDamagedAtFirst}

-- There is no memory, a call of the disk fails, a block is damaged, which never comes where the disk holds a book, or the disk is
-- too small.
abbrev pub IsUnopenedEnd : End → View → View → Type 0
IsUnopenedEnd NoMemory old new = ⊤
IsUnopenedEnd DiskFault old new = HasRisen old.faults new.faults
IsUnopenedEnd (DamagedBlock block) old new = IsDamagedAtFirst old block × Never (page_count old.size) old
IsUnopenedEnd (TooSmall blocks) old new = (blocks ≡ old.size) × (old.size < 128)
IsUnopenedEnd end old new = ⊥
