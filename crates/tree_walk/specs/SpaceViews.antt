-- The pages of a space as one view.
use Rattle.std.specs.Prelude.{◌≡◌}
use Rattle.block_disk.specs.View.{View}
use Rattle.gate_pages.specs.Pages.{GoesOn}
use Rattle.page_space.specs.declared.superblock.Superblock.{Superblock}

-- the pages of a space: of those that it stands on the first ones, as many as page 0 tells
abbrev pub space_view : Superblock → View → View
space_view superblock pages = record {
  size = superblock.total;
  image = pages.image;
  clock = pages.clock;
  crash = pages.crash;
  sent_by = pages.sent_by;
  faults = pages.faults;
  reads = pages.reads;
  syncs = pages.syncs;
  writes = pages.writes;
  beside = pages.beside;
  fit = pages.fit;
}

-- the numbers of page 0 stay, and time goes on where the pages lie
pub record StaysOn (before after : Superblock) (old new : View) : Type 0 where
  pub superblock : after ≡ before
  pub goes_on : GoesOn old new
