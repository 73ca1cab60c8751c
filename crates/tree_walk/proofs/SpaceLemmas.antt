-- The numbers of page 0 stay, and time goes on, from call to call.
use Rattle.std.proofs.Common.{◌∙◌, refl, arith}
use Rattle.block_disk.specs.View.{View, Now}
use Rattle.block_disk.proofs.Passing.{passes_none}
use Rattle.gate_pages.specs.Pages.{Quiet, Reads}
use Rattle.gate_pages.specs.GateLaws.{goes_then}
use Rattle.page_space.specs.declared.superblock.Superblock.{Superblock}
use Rattle.tree_walk.specs.SpaceViews.{StaysOn}

pub stays_then : (before between after : Superblock) (old mid new : View) → StaysOn before between old mid → StaysOn between after mid new
    → StaysOn before after old new
stays_then before between after old mid new first second = record {
  superblock = second.superblock ∙ first.superblock;
  goes_on = goes_then old mid new first.goes_on second.goes_on;
}

-- where nothing is read
pub reads_none : (told : Type 0) (at : View) → Reads told told at at
reads_none told at = record {
  time = passes_none at (Now at) (Quiet at);
  told = λ t. t;
  was_told = λ t. t;
  image = λ t. refl;
  size = refl;
  beside = refl;
  fit = λ f. f;
  faults = omega arith;
  reads = record { low = omega arith; high = omega arith };
  syncs = refl;
  writes = refl;
}
