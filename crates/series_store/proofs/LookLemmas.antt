-- Calls that read pages and change nothing else, one after the other.
use Rattle.std.proofs.Common.{◌≡◌, refl, arith}
use Rattle.block_disk.specs.View.{View, Now}
use Rattle.block_disk.proofs.Passing.{passes_none}
use Rattle.gate_pages.specs.GateLaws.{goes_none}
use Rattle.gate_pages.specs.Pages.{Quiet, Reads, GoesOn}
use Rattle.page_space.specs.declared.superblock.Superblock.{Superblock}
use Rattle.tree_walk.specs.Holding.{KeptWalking}
use Rattle.tree_walk.proofs.SpaceLemmas.{stays_then}
use Rattle.tree_walk.proofs.WayLemmas.{read_keeps, keep_on}
use Rattle.series_store.specs.Counting.{Looks}

keep_none : (told : Type 0) (at : View) → KeptWalking told told at at
keep_none told at = record {
  time = passes_none at (Now at) (Quiet at);
  told = λ t. t;
  was_told = λ t. t;
  image = λ t. refl;
  size = refl;
  beside = refl;
  fit = λ f. f;
  faults = omega arith;
  reads = omega arith;
  syncs = refl;
  writes = refl;
}

pub looks_none : (told : Type 0) (at under : View) (s : Superblock) → Looks told told at at under under s s
looks_none told at under s = record { kept = keep_none told at; over = record { superblock = refl; goes_on = goes_none under } }

pub looks_read : (told told' : Type 0) (old new under under' : View) (s s' : Superblock) → Reads told told' old new → s' ≡ s
    → GoesOn under under' → Looks told told' old new under under' s s'
looks_read told told' old new under under' s s' reads same goes_on = record {
  kept = read_keeps told told' old new reads;
  over = record { superblock = same; goes_on = goes_on };
}

pub looks_then : (told told' told'' : Type 0) (old mid new under under' under'' : View) (s s' s'' : Superblock)
    → Looks told told' old mid under under' s s' → Looks told' told'' mid new under' under'' s' s''
    → Looks told told'' old new under under'' s s''
looks_then told told' told'' old mid new under under' under'' s s' s'' first second = record {
  kept = keep_on told told' told'' old mid new first.kept second.kept;
  over = stays_then s s' s'' under under' under'' first.over second.over;
}
