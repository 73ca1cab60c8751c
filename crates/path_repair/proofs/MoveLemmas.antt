-- Calls that read, one after the other.
use Rattle.std.proofs.Common.{◌≡◌, ℕ, ◌+◌, ◌*◌, ◌<◌, ◌≤◌, ◌||◌, true, suc, cond, refl, ap, subst, arith, ◌∙◌}
use Rattle.block_disk.specs.View.{Image, View, Now}
use Rattle.block_disk.proofs.Passing.{passes_none, passes_weaker, now_back}
use Rattle.gate_pages.specs.GateLaws.{goes_none}
use Rattle.gate_pages.specs.Pages.{Quiet}
use Rattle.gate_pages.proofs.Moving.{time_then}
use Rattle.om3_coeff.specs.Keys.{end_slot}
use Rattle.page_space.specs.declared.superblock.Superblock.{Superblock}
use Rattle.page_space.specs.declared.txn.Txn.{Txn}
use Rattle.tree_walk.specs.Trees.{top_of_page}
use Rattle.tree_walk.specs.SpaceViews.{StaysOn}
use Rattle.tree_walk.proofs.SpaceLemmas.{stays_then}
use Rattle.path_repair.specs.Sums.{sum_below}
use Rattle.path_repair.specs.Costs.{touch, is_touched, is_new_root}
use Rattle.path_repair.specs.Standing.{AreTold, ReadsMost, Moved}
use Rattle.path_repair.proofs.ListLemmas.{child_end}

reads_then : (a b : ℕ) (told told' told'' : Type 0) (old mid new : View) → ReadsMost a told told' old mid → ReadsMost b told' told'' mid new
    → ReadsMost (a + b) told told'' old new
reads_then a b told told' told'' old mid new first second = record {
  time = time_then old mid new (Now old) first.time
      (passes_weaker mid new (Now mid) (Now old) (Quiet mid) (Quiet mid) (now_back old mid (Quiet old) first.time)
      (λ count quiet. quiet) second.time);
  told = λ t. second.told (first.told t);
  was_told = λ t. first.was_told (second.was_told t);
  image = λ t. second.image (first.told t) ∙ first.image t;
  size = second.size ∙ first.size;
  beside = second.beside ∙ first.beside;
  fit = λ f. second.fit (first.fit f);
  faults = omega (arith, first.faults, second.faults);
  reads = record { low = omega (arith, first.reads.low, second.reads.low); high = omega (arith, first.reads.high, second.reads.high) };
  syncs = second.syncs ∙ first.syncs;
  writes = second.writes ∙ first.writes;
}

reads_none : (told : Type 0) (at : View) → ReadsMost 0 told told at at
reads_none told at = record {
  time = passes_none at (Now at) (Quiet at);
  told = λ t. t;
  was_told = λ t. t;
  image = λ t. refl;
  size = refl;
  beside = refl;
  fit = λ f. f;
  faults = omega arith;
  reads = record { low = omega arith; high = omega arith };
  syncs = refl;
  writes = refl;
}

reads_more : (a b : ℕ) (told told' : Type 0) (old new : View) → a ≤ b → ReadsMost a told told' old new → ReadsMost b told told' old new
reads_more a b told told' old new less reads = record {
  time = reads.time;
  told = reads.told;
  was_told = reads.was_told;
  image = reads.image;
  size = reads.size;
  beside = reads.beside;
  fit = reads.fit;
  faults = reads.faults;
  reads = record { low = reads.reads.low; high = omega (arith, reads.reads.high, less) };
  syncs = reads.syncs;
  writes = reads.writes;
}

pub moved_then : (a b p q : ℕ) (told told' told'' : Type 0) (old mid new under under' under'' : View) (s s' s'' : Superblock)
    (t t' t'' : Txn) → Moved a p told told' old mid under under' s s' t t' → Moved b q told' told'' mid new under' under'' s' s'' t' t''
    → Moved (a + b) (p + q) told told'' old new under under'' s s'' t t''
moved_then a b p q told told' told'' old mid new under under' under'' s s' s'' t t' t'' first second = record {
  reads = reads_then a b told told' told'' old mid new first.reads second.reads;
  over = stays_then s s' s'' under under' under'' first.over second.over;
  total = second.total ∙ first.total;
  series = second.series ∙ first.series;
  fresh = omega (arith, first.fresh, second.fresh);
  held = omega (arith, first.held, second.held);
}

stays_none : (superblock : Superblock) (at : View) → StaysOn superblock superblock at at
stays_none superblock at = record { superblock = refl; goes_on = goes_none at }

pub moved_none : (told : Type 0) (at under : View) (s : Superblock) (t : Txn) → Moved 0 0 told told at at under under s s t t
moved_none told at under s t = record {
  reads = reads_none told at;
  over = stays_none s under;
  total = refl;
  series = refl;
  fresh = omega arith;
  held = omega arith;
}

pub moved_more : (a b p q : ℕ) (told told' : Type 0) (old new under under' : View) (s s' : Superblock) (t t' : Txn) → a ≤ b → p ≤ q
    → Moved a p told told' old new under under' s s' t t' → Moved b q told told' old new under under' s s' t t'
moved_more a b p q told told' old new under under' s s' t t' less fewer moved = record {
  reads = reads_more a b told told' old new less moved.reads;
  over = moved.over;
  total = moved.total;
  series = moved.series;
  fresh = moved.fresh;
  held = omega (arith, moved.held, fewer);
}

pub told_on : (a : ℕ) (told told' : Type 0) (old new : View) (base : Image) → ReadsMost a told told' old new → AreTold told old base
    → AreTold told' new base
told_on a told told' old new base reads at = record { are_told = reads.told at.are_told; are = reads.image at.are_told ∙ at.are }

pub touch_suc : (first end height level index : ℕ) → (is_touched first end (suc level) index || is_new_root height (suc level) index) ≡ true
    → touch first end height (suc level) index ≡ suc (sum_below (λ child. touch first end height level (128 * index + child)) 128)
unfolding touch
touch_suc first end height level index passed = ap (λ b. cond b
    (suc (sum_below (λ child. touch first end height level (128 * index + child)) 128)) 0) passed

-- a page that is passed, and its children
pub touch_level : (first end height level below index : ℕ) → below + 1 ≡ level
    → (is_touched first end level index || is_new_root height level index) ≡ true
    → touch first end height level index ≡ 1 + sum_below (λ child. touch first end height below (128 * index + child)) 128
touch_level first end height level below index is passed =
    let next : suc below ≡ level = omega (arith, is) in
    let P : ℕ → Type 0 = λ l. (is_touched first end l index || is_new_root height l index) ≡ true
    → touch first end height l index ≡ 1 + sum_below (λ child. touch first end height below (128 * index + child)) 128 in
    subst P next (λ passed. omega (arith, touch_suc first end height below index passed)) passed

pub child_small : (level below index child q most : ℕ) → below + 1 ≡ level → q ≡ 128 * index + child → child < 128
    → end_slot (top_of_page level index) ≤ most → end_slot (top_of_page below q) ≤ most
child_small level below index child q most is at within small =
    let next : level ≡ suc below = omega (arith, is) in
    omega (
      arith,
      small,
      ap (λ l. end_slot (top_of_page l index)) next,
      child_end below index child within,
      ap (λ p. end_slot (top_of_page below p)) at,
    )
