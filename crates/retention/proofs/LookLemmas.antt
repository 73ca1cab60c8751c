-- Calls that read pages and change nothing else.
use Rattle.std.proofs.Common.{◌≡◌, ℕ, ◌+◌, ◌≤◌, length, refl, ap, subst, ◌∙◌, arith}
use Rattle.block_disk.specs.Counts.{HasRisen}
use Rattle.block_disk.specs.View.{View, Now}
use Rattle.block_disk.proofs.Passing.{passes_none, passes_weaker, now_back}
use Rattle.gate_pages.specs.GateLaws.{goes_none, goes_then}
use Rattle.gate_pages.specs.Pages.{Quiet}
use Rattle.om3_coeff.specs.View.{NodesView}
use Rattle.om3_coeff.specs.declared.errors.NodeError.TheVariants as node
use Rattle.gate_pages.proofs.Moving.{time_then}
use Rattle.page_space.specs.declared.superblock.Superblock.{Superblock}
use Rattle.series_catalog.specs.declared.catalog.Catalog.{Catalog}
use Rattle.series_catalog.specs.Shown.{series_in}
use Rattle.series_store.specs.Asking.{IsBadPage}
use Rattle.tree_walk.specs.PagedNodes.{Keeps, ground}
use Rattle.tree_walk.specs.declared.tree.Tree.{Tree}
use Rattle.retention.specs.Moving.{Carries, CommitsFew, Looks}
use Rattle.retention.specs.Sweeping.{IsAskCause, IsOutside, IsReadCause, IsSweepCause}
use Rattle.retention.specs.declared.sweep_error.SweepError.{SweepError}
use Rattle.retention.specs.declared.sweep_error.SweepError.TheVariants.{UnknownSeries, DiskFault, Damaged, NoMemory}

pub looks_none : (told : Type 0) (at under : View) (s : Superblock) (catalog : Catalog)
    → Looks told told at at under under s s catalog catalog
looks_none told at under s catalog = record {
  time = passes_none at (Now at) (Quiet at);
  goes_on = goes_none under;
  told = λ t. t;
  was_told = λ t. t;
  image = λ t. refl;
  size = refl;
  beside = refl;
  fit = λ f. f;
  faults = omega arith;
  syncs = refl;
  writes = refl;
  superblock = refl;
  catalog_is = refl;
}

pub looks_then : (told told' told'' : Type 0) (old mid new under under' under'' : View) (s s' s'' : Superblock)
    (catalog catalog' catalog'' : Catalog)
    → Looks told told' old mid under under' s s' catalog catalog' → Looks told' told'' mid new under' under'' s' s'' catalog' catalog''
    → Looks told told'' old new under under'' s s'' catalog catalog''
looks_then told told' told'' old mid new under under' under'' s s' s'' catalog catalog' catalog'' first second = record {
  time = time_then old mid new (Now old) first.time
      (passes_weaker mid new (Now mid) (Now old) (Quiet mid) (Quiet mid) (now_back old mid (Quiet old) first.time)
      (λ count quiet. quiet) second.time);
  goes_on = goes_then under under' under'' first.goes_on second.goes_on;
  told = λ t. second.told (first.told t);
  was_told = λ t. first.was_told (second.was_told t);
  image = λ t. second.image (first.told t) ∙ first.image t;
  size = second.size ∙ first.size;
  beside = second.beside ∙ first.beside;
  fit = λ f. second.fit (first.fit f);
  faults = omega (arith, first.faults, second.faults);
  syncs = second.syncs ∙ first.syncs;
  writes = second.writes ∙ first.writes;
  superblock = second.superblock ∙ first.superblock;
  catalog_is = second.catalog_is ∙ first.catalog_is;
}

-- asks of nodes
pub looks_asked : (told told' : Type 0) (old new under under' : View) (s s' : Superblock) (tree tree' : Tree) (catalog catalog' : Catalog)
    → Keeps (ground told old under s tree) (ground told' new under' s' tree') → old.faults ≤ new.faults → catalog' ≡ catalog
    → Looks told told' old new under under' s s' catalog catalog'
looks_asked told told' old new under under' s s' tree tree' catalog catalog' kept faults same = record {
  time = record {
    later = kept.time.later;
    past = kept.time.past;
    kept = kept.time.kept;
    here = kept.time.here;
    sent_past = kept.time.sent_past;
    sent_here = kept.time.sent_here;
  };
  goes_on = kept.goes_on;
  told = kept.told;
  was_told = kept.was_told;
  image = kept.image;
  size = kept.count;
  beside = kept.beside;
  fit = kept.fit;
  faults = faults;
  syncs = kept.syncs;
  writes = kept.writes;
  superblock = kept.superblock;
  catalog_is = same;
}

pub ask_outside : (e : SweepError) (nodes nodes' : NodesView) → ((page : ℕ) → nodes.bad (node.Damaged page) → ⊥) → IsAskCause nodes nodes' e
    → IsOutside e
ask_outside UnknownSeries nodes nodes' none cause = absurd cause
ask_outside DiskFault nodes nodes' none cause = tt
ask_outside (Damaged page) nodes nodes' none cause = absurd (none page cause)
ask_outside NoMemory nodes nodes' none cause = absurd cause

pub read_sweeps : (e : SweepError) (told : Type 0) (total : ℕ) (old new : View) → IsReadCause e told total old new
    → IsSweepCause e told total old new
read_sweeps UnknownSeries told total old new cause = absurd cause
read_sweeps DiskFault told total old new cause = cause
read_sweeps (Damaged page) told total old new cause = cause
read_sweeps NoMemory told total old new cause = tt

-- a cause behind calls that counted no fault
pub read_later : (e : SweepError) (told : Type 0) (total total' : ℕ) (old mid new : View) → total' ≡ total → mid.faults ≡ old.faults
    → IsReadCause e told total' mid new → IsReadCause e told total old new
read_later UnknownSeries told total total' old mid new same quiet cause = absurd cause
read_later DiskFault told total total' old mid new same quiet cause = let P : ℕ → Type 0 = λ n. HasRisen n new.faults in subst P quiet cause
read_later (Damaged page) told total total' old mid new same quiet cause = let P : ℕ → Type 0 = λ n. IsBadPage told n new page in
    subst P same cause
read_later NoMemory told total total' old mid new same quiet cause = tt

pub carries_none : (told : Type 0) (at under : View) (total count : ℕ) → Carries told told at at under under total total count count
carries_none told at under total count = record {
  told = λ t. t;
  was_told = λ t. t;
  size = refl;
  beside = refl;
  faults = omega arith;
  goes_on = goes_none under;
  total_is = refl;
  more = omega arith;
}

pub carries_looks : (told told' : Type 0) (old new under under' : View) (s s' : Superblock) (catalog catalog' : Catalog)
    → Looks told told' old new under under' s s' catalog catalog'
    → Carries told told' old new under under' s.total s'.total (length (series_in catalog)) (length (series_in catalog'))
carries_looks told told' old new under under' s s' catalog catalog' looks = record {
  told = looks.told;
  was_told = looks.was_told;
  size = looks.size;
  beside = looks.beside;
  faults = looks.faults;
  goes_on = looks.goes_on;
  total_is = ap (λ (x : Superblock). x.total) looks.superblock;
  more = omega (arith, ap (λ (x : Catalog). length (series_in x)) looks.catalog_is);
}

-- commits are counted
pub commits_more : (n m : ℕ) (old new : View) → n ≤ m → CommitsFew n old new → CommitsFew m old new
commits_more n m old new less few = record { syncs = omega (arith, less, few.syncs); writes = omega (arith, less, few.writes) }

pub commits_then : (n m : ℕ) (old mid new : View) → CommitsFew n old mid → CommitsFew m mid new → CommitsFew (n + m) old new
commits_then n m old mid new first second = record {
  syncs = omega (arith, first.syncs, second.syncs);
  writes = omega (arith, first.writes, second.writes);
}

pub commits_looks : (n : ℕ) (told told' : Type 0) (old new under under' : View) (s s' : Superblock) (catalog catalog' : Catalog)
    → Looks told told' old new under under' s s' catalog catalog' → CommitsFew n old new
commits_looks n told told' old new under under' s s' catalog catalog' looks = record {
  syncs = omega (arith, looks.syncs);
  writes = omega (arith, looks.writes);
}

pub carries_then : (told told' told'' : Type 0) (old mid new under under' under'' : View) (total total' total'' count count' count'' : ℕ)
    → Carries told told' old mid under under' total total' count count'
    → Carries told' told'' mid new under' under'' total' total'' count' count''
    → Carries told told'' old new under under'' total total'' count count''
carries_then told told' told'' old mid new under under' under'' total total' total'' count count' count'' first second = record {
  told = λ t. second.told (first.told t);
  was_told = λ t. first.was_told (second.was_told t);
  size = second.size ∙ first.size;
  beside = second.beside ∙ first.beside;
  faults = omega (arith, first.faults, second.faults);
  goes_on = goes_then under under' under'' first.goes_on second.goes_on;
  total_is = second.total_is ∙ first.total_is;
  more = omega (arith, first.more, second.more);
}
