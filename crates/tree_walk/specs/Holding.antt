-- What reading a page into a trail does.
use Rattle.std.specs.Prelude.{ℕ, ◌≡◌, ◌≢◌, ◌+◌, ◌-◌, ◌<◌, ◌≤◌, ◌⊎◌, List, Option, None, Some}
use Rattle.block_disk.specs.View.{View, Now, Passes}
use Rattle.block_disk.specs.Counts.{HasRisen}
use Rattle.gate_pages.specs.Pages.{Quiet}
use Rattle.om3_coeff.specs.declared.key.Key.{Key}
use Rattle.om3_coeff.specs.declared.errors.NodeError.{NodeError}
use Rattle.om3_coeff.specs.declared.errors.NodeError.TheVariants.{DiskFault, Damaged, Missing, BadCoefficient}
use Rattle.om3_coeff.specs.Keys.{page_levels}
use Rattle.node_page.specs.Fields.{level_at, child_at}
use Rattle.node_page.specs.Layout.{KeepsLayout}
use Rattle.node_page.specs.Places.{page_level, page_index}
use Rattle.tree_walk.specs.declared.tree.Tree.{Tree}
use Rattle.tree_walk.specs.declared.trail.Trail.{Trail}
use Rattle.tree_walk.specs.declared.held_page.HeldPage.{HeldPage}
use Rattle.tree_walk.specs.Paths.{page_on_path, path_child}
use Rattle.tree_walk.specs.Trails.{number_at, bytes_at}

-- the page breaks its layout or isn't of this page level
abbrev pub IsBadPage : List ℕ → ℕ → Type 0
IsBadPage page level = (KeepsLayout page → ⊥) ⊎ (level_at page ≡ level → ⊥)

-- why a page of this number and page level wasn't read
abbrev pub IsHoldCause : Type 0 → View → View → ℕ → ℕ → NodeError → Type 0
IsHoldCause tells old new number level DiskFault = HasRisen old.faults new.faults
IsHoldCause tells old new number level (Damaged page) = (page ≡ number) × (tells → IsBadPage (old.image number) level)
IsHoldCause tells old new number level (Missing key) = ⊥
IsHoldCause tells old new number level (BadCoefficient key) = ⊥

-- the page of this number is held at this depth
pub record IsHit (trail : Trail) (depth number : ℕ) : Type 0 where
  pub long : depth < trail.len
  pub is : number_at trail.pages.items depth ≡ number

-- the nodes of both keys stand in one page
abbrev pub AreNear : Key → Key → Type 0
AreNear last k = (page_level k.level ≡ page_level last.level) × (page_index k ≡ page_index last)

-- the key asked last, where there is one, has its node in the page of this key's node
abbrev pub IsNear : Option Key → Key → Type 0
IsNear None k = ⊥
IsNear (Some last) k = AreNear last k

-- what is held above a depth stays
pub record IsSameAbove (depth : ℕ) (old new : List HeldPage) : Type 0 where
  pub numbers : (at : ℕ) → at < depth → number_at new at ≡ number_at old at
  pub bytes : (at : ℕ) → at < depth → bytes_at new at ≡ bytes_at old at

-- What asks keep of the pages: all but counts of reads and of faults, which don't fall.
pub record KeptWalking (told_old told_new : Type 0) (old new : View) : Type 0 where
  pub time : Passes old new (Now old) (Quiet old)
  pub told : told_old → told_new
  pub was_told : told_new → told_old
  pub image : told_old → new.image ≡ old.image
  pub size : new.size ≡ old.size
  pub beside : new.beside ≡ old.beside
  pub fit : old.fit → new.fit
  pub faults : old.faults ≤ new.faults
  pub reads : old.reads ≤ new.reads
  pub syncs : new.syncs ≡ old.syncs
  pub writes : new.writes ≡ old.writes

-- the number of the page's child that is on the way to the key, where this is the page at a depth
abbrev pub next_at : List HeldPage → Key → ℕ → ℕ → ℕ
next_at pages k levels depth = child_at (bytes_at pages depth) (path_child k (levels - depth))

-- the page at a depth of the trail names none on the way to the key, or one past the total; or the page
-- that it names breaks its layout or isn't of its level
abbrev pub IsBadStep : View → List HeldPage → Key → ℕ → ℕ → ℕ → Type 0
IsBadStep view pages k levels depth page =
    ((page ≡ number_at pages depth) × ((next_at pages k levels depth ≡ 0) ⊎ (view.size ≤ next_at pages k levels depth)))
    ⊎ ((next_at pages k levels depth ≢ 0) × (page ≡ next_at pages k levels depth) × IsBadPage (view.image page) (levels - (depth + 1)))

-- why the page below a depth wasn't held
abbrev pub IsStepCause : Type 0 → View → View → List HeldPage → Key → ℕ → ℕ → NodeError → Type 0
IsStepCause tells old new pages k levels depth DiskFault = HasRisen old.faults new.faults
IsStepCause tells old new pages k levels depth (Damaged page) = (page < old.size) × (tells → IsBadStep old pages k levels depth page)
IsStepCause tells old new pages k levels depth (Missing key) = ⊥
IsStepCause tells old new pages k levels depth (BadCoefficient key) = ⊥

-- the page is whole and of this level, and the page that it names on the way to the key is none or past
-- the total
pub record NamesNone (total : ℕ) (k : Key) (level : ℕ) (page : List ℕ) : Type 0 where
  pub keeps : KeepsLayout page
  pub level_is : level_at page ≡ level
  pub below : page_level k.level < level
  pub none : (child_at page (path_child k level) ≡ 0) ⊎ (total ≤ child_at page (path_child k level))

-- The page of this page level on the way to the key breaks its layout or isn't of this level; or it
-- lies above the key's page and names none on the way, or one past the total.
pub record IsBadOnPath (view : View) (tree : Tree) (k : Key) (page : ℕ) : Type 0 where
  pub level : ℕ
  pub above : page_level k.level ≤ level
  pub below : level ≤ page_levels tree.slots
  pub there : page_on_path view.image tree k level ≡ Some page
  pub bad : IsBadPage (view.image page) level ⊎ NamesNone view.size k level (view.image page)

-- why the pages on the way to the key weren't found
abbrev pub IsCauseOf : Type 0 → View → View → Tree → Key → NodeError → Type 0
IsCauseOf tells old new tree k DiskFault = HasRisen old.faults new.faults
IsCauseOf tells old new tree k (Damaged page) = (page < old.size) × (tells → IsBadOnPath old tree k page)
IsCauseOf tells old new tree k (Missing key) = ⊥
IsCauseOf tells old new tree k (BadCoefficient key) = ⊥
