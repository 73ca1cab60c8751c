-- Which page a sweep calls damaged.
use Rattle.std.specs.Prelude.{ℕ, ◌≡◌, ◌<◌, ◌⊎◌, List, ⊤}
use Rattle.block_disk.specs.View.{Image}
use Rattle.gate_pages.specs.declared.pages.Pages.{Ghosts}
use Rattle.om3_coeff.specs.declared.errors.NodeError.TheVariants as node
use Rattle.page_space.specs.declared.superblock.Superblock.{Superblock}
use Rattle.retention.specs.declared.rule.Rule.{Rule}
use Rattle.retention.specs.declared.rule.Rule.TheVariants.{Before, Last, Free}
use Rattle.retention.specs.declared.sweep_error.SweepError.{SweepError}
use Rattle.retention.specs.declared.sweep_error.SweepError.TheVariants.{UnknownSeries, DiskFault, Damaged, NoMemory}
use Rattle.series_store.specs.Shown as shown
use Rattle.series_store.specs.declared.store.Store.{Store}
use Rattle.stored_book.specs.Damage.{IsDamagedOnce, SaysNumbers}
use Rattle.stored_book.specs.Records.{entry, tree_of}
use Rattle.tree_walk.specs.Paths.{IsDamaged}

-- a look for the next clear asks the series of this name: the one that the rule names, or any where it frees pages
abbrev pub Asks : Rule → List ℕ → Type 0
Asks (Before named time) name = named ≡ name
Asks (Last named count) name = named ≡ name
Asks (Free pages) name = ⊤

-- the page is damaged on the way to a key of the tree that the record of this id names
pub record IsDamagedOnWayAt (image : Image) (s : Superblock) (id page : ℕ) : Type 0 where
  pub there : id < s.series
  pub damaged : IsDamaged image s.total (tree_of (entry image id)) page

-- so it is in the tree of a series whose name is so
pub record IsDamagedOnWayOf (IsAsked : List ℕ → Type 0) (image : Image) (s : Superblock) (page : ℕ) : Type 0 where
  pub id : ℕ
  pub asked : IsAsked (entry image id).name
  pub on_way : IsDamagedOnWayAt image s id page

-- a page that is called damaged where the series of this id is asked is below the total that page 0 says, and is so
abbrev pub IsBadAt : ℕ → ℕ → Image → ℕ → Type 0
IsBadAt id count image page = SaysNumbers count image (λ s. (page < s.total) × IsDamagedOnWayAt image s id page)

-- the same where series are asked whose names are so
abbrev pub IsBadForLook : (List ℕ → Type 0) → ℕ → Image → ℕ → Type 0
IsBadForLook IsAsked count image page = SaysNumbers count image (λ s. (page < s.total) × IsDamagedOnWayOf IsAsked image s page)

-- The same of a sweep by this rule: the page is damaged on the way to a key of the series that the rule names, or of any where it
-- frees pages, or it is so for a clear.
abbrev pub IsBadForSweep : Rule → ℕ → Image → ℕ → Type 0
IsBadForSweep rule count image page =
    SaysNumbers count image (λ s. (page < s.total) × (IsDamagedOnWayOf (Asks rule) image s page ⊎ IsDamagedOnce image s page))

-- it is so of the page that an error calls damaged
abbrev pub Blames : (ℕ → Type 0) → SweepError → Type 0
Blames IsBad UnknownSeries = ⊤
Blames IsBad DiskFault = ⊤
Blames IsBad (Damaged page) = IsBad page
Blames IsBad NoMemory = ⊤

-- the same in the words of a store: where reads give what the pages are
module _ {P : Type 0} {g : Ghosts P} where
  abbrev pub BlamesSo : (ℕ → Image → ℕ → Type 0) → SweepError → Store P g → Type 0
  BlamesSo IsBad e it = Blames (λ page. shown.IsTold it → IsBad (shown.view it).size (shown.image it) page) e

  -- a page of which the nodes of the selected series tell is one of its tree, by this id
  abbrev pub TellsBadAt : ℕ → Store P g → Type 0
  TellsBadAt id it = (page : ℕ) → (shown.nodes it).bad (node.Damaged page) → shown.IsTold it
      → IsBadAt id (shown.view it).size (shown.image it) page
