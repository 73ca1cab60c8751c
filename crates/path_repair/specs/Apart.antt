-- Which page is damaged as the pages are before a change, where none is used twice.
use Rattle.std.specs.Prelude.{ℕ, zero, suc, ◌≡◌, ◌≢◌, ◌+◌, ◌*◌, ◌^◌, ◌<◌, ◌≤◌, ◌⊎◌, ◌==◌, Bool, false, nat_lt, if◌then◌else◌, List, [], ◌∷◌}
use Rattle.std.specs.Prelude.{Option}
use Rattle.block_disk.specs.View.{Image}
use Rattle.om3_coeff.specs.declared.span.Span.{Span}
use Rattle.node_page.specs.Fields.{level_at, child_at}
use Rattle.node_page.specs.Layout.{KeepsLayout}
use Rattle.page_space.specs.declared.superblock.Superblock.{Superblock}
use Rattle.page_space.specs.Layout.{Links, without_head}
use Rattle.page_space.specs.Spaces.{times, once}
use Rattle.page_space.specs.Transactions.{left_by, told_by}
use Rattle.page_space.specs.declared.txn.Txn.{Txn}
use Rattle.path_repair.specs.declared.errors.RepairError.{RepairError}
use Rattle.path_repair.specs.declared.errors.RepairError.TheVariants.{Full, DiskFault, Damaged, NoMemory}
use Rattle.path_repair.specs.Damage.{IsUnfit, IsUnsplitPage, AreBelow, HasBadLink}
use Rattle.path_repair.specs.Keeping.{root_level}
use Rattle.path_repair.specs.Sums.{sum_below, join_below}

-- of the tree below a page of this page level, this page is unfit for its place: those above it keep their layout
abbrev pub HasWrongPage : Image → ℕ → ℕ → ℕ → ℕ → Type 0
HasWrongPage image total zero page at = ⊥
HasWrongPage image total (suc level) page at =
    (page ≢ 0)
    × (((at ≡ page) × IsUnfit total (suc level) (image page))
    ⊎ (KeepsLayout (image page) × (level_at (image page) ≡ suc level) × (child : ℕ) × (child < 128)
    × HasWrongPage image total level (child_at (image page) child) at))

-- of that tree, whose top has this span, this page has a coefficient that doesn't split the span that those above give
abbrev pub HasWrongNode : Image → ℕ → ℕ → Option Span → ℕ → Type 0
HasWrongNode image zero page top at = ⊥
HasWrongNode image (suc level) page top at =
    (page ≢ 0)
    × (((at ≡ page) × IsUnsplitPage top (image page))
    ⊎ (KeepsLayout (image page) × (level_at (image page) ≡ suc level) × (spans : ℕ → Option Span) × AreBelow top (image page) spans
    × (child : ℕ) × (child < 128) × HasWrongNode image level (child_at (image page) child) (spans (127 + child)) at))

-- the page is one of the tree below this page, and is so; or it is one of the chain, and breaks its layout
abbrev pub IsDamagedPage : Image → Superblock → ℕ → ℕ → ℕ → Option Span → ℕ → Type 0
IsDamagedPage image s total level page top at = HasWrongPage image total level page at
    ⊎ (HasWrongNode image level page top at ⊎ HasBadLink image s s.chain at)

-- the page that an error names is damaged
abbrev pub NamesDamaged : Image → Superblock → ℕ → ℕ → ℕ → Option Span → RepairError → Type 0
NamesDamaged image s total level page top (Full needed have) = Unit {0}
NamesDamaged image s total level page top DiskFault = Unit {0}
NamesDamaged image s total level page top (Damaged at) = IsDamagedPage image s total level page top at
NamesDamaged image s total level page top NoMemory = Unit {0}

-- which pages fit their places in a tree, by page level and number: one that is said not to is unfit
abbrev pub TellsUnfit : Image → ℕ → (ℕ → ℕ → Bool) → Type 0
TellsUnfit image total fits = (level page : ℕ) → fits level page ≡ false → IsUnfit total level (image page)

-- the pages of the tree below a page of this page level, the page itself first, and none below one that doesn't fit
unfoldable pub reached_pages : (ℕ → ℕ → Bool) → Image → ℕ → ℕ → List ℕ
reached_pages fits image zero page = []
reached_pages fits image (suc level) page =
    if page == 0 then [] else page ∷ (if fits (suc level) page then join_below
    (λ child. reached_pages fits image level (child_at (image page) child)) 128 else [])

-- the pages of the chain with these numbers, up to the first that breaks its layout
abbrev pub AreChained : Image → Superblock → List ℕ → Type 0
AreChained image s [] = s.chain ≡ 0
AreChained image s (p ∷ ps) = (s.chain ≢ 0) × (p ≡ s.head)
    × ((next : ℕ) → Links s next (image s.head) → AreChained image (without_head s next) ps)

-- These pages and those of the chain were in use before, each once.
pub record AreApart (image : Image) (s : Superblock) (pages : List ℕ) : Type 0 where
  pub small : s.total < 2 ^ 32
  pub chain : List ℕ
  pub chained : AreChained image s chain
  pub once : (p : ℕ) → times p pages + times p chain ≤ once s.fresh p

-- The pages of the chain are these, as far as they keep their layout. One that breaks it breaks it as it was stored.
abbrev pub IsChain : Image → Superblock → Image → Superblock → List ℕ → Type 0
IsChain stored from image s [] = s.chain ≡ 0
IsChain stored from image s (p ∷ ps) =
    (s.head ≡ p)
    × (s.chain ≢ 0)
    × (((next : ℕ) → Links s next (image p) → ⊥) → HasBadLink stored from from.chain p)
    × ((next : ℕ) → Links s next (image p) → IsChain stored from image (without_head s next) ps)

-- While a tree is changed, the pages of the chain, those that the change has in hand and those that it leaves alone are
-- apart, each by how often it is one; and the last are as they were stored.
pub record StandsApart (fits : ℕ → ℕ → Bool) (stored image : Image) (from s : Superblock) (mine kept : ℕ → ℕ) : Type 0 where
  pub small : s.total < 2 ^ 32
  pub tells : TellsUnfit stored s.total fits
  pub freed : List ℕ
  pub chain : IsChain stored from image s freed
  pub parted : (p : ℕ) → mine p + (kept p + times p freed) ≤ once s.fresh p
  pub same : (p : ℕ) → 0 < kept p → image p ≡ stored p

-- this page, and those in hand
abbrev pub and_page : ℕ → (ℕ → ℕ) → ℕ → ℕ
and_page page mine p = times p (page ∷ []) + mine p

-- they stand apart as a transaction would leave the pages, with this page among those in hand
abbrev pub StandsWith : Txn → Image → (ℕ → ℕ → Bool) → Image → Superblock → (ℕ → ℕ) → (ℕ → ℕ) → ℕ → Type 0
StandsWith txn base fits stored from mine kept page = StandsApart fits stored (left_by txn base) from (told_by txn)
    (and_page page mine) kept

-- a page in hand is left, and the others still stand apart
abbrev pub LeavesApart : ℕ → Txn → Txn → Type 0
LeavesApart page old new =
    (fits : ℕ → ℕ → Bool) (base stored : Image) (from : Superblock) (mine kept : ℕ → ℕ)
    → StandsWith old base fits stored from mine kept page
    → StandsApart fits stored (left_by new base) from (told_by new) mine kept

-- the pages of the tree at a place, and those left alone
abbrev pub and_tree : (ℕ → ℕ → Bool) → Image → ℕ → ℕ → ℕ → ℕ → (ℕ → ℕ) → ℕ → ℕ
and_tree fits stored height level index page kept p = times p (reached_pages fits stored (root_level height level index) page) + kept p

-- the pages of the children of a page from this one on, and those left alone
abbrev pub and_children : (ℕ → ℕ → Bool) → Image → ℕ → ℕ → ℕ → List ℕ → ℕ → (ℕ → ℕ) → ℕ → ℕ
and_children fits stored height below index bytes i kept p =
    sum_below (λ child. if nat_lt child i then 0 else times p
    (reached_pages fits stored (root_level height below (128 * index + child)) (child_at bytes child))) 128 + kept p

-- the page that couldn't be taken is one of the chain that breaks its layout
abbrev pub NamesLink : Image → Superblock → RepairError → Type 0
NamesLink stored from (Full needed have) = Unit {0}
NamesLink stored from DiskFault = Unit {0}
NamesLink stored from (Damaged at) = HasBadLink stored from from.chain at
NamesLink stored from NoMemory = Unit {0}
