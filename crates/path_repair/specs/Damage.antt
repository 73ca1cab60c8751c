-- Which page is damaged, and how. The pages are those that a transaction holds.
use Rattle.std.specs.Prelude.{ℕ, zero, suc, ◌≡◌, ◌≢◌, ◌+◌, ◌<◌, ◌≤◌, ◌⊎◌, Option, None, Some, List}
use Rattle.block_disk.specs.View.{Image}
use Rattle.om3_coeff.specs.declared.span.Span.{Span}
use Rattle.node_page.specs.Fields.{level_at, coef_at, child_at}
use Rattle.node_page.specs.Layout.{KeepsLayout}
use Rattle.page_space.specs.declared.superblock.Superblock.{Superblock}
use Rattle.page_space.specs.Layout.{Links, without_head}
use Rattle.page_spans.specs.Heaps.{IsSplit}
use Rattle.page_spans.specs.Failing.{IsFirstBad}
use Rattle.tree_walk.specs.Holding.{IsBadPage}
use Rattle.tree_walk.specs.Paths.{NamesBeyond}
use Rattle.path_repair.specs.declared.errors.RepairError.{RepairError}
use Rattle.path_repair.specs.declared.errors.RepairError.TheVariants.{Full, DiskFault, Damaged, NoMemory}

-- the page breaks the layout of a tree page, isn't of this page level, or names a page past the total
abbrev pub IsUnfit : ℕ → ℕ → List ℕ → Type 0
IsUnfit total level page = IsBadPage page level ⊎ NamesBeyond total page

-- the spans that the page's coefficients give below that of its top
pub record AreBelow (top : Option Span) (page : List ℕ) (spans : ℕ → Option Span) : Type 0 where
  pub top_is : spans 0 ≡ top
  pub split : (n : ℕ) → n < 127 → IsSplit spans (coef_at page) n

-- the span that a node has by those above it isn't split by the node's coefficient
pub record HasBadNode (top : Option Span) (page : List ℕ) : Type 0 where
  pub spans : ℕ → Option Span
  pub node : ℕ
  pub top_is : spans 0 ≡ top
  pub bad : IsFirstBad spans (coef_at page) node

-- the page's coefficients don't split the span of its top, or there is none
abbrev pub IsUnsplitPage : Option Span → List ℕ → Type 0
IsUnsplitPage None page = Unit {0}
IsUnsplitPage (Some top) page = HasBadNode (Some top) page

-- a page of a place was damaged where it is unfit for its place
abbrev pub IsUnfitAt : Image → ℕ → ℕ → ℕ → RepairError → Type 0
IsUnfitAt image total level page (Full needed have) = ⊥
IsUnfitAt image total level page DiskFault = Unit {0}
IsUnfitAt image total level page (Damaged at) = (at ≡ page) × IsUnfit total level (image page)
IsUnfitAt image total level page NoMemory = ⊥

-- or for its span
abbrev pub IsBadAt : Image → ℕ → ℕ → ℕ → Option Span → RepairError → Type 0
IsBadAt image total level page top (Full needed have) = ⊥
IsBadAt image total level page top DiskFault = Unit {0}
IsBadAt image total level page top (Damaged at) = (at ≡ page) × (IsUnfit total level (image page) ⊎ IsUnsplitPage top (image page))
IsBadAt image total level page top NoMemory = ⊥

-- the page isn't one of those from fresh on and below last, which a change took from those that were never in use
abbrev pub IsNoNew : ℕ → ℕ → ℕ → Type 0
IsNoNew fresh last page = (page < fresh) ⊎ (last ≤ page)

-- A page above, as it was read: it keeps its layout and is of this page level. The transaction holds it so, unless
-- the change itself took it from those that were never in use.
pub record IsAbove (image : Image) (fresh last level page : ℕ) (bytes : List ℕ) : Type 0 where
  pub some : page ≢ 0
  pub keeps : KeepsLayout bytes
  pub level_is : level_at bytes ≡ level
  pub same : IsNoNew fresh last page → bytes ≡ image page

-- of the tree below a page of this page level, the page itself first, this one is unfit for its place
abbrev pub HasUnfit : Image → ℕ → ℕ → ℕ → ℕ → ℕ → ℕ → Type 0
HasUnfit image fresh last total zero page at = ⊥
HasUnfit image fresh last total (suc level) page at =
    ((page ≢ 0) × (at ≡ page) × IsUnfit total (suc level) (image page))
    ⊎ ((bytes : List ℕ) × (child : ℕ) × IsAbove image fresh last (suc level) page bytes × (child < 128)
    × HasUnfit image fresh last total level (child_at bytes child) at)

-- of the tree below a page of this page level, whose top has this span, this one has a coefficient that doesn't
-- split the span that those above it give
abbrev pub HasUnsplit : Image → ℕ → ℕ → ℕ → ℕ → Option Span → ℕ → Type 0
HasUnsplit image fresh last zero page top at = ⊥
HasUnsplit image fresh last (suc level) page top at =
    ((page ≢ 0) × (at ≡ page) × IsUnsplitPage top (image page))
    ⊎ ((bytes : List ℕ) × (spans : ℕ → Option Span) × (child : ℕ) × IsAbove image fresh last (suc level) page bytes
    × AreBelow top bytes spans × (child < 128)
    × HasUnsplit image fresh last level (child_at bytes child) (spans (127 + child)) at)

-- the page is the head of the chain, and breaks its layout
pub record IsBadHead (image : Image) (s : Superblock) (at : ℕ) : Type 0 where
  pub some : s.chain ≢ 0
  pub head_is : at ≡ s.head
  pub unlinked : (next : ℕ) → Links s next (image s.head) → ⊥

-- The page is damaged: it is one of the tree below this page, and unfit for its place or its span, or it
-- is the head of the chain. Pages below fresh were in use before, and those from s.fresh on still aren't.
abbrev pub IsDamaged : Image → ℕ → Superblock → ℕ → ℕ → Option Span → ℕ → Type 0
IsDamaged image fresh s level page top at = HasUnfit image fresh s.fresh s.total level page at
    ⊎ (HasUnsplit image fresh s.fresh level page top at ⊎ IsBadHead image s at)

-- which page `Damaged` names, where reads tell what the pages are
abbrev pub IsDamage : Image → ℕ → Superblock → ℕ → ℕ → Option Span → RepairError → Type 0
IsDamage image fresh s level page top (Full needed have) = Unit {0}
IsDamage image fresh s level page top DiskFault = Unit {0}
IsDamage image fresh s level page top (Damaged at) = IsDamaged image fresh s level page top at
IsDamage image fresh s level page top NoMemory = Unit {0}

-- the first pass, which changes nothing, finds a page unfit for its place alone
abbrev pub IsUnfitBelow : Image → ℕ → ℕ → ℕ → ℕ → RepairError → Type 0
IsUnfitBelow image fresh total level page (Full needed have) = ⊥
IsUnfitBelow image fresh total level page DiskFault = Unit {0}
IsUnfitBelow image fresh total level page (Damaged at) = HasUnfit image fresh fresh total level page at
IsUnfitBelow image fresh total level page NoMemory = ⊥

-- which page `Damaged` names where one was to be taken
abbrev pub IsHeadCause : Image → Superblock → RepairError → Type 0
IsHeadCause image s (Full needed have) = Unit {0}
IsHeadCause image s DiskFault = Unit {0}
IsHeadCause image s (Damaged at) = IsBadHead image s at
IsHeadCause image s NoMemory = ⊥

-- of the next so many pages of the chain with these numbers, this one breaks its layout
abbrev pub HasBadLink : Image → Superblock → ℕ → ℕ → Type 0
HasBadLink image s zero at = ⊥
HasBadLink image s (suc left) at =
    ((at ≡ s.head) × ((next : ℕ) → Links s next (image s.head) → ⊥))
    ⊎ ((next : ℕ) × Links s next (image s.head) × HasBadLink image (without_head s next) left at)
