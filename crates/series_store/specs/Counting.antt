-- What a check of a store counts, and which page it may find bad.
use Rattle.std.specs.Prelude.{ℕ, ℤ, zero, suc, ◌≡◌, ◌≢◌, ◌+◌, ◌*◌, ◌<◌, ◌≤◌, ◌⊎◌, List, length, slice_get, sum_by, count_by, is_some}
use Rattle.std.specs.Prelude.{if◌then◌else◌, Option, None, Some, IfSome}
use Rattle.block_disk.specs.Counts.{HasRisen}
use Rattle.block_disk.specs.View.{Image, View}
use Rattle.om3_coeff.specs.declared.span.Span.{Span}
use Rattle.om3_coeff.specs.Keys.{page_levels}
use Rattle.node_page.specs.Fields.{level_at, child_at}
use Rattle.node_page.specs.Layout.{KeepsLayout}
use Rattle.page_space.specs.declared.superblock.Superblock.{Superblock}
use Rattle.page_space.specs.Layout.{Links, in_use, without_head}
use Rattle.path_repair.specs.Changes.{slot_at}
use Rattle.path_repair.specs.Damage.{IsUnfit, HasBadNode, AreBelow, HasBadLink}
use Rattle.path_repair.specs.Sums.{sum_below}
use Rattle.path_repair.specs.TreePages.{tree_pages}
use Rattle.series_book.specs.declared.one_series.Series.{Series}
use Rattle.series_book.specs.Pages.{pages_of}
use Rattle.series_catalog.specs.declared.stored_series.StoredSeries.{StoredSeries}
use Rattle.stored_book.specs.Records.{entry}
use Rattle.tree_walk.specs.Holding.{KeptWalking}
use Rattle.tree_walk.specs.SpaceViews.{StaysOn}
use Rattle.series_store.specs.declared.counts.Counts.{Counts}
use Rattle.series_store.specs.declared.errors.StoreError.{StoreError}
use Rattle.series_store.specs.declared.errors.StoreError.TheVariants.{Refused, NotAStore, DiskFault, Damaged, NoMemory}

-- how many of the slots hold a value
abbrev pub values_in : List (Option ℤ) → ℕ
values_in slots = count_by (λ slot. is_some slot) slots

-- how many values the series of a book store
abbrev pub values_of : List Series → ℕ
values_of book = sum_by (λ series. values_in series.slots) book

-- how many values are stored in the range of the page of this page level and index, child by child
unfoldable pub values_below : List (Option ℤ) → ℕ → ℕ → ℕ
values_below list zero index = if is_some (slot_at list index) then 1 else 0
values_below list (suc level) index = sum_below (λ child. values_below list level (128 * index + child)) 128

-- the counts of a book in so many pages
pub record AreCounts (total : ℕ) (book : List Series) (counts : Counts) : Type 0 where
  pub series : counts.series ≡ length book
  pub values : counts.values ≡ values_of book
  pub used : counts.used ≡ pages_of book
  pub total_is : counts.total ≡ total

-- over any pages these are the numbers of page 0
pub record AreNumbers (s : Superblock) (counts : Counts) : Type 0 where
  pub series : counts.series ≡ s.series
  pub used : counts.used ≡ in_use s
  pub total_is : counts.total ≡ s.total

-- pages are read, and nothing else changes
pub record Looks (told_old told_new : Type 0) (old new under_old under_new : View) (before after : Superblock) : Type 0 where
  pub kept : KeptWalking told_old told_new old new
  pub over : StaysOn before after under_old under_new

-- the page breaks the layout of a tree page, isn't of this page level, names a page past the total, or has a
-- coefficient that doesn't split the span that those above it give
abbrev pub IsBadFor : ℕ → ℕ → Option Span → List ℕ → Type 0
IsBadFor total level top page = IsUnfit total level page ⊎ HasBadNode top page

-- what this one of so many slots may hold by its span: nothing, or one value
abbrev pub IsSlot : ℕ → ℕ → Option Span → Type 0
IsSlot slots slot held = IfSome held (λ span. (span.min ≡ span.max) × (slot < slots))

-- each part of a page of page level 1 with this index may hold what it does
abbrev pub AreParts : ℕ → ℕ → (ℕ → Option Span) → Type 0
AreParts slots index spans = (child : ℕ) → child < 128 → IsSlot slots (128 * index + child) (spans (127 + child))

-- one of them holds two values, or is none of so many slots
pub record HasNoSlot (slots index : ℕ) (spans : ℕ → Option Span) : Type 0 where
  pub child : ℕ
  pub within : child < 128
  pub bad : IsSlot slots (128 * index + child) (spans (127 + child)) → ⊥

-- the page is one of page level 1, whose spans below its top are so
pub record HasBadSlot (slots level index : ℕ) (top : Option Span) (page : List ℕ) : Type 0 where
  pub lowest : level ≡ 1
  pub spans : ℕ → Option Span
  pub below : AreBelow top page spans
  pub none : HasNoSlot slots index spans

-- Of the tree over so many slots, below a page of this page level and index, whose top has this span, this page is bad
-- for its place, or a slot of it is.
abbrev pub HasBadPage : Image → ℕ → ℕ → ℕ → ℕ → ℕ → Option Span → ℕ → Type 0
HasBadPage image total slots zero index page top at = ⊥
HasBadPage image total slots (suc level) index page top at =
    ((page ≢ 0) × (at ≡ page) × (IsBadFor total (suc level) top (image page) ⊎ HasBadSlot slots (suc level) index top (image page)))
    ⊎ ((page ≢ 0) × (spans : ℕ → Option Span) × (child : ℕ) × AreBelow top (image page) spans × (child < 128)
    × HasBadPage image total slots level (128 * index + child) (child_at (image page) child) (spans (127 + child)) at)

-- each child of the page is below the total
abbrev pub NamesBelow : ℕ → List ℕ → Type 0
NamesBelow total page = (child : ℕ) → child < 128 → child_at page child < total

-- the page keeps the layout of a tree page, is of this page level and names pages below the total
pub record IsSoundPage (total level : ℕ) (page : List ℕ) : Type 0 where
  pub keeps : KeepsLayout page
  pub level_is : level_at page ≡ level
  pub below : NamesBelow total page

-- Each page of the tree below a page is sound, and its coefficients split the spans that those above give. Each of so
-- many slots holds one value at most, and no other one does.
abbrev pub IsSoundTree : Image → ℕ → ℕ → ℕ → ℕ → ℕ → Option Span → Type 0
IsSoundTree image total slots zero index page top = IsSlot slots index top
IsSoundTree image total slots (suc level) index page top =
    (page ≡ 0)
    ⊎ ((page ≢ 0) × IsSoundPage total (suc level) (image page) × (spans : ℕ → Option Span) × AreBelow top (image page) spans
    × ((child : ℕ) → child < 128 → IsSoundTree image total slots level (128 * index + child) (child_at (image page) child)
    (spans (127 + child))))

-- each of the next so many pages of the chain with these numbers keeps its layout
abbrev pub IsSoundChain : Image → Superblock → ℕ → Type 0
IsSoundChain image s zero = Unit {0}
IsSoundChain image s (suc left) = (next : ℕ) × Links s next (image s.head) × IsSoundChain image (without_head s next) left

-- the tree of one of these series has this bad page
pub record HasBadTreeOf (image : Image) (total : ℕ) (series : List StoredSeries) (at : ℕ) : Type 0 where
  pub id : ℕ
  pub one : StoredSeries
  pub there : slice_get series id ≡ Some one
  pub bad : HasBadPage image total one.tree.slots (page_levels one.tree.slots) 0 one.tree.root one.tree.span at

-- how many pages the tree of a series has, and that of one of these series
abbrev pub pages_of_series : Image → Option StoredSeries → ℕ
pages_of_series image None = 0
pages_of_series image (Some one) = length (tree_pages image (page_levels one.tree.slots) one.tree.root)

abbrev pub pages_of_root : Image → List StoredSeries → ℕ → ℕ
pages_of_root image series id = pages_of_series image (slice_get series id)

-- of the trees of these series each page was read once at most
abbrev pub ReadsTrees : Image → List StoredSeries → ℕ → ℕ → Type 0
ReadsTrees image series before after = after ≤ before + sum_below (pages_of_root image series) (length series)

-- of the pages that were ever in use, but for page 0 and the catalog, each was read once at most
abbrev pub ReadsOnce : Superblock → View → View → Type 0
ReadsOnce s old new = new.reads + 17 ≤ old.reads + s.fresh

-- the tree of each of these series is sound
abbrev pub AreSoundTrees : Image → ℕ → List StoredSeries → Type 0
AreSoundTrees image total series = (id : ℕ) (one : StoredSeries) → slice_get series id ≡ Some one
    → IsSoundTree image total one.tree.slots (page_levels one.tree.slots) 0 one.tree.root one.tree.span

-- the tree that the record of a series names has this bad page
pub record HasBadTree (image : Image) (s : Superblock) (at : ℕ) : Type 0 where
  pub id : ℕ
  pub within : id < s.series
  pub bad : HasBadPage image s.total (entry image id).slots (page_levels (entry image id).slots) 0 (entry image id).root
      (entry image id).span at

-- the pages of all trees and of the chain are sound
pub record AreSound (image : Image) (s : Superblock) : Type 0 where
  pub trees : (id : ℕ) → id < s.series → IsSoundTree image s.total (entry image id).slots (page_levels (entry image id).slots) 0
      (entry image id).root (entry image id).span
  pub chain : IsSoundChain image s s.chain

-- a page that an error names is below the total
abbrev pub NamesWithin : ℕ → StoreError → Type 0
NamesWithin total (Refused refusal) = Unit {0}
NamesWithin total NotAStore = Unit {0}
NamesWithin total DiskFault = Unit {0}
NamesWithin total (Damaged page) = page < total
NamesWithin total NoMemory = Unit {0}

-- why a store wasn't counted
abbrev pub IsCheckCause : StoreError → Type 0 → Superblock → View → View → Type 0
IsCheckCause (Refused refusal) told s old new = ⊥
IsCheckCause NotAStore told s old new = ⊥
IsCheckCause DiskFault told s old new = HasRisen old.faults new.faults
IsCheckCause (Damaged page) told s old new = told → HasBadTree old.image s page ⊎ HasBadLink old.image s s.chain page
IsCheckCause NoMemory told s old new = Unit {0}

-- why the values of a tree weren't counted
abbrev pub IsTreeCause : StoreError → Type 0 → View → View → ℕ → ℕ → ℕ → ℕ → ℕ → Option Span → Type 0
IsTreeCause (Refused refusal) told old new total slots level index page top = ⊥
IsTreeCause NotAStore told old new total slots level index page top = ⊥
IsTreeCause DiskFault told old new total slots level index page top = HasRisen old.faults new.faults
IsTreeCause (Damaged at) told old new total slots level index page top = told → HasBadPage old.image total slots level index page top at
IsTreeCause NoMemory told old new total slots level index page top = ⊥

-- why a page of this place wasn't read
abbrev pub IsPageCause : StoreError → Type 0 → View → View → ℕ → ℕ → ℕ → Option Span → Type 0
IsPageCause (Refused refusal) told old new total level page top = ⊥
IsPageCause NotAStore told old new total level page top = ⊥
IsPageCause DiskFault told old new total level page top = HasRisen old.faults new.faults
IsPageCause (Damaged at) told old new total level page top = (at ≡ page) × (told → IsBadFor total level top (old.image page))
IsPageCause NoMemory told old new total level page top = ⊥

-- why the chain wasn't passed
abbrev pub IsChainCause : StoreError → Type 0 → Superblock → View → View → Type 0
IsChainCause (Refused refusal) told s old new = ⊥
IsChainCause NotAStore told s old new = ⊥
IsChainCause DiskFault told s old new = HasRisen old.faults new.faults
IsChainCause (Damaged page) told s old new = told → HasBadLink old.image s s.chain page
IsChainCause NoMemory told s old new = Unit {0}

-- why the values of all trees weren't counted, where the catalog in memory has these series
abbrev pub IsTreesCause : StoreError → Type 0 → View → View → ℕ → List StoredSeries → Type 0
IsTreesCause (Refused refusal) told old new total series = ⊥
IsTreesCause NotAStore told old new total series = ⊥
IsTreesCause DiskFault told old new total series = HasRisen old.faults new.faults
IsTreesCause (Damaged at) told old new total series = told → HasBadTreeOf old.image total series at
IsTreesCause NoMemory told old new total series = ⊥
