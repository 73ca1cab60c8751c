-- A tree some pages of which are damaged: what stands on the others.
use Rattle.std.specs.Prelude.{ℕ, ℤ, zero, suc, ◌≡◌, ◌≢◌, ◌+◌, ◌*◌, ◌^◌, ◌<◌, ◌≤◌, ◌⊎◌, List, length, Option, None, IsSome}
use Rattle.block_disk.specs.View.{Image}
use Rattle.catalog_page.specs.Entries.{Entry}
use Rattle.om3_coeff.specs.declared.span.Span.{Span}
use Rattle.om3_coeff.specs.Keys.{page_levels, top_key}
use Rattle.om3_coeff.specs.Spans.{AreSlots, span}
use Rattle.node_page.specs.Fields.{child_at}
use Rattle.path_repair.specs.Damage.{AreBelow}
use Rattle.series_book.specs.declared.one_series.Series.{Series}
use Rattle.page_space.specs.declared.superblock.Superblock.{Superblock}
use Rattle.stored_book.specs.OneSeries.{HasOneRecord}
use Rattle.stored_book.specs.Records.{tree_of}
use Rattle.stored_book.specs.Standing.{IsRecordOf}
use Rattle.tree_walk.specs.declared.tree.Tree.{Tree}
use Rattle.tree_walk.specs.Trees.{top_of_page, HoldsNodes, StandsFor}
use Rattle.series_store.specs.Counting.{IsSoundPage}

-- The page fits its place: it keeps the layout of a tree page, is of this page level, names pages below the total, and its
-- coefficients split the span of its top and those below.
pub record IsFitPage (total level : ℕ) (top : Option Span) (page : List ℕ) : Type 0 where
  pub sound : IsSoundPage total level page
  pub spans : ℕ → Option Span
  pub below : AreBelow top page spans

-- The page is that of the range of 128^level slots with this index, where pages fit: where the range has a stored value, a page
-- below the total, which holds its nodes and names the pages of its 128 parts if it fits its place; else 0. Of a page that
-- doesn't fit, and of what it names, nothing is said.
abbrev pub IsTreeWhereFit : Image → ℕ → List (Option ℤ) → ℕ → ℕ → ℕ → Type 0
IsTreeWhereFit image total list zero index page = page ≡ 0
IsTreeWhereFit image total list (suc level) index page =
    ((page ≡ 0) × (span list (top_of_page (suc level) index) ≡ None))
    ⊎ ((page ≢ 0) × (page < total) × IsSome (span list (top_of_page (suc level) index))
    × (IsFitPage total (suc level) (span list (top_of_page (suc level) index)) (image page)
    → HoldsNodes list (suc level) index (image page)
    × ((child : ℕ) → child < 128 → IsTreeWhereFit image total list level (128 * index + child) (child_at (image page) child))))

-- where they fit, these pages and this tree stand for the list
pub record StandsWhereFit (image : Image) (total : ℕ) (tree : Tree) (list : List (Option ℤ)) : Type 0 where
  pub values : AreSlots list
  pub few : length list ≤ 2 ^ 35
  pub slots : tree.slots ≡ length list
  pub root_span : tree.span ≡ span list (top_key (length list))
  pub pages : IsTreeWhereFit image total list (page_levels (length list)) 0 tree.root

-- the record says what the series is, and where pages fit, the tree that it names stands for the slots
pub record IsKeptWhereFit (image : Image) (total : ℕ) (series : Series) (e : Entry) : Type 0 where
  pub record_is : IsRecordOf series e
  pub tree : StandsWhereFit image total (tree_of e) series.slots

-- the same of the one record of this name that page 0 counts
abbrev pub HoldsWhereFit : Image → Superblock → List ℕ → Series → Type 0
HoldsWhereFit image s name series = HasOneRecord image s name (IsKeptWhereFit image s.total series)

-- the page fits no place of a tree
abbrev pub FitsNowhere : ℕ → List ℕ → Type 0
FitsNowhere total page = (level : ℕ) (top : Option Span) → IsFitPage total level top page → ⊥

-- A whole tree of which pages are changed, so that none of these fits a place, stands where pages fit.
abbrev pub DamagedTreesStand : Type 0
DamagedTreesStand =
    (old new : Image) (total : ℕ) (tree : Tree) (list : List (Option ℤ))
    → ((page : ℕ) → (new page ≡ old page) ⊎ FitsNowhere total (new page)) → StandsFor old total tree list
    → StandsWhereFit new total tree list
