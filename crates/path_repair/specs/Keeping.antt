-- What a change keeps of the pages and of the tree.
use Rattle.std.specs.Prelude.{ℕ, ◌≡◌, ◌≢◌, ◌<◌, ◌≤◌, ◌⊎◌, ◌↔◌, ◌==◌, true, false, Option, None, List, if◌then◌else◌}
use Rattle.block_disk.specs.View.{Image}
use Rattle.om3_coeff.specs.declared.span.Span.{Span}
use Rattle.om3_coeff.specs.Spans.{IsProperIfAny}
use Rattle.node_page.specs.Fields.{level_at, child_at}
use Rattle.node_page.specs.Layout.{KeepsLayout, IsKind}
use Rattle.page_space.specs.declared.superblock.Superblock.{Superblock}
use Rattle.page_space.specs.Layout.{IsGiven}
use Rattle.tree_walk.specs.declared.tree.Tree.{Tree}
use Rattle.path_repair.specs.Costs.{is_new_root, touch}
use Rattle.path_repair.specs.Damage.{AreBelow, IsNoNew}

-- the pages of the catalog, none of which is of the kind of a tree page, are what they were
abbrev pub KeepsCatalog : Image → Image → Type 0
KeepsCatalog before after = (p : ℕ) → 1 ≤ p → p < 17 → (IsKind (before p) → ⊥) → after p ≡ before p

-- a page of the catalog that is no tree page, or a tree page of a higher page level that the change didn't take
abbrev pub IsSpared : ℕ → ℕ → ℕ → ℕ → List ℕ → Type 0
IsSpared level fresh last p page = ((p < 17) × (IsKind page → ⊥)) ⊎ (IsNoNew fresh last p × IsKind page × (level < level_at page))

-- a change of a page of this page level and of those below it spares the pages of the catalog and those above
abbrev pub Spares : ℕ → ℕ → ℕ → Image → Image → Type 0
Spares level fresh last before after = (p : ℕ) → 1 ≤ p → IsSpared level fresh last p (before p) → after p ≡ before p

-- a page that may be put: it is a tree page of this page level, or it was taken from the chain or never in use
abbrev pub IsOwn : Image → ℕ → ℕ → ℕ → ℕ → Type 0
IsOwn image fresh last level number =
    (IsKind (image number) × (level_at (image number) ≡ level))
    ⊎ ((17 ≤ number) × ((IsKind (image number) → ⊥) ⊎ ((fresh ≤ number) × (number < last))))

-- the page level of the root below which a place lies in a tree of this height
unfoldable pub root_level : ℕ → ℕ → ℕ → ℕ
root_level height level index = if is_new_root height level index then height else level

-- the page of a place was read
pub record IsRead (height level index page : ℕ) (bytes : List ℕ) : Type 0 where
  pub some : page ≢ 0
  pub old : is_new_root height level index ≡ false
  pub keeps : KeepsLayout bytes
  pub level_is : level_at bytes ≡ level

-- the page of a place is new: above the root of a lower tree, or where there was none
pub record IsNew (height level index page : ℕ) (bytes : List ℕ) : Type 0 where
  pub why : (page ≡ 0) ⊎ (is_new_root height level index ≡ true)
  pub first : child_at bytes 0 ≡ page
  pub none : (child : ℕ) → 0 < child → child < 128 → child_at bytes child ≡ 0

abbrev pub IsLookedAt : ℕ → ℕ → ℕ → ℕ → List ℕ → Type 0
IsLookedAt height level index page bytes = IsRead height level index page bytes ⊎ IsNew height level index page bytes

-- and the spans below its top
abbrev pub IsOpened : ℕ → ℕ → ℕ → ℕ → Option Span → List ℕ → (ℕ → Option Span) → Type 0
IsOpened height level index page top bytes spans =
    (IsRead height level index page bytes × AreBelow top bytes spans)
    ⊎ (IsNew height level index page bytes × (spans 127 ≡ top))

-- a page that was read is as the pages are
abbrev pub IsAsTold : Image → ℕ → ℕ → ℕ → ℕ → List ℕ → Type 0
IsAsTold image height level index page bytes = page ≢ 0 → is_new_root height level index ≡ false → bytes ≡ image page

-- a page is read only where there is one, and it isn't the root of a lower tree
unfoldable pub look_most : ℕ → ℕ → ℕ → ℕ → ℕ
look_most height level index page = if page == 0 then 0 else (if is_new_root height level index then 0 else 1)

-- so many pages are read while those are counted that a change needs more: none where there is none, and
-- else the touched ones of the old tree
unfoldable pub count_most : ℕ → ℕ → ℕ → ℕ → ℕ → ℕ → ℕ
count_most page first end height level index = if page == 0 then 0 else touch first end height (root_level height level index) index

-- the root after a change is none, the one from before, or a page behind the catalog
abbrev pub IsNewRoot : ℕ → ℕ → ℕ → Type 0
IsNewRoot fresh old new = (new ≡ 0) ⊎ ((new ≡ old) ⊎ IsGiven fresh new)

-- there is a page exactly where there is a span
abbrev pub IsMatched : ℕ → Option Span → Type 0
IsMatched page span = (page ≡ 0) ↔ (span ≡ None)

-- the tree after a change to so many slots
pub record IsNewTree (slots : ℕ) (s : Superblock) (old new : Tree) : Type 0 where
  pub slots_are : new.slots ≡ slots
  pub root_is : IsNewRoot s.fresh old.root new.root
  pub below : new.root < s.total
  pub proper : IsProperIfAny new.span
  pub matched : IsMatched old.root old.span → IsMatched new.root new.span
