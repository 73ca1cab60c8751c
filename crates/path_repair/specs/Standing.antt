-- What a change of a tree begins with, and what it leaves.
use Rattle.std.specs.Prelude.{ℕ, ℤ, suc, ◌≡◌, ◌+◌, ◌*◌, ◌<◌, ◌≤◌, nat_lt, if◌then◌else◌, List, ◌∷◌, ◌++◌, length, Option}
use Rattle.block_disk.specs.View.{Image, View, Now, Passes, Rises}
use Rattle.block_disk.specs.Counts.{HasRisen}
use Rattle.gate_pages.specs.Pages.{Quiet}
use Rattle.om3_coeff.specs.declared.span.Span.{Span}
use Rattle.om3_coeff.specs.Spans.{AreSlots, span}
use Rattle.node_page.specs.Fields.{child_at}
use Rattle.page_space.specs.declared.superblock.Superblock.{Superblock}
use Rattle.page_space.specs.Spaces.{times, Stands}
use Rattle.tree_walk.specs.Trees.{top_of_page, IsTree}
use Rattle.page_space.specs.declared.txn.Txn.{Txn}
use Rattle.page_space.specs.Transactions.{held, left_by, told_by}
use Rattle.tree_walk.specs.SpaceViews.{StaysOn}
use Rattle.path_repair.specs.declared.errors.RepairError.{RepairError}
use Rattle.path_repair.specs.declared.errors.RepairError.TheVariants.{Full, DiskFault, Damaged, NoMemory}
use Rattle.path_repair.specs.Sums.{sum_below, join_below}
use Rattle.path_repair.specs.TreePages.{tree_pages, count_where, is_stored_in_either, low, IsRooted}
use Rattle.path_repair.specs.Changes.{IsChanged}

-- reads give what the pages are, and they are these
pub record AreTold (told : Type 0) (view : View) (base : Image) : Type 0 where
  pub are_told : told
  pub are : view.image ≡ base

-- the pages of this list are the same
abbrev pub SameOn : List ℕ → Image → Image → Type 0
SameOn pages old new = (p : ℕ) → 0 < times p pages → new p ≡ old p

-- At most so many blocks are read, and nothing else changes. At each moment a crash leaves what it might have left before.
pub record ReadsMost (most : ℕ) (told_old told_new : Type 0) (old new : View) : Type 0 where
  pub time : Passes old new (Now old) (Quiet old)
  pub told : told_old → told_new
  pub was_told : told_new → told_old
  pub image : told_old → new.image ≡ old.image
  pub size : new.size ≡ old.size
  pub beside : new.beside ≡ old.beside
  pub fit : old.fit → new.fit
  pub faults : old.faults ≤ new.faults
  pub reads : Rises most old.reads new.reads
  pub syncs : new.syncs ≡ old.syncs
  pub writes : new.writes ≡ old.writes

-- a list and the one that a change of these slots makes of it
pub record AreLists (first end : ℕ) (values list list' : List (Option ℤ)) : Type 0 where
  pub old_values : AreSlots list
  pub new_values : AreSlots list'
  pub changed : IsChanged first end values list list'

-- The pages stand for the list in the range of this page level and index, with a root and its span. Beside its pages
-- the others are in use, and there is room for all pages that the list or the changed one needs.
pub record IsPlaced (count : ℕ) (image : Image) (s : Superblock) (list list' : List (Option ℤ)) (height level index page : ℕ)
    (top : Option Span) (others : List ℕ) : Type 0 where
  pub rooted : IsRooted image s.total list height level index page
  pub top_is : top ≡ span list (top_of_page level index)
  pub freed : List ℕ
  pub stands : Stands count image s (tree_pages image (low height level) page ++ others) freed
  pub roomy : 17 + length others + count_where (is_stored_in_either list list') level index ≤ s.total

-- so of each list that the pages stand for there, as a transaction would leave them, and of the one that a change of these
-- slots makes of it
abbrev pub ForPlaced : Type 0 → View → Txn → ℕ → ℕ → List (Option ℤ) → ℕ → ℕ → ℕ → ℕ → Option Span
    → (List (Option ℤ) → List (Option ℤ) → Type 0) → Type 0
ForPlaced told view txn first end values height level index page top IsSo =
    (base : Image) (count : ℕ) (list list' : List (Option ℤ)) (others : List ℕ) → AreTold told view base
    → AreLists first end values list list'
    → IsPlaced count (left_by txn base) (told_by txn) list list' height level index page top others → IsSo list list'

-- the pages stand for the list there, and those of the others are as they were
pub record IsRepaired (count : ℕ) (before image : Image) (s : Superblock) (list : List (Option ℤ)) (level index page : ℕ)
    (top : Option Span) (others : List ℕ) : Type 0 where
  pub tree : IsTree image s.total list level index page
  pub top_is : top ≡ span list (top_of_page level index)
  pub freed : List ℕ
  pub stands : Stands count image s (tree_pages image level page ++ others) freed
  pub same : SameOn others before image

-- the pages of the children below n, of a page that holds these bytes: those of the children below i are of the
-- page level, the others of a tree that is to grow to it
abbrev pub part : Image → ℕ → ℕ → List ℕ → ℕ → ℕ → List ℕ
part image height level bytes i n = join_below (λ child. tree_pages image (if nat_lt child i then level
    else low height level) (child_at bytes child)) n

-- The children below i of a page that is being changed stand for the changed list, the others for the list.
pub record IsPartWay (count : ℕ) (before image : Image) (s : Superblock) (list list' : List (Option ℤ)) (height level index number : ℕ)
    (bytes : List ℕ) (tops : ℕ → Option Span) (i : ℕ) (others : List ℕ) : Type 0 where
  pub done : (child : ℕ) → child < i → IsTree image s.total list' level (128 * index + child) (child_at bytes child)
  pub left : (child : ℕ) → i ≤ child → child < 128 → IsRooted image s.total list height level (128 * index + child) (child_at bytes child)
  pub tops_done : (child : ℕ) → child < i → tops child ≡ span list' (top_of_page level (128 * index + child))
  pub tops_left : (child : ℕ) → i ≤ child → child < 128 → tops child ≡ span list (top_of_page level (128 * index + child))
  pub freed : List ℕ
  pub stands : Stands count image s (number ∷ (part image height level bytes i 128 ++ others)) freed
  pub same : SameOn others before image
  pub roomy : 18 + length others + sum_below (λ child. count_where (is_stored_in_either list list') level (128 * index + child))
      128 ≤ s.total

-- a call reads at most so many blocks, and puts at most so many pages into a transaction
pub record Moved (most_reads most_puts : ℕ) (told_old told_new : Type 0) (old new under_old under_new : View) (before after : Superblock)
    (txn_old txn_new : Txn) : Type 0 where
  pub reads : ReadsMost most_reads told_old told_new old new
  pub over : StaysOn before after under_old under_new
  pub total : (told_by txn_new).total ≡ (told_by txn_old).total
  pub series : (told_by txn_new).series ≡ (told_by txn_old).series
  pub fresh : (told_by txn_old).fresh ≤ (told_by txn_new).fresh
  pub held : length (held txn_new) ≤ length (held txn_old) + most_puts

-- why a tree of so many pages in all wasn't changed, beside what the pages are
abbrev pub IsCause : ℕ → RepairError → ℕ → ℕ → Type 0
IsCause total (Full needed have) old new = (have ≡ total) × (total < needed)
IsCause total DiskFault old new = HasRisen old new
IsCause total (Damaged page) old new = page < total
IsCause total NoMemory old new = ⊥

-- a page was taken that was not in use, and no page but page 0 is another
pub record IsTaken (count : ℕ) (before image : Image) (s : Superblock) (used : List ℕ) (p : ℕ) : Type 0 where
  pub freed : List ℕ
  pub stands : Stands count image s (p ∷ used) freed
  pub same : (q : ℕ) → 0 < q → image q ≡ before q

-- the children of a page, or of one that is to be new above it: so many pages are new, and the others are theirs
pub record IsSeen (image : Image) (total : ℕ) (list : List (Option ℤ)) (height level index page : ℕ) (bytes : List ℕ)
    (pages : ℕ) : Type 0 where
  pub rooted : (child : ℕ) → child < 128 → IsRooted image total list height level (128 * index + child) (child_at bytes child)
  pub sum : 1 + sum_below (λ child. length (tree_pages image (low height level) (child_at bytes child))) 128 ≡ pages + length
      (tree_pages image (low height (suc level)) page)
