-- What the calls that change a tree on a space do.
use Rattle.std.specs.Prelude.{ℕ, ℤ, Bool, suc, ◌≡◌, ◌+◌, ◌*◌, List, Option}
use Rattle.block_disk.specs.View.{Image}
use Rattle.gate_pages.specs.declared.pages.Pages.{Ghosts}
use Rattle.page_space.specs.Shown as shown
use Rattle.page_space.specs.Spaces.{Stands}
use Rattle.page_space.specs.Transactions.{left_by, told_by}
use Rattle.page_space.specs.declared.superblock.Superblock.{Superblock}
use Rattle.page_space.specs.declared.space.Space.{Space}
use Rattle.page_space.specs.declared.txn.Txn.{Txn}
use Rattle.tree_walk.specs.declared.tree.Tree.{Tree}
use Rattle.path_repair.specs.Changes.{IsEdited}
use Rattle.path_repair.specs.Edited.{IsHeldTree}
use Rattle.path_repair.specs.Edits.{Edit, passed, old_passed}
use Rattle.path_repair.specs.Apart.{StandsApart}
use Rattle.path_repair.specs.Standing.{AreTold, Moved, IsCause}
use Rattle.path_repair.specs.declared.errors.RepairError.{RepairError}

module _ {P : Type 0} {g : Ghosts P} where
  -- a call reads at most so many blocks, and puts at most so many pages into a transaction
  abbrev pub Moves : ℕ → ℕ → Space P g → Space P g → Txn → Txn → Type 0
  Moves reads puts old new before after = Moved reads puts (shown.IsTold old) (shown.IsTold new) (shown.view old) (shown.view new)
      (shown.under old) (shown.under new) (shown.numbers old) (shown.numbers new) before after

  -- an edit reads and puts at most the pages that it passes, and may read each of them twice
  abbrev pub Edits : Space P g → Space P g → Txn → Txn → Tree → Edit → Type 0
  Edits old new before after tree edit = Moves (2 * passed tree edit) (passed tree edit) old new before after

  -- or only each page of the given tree twice
  abbrev pub Passes : Space P g → Space P g → Txn → Txn → Tree → Edit → Type 0
  Passes old new before after tree edit = Moves (old_passed tree edit + passed tree edit) (passed tree edit) old new before after

  -- why the tree wasn't changed, beside what the pages are
  abbrev pub Explains : RepairError → Space P g → Space P g → Type 0
  Explains cause old new = IsCause (shown.total old) cause (shown.view old).faults (shown.view new).faults

  -- so of the pages, where reads give what they are
  abbrev pub ForPages : Space P g → (Image → Type 0) → Type 0
  ForPages it IsSo = (base : Image) → AreTold (shown.IsTold it) (shown.view it) base → IsSo base

  -- so of them, and of the page level below this one
  abbrev pub ForPagesAbove : Space P g → ℕ → (Image → ℕ → Type 0) → Type 0
  ForPagesAbove it level IsSo = (base : Image) (below : ℕ) → AreTold (shown.IsTold it) (shown.view it) base → level ≡ suc below
      → IsSo base below

  -- so of each list that the pages stand for with the tree, and of the list that the edit makes of it
  abbrev pub ForEdit : Space P g → Txn → Tree → Edit → (Image → ℕ → List (Option ℤ) → List (Option ℤ) → List ℕ → Type 0) → Type 0
  ForEdit it txn tree edit IsSo =
      (base : Image) (count : ℕ) (list list' : List (Option ℤ)) (others : List ℕ) → AreTold (shown.IsTold it) (shown.view it) base
      → IsHeldTree count (left_by txn base) (told_by txn) tree list others → IsEdited edit.first edit.end edit.slots edit.values list list'
      → IsSo base count list list' others

  -- so of the pages and of the pages in use, where they stand as the transaction would leave them
  abbrev pub ForStanding : Space P g → Txn → (Image → ℕ → List ℕ → Type 0) → Type 0
  ForStanding it txn IsSo =
      (base : Image) (count : ℕ) (used freed : List ℕ) → AreTold (shown.IsTold it) (shown.view it) base
      → Stands count (left_by txn base) (told_by txn) used freed → IsSo base count used

  -- so of the pages as they were stored, where these are apart: those in hand, and those left alone
  abbrev pub ForApart : Space P g → Txn → ((ℕ → ℕ → Bool) → Image → (ℕ → ℕ) → ℕ → ℕ)
      → (Image → (ℕ → ℕ → Bool) → Image → Superblock → (ℕ → ℕ) → (ℕ → ℕ) → Type 0) → Type 0
  ForApart it txn left IsSo =
      (base : Image) (fits : ℕ → ℕ → Bool) (stored : Image) (from : Superblock) (mine kept : ℕ → ℕ)
      → AreTold (shown.IsTold it) (shown.view it) base
      → StandsApart fits stored (left_by txn base) from (told_by txn) mine (left fits stored kept) → IsSo base fits stored from mine kept
