-- A tree before and after a change.
use Rattle.std.specs.Prelude.{ℕ, ℤ, ◌≡◌, ◌+◌, ◌<◌, ◌++◌, List, length, Option}
use Rattle.block_disk.specs.View.{Image}
use Rattle.om3_coeff.specs.Keys.{page_levels}
use Rattle.page_space.specs.Layout.{in_use}
use Rattle.page_space.specs.declared.superblock.Superblock.{Superblock}
use Rattle.page_space.specs.declared.txn.Txn.{Txn}
use Rattle.page_space.specs.Spaces.{Stands}
use Rattle.page_space.specs.Transactions.{told_by}
use Rattle.tree_walk.specs.declared.tree.Tree.{Tree}
use Rattle.tree_walk.specs.Trees.{StandsFor}
use Rattle.path_repair.specs.declared.errors.RepairError.{RepairError}
use Rattle.path_repair.specs.declared.errors.RepairError.TheVariants.{Full, DiskFault, Damaged, NoMemory}
use Rattle.path_repair.specs.TreePages.{tree_pages, page_count}
use Rattle.path_repair.specs.Standing.{SameOn}

-- The pages stand with the tree for the list. In use behind the catalog are the tree's pages and the
-- others, each page once, and those of the chain are freed.
pub record IsHeldTree (count : ℕ) (image : Image) (s : Superblock) (tree : Tree) (list : List (Option ℤ)) (others : List ℕ) : Type 0 where
  pub is_tree : StandsFor image s.total tree list
  pub freed : List ℕ
  pub stands : Stands count image s (tree_pages image (page_levels tree.slots) tree.root ++ others) freed

-- the same of the changed tree, and the pages of the others are as they were
pub record IsEditedTree (count : ℕ) (before image : Image) (s : Superblock) (tree : Tree) (list : List (Option ℤ))
    (others : List ℕ) : Type 0 where
  pub holds : IsHeldTree count image s tree list others
  pub others_same : SameOn others before image

-- so many pages would be in use with those that the changed list needs more, and there are fewer
pub record IsFullFor (total used : ℕ) (list list' : List (Option ℤ)) (needed have : ℕ) : Type 0 where
  pub needs : needed + page_count list (page_levels (length list)) 0 ≡ used + page_count list' (page_levels (length list')) 0
  pub has : have ≡ total
  pub more : total < needed

-- which errors come where pages stand for a list
abbrev pub IsErrorFor : Txn → Txn → List (Option ℤ) → List (Option ℤ) → RepairError → Type 0
IsErrorFor old new list list' (Full needed have) = IsFullFor (told_by old).total (in_use (told_by old)) list list' needed have × (new ≡ old)
IsErrorFor old new list list' DiskFault = Unit {0}
IsErrorFor old new list list' (Damaged page) = ⊥
IsErrorFor old new list list' NoMemory = ⊥
