-- An edit of a tree: the slots that are given values, and how many slots there are afterwards.
use Rattle.std.specs.Prelude.{ℕ, ℤ, Bool, ◌+◌, List, [], ◌∷◌, length, max, Option, Some}
use Rattle.block_disk.specs.View.{Image}
use Rattle.om3_coeff.specs.Keys.{page_levels}
use Rattle.om3_coeff.specs.declared.span.Span.{Span}
use Rattle.page_space.specs.Transactions.{left_by, told_by}
use Rattle.page_space.specs.declared.txn.Txn.{Txn}
use Rattle.tree_walk.specs.declared.tree.Tree.{Tree}
use Rattle.path_repair.specs.Apart.{TellsUnfit, AreApart, NamesDamaged, reached_pages}
use Rattle.path_repair.specs.Costs.{touch}
use Rattle.path_repair.specs.Damage.{IsDamage, IsUnfitBelow}
use Rattle.path_repair.specs.Edited.{IsEditedTree}
use Rattle.path_repair.specs.Keeping.{KeepsCatalog, root_level}
use Rattle.path_repair.specs.declared.errors.RepairError.{RepairError}

-- the slots from first on and below end are given these values, or cleared where there are none for them
pub record Edit : Type 0 where
  pub first : ℕ
  pub end : ℕ
  pub slots : ℕ
  pub values : List (Option ℤ)

abbrev pub edit_of : ℕ → ℕ → ℕ → List (Option ℤ) → Edit
edit_of first end slots values = record { first = first; end = end; slots = slots; values = values }

-- values are put from a slot on
abbrev pub run_in : Tree → ℕ → List (Option ℤ) → Edit
run_in tree slot values = record {
  first = slot;
  end = slot + length values;
  slots = max tree.slots (slot + length values);
  values = values;
}

-- one value is put
abbrev pub slot_in : Tree → ℕ → ℤ → Edit
slot_in tree slot value = record { first = slot; end = slot + 1; slots = max tree.slots (slot + 1); values = Some value ∷ [] }

-- the tree becomes one of so many slots
abbrev pub grow_to : ℕ → Edit
grow_to slots = record { first = 0; end = 0; slots = slots; values = [] }

-- so many slots are cleared
abbrev pub clear_in : Tree → ℕ → ℕ → Edit
clear_in tree slot count = record { first = slot; end = slot + count; slots = tree.slots; values = [] }

-- how many pages of the changed tree the edit passes
abbrev pub passed : Tree → Edit → ℕ
passed tree edit = touch edit.first edit.end (page_levels tree.slots) (page_levels edit.slots) 0

-- and how many pages of the given one
abbrev pub old_passed : Tree → Edit → ℕ
old_passed tree edit = touch edit.first edit.end (page_levels tree.slots) (page_levels tree.slots) 0

-- the pages stand with the new tree for this list, and those of the others are as they were
abbrev pub IsAfter : Txn → Txn → Image → ℕ → Tree → List (Option ℤ) → List ℕ → Type 0
IsAfter old new base count tree list others = IsEditedTree count (left_by old base) (left_by new base) (told_by new) tree list others

-- which page of the tree `Damaged` names
abbrev pub IsDamageOf : Txn → Txn → Image → Tree → RepairError → Type 0
IsDamageOf old new base tree cause = IsDamage (left_by new base) (told_by old).fresh (told_by new)
    (page_levels tree.slots) tree.root tree.span cause

-- the page is damaged before the change, where the pages of the tree, as far as they fit, and of the chain are apart
abbrev pub BlamesStored : Txn → Image → Tree → RepairError → Type 0
BlamesStored txn base tree cause =
    (fits : ℕ → ℕ → Bool) → TellsUnfit (left_by txn base) (told_by txn).total fits
    → AreApart (left_by txn base) (told_by txn) (reached_pages fits (left_by txn base) (page_levels tree.slots) tree.root)
    → NamesDamaged (left_by txn base) (told_by txn) (told_by txn).total (page_levels tree.slots) tree.root tree.span cause

-- which page of the tree below a place `Damaged` names
abbrev pub IsDamageAt : Txn → Txn → Image → ℕ → ℕ → ℕ → ℕ → Option Span → RepairError → Type 0
IsDamageAt old new base height level index page top cause = IsDamage (left_by new base) (told_by old).fresh (told_by new)
    (root_level height level index) page top cause

-- and which one that is unfit for its place alone
abbrev pub IsUnfitUnder : Txn → Image → ℕ → ℕ → ℕ → ℕ → ℕ → RepairError → Type 0
IsUnfitUnder txn base total height level index page cause = IsUnfitBelow (left_by txn base) (told_by txn).fresh total
    (root_level height level index) page cause

-- the pages of the catalog, none of which is of the kind of a tree page, are what they were
abbrev pub LeavesCatalog : Txn → Txn → Image → Type 0
LeavesCatalog old new base = KeepsCatalog (left_by old base) (left_by new base)
