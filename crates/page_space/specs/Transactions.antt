-- What a transaction would leave.
use Rattle.std.specs.Prelude.{ℕ, ◌≡◌, ◌<◌, ◌⊎◌, IsTrue, is_some, List, length, Option}
use Rattle.block_disk.specs.View.{Image}
use Rattle.gate_pages.specs.Batch.{Entry, page_in, put_all}
use Rattle.gate_pages.specs.Entries.{entries}
use Rattle.page_space.specs.declared.superblock.Superblock.{Superblock}
use Rattle.page_space.specs.declared.txn.Txn.{Txn}

-- the pages that it holds
abbrev pub held : Txn → List Entry
held txn = entries txn.batch

abbrev pub held_page : Txn → ℕ → Option (List ℕ)
held_page txn p = page_in (entries txn.batch) p

-- the pages as it would leave them
abbrev pub left_by : Txn → Image → Image
left_by txn image = put_all (entries txn.batch) image

-- what page 0 would tell
abbrev pub told_by : Txn → Superblock
told_by txn = txn.superblock

-- one more page may be held, of this number
abbrev pub HasRoom : Txn → ℕ → Type 0
HasRoom txn p = IsTrue (is_some (held_page txn p)) ⊎ (length (held txn) < 64)

-- another page 0 is held, and else the same
pub record OnlyFirst (old new : Txn) : Type 0 where
  pub len : length (held new) ≡ length (held old)
  pub others : (p : ℕ) → 0 < p → held_page new p ≡ held_page old p
