-- The steps of a commit and of a recovery.
use Rattle.std.specs.Prelude.{ℕ, ◌+◌, ◌-◌, ◌≡◌, ◌≤◌, ◌<◌, min, IsTrue, List, Some}
use Rattle.block_disk.specs.View.{Image}
use Rattle.gate_pages.specs.Batch.{Entry, is_one_of, all_below, numbers}
use Rattle.gate_pages.specs.Journal.{directory, images, most_blocks}

-- any block
abbrev pub Anywhere : ℕ → Type 0
Anywhere number = Unit {0}

-- a block of the journal: its directory, or an image
abbrev pub IsJournal : ℕ → Type 0
IsJournal number = (1 ≤ number) × (number < 66)

-- the block of a page of one of these numbers
abbrev pub IsHome : List ℕ → ℕ → Type 0
IsHome ns number = (66 ≤ number) × IsTrue (is_one_of ns (number - 66))

-- the pages of these numbers lie within the used blocks of a disk of so many
abbrev pub LiesWithin : ℕ → List ℕ → Type 0
LiesWithin size ns = (n : ℕ) → IsTrue (is_one_of ns n) → n + 66 < min size most_blocks

-- the journal holds this batch
pub record HoldsBatch (batch : List Entry) (image : Image) : Type 0 where
  pub listed : (count : ℕ) → IsTrue (all_below count (numbers batch)) → directory count (image 1) ≡ Some (numbers batch)
  pub images_are : images (numbers batch) 2 image ≡ batch
