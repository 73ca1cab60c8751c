-- Stores of version 1.
use Rattle.std.specs.Prelude.{ℕ, ◌^◌, ◌≡◌, ◌≢◌, ◌≤◌, ◌<◌, Bool, eqb, List, [], ◌∷◌, ◌++◌, drop, slice_index}
use Rattle.std.specs.List.{starts_with}
use Rattle.block_disk.specs.View.{Image}
use Rattle.catalog_page.specs.Fields.{record_bytes, used_at, slots_at}

-- CHARTST1
abbrev pub old_magic : List ℕ
old_magic = 67 ∷ 72 ∷ 65 ∷ 82 ∷ 84 ∷ 83 ∷ 84 ∷ 49 ∷ []

-- page 0 begins with the old magic
abbrev pub HasOldMagic : List ℕ → Type 0
HasOldMagic page = page ≡ old_magic ++ drop 8 page

-- whether it does
unfoldable pub has_old_magic : List ℕ → Bool
has_old_magic page = starts_with eqb page old_magic

-- the byte of a record that is 0 in version 1, and has the page levels of the slots in version 2
abbrev pub levels_byte : List ℕ → ℕ
levels_byte bytes = slice_index bytes 80

-- a record of a series
abbrev pub IsInUse : List ℕ → Type 0
IsInUse bytes = used_at bytes ≢ 0

-- a record in use has no levels yet, and at most 2^28 slots
pub record IsOldRecord (bytes : List ℕ) : Type 0 where
  pub levels : levels_byte bytes ≡ 0
  pub slots : slots_at bytes ≤ 2 ^ 28

-- record i of a page is one where it is in use
abbrev pub HasOldRecord : List ℕ → ℕ → Type 0
HasOldRecord page i = IsInUse (record_bytes page i) → IsOldRecord (record_bytes page i)

-- a page of the catalog, as far as version 1 has rules of its own
pub record KeepsOldRules (page : List ℕ) : Type 0 where
  pub kind : slice_index page 0 ≡ 3
  pub records : (i : ℕ) → i < 32 → HasOldRecord page i

-- the pages are those of a store of version 1, as far as page 0 and the catalog tell
pub record IsOldStore (image : Image) : Type 0 where
  pub magic : HasOldMagic (image 0)
  pub catalog : (p : ℕ) → 1 ≤ p → p < 17 → KeepsOldRules (image p)
