-- Which pages are in use, which are freed, and which were never used.
use Rattle.std.specs.Prelude.{ℕ, suc, ◌+◌, ◌≡◌, ◌&&◌, ◌==◌, nat_le, nat_lt, if◌then◌else◌, List, [], ◌∷◌, length}
use Rattle.block_disk.specs.View.{Image}
use Rattle.page_space.specs.declared.superblock.Superblock.{Superblock}
use Rattle.page_space.specs.Layout.{superblock_page, freed_page, IsSuperblock}

-- how often a number stands in a list
abbrev pub times : ℕ → List ℕ → ℕ
times p [] = 0
times p (q ∷ qs) = if p == q then suc (times p qs) else times p qs

-- the first page of a chain, or 0
abbrev pub first : List ℕ → ℕ
first [] = 0
first (p ∷ ps) = p

-- each page of a chain names the next one, the last names 0
abbrev pub IsLinked : Image → List ℕ → Type 0
IsLinked image [] = Unit {0}
IsLinked image (p ∷ ps) = (image p ≡ freed_page (first ps)) × IsLinked image ps

-- the pages behind the catalog that were ever in use, each once
abbrev pub once : ℕ → ℕ → ℕ
once fresh p = if nat_le 17 p && nat_lt p fresh then 1 else 0

-- The pages have these numbers on page 0. Behind the catalog these are in use, and those are freed, in
-- the order of the chain. Each page that was ever in use is one of the two, once; no other page is.
pub record Stands (count : ℕ) (image : Image) (s : Superblock) (taken freed : List ℕ) : Type 0 where
  pub spelled : image 0 ≡ superblock_page s
  pub rules : IsSuperblock count s
  pub head_is : s.head ≡ first freed
  pub chain_is : s.chain ≡ length freed
  pub linked : IsLinked image freed
  pub parted : (p : ℕ) → times p taken + times p freed ≡ once s.fresh p
