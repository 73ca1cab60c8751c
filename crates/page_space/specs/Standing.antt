-- What follows where pages stand.
use Rattle.std.specs.Prelude.{ℕ, ◌+◌, ◌≡◌, ◌≤◌, ◌<◌, List}
use Rattle.page_space.specs.declared.superblock.Superblock.{Superblock}
use Rattle.page_space.specs.Layout.{IsGiven}
use Rattle.page_space.specs.Spaces.{times}

-- a page is in use or freed once at the most, and where it was ever given out, it is one of the two
pub record IsApart (s : Superblock) (taken freed : List ℕ) (p : ℕ) : Type 0 where
  pub once : times p taken + times p freed ≤ 1
  pub given : 0 < times p taken + times p freed → IsGiven s.fresh p
  pub kept : IsGiven s.fresh p → times p taken + times p freed ≡ 1

-- the same numbers, the same chain, and the same pages in use
pub record IsSame (s other : Superblock) (taken taken' freed freed' : List ℕ) : Type 0 where
  pub numbers : other ≡ s
  pub chain : freed' ≡ freed
  pub in_use : (p : ℕ) → times p taken' ≡ times p taken
