-- The places of a cache of pages.
use Rattle.std.specs.Prelude.{ℕ, suc, ◌≡◌, ◌<◌, List, [], ◌∷◌, Option, None, Some, slice_index_or}
use Rattle.page_space.specs.declared.page_cache.Kept.{Kept}

-- how many places hold a page
abbrev pub filled : List (Option Kept) → ℕ
filled [] = 0
filled (None ∷ places) = filled places
filled (Some kept ∷ places) = suc (filled places)

-- The copies of the places that hold a page are so many, and no two places have one copy.
pub record AreKept (places : List (Option Kept)) : Type 0 where
  pub within : (at : ℕ) (kept : Kept) → slice_index_or places at None ≡ Some kept → kept.copy < filled places
  pub apart : (a b : ℕ) (one other : Kept) → slice_index_or places a None ≡ Some one → slice_index_or places b None ≡ Some other
      → one.copy ≡ other.copy → a ≡ b
