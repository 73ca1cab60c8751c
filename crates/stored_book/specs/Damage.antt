-- Which page is damaged, by what page 0 and the catalog of an image say.
use Rattle.std.specs.Prelude.{ℕ, ◌<◌, ◌⊎◌, Bool}
use Rattle.block_disk.specs.View.{Image}
use Rattle.om3_coeff.specs.Keys.{page_levels}
use Rattle.page_space.specs.declared.superblock.Superblock.{Superblock}
use Rattle.page_space.specs.Layout.{Keeps}
use Rattle.tree_walk.specs.Paths.{IsDamaged}
use Rattle.path_repair.specs.Apart.{TellsUnfit, AreApart, IsDamagedPage, reached_pages}
use Rattle.path_repair.specs.Sums.{join_below}
use Rattle.stored_book.specs.Records.{entry, tree_of}

-- page 0 of so many pages keeps its layout, and this is so of the numbers that it says
pub record SaysNumbers (count : ℕ) (image : Image) (IsSo : Superblock → Type 0) : Type 0 where
  pub numbers : Superblock
  pub keeps : Keeps count numbers (image 0)
  pub so : IsSo numbers

-- The page is on the way to a key of the tree that the record of a series names: it breaks its layout, isn't of the level
-- of its place, names a page past the total, or has a coefficient of the key that doesn't split the key's span.
pub record IsDamagedOnWay (image : Image) (s : Superblock) (page : ℕ) : Type 0 where
  pub id : ℕ
  pub there : id < s.series
  pub damaged : IsDamaged image s.total (tree_of (entry image id)) page

-- the page is so in the tree that the record of a series names, or breaks the layout of a page of the chain
pub record IsDamagedBelow (image : Image) (s : Superblock) (page : ℕ) : Type 0 where
  pub id : ℕ
  pub there : id < s.series
  pub damaged : IsDamagedPage image s s.total (page_levels (entry image id).slots) (entry image id).root (entry image id).span page

-- The pages of the trees of all series, as far as those above them fit their places, and those of the chain, up to the first
-- that breaks its layout, were in use before, each once.
pub record UsesOnce (image : Image) (s : Superblock) : Type 0 where
  pub fits : ℕ → ℕ → Bool
  pub tells : TellsUnfit image s.total fits
  pub apart : AreApart image s (join_below (λ id. reached_pages fits image (page_levels (entry image id).slots) (entry image id).root)
      s.series)

-- the page is so where no page is used twice
abbrev pub IsDamagedOnce : Image → Superblock → ℕ → Type 0
IsDamagedOnce image s page = UsesOnce image s → IsDamagedBelow image s page

-- A page that an edit calls damaged is below the total that page 0 says, and is so.
abbrev pub IsBadForEdit : ℕ → Image → ℕ → Type 0
IsBadForEdit count image page = SaysNumbers count image (λ s. (page < s.total) × IsDamagedOnce image s page)

-- A page that an edit or a view calls damaged is below the total that page 0 says, and is so for the one or the other.
abbrev pub IsBadForRequest : ℕ → Image → ℕ → Type 0
IsBadForRequest count image page = SaysNumbers count image (λ s. (page < s.total)
    × (IsDamagedOnWay image s page ⊎ IsDamagedOnce image s page))
