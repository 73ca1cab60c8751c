-- Which page a chart of a sum calls damaged.
use Rattle.std.specs.Prelude.{◌≡◌, ◌⊎◌, ℕ, ◌<◌}
use Rattle.block_disk.specs.View.{Image, View}
use Rattle.page_space.specs.declared.superblock.Superblock.{Superblock}
use Rattle.stored_book.specs.Damage.{IsDamagedOnWay, SaysNumbers}

-- The page is below the total that page 0 says, and is damaged on the way to a key of the tree that the record of a series names.
abbrev pub IsBadForChart : ℕ → Image → ℕ → Type 0
IsBadForChart count image page = SaysNumbers count image (λ s. (page < s.total) × IsDamagedOnWay image s page)

-- it is so in the tree of the one or the other of two series
pub record IsDamagedOfPair (x y : ℕ) (image : Image) (s : Superblock) (page : ℕ) : Type 0 where
  pub on_way : IsDamagedOnWay image s page
  pub own : (on_way.id ≡ x) ⊎ (on_way.id ≡ y)

abbrev pub IsBadForPair : ℕ → ℕ → ℕ → Image → ℕ → Type 0
IsBadForPair x y count image page = SaysNumbers count image (λ s. (page < s.total) × IsDamagedOfPair x y image s page)

-- a page that is called damaged is one of so many, and is so where reads give what the pages are
abbrev pub IsBadOnWay : ℕ → ℕ → Type 0 → ℕ → View → ℕ → Type 0
IsBadOnWay x y told total view page = (page < total) × (told → IsBadForPair x y view.size view.image page)
