use Rattle.std.specs.Prelude.{◌≡◌, ℕ, ◌+◌, ◌*◌, ◌<◌, ◌↔◌, ◌⊎◌, Bool, false, List, IsTrue, slice_index_or, sum_by, count_by}
use Rattle.std.specs.List.{range_with_len}

-- A picture of w columns and h rows. The cells stand column by column, each from the bottom row upwards, and true is black.
pub record Canvas : Type 0 where
  pub w : ℕ
  pub h : ℕ
  pub cells : List Bool

-- whether the pixel in column x, from the left, and row y, from the bottom, is black
unfoldable pub black_at : Canvas → ℕ → ℕ → Bool
black_at c x y = slice_index_or c.cells (x * c.h + y) false

-- The new canvas has the old one's size. It is black where the old one was and at the pixels of the set.
pub record Adds (set : ℕ → ℕ → Type 0) (old new : Canvas) : Type 0 where
  pub width : new.w ≡ old.w
  pub height : new.h ≡ old.h
  pub pixels : (x y : ℕ) → x < old.w → y < old.h → IsTrue (black_at new x y) ↔ (IsTrue (black_at old x y) ⊎ set x y)

-- the canvas has this size, and each of its pixels is white
pub record IsBlank (w h : ℕ) (c : Canvas) : Type 0 where
  pub width : c.w ≡ w
  pub height : c.h ≡ h
  pub white : (x y : ℕ) → x < w → y < h → black_at c x y ≡ false

-- how many pixels of a column are black
abbrev pub black_in_column : Canvas → ℕ → ℕ
black_in_column c x = count_by (black_at c x) (range_with_len 0 c.h)

-- how many pixels of the canvas are black
abbrev pub black_pixels : Canvas → ℕ
black_pixels c = sum_by (black_in_column c) (range_with_len 0 c.w)
