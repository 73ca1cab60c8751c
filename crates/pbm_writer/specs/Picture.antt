use Rattle.std.specs.Prelude.{◌≡◌, ℕ, zero, suc, ◌+◌, ◌-◌, ◌*◌, ◌/◌, ◌%◌, ◌<◌, ◌≤◌, ◌↔◌, ◌&&◌, nat_lt, if◌then◌else◌, List, [], ◌++◌}
use Rattle.std.specs.Prelude.{length, map, take, slice_index, IsTrue, codes}
use Rattle.std.specs.List.{range_with_len}
use Rattle.std.specs.Int.{div_ceil, bit_at}
use Rattle.std.specs.Fmt.{decimal}
use Rattle.line_raster.specs.Canvas.{Canvas, black_at}

-- 1 for a black pixel, 0 for a white one and beyond the last column
abbrev pub ink : Canvas → ℕ → ℕ → ℕ
ink c x y = if nat_lt x c.w && black_at c x y then 1 else 0

-- byte k of row y: the pixels of columns 8 * k to 8 * k + 7, the leftmost in the highest bit
abbrev pub byte_at : Canvas → ℕ → ℕ → ℕ
byte_at c k y =
    128 * ink c (8 * k) y + 64 * ink c (8 * k + 1) y + 32 * ink c (8 * k + 2) y + 16 * ink c (8 * k + 3) y
    + 8 * ink c (8 * k + 4) y + 4 * ink c (8 * k + 5) y + 2 * ink c (8 * k + 6) y + ink c (8 * k + 7) y

-- how many bytes a row of w pixels takes
abbrev pub row_bytes : ℕ → ℕ
row_bytes w = div_ceil w 8

-- the bytes of row y
abbrev pub row : Canvas → ℕ → List ℕ
row c y = map (λ k. byte_at c k y) (range_with_len 0 (row_bytes c.w))

-- the rows below row y, from the top
abbrev pub rows_below : Canvas → ℕ → List ℕ
rows_below c zero = []
rows_below c (suc y) = row c y ++ rows_below c y

-- P4, the width and the height
abbrev pub head : ℕ → ℕ → List ℕ
head w h = codes "P4\n" ++ (decimal w ++ (codes " " ++ (decimal h ++ codes "\n")))

-- a canvas as a raw portable bitmap
abbrev pub picture : Canvas → List ℕ
picture c = head c.w c.h ++ rows_below c c.h

-- where the byte of the pixel in column x and row y stands
abbrev pub place : Canvas → ℕ → ℕ → ℕ
place c x y = length (head c.w c.h) + ((c.h - 1 - y) * row_bytes c.w + x / 8)

-- The bytes are the head and the rows' bytes, whose bits show the pixels, and no other bit is 1.
pub record Shows (c : Canvas) (bytes : List ℕ) : Type 0 where
  pub front : take (length (head c.w c.h)) bytes ≡ head c.w c.h
  pub size : length bytes ≡ length (head c.w c.h) + c.h * row_bytes c.w
  pub pixels : (x y : ℕ) → x < c.w → y < c.h → (bit_at (slice_index bytes (place c x y)) (7 - x % 8) ≡ 1) ↔ IsTrue (black_at c x y)
  pub padding : (x y : ℕ) → c.w ≤ x → x < 8 * row_bytes c.w → y < c.h → bit_at (slice_index bytes (place c x y)) (7 - x % 8) ≡ 0
