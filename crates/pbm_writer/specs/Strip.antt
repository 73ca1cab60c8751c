use Rattle.std.specs.Prelude.{◌≡◌, ◌≢◌, ℕ, ◌+◌, ◌-◌, ◌*◌, ◌%◌, ◌<◌, List, length, slice_index}
use Rattle.line_raster.specs.Canvas.{Canvas}
use Rattle.pbm_writer.specs.Picture.{byte_at, row_bytes}

-- byte k of each row below row y is written, and no byte of another number
pub record IsStrip (c : Canvas) (k y : ℕ) (old new : List ℕ) : Type 0 where
  pub size : length new ≡ length old
  pub written : (b : ℕ) → b < y → slice_index new ((c.h - 1 - b) * row_bytes c.w + k) ≡ byte_at c k b
  pub others : (i : ℕ) → i % row_bytes c.w ≢ k → slice_index new i ≡ slice_index old i

-- the first y bytes of a column are byte k of the rows, from the bottom row
pub record IsColumn (c : Canvas) (k y : ℕ) (old new : List ℕ) : Type 0 where
  pub size : length new ≡ length old
  pub written : (b : ℕ) → b < y → slice_index new b ≡ byte_at c k b
