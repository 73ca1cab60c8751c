use Rattle.std.specs.Prelude.{◌≡◌, ◌*◌, ◌≤◌, length}
use Rattle.line_raster.specs.declared.storage.Bitmap.TheInside.{Inside}

-- 1 to 4,096 columns and rows, and a cell for each pixel
pub record IsStored (b : Inside) : Type 0 where
  pub some_columns : 1 ≤ b.width
  pub columns_in_range : b.width ≤ 4096
  pub some_rows : 1 ≤ b.height
  pub rows_in_range : b.height ≤ 4096
  pub cells : length b.cells.items ≡ b.width * b.height
