-- Rectangles of pixels.
use Rattle.std.specs.Prelude.{ℕ, ℤ, ◌≤◌, ◌≤ℤ◌, min, max, Option, None, Some}
use Rattle.std.specs.Int.{int_min, int_max}
use Rattle.view_cover.specs.declared.area.Area.{Area}

-- the pixel lies in the rectangle
pub record InArea (a : Area) (x : ℕ) (y : ℤ) : Type 0 where
  pub from : a.left ≤ x
  pub to : x ≤ a.right
  pub above : a.low ≤ℤ y
  pub below : y ≤ℤ a.high

-- the least rectangle that holds two of them
abbrev pub both_areas : Area → Area → Area
both_areas a b = record {
  left = min a.left b.left;
  right = max a.right b.right;
  low = int_min a.low b.low;
  high = int_max a.high b.high;
}

-- the least rectangle that holds one and the last one before it, if there is one
abbrev pub with_last : Option Area → Area → Area
with_last None a = a
with_last (Some before) a = both_areas before a
