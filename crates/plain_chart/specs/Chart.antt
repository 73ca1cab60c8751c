-- The chart of samples: where each lies on the canvas, and which pixels are black.
use Rattle.std.specs.Prelude.{◌≡◌, ℕ, ℤ, pos, ◌-◌, ◌<◌, ◌≤ℤ◌, ◌↔◌, List, length, map, IsTrue, Option, None, Some, slice_get, ⊤}
use Rattle.std.specs.Option.{option_map}
use Rattle.chart_grid.specs.declared.grid.Grid.{Grid}
use Rattle.chart_grid.specs.Projection.{column, height, InWindow}
use Rattle.line_raster.specs.declared.position.Point.{Point}
use Rattle.line_raster.specs.Canvas.{Canvas, black_at}
use Rattle.line_raster.specs.Raster.{InRaster, IsAt}
use Rattle.line_raster.specs.Segment.{On}
use Rattle.plain_chart.specs.declared.sample.Sample.{Sample}
use Rattle.plain_chart.specs.declared.value_range.ValueRange.{ValueRange}
use Rattle.whole_number.specs.Range.{IsValue}

-- the height of a sample over a range of values
abbrev pub height_in : Grid → ValueRange → Sample → ℤ
height_in g range s = height s.value range.lo range.hi g.h

-- where a sample lies on the canvas
abbrev pub place : Grid → ValueRange → Sample → Point
place g range s = record { x = column g s.time; y = height_in g range s }

-- the places of samples
abbrev pub places : Grid → ValueRange → List Sample → List Point
places g range samples = map (place g range) samples

-- The canvas has the grid's size, and is black just in the raster of the samples: each is joined to the next one, also over slots
-- that hold nothing or are left out by a filter.
pub record IsChart (g : Grid) (range : ValueRange) (samples : List Sample) (c : Canvas) : Type 0 where
  pub width : c.w ≡ g.w
  pub height : c.h ≡ g.h
  pub pixels : (x y : ℕ) → x < g.w → y < g.h → IsTrue (black_at c x y) ↔ InRaster (places g range samples) x (pos y)

-- the last element, where there is one
abbrev pub last_of : {X : Type 0} → List X → Option X
last_of xs = slice_get xs (length xs - 1)

-- what a point adds to the raster of those before it: the segment from the last of them, or the point alone
abbrev pub OnFrom : Option Point → Point → ℕ → ℤ → Type 0
OnFrom None q x y = IsAt q x y
OnFrom (Some p) q x y = On p q x y

-- what a slot's sample adds, where there is one
abbrev pub Joins : Grid → ValueRange → Option Sample → Option Sample → ℕ → ℤ → Type 0
Joins g range last None x y = ⊥
Joins g range last (Some s) x y = OnFrom (option_map (place g range) last) (place g range s) x y

-- the last sample, with a slot's sample behind it
abbrev pub last_with : Option Sample → Option Sample → Option Sample
last_with last None = last
last_with last (Some s) = Some s

-- a range that a chart may have
pub record IsScale (range : ValueRange) : Type 0 where
  pub order : range.lo ≤ℤ range.hi
  pub low : IsValue range.lo

-- a sample that may be drawn
pub record IsDrawable (g : Grid) (s : Sample) : Type 0 where
  pub window : InWindow g s.time
  pub value : IsValue s.value

-- the last sample isn't later than the slot's
abbrev pub IsBefore : Option Sample → Sample → Type 0
IsBefore None t = ⊤
IsBefore (Some s) t = s.time ≤ℤ t.time
