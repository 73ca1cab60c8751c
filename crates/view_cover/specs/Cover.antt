-- The cover: the pixels that may be black, by what is seen.
use Rattle.std.specs.Prelude.{ℕ, ℤ, ◌≤◌, ◌≤ℤ◌, ◌⊎◌}
use Rattle.std.specs.Int.{int_min, int_max}
use Rattle.chart_grid.specs.declared.axis.Axis.{Axis}
use Rattle.chart_grid.specs.declared.grid.Grid.{Grid}
use Rattle.chart_grid.specs.Projection.{height}
use Rattle.om3_coeff.specs.declared.key.Key.{Key}
use Rattle.om3_coeff.specs.declared.span.Span.{Span}
use Rattle.view_cover.specs.Scene.{Scene, IsDrawnIn}
use Rattle.view_cover.specs.Front.{IsInFront, AreConsecutive}

-- the rows in which the least and the greatest value of a span are drawn
abbrev pub bottom : Scene → Span → ℤ
bottom scene s = height s.min scene.lo scene.hi scene.grid.h

abbrev pub top : Scene → Span → ℤ
top scene s = height s.max scene.lo scene.hi scene.grid.h

-- the column x lies between those of two drawn slots of the ranges of k and l
pub record IsBetweenColumns (axis : Axis) (grid : Grid) (k l : Key) (x : ℕ) : Type 0 where
  pub first : ℕ
  pub first_drawn : IsDrawnIn axis grid k first ⊎ IsDrawnIn axis grid l first
  pub from : first ≤ x
  pub last : ℕ
  pub last_drawn : IsDrawnIn axis grid k last ⊎ IsDrawnIn axis grid l last
  pub to : x ≤ last

-- The least rectangle that holds the boxes of two keys with the spans s and t. A key's box has the columns
-- from that of the first to that of the last drawn slot of its range, and the rows from the bottom to the
-- top of its span.
pub record InRectangle (scene : Scene) (k : Key) (s : Span) (l : Key) (t : Span) (x : ℕ) (y : ℤ) : Type 0 where
  pub columns : IsBetweenColumns scene.axis scene.grid k l x
  pub above : int_min (bottom scene s) (bottom scene t) ≤ℤ y
  pub below : y ≤ℤ int_max (top scene s) (top scene t)

-- the box of one key
abbrev pub InBox : Scene → Key → Span → ℕ → ℤ → Type 0
InBox scene k s x y = InRectangle scene k s k s x y

-- the pixel lies in the box of a key of the front
pub record InSomeBox (scene : Scene) (x : ℕ) (y : ℤ) : Type 0 where
  pub key : Key
  pub span : Span
  pub front : IsInFront scene key span
  pub pixel : InBox scene key span x y

-- it lies in the least rectangle that holds the boxes of two consecutive keys of the front
pub record InSomeJoin (scene : Scene) (x : ℕ) (y : ℤ) : Type 0 where
  pub key : Key
  pub span : Span
  pub front : IsInFront scene key span
  pub next : Key
  pub next_span : Span
  pub next_front : IsInFront scene next next_span
  pub consecutive : AreConsecutive scene key next
  pub pixel : InRectangle scene key span next next_span x y

-- the pixels of the cover
abbrev pub InCover : Scene → ℕ → ℤ → Type 0
InCover scene x y = InSomeBox scene x y ⊎ InSomeJoin scene x y
