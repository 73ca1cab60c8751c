-- What a walk over a part of the tree draws, and what it knows.
use Rattle.std.specs.Prelude.{ℕ, ℤ, pos, ◌≡◌, ◌<◌, ◌≤◌, ◌⊎◌, ◌↔◌, IsTrue, Option, None, Some}
use Rattle.chart_grid.specs.declared.axis.Axis.{Axis}
use Rattle.chart_grid.specs.declared.grid.Grid.{Grid}
use Rattle.line_raster.specs.Canvas.{Canvas, black_at}
use Rattle.om3_coeff.specs.declared.key.Key.{Key}
use Rattle.om3_coeff.specs.declared.span.Span.{Span}
use Rattle.om3_coeff.specs.declared.coef.Coef.{Coef}
use Rattle.om3_coeff.specs.Keys.{first_slot, end_slot, IsKey}
use Rattle.om3_coeff.specs.Keys.{height}
use Rattle.view_cover.specs.declared.area.Area.{Area}
use Rattle.view_cover.specs.declared.scope.Scope.{Scope}
use Rattle.view_cover.specs.Scene.{Scene, IsDrawnIn, known_in}
use Rattle.view_cover.specs.Front.{IsInFront, IsFreeBetween, AreConsecutive}
use Rattle.view_cover.specs.Cover.{bottom, top, InRectangle, InBox, InCover}

-- the drawing has the grid's size, and is black just in the cover
pub record IsCoverOf (scene : Scene) (drawing : Canvas) : Type 0 where
  pub wide : drawing.w ≡ scene.grid.w
  pub high : drawing.h ≡ scene.grid.h
  pub pixels : (x y : ℕ) → x < scene.grid.w → y < scene.grid.h → IsTrue (black_at drawing x y) ↔ InCover scene x (pos y)

-- the view of a scope, by what is told
abbrev pub scene_of : Scope → (Key → Option Coef) → Scene
scene_of scope told = record { axis = scope.axis; grid = scope.grid; lo = scope.lo; hi = scope.hi; root = scope.root; told = told }

-- a walk has come to the key, which has the span s if any
pub record IsReached (scene : Scene) (k : Key) (s : Option Span) : Type 0 where
  pub key : IsKey (height scene.axis.slots) k
  pub known_so : known_in scene k ≡ Some s

-- the columns from left to right are those that a key's range is drawn in, and all between
pub record AreColumnsIn (axis : Axis) (grid : Grid) (k : Key) (left right : ℕ) : Type 0 where
  pub left_drawn : IsDrawnIn axis grid k left
  pub right_drawn : IsDrawnIn axis grid k right
  pub none_left : (c : ℕ) → IsDrawnIn axis grid k c → left ≤ c
  pub none_right : (c : ℕ) → IsDrawnIn axis grid k c → c ≤ right

-- the rectangle is the box of a key with this span
pub record IsAreaOf (scene : Scene) (k : Key) (s : Span) (a : Area) : Type 0 where
  pub columns : AreColumnsIn scene.axis scene.grid k a.left a.right
  pub low : a.low ≡ bottom scene s
  pub high : a.high ≡ top scene s

-- the rectangle is the box of the last key of the front before slot e; there is none where no key is
abbrev pub IsLastBefore : Scene → ℕ → Option Area → Type 0
IsLastBefore scene e None = IsFreeBetween scene 0 e
IsLastBefore scene e (Some area) =
    (k : Key) × (s : Span) × IsInFront scene k s × (end_slot k ≤ e) × IsFreeBetween scene (end_slot k) e × IsAreaOf scene k s area

-- the pixel lies in the box of a key of the front between the slots a and b
pub record InBoxBetween (scene : Scene) (a b : ℕ) (x : ℕ) (y : ℤ) : Type 0 where
  pub key : Key
  pub span : Span
  pub front : IsInFront scene key span
  pub from : a ≤ first_slot key
  pub to : end_slot key ≤ b
  pub pixel : InBox scene key span x y

-- it lies in the least rectangle that holds such a box and that of the key of the front before it
pub record InJoinBetween (scene : Scene) (a b : ℕ) (x : ℕ) (y : ℤ) : Type 0 where
  pub key : Key
  pub span : Span
  pub front : IsInFront scene key span
  pub next : Key
  pub next_span : Span
  pub next_front : IsInFront scene next next_span
  pub consecutive : AreConsecutive scene key next
  pub from : a ≤ first_slot next
  pub to : end_slot next ≤ b
  pub pixel : InRectangle scene key span next next_span x y

-- the part of the cover that the keys between the slots a and b add
abbrev pub InPart : Scene → ℕ → ℕ → ℕ → ℤ → Type 0
InPart scene a b x y = InBoxBetween scene a b x y ⊎ InJoinBetween scene a b x y
