use Rattle.std.specs.Prelude.{◌≡◌, ℕ, ℤ, ◌+◌, ◌⊎◌, List, [], ◌∷◌, Some, slice_get}
use Rattle.line_raster.specs.declared.position.Point.{Point}
use Rattle.line_raster.specs.Segment.{On}

-- the pixel is the point
pub record IsAt (p : Point) (x : ℕ) (y : ℤ) : Type 0 where
  pub column : x ≡ p.x
  pub row : y ≡ p.y

-- the pixel is a point of the list
pub record IsPoint (points : List Point) (x : ℕ) (y : ℤ) : Type 0 where
  pub position : ℕ
  pub point : Point
  pub here : slice_get points position ≡ Some point
  pub pixel : IsAt point x y

-- the pixel lies on the segment between two consecutive points of the list
pub record IsBetween (points : List Point) (x : ℕ) (y : ℤ) : Type 0 where
  pub position : ℕ
  pub first : Point
  pub second : Point
  pub here : slice_get points position ≡ Some first
  pub next : slice_get points (position + 1) ≡ Some second
  pub pixel : On first second x y

-- the pixels of a list of points: each point, and the segments between consecutive points
abbrev pub InRaster : List Point → ℕ → ℤ → Type 0
InRaster points x y = IsPoint points x y ⊎ IsBetween points x y

-- the pixel lies on the segment from a point to the first of those after it
abbrev pub OnNext : Point → List Point → ℕ → ℤ → Type 0
OnNext p [] x y = ⊥
OnNext p (q ∷ _) x y = On p q x y

-- the same pixels along the list: a point, the segment to the next point, and those of the rest
abbrev pub AlongPoints : List Point → ℕ → ℤ → Type 0
AlongPoints [] x y = ⊥
AlongPoints (p ∷ ps) x y = IsAt p x y ⊎ (OnNext p ps x y ⊎ AlongPoints ps x y)
