-- The chart of a list of slots, and what is told of the list.
use Rattle.std.specs.Prelude.{ℕ, ℤ, ◌≡◌, List, length, Option, Some}
use Rattle.line_raster.specs.Raster.{InRaster}
use Rattle.plain_chart.specs.Samples.{kept}
use Rattle.plain_chart.specs.Chart.{places}
use Rattle.om3_coeff.specs.declared.key.Key.{Key}
use Rattle.om3_coeff.specs.declared.coef.Coef.{Coef}
use Rattle.om3_coeff.specs.Keys.{top_key}
use Rattle.om3_coeff.specs.Spans.{AreSlots, span}
use Rattle.om3_coeff.specs.Coefs.{coef}
use Rattle.view_keys.specs.Needed.{IsNeeded}
use Rattle.view_cover.specs.Scene.{Scene}
use Rattle.view_cover.specs.Cover.{InCover}

-- the pixels of the list's chart: the raster of the samples that the view keeps
abbrev pub InChart : List (Option ℤ) → Scene → ℕ → ℤ → Type 0
InChart list scene x y = InRaster (places scene.grid (record { lo = scene.lo; hi = scene.hi }) (kept scene.grid scene.axis list)) x y

-- each of them is in the cover
abbrev pub HoldsChart : List (Option ℤ) → Scene → Type 0
HoldsChart list scene = (x : ℕ) (y : ℤ) → InChart list scene x y → InCover scene x y

-- What is told is told of this list: it has as many slots and the root's span, and each coefficient that is told of
-- a key that the view needs is its own. Those of other keys may be any.
pub record IsToldOf (list : List (Option ℤ)) (scene : Scene) : Type 0 where
  pub values : AreSlots list
  pub slots : scene.axis.slots ≡ length list
  pub root : scene.root ≡ span list (top_key (length list))
  pub told : (k : Key) (c : Coef) → IsNeeded list scene.axis scene.grid scene.lo scene.hi k → scene.told k ≡ Some c → c ≡ coef list k
