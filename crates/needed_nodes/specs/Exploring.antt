-- What the walks of a view find all together, before its keys are sorted.
use Rattle.std.specs.Prelude.{ℤ, ◌≡◌, ◌≤◌, List, length, All, Contains, Option, Some, ⊤}
use Rattle.chart_grid.specs.declared.axis.Axis.{Axis}
use Rattle.chart_grid.specs.declared.grid.Grid.{Grid}
use Rattle.om3_coeff.specs.declared.key.Key.{Key}
use Rattle.om3_coeff.specs.declared.coef.Coef.{Coef}
use Rattle.om3_coeff.specs.Coefs.{coef}
use Rattle.om3_coeff.specs.View.{NodesView}
use Rattle.m4_groups.specs.declared.row.Row.{Row}
use Rattle.m4_groups.specs.Rows.{AreRising}
use Rattle.view_keys.specs.Needed.{IsNeeded}
use Rattle.view_keys.specs.Wanted.{IsWanted}
use Rattle.view_keys.specs.Listed.{keys_of}
use Rattle.needed_nodes.specs.declared.window.Window.{Window}
use Rattle.needed_nodes.specs.Answers.{seen_of, AgreesForView, IsEntry, IsShownRow, AreDrawnAs, most_needed, points_of}
use Rattle.needed_nodes.specs.Serving.{ServesList}
use Rattle.needed_nodes.specs.Gathering.{AreApart, Gathered}

-- all keys of a kind, with their coefficients
pub record AreAllOf (Kind : Key → Type 0) (coef_of : Key → Option Coef) (es : List (Key × Coef)) : Type 0 where
  pub each : All (λ e. Kind e.0) es
  pub all : (k : Key) → Kind k → Contains (keys_of es) k
  pub coefs : All (λ e. coef_of e.0 ≡ Some e.1) es

-- what is found for a window: its wanted keys, and its rows
pub record ExploresWindow (view : NodesView) (w : Window) (keys more : List (Key × Coef)) (rows : List Row) : Type 0 where
  pub gathered : Gathered view w (λ k. ⊤) (λ S. IsWanted S w.axis w.grid w.lo w.hi) (most_needed w.grid.w w.axis.slots) keys more
  pub rising : AreRising rows
  pub shown : All (IsShownRow w.grid.w) rows
  pub of_list : (list : List (Option ℤ)) → ServesList view w list → AreDrawnAs w.grid w.lo w.hi (points_of w.axis w.grid list) rows

-- what is found for a view
pub record Explores (view : NodesView) (axis : Axis) (grid : Grid) (lo hi : ℤ) (keys : List (Key × Coef)) (rows : List Row) : Type 0 where
  pub entries : All (IsEntry axis.slots) keys
  pub apart : AreApart keys
  pub few : length keys ≤ most_needed grid.w axis.slots
  pub told : view.tells → AreAllOf (IsWanted (seen_of view) axis grid lo hi) view.told keys
  pub of_list : (list : List (Option ℤ)) → AgreesForView view axis grid lo hi list
      → AreAllOf (IsNeeded list axis grid lo hi) (λ k. Some (coef list k)) keys
  pub rising : AreRising rows
  pub shown : All (IsShownRow grid.w) rows
  pub rows_of_list : (list : List (Option ℤ)) → AgreesForView view axis grid lo hi list
      → AreDrawnAs grid lo hi (points_of axis grid list) rows
