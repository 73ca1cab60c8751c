use Rattle.std.proofs.Common.{◌≡◌, ℤ, ◌^◌, ◌≤◌, List, length, Option, Some}
use Rattle.chart_grid.specs.declared.axis.Axis.{Axis}
use Rattle.chart_grid.specs.declared.grid.Grid.{Grid}
use Rattle.om3_coeff.specs.declared.key.Key.{Key}
use Rattle.om3_coeff.specs.Keys.{height, top_key}
use Rattle.om3_coeff.specs.Spans.{AreSlots, span}
use Rattle.om3_coeff.specs.Coefs.{coef}
use Rattle.view_keys.specs.Needed.{IsNeeded}
use Rattle.view_keys.specs.Wanted.{Seen, IsWanted}
use Rattle.view_keys.proofs.Depth.{deep}
use Rattle.view_keys.proofs.Same.{Ground, needed-wanted, wanted-needed, wanted-shown}
use Rattle.view_keys.proofs.laws.wanted_keys_are_needed.Goals as goal

-- what the laws below give
ground : (c : goal.After-known_spans_are_the_list_s) (list : List (Option ℤ)) (axis : Axis) (grid : Grid) (lo hi : ℤ) (seen : Seen)
    → AreSlots list → length list ≤ 2 ^ 35 → axis.slots ≡ length list → seen.root ≡ span list (top_key (length list))
    → ((k : Key) → IsNeeded list axis grid lo hi k → IsWanted seen axis grid lo hi k → seen.told k ≡ Some (coef list k))
    → Ground list axis grid lo hi seen
ground c list axis grid lo hi seen values few slots root right = record {
  rise = c.columns_rise.ensures.rise;
  heights = c.heights_rise.ensures;
  join = c.split_and_join_undo_each_other.ensures.whole;
  proper = c.split_and_join_undo_each_other.ensures.proper;
  extremes = c.spans_are_the_extremes.ensures.extremes list;
  deep = deep (length list) few;
  slots = slots;
  shown = λ k key above. c.known_spans_are_the_list_s.ensures seen.root seen.told list k values root key above;
  below = λ k low. c.what_is_known.ensures.below seen.root seen.told (height (length list)) k low;
  right = right;
}

pub returns-clause-same : goal.returns-clause-same
returns-clause-same c list axis grid lo hi seen values few slots root right k =
    let g = ground c list axis grid lo hi seen values few slots root right in
    (λ w. wanted-needed g k w, λ n. needed-wanted g k n)

pub returns-clause-spans : goal.returns-clause-spans
returns-clause-spans c list axis grid lo hi seen values few slots root right k w =
    wanted-shown (ground c list axis grid lo hi seen values few slots root right) k w
