-- Ranges of slots, and what a filter says of all points at them.
use Rattle.std.specs.Prelude.{ℕ, ℤ, ◌≡◌, ◌<◌, ◌≤◌, ◌≤ℤ◌, Bool, true, false, List, Option, None, Some, ⊤}
use Rattle.chart_grid.specs.declared.axis.Axis.{Axis}
use Rattle.chart_grid.specs.declared.grid.Grid.{Grid}
use Rattle.chart_grid.specs.Projection.{InWindow}
use Rattle.chart_grid.specs.Slots.{slot_time}
use Rattle.whole_number.specs.Range.{IsValue}
use Rattle.value_filter.specs.declared.steps.Step.{Step}
use Rattle.value_filter.specs.declared.box_answers.BoxAnswer.{BoxAnswer}
use Rattle.value_filter.specs.declared.box_answers.BoxAnswer.TheVariants.{All, Nothing, Mixed}
use Rattle.value_filter.specs.Expressions.{Expression, holds_at}
use Rattle.value_filter.specs.Steps.{expression_of}
use Rattle.query_rewriter.specs.declared.queries.Plan.{Plan}

-- the times of the slots from a on and below b lie in the window
pub record AreShown (axis : Axis) (grid : Grid) (a b : ℕ) : Type 0 where
  pub each : (i : ℕ) → a ≤ i → i < b → InWindow grid (slot_time axis i)

-- the slots of a plan are a range of the axis whose times lie in the window
pub record IsScan (axis : Axis) (plan : Plan) : Type 0 where
  pub order : plan.slots.0 ≤ plan.slots.1
  pub within : plan.slots.1 ≤ axis.slots
  pub shown : AreShown axis plan.grid plan.slots.0 plan.slots.1

-- at each slot from a on and below b the filter's truth at each value of an interval is this
pub record IsSo (f : Expression) (axis : Axis) (a b : ℕ) (values : ℤ × ℤ) (truth : Bool) : Type 0 where
  pub each : (i : ℕ) (v : ℤ) → a ≤ i → i < b → values.0 ≤ℤ v → v ≤ℤ values.1 → holds_at f (slot_time axis i) v ≡ truth

-- what an answer on slots and values says
abbrev pub Says : Expression → Axis → ℕ × ℕ → ℤ × ℤ → BoxAnswer → Type 0
Says f axis slots values All = IsSo f axis slots.0 slots.1 values true
Says f axis slots values Nothing = IsSo f axis slots.0 slots.1 values false
Says f axis slots values Mixed = ⊤

-- the filter holds of no value that a slot can hold, at any slot from a on and below b
pub record KeepsNone (f : Expression) (axis : Axis) (a b : ℕ) : Type 0 where
  pub each : (i : ℕ) (v : ℤ) → a ≤ i → i < b → IsValue v → holds_at f (slot_time axis i) v ≡ false

-- it holds of all such values
pub record KeepsAll (f : Expression) (axis : Axis) (a b : ℕ) : Type 0 where
  pub each : (i : ℕ) (v : ℤ) → a ≤ i → i < b → IsValue v → holds_at f (slot_time axis i) v ≡ true

-- what is left of a filter to ask at the slots from a on and below b: the filter, or nothing where it
-- holds of all values there
abbrev pub IsLeft : List Step → Axis → ℕ → ℕ → Option (List Step) → Type 0
IsLeft steps axis a b None = KeepsAll (expression_of steps) axis a b
IsLeft steps axis a b (Some left) = left ≡ steps
