-- The samples that queries and plans keep.
use Rattle.std.specs.Prelude.{ℕ, ℤ, Bool, true, ◌&&◌, nat_le, nat_lt, if◌then◌else◌, List, filter, Option, None, Some}
use Rattle.std.specs.List.{enumerate_from, filter_map}
use Rattle.chart_grid.specs.declared.axis.Axis.{Axis}
use Rattle.plain_chart.specs.declared.sample.Sample.{Sample}
use Rattle.plain_chart.specs.Samples.{kept}
use Rattle.chart_grid.specs.Slots.{slot_time}
use Rattle.value_filter.specs.declared.steps.Step.{Step}
use Rattle.value_filter.specs.Expressions.{holds_at}
use Rattle.value_filter.specs.Steps.{expression_of}
use Rattle.query_rewriter.specs.declared.queries.ViewQuery.{ViewQuery}
use Rattle.query_rewriter.specs.declared.queries.Plan.{Plan}

-- whether a filter, where there is one, holds of a sample
abbrev pub passes : Option (List Step) → Sample → Bool
passes None s = true
passes (Some steps) s = holds_at (expression_of steps) s.time s.value

-- the samples that a query keeps of a series' slots: those of the stored slots in its window of which
-- its filter holds, in order of time
abbrev pub query_keeps : ViewQuery → List (Option ℤ) → List Sample
query_keeps query slots = filter (passes query.filter) (kept query.grid query.axis slots)

-- the sample of a slot that holds a value and lies in a range
abbrev pub stored_at : Axis → ℕ × ℕ → ℕ × Option ℤ → Option Sample
stored_at axis range (slot, None) = None
stored_at axis range (slot, Some value) =
    if nat_le range.0 slot && nat_lt slot range.1 then Some (record { time = slot_time axis slot; value = value }) else None

-- the samples of the stored slots in a range
abbrev pub stored_in : Axis → ℕ × ℕ → List (Option ℤ) → List Sample
stored_in axis range slots = filter_map (stored_at axis range) (enumerate_from 0 slots)

-- the samples that a plan keeps: those of the stored slots in its range of which its filter holds
abbrev pub plan_keeps : Axis → Plan → List (Option ℤ) → List Sample
plan_keeps axis plan slots = filter (passes plan.filter) (stored_in axis plan.slots slots)
