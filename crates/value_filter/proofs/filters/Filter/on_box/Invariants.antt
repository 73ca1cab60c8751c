use Rattle.std.proofs.Common.{◌≡◌, List, drop, Some}
use Rattle.value_filter.specs.Expressions.{Expression}
use Rattle.value_filter.specs.Steps.{rebuilt, expression_of}
use Rattle.value_filter.specs.Telling.{AreAnswers}
use Rattle.value_filter.proofs.filters.Filter.on_box.Given as goal

-- the pending answers are those of expressions with which the steps that are left give the filter's
abbrev pub invariant-loop-step : goal.invariant-loop-step
invariant-loop-step l = (pending : List Expression) × AreAnswers pending l.times l.values l.answers
    × (rebuilt (drop l.step-index l.step-items) pending ≡ Some (expression_of l.step-items))
