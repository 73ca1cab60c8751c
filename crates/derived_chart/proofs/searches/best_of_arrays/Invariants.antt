use Rattle.std.proofs.Common.{ℕ, ℤ, ◌+◌, List, Option}
use Rattle.derived_chart.specs.Searches.{IsBestWith}
use Rattle.derived_chart.specs.Slots.{AreArraySums}
use Rattle.derived_chart.proofs.searches.best_of_arrays.Given as goal

abbrev pub invariant-loop-at : goal.invariant-loop-at
invariant-loop-at l = (sums : List (Option ℤ)) (p : ℕ) → AreArraySums l.sum l.xs l.ys l.count p sums
    → IsBestWith l.best sums p (p + l.at) l.found l.most
