use Rattle.std.proofs.Common.{List, ℕ, ◌++◌, ap, ◌∙◌}
use Rattle.demo_workload.proofs.Summing.{line_of_halves}
use Rattle.demo_workload.proofs.summaries.Summary.line.Goals as goal

pub returns : goal.returns
returns c =
    line_of_halves c.args.self.now c.in_ok-line.line.items c.in_ok-views.views.items _ c.in_ok-line.ensures c.in_ok-views.ensures
    (c.in_ok-extend_from_slice.ensures.items ∙ ap (λ (xs : List ℕ). c.in_ok-line.line.items ++ xs) c.deref.ensures.value)
