use Rattle.std.proofs.Common.{◌≤◌}
use Rattle.value_filter.specs.Steps.{expression_of}
use Rattle.query_rewriter.specs.Scans.{KeepsNone}
use Rattle.query_rewriter.proofs.trimming.before_back.Given as goal

abbrev pub invariant-loop-halvings : goal.invariant-loop-halvings
invariant-loop-halvings l = record {
  after : l.slots.0 ≤ l.end;
  before : l.end ≤ l.slots.1;
  none : KeepsNone (expression_of l.filter) l.axis l.end l.slots.1;
}
