use Rattle.std.proofs.Common.{◌<◌, ◌≤◌, ◌+◌, ◌*◌, ℕ, unsigned_abs}
use Rattle.whole_number.specs.Range.{IsTime}
use Rattle.whole_number.specs.declared.limits.TheConstants.{GREATEST_TIME}
use Rattle.node_page.specs.Fields.{signed_at}
use Rattle.node_page.proofs.rules.are_eight_small.Given as goal

abbrev pub invariant-loop-k : goal.invariant-loop-k
invariant-loop-k l = record {
  bound : (place : ℕ) → l.first ≤ place → place < l.first + l.k → unsigned_abs (signed_at l.page (40 + 8 * place)) ≤ l.greatest;
  small : ((place : ℕ) → l.first ≤ place → place < l.first + l.k → IsTime (signed_at l.page (40 + 8 * place))) → l.greatest ≤ GREATEST_TIME;
}
