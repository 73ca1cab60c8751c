use Rattle.std.proofs.Common.{◌<◌, ◌≤◌, ◌*◌, ℕ}
use Rattle.node_page.specs.Layout.{IsAgreed}
use Rattle.node_page.proofs.rules.are_four_agreed.Given as goal

abbrev pub invariant-loop-node : goal.invariant-loop-node
invariant-loop-node l = record { so_far : (n : ℕ) → 4 * l.byte ≤ n → n < l.node → IsAgreed l.page n; from : 4 * l.byte ≤ l.node }
