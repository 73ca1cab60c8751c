use Rattle.std.proofs.Common.{◌<◌, ◌≤◌, ◌*◌, ℕ}
use Rattle.node_page.specs.Layout.{IsFullOrFlat}
use Rattle.node_page.proofs.rules.are_four_full_or_flat.Given as goal

abbrev pub invariant-loop-node : goal.invariant-loop-node
invariant-loop-node l = record { so_far : (n : ℕ) → 4 * l.byte ≤ n → n < l.node → IsFullOrFlat l.page n; from : 4 * l.byte ≤ l.node }
