use Rattle.std.proofs.Common.{◌<◌, ◌≤◌, ◌*◌, ℕ}
use Rattle.node_page.specs.Layout.{IsChild}
use Rattle.node_page.proofs.rules.are_eight_children.Given as goal

abbrev pub invariant-loop-child : goal.invariant-loop-child
invariant-loop-child l = record { so_far : (c : ℕ) → 8 * l.group ≤ c → c < l.child → IsChild l.page c; from : 8 * l.group ≤ l.child }
