use Rattle.std.proofs.Common.{◌<◌, ◌*◌, ℕ}
use Rattle.node_page.specs.Layout.{IsChild}
use Rattle.node_page.proofs.rules.are_children.Given as goal

abbrev pub invariant-loop-group : goal.invariant-loop-group
invariant-loop-group l = record { so_far : (c : ℕ) → c < 8 * l.group → IsChild l.page c }
