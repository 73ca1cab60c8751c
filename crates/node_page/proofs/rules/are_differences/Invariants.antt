use Rattle.std.proofs.Common.{◌<◌, ◌*◌, ℕ}
use Rattle.node_page.specs.Fields.{coef_at}
use Rattle.node_page.specs.Layout.{HasDifferences}
use Rattle.node_page.proofs.rules.are_differences.Given as goal

abbrev pub invariant-loop-byte : goal.invariant-loop-byte
invariant-loop-byte l = record { so_far : (n : ℕ) → n < 4 * l.byte → n < 127 → HasDifferences (coef_at l.page n) }
