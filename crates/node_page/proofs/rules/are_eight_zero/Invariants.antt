use Rattle.std.proofs.Common.{◌≡◌, ◌<◌, ◌≤◌, ◌+◌, ◌*◌, ℕ, pos}
use Rattle.node_page.specs.Fields.{signed_at}
use Rattle.node_page.proofs.rules.are_eight_zero.Given as goal

abbrev pub invariant-loop-k : goal.invariant-loop-k
invariant-loop-k l = record {
  so_far : (place : ℕ) → 8 * l.byte ≤ place → place < 8 * l.byte + l.k
      → signed_at l.page (40 + 8 * place) ≡ pos 0;
}
