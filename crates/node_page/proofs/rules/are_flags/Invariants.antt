use Rattle.std.proofs.Common.{◌<◌, ◌*◌, ℕ}
use Rattle.node_page.specs.Layout.{IsAgreed}
use Rattle.node_page.proofs.rules.are_flags.Given as goal

abbrev pub invariant-loop-byte : goal.invariant-loop-byte
invariant-loop-byte l = record { so_far : (n : ℕ) → n < 4 * l.byte → n < 63 → IsAgreed l.page n }
