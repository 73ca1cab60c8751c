use Rattle.std.proofs.Common.{◌<◌, ◌≤◌, ℕ, slice_index}
use Rattle.node_page.proofs.rules.are_full.Given as goal

abbrev pub invariant-loop-byte : goal.invariant-loop-byte
invariant-loop-byte l = record { bound : (k : ℕ) → k < l.byte-index → l.least ≤ slice_index l.bytes k }
