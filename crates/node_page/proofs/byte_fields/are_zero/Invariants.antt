use Rattle.std.proofs.Common.{◌≡◌, ◌<◌, ◌≤◌, ℕ, slice_index}
use Rattle.node_page.proofs.byte_fields.are_zero.Given as goal

abbrev pub invariant-loop-byte : goal.invariant-loop-byte
invariant-loop-byte l = record {
  bound : (k : ℕ) → k < l.byte-index → slice_index l.bytes k ≤ l.greatest;
  zero : ((k : ℕ) → k < l.byte-index → slice_index l.bytes k ≡ 0) → l.greatest ≡ 0;
}
