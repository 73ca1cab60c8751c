use Rattle.std.proofs.Common.{◌≡◌, ℕ, ◌<◌, ◌≤◌, length}
use Rattle.block_disk.specs.Blocks.{IsBlock}
use Rattle.node_page.specs.Fields.{coef_at}
use Rattle.page_spans.specs.Heaps.{span_at, AreProper, IsJoined, IsKept}
use Rattle.page_spans.proofs.joining.join_all.Given as goal

abbrev pub invariant-loop-node : goal.invariant-loop-node
invariant-loop-node l = record {
  spans : length l.spans ≡ 255;
  whole : IsBlock l.bytes;
  proper : AreProper (span_at l.spans);
  joined : (n : ℕ) → l.node ≤ n → n < 127 → IsJoined (span_at l.spans) (coef_at l.bytes) n;
  leaves : (n : ℕ) → 127 ≤ n → span_at l.spans n ≡ span_at l.initial.spans n;
  kept : IsKept l.initial.bytes l.bytes;
}
