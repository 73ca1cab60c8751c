use Rattle.std.proofs.Common.{◌≡◌, ℕ, ◌<◌, ◌≤◌, length}
use Rattle.block_disk.specs.Blocks.{IsBlock}
use Rattle.node_page.specs.Fields.{coef_at}
use Rattle.page_spans.specs.Heaps.{span_at, AreProper, AllButAbove, IsKept}
use Rattle.page_spans.proofs.joining.join_above.Given as goal

abbrev pub invariant-loop-place : goal.invariant-loop-place
invariant-loop-place l = record {
  low : l.place < 255;
  spans : length l.spans ≡ 255;
  whole : IsBlock l.bytes;
  proper : AreProper (span_at l.spans);
  joined : AllButAbove (span_at l.spans) (coef_at l.bytes) l.place;
  leaves : (n : ℕ) → 127 ≤ n → span_at l.spans n ≡ span_at l.initial.spans n;
  kept : IsKept l.initial.bytes l.bytes;
}

abbrev pub decreases-loop-place : goal.decreases-loop-place
decreases-loop-place l = l.place
