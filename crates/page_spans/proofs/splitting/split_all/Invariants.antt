use Rattle.std.proofs.Common.{◌≡◌, ℕ, ◌<◌, length}
use Rattle.node_page.specs.Fields.{coef_at}
use Rattle.page_spans.specs.Heaps.{span_at, AreProper, IsSplit}
use Rattle.page_spans.proofs.splitting.split_all.Given as goal

abbrev pub invariant-loop-node : goal.invariant-loop-node
invariant-loop-node l = record {
  whole : length l.spans ≡ 255;
  proper : AreProper (span_at l.spans);
  top : span_at l.spans 0 ≡ span_at l.initial.spans 0;
  splits : (n : ℕ) → n < l.node → IsSplit (span_at l.spans) (coef_at l.page.bytes.now) n;
}
