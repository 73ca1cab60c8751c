use Rattle.std.proofs.Common.{◌∙◌, ◌-◌, ◌/◌, ◌<◌, arith}
use Rattle.node_page.specs.Fields.{coef_at}
use Rattle.page_spans.specs.Heaps.{span_at}
use Rattle.page_spans.proofs.Steps.{joins_above, halved, kept_on}
use Rattle.page_spans.proofs.joining.join_above.Goals as goal

pub loop-place-preserved : goal.loop-place-preserved
loop-place-preserved c =
    let old = c.loop-place.place in
    let node = (old - 1) / 2 in
    let step = c.join_node.ensures in
    let few : node < 127 = omega arith in
    record {
      low = omega (arith, few);
      spans = step.spans;
      whole = step.whole;
      proper = step.proper;
      joined = joins_above (span_at c.loop-place.spans) (span_at c.join_node.new.spans) (coef_at c.loop-place.bytes)
          (coef_at c.join_node.new.bytes) old node
          c.loop-place.invariant.joined (halved old c.loop-place-test.true) step.span step.coef step.others step.coefs;
      leaves = λ n from. step.others n (omega (arith, from, few)) ∙ c.loop-place.invariant.leaves n from;
      kept = kept_on c.args.bytes.now c.loop-place.bytes c.join_node.new.bytes c.loop-place.invariant.kept step.kept;
    }
