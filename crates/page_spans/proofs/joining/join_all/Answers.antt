use Rattle.std.proofs.Common.{◌∙◌, ◌-◌, arith}
use Rattle.node_page.specs.Fields.{coef_at}
use Rattle.page_spans.specs.Heaps.{span_at}
use Rattle.page_spans.proofs.Steps.{joins_more, kept_on}
use Rattle.page_spans.proofs.joining.join_all.Goals as goal

pub loop-node-preserved : goal.loop-node-preserved
loop-node-preserved c =
    let node = c.loop-node.node - 1 in
    let step = c.join_node.ensures in
    record {
      spans = step.spans;
      whole = step.whole;
      proper = step.proper;
      joined = joins_more (span_at c.loop-node.spans) (span_at c.join_node.new.spans) (coef_at c.loop-node.bytes)
          (coef_at c.join_node.new.bytes) node
          (λ n from few. c.loop-node.invariant.joined n (omega (arith, from)) few) step.span step.coef step.others step.coefs;
      leaves = λ n from. step.others n (omega (arith, from)) ∙ c.loop-node.invariant.leaves n from;
      kept = kept_on c.args.bytes.now c.loop-node.bytes c.join_node.new.bytes c.loop-node.invariant.kept step.kept;
    }
