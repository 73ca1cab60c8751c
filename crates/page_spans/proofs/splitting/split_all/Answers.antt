use Rattle.std.proofs.Common.{◌∙◌, arith}
use Rattle.node_page.specs.Fields.{coef_at}
use Rattle.page_spans.specs.Heaps.{span_at}
use Rattle.page_spans.proofs.Steps.{splits_more, first_bad}
use Rattle.page_spans.proofs.splitting.split_all.Goals as goal

pub returns-in_default-clause-top : goal.returns-in_default-clause-top
returns-in_default-clause-top c = c.split_node.ensures.others 0 (omega arith) (omega arith) ∙ c.loop-node.invariant.top

pub returns-in_default-clause-bad : goal.returns-in_default-clause-bad
returns-in_default-clause-bad c =
    first_bad (span_at c.loop-node.spans) (span_at c.split_node.new.spans)
    (coef_at c.args.page.now.bytes.now) c.coef_at.result c.loop-node.node (omega arith)
    c.loop-node.invariant.splits c.split_node.ensures.others c.coef_at.ensures.coef c.in_default.ensures.none

pub loop-node-preserved : goal.loop-node-preserved
loop-node-preserved c = record {
  whole = c.split_node.ensures.whole;
  proper = c.split_node.ensures.proper;
  top = c.split_node.ensures.others 0 (omega arith) (omega arith) ∙ c.loop-node.invariant.top;
  splits = splits_more (span_at c.loop-node.spans) (span_at c.split_node.new.spans)
      (coef_at c.args.page.now.bytes.now) c.coef_at.result c.loop-node.node
      c.loop-node.invariant.splits c.split_node.ensures.others c.coef_at.ensures.coef c.in-Ok.ensures.halves;
}
