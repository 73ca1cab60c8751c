use Rattle.std.proofs.Common.{arith, ◌≤◌, ◌^◌, ◌≡◌}
use Rattle.std.proofs.lemmas.Result.{IfOk-weaker}
use Rattle.std.specs.Prelude.{max, min}
use Rattle.om3_coeff.specs.Keys.{first_slot, end_slot}
use Rattle.om3_coeff.specs.Spans.{span_over}
use Rattle.om3_coeff.proofs.WalkLemmas.{at_top, whole_list, top_reads}
use Rattle.om3_coeff.proofs.walks.range_span.Goals as goal

pub span_below-requires-clause-reached : goal.span_below-requires-clause-reached
span_below-requires-clause-reached g c =
    at_top (g.N.Nodes.view c.args.nodes.now) c.top_key-top.result c.root-root.result c.slots.result c.slots.ensures.slots
    c.root-root.ensures.root
    (c.root-root.ensures.proper c.requires.fit) c.top_key-top.ensures

pub returns-clause-list : goal.returns-clause-list
returns-clause-list g c = λ list agrees.
    IfOk-weaker c.span_below.result
    (λ s. s ≡ span_over list (max c.args.a (first_slot c.top_key-top.result)) (min c.args.b (end_slot c.top_key-top.result)))
    (λ s. s ≡ span_over list c.args.a c.args.b)
    (λ s. whole_list list c.args.a c.args.b c.slots.result
    (g.N.Nodes.view c.args.nodes.now).slots c.top_key-top.result s c.slots.ensures.slots c.top_key-top.ensures
    (let few : c.slots.result ≤ 2 ^ 35 = c.slots.ensures.few c.requires.fit in omega (arith, few, c.slots.ensures.slots)) c.requires.within)
    (c.span_below.ensures.list list agrees)

pub returns-clause-reads : goal.returns-clause-reads
returns-clause-reads g c =
    omega (
      arith,
      c.span_below.ensures.reads,
      top_reads c.args.a c.args.b c.slots.result
          (g.N.Nodes.view c.args.nodes.now).slots c.top_key-top.result c.slots.ensures.slots c.top_key-top.ensures,
    )
