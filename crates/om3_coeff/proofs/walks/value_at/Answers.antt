use Rattle.std.proofs.Common.{arith, ◌<◌, ◌+◌, length, ◌≡◌}
use Rattle.std.proofs.lemmas.Result.{IfOk-weaker}
use Rattle.std.specs.Prelude.{Some, slice_get}
use Rattle.om3_coeff.specs.Spans.{span_of_slot, span_over}
use Rattle.om3_coeff.proofs.WalkLemmas.{at_top, top_holds, value_list}
use Rattle.om3_coeff.proofs.walks.value_at.Goals as goal

pub value_below-requires-clause-reached : goal.value_below-requires-clause-reached
value_below-requires-clause-reached g c =
    at_top (g.N.Nodes.view c.args.nodes.now) c.top_key-top.result c.root-root.result c.slots.result c.slots.ensures.slots
    c.root-root.ensures.root
    (c.root-root.ensures.proper c.requires.fit) c.top_key-top.ensures

pub value_below-requires-clause-to : goal.value_below-requires-clause-to
value_below-requires-clause-to g c =
    top_holds c.args.slot c.slots.result (g.N.Nodes.view c.args.nodes.now).slots c.top_key-top.result c.slots.ensures.slots
    c.top_key-top.ensures (c.slots.ensures.few c.requires.fit) c.requires.within

pub returns-clause-list : goal.returns-clause-list
returns-clause-list g c = λ list agrees.
    let within : c.args.slot < length list = omega (arith, c.requires.within, agrees.slots) in
    IfOk-weaker c.value_below.result (λ v. span_of_slot v ≡ span_over list c.args.slot (c.args.slot + 1))
    (λ v. slice_get list c.args.slot ≡ Some v)
    (λ v. value_list list c.args.slot v within) (c.value_below.ensures.list list agrees)
