use Rattle.std.proofs.Common.{arith}
use Rattle.std.proofs.lemmas.Result.{IfOk-weaker}
use Rattle.std.specs.Prelude.{max, min}
use Rattle.om3_coeff.specs.Keys.{first_slot, end_slot}
use Rattle.om3_coeff.specs.Walks.{IsFirstStored}
use Rattle.om3_coeff.proofs.WalkLemmas.{at_top}
use Rattle.om3_coeff.proofs.EndLemmas.{first_of_all, all_reads}
use Rattle.om3_coeff.proofs.ends.first_in.Goals as goal

pub first_below-requires-clause-reached : goal.first_below-requires-clause-reached
first_below-requires-clause-reached g c =
    at_top (g.N.Nodes.view c.args.nodes.now) c.top_key-top.result c.root-root.result c.slots.result c.slots.ensures.slots
    c.root-root.ensures.root
    (c.root-root.ensures.proper c.requires.fit) c.top_key-top.ensures

pub returns-clause-list : goal.returns-clause-list
returns-clause-list g c = λ list agrees.
    IfOk-weaker c.first_below.result (IsFirstStored list (max c.args.a (first_slot c.top_key-top.result))
    (min c.args.b (end_slot c.top_key-top.result))) (IsFirstStored list c.args.a c.args.b)
    (λ found. first_of_all list c.args.a c.args.b c.slots.result
    (g.N.Nodes.view c.args.nodes.now).slots c.top_key-top.result found c.slots.ensures.slots c.top_key-top.ensures
    (c.slots.ensures.few c.requires.fit) c.requires.within)
    (c.first_below.ensures.list list agrees)

pub returns-clause-reads : goal.returns-clause-reads
returns-clause-reads g c =
    omega (
      arith,
      c.first_below.ensures.reads,
      all_reads c.args.a c.args.b c.slots.result
          (g.N.Nodes.view c.args.nodes.now).slots c.top_key-top.result c.slots.ensures.slots c.top_key-top.ensures,
    )
