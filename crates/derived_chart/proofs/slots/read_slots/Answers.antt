use Rattle.std.proofs.Common.{ℤ, arith, ◌∙◌, ap, Bool, List, Option, subst}
use Rattle.om3_coeff.specs.Keys.{end_slot, first_slot}
use Rattle.om3_coeff.specs.View.{Agrees}
use Rattle.om3_coeff.proofs.WalkLemmas.{at_top}
use Rattle.derived_chart.specs.Slots.{AreRead, AreReadBelow}
use Rattle.derived_chart.specs.Sums.{one_of}
use Rattle.derived_chart.proofs.ReadLemmas.{walk_reads}
use Rattle.derived_chart.proofs.SlotLemmas.{on_ok, read_series, read_start, top_zero, empty_values}
use Rattle.derived_chart.proofs.slots.read_slots.Goals as goal

pub read_below-requires-clause-reached : goal.read_below-requires-clause-reached
read_below-requires-clause-reached g c =
    at_top (g.T.Nodes.view c.turn.new.self) c.top_key-top.result c.root-root.result c.slots.result c.slots.ensures.slots
    c.root-root.ensures.root
    (c.root-root.ensures.proper c.turn.ensures.fit) c.top_key-top.ensures

pub returns-clause-list : goal.returns-clause-list
returns-clause-list g c = λ xs ys trees.
    let list : List (Option ℤ) = one_of c.args.second xs ys in
    let P : Bool → Type 0 = λ side. Agrees (g.T.Nodes.view c.turn.new.self) (one_of side xs ys) in
    let agrees : Agrees (g.T.Nodes.view c.turn.new.self) list = subst P c.turn.ensures.turned
    (g.met.T.TwoTrees.agrees c.turn.new.self xs ys (g.met.T.TwoTrees.still_are _ _ xs ys c.turn.ensures.goes trees)) in
    on_ok c.read_below.result (AreReadBelow list c.args.base.now c.args.count (end_slot c.top_key-top.result) c.read_below.new.slots)
    (AreRead list c.args.base.now c.args.count c.read_below.new.slots)
    (read_series list c.args.base.now c.args.count c.slots.result
    (g.T.Nodes.view c.turn.new.self).slots c.top_key-top.result c.read_below.new.slots c.slots.ensures.slots agrees.slots
    (c.slots.ensures.few c.turn.ensures.fit) c.top_key-top.ensures)
    (c.read_below.ensures.list list agrees (read_start list c.args.base.now c.args.count (first_slot c.top_key-top.result) c.args.slots.now
    (top_zero c.slots.result c.top_key-top.result c.top_key-top.ensures) c.requires.empty))

pub returns-clause-values : goal.returns-clause-values
returns-clause-values g c = c.read_below.ensures.values (empty_values c.args.slots.now c.requires.empty)

pub returns-clause-reads : goal.returns-clause-reads
returns-clause-reads g c =
    let slots = c.slots.ensures.slots ∙ g.met.T.TwoTrees.counts c.turn.new.self
    ∙ ap (λ s. g.T.TwoTrees.count s c.turn.new.self) c.turn.ensures.turned
    ∙ g.met.T.TwoTrees.still_count c.args.second _ _ c.turn.ensures.goes in
    omega (
      arith,
      c.turn.ensures.reads,
      walk_reads c.args.base.now c.args.count c.slots.result
          (g.T.TwoTrees.count c.args.second c.args.trees.now) c.top_key-top.result _ _ slots c.top_key-top.ensures
          c.read_below.ensures.reads,
    )
