use Rattle.std.proofs.Common.{Bool, ◌≡◌, ◌*◌, ◌∙◌, ap, arith, subst}
use Rattle.std.proofs.lemmas.Result.{IfErr-weaker}
use Rattle.std.specs.Prelude.{IfOk}
use Rattle.om3_coeff.specs.Keys.{height}
use Rattle.om3_coeff.specs.Spans.{span_over}
use Rattle.om3_coeff.specs.View.{HasCause}
use Rattle.derived_chart.specs.Sums.{one_of}
use Rattle.derived_chart.proofs.bounds.span_in.Goals as goal

pub returns-clause-list : goal.returns-clause-list
returns-clause-list g c = λ xs ys trees.
    let now = g.met.T.TwoTrees.still_are _ _ xs ys c.turn.ensures.goes trees in
    let P : Bool → Type 0 = λ side. IfOk c.range_span.result (λ span. span ≡ span_over (one_of side xs ys) c.args.a c.args.b) in
    subst P c.turn.ensures.turned (c.range_span.ensures.list (one_of (g.T.TwoTrees.asks_second c.turn.new.self) xs ys)
    (g.met.T.TwoTrees.agrees c.turn.new.self xs ys now))

pub returns-clause-goes : goal.returns-clause-goes
returns-clause-goes g c = g.met.T.TwoTrees.goes_on _ _ _ c.turn.ensures.goes (g.met.T.TwoTrees.asks_go _ _ c.range_span.ensures.kept)

pub returns-clause-cause : goal.returns-clause-cause
returns-clause-cause g c =
    IfErr-weaker c.range_span.result (HasCause (g.T.Nodes.view c.turn.new.self) (g.T.Nodes.view c.range_span.new.nodes))
    (g.T.TwoTrees.causes c.args.trees.now c.range_span.new.nodes)
    (λ e has. g.met.T.TwoTrees.causes_behind _ _ _ e c.turn.ensures.goes c.turn.ensures.quiet
    (g.met.T.TwoTrees.asks_cause _ _ e c.range_span.ensures.kept has)) c.range_span.ensures.cause

pub returns-clause-reads : goal.returns-clause-reads
returns-clause-reads g c =
    let slots = g.met.T.TwoTrees.counts c.turn.new.self ∙ ap (λ s. g.T.TwoTrees.count s c.turn.new.self) c.turn.ensures.turned
    ∙ g.met.T.TwoTrees.still_count c.args.second _ _ c.turn.ensures.goes in
    omega (arith, c.turn.ensures.reads, c.range_span.ensures.reads, ap (λ n. 2 * height n) slots)
