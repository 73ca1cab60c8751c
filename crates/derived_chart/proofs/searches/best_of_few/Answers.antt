use Rattle.std.proofs.Common.{ℕ, false, true, ◌+◌, ◌-◌, ◌≡◌, ap, arith, subst, to_z, of_z}
use mir.Syntax.{w128}
use Rattle.om3_coeff.specs.Keys.{height}
use Rattle.derived_chart.specs.Searches.{IsBestWith}
use Rattle.derived_chart.proofs.SumLemmas.{passed_on}
use Rattle.derived_chart.proofs.ReadLemmas.{one_side, two_sides}
use Rattle.derived_chart.proofs.SlotLemmas.{arrays_are, held_from, held_place}
use Rattle.derived_chart.proofs.searches.best_of_few.Goals as goal

pub returns-clause-best : goal.returns-clause-best
returns-clause-best g c = λ xs ys sums trees are.
    let now = g.met.T.TwoTrees.still_are _ _ xs ys c.in_ok-read_slots.ensures.goes trees in
    let e : c.args.p + (c.args.q - c.args.p) ≡ c.args.q = omega (arith, c.requires.some) in
    let P : ℕ → Type 0 = λ n. IsBestWith c.args.best sums c.args.p n c.args.found.now c.best_of_arrays.result in
    subst P e
    (c.best_of_arrays.ensures sums c.args.p
    (arrays_are c.args.sum xs ys sums c.read_slots.new.slots c.read_slots-2.new.slots c.args.p (c.args.q - c.args.p)
    (to_z w128 (of_z w128 c.from.result)) (to_z w128 (of_z w128 c.place_beside.result))
    (held_from c.from.result c.args.p c.from.ensures (omega (arith, c.requires.some, c.requires.within)))
    (held_place c.place_beside.result _ c.place_beside.ensures.is c.place_beside.ensures.small) are
    (c.in_ok-read_slots.ensures.list xs ys trees) (c.in_ok-read_slots-2.ensures.list xs ys now)))

pub returns-clause-goes : goal.returns-clause-goes
returns-clause-goes g c = g.met.T.TwoTrees.goes_on _ _ _ c.in_ok-read_slots.ensures.goes c.in_ok-read_slots-2.ensures.goes

pub returns-in_err-read_slots-2-clause-goes : goal.returns-in_err-read_slots-2-clause-goes
returns-in_err-read_slots-2-clause-goes g c = g.met.T.TwoTrees.goes_on _ _ _ c.in_ok-read_slots.ensures.goes
    c.in_err-read_slots-2.ensures.goes

pub returns-in_err-read_slots-2-clause-cause : goal.returns-in_err-read_slots-2-clause-cause
returns-in_err-read_slots-2-clause-cause g c =
    passed_on c.from_residual-in_err-read_slots-2.result c.in_err-read_slots-2.field-0.0
    (g.T.TwoTrees.causes c.args.trees.now c.read_slots-2.new.trees) c.from_residual-in_err-read_slots-2.ensures.1
    (g.met.T.TwoTrees.causes_behind _ _ _ c.in_err-read_slots-2.field-0.0 c.in_ok-read_slots.ensures.goes c.in_ok-read_slots.ensures.quiet
    c.in_err-read_slots-2.ensures.cause)

pub returns-in_err-read_slots-clause-reads : goal.returns-in_err-read_slots-clause-reads
returns-in_err-read_slots-clause-reads g c = one_side (c.args.q - c.args.p) (height (g.T.TwoTrees.count false c.args.trees.now))
    (height (g.T.TwoTrees.count true c.args.trees.now)) _ _ c.in_err-read_slots.ensures.reads

pub returns-in_err-read_slots-2-clause-reads : goal.returns-in_err-read_slots-2-clause-reads
returns-in_err-read_slots-2-clause-reads g c =
    two_sides (c.args.q - c.args.p) (height (g.T.TwoTrees.count false c.args.trees.now))
    (height (g.T.TwoTrees.count true c.args.trees.now)) _ _ _ _
    (ap height (g.met.T.TwoTrees.still_count true _ _ c.in_ok-read_slots.ensures.goes)) c.in_ok-read_slots.ensures.reads
    c.in_err-read_slots-2.ensures.reads

pub returns-clause-reads : goal.returns-clause-reads
returns-clause-reads g c =
    two_sides (c.args.q - c.args.p) (height (g.T.TwoTrees.count false c.args.trees.now))
    (height (g.T.TwoTrees.count true c.args.trees.now)) _ _ _ _
    (ap height (g.met.T.TwoTrees.still_count true _ _ c.in_ok-read_slots.ensures.goes)) c.in_ok-read_slots.ensures.reads
    c.in_ok-read_slots-2.ensures.reads
