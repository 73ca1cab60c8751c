use Rattle.std.proofs.Common.{true, ◌*◌, ap, arith, sym, ◌∙◌, subst}
use Rattle.om3_coeff.specs.Keys.{height}
use Rattle.om3_coeff.specs.Spans.{IsClear, IsProperIfAny}
use Rattle.derived_chart.proofs.SumLemmas.{first_clear, second_clear, between, here, beside_as, passed_on}
use Rattle.derived_chart.proofs.ProductLemmas.{products_as}
use Rattle.derived_chart.proofs.bounds.bounds.Goals as goal

pub returns-in_default-clause-between : goal.returns-in_default-clause-between
returns-in_default-clause-between g c = λ xs ys sums trees are.
    first_clear c.args.sum xs ys sums c.args.p c.args.q are (sym c.in_default.is ∙ c.in_ok-x.ensures.list xs ys trees)

pub returns-in_default-clause-one : goal.returns-in_default-clause-one
returns-in_default-clause-one g c = λ xs ys sums trees are single.
    subst (IsClear sums c.args.p) single (first_clear c.args.sum xs ys sums c.args.p c.args.q are (sym c.in_default.is
    ∙ c.in_ok-x.ensures.list xs ys trees))

pub beside-from-requires-clause-within : goal.beside-from-requires-clause-within
beside-from-requires-clause-within g c = c.requires.few

pub returns-in_err-y-clause-goes : goal.returns-in_err-y-clause-goes
returns-in_err-y-clause-goes g c = g.met.T.TwoTrees.goes_on _ _ _ c.in_ok-x.ensures.goes
    (g.met.T.TwoTrees.goes_on _ _ _ c.slots_of_second-count.ensures.goes c.in_err-y.ensures.goes)

pub returns-in_err-y-clause-cause : goal.returns-in_err-y-clause-cause
returns-in_err-y-clause-cause g c =
    passed_on c.from_residual-in_err-y.result c.in_err-y.field-0.0
    (g.T.TwoTrees.causes c.args.trees.now c.span_in-2.new.trees) c.from_residual-in_err-y.ensures.1
    (g.met.T.TwoTrees.causes_behind _ _ _ _ (g.met.T.TwoTrees.goes_on _ _ _ c.in_ok-x.ensures.goes c.slots_of_second-count.ensures.goes)
    (c.slots_of_second-count.ensures.quiet ∙ c.in_ok-x.ensures.quiet) c.in_err-y.ensures.cause)

pub returns-in_default-2-clause-between : goal.returns-in_default-2-clause-between
returns-in_default-2-clause-between g c = λ xs ys sums trees are.
    let now = g.met.T.TwoTrees.still_are _ _ xs ys c.in_ok-x.ensures.goes trees in
    let then = g.met.T.TwoTrees.still_are _ _ xs ys c.slots_of_second-count.ensures.goes now in
    second_clear c.args.sum xs ys sums c.args.p c.args.q c.slots_of_second-count.result c.beside-from.result are
    (c.slots_of_second-count.ensures.length xs ys now)
    (beside_as c.args.sum.shift c.slots_of_second-count.result c.args.p c.args.q c.beside-from.result c.requires.small.shift
    c.beside-from.ensures) (sym c.in_default-2.is ∙ c.in_ok-y.ensures.list xs ys then)

pub returns-in_default-2-clause-one : goal.returns-in_default-2-clause-one
returns-in_default-2-clause-one g c = λ xs ys sums trees are single.
    let now = g.met.T.TwoTrees.still_are _ _ xs ys c.in_ok-x.ensures.goes trees in
    let then = g.met.T.TwoTrees.still_are _ _ xs ys c.slots_of_second-count.ensures.goes now in
    subst (IsClear sums c.args.p) single (second_clear c.args.sum xs ys sums c.args.p c.args.q c.slots_of_second-count.result
    c.beside-from.result are (c.slots_of_second-count.ensures.length xs ys now)
    (beside_as c.args.sum.shift c.slots_of_second-count.result c.args.p c.args.q c.beside-from.result c.requires.small.shift
    c.beside-from.ensures) (sym c.in_default-2.is ∙ c.in_ok-y.ensures.list xs ys then))

pub returns-in_default-2-clause-goes : goal.returns-in_default-2-clause-goes
returns-in_default-2-clause-goes g c = g.met.T.TwoTrees.goes_on _ _ _ c.in_ok-x.ensures.goes
    (g.met.T.TwoTrees.goes_on _ _ _ c.slots_of_second-count.ensures.goes c.in_ok-y.ensures.goes)

pub returns-clause-between : goal.returns-clause-between
returns-clause-between g c = λ xs ys sums trees are.
    let now = g.met.T.TwoTrees.still_are _ _ xs ys c.in_ok-x.ensures.goes trees in
    let then = g.met.T.TwoTrees.still_are _ _ xs ys c.slots_of_second-count.ensures.goes now in
    between c.args.sum xs ys sums c.args.p c.args.q c.slots_of_second-count.result c.beside-from.result c.in-Some.x c.in-Some-2.y
    c.products-first.result c.products-second.result c.both.result.0 c.both.result.1 are
    (c.slots_of_second-count.ensures.length xs ys now)
    (beside_as c.args.sum.shift c.slots_of_second-count.result c.args.p c.args.q c.beside-from.result c.requires.small.shift
    c.beside-from.ensures)
    (sym c.in-Some.is ∙ c.in_ok-x.ensures.list xs ys trees) (sym c.in-Some-2.is
    ∙ c.in_ok-y.ensures.list xs ys then) (products_as c.args.sum.a c.in-Some.x c.products-first.result c.requires.small.a
    c.products-first.ensures) (products_as c.args.sum.b c.in-Some-2.y c.products-second.result c.requires.small.b
    c.products-second.ensures) c.both.ensures.low c.both.ensures.high

pub returns-clause-one : goal.returns-clause-one
returns-clause-one g c = λ xs ys sums trees are single.
    let now = g.met.T.TwoTrees.still_are _ _ xs ys c.in_ok-x.ensures.goes trees in
    let then = g.met.T.TwoTrees.still_are _ _ xs ys c.slots_of_second-count.ensures.goes now in
    here c.args.sum xs ys sums c.args.p c.args.q c.slots_of_second-count.result c.beside-from.result c.in-Some.x c.in-Some-2.y
    c.products-first.result c.products-second.result c.both.result.0 c.both.result.1 are
    (c.slots_of_second-count.ensures.length xs ys now)
    (beside_as c.args.sum.shift c.slots_of_second-count.result c.args.p c.args.q c.beside-from.result c.requires.small.shift
    c.beside-from.ensures)
    (sym c.in-Some.is ∙ c.in_ok-x.ensures.list xs ys trees) (sym c.in-Some-2.is
    ∙ c.in_ok-y.ensures.list xs ys then) (products_as c.args.sum.a c.in-Some.x c.products-first.result c.requires.small.a
    c.products-first.ensures) (products_as c.args.sum.b c.in-Some-2.y c.products-second.result c.requires.small.b
    c.products-second.ensures) c.both.ensures.low c.both.ensures.high single

pub returns-clause-goes : goal.returns-clause-goes
returns-clause-goes g c = g.met.T.TwoTrees.goes_on _ _ _ c.in_ok-x.ensures.goes
    (g.met.T.TwoTrees.goes_on _ _ _ c.slots_of_second-count.ensures.goes c.in_ok-y.ensures.goes)

pub products-first-requires-clause-proper : goal.products-first-requires-clause-proper
products-first-requires-clause-proper g c = subst IsProperIfAny c.in-Some.is c.in_ok-x.ensures.proper

pub products-second-requires-clause-proper : goal.products-second-requires-clause-proper
products-second-requires-clause-proper g c = subst IsProperIfAny c.in-Some-2.is c.in_ok-y.ensures.proper

pub both-requires-clause-first : goal.both-requires-clause-first
both-requires-clause-first g c = c.products-first.ensures.small

pub both-requires-clause-second : goal.both-requires-clause-second
both-requires-clause-second g c = c.products-second.ensures.small

pub span_in-requires-2-clause-within : goal.span_in-requires-2-clause-within
span_in-requires-2-clause-within g c = omega (
  arith,
  c.beside-from.ensures.within,
  c.slots_of_second-count.ensures.count,
  g.met.T.TwoTrees.still_count true _ _ c.slots_of_second-count.ensures.goes,
)

pub returns-in_err-x-clause-reads : goal.returns-in_err-x-clause-reads
returns-in_err-x-clause-reads g c = omega (arith, c.in_err-x.ensures.reads)

pub returns-in_default-clause-reads : goal.returns-in_default-clause-reads
returns-in_default-clause-reads g c = omega (arith, c.in_ok-x.ensures.reads)

pub returns-in_err-y-clause-reads : goal.returns-in_err-y-clause-reads
returns-in_err-y-clause-reads g c =
    let second = g.met.T.TwoTrees.still_count true _ _
    (g.met.T.TwoTrees.goes_on _ _ _ c.in_ok-x.ensures.goes c.slots_of_second-count.ensures.goes) in
    omega (arith, c.in_ok-x.ensures.reads, c.slots_of_second-count.ensures.reads, c.in_err-y.ensures.reads, ap (λ n. 2 * height n) second)

pub returns-in_default-2-clause-reads : goal.returns-in_default-2-clause-reads
returns-in_default-2-clause-reads g c =
    let second = g.met.T.TwoTrees.still_count true _ _
    (g.met.T.TwoTrees.goes_on _ _ _ c.in_ok-x.ensures.goes c.slots_of_second-count.ensures.goes) in
    omega (arith, c.in_ok-x.ensures.reads, c.slots_of_second-count.ensures.reads, c.in_ok-y.ensures.reads, ap (λ n. 2 * height n) second)

pub returns-clause-reads : goal.returns-clause-reads
returns-clause-reads g c =
    let second = g.met.T.TwoTrees.still_count true _ _
    (g.met.T.TwoTrees.goes_on _ _ _ c.in_ok-x.ensures.goes c.slots_of_second-count.ensures.goes) in
    omega (arith, c.in_ok-x.ensures.reads, c.slots_of_second-count.ensures.reads, c.in_ok-y.ensures.reads, ap (λ n. 2 * height n) second)
