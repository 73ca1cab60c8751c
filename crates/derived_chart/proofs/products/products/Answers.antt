use Rattle.std.proofs.Common.{arith}
use Rattle.std.proofs.lemmas.Int.{ints}
use Rattle.derived_chart.proofs.ProductLemmas.{rising, falling, passed, given_back}
use Rattle.derived_chart.proofs.products.products.Goals as goal

pub returns-then-a-lt0 : goal.returns-then-a-lt0
returns-then-a-lt0 c = given_back c.args.a c.args.span c.product-last.result c.product-first.result c.product-last.ensures.small
    c.product-first.ensures.small (falling c.args.a c.args.span c.product-last.result c.product-first.result
    (omega (arith, ints, c.if-a-lt0.true)) (passed c.args.a c.args.span.max c.product-last.result c.requires.factor c.requires.proper.high
    c.product-last.ensures.is)
    (passed c.args.a c.args.span.min c.product-first.result c.requires.factor c.requires.proper.low c.product-first.ensures.is)
    c.product-last.ensures.small c.product-first.ensures.small)

pub returns-else-a-lt0 : goal.returns-else-a-lt0
returns-else-a-lt0 c = given_back c.args.a c.args.span c.product-first.result c.product-last.result c.product-first.ensures.small
    c.product-last.ensures.small (rising c.args.a c.args.span c.product-first.result c.product-last.result
    (omega (arith, ints, c.if-a-lt0.false)) (passed c.args.a c.args.span.min c.product-first.result c.requires.factor c.requires.proper.low
    c.product-first.ensures.is)
    (passed c.args.a c.args.span.max c.product-last.result c.requires.factor c.requires.proper.high c.product-last.ensures.is)
    c.product-first.ensures.small c.product-last.ensures.small)
