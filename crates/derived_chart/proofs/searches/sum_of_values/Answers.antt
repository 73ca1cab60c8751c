use Rattle.std.proofs.Common.{◌*ℤ◌}
use Rattle.derived_chart.proofs.ProductLemmas.{passed}
use Rattle.derived_chart.proofs.SlotLemmas.{held_sum}
use Rattle.derived_chart.proofs.searches.sum_of_values.Goals as goal

pub returns : goal.returns
returns c = held_sum c.product-first.result c.product-second.result (c.args.sum.a *ℤ c.args.x.now)
    (c.args.sum.b *ℤ c.args.y.now) c.added.result c.product-first.ensures.small c.product-second.ensures.small c.added.ensures.small
    c.added.ensures.is
    (passed c.args.sum.a c.args.x.now c.product-first.result c.requires.small.a c.requires.first c.product-first.ensures.is)
    (passed c.args.sum.b c.args.y.now c.product-second.result c.requires.small.b c.requires.second c.product-second.ensures.is)
