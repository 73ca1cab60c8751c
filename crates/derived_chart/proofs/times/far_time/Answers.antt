use Rattle.std.proofs.Common.{arith, rules}
use Rattle.derived_chart.proofs.TimeLemmas.{far_product_fits, far_sum_fits, far_sum_is}
use Rattle.derived_chart.proofs.times.far_time.Goals as goal

pub overflow_mul-result : goal.overflow_mul-result
overflow_mul-result c = far_product_fits c.args.slot c.args.axis.step c.from-2.result c.from-3.result (omega arith)
    (omega arith) c.from-2.ensures c.from-3.ensures

pub overflow_add-result : goal.overflow_add-result
overflow_add-result c = far_sum_fits c.args.axis c.args.slot c.from.result c.from-2.result c.from-3.result (search rules) (omega arith)
    (omega arith) c.from.ensures c.from-2.ensures c.from-3.ensures

pub returns : goal.returns
returns c = far_sum_is c.args.axis c.args.slot c.from.result c.from-2.result c.from-3.result (search rules) (omega arith)
    (omega arith) c.from.ensures c.from-2.ensures c.from-3.ensures
