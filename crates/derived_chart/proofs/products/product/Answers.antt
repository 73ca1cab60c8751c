use Rattle.std.proofs.Common.{ℤ, ◌≤◌, ◌^◌, ◌*ℤ◌, arith, sym, subst}
use Rattle.std.specs.Prelude.{unsigned_abs}
use Rattle.derived_chart.proofs.ProductLemmas.{product_small, wide, fits_wide, wide_product}
use Rattle.derived_chart.proofs.products.product.Goals as goal

pub overflow_mul-result : goal.overflow_mul-result
overflow_mul-result c =
    let small = product_small c.args.a c.args.x c.requires.factor c.requires.value in
    fits_wide (c.args.a *ℤ c.args.x) _ (omega (arith, small))
    (wide_product c.args.a c.args.x c.from.result c.from-2.result c.requires.factor c.requires.value c.from.ensures c.from-2.ensures)

pub returns-clause-is : goal.returns-clause-is
returns-clause-is c =
    let small = product_small c.args.a c.args.x c.requires.factor c.requires.value in
    wide (c.args.a *ℤ c.args.x) _ (omega (arith, small))
    (wide_product c.args.a c.args.x c.from.result c.from-2.result c.requires.factor c.requires.value c.from.ensures c.from-2.ensures)

pub returns-clause-small : goal.returns-clause-small
returns-clause-small c =
    let small = product_small c.args.a c.args.x c.requires.factor c.requires.value in
    let P : ℤ → Type 0 = λ z. unsigned_abs z ≤ 10 ^ 27 in
    subst P (sym (wide (c.args.a *ℤ c.args.x) _ (omega (arith, small))
    (wide_product c.args.a c.args.x c.from.result c.from-2.result c.requires.factor c.requires.value c.from.ensures c.from-2.ensures)))
    small
