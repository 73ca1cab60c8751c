use Rattle.std.proofs.Common.{◌≡◌, ◌-ℤ◌, unsigned_abs, of_z, to_z, arith, ◌∙◌}
use Rattle.std.specs.Int.{w128}
use Rattle.std.proofs.lemmas.Int.{ints}
use Rattle.line_raster.proofs.IdealLemmas.{column_pixel, column_is_nearest, one_column}
use Rattle.line_raster.proofs.ideal.column_in_row.Goals as goal

pub returns-clause-pixel : goal.returns-clause-pixel
returns-clause-pixel c =
    let is_from : to_z w128 (of_z w128 c.args.p.y) ≡ c.args.p.y = omega (arith, ints) in
    let is_y : to_z w128 (of_z w128 c.args.y) ≡ c.args.y = omega (arith, ints) in
    column_pixel c.args.p c.args.q c.args.y c.abs_diff.result c.column_after.result c.requires.high c.requires.above c.requires.below
    (c.abs_diff.ensures ∙ (λ t. unsigned_abs (is_y t -ℤ is_from t))) c.column_after.ensures

pub returns-clause-alone : goal.returns-clause-alone
returns-clause-alone c x is = one_column c.args.p c.args.q _ x c.args.y (returns-clause-pixel c) is

pub returns-clause-nearest : goal.returns-clause-nearest
returns-clause-nearest c = column_is_nearest c.args.p c.args.q _ c.args.y (returns-clause-pixel c)
