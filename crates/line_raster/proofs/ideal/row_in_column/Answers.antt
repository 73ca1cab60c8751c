use Rattle.std.proofs.Common.{◌≡◌, ◌+◌, ◌*◌, ◌/◌, ◌-ℤ◌, unsigned_abs, of_z, to_z, arith, ◌∙◌}
use Rattle.std.specs.Int.{w128}
use Rattle.std.proofs.lemmas.Int.{ints}
use Rattle.line_raster.specs.Segment.{columns, rows, share, towards}
use Rattle.line_raster.proofs.IdealLemmas.{row_pixel, row_is_nearest, one_row}
use Rattle.line_raster.proofs.ideal.row_in_column.Goals as goal

pub returns-clause-pixel : goal.returns-clause-pixel
returns-clause-pixel c =
    let is_from : to_z w128 (of_z w128 c.args.p.y) ≡ c.args.p.y = omega (arith, ints) in
    let is_to : to_z w128 (of_z w128 c.args.q.y) ≡ c.args.q.y = omega (arith, ints) in
    let is_result : to_z w128 (of_z w128 c.row_towards.result) ≡ c.row_towards.result = omega (arith, ints) in
    let is_rows : c.abs_diff-rows.result ≡ rows c.args.p c.args.q = c.abs_diff-rows.ensures ∙ (λ t. unsigned_abs (is_to t -ℤ is_from t)) in
    let is_columns = c.from-columns.ensures in
    let is_share : c.from.result ≡ share (columns c.args.p c.args.q) (rows c.args.p c.args.q) c.from-n.result =
    c.from.ensures ∙ (λ t. (2 * c.from-n.result * is_rows t + is_columns t) / (2 * is_columns t)) in
    row_pixel c.args.p c.args.q c.args.x c.from-n.result _ c.requires.wide (omega (arith, c.requires.some))
    (omega (arith, c.from-n.ensures, c.requires.begun)) (omega (arith, c.from-n.ensures, c.requires.reached))
    (is_result ∙ c.row_towards.ensures ∙ (λ t. towards (is_from t) (is_to t) (is_share t)))

pub returns-clause-alone : goal.returns-clause-alone
returns-clause-alone c y is = one_row c.args.p c.args.q c.args.x _ y (returns-clause-pixel c) is

pub returns-clause-nearest : goal.returns-clause-nearest
returns-clause-nearest c = row_is_nearest c.args.p c.args.q c.args.x _ (returns-clause-pixel c)
