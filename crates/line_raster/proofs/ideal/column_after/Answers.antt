use Rattle.std.proofs.Common.{◌≡◌, ◌+◌, ◌*◌, ◌^◌, ◌≤◌, ◌-ℤ◌, unsigned_abs, of_z, to_z, arith, ◌∙◌}
use Rattle.std.specs.Int.{w128}
use Rattle.std.proofs.lemmas.Int.{ints}
use Rattle.std.proofs.lemmas.Nat.{mul-le}
use Rattle.line_raster.specs.Segment.{rows, share}
use Rattle.line_raster.proofs.SegmentLemmas.{share-le}
use Rattle.line_raster.proofs.ideal.column_after.Goals as goal

is_rows : (c : goal.After-abs_diff-rows) → c.abs_diff-rows.result ≡ rows c.args.p c.args.q
is_rows c =
    let is_from : to_z w128 (of_z w128 c.args.p.y) ≡ c.args.p.y = omega (arith, ints) in
    let is_to : to_z w128 (of_z w128 c.args.q.y) ≡ c.args.q.y = omega (arith, ints) in
    c.abs_diff-rows.ensures ∙ (λ t. unsigned_abs (is_to t -ℤ is_from t))

part : (c : goal.After-abs_diff-rows) → share c.abs_diff-rows.result c.from-columns.result c.args.n ≤ c.from-columns.result
part c = share-le _ _ c.args.n (omega (arith, is_rows c, c.requires.high)) (omega (arith, is_rows c, c.requires.reached))

most : (c : goal.After-abs_diff-rows) → c.args.n * c.from-columns.result ≤ 10 ^ 23 * 2 ^ 16
most c = mul-le c.args.n c.from-columns.result (10 ^ 23) (2 ^ 16) (omega (arith, c.requires.reached, c.requires.near))
    (omega (arith, c.from-columns.ensures))

pub overflow_mul-result : goal.overflow_mul-result
overflow_mul-result c = omega (arith, c.requires.reached, c.requires.near)

pub overflow_mul-result-2 : goal.overflow_mul-result-2
overflow_mul-result-2 c = omega (arith, most c)

pub overflow_add-result : goal.overflow_add-result
overflow_add-result c = omega (arith, most c, is_rows c, c.requires.near)

pub overflow_mul-result-3 : goal.overflow_mul-result-3
overflow_mul-result-3 c = omega (arith, is_rows c, c.requires.near)

pub nonzero_div-result : goal.nonzero_div-result
nonzero_div-result c = omega (arith, is_rows c, c.requires.high)

pub overflow_cast-result : goal.overflow_cast-result
overflow_cast-result c = omega (arith, part c, c.from-columns.ensures)

pub overflow_add-result-2 : goal.overflow_add-result-2
overflow_add-result-2 c =
    let is_from : to_z w128 (of_z w128 c.args.p.y) ≡ c.args.p.y = omega (arith, ints) in
    let is_to : to_z w128 (of_z w128 c.args.q.y) ≡ c.args.q.y = omega (arith, ints) in
    let is_rows : c.abs_diff-rows.result ≡ rows c.args.p c.args.q = c.abs_diff-rows.ensures ∙ (λ t. unsigned_abs (is_to t -ℤ is_from t)) in
    omega (
      arith,
      share-le c.abs_diff-rows.result c.from-columns.result c.args.n (omega (arith, is_rows, c.requires.high))
          (omega (arith, is_rows, c.requires.reached)),
      c.from-columns.ensures,
    )

pub returns : goal.returns
returns c =
    let is_from : to_z w128 (of_z w128 c.args.p.y) ≡ c.args.p.y = omega (arith, ints) in
    let is_to : to_z w128 (of_z w128 c.args.q.y) ≡ c.args.q.y = omega (arith, ints) in
    let is_rows : c.abs_diff-rows.result ≡ rows c.args.p c.args.q = c.abs_diff-rows.ensures ∙ (λ t. unsigned_abs (is_to t -ℤ is_from t)) in
    λ t. c.args.p.x + share (is_rows t) (c.from-columns.ensures t) c.args.n
