use Rattle.std.proofs.Common.{◌≡◌, ◌<◌, ◌≤◌, pos, ◌-ℤ◌, unsigned_abs, of_z, to_z, arith, ◌∙◌}
use Rattle.std.specs.Int.{w128}
use Rattle.std.proofs.lemmas.Int.{ints}
use Rattle.line_raster.specs.Segment.{columns, rows}
use Rattle.line_raster.proofs.Drawn.{alike}
use Rattle.line_raster.proofs.OnLemmas.{on_steep, on_flat, on_dot}
use Rattle.line_raster.proofs.drawing.segment.Goals as goal

pub draw_steep-requires-clause-high : goal.draw_steep-requires-clause-high
draw_steep-requires-clause-high c =
    let is_from : to_z w128 (of_z w128 c.args.p.y) ≡ c.args.p.y = omega (arith, ints) in
    let is_to : to_z w128 (of_z w128 c.args.q.y) ≡ c.args.q.y = omega (arith, ints) in
    let is_rows : c.abs_diff-rows.result ≡ rows c.args.p c.args.q = c.abs_diff-rows.ensures ∙ (λ t. unsigned_abs (is_to t -ℤ is_from t)) in
    omega (arith, is_rows, c.from.ensures, c.if-rows-from.true)

pub draw_flat-requires-clause-wide : goal.draw_flat-requires-clause-wide
draw_flat-requires-clause-wide c =
    let is_from : to_z w128 (of_z w128 c.args.p.y) ≡ c.args.p.y = omega (arith, ints) in
    let is_to : to_z w128 (of_z w128 c.args.q.y) ≡ c.args.q.y = omega (arith, ints) in
    let is_rows : c.abs_diff-rows.result ≡ rows c.args.p c.args.q = c.abs_diff-rows.ensures ∙ (λ t. unsigned_abs (is_to t -ℤ is_from t)) in
    omega (arith, is_rows, c.from.ensures, c.if-rows-from.false)

pub draw_flat-requires-clause-order : goal.draw_flat-requires-clause-order
draw_flat-requires-clause-order c = omega (arith, c.if-columns-gt0.true)

pub returns-then-rows-from : goal.returns-then-rows-from
returns-then-rows-from c =
    let is_from : to_z w128 (of_z w128 c.args.p.y) ≡ c.args.p.y = omega (arith, ints) in
    let is_to : to_z w128 (of_z w128 c.args.q.y) ≡ c.args.q.y = omega (arith, ints) in
    let is_rows : c.abs_diff-rows.result ≡ rows c.args.p c.args.q = c.abs_diff-rows.ensures ∙ (λ t. unsigned_abs (is_to t -ℤ is_from t)) in
    let high : columns c.args.p c.args.q < rows c.args.p c.args.q = omega (arith, is_rows, c.from.ensures, c.if-rows-from.true) in
    alike _ _ _ _ c.draw_steep.ensures (λ x y column row. on_steep c.args.p c.args.q x (pos y) high)

pub returns-then-columns-gt0 : goal.returns-then-columns-gt0
returns-then-columns-gt0 c =
    let is_from : to_z w128 (of_z w128 c.args.p.y) ≡ c.args.p.y = omega (arith, ints) in
    let is_to : to_z w128 (of_z w128 c.args.q.y) ≡ c.args.q.y = omega (arith, ints) in
    let is_rows : c.abs_diff-rows.result ≡ rows c.args.p c.args.q = c.abs_diff-rows.ensures ∙ (λ t. unsigned_abs (is_to t -ℤ is_from t)) in
    let wide : rows c.args.p c.args.q ≤ columns c.args.p c.args.q = omega (arith, is_rows, c.from.ensures, c.if-rows-from.false) in
    alike _ _ _ _ c.draw_flat.ensures (λ x y column row. on_flat c.args.p c.args.q x (pos y) wide c.if-columns-gt0.true)

pub returns-else-columns-gt0 : goal.returns-else-columns-gt0
returns-else-columns-gt0 c =
    let is_from : to_z w128 (of_z w128 c.args.p.y) ≡ c.args.p.y = omega (arith, ints) in
    let is_to : to_z w128 (of_z w128 c.args.q.y) ≡ c.args.q.y = omega (arith, ints) in
    let is_rows : c.abs_diff-rows.result ≡ rows c.args.p c.args.q = c.abs_diff-rows.ensures ∙ (λ t. unsigned_abs (is_to t -ℤ is_from t)) in
    let wide : rows c.args.p c.args.q ≤ columns c.args.p c.args.q = omega (arith, is_rows, c.from.ensures, c.if-rows-from.false) in
    alike _ _ _ _ c.column_fill.ensures (λ x y column row. on_dot c.args.p c.args.q _ x (pos y) is_from wide
    (omega (arith, c.if-columns-gt0.false)))
