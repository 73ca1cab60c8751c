use Rattle.std.proofs.Common.{◌≡◌, pos, ◌+◌, ◌≤◌, ◌-ℤ◌, unsigned_abs, of_z, to_z, arith, ◌∙◌}
use Rattle.std.specs.Int.{w128}
use Rattle.std.proofs.lemmas.Int.{ints}
use Rattle.line_raster.specs.Segment.{InColumn, columns, rows}
use Rattle.line_raster.proofs.Drawn.{next_column, no_column, last_column}
use Rattle.line_raster.proofs.SegmentLemmas.{share-le}
use Rattle.line_raster.proofs.FlatLemmas.{moved_none, moved_more, moved_share, flat_step}
use Rattle.line_raster.proofs.flat.draw_flat.Goals as goal

pub next_moved-moved-requires-clause-near : goal.next_moved-moved-requires-clause-near
next_moved-moved-requires-clause-near c =
    let is_from : to_z w128 (of_z w128 c.args.p.y) ≡ c.args.p.y = omega (arith, ints) in
    let is_to : to_z w128 (of_z w128 c.args.q.y) ≡ c.args.q.y = omega (arith, ints) in
    let is_rows : c.abs_diff-rows.result ≡ rows c.args.p c.args.q = c.abs_diff-rows.ensures ∙ (λ t. unsigned_abs (is_to t -ℤ is_from t)) in
    let share = moved_share _ _ _ _ _ c.loop-n.invariant.moves in
    let part = share-le (columns c.args.p c.args.q) (rows c.args.p c.args.q) c.loop-n.n (omega (arith, c.requires.order))
    (omega (arith, c.loop-n-test.true, c.from-columns.ensures)) in
    omega (arith, is_rows, share, part)

pub loop-n-preserved : goal.loop-n-preserved
loop-n-preserved c =
    let is_from : to_z w128 (of_z w128 c.args.p.y) ≡ c.args.p.y = omega (arith, ints) in
    let is_to : to_z w128 (of_z w128 c.args.q.y) ≡ c.args.q.y = omega (arith, ints) in
    let is_rows : c.abs_diff-rows.result ≡ rows c.args.p c.args.q = c.abs_diff-rows.ensures ∙ (λ t. unsigned_abs (is_to t -ℤ is_from t)) in
    let n = c.loop-n.n in
    let reached : n ≤ columns c.args.p c.args.q = omega (arith, c.loop-n-test.true, c.from-columns.ensures) in
    record {
      drawn = next_column (λ a b. InColumn c.args.p c.args.q a (pos b)) _ (c.args.p.x + n) (c.args.p.x + (n + 1)) _ _ _
          (omega arith) c.loop-n.invariant.drawn c.blacken_moved.ensures
          (λ x y column row.
          flat_step c.args.p c.args.q _ _ (c.args.p.x + n) n c.loop-n.moved.rows is_from is_to c.requires.wide
          (omega (arith, c.requires.order)) (omega arith) reached (moved_share _ _ _ _ _ c.loop-n.invariant.moves) x (pos y));
      moves = moved_more _ c.abs_diff-rows.result _ c.from-columns.result n _ _ _ _ is_rows c.from-columns.ensures
          c.next_moved-moved.ensures.sum c.next_moved-moved.ensures.small c.loop-n.invariant.moves;
    }

pub loop-n-init : goal.loop-n-init
loop-n-init c = record {
  drawn = no_column (λ a b. InColumn c.args.p c.args.q a (pos b)) (c.args.p.x + 0) _ (λ x y h. omega (arith, h.column));
  moves = moved_none _ _ _ (omega (arith, c.requires.order)) c.from-columns.ensures;
}

pub returns : goal.returns
returns c =
    last_column (λ a b. InColumn c.args.p c.args.q a (pos b)) (c.args.p.x + c.loop-n.n) _ _ c.loop-n.invariant.drawn
    (λ x y h. omega (arith, h.column, h.reached, c.loop-n-test.false, c.from-columns.ensures))

pub blacken_moved-requires-clause-column : goal.blacken_moved-requires-clause-column
blacken_moved-requires-clause-column c = omega (
  arith,
  c.loop-n.invariant.drawn.width,
  c.requires.column,
  c.loop-n-test.true,
  c.from-columns.ensures,
)

pub next_moved-moved-requires-clause-error : goal.next_moved-moved-requires-clause-error
next_moved-moved-requires-clause-error c = omega (arith, c.loop-n.invariant.moves.small, c.from-columns.ensures)
