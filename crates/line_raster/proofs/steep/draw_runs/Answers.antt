use Rattle.std.proofs.Common.{◌≡◌, ℕ, pos, ◌+◌, ◌<◌, ◌-ℤ◌, unsigned_abs, of_z, to_z, arith, refl, subst, subst₂, ◌∙◌}
use Rattle.std.specs.Int.{w128}
use Rattle.std.proofs.lemmas.Int.{ints}
use Rattle.std.proofs.lemmas.Nat.{div-add-mod'}
use Rattle.line_raster.specs.Segment.{InRow, columns, rows}
use Rattle.line_raster.specs.Run.{IsCut, IsBalanced, IsDrawnTo}
use Rattle.line_raster.proofs.Drawn.{next_column}
use Rattle.line_raster.proofs.SegmentLemmas.{steep_run}
use Rattle.line_raster.proofs.RunLemmas.{cut_by, cut_bound, balanced_more, drawn_none}
use Rattle.line_raster.proofs.steep.draw_runs.Goals as goal

pub fill_run-requires-clause-way : goal.fill_run-requires-clause-way
fill_run-requires-clause-way c =
    let bound = cut_bound _ _ _ _ _ (let k : c.loop-k.k < columns c.args.p c.args.q = omega (
      arith,
      c.loop-k-test.true,
      c.from-columns.ensures,
    ) in k) c.loop-k.invariant.balanced in
    omega (arith, ints, bound, c.requires.first_height, c.requires.last_height)

pub next_run_end-end-requires-clause-near : goal.next_run_end-end-requires-clause-near
next_run_end-end-requires-clause-near c =
    let bound = cut_bound _ _ _ _ _ (let k : c.loop-k.k < columns c.args.p c.args.q = omega (
      arith,
      c.loop-k-test.true,
      c.from-columns.ensures,
    ) in k) c.loop-k.invariant.balanced in
    omega (arith, ints, bound, c.requires.first_height, c.requires.last_height)

pub loop-k-preserved : goal.loop-k-preserved
loop-k-preserved c =
    let is_from : to_z w128 (of_z w128 c.args.p.y) ≡ c.args.p.y = omega (arith, ints) in
    let is_to : to_z w128 (of_z w128 c.args.q.y) ≡ c.args.q.y = omega (arith, ints) in
    let is_rows : c.abs_diff-rows.result ≡ rows c.args.p c.args.q = c.abs_diff-rows.ensures ∙ (λ t. unsigned_abs (is_to t -ℤ is_from t)) in
    let is_columns = c.from-columns.ensures in
    let k = c.loop-k.k in
    let within : k < columns c.args.p c.args.q = omega (arith, c.loop-k-test.true, is_columns) in
    let before = c.loop-k.invariant.drawn in
    let cut : IsCut (rows c.args.p c.args.q) (columns c.args.p c.args.q) c.loop-k.end.rows (k + 1) = cut_by _ _ _ _ _
    (omega (arith, c.requires.high)) c.loop-k.invariant.balanced in
    let bound = cut_bound _ _ _ _ _ within c.loop-k.invariant.balanced in
    record {
      drawn = record {
        drawn = next_column (λ a b. InRow c.args.p c.args.q a (pos b)) _ (c.args.p.x + k) (c.args.p.x + (k + 1)) _ _ _
            (omega arith) before.drawn c.fill_run.ensures
            (λ x y column row.
            steep_run c.args.p c.args.q _ _ (c.args.p.x + k) k c.loop-k.first c.loop-k.end.rows is_from is_to c.requires.high
            (omega arith) bound before.cut cut x (pos y));
        cut = cut;
        bound = bound;
      };
      balanced = balanced_more _ c.abs_diff-rows.result _ c.from-columns.result k _ _ _ _ _ _ is_rows is_columns
          (div-add-mod' c.abs_diff-rows.result c.from-columns.result) c.next_run_end-end.ensures.sum c.next_run_end-end.ensures.small
          c.loop-k.invariant.balanced;
    }

pub returns : goal.returns
returns c =
    let all : c.loop-k.k ≡ columns c.args.p c.args.q = omega (arith, c.loop-k-test.false, c.loop-k.auto.k-end, c.from-columns.ensures) in
    let P : ℕ → Type 0 = λ k. IsDrawnTo c.args.p c.args.q k c.loop-k.first c.args.bitmap.now c.loop-k.bitmap in
    subst P all c.loop-k.invariant.drawn

pub returns-then-columns-eq0 : goal.returns-then-columns-eq0
returns-then-columns-eq0 c = drawn_none c.args.p c.args.q _ _ (omega (arith, c.from-columns.ensures, c.if-columns-eq0.true))

pub first_run_end-end-requires-clause-near : goal.first_run_end-end-requires-clause-near
first_run_end-end-requires-clause-near c = omega (arith, ints, c.abs_diff-rows.ensures, c.requires.first_height, c.requires.last_height)

pub loop-k-init : goal.loop-k-init
loop-k-init c =
    let is_from : to_z w128 (of_z w128 c.args.p.y) ≡ c.args.p.y = omega (arith, ints) in
    let is_to : to_z w128 (of_z w128 c.args.q.y) ≡ c.args.q.y = omega (arith, ints) in
    let is_rows : c.abs_diff-rows.result ≡ rows c.args.p c.args.q = c.abs_diff-rows.ensures ∙ (λ t. unsigned_abs (is_to t -ℤ is_from t)) in
    let P : ℕ → ℕ → Type 0 = λ r k. IsBalanced r k 0 c.first_run_end-end.result.rows c.first_run_end-end.result.error in
    record { drawn = drawn_none c.args.p c.args.q 0 _ refl; balanced = subst₂ P is_rows c.from-columns.ensures c.first_run_end-end.ensures }

pub fill_run-requires-clause-column : goal.fill_run-requires-clause-column
fill_run-requires-clause-column c = omega (
  arith,
  c.loop-k.invariant.drawn.drawn.width,
  c.requires.column,
  c.loop-k-test.true,
  c.from-columns.ensures,
)

pub fill_run-requires-clause-first_way : goal.fill_run-requires-clause-first_way
fill_run-requires-clause-first_way c = omega (arith, ints, c.loop-k.invariant.drawn.bound, c.requires.first_height, c.requires.last_height)
