use Rattle.std.proofs.Common.{◌≡◌, ℕ, pos, ◌+◌, ◌<◌, ◌-ℤ◌, unsigned_abs, of_z, to_z, arith, ap, subst, ◌∙◌}
use Rattle.std.specs.Int.{w128}
use Rattle.std.proofs.lemmas.Int.{ints}
use Rattle.line_raster.specs.Canvas.{Adds}
use Rattle.line_raster.specs.Segment.{InRow, columns, rows}
use Rattle.line_raster.specs.Run.{IsCut}
use Rattle.line_raster.proofs.Drawn.{next_column, last_column}
use Rattle.line_raster.proofs.SegmentLemmas.{steep_run, steep_within}
use Rattle.line_raster.proofs.RunLemmas.{cut_all}
use Rattle.line_raster.proofs.steep.draw_steep.Goals as goal

pub returns : goal.returns
returns c =
    let is_from : to_z w128 (of_z w128 c.args.p.y) ≡ c.args.p.y = omega (arith, ints) in
    let is_to : to_z w128 (of_z w128 c.args.q.y) ≡ c.args.q.y = omega (arith, ints) in
    let is_rows : c.abs_diff-rows.result ≡ rows c.args.p c.args.q = c.abs_diff-rows.ensures ∙ (λ t. unsigned_abs (is_to t -ℤ is_from t)) in
    let k : ℕ = columns c.args.p c.args.q in
    let at : c.args.p.x + k ≡ c.args.q.x = omega (arith, c.requires.order) in
    let before = c.draw_runs-first.ensures in
    let cut : IsCut (rows c.args.p c.args.q) k (c.abs_diff-rows.result + 1) (k + 1) = cut_all _ _ _ (omega (arith, c.requires.high))
    (ap (λ r. r + 1) is_rows) in
    let P : ℕ → Type 0 = λ m. Adds (λ a b. InRow c.args.p c.args.q a (pos b) × (a < m)) c.args.bitmap.now c.draw_runs-first.new.bitmap in
    last_column (λ a b. InRow c.args.p c.args.q a (pos b)) (c.args.q.x + 1) _ _
    (next_column (λ a b. InRow c.args.p c.args.q a (pos b)) _ c.args.q.x (c.args.q.x + 1) _ _ _ (omega arith)
    (subst P at before.drawn) c.fill_run.ensures
    (λ x y column row.
    steep_run c.args.p c.args.q _ _ c.args.q.x k c.draw_runs-first.result (c.abs_diff-rows.result + 1) is_from is_to c.requires.high at
    (omega (arith, is_rows)) before.cut cut x (pos y)))
    (λ x y h. let within = steep_within c.args.p c.args.q x (pos y) c.requires.order h in within.1)
