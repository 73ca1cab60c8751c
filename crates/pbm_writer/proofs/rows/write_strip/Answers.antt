use Rattle.std.proofs.Common.{◌≡◌, ◌+◌, ◌-◌, ◌*◌, arith, ap, ◌∙◌, get_or}
use Rattle.pbm_writer.specs.Picture.{row_bytes}
use Rattle.std.specs.Int.{div_ceil}
use Rattle.pbm_writer.proofs.StripLemmas.{strip_more, place_in_rows}
use Rattle.pbm_writer.proofs.rows.write_strip.Goals as goal

pub bounds-rows-place : goal.bounds-rows-place
bounds-rows-place c =
    let is_row : c.from-row_bytes.result ≡ row_bytes c.args.bitmap.now.w = c.from-row_bytes.ensures ∙ c.div_ceil.ensures
    ∙ ap (λ w. div_ceil w 8) c.width.ensures.value in
    let is_above : c.from-above.result ≡ c.args.bitmap.now.h - 1 - c.loop-y.y = c.from-above.ensures
    ∙ ap (λ h. h - 1 - c.loop-y.y) c.height-height.ensures.value in
    place_in_rows c.args.bitmap.now _ _ c.from.result c.loop-y.y c.loop-y.rows (c.loop-y.invariant.size ∙ c.requires.size) is_above is_row
    (omega (arith, c.loop-y-test.true, c.height-height.ensures.value)) (omega (arith, c.from.ensures, c.requires.strip))

pub loop-y-preserved : goal.loop-y-preserved
loop-y-preserved c =
    let is_row : c.from-row_bytes.result ≡ row_bytes c.args.bitmap.now.w = c.from-row_bytes.ensures ∙ c.div_ceil.ensures
    ∙ ap (λ w. div_ceil w 8) c.width.ensures.value in
    let is_above : c.from-above.result ≡ c.args.bitmap.now.h - 1 - c.loop-y.y = c.from-above.ensures
    ∙ ap (λ h. h - 1 - c.loop-y.y) c.height-height.ensures.value in
    strip_more c.args.bitmap.now c.args.k c.loop-y.y _ _ _ _ c.requires.size c.requires.strip
    (omega (arith, c.loop-y-test.true, c.height-height.ensures.value))
    (λ t. is_above t * is_row t + c.from.ensures t) (ap (λ m. get_or c.read_strip.new.column m 0) c.from-in-loop-y.ensures
    ∙ c.read_strip.ensures.written c.loop-y.y (omega (arith, c.loop-y-test.true, c.height-height.ensures.value))) c.loop-y.invariant
