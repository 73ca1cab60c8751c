use Rattle.std.proofs.Common.{◌≡◌, arith, ap, ◌∙◌}
use Rattle.std.specs.Int.{div_ceil}
use Rattle.pbm_writer.specs.Picture.{row_bytes}
use Rattle.pbm_writer.proofs.StripLemmas.{strips_more, strips_all}
use Rattle.pbm_writer.proofs.rows.write_rows.Goals as goal

pub loop-k-preserved : goal.loop-k-preserved
loop-k-preserved c =
    let strips : c.div_ceil-strips.result ≡ row_bytes c.args.bitmap.now.w = c.div_ceil-strips.ensures
    ∙ ap (λ w. div_ceil w 8) c.width.ensures.value in (
      strips_more c.args.bitmap.now c.loop-k.k _ _ (omega (arith, strips, c.loop-k-test.true)) c.loop-k.invariant.0
          c.write_strip.ensures.strip,
      c.write_strip.ensures.room,
    )

pub returns : goal.returns
returns c =
    let strips : c.div_ceil-strips.result ≡ row_bytes c.args.bitmap.now.w = c.div_ceil-strips.ensures
    ∙ ap (λ w. div_ceil w 8) c.width.ensures.value in
    strips_all c.args.bitmap.now _ c.loop-k.k (omega (arith, strips, c.loop-k-test.false)) c.loop-k.invariant.0
