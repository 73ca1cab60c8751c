use Rattle.std.proofs.Common.{◌≡◌, ◌∙◌, pos, ◌+◌, List, take, Option, None, subst, sym, ap, arith}
use Rattle.std.proofs.lemmas.Int.{ints}
use Rattle.std.specs.Prelude.{◌≤ℤ◌, ◌++◌, get_or}
use Rattle.std.specs.Option.{ForSome, option_to_list}
use Rattle.line_raster.specs.Canvas.{Adds}
use Rattle.line_raster.specs.Raster.{InRaster}
use Rattle.plain_chart.specs.declared.sample.Sample.{Sample}
use Rattle.plain_chart.specs.Samples.{kept}
use Rattle.chart_grid.specs.Slots.{slot_time}
use Rattle.plain_chart.specs.Chart.{places, last_of, IsDrawable}
use Rattle.plain_chart.proofs.Keeping.{kept_more}
use Rattle.plain_chart.proofs.Slots.{kept_is, kept_drawable, last_more, drawn_more, later_more, before_next, time-rising}
use Rattle.plain_chart.proofs.drawing.draw.Goals as goal

pub loop-slot-preserved : goal.loop-slot-preserved
loop-slot-preserved c =
    let grid = c.args.grid in
    let axis = c.args.axis in
    let slots = c.args.slots.now in
    let slot = c.loop-slot.slot in
    let o = c.sample_at-sample.result in
    let old = kept grid axis (take slot slots) in
    let more : kept grid axis (take (slot + 1) slots) ≡ old ++ option_to_list o =
    kept_more grid axis slots slot None c.loop-slot-test.true ∙ ap (λ x. old ++ option_to_list x) (sym c.sample_at-sample.ensures.value) in
    let at : ForSome o (λ s. s.time ≡ slot_time axis slot) = λ s is.
    (kept_is grid axis slot (get_or slots slot None) s (sym c.sample_at-sample.ensures.value ∙ is)).0 in
    let drawable = kept_drawable grid axis slot (get_or slots slot None) o c.sample_at-sample.ensures.value
    (c.requires.values slot None c.loop-slot-test.true) c.sample_at-sample.ensures.window in
    let before = before_next axis slot c.loop-slot.last o c.loop-slot.invariant.earlier at in
    let Drawn : List Sample → Type 0 = λ l. Adds (λ x y. InRaster (places grid c.args.range l) x (pos y)) c.args.bitmap.now
    c.draw_next-last.new.bitmap in
    let Last : List Sample → Type 0 = λ l. c.draw_next-last.result ≡ last_of l in
    let Drawable : Option Sample → Type 0 = λ l. ForSome l (IsDrawable grid) in
    let Earlier : Option Sample → Type 0 = λ l. ForSome l (λ s. s.time ≤ℤ slot_time axis (slot + 1)) in
    record {
      drawn = subst Drawn (sym more) (drawn_more grid c.args.range old c.loop-slot.last o c.args.bitmap.now
          c.loop-slot.bitmap c.draw_next-last.new.bitmap
          c.requires.width c.loop-slot.invariant.last c.loop-slot.invariant.drawable before c.loop-slot.invariant.drawn
          c.draw_next-last.ensures.drawn);
      last = subst Last (sym more) (c.draw_next-last.ensures.last ∙ last_more old c.loop-slot.last o c.loop-slot.invariant.last);
      drawable = subst Drawable (sym c.draw_next-last.ensures.last)
          (later_more (IsDrawable grid) (IsDrawable grid) c.loop-slot.last o (λ s h. h) c.loop-slot.invariant.drawable drawable);
      earlier = subst Earlier (sym c.draw_next-last.ensures.last)
          (later_more (λ s. s.time ≤ℤ slot_time axis slot) (λ s. s.time ≤ℤ slot_time axis (slot + 1)) c.loop-slot.last o
          (λ s h. omega (arith, ints, h, time-rising axis slot)) c.loop-slot.invariant.earlier
          (λ s is. omega (arith, ints, at s is, time-rising axis slot)));
    }
