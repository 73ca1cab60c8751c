use Rattle.std.proofs.Common.{sym, subst}
use Rattle.chart_frames.specs.declared.frame.Frame.{Frame}
use Rattle.chart_frames.specs.Places.{Leaves}
use Rattle.chart_frames.proofs.Places.{rows_leaves}
use Rattle.chart_frames.proofs.place.rows_on.Goals as goal

pub returns-in-Ok-clause-ok : goal.returns-in-Ok-clause-ok
returns-in-Ok-clause-ok c =
    let P : Frame → Type 0 = λ f. Leaves c.args.bytes.now f c.in-Ok.left in
    subst P (sym c.whole_rows.ensures) (rows_leaves c.args.bytes.now c.args.frame c.more_rows.new.rows.items c.in-Ok.left
    c.in-Ok.ensures.reached c.in-Ok.ensures.ok)
