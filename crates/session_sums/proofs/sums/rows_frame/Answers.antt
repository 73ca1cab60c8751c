use Rattle.std.proofs.Common.{length, ap, arith}
use Rattle.session_sums.proofs.SumLemmas.{few, frame_fits, frame_shows}
use Rattle.session_sums.proofs.sums.rows_frame.Goals as goal

pub overflow_cast-result : goal.overflow_cast-result
overflow_cast-result c =
    let g = c.args.grid in
    omega (arith, ap length c.as_slice.ensures, few g.w c.args.rows c.requires.rising c.requires.drawable c.requires.ordered, g.wide.most)

pub returns-clause-frame : goal.returns-clause-frame
returns-clause-frame c = λ samples are.
    frame_shows c.args.session c.args.grid c.args.range samples c.args.rows c.shown_range-shown.result c.w.result c.h.result
    (length c.as_slice.result.now) c.w.ensures.value c.h.ensures.value (ap length c.as_slice.ensures)
    (c.shown_range-shown.ensures.may c.args.grid.w c.requires.drawable) (c.shown_range-shown.ensures.shows c.args.grid samples are)

pub returns-clause-fits : goal.returns-clause-fits
returns-clause-fits c =
    frame_fits c.args.session c.args.grid c.shown_range-shown.result c.args.rows c.w.result c.h.result
    (length c.as_slice.result.now) c.w.ensures.value c.h.ensures.value (ap length c.as_slice.ensures)
    (c.shown_range-shown.ensures.may c.args.grid.w c.requires.drawable) c.requires.session c.args.grid.wide c.args.grid.high
    c.requires.rising c.requires.drawable c.requires.ordered
