use Rattle.chart_frames.proofs.Places.{opened_view, opened_rows}
use Rattle.chart_frames.proofs.place.opened_on.Goals as goal

pub view_on-requires : goal.view_on-requires
view_on-requires c = opened_view c.args.bytes.now c.args.rest.now c.args.opening c.in-View.view c.new.result.items c.in-View.is
    c.new.ensures.items c.requires.opens

pub rows_on-requires : goal.rows_on-requires
rows_on-requires c = opened_rows c.args.bytes.now c.args.rest.now c.args.opening c.in-Rows.frame c.new-in-Rows.result.items c.in-Rows.is
    c.new-in-Rows.ensures.items c.requires.opens
