use Rattle.std.proofs.Common.{◌∙◌, sym, ap}
use Rattle.std.specs.Prelude.{None}
use Rattle.om3_coeff.specs.Keys.{first_slot, top_key}
use Rattle.view_cover.specs.Walk.{scene_of}
use Rattle.view_cover.proofs.Steps.{reached-at, last-at, top-reached, top-last, covered-by}
use Rattle.view_cover.proofs.walk.draw_cover.Goals as goal

pub draw_below-requires-clause-reached : goal.draw_below-requires-clause-reached
draw_below-requires-clause-reached g c =
    reached-at (scene_of c.args.scope.now (g.T.Teller.told c.args.teller.now))
    (top_key c.args.scope.now.axis.slots) c.top_key-top.result c.args.scope.now.root c.top_key-top.ensures
    (top-reached c.what_is_known.ensures.top (scene_of c.args.scope.now (g.T.Teller.told c.args.teller.now)))

pub draw_below-requires-clause-last : goal.draw_below-requires-clause-last
draw_below-requires-clause-last g c =
    last-at (scene_of c.args.scope.now (g.T.Teller.told c.args.teller.now)) (first_slot (top_key c.args.scope.now.axis.slots))
    (first_slot c.top_key-top.result) None (sym (ap first_slot c.top_key-top.ensures))
    (top-last (scene_of c.args.scope.now (g.T.Teller.told c.args.teller.now)))

pub draw_below-requires-clause-wide : goal.draw_below-requires-clause-wide
draw_below-requires-clause-wide g c = c.in_ok-bitmap.ensures.width ∙ c.w.ensures.value

pub returns : goal.returns
returns g c =
    covered-by (scene_of c.args.scope.now (g.T.Teller.told c.args.teller.now)) c.w.result c.h.result c.top_key-top.result
    c.in_ok-bitmap.bitmap c.draw_below.new.bitmap c.w.ensures.value c.h.ensures.value
    c.top_key-top.ensures c.in_ok-bitmap.ensures c.draw_below.ensures.drawn
