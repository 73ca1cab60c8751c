use Rattle.std.proofs.Common.{subst}
use Rattle.line_raster.specs.Canvas.{Canvas}
use Rattle.chart_client.specs.Holdings.{holding_of}
use Rattle.view_cover.specs.Walk.{IsCoverOf, scene_of}
use Rattle.progressive_view.specs.Telling.{told_in}
use Rattle.progressive_view.specs.Covers.{Taking, DrawsCover}
use Rattle.progressive_view.proofs.Used.{drawn-cover, if-ok}
use Rattle.progressive_view.proofs.progress.Progress.cover.Goals as goal

pub returns : goal.returns
returns c =
    if-ok c.draw_cover.result
    (λ (drawn : Canvas). IsCoverOf (scene_of c.scope_of-scope.result
    (told_in c.scope_of-scope.result c.as_slice.result.now
    (holding_of c.self.inside.view.now.session c.self.inside.client.now) c.self.inside.view.now.series c.self.inside.taken)) drawn)
    (λ (drawn : Canvas). DrawsCover c.args.self.now drawn)
    (λ drawn cover. subst (λ (s : Taking). DrawsCover s drawn) c.self.view_is
    (drawn-cover c.self.inside.view.now c.self.inside.client.now c.self.inside.taken c.scope_of-scope.result c.as_slice.result.now drawn
    c.self.invariant
    c.scope_of-scope.ensures.axis c.scope_of-scope.ensures.grid c.scope_of-scope.ensures.lo c.scope_of-scope.ensures.hi
    c.scope_of-scope.ensures.root c.as_slice.ensures cover))
    c.draw_cover.ensures
