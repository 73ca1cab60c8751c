use Rattle.std.proofs.Common.{◌≡◌}
use Rattle.tree_walk.specs.SpaceViews.{StaysOn}
use Rattle.tree_walk.proofs.WayLemmas.{IsOnWay}
use Rattle.tree_walk.specs.Walk as walk
use Rattle.page_space.specs.Shown as shown
use Rattle.tree_walk.proofs.paths.descend.Given as goal

abbrev pub invariant-loop-above : goal.invariant-loop-above
invariant-loop-above g l = record {
  way : IsOnWay (shown.IsTold l.fn.space) (shown.IsTold l.space) (walk.pages l.fn.space) (walk.pages l.space)
      l.fn.tree l.levels l.fn.trail l.trail l.key l.above;
  over : StaysOn (shown.numbers l.fn.space) (shown.numbers l.space) (shown.under l.fn.space) (shown.under l.space);
  count : shown.count l.space ≡ shown.count l.fn.space;
  same : (walk.pages l.space).faults ≡ (walk.pages l.fn.space).faults;
}
