use Rattle.tree_walk.proofs.TrailLemmas.{any_trail}
use Rattle.tree_walk.specs.Walk as walk
use Rattle.page_space.specs.Shown as shown
use Rattle.tree_walk.proofs.laws.empty_trails_fit.Goals as goal

pub returns : goal.returns
returns g c = λ tree any. any_trail (shown.IsTold c.args.space.now) (walk.pages c.args.space.now) tree c.args.trail.now any
