use Rattle.std.proofs.Common.{◌<◌, arith}
use Rattle.tree_walk.proofs.StandingLemmas.{standing_agrees, standing_fit}
use Rattle.tree_walk.specs.Walk as walk
use Rattle.page_space.specs.Shown as shown
use Rattle.tree_walk.proofs.laws.standing_pages_agree.Goals as goal

pub returns-clause-agrees : goal.returns-clause-agrees
returns-clause-agrees g c = λ list told stands.
    let nodes = c.args.nodes.now in
    standing_agrees (walk.under nodes.space nodes.tree) nodes.trail list told stands

pub returns-clause-fit : goal.returns-clause-fit
returns-clause-fit g c = λ list stands fit trail.
    let nodes = c.args.nodes.now in
    let some : 0 < shown.total nodes.space = omega (arith, c.total-total.ensures.total, c.total-total.ensures.within.0) in
    standing_fit (shown.IsTold nodes.space) (walk.pages nodes.space) nodes.tree nodes.trail list fit some stands trail
