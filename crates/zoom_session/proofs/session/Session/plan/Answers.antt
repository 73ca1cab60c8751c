use Rattle.std.proofs.Common.{rules}
use Rattle.zoom_session.proofs.Ordered.{bounds_so}
use Rattle.zoom_session.proofs.session.Session.plan.Goals as goal

pub invariant_of-result : goal.invariant_of-result
invariant_of-result c =
    bounds_so c.args.self.now.cache.pairs c.args.series c.args.self.now.cache.capacity c.args.needed c.in_ok-send.send c.requires
    (search rules) (search rules) (search rules)

pub returns-clause-bounds : goal.returns-clause-bounds
returns-clause-bounds c =
    bounds_so c.args.self.now.cache.pairs c.args.series c.args.self.now.cache.capacity c.args.needed c.in_ok-send.send c.requires
    (search rules) (search rules) (search rules)
