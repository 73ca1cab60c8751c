use Rattle.needed_nodes.proofs.ServeLaws.{known_own, ready_left, ready_right}
use Rattle.needed_nodes.proofs.asking.ask.Goals as goal

pub coef-requires-clause-seen : goal.coef-requires-clause-seen
coef-requires-clause-seen g c = known_own _ c.args.window.now c.args.key _ c.requires.ready

pub returns-clause-left : goal.returns-clause-left
returns-clause-left g c =
    ready_left _ _ c.args.window.now c.args.key c.args.span c.in_ok-coef.coef c.in-Ok.left c.in-Ok.right
    c.requires.ready c.requires.low c.requires.wanted
    (g.met.N.Nodes.keeps_same _ _ c.in_ok-coef.ensures.kept) c.in_ok-coef.ensures.fit c.in_ok-coef.ensures.told c.in-Ok.ensures.parts

pub returns-clause-right : goal.returns-clause-right
returns-clause-right g c =
    ready_right _ _ c.args.window.now c.args.key c.args.span c.in_ok-coef.coef c.in-Ok.left c.in-Ok.right
    c.requires.ready c.requires.low c.requires.wanted
    (g.met.N.Nodes.keeps_same _ _ c.in_ok-coef.ensures.kept) c.in_ok-coef.ensures.fit c.in_ok-coef.ensures.told c.in-Ok.ensures.parts
