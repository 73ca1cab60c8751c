use Rattle.std.proofs.Common.{subst}
use Rattle.std.specs.Prelude.{Option, None, IsSome}
use Rattle.om3_coeff.specs.declared.span.Span.{Span}
use Rattle.om3_coeff.proofs.KnownLemmas.{reached_left, reached_right}
use Rattle.om3_coeff.proofs.asking.ask.Goals as goal

pub returns-clause-left : goal.returns-clause-left
returns-clause-left g c =
    reached_left (g.N.Nodes.view c.args.nodes.now) c.args.key c.args.span c.in_ok-coef.coef c.in-Ok.halves.0 c.in-Ok.halves.1
    c.requires.key c.requires.reached.known c.in_ok-coef.ensures.told c.in-Ok.ensures.parts

pub returns-clause-right : goal.returns-clause-right
returns-clause-right g c =
    reached_right (g.N.Nodes.view c.args.nodes.now) c.args.key c.args.span c.in_ok-coef.coef c.in-Ok.halves.0 c.in-Ok.halves.1
    c.requires.key c.requires.reached.known c.in_ok-coef.ensures.told c.in-Ok.ensures.parts

pub coef-requires-clause-span : goal.coef-requires-clause-span
coef-requires-clause-span g c = c.requires.reached.proper

pub coef-requires-clause-seen : goal.coef-requires-clause-seen
coef-requires-clause-seen g c = c.requires.reached.known

pub unreachable-requires : goal.unreachable-requires
unreachable-requires g c =
    let P : Option (Option Span × Option Span) → Type 0 = λ halves. IsSome halves in
    let never : P None = subst P c.in_default.ensures.none c.in_ok-coef.ensures.splits in
    cc

pub returns-clause-whole : goal.returns-clause-whole
returns-clause-whole g c = c.in-Ok.ensures.whole
