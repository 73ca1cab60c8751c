use Rattle.std.proofs.Common.{◌∙◌, sym}
use Rattle.om3_coeff.proofs.KnownLemmas.{reached_left, reached_right}
use Rattle.chart_client.specs.HeldNodes.{told_view}
use Rattle.chart_client.proofs.held_nodes.HeldNodes.halves.Goals as goal

pub returns-clause-left : goal.returns-clause-left
returns-clause-left c =
    reached_left (told_view c.args.self.now) c.args.key c.args.span c.in-Some.coef c.in-Ok.halves.0 c.in-Ok.halves.1 c.requires.key
    c.requires.reached.known
    (λ tells. sym c.told-told.ensures ∙ c.in-Some.is) c.in-Ok.ensures.parts

pub returns-clause-right : goal.returns-clause-right
returns-clause-right c =
    reached_right (told_view c.args.self.now) c.args.key c.args.span c.in-Some.coef c.in-Ok.halves.0 c.in-Ok.halves.1 c.requires.key
    c.requires.reached.known
    (λ tells. sym c.told-told.ensures ∙ c.in-Some.is) c.in-Ok.ensures.parts
