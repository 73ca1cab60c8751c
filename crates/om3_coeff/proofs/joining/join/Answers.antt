use Rattle.std.proofs.Common.{sym, subst}
use Rattle.std.specs.Prelude.{Option}
use Rattle.om3_coeff.specs.declared.span.Span.{Span}
use Rattle.om3_coeff.specs.Spans.{IsProperIfAny}
use Rattle.om3_coeff.proofs.CoefLemmas.{hull-proper}
use Rattle.om3_coeff.proofs.joining.join.Goals as goal

pub returns-clause-proper : goal.returns-clause-proper
returns-clause-proper c =
    let P : Option Span → Type 0 = λ s. IsProperIfAny s in
    subst P (sym c.hull.ensures) (hull-proper c.args.left c.args.right c.requires.left c.requires.right)
