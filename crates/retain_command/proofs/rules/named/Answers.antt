use Rattle.std.proofs.Common.{◌∙◌, sym}
use Rattle.store_commands.proofs.TokenLemmas.{of_some}
use Rattle.retain_command.proofs.SpellLemmas.{no_third}
use Rattle.retain_command.proofs.rules.named.Goals as goal

pub returns-then-is_some-clause-none : goal.returns-then-is_some-clause-none
returns-then-is_some-clause-none c = λ is name number two named.
    of_some c.cut-2.result _ _ (sym c.is_some.ensures
    ∙ c.if-is_some.true) c.cut-2.ensures.cut (λ parts more.
    no_third c.args.bytes.now c.in-Some.name.now c.in-Some.number.now parts.0.now parts.1.now name number c.in-Some.ensures.cut more
    two)
