use Rattle.std.proofs.Common.{◌∙◌, sym}
use Rattle.store_commands.proofs.TokenLemmas.{of_some}
use Rattle.retain_command.proofs.SpellLemmas.{no_second}
use Rattle.retain_command.proofs.rules.free.Goals as goal

pub returns-then-is_some-clause-none : goal.returns-then-is_some-clause-none
returns-then-is_some-clause-none c = λ is number pages one spells.
    of_some c.cut.result _ _ (sym c.is_some.ensures
    ∙ c.if-is_some.true) c.cut.ensures.cut (λ parts more. no_second c.args.bytes.now parts.0.now parts.1.now number more one)
