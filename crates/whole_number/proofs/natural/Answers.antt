use Rattle.std.proofs.Common.{◌∙◌, ℕ, sym, subst}
use Rattle.whole_number.specs.Spelling.{SpellsNatural}
use Rattle.whole_number.proofs.Tests.{natural_spelt, none_natural}
use Rattle.whole_number.proofs.natural.Goals as goal

pub returns-then-not-is_natural-clause-none : goal.returns-then-not-is_natural-clause-none
returns-then-not-is_natural-clause-none c = none_natural c.args.text.now (sym c.is_natural.ensures ∙ c.if-not-is_natural.true)

pub returns-clause-found : goal.returns-clause-found
returns-clause-found c =
    let P : ℕ → Type 0 = λ n. SpellsNatural c.args.text.now n in
    subst P (sym c.natural_value.ensures.value) (natural_spelt c.args.text.now (sym c.is_natural.ensures ∙ c.if-not-is_natural.false))
