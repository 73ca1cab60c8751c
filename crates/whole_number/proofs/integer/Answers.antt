use Rattle.std.proofs.Common.{◌∙◌, ℤ, sym, subst, SFits, rules}
use Rattle.std.specs.Int.{w128}
use Rattle.std.proofs.lemmas.Int.{to_z-of_z}
use Rattle.whole_number.specs.Spelling.{SpellsInteger}
use Rattle.whole_number.proofs.Tests.{integer_spelt, none_integer}
use Rattle.whole_number.proofs.integer.Goals as goal

pub returns-then-not-is_integer-clause-none : goal.returns-then-not-is_integer-clause-none
returns-then-not-is_integer-clause-none c = none_integer c.args.text.now (sym c.is_integer.ensures ∙ c.if-not-is_integer.true)

pub returns-clause-found : goal.returns-clause-found
returns-clause-found c =
    let P : ℤ → Type 0 = λ z. SpellsInteger c.args.text.now z in
    let fits : SFits w128 c.integer_value.result = search rules in
    subst P (sym (to_z-of_z w128 c.integer_value.result fits ∙ c.integer_value.ensures.value))
    (integer_spelt c.args.text.now (sym c.is_integer.ensures ∙ c.if-not-is_integer.false))
