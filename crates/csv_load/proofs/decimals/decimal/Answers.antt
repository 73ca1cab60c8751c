use Rattle.std.proofs.Common.{ℕ, ℤ, List, Option, IfNone, sym, subst}
use Rattle.csv_load.specs.Decimals.{SpellsDecimal}
use Rattle.csv_load.proofs.PartLemmas.{none_negative, none_positive}
use Rattle.csv_load.proofs.decimals.decimal.Goals as goal

-- no number is spelled
spells_none : ℕ → List ℕ → Option ℤ → Type 0
spells_none scale text r = IfNone r ((z : ℤ) → SpellsDecimal scale text z → ⊥)

pub returns-in_err-size-clause-none : goal.returns-in_err-size-clause-none
unfolding spells_none
returns-in_err-size-clause-none c =
    subst (spells_none c.args.scale c.args.text.now) (sym c.from_residual.ensures)
    (none_negative c.args.scale c.args.text.now c.in-Some.rest.now c.in-Some.ensures.some c.in_err-size.ensures.none)

pub returns-in_err-size-2-clause-none : goal.returns-in_err-size-2-clause-none
unfolding spells_none
returns-in_err-size-2-clause-none c =
    subst (spells_none c.args.scale c.args.text.now) (sym c.from_residual-in_err-size-2.ensures)
    (none_positive c.args.scale c.args.text.now c.in_default.ensures.none c.in_err-size-2.ensures.none)
