use Rattle.std.proofs.Common.{ℤ, subst, sym, arith}
use Rattle.std.specs.Prelude.{FitsSigned, IsTrue, false}
use Rattle.std.specs.Int.{w128}
use Rattle.std.proofs.lemmas.Int.{ints, to_z-of_z}
use Rattle.whole_number.specs.Range.{IsValue}
use Rattle.chart_program.proofs.Entries.{no_slot}
use Rattle.chart_program.proofs.slot.value_of.Goals as goal

-- a value fits 128 bits
fits : (z : ℤ) → IsValue z → FitsSigned w128 z
fits z value = omega (arith, ints, value)

not_true : IsTrue false → ⊥
not_true h = cc

pub returns-then-not-is_value-clause-none : goal.returns-then-not-is_value-clause-none
returns-then-not-is_value-clause-none c = λ v. no_slot c.args.line.now c.in_ok-number.number v c.in_ok-number.ensures.found
    (λ value. not_true (c.if-not-is_value.ensures.1
    (subst IsValue (sym (to_z-of_z w128 c.in_ok-number.number (fits c.in_ok-number.number value))) value)))
