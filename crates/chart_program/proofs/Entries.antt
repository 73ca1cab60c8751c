-- What a line says.
use Rattle.std.proofs.Common.{◌≡◌, ℤ, List, ℕ, Some, sym, subst, arith}
use Rattle.whole_number.specs.Spelling.{SpellsInteger}
use Rattle.whole_number.proofs.Digits.{one_integer}
use Rattle.whole_number.specs.Range.{IsValue}
use Rattle.std.specs.Fmt.{signed_decimal}
use Rattle.chart_program.specs.Slots.{SpellsSlot}

inside : (a b : List ℕ) → Some a ≡ Some b → a ≡ b
inside a b same = cc

-- a number that is no value is no slot's
pub no_slot : (text : List ℕ) (z v : ℤ) → SpellsInteger text z → (IsValue z → ⊥) → SpellsSlot (Some text) (Some v) → ⊥
no_slot text z v spells great slot =
    let small : IsValue v = slot.in_range in
    let same : z ≡ v = one_integer text z v spells (inside text (signed_decimal v) slot.text, omega (arith, small)) in
    great (subst IsValue (sym same) small)
