use Rattle.std.proofs.Common.{◌≡◌, ℕ, ℤ, ◌^◌, ◌<◌, List, length, unsigned_abs, to_z, of_z, arith, rules, sym, subst, inl, inr}
use Rattle.std.proofs.lemmas.Bool.Decides.{nat_tests}
use Rattle.std.proofs.lemmas.Int.{to_z-of_z, fits_signed_from_abs}
use Rattle.std.proofs.lemmas.List.{nil_from_length}
use Rattle.std.specs.Int.{w128}
use lib.Chars.{codes}
use Rattle.whole_number.specs.Spelling.{SpellsInteger}
use Rattle.csv_load.specs.Decimals.{SpellsDecimal}
use Rattle.csv_load.specs.Rows.{IsMissing}
use Rattle.csv_load.proofs.PartLemmas.{decimal_short}
use Rattle.csv_load.proofs.rows.row_of.Goals as goal
use Rattle.csv_load.proofs.rows.row_of.Goals.{then-is_empty-via-then-is_empty, then-is_empty-via-else-is_empty+then-eq-3}

-- a number of at most 19 digits is kept in 128 bits
kept : (z : ℤ) → unsigned_abs z < 10 ^ 19 → to_z w128 (of_z w128 z) ≡ z
kept z short = to_z-of_z w128 z (fits_signed_from_abs w128 z (omega (arith, short)))

integer_kept : (text : List ℕ) (z : ℤ) → SpellsInteger text z → SpellsInteger text (to_z w128 (of_z w128 z))
integer_kept text z spells =
    let P : ℤ → Type 0 = λ x. SpellsInteger text x in
    subst P (sym (kept z spells.1)) spells

decimal_kept : (scale : ℕ) (text : List ℕ) (z : ℤ) → SpellsDecimal scale text z → SpellsDecimal scale text (to_z w128 (of_z w128 z))
decimal_kept scale text z spells =
    let P : ℤ → Type 0 = λ x. SpellsDecimal scale text x in
    subst P (sym (kept z (decimal_short scale text z spells))) spells

pub returns-then-is_empty-clause-row : goal.returns-then-is_empty-clause-row
returns-then-is_empty-clause-row c =
    let missing : IsMissing c.args.value.now = elim c.then-is_empty.branch [
      | then-is_empty-via-then-is_empty w ↦
          let none : length c.args.value.now ≡ 0 = grind (arith, nat_tests, c.is_empty.ensures, w.if-is_empty.true) in
          inl (nil_from_length c.args.value.now none)
      | then-is_empty-via-else-is_empty+then-eq-3 w ↦
          let hyphen : c.args.value.now ≡ codes "-" = search rules in
          inr hyphen
    ] in
    (integer_kept c.args.time.now c.in-Some.time c.in-Some.ensures.found, missing)

pub returns-clause-row : goal.returns-clause-row
returns-clause-row c = (
  integer_kept c.args.time.now c.in-Some.time c.in-Some.ensures.found,
  decimal_kept c.args.scale c.args.value.now c.in-Some-decimal.value c.in-Some-decimal.ensures.found,
)
