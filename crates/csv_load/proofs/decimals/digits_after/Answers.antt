use Rattle.std.proofs.Common.{get_or, arith}
use Rattle.std.proofs.lemmas.Grind.{common_steps}
use Rattle.std.specs.Int.{IsInRange}
use Rattle.std.specs.Str.Parse.{digits_value_after}
use Rattle.std.proofs.lemmas.Str.Parse.{digit_at}
use Rattle.csv_load.proofs.DigitLemmas.{more_value, value_full, more_digits}
use Rattle.csv_load.proofs.decimals.digits_after.Goals as goal
use Rattle.csv_load.proofs.decimals.digits_after.Goals.{then-not-is_ascii_digit-via-then-not-is_ascii_digit}
use Rattle.csv_load.proofs.decimals.digits_after.Goals.{then-not-is_ascii_digit-via-else-not-is_ascii_digit+then-value-ge-FULL}

pub returns-then-not-is_ascii_digit-clause-none : goal.returns-then-not-is_ascii_digit-clause-none
returns-then-not-is_ascii_digit-clause-none c = λ digits short.
    let here = digit_at c.args.digits.now c.loop-digit.digit-index digits c.loop-digit-test.true in
    elim c.then-not-is_ascii_digit.branch [
      | then-not-is_ascii_digit-via-then-not-is_ascii_digit w ↦ grind (
        arith,
        common_steps,
        here,
        c.is_ascii_digit.ensures.cases,
        w.if-not-is_ascii_digit.true,
      )
      | then-not-is_ascii_digit-via-else-not-is_ascii_digit+then-value-ge-FULL w ↦
          let long = value_full c.loop-digit.value c.loop-digit.digit-index
          (digits_value_after 10 c.args.start c.args.digits.now) c.args.digits.now c.loop-digit-test.true w.if-value-ge-FULL.true
          c.loop-digit.invariant.value in
          omega (arith, long, short)
    ]

pub loop-digit-preserved : goal.loop-digit-preserved
loop-digit-preserved c =
    let here : IsInRange 48 57 (get_or c.args.digits.now c.loop-digit.digit-index 0) = grind (
      arith,
      common_steps,
      c.if-not-is_ascii_digit.ensures.cases,
    ) in
    record {
      digits = more_digits c.loop-digit.digit-index c.args.digits.now c.loop-digit-test.true c.loop-digit.invariant.digits here;
      value = more_value c.loop-digit.value c.loop-digit.digit-index c.from.result
          (digits_value_after 10 c.args.start c.args.digits.now) c.args.digits.now c.loop-digit-test.true here c.from.ensures
          c.loop-digit.invariant.value;
      short = omega (arith, c.from.ensures, here, c.if-value-ge-FULL.false);
    }
