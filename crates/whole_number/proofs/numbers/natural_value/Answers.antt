use Rattle.std.proofs.Common.{arith, ap}
use Rattle.std.specs.Str.Parse.{digits_value}
use Rattle.std.proofs.lemmas.List.{take_all}
use Rattle.whole_number.proofs.Tests.{natural_short, natural_step}
use Rattle.whole_number.proofs.numbers.natural_value.Goals as goal

pub overflow_mul-value : goal.overflow_mul-value
overflow_mul-value c =
    let step = natural_step c.args.text.now c.loop-byte.byte-index c.requires c.loop-byte-test.true in
    omega (arith, step.value, step.small, c.loop-byte.invariant)

pub overflow_sub-byte : goal.overflow_sub-byte
overflow_sub-byte c = (natural_step c.args.text.now c.loop-byte.byte-index c.requires c.loop-byte-test.true).least

pub overflow_add-value : goal.overflow_add-value
overflow_add-value c =
    let step = natural_step c.args.text.now c.loop-byte.byte-index c.requires c.loop-byte-test.true in
    omega (arith, step.value, step.small, c.loop-byte.invariant, c.from.ensures)

pub loop-byte-preserved : goal.loop-byte-preserved
loop-byte-preserved c =
    let step = natural_step c.args.text.now c.loop-byte.byte-index c.requires c.loop-byte-test.true in
    omega (arith, step.value, c.loop-byte.invariant, c.from.ensures)

pub returns-clause-digits : goal.returns-clause-digits
returns-clause-digits c =
    let whole = ap (digits_value 10) (take_all c.loop-byte.byte-index c.args.text.now c.loop-byte-test.false) in
    omega (arith, c.loop-byte.invariant, whole, natural_short c.args.text.now c.requires)
