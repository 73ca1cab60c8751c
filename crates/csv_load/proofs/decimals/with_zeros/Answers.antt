use Rattle.std.proofs.Common.{arith}
use Rattle.csv_load.proofs.DigitLemmas.{more_zeros, zeros_full}
use Rattle.csv_load.proofs.decimals.with_zeros.Goals as goal

pub returns-then-value-ge-FULL-clause-none : goal.returns-then-value-ge-FULL-clause-none
returns-then-value-ge-FULL-clause-none c =
    zeros_full c.loop.value c.args.start c.loop.counter c.args.zeros c.loop.invariant.value c.loop-test.true c.if-value-ge-FULL.true

pub loop-preserved : goal.loop-preserved
loop-preserved c = record {
  value = more_zeros c.loop.value c.args.start c.loop.counter c.loop.invariant.value;
  short = omega (arith, c.if-value-ge-FULL.false);
}
