use Rattle.std.proofs.Common.{arith}
use Rattle.coefficient_cache.proofs.Kept.{none-shown}
use Rattle.coefficient_cache.proofs.pair_list.first_held.Goals as goal

pub returns-clause-none : goal.returns-clause-none
returns-clause-none c = none-shown c.args.puts.now (λ i less. c.loop-place.invariant i (omega (arith, less, c.loop-place-test.false)))
