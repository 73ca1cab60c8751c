use Rattle.std.proofs.Common.{arith, ◌*◌, ◌^◌, ◌≤◌}
use Rattle.std.proofs.lemmas.Int.{ints}
use Rattle.std.proofs.lemmas.Nat.{mul-le}
use Rattle.retention.proofs.clears.slot_time.Goals as goal

most : (c : goal.After-from-3) → c.args.slot * c.args.axis.step ≤ 2 ^ 64 * 2 ^ 32
most c = mul-le c.args.slot c.args.axis.step (2 ^ 64) (2 ^ 32) (omega (arith, c.ranges.slot)) (search arith)

pub overflow_mul-result : goal.overflow_mul-result
overflow_mul-result c = grind (arith, ints, most c, c.from-2.ensures, c.from-3.ensures)

pub overflow_add-result : goal.overflow_add-result
overflow_add-result c = grind (arith, ints, most c, c.from-2.ensures, c.from-3.ensures)
