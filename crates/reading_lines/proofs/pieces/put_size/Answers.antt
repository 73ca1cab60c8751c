use Rattle.std.proofs.Common.{◌^◌, ◌≤◌, arith}
use Rattle.std.proofs.Math.Nat.{one-le-pow}
use Rattle.reading_lines.proofs.pieces.put_size.Goals as goal

pub nonzero_div-size : goal.nonzero_div-size
nonzero_div-size c =
    let some : 1 ≤ 10 ^ c.from.result = one-le-pow c.from.result 10 (omega arith) in
    omega (arith, some)
