use Rattle.std.proofs.Common.{arith, rules}
use Rattle.std.proofs.lemmas.Fmt.{length-decimal-le, decimal_nonempty}
use Rattle.reading_lines.proofs.pieces.put_natural.Goals as goal

pub write_digits-requires : goal.write_digits-requires
write_digits-requires c =
    let long = length-decimal-le 20 c.args.n (omega arith) (omega arith) (omega arith) in
    (omega (arith, long), search rules)

pub returns-clause-start : goal.returns-clause-start
returns-clause-start c = omega (arith, decimal_nonempty c.args.n (omega arith))

pub returns-clause-short : goal.returns-clause-short
returns-clause-short c = omega (arith, length-decimal-le 20 c.args.n (omega arith) (omega arith) (omega arith))
