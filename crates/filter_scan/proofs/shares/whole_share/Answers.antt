use Rattle.std.proofs.Common.{arith, ◌<◌}
use Rattle.om3_coeff.proofs.EndLemmas.{has_slots}
use Rattle.filter_scan.proofs.ShareLaws.{inside}
use Rattle.filter_scan.proofs.shares.whole_share.Goals as goal

pub returns-then-column_of-column : goal.returns-then-column_of-column
returns-then-column_of-column c =
    let some : c.first-first.result < c.end-end.result = omega (arith, c.first-first.ensures, c.end-end.ensures, has_slots c.args.key) in
    inside c.args.scan.now c.args.key c.first-first.result c.end-end.result c.column_of-column.result c.column_of.result
    (omega (arith, c.if-key-lt-WHOLE_FROM.false))
    c.first-first.ensures c.end-end.ensures c.if-first-scan.false c.if-scan-end.false some c.column_of-column.ensures.column
    c.column_of.ensures.column
    (omega (arith, c.if-column_of-column.true)) c.column_of-column.ensures.drawn
