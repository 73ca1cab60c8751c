use Rattle.std.proofs.Common.{◌-◌, arith}
use Rattle.view_cover.proofs.Drawn.{columns-in}
use Rattle.view_cover.proofs.scope.Scope.columns_of.Goals as goal

pub returns-clause-columns : goal.returns-clause-columns
returns-clause-columns c =
    columns-in c.args.self.now c.args.key c.max-first.result c.min-end.result c.column_of-left.result c.column_of-right.result
    (c.min-end.result - 1)
    (omega (arith, c.max-first.ensures, c.first.ensures)) (omega (arith, c.min-end.ensures, c.end.ensures))
    (omega (arith, c.if-first-end.false))
    (omega (arith, c.if-first-end.false)) c.column_of-left.ensures c.column_of-right.ensures
