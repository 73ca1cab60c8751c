use Rattle.std.proofs.Common.{SFits, w64, rules}
use Rattle.std.proofs.lemmas.Int.{to_z-of_z}
use Rattle.chart_grid.proofs.Columns.{column-is_at}
use Rattle.chart_grid.proofs.grid.Grid.column_of.Goals as goal

pub returns-clause-floor : goal.returns-clause-floor
returns-clause-floor c =
    let tf : SFits w64 c.args.t = c.ranges.t in
    let af : SFits w64 c.args.self.now.t0 = search rules in
    let bf : SFits w64 c.args.self.now.t1 = search rules in
    column-is_at c.args.self.now.t0 c.args.t c.args.self.now.t1 c.args.self.now.w _ _ _
    c.requires.from c.requires.to (simp to_z-of_z at c.gap.ensures) (simp to_z-of_z at c.gap-2.ensures) c.part_of.ensures.value
