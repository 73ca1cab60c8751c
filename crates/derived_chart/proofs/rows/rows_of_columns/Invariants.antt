use Rattle.std.proofs.Common.{ℤ, false, true, List}
use Rattle.std.specs.Prelude.{Option, ◌≡◌}
use Rattle.chart_grid.specs.Slots.{border}
use Rattle.derived_chart.specs.Reads.{ReadsBefore, levels}
use Rattle.derived_chart.specs.Rows.{AreShown, AreRowsBelow, AreColumnValues}
use Rattle.derived_chart.specs.Sums.{AreSums}
use Rattle.derived_chart.proofs.rows.rows_of_columns.Given as goal

abbrev pub invariant-loop-column : goal.invariant-loop-column
invariant-loop-column g l = record {
  fit : (g.T.Nodes.view l.trees).fit;
  goes : g.T.TwoTrees.goes l.initial.trees l.trees;
  quiet : (g.T.Nodes.view l.trees).faults ≡ (g.T.Nodes.view l.initial.trees).faults;
  reads : ReadsBefore 18 l.axis l.grid (border l.grid l.column)
      (levels (g.T.TwoTrees.count false l.initial.trees) (g.T.TwoTrees.count true l.initial.trees)) (g.T.Nodes.view l.initial.trees).reads
      (g.T.Nodes.view l.trees).reads;
  shown : AreShown l.grid.w l.column l.rows.items;
  rows : (xs ys sums : List (Option ℤ)) → g.T.TwoTrees.are l.initial.trees xs ys → AreSums l.sum xs ys sums
      → AreColumnValues l.axis l.grid sums → AreRowsBelow l.axis l.grid sums l.column l.rows.items;
}
