use Rattle.std.proofs.Common.{◌≡◌, ◌+◌, ◌*◌, ◌≤◌}
use Rattle.om3_coeff.specs.Keys.{height, page_levels}
use Rattle.needed_nodes.specs.Columns.{HasColumns}
use Rattle.needed_nodes.proofs.columns.rows_of_columns.Given as goal

abbrev pub invariant-loop-column : goal.invariant-loop-column
invariant-loop-column g l = record {
  fit : (g.N.Nodes.view l.nodes).fit;
  kept : g.N.Nodes.keeps l.initial.nodes l.nodes;
  reads : (g.N.Nodes.view l.nodes).reads ≤ (g.N.Nodes.view l.initial.nodes).reads + l.column * (2 * height
      l.window.axis.slots + 2 * page_levels l.window.axis.slots);
  faults : (g.N.Nodes.view l.initial.nodes).faults ≤ (g.N.Nodes.view l.nodes).faults;
  quiet : (g.N.Nodes.view l.nodes).faults ≡ (g.N.Nodes.view l.initial.nodes).faults;
  found : HasColumns (g.N.Nodes.view l.initial.nodes) l.window l.column l.initial.keys.items l.keys.items l.rows.items;
}
