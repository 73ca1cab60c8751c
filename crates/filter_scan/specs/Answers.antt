-- What the calls of this crate answer.
use Rattle.std.specs.Prelude.{ℤ, List, filter, All, Option, ⊤}
use Rattle.plain_chart.specs.Samples.{sample_points}
use Rattle.om3_coeff.specs.View.{NodesView, Agrees, HasCause}
use Rattle.m4_groups.specs.declared.row.Row.{Row}
use Rattle.m4_groups.specs.Rows.{AreRising, AreRowsOf}
use Rattle.needed_nodes.specs.Answers.{IsShownRow}
use Rattle.value_filter.specs.declared.steps.Step.{Step}
use Rattle.query_rewriter.specs.Kept.{passes, stored_in}
use Rattle.filter_scan.specs.declared.scans.Scan.{Scan}
use Rattle.filter_scan.specs.declared.scan_error.ScanError.{ScanError}
use Rattle.filter_scan.specs.declared.scan_error.ScanError.TheVariants.{Node, NoMemory}

-- a Node error is one that the nodes gave; want of memory is free
abbrev pub IsCauseOf : NodesView → NodesView → ScanError → Type 0
IsCauseOf old new (Node e) = HasCause old new e
IsCauseOf old new NoMemory = ⊤

-- the rows of what a scan takes
pub record HasRows (view : NodesView) (s : Scan) (f : Option (List Step)) (rows : List Row) : Type 0 where
  pub rising : AreRising rows
  pub shown : All (IsShownRow s.grid.w) rows
  pub of_list : (list : List (Option ℤ)) → Agrees view list
      → AreRowsOf s.grid (sample_points (filter (passes f) (stored_in s.axis (s.from, s.end) list))) rows
