use Rattle.std.proofs.Common.{◌≡◌, map, take}
use Rattle.host_reports.specs.Reports.{run_in}
use Rattle.host_reports.proofs.runs.frame_runs.Given as goal

abbrev pub invariant-loop-run : goal.invariant-loop-run
invariant-loop-run l = l.all.items ≡ map run_in (take l.run-index l.fn.runs)
