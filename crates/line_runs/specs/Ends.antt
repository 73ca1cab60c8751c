-- How a run ended whose work says it by an end.
use Rattle.std.specs.Prelude.{Result, Ok, Err}
use Rattle.run_ends.specs.Faults.{input_end}
use Rattle.run_ends.specs.declared.ending.End.{End}
use Rattle.run_ends.specs.declared.ending.End.TheVariants as ends
use Rattle.line_runs.specs.declared.lines_stop.LinesStop.{LinesStop}
use Rattle.line_runs.specs.declared.lines_stop.LinesStop.TheVariants as stop

-- the end that a stop is
abbrev pub stop_end : LinesStop End → End
stop_end (stop.Fault fault) = input_end fault
stop_end (stop.Work end) = end

-- and that of the whole loop
abbrev pub run_end : {T : Type 0} → Result T (LinesStop End) → End
run_end {T} (Ok done) = ends.Done
run_end {T} (Err stop) = stop_end stop
