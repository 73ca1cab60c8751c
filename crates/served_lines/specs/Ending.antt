-- How the answering of lines ends, by what the loop over them answers.
use Rattle.std.specs.Prelude.{Result, Ok, Err}
use Rattle.chart_world.specs.declared.line_answer.LineFault.TheVariants as fault
use Rattle.line_runs.specs.declared.lines_stop.LinesStop.{LinesStop}
use Rattle.line_runs.specs.declared.lines_stop.LinesStop.TheVariants as stop
use Rattle.chart_service.specs.declared.failure.AnswerEnd.{AnswerEnd}
use Rattle.chart_service.specs.declared.failure.AnswerEnd.TheVariants.{Serve}
use Rattle.chart_service.specs.declared.failure.ServeEnd.TheVariants.{ReadFault, InputTooLong}

-- the end that a stop is
abbrev pub stop_of : {F : Type 0} → LinesStop (AnswerEnd F) → AnswerEnd F
stop_of {F} (stop.Fault fault.ReadFault) = Serve ReadFault
stop_of {F} (stop.Fault fault.InputTooLong) = Serve InputTooLong
stop_of {F} (stop.Work end) = end

abbrev pub answer_of : {T F : Type 0} → Result T (LinesStop (AnswerEnd F)) → Result T (AnswerEnd F)
answer_of {T} {F} (Ok done) = Ok done
answer_of {T} {F} (Err why) = Err (stop_of why)
