-- Which call failed, by the error that tells of it.
use Rattle.std.specs.Prelude.{Option, None, Some}
use Rattle.chart_world.specs.Faults.{Fault, OfDisk, OfTake, OfSend}
use Rattle.chart_service.specs.declared.failure.AnswerEnd.{AnswerEnd}
use Rattle.chart_service.specs.declared.failure.AnswerEnd.TheVariants.{Serve, Reply}
use Rattle.chart_service.specs.declared.failure.ServeEnd.{ServeEnd}
use Rattle.chart_service.specs.declared.failure.ServeEnd.TheVariants.{ReadFault, SendFault, DiskFault, Damaged, InputTooLong, NoMemory}
use Rattle.chart_service.specs.declared.failure.ServiceError.{ServiceError}
use Rattle.chart_service.specs.declared.failure.ServiceError.TheVariants as step

-- of a step
abbrev pub step_fault : ServiceError → Option Fault
step_fault step.DiskFault = Some OfDisk
step_fault (step.Damaged page) = None
step_fault step.NoMemory = None

-- of a serving
abbrev pub serve_fault : ServeEnd → Option Fault
serve_fault ReadFault = Some OfTake
serve_fault SendFault = Some OfSend
serve_fault DiskFault = Some OfDisk
serve_fault (Damaged page) = None
serve_fault InputTooLong = None
serve_fault NoMemory = None

-- of the answering of lines; where a reply wasn't made, no call failed
abbrev pub answer_fault : {F : Type 0} → AnswerEnd F → Option Fault
answer_fault (Serve end) = serve_fault end
answer_fault (Reply error) = None
