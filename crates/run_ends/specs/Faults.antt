-- The failed call that an end tells of, and the end at a fault of the input.
use Rattle.std.specs.Prelude.{Option, None, Some}
use Rattle.chart_world.specs.Faults.{Fault, OfDisk, OfTake, OfSend}
use Rattle.chart_world.specs.declared.line_answer.LineFault.{LineFault}
use Rattle.chart_world.specs.declared.line_answer.LineFault.TheVariants as fault
use Rattle.run_ends.specs.declared.ending.End.{End}
use Rattle.run_ends.specs.declared.ending.End.TheVariants.{ReadFault, SendFault, DiskFault, InputTooLong}

-- a take, a send, a call of the disk, or none
abbrev pub end_fault : End → Option Fault
end_fault ReadFault = Some OfTake
end_fault SendFault = Some OfSend
end_fault DiskFault = Some OfDisk
end_fault end = None

-- the end where the input gives no more lines
abbrev pub input_end : LineFault → End
input_end fault.ReadFault = ReadFault
input_end fault.InputTooLong = InputTooLong
