-- Which failed call ended the sending of a series.
use Rattle.std.specs.Prelude.{Option, None, Some}
use Rattle.chart_world.specs.Faults.{Fault, OfDisk, OfSend}
use Rattle.series_store.specs.declared.send_errors.SendError.{SendError}
use Rattle.series_store.specs.declared.send_errors.SendError.TheVariants.{SendFault, DiskFault, Damaged, NoMemory}

-- the failed call that an error tells
abbrev pub send_fault : SendError → Option Fault
send_fault SendFault = Some OfSend
send_fault DiskFault = Some OfDisk
send_fault (Damaged page) = None
send_fault NoMemory = None
