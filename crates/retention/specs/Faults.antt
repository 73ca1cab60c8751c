-- The failed call that an error of a sweep tells.
use Rattle.std.specs.Prelude.{Option, None, Some}
use Rattle.chart_world.specs.Faults.{Fault, OfDisk}
use Rattle.retention.specs.declared.sweep_error.SweepError.{SweepError}
use Rattle.retention.specs.declared.sweep_error.SweepError.TheVariants.{UnknownSeries, DiskFault, Damaged, NoMemory}

abbrev pub sweep_fault : SweepError → Option Fault
sweep_fault UnknownSeries = None
sweep_fault DiskFault = Some OfDisk
sweep_fault (Damaged page) = None
sweep_fault NoMemory = None
