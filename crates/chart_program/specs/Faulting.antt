-- The failed call that an end of a command over lines, and of a plot, tells.
use Rattle.std.specs.Prelude.{Option, None, Some}
use Rattle.chart_world.specs.Faults.{Fault, OfTake, OfSend}
use Rattle.chart_service.specs.Faulting.{serve_fault}
use Rattle.chart_program.specs.declared.input.InputEnd.TheVariants as input
use Rattle.chart_program.specs.declared.plot.PlotEnd.{PlotEnd}
use Rattle.chart_program.specs.declared.plot.PlotEnd.TheVariants.{Input, SendFault}
use Rattle.chart_program.specs.declared.run_end.RunEnd.{RunEnd}
use Rattle.chart_program.specs.declared.run_end.RunEnd.TheVariants.{Serve, Show}

abbrev pub run_fault : RunEnd → Option Fault
run_fault (Serve end) = serve_fault end
run_fault (Show error) = None

abbrev pub plot_fault : PlotEnd → Option Fault
plot_fault SendFault = Some OfSend
plot_fault (Input input.NoMemory) = None
plot_fault (Input input.ReadFault) = Some OfTake
plot_fault (Input input.InputTooLong) = None
plot_fault (Input (input.BadLine at)) = None
plot_fault (Input input.TooManySlots) = None
