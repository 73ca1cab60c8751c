-- The picture that `plot` sends.
use Rattle.std.specs.Prelude.{◌≡◌, ℕ, ℤ, pos, ◌≤◌, max, List, length, take, Option, Result, Ok, Err}
use Rattle.block_disk.specs.Streams.{sent_after}
use Rattle.chart_grid.specs.declared.axis.Axis.{Axis}
use Rattle.chart_grid.specs.declared.grid.Grid.{Grid}
use Rattle.chart_grid.specs.Projection.{ShowsWindow, HasCanvas}
use Rattle.line_raster.specs.Canvas.{Canvas}
use Rattle.pbm_writer.specs.Picture.{picture}
use Rattle.plain_chart.specs.declared.value_range.ValueRange.{ValueRange}
use Rattle.plain_chart.specs.Samples.{kept, values_of, IsRange}
use Rattle.plain_chart.specs.Chart.{IsChart}
use Rattle.run_ends.specs.declared.ending.End.{End}
use Rattle.run_ends.specs.declared.ending.End.TheVariants as ends
use Rattle.chart_program.specs.declared.input.InputEnd.TheVariants as input
use Rattle.chart_program.specs.declared.plot.PlotEnd.{PlotEnd}
use Rattle.chart_program.specs.declared.plot.PlotEnd.TheVariants.{Input, SendFault}
use Rattle.chart_program.specs.Slots.{SpellsAll, most_slots}
use Rattle.chart_program.specs.Reads.{Stops}

-- slot i stands at the time i
abbrev pub slots_axis : ℕ → Axis
slots_axis count = record { start = pos 0; step = 1; slots = count }

-- The bytes are the picture of the chart through all stored values of the slots: slot i stands at the time i, the
-- window goes from 0 to the number of slots (at least 1), and the range from the least to the greatest value.
pub record IsPlot (w h : ℕ) (slots : List (Option ℤ)) (bytes : List ℕ) : Type 0 where
  pub grid : Grid
  pub window : ShowsWindow grid (pos 0) (pos (max (length slots) 1))
  pub canvas : HasCanvas grid w h
  pub range : ValueRange
  pub spanned : IsRange (values_of (kept grid (slots_axis (length slots)) slots)) range
  pub drawing : Canvas
  pub chart : IsChart grid range (kept grid (slots_axis (length slots)) slots) drawing
  pub bytes_are : bytes ≡ picture drawing

-- the input spells slots, at most as many as a plot has, and these bytes are their plot
pub record IsPlotOf (w h : ℕ) (input bytes : List ℕ) : Type 0 where
  pub slots : List (Option ℤ)
  pub spells : SpellsAll input slots
  pub few : length slots ≤ most_slots
  pub plot : IsPlot w h slots bytes

-- the plot of the input was sent, the whole of it
pub record SendsPlot (w h : ℕ) (input : List ℕ) (before now : Option (List ℕ)) : Type 0 where
  pub bytes : List ℕ
  pub is : IsPlotOf w h input bytes
  pub sent : now ≡ sent_after bytes before

-- the first bytes of the plot of the input were sent
pub record SendsFront (w h : ℕ) (input : List ℕ) (before now : Option (List ℕ)) : Type 0 where
  pub bytes : List ℕ
  pub is : IsPlotOf w h input bytes
  pub count : ℕ
  pub within : count ≤ length bytes
  pub sent : now ≡ sent_after (take count bytes) before

-- why the plot of the input wasn't sent whole
abbrev pub EndsPlot : ℕ → ℕ → List ℕ → Option (List ℕ) → Option (List ℕ) → Option (List ℕ) → PlotEnd → Type 0
EndsPlot w h input left before now (Input end) = Stops input left end
EndsPlot w h input left before now SendFault = SendsFront w h input before now

-- how a run ended by what a plot answers
abbrev pub plotting_end : {T : Type 0} → Result T PlotEnd → End
plotting_end (Ok done) = ends.Done
plotting_end (Err SendFault) = ends.SendFault
plotting_end (Err (Input input.NoMemory)) = ends.NoMemory
plotting_end (Err (Input input.ReadFault)) = ends.ReadFault
plotting_end (Err (Input input.InputTooLong)) = ends.InputTooLong
plotting_end (Err (Input (input.BadLine at))) = ends.BadInput at
plotting_end (Err (Input input.TooManySlots)) = ends.TooMuch most_slots
