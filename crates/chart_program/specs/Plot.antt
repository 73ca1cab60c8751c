-- The page of `plot W H`: the slots of the input are plotted.
use Rattle.std.specs.Prelude.{ℕ, ◌≡◌, ◌≤◌, ◌^◌, List, Option, length}
use Rattle.std.specs.Prelude.{ℤ}
use Rattle.block_disk.specs.View.{DiskKept}
use Rattle.run_ends.specs.declared.ending.End.{End}
use Rattle.run_ends.specs.declared.ending.End.TheVariants.{Done, NoMemory, ReadFault, SendFault, BadInput, InputTooLong, TooMuch}
use Rattle.chart_program.specs.Course.{Course, IsDoneOrCut, IsShort, KeptBook, OfInput, OfLeft, SentNothing}
use Rattle.chart_program.specs.Plotted.{SendsFront, SendsPlot}
use Rattle.chart_program.specs.Slots.{FirstBad, HasTooMany, IsTooLong, SpellsAll, StoppedBefore, most_slots}

-- what it sent, by how it ended
abbrev pub PlotDoes : ℕ → ℕ → Course → End → Type 0
PlotDoes w h c Done = IsShort c × OfInput c (λ input. SendsPlot w h input c.sent c.sent_now)
PlotDoes w h c NoMemory = SentNothing c
PlotDoes w h c ReadFault = OfInput c (λ input. OfLeft c (StoppedBefore input)) × SentNothing c
PlotDoes w h c SendFault = OfInput c (λ input. SendsFront w h input c.sent c.sent_now)
PlotDoes w h c (BadInput at) = OfInput c (λ input. FirstBad input at) × SentNothing c
PlotDoes w h c InputTooLong = OfInput c IsTooLong × SentNothing c
PlotDoes w h c (TooMuch most) = (most ≡ most_slots) × OfInput c HasTooMany × SentNothing c
PlotDoes w h c end = ⊥

-- the input is slots, and no more than a plot takes
pub record IsSlots (input : List ℕ) : Type 0 where
  pub slots : List (Option ℤ)
  pub spells : SpellsAll input slots
  pub few : length slots ≤ most_slots
  pub short : length input ≤ 2 ^ 32

-- the same, and what is so however it ended: the disk's blocks and counts stay
pub record OfPlot (w h : ℕ) (c : Course) (end : End) : Type 0 where
  pub does : PlotDoes w h c end
  pub disk : DiskKept c.old c.new
  pub kept : KeptBook c
  pub good : OfInput c (λ input. IsSlots input → IsDoneOrCut end)
