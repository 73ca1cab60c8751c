-- The commands, each with its page; and what is said of the command whose words are given.
use Rattle.std.specs.Prelude.{◌≡◌, ℕ, ◌⊎◌, List, Option, String, ⊤}
use Rattle.block_disk.specs.View.{View}
use Rattle.chart_grid.specs.Limits.{IsSide}
use Rattle.program_words.specs.Words.{AreWordsOf, IsEvery}
use Rattle.program_words.specs.declared.words.Command.{Command}
use Rattle.program_words.specs.declared.words.Command.TheVariants.{Plot, Load, Demo, Draw, Init, Check, ListSeries, Export, Retain}
use Rattle.program_words.specs.declared.words.Command.TheVariants.{Cover, Live, Host, Derive, Run, Serve}
use Rattle.run_ends.specs.Statuses.{status_of}
use Rattle.run_ends.specs.declared.ending.End.{End}
use Rattle.run_ends.specs.declared.status.Status.{Status}
use Rattle.chart_program.specs.Check.{OfCheck}
use Rattle.chart_program.specs.Course.{Course, course}
use Rattle.chart_program.specs.Cover.{OfCover}
use Rattle.chart_program.specs.Demo.{OfDemo}
use Rattle.chart_program.specs.Derive.{OfDerive}
use Rattle.chart_program.specs.Draw.{OfDraw}
use Rattle.chart_program.specs.Export.{OfExport}
use Rattle.chart_program.specs.Host.{OfHost}
use Rattle.chart_program.specs.Init.{OfInit}
use Rattle.chart_program.specs.ListSeries.{OfList}
use Rattle.chart_program.specs.Live.{OfLive}
use Rattle.chart_program.specs.Load.{OfLoad}
use Rattle.chart_program.specs.Plot.{OfPlot}
use Rattle.chart_program.specs.Retain.{OfRetain}
use Rattle.chart_program.specs.Run.{OfRun}
use Rattle.chart_program.specs.Serve.{OfServe}

-- the operands of a command are in their ranges
abbrev pub HasOperands : Command → Type 0
HasOperands (Plot w h) = IsSide w × IsSide h
HasOperands (Demo seed rounds) = IsSide rounds
HasOperands (Cover every) = IsEvery every
HasOperands command = ⊤

-- there was no memory to read the words, and the world is as it was
abbrev pub IsUnread : {W : Type 0} → Status → W → W → Type 0
IsUnread status old new = (status.code ≡ 3) × (new ≡ old)

-- Some end with this status is so. Where two ends have one status, as a damaged block at the opening and a page later, it is the one
-- that came.
abbrev pub EndsSo : Status → (End → Type 0) → Type 0
EndsSo status IsSo = (end : End) × (status ≡ status_of end) × IsSo end

-- what a command did, by its page
abbrev pub Does : Command → Course → Status → Type 0
Does (Plot w h) c status = EndsSo status (OfPlot w h c)
Does (Load name) c status = EndsSo status (OfLoad name c)
Does (Demo seed rounds) c status = EndsSo status (OfDemo seed rounds c)
Does Draw c status = EndsSo status (OfDraw c)
Does Init c status = EndsSo status (OfInit c)
Does Check c status = EndsSo status (OfCheck c)
Does ListSeries c status = EndsSo status (OfList c)
Does (Export name window) c status = EndsSo status (OfExport name window c)
Does Retain c status = EndsSo status (OfRetain c)
Does (Cover every) c status = EndsSo status (OfCover every c)
Does Live c status = EndsSo status (OfLive c)
Does Host c status = EndsSo status (OfHost c)
Does Derive c status = EndsSo status (OfDerive c)
Does Run c status = EndsSo status (OfRun c)
Does Serve c status = EndsSo status (OfServe c)

-- where the words are this command's, and there was memory to read them, its page is so of some end with the status
abbrev pub ByPage : {Z W : Type 0} → List (String Z) → (W → View) → (W → Option (List ℕ)) → (W → Option (List ℕ)) → W → W → Status
    → Command → (Course → End → Type 0) → Type 0
ByPage words view left sent old new status command Page =
    AreWordsOf command words → IsUnread status old new ⊎ EndsSo status (Page (course view left sent old new))
