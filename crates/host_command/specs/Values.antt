-- The frames that answer `values`, each asked for from where the one before it says, and what they tell together.
use Rattle.std.specs.Prelude.{◌≡◌, ℕ, ℤ, ◌+◌, Bool, true, false, List, [], ◌∷◌, ◌++◌, map, Some}
use Rattle.chart_frames.specs.declared.frame.Frame.TheVariants.{Report}
use Rattle.chart_frames.specs.declared.reports.Report.TheVariants as report
use Rattle.chart_frames.specs.declared.reports.Run.{Run}
use Rattle.chart_frames.specs.declared.reports.ValuesFrame.{ValuesFrame}
use Rattle.chart_service.specs.State.{State}
use Rattle.host_lines.specs.declared.asked.HostLine.TheVariants.{Values}
use Rattle.host_replies.specs.Replies.{Reported}
use Rattle.retention.specs.Sweeps.{named}
use Rattle.series_book.specs.Books.{IsBook}
use Rattle.series_book.specs.declared.one_series.Series.{Series}
use Rattle.series_export.specs.Exports.{export_text, header, lines_of}
use Rattle.series_export.specs.Pieces.{Piece, readings_in}
use Rattle.series_export.specs.declared.window.Window.{Window}
use Rattle.series_store.specs.declared.slot_run.SlotRun.{SlotRun}

-- the slots of a frame's run, from its first on and below its end
abbrev pub slots_of : Run → SlotRun
slots_of run = record { first = run.first; end = run.first + run.count }

-- the runs and the values of a frame
abbrev pub piece_in : ValuesFrame → Piece
piece_in frame = record { runs = map slots_of frame.runs; values = frame.values }

-- where a frame says that more is left it is asked for, and else no frame follows
abbrev pub AsksOn : Bool → List ValuesFrame → Type 0 → Type 0
AsksOn true later IsAnswered = IsAnswered
AsksOn false later IsAnswered = later ≡ []

-- The line `values NAME T0 T1` is answered by the first frame, and as long as a frame says that more is left, the line with the
-- time that it says in the place of T0 is answered by the next one.
abbrev pub AnswerValues : List ℕ → State → ℤ → ℤ → List ValuesFrame → Type 0
AnswerValues name state t0 t1 [] = ⊥
AnswerValues name state t0 t1 (frame ∷ later) =
    Reported (Values name t0 t1) (Report (report.Values frame)) state
    × AsksOn frame.more later (AnswerValues name state frame.next t1 later)

-- Of all these frames come the lines of the export of the window, value by value.
abbrev pub ValuesAreTheExport : Type 0
ValuesAreTheExport =
    (state : State) (name : List ℕ) (series : Series) (window : Window) (frames : List ValuesFrame)
    → IsBook state.book → named state.book name ≡ Some series → AnswerValues name state window.from window.to frames
    → export_text series (Some window) ≡ header ++ lines_of series.scale (readings_in series (map piece_in frames))
