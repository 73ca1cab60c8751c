-- A line that is too long, or spells no request.
use Rattle.std.proofs.Common.{◌≡◌, ℕ, ◌<◌, Bool, if◌then◌else◌, List, length, None, Some, refl, sym, subst}
use Rattle.std.proofs.lemmas.Bool.{lt-ltb}
use Rattle.block_disk.specs.View.{Image}
use Rattle.chart_frames.specs.declared.frame.Frame.{Frame}
use Rattle.chart_frames.specs.Frames.{Fits}
use Rattle.series_book.specs.declared.one_series.Series.{Series}
use Rattle.series_book.specs.declared.refusals.Refusal.TheVariants.{LineTooLong}
use Rattle.stored_book.specs.Standing.{StandsForBook}
use Rattle.zoom_session.specs.declared.session.Session.{Session}
use Rattle.chart_service.specs.State.{IsSound}
use Rattle.chart_service.specs.Replies.{refused, RepliesToLine, Replied, line_text}
use Rattle.chart_service.specs.Stepping.{StandsAfter, state_of}

-- a line that is too long is refused
pub long_line : (line : List ℕ) (frame : Frame) (total : ℕ) (book : List Series) (sessions : List Session) (image : Image)
    → 8192 < length line → frame ≡ refused LineTooLong → Fits frame → IsSound (state_of book total sessions)
    → StandsForBook image total book → StandsAfter total image sessions
    (λ new. Replied (line_text line) frame (state_of book total sessions) new)
long_line line frame total book sessions image long is fits sound stands =
    let old = state_of book total sessions in
    let B : Bool → Type 0 = λ b. RepliesToLine (if b then None else Some line) frame old old in
    record {
      book = book;
      stands = stands;
      so = (
        subst B (sym (lt-ltb 8192 (length line) long)) (record { reply = is; state = refl }),
        fits,
        sound,
      );
    }
