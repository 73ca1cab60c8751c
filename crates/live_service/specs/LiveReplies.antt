-- What a live service answers, over the plain book alone: the reply to a line, and the pushes behind it.
use Rattle.std.specs.Prelude.{ℕ, ◌≡◌, List, [], ◌∷◌, Option, None, Some}
use Rattle.chart_frames.specs.declared.frame.Frame.{Frame}
use Rattle.chart_frames.specs.declared.frame.Frame.TheVariants.{Done, Refused, Opened, Closed, View as ViewOf, Rows, Live, Report}
use Rattle.chart_frames.specs.Frames.{Fits}
use Rattle.chart_service.specs.EditGroups.{RepliesToEdits}
use Rattle.chart_service.specs.Replies.{Replied, own_zoom}
use Rattle.chart_service.specs.State.{State}
use Rattle.chart_service.specs.Stepping.{RepliedTo, ReadsLast}
use Rattle.live_view.specs.declared.live_lines.LiveLine.{LiveLine}
use Rattle.live_view.specs.declared.live_lines.LiveLine.TheVariants.{Follow, Unfollow, Bad, Other as OtherLine}
use Rattle.live_view.specs.declared.meaning.Meaning.{Meaning}
use Rattle.live_view.specs.declared.meaning.Meaning.TheVariants.{View, Edit, Other}
use Rattle.live_view.specs.Lines.{live_line}
use Rattle.live_view.specs.Groups.{followers_of}
use Rattle.live_view.specs.Meaning.{meaning_of, name_of}
use Rattle.live_view.specs.Replies.{refused, follow_reply, unfollow_reply, followed_by, ended, still_followed, followers}
use Rattle.series_book.specs.declared.edits.Edit.{Edit as OneEdit}
use Rattle.series_book.specs.declared.one_series.Series.{Series}
use Rattle.series_book.specs.declared.refusals.Refusal.TheVariants.{BadLine}
use Rattle.series_book.specs.Edits.{id_of}
use Rattle.zoom_session.specs.declared.view_spec.ViewSpec.{ViewSpec}
use Rattle.zoom_session.specs.Sessions.{is_open, session_of, last_of}

-- what a service holds, and the numbers of the followed sessions and of those that a frame is still to be pushed to, both
-- in rising order
pub record LiveState : Type 0 where
  pub state : State
  pub followed : List ℕ
  pub pending : List ℕ

-- the series of a book whose edit was done by a line, as the frame says that answers it; none where no edit was
abbrev pub changed_in : List Series → Meaning → Frame → Option ℕ
changed_in book View frame = None
changed_in book Other frame = None
changed_in book (Edit name) (Done slots) = id_of name book
changed_in book (Edit name) (Refused number a b) = None
changed_in book (Edit name) (Opened session cache) = None
changed_in book (Edit name) (Closed session) = None
changed_in book (Edit name) (ViewOf view) = None
changed_in book (Edit name) (Rows rows) = None
changed_in book (Edit name) (Live session on) = None
changed_in book (Edit name) (Report report) = None

-- a line that asks for a following is answered by this frame, whose fields meet their rules, and changes no more than which
-- sessions are followed
pub record AnswersItself (reply frame : Frame) (old new : LiveState) : Type 0 where
  pub is : frame ≡ reply
  pub fits : Fits frame
  pub state : new.state ≡ old.state
  pub followed_now : new.followed ≡ followed_by reply old.followed
  pub idle : new.pending ≡ []

-- Another line is answered as by the service alone. A frame is to be pushed to each followed session whose last view is of
-- the series whose edit was done.
pub record PassesOn (text : List ℕ) (frame : Frame) (old new : LiveState) : Type 0 where
  pub replied : Replied (Some text) frame old.state new.state
  pub followed_now : new.followed ≡ still_followed (ended (meaning_of text) frame) old.followed
  pub pending_now : new.pending ≡ followers (changed_in new.state.book (meaning_of text) frame) new.state.sessions old.followed

-- a line that is too long is refused by the service
pub record RefusesLong (frame : Frame) (old new : LiveState) : Type 0 where
  pub replied : Replied None frame old.state new.state
  pub followed_same : new.followed ≡ old.followed
  pub idle : new.pending ≡ []

-- the reply by what the line asks of live views
abbrev pub RepliesTo : LiveLine → List ℕ → Frame → LiveState → LiveState → Type 0
RepliesTo (Follow n) text frame old new = AnswersItself (follow_reply n (session_of n old.state.sessions)) frame old new
RepliesTo (Unfollow n) text frame old new = AnswersItself (unfollow_reply n (is_open n old.state.sessions)) frame old new
RepliesTo (Bad at) text frame old new = AnswersItself (refused (BadLine at)) frame old new
RepliesTo OtherLine text frame old new = PassesOn text frame old new

-- the reply to a line: its text, or nothing where it is too long
abbrev pub LiveReplied : Option (List ℕ) → Frame → LiveState → LiveState → Type 0
LiveReplied None frame old new = RefusesLong frame old new
LiveReplied (Some text) frame old new = RepliesTo (live_line text) text frame old new

-- of each edit the series of a book that was changed by it, as the frame says that answers it; none where the edit wasn't done
abbrev pub changed_by : List Series → List OneEdit → List Frame → List (Option ℕ)
changed_by book [] frames = []
changed_by book (edit ∷ later) [] = []
changed_by book (edit ∷ later) (frame ∷ frames) = changed_in book (Edit (name_of edit)) frame ∷ changed_by book later frames

-- Edits are done together, each answered as by the service alone. A frame is to be pushed to each followed session whose last
-- view is of a series of which one was done, also one that left the book as it was.
pub record GroupReplied (edits : List OneEdit) (frames : List Frame) (old new : LiveState) : Type 0 where
  pub replied : RepliesToEdits edits frames old.state new.state
  pub followed_same : new.followed ≡ old.followed
  pub pending_now : new.pending ≡ followers_of (changed_by new.state.book edits frames) new.state.sessions old.followed

-- the next push: the reply to a zoom of its session to the window of that session's own last view
pub record Pushed (frame : Frame) (old new : LiveState) : Type 0 where
  pub session : ℕ
  pub first : old.pending ≡ session ∷ new.pending
  pub last : ViewSpec
  pub viewed : last_of (session_of session old.state.sessions) ≡ Some last
  pub replied : RepliedTo (own_zoom session last) frame old.state new.state
  pub followed_same : new.followed ≡ old.followed

-- how many blocks the push of the first of these sessions reads at most: as many as a zoom to the window of its last view; none
-- where no push is pending
abbrev pub ReadsPush : List ℕ → State → ℕ → ℕ → Type 0
ReadsPush [] state old new = new ≡ old
ReadsPush (session ∷ later) state old new = ReadsLast state.book (last_of (session_of session state.sessions))
    (λ last. (last.grid.t0, last.grid.t1)) old new
