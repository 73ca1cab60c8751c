-- What a host answers to a step of a sweep, over the plain book alone: the frame, and the pushes behind it.
use Rattle.std.specs.Prelude.{ℕ, zero, suc, ◌≡◌, ◌⊎◌, ◌*◌, ◌+◌, List, [], length, nat_lt}
use Rattle.block_disk.specs.View.{Image, View}
use Rattle.chart_frames.specs.declared.frame.Frame.{Frame}
use Rattle.chart_frames.specs.declared.frame.Frame.TheVariants.{Done, Refused, Opened, Closed, View as ViewOf, Rows, Live, Report}
use Rattle.chart_frames.specs.declared.reports.Report.TheVariants.{Catalog, Values, Swept}
use Rattle.chart_frames.specs.Frames.{Fits}
use Rattle.chart_service.specs.Replies.{refused}
use Rattle.chart_service.specs.State.{State, IsSound}
use Rattle.live_service.specs.LiveReplies.{LiveState}
use Rattle.live_view.specs.Replies.{followers}
use Rattle.live_view.specs.Sessions.{viewed_among}
use Rattle.retention.specs.declared.rule.Rule.{Rule}
use Rattle.retention.specs.declared.rule.Rule.TheVariants.{Before, Last, Free}
use Rattle.retention.specs.Drops.{book_stepped}
use Rattle.retention.specs.Moving.{CommitsFew, clear_reads}
use Rattle.retention.specs.Sweeping.{IsAfterFirst}
use Rattle.retention.specs.Sweeps.{NamesNone, sweeps, sweeps_some}
use Rattle.series_book.specs.declared.edits.Edit.{Edit}
use Rattle.series_book.specs.declared.one_series.Series.{Series}
use Rattle.series_book.specs.declared.refusals.Refusal.TheVariants.{UnknownSeries}
use Rattle.series_book.specs.Edits.{id_of}
use Rattle.series_book.specs.Pages.{pages_of}
use Rattle.series_store.specs.Results.{IsUnchanged}
use Rattle.zoom_session.specs.declared.session.Session.{Session}

-- at most so many clears are made in a step
abbrev pub most_clears : ℕ
most_clears = 64

-- the clears that a step of a rule makes: the first ones that the rule makes of the book
abbrev pub step_clears : State → Rule → List Edit
step_clears state rule = sweeps_some state.total state.book rule most_clears

-- the book behind them
abbrev pub stepped : State → Rule → List Series
stepped state rule = book_stepped state.total state.book rule most_clears

-- the frame that tells a step: how many clears it made, how many pages are in use behind them, and whether the rule makes more
abbrev pub swept_frame : State → Rule → Frame
swept_frame state rule = Report (Swept (length (step_clears state rule)) (pages_of (stepped state rule))
    (nat_lt most_clears (length (sweeps state.total state.book rule))))

-- The followed sessions that a frame is pushed to behind clears of a rule. Where the rule names a series, they are those whose
-- last view is one of it; else all that have had a view.
abbrev pub swept_followers : Rule → List Series → List Session → List ℕ → List ℕ
swept_followers (Before name time) book sessions followed = followers (id_of name book) sessions followed
swept_followers (Last name count) book sessions followed = followers (id_of name book) sessions followed
swept_followers (Free pages) book sessions followed = viewed_among sessions followed

-- a frame is pushed to these behind so many clears; to none where none was made
abbrev pub pushed_behind : ℕ → List ℕ → List ℕ
pushed_behind zero numbers = []
pushed_behind (suc n) numbers = numbers

-- a step of the rule is done
pub record DoesStep (rule : Rule) (frame : Frame) (old new : LiveState) : Type 0 where
  pub there : NamesNone old.state.book rule → ⊥
  pub frame_is : frame ≡ swept_frame old.state rule
  pub state_is : new.state ≡ record old.state { book = stepped old.state rule }
  pub followed_same : new.followed ≡ old.followed
  pub pending_now : new.pending ≡ pushed_behind (length (step_clears old.state rule))
      (swept_followers rule new.state.book new.state.sessions old.followed)

-- the rule names a series that isn't there, and nothing is done
pub record RefusesStep (rule : Rule) (frame : Frame) (old new : LiveState) : Type 0 where
  pub none : NamesNone old.state.book rule
  pub frame_is : frame ≡ refused UnknownSeries
  pub state_same : new.state ≡ old.state
  pub followed_same : new.followed ≡ old.followed
  pub idle : new.pending ≡ []

-- A step is answered: the fields of its frame meet their rules, and the state after it is sound.
abbrev pub SweepReplied : Rule → Frame → LiveState → LiveState → Type 0
SweepReplied rule frame old new = (RefusesStep rule frame old new ⊎ DoesStep rule frame old new) × Fits frame × IsSound new.state

-- some first clears of a step are done, and the pages stand for the book then
abbrev pub SweepsSome : Rule → LiveState → Image → Type 0
SweepsSome rule old image = IsAfterFirst old.state.total old.state.book (step_clears old.state rule) image

-- a step reads at most so many blocks
abbrev pub step_reads : ℕ
step_reads = clear_reads * (most_clears + 1)

-- Whatever the pages are, a step tells of the clears that it committed, or that the series isn't there and it did nothing.
abbrev pub TellsStep : Frame → Type 0 → View → View → Type 0
TellsStep (Report (Swept clears used more)) told old new = CommitsFew clears old new
TellsStep (Report (Catalog catalog)) told old new = ⊥
TellsStep (Report (Values values)) told old new = ⊥
TellsStep (Refused number a b) told old new = (Refused number a b ≡ refused UnknownSeries) × IsUnchanged told old new
TellsStep (Done slots) told old new = ⊥
TellsStep (Opened session cache) told old new = ⊥
TellsStep (Closed session) told old new = ⊥
TellsStep (ViewOf view) told old new = ⊥
TellsStep (Rows rows) told old new = ⊥
TellsStep (Live session on) told old new = ⊥
