-- What a live service shows.
use Rattle.std.specs.Prelude.{◌≡◌, ℕ, ◌⊎◌, List, ◌++◌, Option}
use Rattle.block_disk.specs.View.{Image, View, Passes}
use Rattle.block_disk.specs.declared.streams.Streams.{Ghosts as StreamGhosts}
use Rattle.chart_frames.specs.declared.frame.Frame.{Frame}
use Rattle.gate_pages.specs.Pages.{Quiet}
use Rattle.gate_pages.specs.declared.pages.Pages.{Ghosts}
use Rattle.live_view.specs.declared.live.Live.{Live}
use Rattle.live_view.specs.declared.stepper.Stepper.{Ghosts as StepperGhosts}
use Rattle.live_view.specs.Live as live
use Rattle.series_book.specs.declared.edits.Edit.{Edit}
use Rattle.series_book.specs.declared.one_series.Series.{Series}
use Rattle.chart_service.specs.Called as called
use Rattle.chart_service.specs.Shown as shown
use Rattle.chart_service.specs.State.{State}
use Rattle.chart_service.specs.Stepping.{StandsAfter}
use Rattle.chart_service.specs.declared.failure.ServiceError.{ServiceError}
use Rattle.chart_service.specs.declared.service.Service.{Service}
use Rattle.stored_book.specs.Standing.{StandsForBook}
use Rattle.live_service.specs.declared.stepper.ServiceStepper.{ServiceStepper}
use Rattle.live_service.specs.LiveReplies.{GroupReplied, LiveState, ReadsPush}

-- the live state over a state of the service
abbrev pub live_of : State → List ℕ → List ℕ → LiveState
live_of state followed pending = record { state = state; followed = followed; pending = pending }

-- the pages stand for the book that an answer leaves
pub record IsAfterAnswer (Reply : Frame → LiveState → LiveState → Type 0) (total : ℕ) (old : LiveState) (image : Image) : Type 0 where
  pub frame : Frame
  pub after : LiveState
  pub replied : Reply frame old after
  pub stands : StandsForBook image total after.state.book

-- they stand for the book from before, or for the one that an answer leaves
abbrev pub IsBeforeOrAfter : (Frame → LiveState → LiveState → Type 0) → ℕ → LiveState → Image → Type 0
IsBeforeOrAfter Reply total old image = StandsForBook image total old.state.book ⊎ IsAfterAnswer Reply total old image

-- some first of the edits are done, and the pages stand for the book then
pub record DoesSome (edits : List Edit) (old : LiveState) (image : Image) : Type 0 where
  pub first : List Edit
  pub later : List Edit
  pub edits_are : edits ≡ first ++ later
  pub frames : List Frame
  pub after : LiveState
  pub replied : GroupReplied first frames old after
  pub total_is : after.state.total ≡ old.state.total
  pub stands : StandsForBook image old.state.total after.state.book

module _ {P : Type 0} {g : Ghosts P} {h : StepperGhosts (ServiceStepper P g) ServiceError} {streams : StreamGhosts (ServiceStepper P g)}
  where
    abbrev pub service : Live (ServiceStepper P g) ServiceError h streams → Service P g
    service it = (live.stepper it).service

    -- its state over a book of its store
    abbrev pub state : Live (ServiceStepper P g) ServiceError h streams → ℕ → List Series → LiveState
    state it total book = live_of (shown.state (service it) total book) (live.followed it) (live.pending it)

    -- so of each book that the pages stand for
    abbrev pub ForBook : Live (ServiceStepper P g) ServiceError h streams → (ℕ → List Series → Type 0) → Type 0
    ForBook it = shown.ForBook (service it)

    -- the pages stand for a book with this total, and the state with it is so
    abbrev pub StandsSo : ℕ → Live (ServiceStepper P g) ServiceError h streams → (LiveState → Type 0) → Type 0
    StandsSo total it IsSo = StandsAfter total (shown.image (service it)) (shown.sessions (service it))
        (λ state. IsSo (live_of state (live.followed it) (live.pending it)))

    -- the frame answers so, and the pages stand for the book that it leaves
    abbrev pub AnswersSo : (Frame → LiveState → LiveState → Type 0) → ℕ → List Series → Live (ServiceStepper P g) ServiceError h streams
        → Live (ServiceStepper P g) ServiceError h streams → Frame → Type 0
    AnswersSo Reply total book old new frame = StandsSo total new (λ after. Reply frame (state old total book) after)

    abbrev pub view : Live (ServiceStepper P g) ServiceError h streams → View
    view it = shown.view (service it)

    -- at each moment a crash leaves the book from before, or one that an answer leaves
    abbrev pub PassesBy : (Frame → LiveState → LiveState → Type 0) → ℕ → List Series → Live (ServiceStepper P g) ServiceError h streams
        → Live (ServiceStepper P g) ServiceError h streams → Type 0
    PassesBy Reply total book old new = Passes (view old) (view new) (IsBeforeOrAfter Reply total (state old total book)) (Quiet (view old))

    -- a line reads no more blocks than the request that it spells may
    abbrev pub ReadsFewFor : Option (List ℕ) → ℕ → List Series → Live (ServiceStepper P g) ServiceError h streams
        → Live (ServiceStepper P g) ServiceError h streams → Type 0
    ReadsFewFor line total book old new = called.ReadsFewFor line total book (service old) (service new)

    -- the next push reads no more blocks than it may
    abbrev pub ReadsNext : ℕ → List Series → Live (ServiceStepper P g) ServiceError h streams
        → Live (ServiceStepper P g) ServiceError h streams → Type 0
    ReadsNext total book old new = ReadsPush (live.pending old) (shown.state (service old) total book) (view old).reads (view new).reads
