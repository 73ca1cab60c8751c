-- What a call of a host does of some lines. Private contracts are stated by these words.
use Rattle.std.specs.Prelude.{ℕ, ◌≡◌, ◌+◌, ◌≤◌, ◌⊎◌, List, [], ◌∷◌, ◌++◌, length, Option, Result, IfErr, IfSome, OnOk}
use Rattle.block_disk.specs.Streams.{sent_after, PartSent}
use Rattle.block_disk.specs.View.{Image, View, sent_now}
use Rattle.block_disk.specs.declared.streams.Streams.{Ghosts as StreamGhosts}
use Rattle.block_disk.specs.declared.streams.Streams as streams
use Rattle.chart_frames.specs.declared.frame.Frame.{Frame}
use Rattle.chart_frames.specs.Frames.{spelling}
use Rattle.chart_service.specs.Moments.{Through}
use Rattle.chart_service.specs.Serving.{most_ahead}
use Rattle.chart_service.specs.State.{IsSound}
use Rattle.chart_service.specs.Stepping.{state_of}
use Rattle.chart_service.specs.declared.failure.ServiceError.{ServiceError}
use Rattle.gate_pages.specs.declared.pages.Pages.{Ghosts}
use Rattle.live_service.specs.LiveReplies.{LiveState}
use Rattle.live_service.specs.Shown as its
use Rattle.live_service.specs.declared.stepper.ServiceStepper.{ServiceStepper}
use Rattle.live_view.specs.declared.live.Live.{Live}
use Rattle.live_view.specs.declared.stepper.Stepper.{Ghosts as StepperGhosts}
use Rattle.run_ends.specs.declared.ending.End.{End}
use Rattle.run_ends.specs.declared.ending.End.TheVariants.{NoMemory, SendFault, DiskFault}
use Rattle.series_book.specs.declared.one_series.Series.{Series}
use Rattle.stored_book.specs.Standing.{StandsForBook}
use Rattle.hosted_lines.specs.Amid.{IsThereAhead}
use Rattle.hosted_lines.specs.Doing.{Held, held_by, held_with}
use Rattle.hosted_lines.specs.Hosts.{Costs, Counted, Event, Happens, HappensFor, InRow, groups_in, lines_in}
use Rattle.hosted_lines.specs.Lives.{spelled}
use Rattle.hosted_lines.specs.Shown.{pages}

-- ---- frames in a row that are sent

-- they weren't all sent: some first were, and of the next one nothing, or a part
pub record FramesCut (frames : List Frame) (before now : Option (List ℕ)) : Type 0 where
  pub shown : List Frame
  pub last : Frame
  pub later : List Frame
  pub frames_are : frames ≡ shown ++ last ∷ later
  pub between : Option (List ℕ)
  pub whole : between ≡ sent_after (spelled shown) before
  pub part : PartSent (spelling last) between now

pub record FramesSome (frames : List Frame) (before now : Option (List ℕ)) : Type 0 where
  pub shown : List Frame
  pub later : List Frame
  pub frames_are : frames ≡ shown ++ later
  pub sent : now ≡ sent_after (spelled shown) before

abbrev pub FramesStop : List Frame → Option (List ℕ) → Option (List ℕ) → End → Type 0
FramesStop frames before now NoMemory = FramesSome frames before now
FramesStop frames before now SendFault = FramesCut frames before now
FramesStop frames before now end = ⊥

-- ---- lines that are answered

-- the events that answer some first of these lines
pub record Begun (lines : List (Option (List ℕ))) (frames : List Frame) (old new : LiveState) : Type 0 where
  pub events : List Event
  pub rest : List (Option (List ℕ))
  pub split : lines ≡ lines_in events ++ rest
  pub happened : InRow Happens old events frames new

-- the counted state over a book
abbrev pub counted_with : ℕ → List Series → Held → ℕ → ℕ → Counted
counted_with total book held reads syncs = record { live = held_with total book held; reads = reads; syncs = syncs }

-- All of them are answered, in at most so many groups, the pages stand for the book that this leaves, and the spellings of all
-- frames were sent.
pub record HostDone (groups : ℕ) (lines : List (Option (List ℕ))) (total : ℕ) (old : Counted) (image : Image) (held : Held)
    (reads syncs : ℕ) (before now : Option (List ℕ)) : Type 0 where
  pub frames : List Frame
  pub book : List Series
  pub stands : StandsForBook image total book
  pub sound : IsSound (state_of book total held.sessions)
  pub events : List Event
  pub lines_are : lines_in events ≡ lines
  pub happened : InRow HappensFor old events frames (counted_with total book held reads syncs)
  pub few : groups_in events ≤ groups
  pub sent : now ≡ sent_after (spelled frames) before

-- Some first of them are. Of some frames, which are fewer than may be done ahead, and of one before them a part was sent, or
-- none of them; the spellings of all others were sent.
pub record HostCut (lines : List (Option (List ℕ))) (total : ℕ) (old : LiveState) (image : Image)
    (before now : Option (List ℕ)) : Type 0 where
  pub shown : List Frame
  pub last : Frame
  pub more : List Frame
  pub few : length (last ∷ more) ≤ most_ahead
  pub state : LiveState
  pub begun : Begun lines (shown ++ last ∷ more) old state
  pub stands : StandsForBook image total state.state.book
  pub between : Option (List ℕ)
  pub whole : between ≡ sent_after (spelled shown) before
  pub part : PartSent (spelling last) between now

pub record HostSome (lines : List (Option (List ℕ))) (total : ℕ) (old : LiveState) (image : Image)
    (before now : Option (List ℕ)) : Type 0 where
  pub shown : List Frame
  pub more : List Frame
  pub few : length more ≤ most_ahead
  pub state : LiveState
  pub begun : Begun lines (shown ++ more) old state
  pub stands : IsThereAhead (λ book. StandsForBook image total book) more begun.rest state
  pub sent : now ≡ sent_after (spelled shown) before

-- the spellings of all frames of some first of them were sent
pub record HostSent (lines : List (Option (List ℕ))) (old : LiveState) (before now : Option (List ℕ)) : Type 0 where
  pub frames : List Frame
  pub state : LiveState
  pub begun : Begun lines frames old state
  pub sent : now ≡ sent_after (spelled frames) before

-- why not all of them were answered, or not all pushes made
abbrev pub HostStop : List (Option (List ℕ)) → ℕ → LiveState → Image → Option (List ℕ) → Option (List ℕ) → End → Type 0
HostStop lines total old image before now NoMemory = HostSome lines total old image before now
HostStop lines total old image before now SendFault = HostCut lines total old image before now
HostStop lines total old image before now DiskFault = HostSent lines old before now
HostStop lines total old image before now end = ⊥

-- what a crash leaves meanwhile, and how many bytes were sent
pub record HostMoment (lines : List (Option (List ℕ))) (total : ℕ) (old : LiveState) (from : ℕ) (image : Image) (sent : ℕ) : Type 0 where
  pub shown : List Frame
  pub more : List Frame
  pub few : length more ≤ most_ahead
  pub state : LiveState
  pub begun : Begun lines (shown ++ more) old state
  pub stands : IsThereAhead (λ book. StandsForBook image total book) more begun.rest state
  pub low : from + length (spelled shown) ≤ sent
  pub high : sent ≤ from + length (spelled (shown ++ more))

-- the next event failed, and cost no more than it may
pub record NextCosts (rest : List (Option (List ℕ))) (old : Counted) (reads syncs : ℕ) : Type 0 where
  pub event : Event
  pub later : List (Option (List ℕ))
  pub next : rest ≡ lines_in (event ∷ []) ++ later
  pub costs : Costs event old.live old.reads reads old.syncs syncs

-- what some first of them cost, in at most so many groups, and the event behind them, which may have failed
pub record HostCost (groups : ℕ) (lines : List (Option (List ℕ))) (old : Counted) (reads syncs : ℕ) : Type 0 where
  pub events : List Event
  pub rest : List (Option (List ℕ))
  pub split : lines ≡ lines_in events ++ rest
  pub frames : List Frame
  pub state : Counted
  pub happened : InRow HappensFor old events frames state
  pub few : groups_in events ≤ groups
  pub last : ((reads ≡ state.reads) × (syncs ≡ state.syncs)) ⊎ NextCosts rest state reads syncs

-- what a call does that answers these lines in at most so many groups, and makes pushes
pub record DoesHost {T : Type 0} (groups : ℕ) (lines : List (Option (List ℕ))) (total : ℕ) (old : LiveState) (result : Result T End)
    (view view' : View) (held : Held) (before now : Option (List ℕ)) : Type 0 where
  pub done : OnOk result (HostDone groups lines total
      (record { live = old; reads = view.reads; syncs = view.syncs }) view'.image held view'.reads view'.syncs before now)
  pub stops : IfErr result (HostStop lines total old view'.image before now)
  pub moments : IfSome before (λ bytes. Through view view' (HostMoment lines total old (sent_now view)))
  pub cost : HostCost groups lines (record { live = old; reads = view.reads; syncs = view.syncs }) view'.reads view'.syncs

module _ {P : Type 0} {g : Ghosts P} {h : StepperGhosts (ServiceStepper P g) ServiceError} {beside : StreamGhosts (ServiceStepper P g)}
  where
    -- what a call does from one moment to another
    abbrev pub HostsFor : {T : Type 0} → streams.Ghosts P → ℕ → List (Option (List ℕ)) → ℕ → List Series → Result T End
        → Live (ServiceStepper P g) ServiceError h beside → Live (ServiceStepper P g) ServiceError h beside → Type 0
    HostsFor told groups lines total book result old new = DoesHost groups lines total (its.state old total book) result (its.view old)
        (its.view new) (held_by new) (told.sent (pages old)) (told.sent (pages new))
