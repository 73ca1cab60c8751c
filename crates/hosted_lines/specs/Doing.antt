-- What is done of one line and of the pushes behind it, and what calls move. Private contracts are stated by these words.
use Rattle.std.specs.Prelude.{ℕ, ◌≡◌, ◌+◌, ◌<◌, ◌≤◌, ◌⊎◌, List, [], ◌∷◌, ◌++◌, length, Option, Result, IfErr, IfSome, OnOk, ⊤}
use Rattle.block_disk.specs.Counts.{HasRisen}
use Rattle.block_disk.specs.Streams.{sent_after, PartSent}
use Rattle.block_disk.specs.View.{Image, View, sent_now}
use Rattle.block_disk.specs.declared.streams.Streams.{Ghosts as StreamGhosts}
use Rattle.block_disk.specs.declared.streams.Streams as streams
use Rattle.chart_frames.specs.declared.frame.Frame.{Frame}
use Rattle.chart_frames.specs.Frames.{spelling}
use Rattle.chart_service.specs.Moments.{Through}
use Rattle.chart_service.specs.ReadingBlocks.{ReadsLine}
use Rattle.chart_service.specs.Shown as shown
use Rattle.chart_service.specs.State.{IsSound}
use Rattle.chart_service.specs.Stepping.{state_of}
use Rattle.chart_service.specs.declared.failure.ServiceError.{ServiceError}
use Rattle.chart_service.specs.declared.failure.ServiceError.TheVariants as step
use Rattle.gate_pages.specs.Pages.{GoesOn}
use Rattle.gate_pages.specs.declared.pages.Pages.{Ghosts}
use Rattle.live_service.specs.LiveReplies.{LiveState, ReadsPush}
use Rattle.live_service.specs.Shown as its
use Rattle.live_service.specs.Shown.{live_of}
use Rattle.live_service.specs.declared.stepper.ServiceStepper.{ServiceStepper}
use Rattle.live_view.specs.declared.live.Live.{Live}
use Rattle.live_view.specs.declared.stepper.Stepper.{Ghosts as StepperGhosts}
use Rattle.live_view.specs.Live as live
use Rattle.run_ends.specs.declared.ending.End.{End}
use Rattle.run_ends.specs.declared.ending.End.TheVariants.{NoMemory, ReadFault, SendFault, DiskFault, DamagedPage, InputTooLong}
use Rattle.series_book.specs.declared.one_series.Series.{Series}
use Rattle.stored_book.specs.Damage.{IsBadForRequest}
use Rattle.stored_book.specs.Standing.{StandsForBook}
use Rattle.zoom_session.specs.declared.session.Session.{Session}
use Rattle.hosted_lines.specs.Lives.{LivesBy, spelled}
use Rattle.hosted_lines.specs.Reads.{ReadsBy}
use Rattle.hosted_lines.specs.Shown.{pages}

-- what an error of a step is for the run
abbrev pub step_end : ServiceError → End
step_end step.DiskFault = DiskFault
step_end (step.Damaged page) = DamagedPage page
step_end step.NoMemory = NoMemory

-- ---- a frame that is sent

-- it wasn't sent, or not all of it
abbrev pub FrameStops : Frame → Option (List ℕ) → Option (List ℕ) → End → Type 0
FrameStops frame before now NoMemory = now ≡ before
FrameStops frame before now SendFault = PartSent (spelling frame) before now
FrameStops frame before now end = ⊥

-- ---- lines that are answered, and pushes

-- what a live service holds beside its pages: the open sessions, the followed ones, and those with a pending push
pub record Held : Type 0 where
  pub sessions : List Session
  pub followed : List ℕ
  pub pending : List ℕ

-- the live state with this book
abbrev pub held_with : ℕ → List Series → Held → LiveState
held_with total book held = live_of (state_of book total held.sessions) held.followed held.pending

-- The lines are answered, the pages stand for the book that this leaves, and the spellings of all frames were sent.
pub record LinesDone (lines : List (Option (List ℕ))) (total : ℕ) (old : LiveState) (image : Image) (held : Held) (from to : ℕ)
    (before now : Option (List ℕ)) : Type 0 where
  pub frames : List Frame
  pub book : List Series
  pub stands : StandsForBook image total book
  pub sound : IsSound (state_of book total held.sessions)
  pub lives : LivesBy lines frames old (held_with total book held)
  pub reads : ReadsBy lines frames old (held_with total book held) from to
  pub sent : now ≡ sent_after (spelled frames) before

-- some first of the lines, which are at most one
abbrev pub AreFirst : List (Option (List ℕ)) → List (Option (List ℕ)) → Type 0
AreFirst lines first = (first ≡ []) ⊎ (first ≡ lines)

-- of the last frame a part was sent
pub record LinesCut (lines : List (Option (List ℕ))) (total : ℕ) (old : LiveState) (image : Image)
    (before now : Option (List ℕ)) : Type 0 where
  pub first : List (Option (List ℕ))
  pub are_first : AreFirst lines first
  pub shown : List Frame
  pub last : Frame
  pub state : LiveState
  pub lives : LivesBy first (shown ++ last ∷ []) old state
  pub stands : StandsForBook image total state.state.book
  pub between : Option (List ℕ)
  pub whole : between ≡ sent_after (spelled shown) before
  pub part : PartSent (spelling last) between now

-- the spellings of all frames were sent, or of all but the last one
pub record LinesSome (lines : List (Option (List ℕ))) (total : ℕ) (old : LiveState) (image : Image)
    (before now : Option (List ℕ)) : Type 0 where
  pub first : List (Option (List ℕ))
  pub are_first : AreFirst lines first
  pub shown : List Frame
  pub more : List Frame
  pub few : length more ≤ 1
  pub state : LiveState
  pub lives : LivesBy first (shown ++ more) old state
  pub stands : StandsForBook image total state.state.book
  pub sent : now ≡ sent_after (spelled shown) before

-- the spellings of some first frames were sent
pub record LinesSent (lines : List (Option (List ℕ))) (old : LiveState) (before now : Option (List ℕ)) : Type 0 where
  pub first : List (Option (List ℕ))
  pub are_first : AreFirst lines first
  pub frames : List Frame
  pub state : LiveState
  pub lives : LivesBy first frames old state
  pub sent : now ≡ sent_after (spelled frames) before

-- why the lines weren't answered, or not all pushes made
abbrev pub LinesStop : List (Option (List ℕ)) → ℕ → LiveState → Image → Option (List ℕ) → Option (List ℕ) → End → Type 0
LinesStop lines total old image before now NoMemory = LinesSome lines total old image before now
LinesStop lines total old image before now SendFault = LinesCut lines total old image before now
LinesStop lines total old image before now DiskFault = LinesSent lines old before now
LinesStop lines total old image before now end = ⊥

-- what a crash leaves meanwhile, and how many bytes were sent
pub record LinesMoment (lines : List (Option (List ℕ))) (total : ℕ) (old : LiveState) (from : ℕ) (image : Image) (sent : ℕ) : Type 0 where
  pub first : List (Option (List ℕ))
  pub are_first : AreFirst lines first
  pub shown : List Frame
  pub more : List Frame
  pub few : length more ≤ 1
  pub state : LiveState
  pub lives : LivesBy first (shown ++ more) old state
  pub stands : StandsForBook image total state.state.book
  pub low : from + length (spelled shown) ≤ sent
  pub high : sent ≤ from + length (spelled (shown ++ more))

-- some first frames were made, and perhaps a line or a push behind them failed; so many blocks were read
pub record LinesRead (lines : List (Option (List ℕ))) (old : LiveState) (from to : ℕ) : Type 0 where
  pub first : List (Option (List ℕ))
  pub are_first : AreFirst lines first
  pub frames : List Frame
  pub state : LiveState
  pub count : ℕ
  pub answered : ReadsBy first frames old state from count
  pub last : (to ≡ count)
      ⊎ (((line : Option (List ℕ)) × (first ≡ []) × (lines ≡ line ∷ []) × ReadsLine line state.state count to)
      ⊎ ReadsPush state.pending state.state count to)

-- what a call does that answers these lines, and makes pushes
pub record DoesLines {T : Type 0} (lines : List (Option (List ℕ))) (total : ℕ) (old : LiveState) (result : Result T End) (view view' : View)
    (held : Held) (before now : Option (List ℕ)) : Type 0 where
  pub done : OnOk result (LinesDone lines total old view'.image held view.reads view'.reads before now)
  pub stops : IfErr result (LinesStop lines total old view'.image before now)
  pub moments : IfSome before (λ bytes. Through view view' (LinesMoment lines total old (sent_now view)))
  pub reads : LinesRead lines old view.reads view'.reads

-- ---- what calls move, whatever the pages are

-- pages with their streams
pub record Side : Type 1 where
  pub told : Type 0
  pub view : View
  pub under : View
  pub read_faults : ℕ
  pub send_faults : ℕ

-- what stands beside the pages are the streams
pub record AreBeside (at : View) (read_faults send_faults : ℕ) : Type 0 where
  pub reads_are : at.beside.read_faults ≡ read_faults
  pub sends_are : at.beside.send_faults ≡ send_faults

-- as many bytes were sent as are told
abbrev pub CountsSent : Option (List ℕ) → View → Type 0
CountsSent sent at = IfSome sent (λ bytes. sent_now at ≡ length bytes)

-- no count falls
pub record Goes (old new : Side) : Type 0 where
  pub is_told : old.told → new.told
  pub was_told : new.told → old.told
  pub size : new.view.size ≡ old.view.size
  pub faults : old.view.faults ≤ new.view.faults
  pub goes_on : GoesOn old.under new.under
  pub reads : old.read_faults ≤ new.read_faults
  pub sends : old.send_faults ≤ new.send_faults

-- Why lines weren't answered. A page that is called damaged is one of so many, and is so where reads give what the pages are.
abbrev pub IsCause : End → Side → Side → Type 0
IsCause NoMemory old new = ⊤
IsCause ReadFault old new = HasRisen old.read_faults new.read_faults
IsCause SendFault old new = HasRisen old.send_faults new.send_faults
IsCause DiskFault old new = HasRisen old.view.faults new.view.faults
IsCause (DamagedPage page) old new = (page < new.view.size) × (new.told → IsBadForRequest new.view.size new.view.image page)
IsCause InputTooLong old new = ⊤
IsCause end old new = ⊥

module _ {P : Type 0} {g : Ghosts P} {h : StepperGhosts (ServiceStepper P g) ServiceError} {beside : StreamGhosts (ServiceStepper P g)}
  where
    abbrev pub held_by : Live (ServiceStepper P g) ServiceError h beside → Held
    held_by it = record { sessions = shown.sessions (its.service it); followed = live.followed it; pending = live.pending it }

    abbrev pub side_of : streams.Ghosts P → Live (ServiceStepper P g) ServiceError h beside → Side
    side_of told it = record {
      told = shown.IsTold (its.service it);
      view = its.view it;
      under = shown.under (its.service it);
      read_faults = told.read_faults (pages it);
      send_faults = told.send_faults (pages it);
    }

    -- what a call does from one moment to another
    abbrev pub DoesFor : {T : Type 0} → streams.Ghosts P → List (Option (List ℕ)) → ℕ → List Series → Result T End
        → Live (ServiceStepper P g) ServiceError h beside → Live (ServiceStepper P g) ServiceError h beside → Type 0
    DoesFor told lines total book result old new = DoesLines lines total (its.state old total book) result (its.view old) (its.view new)
        (held_by new) (told.sent (pages old)) (told.sent (pages new))
