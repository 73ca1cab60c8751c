-- The bytes of replies, and how they are sent for the frames that answer lines.
use Rattle.std.specs.Prelude.{◌≡◌, ℕ, ◌+◌, ◌≤◌, ◌⊎◌, List, [], ◌∷◌, ◌++◌, length, Option, Result, Ok, Err}
use Rattle.block_disk.specs.Streams.{sent_after, PartSent}
use Rattle.block_disk.specs.View.{Image, View, Now, sent_now}
use Rattle.chart_frames.specs.declared.frame.Frame.{Frame}
use Rattle.stored_book.specs.Standing.{StandsForBook}
use Rattle.zoom_session.specs.declared.session.Session.{Session}
use Rattle.chart_service.specs.State.{State}
use Rattle.chart_service.specs.Serving.{RepliesToAll, KeepsBook, FirstOf}
use Rattle.chart_service.specs.Stepping.{StandsAfter}
use Rattle.chart_service.specs.Moments.{Through}
use Rattle.chart_service.specs.declared.failure.AnswerEnd.{AnswerEnd}
use Rattle.chart_service.specs.declared.failure.AnswerEnd.TheVariants.{Serve, Reply}
use Rattle.chart_service.specs.declared.failure.ServeEnd.TheVariants.{ReadFault, SendFault, DiskFault, Damaged, InputTooLong, NoMemory}

-- what making the bytes of a frame may answer and leave, as a `Reply` says it
abbrev pub Makes : Type 0 → Type 0 → Type 1
Makes S F = S → Frame → Result (List ℕ) F → S → Type 0

-- the bytes of the frames were made one after the other, and the text is all of them
abbrev pub AreMade : {S F : Type 0} → Makes S F → S → S → List (Option (List ℕ)) → List Frame → List ℕ → Type 0
AreMade makes old new lines [] text = (text ≡ []) × (new ≡ old)
AreMade {S} makes old new lines (frame ∷ frames) text =
    (piece : List ℕ) × (between : S) × (rest : List ℕ) × makes old frame (Ok piece) between × (text ≡ piece ++ rest)
    × AreMade makes between new lines frames rest

-- the same, whatever is left
abbrev pub AreMadeFrom : {S F : Type 0} → Makes S F → S → List (Option (List ℕ)) → List Frame → List ℕ → Type 0
AreMadeFrom {S} makes old lines frames text = (new : S) × AreMade makes old new lines frames text

-- the bytes of a frame were made and sent
abbrev pub FrameSent : {S F : Type 0} → Makes S F → Frame → S → S → Option (List ℕ) → Option (List ℕ) → Type 0
FrameSent makes frame old new before now = (piece : List ℕ) × makes old frame (Ok piece) new × (now ≡ sent_after piece before)

-- a first part of them was sent
abbrev pub FramePart : {S F : Type 0} → Makes S F → Frame → S → S → Option (List ℕ) → Option (List ℕ) → Type 0
FramePart makes frame old new before now = (piece : List ℕ) × makes old frame (Ok piece) new × PartSent piece before now

-- why the bytes of a frame weren't made or sent
abbrev pub FrameStops : {S F : Type 0} → Makes S F → Frame → S → S → Option (List ℕ) → Option (List ℕ) → AnswerEnd F → Type 0
FrameStops makes frame old new before now (Serve ReadFault) = ⊥
FrameStops makes frame old new before now (Serve SendFault) = FramePart makes frame old new before now
FrameStops makes frame old new before now (Serve DiskFault) = ⊥
FrameStops makes frame old new before now (Serve (Damaged page)) = ⊥
FrameStops makes frame old new before now (Serve InputTooLong) = ⊥
FrameStops makes frame old new before now (Serve NoMemory) = ⊥
FrameStops makes frame old new before now (Reply e) = (now ≡ before) × makes old frame (Err e) new

-- lines are answered, and the bytes of their frames are sent
pub record LinesDone {S F : Type 0} (makes : Makes S F) (lines : List (Option (List ℕ))) (kept kept' : S) (old new : State)
    (before now : Option (List ℕ)) : Type 0 where
  pub frames : List Frame
  pub replied : RepliesToAll old lines frames new
  pub text : List ℕ
  pub made : AreMade makes kept kept' lines frames text
  pub sent : now ≡ sent_after text before

-- lines are done, the bytes of their first frames are sent, and those of the frame behind them weren't made, or not sent
-- whole
pub record LinesCut {S F : Type 0} (makes : Makes S F) (lines : List (Option (List ℕ))) (kept kept' : S) (old new : State)
    (before now : Option (List ℕ)) (end : AnswerEnd F) : Type 0 where
  pub front : List (Option (List ℕ))
  pub rest : List (Option (List ℕ))
  pub lines_are : lines ≡ front ++ rest
  pub between : State
  pub last : S
  pub sent : Option (List ℕ)
  pub done : LinesDone makes front kept last old between before sent
  pub frame : Frame
  pub later : List Frame
  pub replied : RepliesToAll between rest (frame ∷ later) new
  pub stops : FrameStops makes frame last kept' sent now end

-- some first of the lines are done
pub record DoesFirst (lines : List (Option (List ℕ))) (old new : State) : Type 0 where
  pub front : List (Option (List ℕ))
  pub rest : List (Option (List ℕ))
  pub lines_are : lines ≡ front ++ rest
  pub frames : List Frame
  pub replied : RepliesToAll old front frames new

-- why lines weren't answered, or the bytes of their frames not sent, where the pages stand for a book then
abbrev pub LinesStopAt : {S F : Type 0} → Makes S F → List (Option (List ℕ)) → S → S → State → State → Option (List ℕ) → Option (List ℕ)
    → AnswerEnd F → Type 0
LinesStopAt makes lines kept kept' old new before now (Serve ReadFault) = ⊥
LinesStopAt makes lines kept kept' old new before now (Serve SendFault) = LinesCut makes lines kept kept' old new before now
    (Serve SendFault)
LinesStopAt makes lines kept kept' old new before now (Serve DiskFault) = ⊥
LinesStopAt makes lines kept kept' old new before now (Serve (Damaged page)) = ⊥
LinesStopAt makes lines kept kept' old new before now (Serve InputTooLong) = ⊥
LinesStopAt makes lines kept kept' old new before now (Serve NoMemory) = (now ≡ before) × (KeepsBook old new ⊎ DoesFirst lines old new)
LinesStopAt makes lines kept kept' old new before now (Reply e) = LinesCut makes lines kept kept' old new before now (Reply e)

-- the same; where it is no fault of the disk, the pages stand for a book then
abbrev pub LinesStop : {S F : Type 0} → Makes S F → List (Option (List ℕ)) → S → S → State → Image → List Session → Option (List ℕ)
    → Option (List ℕ) → AnswerEnd F → Type 0
LinesStop makes lines kept kept' old image sessions before now (Serve DiskFault) = now ≡ before
LinesStop makes lines kept kept' old image sessions before now (Serve (Damaged page)) = ⊥
LinesStop makes lines kept kept' old image sessions before now end =
    StandsAfter old.total image sessions (λ new. LinesStopAt makes lines kept kept' old new before now end)

-- the end of a reply alone: no fault of the disk or of the input, and no damage
abbrev pub IsReplyEnd : {F : Type 0} → AnswerEnd F → Type 0
IsReplyEnd (Serve ReadFault) = ⊥
IsReplyEnd (Serve SendFault) = Unit {0}
IsReplyEnd (Serve DiskFault) = ⊥
IsReplyEnd (Serve (Damaged page)) = ⊥
IsReplyEnd (Serve InputTooLong) = ⊥
IsReplyEnd (Serve NoMemory) = ⊥
IsReplyEnd (Reply e) = Unit {0}

-- ---- what a crash leaves meanwhile

-- after so many bytes none of the bytes that are made for a frame is sent, or some, or all of them
abbrev pub ReplySent : {S F : Type 0} → Makes S F → S → Frame → ℕ → ℕ → Type 0
ReplySent {S} makes kept frame from count =
    (count ≡ from) ⊎ ((piece : List ℕ) × (new : S) × makes kept frame (Ok piece) new × (from ≤ count) × (count ≤ from + length piece))

-- while the bytes of a frame are sent a crash leaves what it might have left before
abbrev pub FrameMoments : {S F : Type 0} → Makes S F → S → Frame → View → View → Type 0
FrameMoments makes kept frame old new = Through old new (λ image count. Now old image × ReplySent makes kept frame (sent_now old) count)

-- after so many bytes none of the bytes that are made for the first of these frames is sent, or some, or all of them
abbrev pub RepliesSent : {S F : Type 0} → Makes S F → S → State → List (Option (List ℕ)) → List Frame → ℕ → ℕ → Type 0
RepliesSent {S} makes kept old lines frames from count =
    (count ≡ from) ⊎ ((first : FirstOf old lines frames) × (text : List ℕ) × (new : S) × AreMade makes kept new first.front first.shown text
    × (from ≤ count) × (count ≤ from + length text))

-- some first of the lines are done, the image stands for the book then, and at most the bytes of their frames are sent
pub record LinesNext {S F : Type 0} (makes : Makes S F) (kept : S) (lines : List (Option (List ℕ))) (old : State) (from : ℕ) (image : Image)
    (count : ℕ) : Type 0 where
  pub front : List (Option (List ℕ))
  pub rest : List (Option (List ℕ))
  pub lines_are : lines ≡ front ++ rest
  pub frames : List Frame
  pub after : State
  pub replied : RepliesToAll old front frames after
  pub stands : StandsForBook image old.total after.book
  pub sent : RepliesSent makes kept old front frames from count

-- while lines are answered the image stands for the book from before, or for the one after some of them
abbrev pub LinesMoments : {S F : Type 0} → Makes S F → S → List (Option (List ℕ)) → State → ℕ → Image → ℕ → Type 0
LinesMoments makes kept lines old from image count = (StandsForBook image old.total old.book × (count ≡ from))
    ⊎ LinesNext makes kept lines old from image count

-- ---- frames in a row

-- their bytes were made and sent
abbrev pub FramesSent : {S F : Type 0} → Makes S F → List Frame → S → S → Option (List ℕ) → Option (List ℕ) → Type 0
FramesSent makes frames old new before now = (text : List ℕ) × AreMade makes old new [] frames text × (now ≡ sent_after text before)

-- those of some first frames were, and those of the next one weren't made, or not sent whole
pub record FramesCut {S F : Type 0} (makes : Makes S F) (frames : List Frame) (old new : S) (before now : Option (List ℕ))
    (end : AnswerEnd F) : Type 0 where
  pub shown : List Frame
  pub frame : Frame
  pub later : List Frame
  pub frames_are : frames ≡ shown ++ frame ∷ later
  pub last : S
  pub sent : Option (List ℕ)
  pub done : FramesSent makes shown old last before sent
  pub stops : FrameStops makes frame last new sent now end

-- after so many bytes none of the bytes that are made for the first of the frames is sent, or some, or all of them
abbrev pub FirstSent : {S F : Type 0} → Makes S F → S → List Frame → ℕ → ℕ → Type 0
FirstSent {S} makes kept frames from count =
    (count ≡ from) ⊎ ((shown : List Frame) × (later : List Frame) × (text : List ℕ) × (new : S) × (frames ≡ shown ++ later)
    × AreMade makes kept new [] shown text × (from ≤ count) × (count ≤ from + length text))

-- while the bytes of frames are sent a crash leaves what it might have left before
abbrev pub FramesMoments : {S F : Type 0} → Makes S F → S → List Frame → View → View → Type 0
FramesMoments makes kept frames old new = Through old new (λ image count. Now old image × FirstSent makes kept frames (sent_now old) count)
