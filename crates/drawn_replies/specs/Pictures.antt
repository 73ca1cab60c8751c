-- The pictures of all replies to lines, and what a client draws of frames one after the other.
use Rattle.std.specs.Prelude.{ℕ, ◌≡◌, ◌==◌, Bool, true, false, List, [], ◌∷◌, ◌++◌, Option}
use Rattle.line_raster.specs.Canvas.{Canvas}
use Rattle.chart_client.specs.declared.holding.Holding.{Holding}
use Rattle.chart_client.specs.declared.errors.ClientError.{ClientError}
use Rattle.chart_client.specs.declared.errors.ClientError.TheVariants.{NoMemory}
use Rattle.chart_client.specs.Accepting.{Accepts, Rejects}
use Rattle.chart_frames.specs.declared.frame.Frame.{Frame}
use Rattle.chart_frames.specs.declared.frame.Frame.TheVariants.{Done, Refused, Opened, Closed, View, Rows, Live, Report}
use Rattle.chart_service.specs.State.{State}
use Rattle.chart_service.specs.Replies.{RepliesToLine}
use Rattle.drawn_replies.specs.Mirrors.{IsPictureOf}

-- a client takes the frames one after the other, and these are its drawings
abbrev pub AcceptsAll : List Holding → List Frame → List (Option Canvas) → List Holding → Type 0
AcceptsAll old [] [] new = new ≡ old
AcceptsAll old [] (drawing ∷ drawings) new = ⊥
AcceptsAll old (frame ∷ frames) [] new = ⊥
AcceptsAll old (frame ∷ frames) (drawing ∷ drawings) new =
    (between : List Holding) × Accepts frame drawing old between × AcceptsAll between frames drawings new

-- Each line is answered by its frame, and each drawing is the frame's picture of the book as it is at that
-- line.
abbrev pub ArePictured : State → List (Option (List ℕ)) → List Frame → List (Option Canvas) → State → Type 0
ArePictured old [] frames drawings new = (frames ≡ []) × (drawings ≡ []) × (new ≡ old)
ArePictured old (line ∷ lines) [] drawings new = ⊥
ArePictured old (line ∷ lines) (frame ∷ frames) [] new = ⊥
ArePictured old (line ∷ lines) (frame ∷ frames) (drawing ∷ drawings) new =
    (between : State) × RepliesToLine line frame old between × IsPictureOf old between frame drawing
    × ArePictured between lines frames drawings new

-- the frame is of the session n: it opens or closes it, or shows something in it
abbrev pub names : ℕ → Frame → Bool
names n (Done slots) = false
names n (Refused number a b) = false
names n (Opened number size) = number == n
names n (Closed number) = number == n
names n (View view) = view.session == n
names n (Rows rows) = rows.session == n
names n (Live number on) = number == n
names n (Report report) = false

-- a frame that is sent has one drawing, which is so, and a frame that isn't has none
abbrev pub IsDrawn : Bool → (Option Canvas → Type 0) → List (Option Canvas) → Type 0
IsDrawn true IsSo drawings = (drawing : Option Canvas) × (drawings ≡ drawing ∷ []) × IsSo drawing
IsDrawn false IsSo drawings = drawings ≡ []

-- a frame of the session has one drawing, its picture of the book, and no other frame has one
abbrev pub IsOwnPicture : Bool → State → State → Frame → List (Option Canvas) → Type 0
IsOwnPicture own old new frame drawings = IsDrawn own (IsPictureOf old new frame) drawings

-- The same as ArePictured of the frames of one session alone: each line is answered by its frame, and the
-- drawings are those frames' pictures of the book as it is at that line.
abbrev pub AreOwnPictured : ℕ → State → List (Option (List ℕ)) → List Frame → List (Option Canvas) → State → Type 0
AreOwnPictured n old [] frames drawings new = (frames ≡ []) × (drawings ≡ []) × (new ≡ old)
AreOwnPictured n old (line ∷ lines) [] drawings new = ⊥
AreOwnPictured n old (line ∷ lines) (frame ∷ frames) drawings new =
    (between : State) × RepliesToLine line frame old between
    × (own : List (Option Canvas)) × (later : List (Option Canvas)) × (drawings ≡ own ++ later)
    × IsOwnPicture (names n frame) old between frame own × AreOwnPictured n between lines frames later new

-- A client accepts the frames one after the other, unless memory runs out: none of them is rejected after those
-- before it.
abbrev pub NoneRejected : List Frame → Type 0
NoneRejected frames = (front behind : List Frame) (frame : Frame) (drawings : List (Option Canvas)) (holdings : List Holding)
    (e : ClientError)
    → frames ≡ front ++ frame ∷ behind → AcceptsAll [] front drawings holdings → Rejects frame e holdings → e ≡ NoMemory
