-- The frames that a run gives name sessions that are open by the frames before them.
use Rattle.std.specs.Prelude.{ℕ, ◌≡◌, ◌≢◌, ◌≤◌, Bool, List, [], ◌∷◌, ◌++◌, length, take, flat_map, All, Option, Result, Ok, Err, IfSome}
use Rattle.std.specs.Prelude.{OnOk, ⊤}
use Rattle.block_disk.specs.Streams.{sent_after}
use Rattle.chart_frames.specs.declared.frame.Frame.{Frame}
use Rattle.chart_frames.specs.declared.frame.Frame.TheVariants.{Done, Refused, Opened, Closed, View, Rows, Live, Report}
use Rattle.chart_frames.specs.Frames.{Fits, spelling}
use Rattle.chart_frames.specs.Opened.{opens}
use Rattle.zoom_session.specs.declared.session.Session.{Session}
use Rattle.zoom_session.specs.Sessions.{is_open}
use Rattle.chart_service.specs.Kinds.{MayAnswerAll}
use Rattle.chart_service.specs.Knowing.{NamesKnown}
use Rattle.chart_service.specs.Making.{Makes, AreMade, FrameStops}
use Rattle.chart_service.specs.Serving.{told}
use Rattle.chart_service.specs.declared.failure.AnswerEnd.{AnswerEnd}
use Rattle.chart_service.specs.declared.failure.AnswerEnd.TheVariants.{Serve, Reply}
use Rattle.chart_service.specs.declared.failure.ServeEnd.TheVariants.{ReadFault, SendFault, DiskFault, Damaged, InputTooLong, NoMemory}

-- whether the session n is open behind these frames, where it was or wasn't before the first of them
abbrev pub opens_all : List Frame → ℕ → Bool → Bool
opens_all [] n was = was
opens_all (frame ∷ frames) n was = opens_all frames n (opens frame n was)

-- each of the frames that closes a session or answers in it names one that is open by those before it, where these are
-- open before the first
abbrev pub NameOpen : (ℕ → Bool) → List Frame → Type 0
NameOpen was [] = ⊤
NameOpen was (frame ∷ frames) = NamesKnown frame was × NameOpen (λ n. opens frame n (was n)) frames

-- the session n was opened by one of these frames, and none behind that closed it
pub record IsOpened (n : ℕ) (frames : List Frame) : Type 0 where
  pub front : List Frame
  pub cache : ℕ
  pub behind : List Frame
  pub split : frames ≡ front ++ Opened n cache ∷ behind
  pub stays : All (λ frame. frame ≢ Closed n) behind

-- a frame that closes a session or answers in it names one that these opened
abbrev pub NamesOpened : Frame → List Frame → Type 0
NamesOpened (Done slots) before = ⊤
NamesOpened (Refused number a b) before = ⊤
NamesOpened (Opened session cache) before = ⊤
NamesOpened (Closed session) before = IsOpened session before
NamesOpened (View view) before = IsOpened view.session before
NamesOpened (Rows rows) before = IsOpened rows.session before
NamesOpened (Live session on) before = IsOpened session before
NamesOpened (Report report) before = ⊤

-- each of the frames names sessions that those before it opened
abbrev pub NameOpened : List Frame → Type 0
NameOpened frames = (front behind : List Frame) (frame : Frame) → frames ≡ front ++ frame ∷ behind → NamesOpened frame front

-- Such frames were given to these lines one after the other, each of which may answer its line and has fields that meet their
-- rules: their bytes were made and sent, and the sessions that are open now are so by the frames.
pub record Gives {S F : Type 0} (makes : Makes S F) (lines : List (Option (List ℕ))) (kept last : S) (was now_open : ℕ
    → Bool) (before now : Option (List ℕ)) : Type 0 where
  pub frames : List Frame
  pub fits : All Fits frames
  pub answers : MayAnswerAll lines frames
  pub named : NameOpen was frames
  pub open_now : (n : ℕ) → now_open n ≡ opens_all frames n (was n)
  pub text : List ℕ
  pub made : AreMade makes kept last [] frames text
  pub sent : now ≡ sent_after text before

-- how that stopped: bytes weren't made, or not sent whole, of a frame that names sessions which are open by those before it,
-- or nothing more was sent
abbrev pub StopsBehind : {S F : Type 0} → Makes S F → S → S → (ℕ → Bool) → Option (List ℕ) → Option (List ℕ) → AnswerEnd F → Type 0
StopsBehind makes last kept was sent now (Serve ReadFault) = (kept ≡ last) × (now ≡ sent)
StopsBehind makes last kept was sent now (Serve SendFault) = (frame : Frame) × Fits frame × NamesKnown frame was
    × FrameStops makes frame last kept sent now (Serve SendFault)
StopsBehind makes last kept was sent now (Serve DiskFault) = (kept ≡ last) × (now ≡ sent)
StopsBehind makes last kept was sent now (Serve (Damaged page)) = (kept ≡ last) × (now ≡ sent)
StopsBehind makes last kept was sent now (Serve InputTooLong) = (kept ≡ last) × (now ≡ sent)
StopsBehind makes last kept was sent now (Serve NoMemory) = (kept ≡ last) × (now ≡ sent)
StopsBehind makes last kept was sent now (Reply e) = (frame : Frame) × Fits frame × NamesKnown frame was
    × FrameStops makes frame last kept sent now (Reply e)

-- such frames were given to some lines, and it stopped behind them
pub record GivesFirst {S F : Type 0} (makes : Makes S F) (kept kept' : S) (was : ℕ
    → Bool) (before now : Option (List ℕ)) (end : AnswerEnd F) : Type 0 where
  pub lines : List (Option (List ℕ))
  pub last : S
  pub now_open : ℕ → Bool
  pub sent : Option (List ℕ)
  pub given : Gives makes lines kept last was now_open before sent
  pub stops : StopsBehind makes last kept' now_open sent now end

-- all were given, or some first
abbrev pub GivesBy : {T S F : Type 0} → Makes S F → List (Option (List ℕ)) → S → S → List Session → List Session → Option (List ℕ)
    → Option (List ℕ) → Result T (AnswerEnd F) → Type 0
GivesBy makes lines kept kept' sessions sessions' before now (Ok done) =
    Gives makes lines kept kept' (λ n. is_open n sessions) (λ n. is_open n sessions') before now
GivesBy makes lines kept kept' sessions sessions' before now (Err end) = GivesFirst makes kept kept'
    (λ n. is_open n sessions) before now end

-- the same of the lines of an input, where it is told: of all of them where all were given
pub record GivesTold {T S F : Type 0} (makes : Makes S F) (input : Option (List ℕ)) (kept kept' : S) (sessions sessions' : List Session)
    (before now : Option (List ℕ)) (result : Result T (AnswerEnd F)) : Type 0 where
  pub lines : List (Option (List ℕ))
  pub gives : GivesBy makes lines kept kept' sessions sessions' before now result
  pub are_told : OnOk result (IfSome input (λ bytes. lines ≡ told bytes))

-- What was sent is the spellings of frames whose fields meet their rules, or a first part of that: each of them that closes
-- a session or answers in it names one that is open by those before it.
pub record SendsNamed (sessions : List Session) (before now : Option (List ℕ)) : Type 0 where
  pub frames : List Frame
  pub fits : All Fits frames
  pub named : NameOpen (λ n. is_open n sessions) frames
  pub count : ℕ
  pub within : count ≤ length (flat_map spelling frames)
  pub sent : now ≡ sent_after (take count (flat_map spelling frames)) before

-- The spellings of frames were sent, as many as the input has lines that aren't empty: each may answer its line, whatever the
-- book is, and names sessions that are open by those before it.
pub record SendsAnswers (sessions : List Session) (input : List ℕ) (before now : Option (List ℕ)) : Type 0 where
  pub frames : List Frame
  pub fits : All Fits frames
  pub answers : MayAnswerAll (told input) frames
  pub named : NameOpen (λ n. is_open n sessions) frames
  pub sent : now ≡ sent_after (flat_map spelling frames) before
