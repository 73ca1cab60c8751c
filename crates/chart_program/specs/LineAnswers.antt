-- How a command answers the lines of its input one by one, whatever the disk holds.
use Rattle.std.specs.Prelude.{◌≡◌, ℕ, List, [], flat_map, All, Option, IfSome, Result, OnOk, ⊤}
use Rattle.block_disk.specs.Streams.{sent_after}
use Rattle.chart_client.specs.declared.holding.Holding.{Holding}
use Rattle.chart_frames.specs.Frames.{Fits, spelling}
use Rattle.chart_frames.specs.declared.frame.Frame.{Frame}
use Rattle.chart_service.specs.Kinds.{MayAnswerAll}
use Rattle.chart_service.specs.Naming.{NameOpen, NameOpened}
use Rattle.chart_service.specs.Serving.{told}
use Rattle.drawn_replies.specs.Pictures.{AcceptsAll}
use Rattle.hosted_lines.specs.Answers.{SendsAnswers}
use Rattle.hosted_lines.specs.Blaming.{BlamesBy, BlamesOnDisk}
use Rattle.line_raster.specs.Canvas.{Canvas}
use Rattle.live_service.specs.Kinds.{MayAnswerBy}
use Rattle.live_service.specs.Pushing.{FollowedBy}
use Rattle.run_ends.specs.declared.ending.End.{End}
use Rattle.run_ends.specs.declared.ending.End.TheVariants.{Done}
use Rattle.served_fronts.specs.Texts.{texts_of}
use Rattle.zoom_session.specs.Sessions.{is_open}
use Rattle.zoom_session.specs.declared.session.Session.{Session}
use Rattle.chart_program.specs.Course.{Course, OfInput, count}
use Rattle.chart_program.specs.Runs.{AreShown, Gives}

-- which bytes a command sends of frames
abbrev pub IsSentOf : Type 1
IsSentOf = List Frame → List ℕ → Type 0

-- the spellings of the frames, one behind the other
abbrev pub AreSpellings : IsSentOf
AreSpellings frames bytes = bytes ≡ flat_map spelling frames

-- The texts of the frames, each with its picture, as a client draws it that held nothing at first and accepts each
-- of them in order.
pub record AreDrawnTexts (frames : List Frame) (bytes : List ℕ) : Type 0 where
  pub drawings : List (Option Canvas)
  pub held : List Holding
  pub accepted : AcceptsAll [] frames drawings held
  pub texts : bytes ≡ texts_of frames drawings

-- As many frames as the input has lines that aren't empty answered them in order, and what was sent is of these frames.
-- Each may answer its line, by its kind and in the session that the line names, and names sessions that those before it
-- opened.
pub record AnswersEach (IsSent : IsSentOf) (input : List ℕ) (before now : Option (List ℕ)) : Type 0 where
  pub frames : List Frame
  pub fits : All Fits frames
  pub answers : MayAnswerAll (told input) frames
  pub named : NameOpened frames
  pub bytes : List ℕ
  pub is_sent : IsSent frames bytes
  pub sent : now ≡ sent_after bytes before

-- the same, where the input is told and it was read to its end
abbrev pub AnswersTold : {T E : Type 0} → IsSentOf → Option (List ℕ) → Option (List ℕ) → Option (List ℕ) → Result T E
    → Type 0
AnswersTold IsSent left before now result = OnOk result (IfSome left (λ input. AnswersEach IsSent input before now))

-- and by how the command ended: where it was done, no line was passed over
abbrev pub NoneIsPassed : IsSentOf → Course → End → Type 0
NoneIsPassed IsSent c Done = OfInput c (λ input. AnswersEach IsSent input c.sent c.sent_now)
NoneIsPassed IsSent c end = ⊤

-- The same of frames that are sent with pushes, by which frames may answer a line, and which sessions are followed behind it:
-- one answers each line, and all others are pushes of views to sessions that are followed then.
abbrev pub NoneIsPassedBy : MayAnswerBy → FollowedBy → Course → End → Type 0
NoneIsPassedBy May after c Done = OfInput c (λ input. SendsAnswers May after input c.sent c.sent_now)
NoneIsPassedBy May after c end = ⊤

-- Where the end calls a page of an open store damaged, such frames were sent for some first lines. Then the next line blames the
-- page, or a push does to a session that is followed then, by the series that the sessions were shown last.
abbrev pub IsBlamedBy : MayAnswerBy → FollowedBy → BlamesBy → Course → End → Type 0
IsBlamedBy May after Blames c end = BlamesOnDisk May after Blames (count c) c.new c.left c.sent c.sent_now end

-- As many frames as there are lines were given to `show` one behind the other, and the texts of what they showed were
-- sent: each frame may answer its line, and names sessions that are open by those before it.
pub record ShowsEach {V : Type 0} (gives : Gives V) (old new : V) (sessions : List Session) (input : List ℕ)
    (before now : Option (List ℕ)) : Type 0 where
  pub frames : List Frame
  pub fits : All Fits frames
  pub answers : MayAnswerAll (told input) frames
  pub named : NameOpen (λ n. is_open n sessions) frames
  pub text : List ℕ
  pub shown : AreShown gives old new [] frames text
  pub sent : now ≡ sent_after text before
