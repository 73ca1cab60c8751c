-- Which frames may answer a line of a live service, and which it may push, whatever the pages are.
use Rattle.std.specs.Prelude.{ℕ, ◌≡◌, ◌⊎◌, Bool, true, false, List, [], ◌∷◌, Option, None, Some, ⊤}
use Rattle.chart_frames.specs.declared.frame.Frame.{Frame}
use Rattle.chart_frames.specs.declared.frame.Frame.TheVariants.{Refused, View, Rows, Live}
use Rattle.chart_service.specs.Kinds.{MayAnswerLine}
use Rattle.chart_service.specs.Replies.{refused}
use Rattle.live_view.specs.Lines.{live_line}
use Rattle.live_view.specs.declared.live_lines.LiveLine.{LiveLine}
use Rattle.live_view.specs.declared.live_lines.LiveLine.TheVariants.{Follow, Unfollow, Bad, Other}
use Rattle.series_book.specs.declared.refusals.Refusal.TheVariants.{BadLine}

-- the frame refuses, or tells that the session is followed, or that it isn't any more
abbrev pub MayFollow : ℕ → Bool → Frame → Type 0
MayFollow session on (Refused number a b) = ⊤
MayFollow session on (Live number now) = (number ≡ session) × (now ≡ on)
MayFollow session on frame = ⊥

-- it may answer a line, whatever the book is, by what the line asks of live views
abbrev pub MayAnswerAsked : LiveLine → List ℕ → Frame → Type 0
MayAnswerAsked (Follow n) text frame = MayFollow n true frame
MayAnswerAsked (Unfollow n) text frame = MayFollow n false frame
MayAnswerAsked (Bad at) text frame = frame ≡ refused (BadLine at)
MayAnswerAsked Other text frame = MayAnswerLine (Some text) frame

-- it may answer a line: its text, or nothing where it is too long
abbrev pub MayAnswerLive : Option (List ℕ) → Frame → Type 0
MayAnswerLive None frame = MayAnswerLine None frame
MayAnswerLive (Some text) frame = MayAnswerAsked (live_line text) text frame

-- it may be pushed: it tells a view, or refuses one
abbrev pub MayPush : Frame → Type 0
MayPush (Refused number a b) = ⊤
MayPush (View view) = ⊤
MayPush (Rows rows) = ⊤
MayPush frame = ⊥

-- which frames may answer a line
abbrev pub MayAnswerBy : Type 1
MayAnswerBy = Option (List ℕ) → Frame → Type 0

-- Of the frames one answers each of the lines, in their order, and all others are pushes.
abbrev pub AnswerWithPushes : MayAnswerBy → List (Option (List ℕ)) → List Frame → Type 0
AnswerWithPushes May [] [] = ⊤
AnswerWithPushes May (line ∷ lines) [] = ⊥
AnswerWithPushes May [] (frame ∷ frames) = MayPush frame × AnswerWithPushes May [] frames
AnswerWithPushes May (line ∷ lines) (frame ∷ frames) =
    (May line frame × AnswerWithPushes May lines frames) ⊎ (MayPush frame × AnswerWithPushes May (line ∷ lines) frames)
