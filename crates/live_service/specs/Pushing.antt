-- Which frames a live service may push, and to whom, by the lines before them, whatever the pages are.
use Rattle.std.specs.Prelude.{ℕ, ◌≡◌, ◌⊎◌, List, [], ◌∷◌, Option, None, Some}
use Rattle.chart_frames.specs.declared.frame.Frame.{Frame}
use Rattle.live_view.specs.Following.{ShowsOneOf}
use Rattle.live_view.specs.Lines.{live_line}
use Rattle.live_view.specs.Meaning.{meaning_of}
use Rattle.live_view.specs.Replies.{ended, followed_by, still_followed}
use Rattle.live_view.specs.declared.live_lines.LiveLine.{LiveLine}
use Rattle.live_view.specs.declared.live_lines.LiveLine.TheVariants.{Follow, Unfollow, Bad, Other}
use Rattle.live_service.specs.Kinds.{MayAnswerBy}

-- The followed sessions behind a line that a frame answers, by what the line asks of live views: a following begins and ends as
-- the frame says, and an answered opening, closing or view ends that of its session.
abbrev pub followed_asked : LiveLine → List ℕ → Frame → List ℕ → List ℕ
followed_asked (Follow n) text frame followed = followed_by frame followed
followed_asked (Unfollow n) text frame followed = followed_by frame followed
followed_asked (Bad at) text frame followed = followed
followed_asked Other text frame followed = still_followed (ended (meaning_of text) frame) followed

-- and behind a line: its text, or nothing where it is too long
abbrev pub followed_after : Option (List ℕ) → Frame → List ℕ → List ℕ
followed_after None frame followed = followed
followed_after (Some text) frame followed = followed_asked (live_line text) text frame followed

-- how a line that a frame answers changes which sessions are followed
abbrev pub FollowedBy : Type 0
FollowedBy = Option (List ℕ) → Frame → List ℕ → List ℕ

-- Of the frames one answers each of the lines, in their order, and all others are pushes: each shows a view of a session that
-- is followed by the lines before it. At first, and behind all of them, these sessions are followed.
abbrev pub AnswerFollowed : MayAnswerBy → FollowedBy → List (Option (List ℕ)) → List ℕ → List Frame → List ℕ → Type 0
AnswerFollowed May after [] old [] new = new ≡ old
AnswerFollowed May after (line ∷ lines) old [] new = ⊥
AnswerFollowed May after [] old (frame ∷ frames) new = ShowsOneOf old frame × AnswerFollowed May after [] old frames new
AnswerFollowed May after (line ∷ lines) old (frame ∷ frames) new =
    (May line frame × AnswerFollowed May after lines (after line frame old) frames new)
    ⊎ (ShowsOneOf old frame × AnswerFollowed May after (line ∷ lines) old frames new)
