-- The laws of sessions and of their replies.
use Rattle.std.specs.Prelude.{◌≡◌, ℕ, List, Option}
use Rattle.chart_frames.specs.declared.frame.Frame.{Frame}
use Rattle.chart_service.specs.State.{State}
use Rattle.chart_service.specs.Alone.{alone, own_lines, own_frames, NeverCrowded}
use Rattle.chart_service.specs.Serving.{RepliesToAll}

-- A service without the other sessions answers a session's lines by the same frames.
abbrev pub SessionsStandAlone : Type 0
SessionsStandAlone =
    (n : ℕ) (lines : List (Option (List ℕ))) (frames : List Frame) (old new : State)
    → RepliesToAll old lines frames new → NeverCrowded (own_frames n lines frames)
    → RepliesToAll (alone n old) (own_lines n lines) (own_frames n lines frames) (alone n new)

-- Where a session's lines are the same, so are its frames.
abbrev pub OwnFramesAreTheSame : Type 0
OwnFramesAreTheSame =
    (n : ℕ) (lines others : List (Option (List ℕ))) (frames answers : List Frame) (old new behind : State)
    → RepliesToAll old lines frames new → RepliesToAll old others answers behind → NeverCrowded (own_frames n lines frames)
    → NeverCrowded (own_frames n others answers) → own_lines n lines ≡ own_lines n others
    → own_frames n lines frames ≡ own_frames n others answers

-- The frames of an input's lines, and the state behind them, are determined by the state before them.
abbrev pub FramesAreOne : Type 0
FramesAreOne =
    (lines : List (Option (List ℕ))) (frames others : List Frame) (old new behind : State)
    → RepliesToAll old lines frames new → RepliesToAll old lines others behind → (frames ≡ others) × (new ≡ behind)
