-- How many blocks the lines of an input read, and the pushes behind them.
use Rattle.std.specs.Prelude.{ℕ, ◌≡◌, ◌⊎◌, List, [], ◌∷◌, Option}
use Rattle.chart_frames.specs.declared.frame.Frame.{Frame}
use Rattle.chart_service.specs.ReadingBlocks.{ReadsLine}
use Rattle.chart_service.specs.Serving.{told}
use Rattle.chart_world.specs.Fronts.{BeginsWith}
use Rattle.chart_world.specs.Lines.{lines}
use Rattle.live_service.specs.LiveReplies.{LiveState, LiveReplied, Pushed, ReadsPush}
use Rattle.hosted_lines.specs.Lives.{Event, answer, push, lines_in}

-- The events happen one after the other, each by its frame, and the count of blocks read rises from one number to another at
-- the events alone: at a line by no more than its request may read, and at a push by no more than the view of its session may.
abbrev pub ReadsInTurn : LiveState → List Event → List Frame → LiveState → ℕ → ℕ → Type 0
ReadsInTurn old [] [] new from to = (new ≡ old) × (to ≡ from)
ReadsInTurn old [] (frame ∷ frames) new from to = ⊥
ReadsInTurn old (event ∷ later) [] new from to = ⊥
ReadsInTurn old (answer line ∷ later) (frame ∷ frames) new from to =
    (between : LiveState) × (count : ℕ) × (old.pending ≡ []) × LiveReplied line frame old between × ReadsLine line old.state from count
    × ReadsInTurn between later frames new count to
ReadsInTurn old (push ∷ later) (frame ∷ frames) new from to =
    (between : LiveState) × (count : ℕ) × Pushed frame old between × ReadsPush old.pending old.state from count
    × ReadsInTurn between later frames new count to

-- these lines are answered so by these frames, some first of the last one's pushes among them
pub record ReadsBy (lines : List (Option (List ℕ))) (frames : List Frame) (old new : LiveState) (from to : ℕ) : Type 0 where
  pub events : List Event
  pub lines_are : lines_in events ≡ lines
  pub reads : ReadsInTurn old events frames new from to

-- The same of some first lines of the input and of their pushes, and of the line or the push behind them, which may have
-- failed.
pub record ReadsLines (input : List ℕ) (old : LiveState) (from to : ℕ) : Type 0 where
  pub front : List ℕ
  pub rest : List ℕ
  pub begins : BeginsWith input front rest
  pub frames : List Frame
  pub state : LiveState
  pub count : ℕ
  pub answered : ReadsBy (told front) frames old state from count
  pub last : (to ≡ count)
      ⊎ (((line : Option (List ℕ)) × (later : List (Option (List ℕ))) × (lines rest ≡ line ∷ later) × ReadsLine line state.state count to)
      ⊎ ReadsPush state.pending state.state count to)
