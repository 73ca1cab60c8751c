-- The run of a live service over the lines of an input: what is answered and pushed, one after the other.
use Rattle.std.specs.Prelude.{ℕ, ◌≡◌, List, [], ◌∷◌, flat_map, Option}
use Rattle.chart_frames.specs.declared.frame.Frame.{Frame}
use Rattle.chart_frames.specs.Frames.{spelling}
use Rattle.live_service.specs.LiveReplies.{LiveState, LiveReplied, Pushed}

-- what a live service does: it answers a line, which is its text or nothing where that is too long, or it makes a push
pub data Event : Type 0 where
  answer : Option (List ℕ) → Event
  push : Event

-- The events happen one after the other, each by its frame. No line is answered while a push is pending.
abbrev pub Lives : LiveState → List Event → List Frame → LiveState → Type 0
Lives old [] [] new = new ≡ old
Lives old [] (frame ∷ frames) new = ⊥
Lives old (event ∷ later) [] new = ⊥
Lives old (answer line ∷ later) (frame ∷ frames) new =
    (between : LiveState) × (old.pending ≡ []) × LiveReplied line frame old between × Lives between later frames new
Lives old (push ∷ later) (frame ∷ frames) new = (between : LiveState) × Pushed frame old between × Lives between later frames new

-- the lines that are answered
abbrev pub lines_in : List Event → List (Option (List ℕ))
lines_in [] = []
lines_in (answer line ∷ later) = line ∷ lines_in later
lines_in (push ∷ later) = lines_in later

-- the spellings of frames, one behind the other
abbrev pub spelled : List Frame → List ℕ
spelled frames = flat_map spelling frames

-- these lines are answered by these frames, some first of the last one's pushes among them
pub record LivesBy (lines : List (Option (List ℕ))) (frames : List Frame) (old new : LiveState) : Type 0 where
  pub events : List Event
  pub lines_are : lines_in events ≡ lines
  pub lived : Lives old events frames new
