-- What a client draws of the frames of a run that it is sent.
use Rattle.std.specs.Prelude.{ℕ, ◌≡◌, Bool, List, [], ◌∷◌, ◌++◌, Option}
use Rattle.line_raster.specs.Canvas.{Canvas}
use Rattle.chart_frames.specs.declared.frame.Frame.{Frame}
use Rattle.drawn_replies.specs.Mirrors.{IsPictureOf}
use Rattle.drawn_replies.specs.Pictures.{IsDrawn, names}
use Rattle.drawn_replies.specs.Sent.{each}
use Rattle.hosted_lines.specs.Lives.{Event, answer, push, lines_in}
use Rattle.live_service.specs.LiveReplies.{LiveState, LiveReplied, Pushed}
use Rattle.live_service.specs.Showing.{ShowsPush}

-- The events happen one after the other, each by its frame, and each drawing is the picture that a frame which is sent has of
-- the book as it is then.
abbrev pub ArePictured : (Frame → Bool) → LiveState → List Event → List Frame → List (Option Canvas) → LiveState → Type 0
ArePictured is_sent old [] frames drawings new = (frames ≡ []) × (drawings ≡ []) × (new ≡ old)
ArePictured is_sent old (event ∷ later) [] drawings new = ⊥
ArePictured is_sent old (answer line ∷ later) (frame ∷ frames) drawings new =
    (between : LiveState) × LiveReplied line frame old between
    × (drawn : List (Option Canvas)) × (rest : List (Option Canvas)) × (drawings ≡ drawn ++ rest)
    × IsDrawn (is_sent frame) (IsPictureOf old.state between.state frame) drawn × ArePictured is_sent between later frames rest new
ArePictured is_sent old (push ∷ later) (frame ∷ frames) drawings new =
    (between : LiveState) × Pushed frame old between
    × (drawn : List (Option Canvas)) × (rest : List (Option Canvas)) × (drawings ≡ drawn ++ rest)
    × IsDrawn (is_sent frame) (λ drawing. ShowsPush frame drawing old between) drawn × ArePictured is_sent between later frames rest new

-- these lines are answered and pictured so, and so are the pushes behind them
pub record PicturesSome (is_sent : Frame → Bool) (lines : List (Option (List ℕ))) (frames : List Frame) (drawings : List (Option Canvas))
    (old new : LiveState) : Type 0 where
  pub events : List Event
  pub lines_are : lines_in events ≡ lines
  pub pictured : ArePictured is_sent old events frames drawings new

-- all frames are sent
abbrev pub PicturesLines : List (Option (List ℕ)) → List Frame → List (Option Canvas) → LiveState → LiveState → Type 0
PicturesLines lines frames drawings old new = PicturesSome each lines frames drawings old new

-- those of one session alone are sent
abbrev pub PicturesOwn : ℕ → List (Option (List ℕ)) → List Frame → List (Option Canvas) → LiveState → LiveState → Type 0
PicturesOwn n lines frames drawings old new = PicturesSome (names n) lines frames drawings old new
