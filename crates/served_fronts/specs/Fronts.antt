-- What `draw` makes of a front of the frames that answer lines.
use Rattle.std.specs.Prelude.{◌≡◌, ℕ, ◌-◌, ◌⊎◌, nat_le, if◌then◌else◌, List, [], ◌∷◌, ◌++◌, length, flat_map, Option, None, Some, ⊤}
use Rattle.std.specs.List.{filter}
use Rattle.block_disk.specs.Streams.{sent_after}
use Rattle.chart_frames.specs.declared.frame.Frame.{Frame}
use Rattle.chart_frames.specs.Frames.{spelling}
use Rattle.chart_service.specs.State.{State}
use Rattle.line_raster.specs.Canvas.{Canvas}
use Rattle.drawn_replies.specs.Pictures.{ArePictured, AreOwnPictured, names}
use Rattle.draw_command.specs.Covers.{picture_bytes}
use Rattle.draw_command.specs.Draws.{DrawsAll, EndsDraw}
use Rattle.draw_command.specs.declared.draw_end.DrawEnd.{DrawEnd}
use Rattle.draw_command.specs.declared.draw_end.DrawEnd.TheVariants.{NoMemory, ReadFault, SendFault}
use Rattle.served_fronts.specs.Books.{Line}

-- the frames that stand whole in the first so many bytes of their spellings
abbrev pub whole_frames : ℕ → List Frame → List Frame
whole_frames n [] = []
whole_frames n (frame ∷ later) =
    if nat_le (length (spelling frame)) n then frame ∷ whole_frames (n - length (spelling frame)) later else []

-- the pictures of these frames were sent, which answer some first lines, each of the book as it is at its line
pub record SendsFirstPictures (old : State) (lines : List Line) (frames : List Frame) (before now : Option (List ℕ)) : Type 0 where
  pub front : List Line
  pub behind : List Line
  pub split : lines ≡ front ++ behind
  pub state : State
  pub drawings : List (Option Canvas)
  pub pictured : ArePictured old front frames drawings state
  pub sent : now ≡ sent_after (flat_map picture_bytes drawings) before

-- the same of these frames of one session, among those that answer some first lines
pub record SendsFirstOwn (m : ℕ) (old : State) (lines : List Line) (own : List Frame) (before now : Option (List ℕ)) : Type 0 where
  pub front : List Line
  pub behind : List Line
  pub split : lines ≡ front ++ behind
  pub frames : List Frame
  pub own_is : filter (names m) frames ≡ own
  pub state : State
  pub drawings : List (Option Canvas)
  pub pictured : AreOwnPictured m old front frames drawings state
  pub sent : now ≡ sent_after (flat_map picture_bytes drawings) before

-- a drawing that ended so had memory, and no stream failed
abbrev pub IsOfInput : DrawEnd → Type 0
IsOfInput NoMemory = ⊥
IsOfInput ReadFault = ⊥
IsOfInput SendFault = ⊥
IsOfInput end = ⊤

-- the input was given to `draw`, or to `cover` for covers after so many coefficients, which sent what it could, whether that was all
abbrev pub DrawsBy : Option ℕ → List ℕ → Option (List ℕ) → Option (List ℕ) → Option (List ℕ) → Type 0
DrawsBy every input left before now =
    DrawsAll every input before now ⊎ ((end : DrawEnd) × IsOfInput end × EndsDraw every input left before now end)

-- to `draw`
abbrev pub Draws : List ℕ → Option (List ℕ) → Option (List ℕ) → Option (List ℕ) → Type 0
Draws input left before now = DrawsBy None input left before now

-- to `cover`
abbrev pub Covers : ℕ → List ℕ → Option (List ℕ) → Option (List ℕ) → Option (List ℕ) → Type 0
Covers every input left before now = DrawsBy (Some every) input left before now
