-- What a screen shows for the bytes of a frame.
use Rattle.std.specs.Prelude.{ℕ, ◌≡◌, ⊤, List, Result, Ok, Err}
use Rattle.chart_frames.specs.declared.frame.Frame.{Frame}
use Rattle.chart_frames.specs.Frames.{Fits, spelling}
use Rattle.chart_client.specs.declared.holding.Holding.{Holding}
use Rattle.chart_client.specs.declared.errors.ClientError.{ClientError}
use Rattle.chart_client.specs.declared.errors.ClientError.TheVariants.{Missing, BadCoefficient, UnknownSession, NoMemory}
use Rattle.chart_client.specs.declared.show.Shown.{Shown}
use Rattle.chart_client.specs.Accepting.{Accepts, Rejects}

-- the bytes spell the frame, whose fields meet their rules
pub record Spells (bytes : List ℕ) (frame : Frame) : Type 0 where
  pub fits : Fits frame
  pub is : bytes ≡ spelling frame

-- they spell some frame
abbrev pub IsSpelling : List ℕ → Type 0
IsSpelling bytes = (frame : Frame) × Spells bytes frame

-- they spell a frame that a client with these holdings doesn't accept for this cause
pub record RejectsBytes (bytes : List ℕ) (cause : ClientError) (old : List Holding) : Type 0 where
  pub frame : Frame
  pub spelled : Spells bytes frame
  pub rejects : Rejects frame cause old

-- What a screen answers is the frame that the bytes spell and what a client gives for it. An error
-- changes nothing; after want of memory nothing is said of what the screen holds.
abbrev pub ScreenGives : List Holding → List ℕ → Result Shown ClientError → List Holding → Type 0
ScreenGives old bytes (Ok shown) new = Spells bytes shown.frame × Accepts shown.frame shown.bitmap old new
ScreenGives old bytes (Err (Missing key)) new = RejectsBytes bytes (Missing key) old × (new ≡ old)
ScreenGives old bytes (Err (BadCoefficient key)) new = RejectsBytes bytes (BadCoefficient key) old × (new ≡ old)
ScreenGives old bytes (Err (UnknownSession number)) new = RejectsBytes bytes (UnknownSession number) old × (new ≡ old)
ScreenGives old bytes (Err NoMemory) new = ⊤
