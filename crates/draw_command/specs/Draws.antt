-- What is sent for the frames of an input: the picture of each View and Rows frame, and before it the covers of a view where
-- covers are asked for after every so many coefficients.
use Rattle.std.specs.Prelude.{◌≡◌, ℕ, ◌-◌, ◌+◌, ◌^◌, ◌<◌, ◌≤◌, ◌⊎◌, List, [], ◌∷◌, ◌++◌, length, take, All, flat_map, Option, Some, IfSome}
use Rattle.std.specs.Prelude.{⊤}
use Rattle.line_raster.specs.Canvas.{Canvas}
use Rattle.pbm_writer.specs.Picture.{picture}
use Rattle.block_disk.specs.Streams.{sent_after, PartSent}
use Rattle.chart_frames.specs.declared.frame.Frame.{Frame}
use Rattle.chart_frames.specs.declared.errors.FrameFault.{FrameFault}
use Rattle.chart_frames.specs.declared.errors.FrameFault.TheVariants as fault
use Rattle.chart_frames.specs.Format.{Breaks}
use Rattle.chart_frames.specs.Fields.{frame_fields}
use Rattle.chart_frames.specs.Frames.{Fits, spelling}
use Rattle.chart_frames.specs.Pending.{Pending, held}
use Rattle.chart_frames.specs.Stream.{IsPartial}
use Rattle.chart_client.specs.declared.holding.Holding.{Holding}
use Rattle.chart_client.specs.declared.errors.ClientError.{ClientError}
use Rattle.chart_client.specs.declared.errors.ClientError.TheVariants as client
use Rattle.chart_client.specs.Accepting.{Accepts, Rejects}
use Rattle.draw_command.specs.declared.draw_end.DrawEnd.{DrawEnd}
use Rattle.draw_command.specs.declared.draw_end.DrawEnd.TheVariants.{NoMemory, ReadFault, SendFault, InputTooLong, BadFrame, Missing}
use Rattle.draw_command.specs.declared.draw_end.DrawEnd.TheVariants.{BadCoefficient, UnknownSession}
use Rattle.draw_command.specs.Covers.{AreFirstCoversOf, AreCoversOf, SendsFrame, SendsFrames}

-- what an error of the client is for the drawing
abbrev pub client_end : ClientError → DrawEnd
client_end (client.Missing key) = Missing key
client_end (client.BadCoefficient key) = BadCoefficient key
client_end (client.UnknownSession number) = UnknownSession number
client_end client.NoMemory = NoMemory

-- what a fault of the frames is for the drawing
abbrev pub frame_end : FrameFault → DrawEnd
frame_end (fault.BadFrame at) = BadFrame at
frame_end fault.NoMemory = NoMemory

-- Frames were taken from the front of what stands before them, each was accepted by the client in order, and
-- their covers and pictures were sent.
pub record DrawsMore (every : Option ℕ) (old new : Pending) (holdings holdings' : List Holding)
    (before now : Option (List ℕ)) : Type 0 where
  pub frames : List Frame
  pub fit : All Fits frames
  pub split : old.rest ≡ flat_map spelling frames ++ new.rest
  pub given : new.given ≡ old.given + length (flat_map spelling frames)
  pub drawings : List (Option Canvas)
  pub bytes : List ℕ
  pub sends : SendsFrames every frames drawings holdings holdings' bytes
  pub sent : now ≡ sent_after bytes before

-- the first frames of the input were drawn, and this stands behind them
abbrev pub DrawsFirst : Option ℕ → List ℕ → Pending → List Holding → Option (List ℕ) → Option (List ℕ) → Type 0
DrawsFirst every input rest holdings before now = DrawsMore every (held 0 input) rest [] holdings before now

-- a frame is accepted, and its covers and its picture were sent
abbrev pub DrawsFrame : Option ℕ → Frame → List Holding → List Holding → Option (List ℕ) → Option (List ℕ) → Type 0
DrawsFrame every frame old new before now =
    (drawing : Option Canvas) × (bytes : List ℕ) × SendsFrame every frame drawing old new bytes × (now ≡ sent_after bytes before)

-- some first covers of a frame were sent
pub record CoversFirst (every : Option ℕ) (frame : Frame) (old : List Holding) (before now : Option (List ℕ)) : Type 0 where
  pub covers : List Canvas
  pub first : AreFirstCoversOf every frame old covers
  pub sent : now ≡ sent_after (flat_map picture covers) before

-- all covers of a frame were sent
pub record CoversFrame (every : Option ℕ) (frame : Frame) (old : List Holding) (before now : Option (List ℕ)) : Type 0 where
  pub covers : List Canvas
  pub all : AreCoversOf every frame old covers
  pub sent : now ≡ sent_after (flat_map picture covers) before

-- some first covers of a frame were sent, and the first bytes of the next one
pub record CoversPart (every : Option ℕ) (frame : Frame) (old : List Holding) (before now : Option (List ℕ)) : Type 0 where
  pub covers : List Canvas
  pub next : Canvas
  pub first : AreFirstCoversOf every frame old (covers ++ next ∷ [])
  pub part : PartSent (picture next) (sent_after (flat_map picture covers) before) now

-- all covers of a frame that is accepted were sent, and the first bytes of its picture
pub record DrawsPart (every : Option ℕ) (frame : Frame) (old : List Holding) (before now : Option (List ℕ)) : Type 0 where
  pub between : Option (List ℕ)
  pub covered : CoversFrame every frame old before between
  pub drawing : Canvas
  pub new : List Holding
  pub accepted : Accepts frame (Some drawing) old new
  pub part : PartSent (picture drawing) between now

-- the client doesn't accept a frame, and only its covers were sent
abbrev pub IsRejected : Option ℕ → Frame → List Holding → Option (List ℕ) → Option (List ℕ) → ClientError → Type 0
IsRejected every frame old before now e = Rejects frame e old × CoversFrame every frame old before now

-- a frame names a session that isn't open, and nothing is sent for it
abbrev pub IsUnopened : Frame → List Holding → Option (List ℕ) → Option (List ℕ) → ℕ → Type 0
IsUnopened frame old before now number = Rejects frame (client.UnknownSession number) old × (now ≡ before)

-- why a drawing wasn't sent
abbrev pub PictureStops : Canvas → Option (List ℕ) → Option (List ℕ) → DrawEnd → Type 0
PictureStops drawing before now NoMemory = now ≡ before
PictureStops drawing before now SendFault = PartSent (picture drawing) before now
PictureStops drawing before now end = ⊥

-- why the covers of a frame weren't all sent
abbrev pub CoversStop : Option ℕ → Frame → List Holding → Option (List ℕ) → Option (List ℕ) → DrawEnd → Type 0
CoversStop every frame old before now NoMemory = CoversFirst every frame old before now
CoversStop every frame old before now SendFault = CoversPart every frame old before now
CoversStop every frame old before now (UnknownSession number) = IsUnopened frame old before now number
CoversStop every frame old before now end = ⊥

-- why a frame wasn't drawn
abbrev pub FrameStops : Option ℕ → Frame → List Holding → Option (List ℕ) → Option (List ℕ) → DrawEnd → Type 0
FrameStops every frame old before now NoMemory = CoversFirst every frame old before now
FrameStops every frame old before now ReadFault = ⊥
FrameStops every frame old before now SendFault = CoversPart every frame old before now ⊎ DrawsPart every frame old before now
FrameStops every frame old before now InputTooLong = ⊥
FrameStops every frame old before now (BadFrame at) = ⊥
FrameStops every frame old before now (Missing key) = IsRejected every frame old before now (client.Missing key)
FrameStops every frame old before now (BadCoefficient key) = IsRejected every frame old before now (client.BadCoefficient key)
FrameStops every frame old before now (UnknownSession number) = IsUnopened frame old before now number

-- why the frames at the front of what is held weren't all drawn, after these first ones: a frame wasn't, or a
-- complete field breaks its rule
pub record NextStops (every : Option ℕ) (rest : Pending) (old : List Holding) (before now : Option (List ℕ)) (end : DrawEnd) : Type 0 where
  pub frame : Frame
  pub fits : Fits frame
  pub behind : List ℕ
  pub next : rest.rest ≡ spelling frame ++ behind
  pub stops : FrameStops every frame old before now end

abbrev pub HoldingStops : Option ℕ → Pending → List Holding → Option (List ℕ) → Option (List ℕ) → DrawEnd → Type 0
HoldingStops every rest old before now NoMemory = (now ≡ before) ⊎ NextStops every rest old before now NoMemory
HoldingStops every rest old before now (BadFrame at) =
    (now ≡ before) × ((within : ℕ) × (at ≡ rest.given + within) × Breaks frame_fields rest.rest within)
HoldingStops every rest old before now end = NextStops every rest old before now end

pub record FramesStop (every : Option ℕ) (old : Pending) (holdings : List Holding) (before now : Option (List ℕ))
    (end : DrawEnd) : Type 0 where
  pub rest : Pending
  pub client : List Holding
  pub sent_first : Option (List ℕ)
  pub first : DrawsMore every old rest holdings client before sent_first
  pub stops : HoldingStops every rest client sent_first now end

-- a piece more stands behind what is held
abbrev pub fed : List ℕ → Pending → Pending
fed piece old = held old.given (old.rest ++ piece)

-- the frames that end within a piece were drawn
abbrev pub PieceDone : Option ℕ → List ℕ → Pending → Pending → List Holding → List Holding → Option (List ℕ) → Option (List ℕ) → Type 0
PieceDone every piece old new holdings holdings' before now = DrawsMore every (fed piece old) new holdings holdings' before now
    × IsPartial new

-- why they weren't all drawn
abbrev pub PieceStops : Option ℕ → List ℕ → Pending → List Holding → Option (List ℕ) → Option (List ℕ) → DrawEnd → Type 0
PieceStops every piece old holdings before now end = FramesStop every (fed piece old) holdings before now end

-- the bytes are all of the input's frames, each was accepted, and their covers and pictures were sent
abbrev pub DrawsAll : Option ℕ → List ℕ → Option (List ℕ) → Option (List ℕ) → Type 0
DrawsAll every input before now = (given : ℕ) × (holdings : List Holding) × DrawsFirst every input (held given []) holdings before now

-- no frame stands whole at the front of these bytes, and no complete field breaks its rule
abbrev pub IsFront : List ℕ → Type 0
IsFront bytes = IsPartial (held 0 bytes)

-- a take failed, where these bytes were left: the frames that ended before were drawn
pub record DrawsTaken (every : Option ℕ) (input left : List ℕ) (before now : Option (List ℕ)) : Type 0 where
  pub rest : Pending
  pub holdings : List Holding
  pub first : DrawsFirst every input rest holdings before now
  pub partial : List ℕ
  pub taken : rest.rest ≡ partial ++ left
  pub unended : IsFront partial

-- the frames that end among the first 2^32 bytes were drawn, and there is a byte more
pub record DrawsWithin (every : Option ℕ) (input : List ℕ) (before now : Option (List ℕ)) : Type 0 where
  pub rest : Pending
  pub holdings : List Holding
  pub first : DrawsFirst every input rest holdings before now
  pub unended : IsFront (take (2 ^ 32 - rest.given) rest.rest)
  pub past : 2 ^ 32 < length input

-- the input ends within a frame
pub record IsCut (every : Option ℕ) (input : List ℕ) (at : ℕ) (before now : Option (List ℕ)) : Type 0 where
  pub rest : Pending
  pub holdings : List Holding
  pub first : DrawsFirst every input rest holdings before now
  pub some : 0 < length rest.rest
  pub unended : IsFront rest.rest
  pub end : at ≡ length input
  pub few : at ≤ 2 ^ 32

-- the next frame among the first 2^32 bytes of the input wasn't drawn, or a field of it breaks its rule
abbrev pub StopsAtFrame : Option ℕ → List ℕ → Option (List ℕ) → Option (List ℕ) → DrawEnd → Type 0
StopsAtFrame every input before now end = FramesStop every (held 0 (take (2 ^ 32) input)) [] before now end

-- why not all frames of the input were drawn, and what was sent
abbrev pub EndsDraw : Option ℕ → List ℕ → Option (List ℕ) → Option (List ℕ) → Option (List ℕ) → DrawEnd → Type 0
EndsDraw every input left before now ReadFault = IfSome left (λ bytes. DrawsTaken every input bytes before now)
EndsDraw every input left before now InputTooLong = DrawsWithin every input before now
EndsDraw every input left before now (BadFrame at) = IsCut every input at before now ⊎ StopsAtFrame every input before now (BadFrame at)
EndsDraw every input left before now end = StopsAtFrame every input before now end

-- a key that the end names has a number
abbrev pub IsNumbered : DrawEnd → Type 0
IsNumbered (Missing key) = key.index < 2 ^ 40
IsNumbered (BadCoefficient key) = key.index < 2 ^ 40
IsNumbered end = ⊤
