-- A stream of frames that comes in pieces.
use Rattle.std.specs.Prelude.{ℕ, ◌≡◌, ◌+◌, ◌<◌, ◌⊎◌, ◌++◌, length, Option, None, Some, Result, Ok, Err}
use Rattle.chart_frames.specs.declared.errors.FrameFault.{FrameFault}
use Rattle.chart_frames.specs.declared.errors.FrameFault.TheVariants as faults
use Rattle.chart_frames.specs.declared.frame.Frame.{Frame}
use Rattle.chart_frames.specs.Format.{number_in, Breaks}
use Rattle.chart_frames.specs.Fields.{frame_fields}
use Rattle.chart_frames.specs.Frames.{Fits, spelling}
use Rattle.chart_frames.specs.Pending.{Pending}

-- the frame stands at the front of what is held, and new is what is left behind it
pub record Takes (old new : Pending) (f : Frame) : Type 0 where
  pub fits : Fits f
  pub front : old.rest ≡ spelling f ++ new.rest
  pub given : new.given ≡ old.given + length (spelling f)

-- the field whose first byte stands at this offset of the stream is complete and breaks its rule
abbrev pub IsBadAt : Pending → ℕ → Type 0
IsBadAt held at = (within : ℕ) × (at ≡ held.given + within) × Breaks frame_fields held.rest within

-- fewer bytes than a frame has, by its length; and no complete field breaks its rule
pub record IsPartial (held : Pending) : Type 0 where
  pub few : (length held.rest < 4) ⊎ (length held.rest < 4 + number_in 4 held.rest)
  pub good : (at : ℕ) → Breaks frame_fields held.rest at → ⊥

-- what may be answered, and what is held then
abbrev pub Answers : Pending → Result (Option Frame) FrameFault → Pending → Type 0
Answers old (Ok (Some f)) new = Takes old new f
Answers old (Ok None) new = IsPartial old × (new ≡ old)
Answers old (Err (faults.BadFrame at)) new = IsBadAt old at × (new ≡ old)
Answers old (Err faults.NoMemory) new = new ≡ old

-- this is the answer, unless memory ran out
abbrev pub IsOnly : Result (Option Frame) FrameFault → Result (Option Frame) FrameFault → Type 0
IsOnly (Err faults.NoMemory) wanted = Unit {0}
IsOnly (Err (faults.BadFrame at)) wanted = wanted ≡ Err (faults.BadFrame at)
IsOnly (Ok found) wanted = wanted ≡ Ok found
