-- What `show` knows of the sessions that are open, and which frames it is given.
use Rattle.std.specs.Prelude.{◌≡◌, ◌≤◌, ℕ, Bool, IsTrue, All, List, [], length, take, Option, Result, Ok, Err, ⊤}
use Rattle.block_disk.specs.Streams.{sent_after}
use Rattle.chart_client.specs.declared.errors.ClientError.{ClientError}
use Rattle.chart_client.specs.declared.show.Shown.{Shown}
use Rattle.chart_frames.specs.declared.frame.Frame.{Frame}
use Rattle.chart_frames.specs.Frames.{Fits, spelling}
use Rattle.chart_frames.specs.Opened.{opens}
use Rattle.chart_service.specs.Knowing.{NamesKnown}
use Rattle.chart_service.specs.Naming.{NameOpen, opens_all}
use Rattle.zoom_session.specs.declared.session.Session.{Session}
use Rattle.zoom_session.specs.Sessions.{is_open}
use Rattle.chart_program.specs.declared.run_end.RunEnd.{RunEnd}
use Rattle.chart_program.specs.declared.run_end.RunEnd.TheVariants.{Serve, Show}
use Rattle.chart_program.specs.Runs.{Gives, AreShown}

-- A frame that is shown opens its session for what is known of `show`, or closes it, or leaves all sessions.
abbrev pub Follows : {V : Type 0} → Gives V → (V → ℕ → Bool) → Type 0
Follows {V} gives knows =
    (old new : V) (frame : Frame) (shown : Shown) (n : ℕ) → Fits frame → gives old (spelling frame) (Ok shown) new
    → IsTrue (opens frame n (knows old n)) → IsTrue (knows new n)

-- an error of showing was given to a frame that names known sessions
abbrev pub EndsKnown : {V : Type 0} → Gives V → (V → ℕ → Bool) → RunEnd → Type 0
EndsKnown gives knows (Serve end) = ⊤
EndsKnown {V} gives knows (Show e) = (old : V) × (frame : Frame) × (new : V) × Fits frame × NamesKnown frame (knows old)
    × gives old (spelling frame) (Err e) new

-- Frames whose fields meet their rules were given to `show` one after the other, each of which, if it closes a session or answers
-- in it, names one that is open by those before it. What was sent is the texts of what they showed, or a first part of that.
pub record ShowsNamed {V : Type 0} (gives : Gives V) (old new : V) (sessions : List Session) (before now : Option (List ℕ)) : Type 0 where
  pub frames : List Frame
  pub fits : All Fits frames
  pub named : NameOpen (λ n. is_open n sessions) frames
  pub text : List ℕ
  pub shown : AreShown gives old new [] frames text
  pub count : ℕ
  pub within : count ≤ length text
  pub sent : now ≡ sent_after (take count text) before

-- the texts of all such frames were sent, and this error is what `show` gave for the next one, which is such a frame too
pub record ShowStops {V : Type 0} (gives : Gives V) (old new : V) (sessions : List Session) (before now : Option (List ℕ))
    (e : ClientError) : Type 0 where
  pub last : V
  pub given : ShowsNamed gives old last sessions before now
  pub whole : given.count ≡ length given.text
  pub frame : Frame
  pub fits : Fits frame
  pub named : NamesKnown frame (λ n. opens_all given.frames n (is_open n sessions))
  pub fails : gives last (spelling frame) (Err e) new

-- which of the two it was, by the end of a run
abbrev pub ShowsBy : {T V : Type 0} → Gives V → V → V → List Session → Option (List ℕ) → Option (List ℕ) → Result T RunEnd → Type 0
ShowsBy gives old new sessions before now (Ok done) = ShowsNamed gives old new sessions before now
ShowsBy {T} {V} gives old new sessions before now (Err (Serve end)) = (last : V) × ShowsNamed gives old last sessions before now
ShowsBy gives old new sessions before now (Err (Show e)) = ShowStops gives old new sessions before now e
