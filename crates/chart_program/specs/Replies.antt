-- What `draw` and `cover` send where their input is frames that answer lines.
use Rattle.std.specs.Prelude.{◌≡◌, ℕ, ◌≤◌, ◌^◌, ◌⊎◌, List, [], length, flat_map, Option, None, Some}
use Rattle.std.specs.List.{filter}
use Rattle.block_disk.specs.Streams.{sent_after}
use Rattle.chart_client.specs.declared.holding.Holding.{Holding}
use Rattle.chart_frames.specs.declared.frame.Frame.{Frame}
use Rattle.chart_frames.specs.Frames.{spelling}
use Rattle.chart_service.specs.State.{State, IsSound}
use Rattle.chart_service.specs.Serving.{RepliesToAll, told}
use Rattle.draw_command.specs.Covers.{picture_bytes, SendsFrames}
use Rattle.drawn_replies.specs.Pictures.{ArePictured, AreOwnPictured, names}
use Rattle.host_command.specs.Drawn as hosts
use Rattle.hosted_lines.specs.Lives.{LivesBy}
use Rattle.hosted_lines.specs.Running.{HostedBy}
use Rattle.line_raster.specs.Canvas.{Canvas}
use Rattle.live_command.specs.Drawn as runs
use Rattle.live_service.specs.LiveReplies.{LiveState}
use Rattle.live_service.specs.Showing.{IsFirst}

-- lines are answered by these frames, over a book and with no session open
pub record AreReplies (old : State) (lines : List (Option (List ℕ))) (frames : List Frame) (new : State) : Type 0 where
  pub sound : IsSound old
  pub alone : old.sessions ≡ []
  pub replied : RepliesToAll old lines frames new

-- so are the lines of these bytes, and pushes are made behind them, as by a run of `live`
pub record AreLived (old : LiveState) (asked : List ℕ) (frames : List Frame) (new : LiveState) : Type 0 where
  pub sound : IsSound old.state
  pub alone : IsFirst old
  pub lived : LivesBy (told asked) frames old new

-- and as by a run of `host`
pub record AreHosted (old : LiveState) (asked : List ℕ) (frames : List Frame) (new : LiveState) : Type 0 where
  pub sound : IsSound old.state
  pub alone : IsFirst old
  pub hosted : HostedBy (told asked) frames old new

-- the frames answer lines, as in a run of `serve`, of `live` or of `host`
abbrev pub AreAnswers : List Frame → Type 0
AreAnswers frames =
    ((old : State) × (lines : List (Option (List ℕ))) × (new : State) × AreReplies old lines frames new)
    ⊎ (((old : LiveState) × (asked : List ℕ) × (new : LiveState) × AreLived old asked frames new)
    ⊎ ((old : LiveState) × (asked : List ℕ) × (new : LiveState) × AreHosted old asked frames new))

-- The input is the frames that answer lines, all of them or those that name one session, and no more than `draw` takes.
pub record IsOfReplies (input : List ℕ) : Type 0 where
  pub frames : List Frame
  pub answers : AreAnswers frames
  pub spelled : (input ≡ flat_map spelling frames) ⊎ ((n : ℕ) × (input ≡ flat_map spelling (filter (names n) frames)))
  pub short : length input ≤ 2 ^ 32

-- ---- what is sent

-- the pictures of drawings that are so were sent
pub record SendsDrawings (AreSo : List (Option Canvas) → Type 0) (before now : Option (List ℕ)) : Type 0 where
  pub drawings : List (Option Canvas)
  pub pictured : AreSo drawings
  pub sent : now ≡ sent_after (flat_map picture_bytes drawings) before

-- drawings of these frames are so, and their pictures were sent, each behind its covers
pub record CoversDrawings (every : ℕ) (frames : List Frame) (AreSo : List (Option Canvas)
    → Type 0) (before now : Option (List ℕ)) : Type 0 where
  pub drawings : List (Option Canvas)
  pub pictured : AreSo drawings
  pub holdings : List Holding
  pub bytes : List ℕ
  pub sends : SendsFrames (Some every) frames drawings [] holdings bytes
  pub sent : now ≡ sent_after bytes before

-- the one or the other
abbrev pub SendsSo : Option ℕ → List Frame → (List (Option Canvas) → Type 0) → Option (List ℕ) → Option (List ℕ) → Type 0
SendsSo None frames AreSo before now = SendsDrawings AreSo before now
SendsSo (Some every) frames AreSo before now = CoversDrawings every frames AreSo before now

-- Where the input is the frames that answer lines, the pictures of the book were sent, each as the book was at that line; where
-- it is those of one session alone, that session's. So of the frames of a run of `live`, those that were pushed among them, and
-- of `host`, with the charts of its sums. With covers these stand before a view's picture.
pub record DrawsBook (every : Option ℕ) (input : List ℕ) (before now : Option (List ℕ)) : Type 0 where
  pub all : (old new : State) (lines : List (Option (List ℕ))) (frames : List Frame) → AreReplies old lines frames new
      → input ≡ flat_map spelling frames → SendsSo every frames (λ drawings. ArePictured old lines frames drawings new) before now
  pub own : (n : ℕ) (old new : State) (lines : List (Option (List ℕ))) (frames : List Frame) → AreReplies old lines frames new
      → input ≡ flat_map spelling (filter (names n) frames)
      → SendsSo every (filter (names n) frames) (λ drawings. AreOwnPictured n old lines frames drawings new) before now
  pub live : (old new : LiveState) (asked : List ℕ) (frames : List Frame) → AreLived old asked frames new
      → input ≡ flat_map spelling frames → SendsSo every frames
      (λ drawings. runs.PicturesLines (told asked) frames drawings old new) before now
  pub own_live : (n : ℕ) (old new : LiveState) (asked : List ℕ) (frames : List Frame) → AreLived old asked frames new
      → input ≡ flat_map spelling (filter (names n) frames)
      → SendsSo every (filter (names n) frames) (λ drawings. runs.PicturesOwn n (told asked) frames drawings old new) before now
  pub host : (old new : LiveState) (asked : List ℕ) (frames : List Frame) → AreHosted old asked frames new
      → input ≡ flat_map spelling frames → SendsSo every frames
      (λ drawings. hosts.PicturesLines (told asked) frames drawings old new) before now
  pub own_host : (n : ℕ) (old new : LiveState) (asked : List ℕ) (frames : List Frame) → AreHosted old asked frames new
      → input ≡ flat_map spelling (filter (names n) frames)
      → SendsSo every (filter (names n) frames) (λ drawings. hosts.PicturesOwn n (told asked) frames drawings old new) before now

-- with no covers, and with them
abbrev pub DrawsReplies : List ℕ → Option (List ℕ) → Option (List ℕ) → Type 0
DrawsReplies input before now = DrawsBook None input before now

abbrev pub CoversReplies : ℕ → List ℕ → Option (List ℕ) → Option (List ℕ) → Type 0
CoversReplies every input before now = DrawsBook (Some every) input before now
