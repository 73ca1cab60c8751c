-- The law of what a client draws of a host's run.
use Rattle.std.specs.Prelude.{ℕ, List, [], Option}
use Rattle.std.specs.List.{filter}
use Rattle.line_raster.specs.Canvas.{Canvas}
use Rattle.chart_client.specs.declared.holding.Holding.{Holding}
use Rattle.chart_frames.specs.declared.frame.Frame.{Frame}
use Rattle.chart_service.specs.Alone.{only}
use Rattle.chart_service.specs.Serving.{told}
use Rattle.chart_service.specs.State.{IsSound}
use Rattle.drawn_replies.specs.Mirrors.{Mirrors}
use Rattle.drawn_replies.specs.Pictures.{AcceptsAll, NoneRejected, names}
use Rattle.hosted_lines.specs.Running.{HostedBy}
use Rattle.live_service.specs.Showing.{IsFirst}
use Rattle.live_service.specs.LiveReplies.{LiveState}
use Rattle.host_command.specs.Drawn.{PicturesLines, PicturesOwn}

-- The drawings of all frames of a run are the pictures of the book: of each line's frame as it is at that line, of each push as it
-- is behind the group.
abbrev pub HostsDrawTheBook : Type 0
HostsDrawTheBook =
    (input : List ℕ) (frames : List Frame) (drawings : List (Option Canvas)) (old new : LiveState) (now : List Holding)
    → IsSound old.state → IsFirst old → HostedBy (told input) frames old new → AcceptsAll [] frames drawings now
    → PicturesLines (told input) frames drawings old new × Mirrors new.state.sessions now

-- The same of the frames of one session alone, whatever else is answered, done and pushed between them.
abbrev pub OwnHostsDrawTheBook : Type 0
OwnHostsDrawTheBook =
    (n : ℕ) (input : List ℕ) (frames : List Frame) (drawings : List (Option Canvas)) (old new : LiveState) (now : List Holding)
    → IsSound old.state → IsFirst old → HostedBy (told input) frames old new → AcceptsAll [] (filter (names n) frames) drawings now
    → PicturesOwn n (told input) frames drawings old new × Mirrors (only n new.state.sessions) now

-- Of these frames none is rejected.
abbrev pub OwnHostsAreAccepted : Type 0
OwnHostsAreAccepted =
    (n : ℕ) (lines : List (Option (List ℕ))) (frames : List Frame) (old new : LiveState)
    → IsSound old.state → IsFirst old → HostedBy lines frames old new → NoneRejected (filter (names n) frames)
