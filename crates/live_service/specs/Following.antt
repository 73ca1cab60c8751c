-- What holds of the sessions that are followed.
use Rattle.std.specs.Prelude.{All, ⊤}
use Rattle.chart_frames.specs.declared.frame.Frame.{Frame}
use Rattle.chart_frames.specs.declared.frame.Frame.TheVariants.{Done, Refused, Opened, Closed, View, Rows, Live, Report}
use Rattle.live_service.specs.LiveReplies.{LiveState}
use Rattle.live_view.specs.Following.{CanFollow}

-- all followed sessions can follow, and all that a frame is still to be pushed to
pub record FollowsWell (live : LiveState) : Type 0 where
  pub followed : All (CanFollow live.state.sessions) live.followed
  pub pending : All (CanFollow live.state.sessions) live.pending

-- the frame shows a view
abbrev pub ShowsView : Frame → Type 0
ShowsView (Done slots) = ⊥
ShowsView (Refused number a b) = ⊥
ShowsView (Opened session cache) = ⊥
ShowsView (Closed session) = ⊥
ShowsView (View view) = ⊤
ShowsView (Rows rows) = ⊤
ShowsView (Live session on) = ⊥
ShowsView (Report report) = ⊥
