-- How the frames of live views begin, and what a push shows.
use Rattle.std.specs.Prelude.{◌≡◌, [], Option}
use Rattle.line_raster.specs.Canvas.{Canvas}
use Rattle.chart_frames.specs.declared.frame.Frame.{Frame}
use Rattle.drawn_replies.specs.Mirrors.{IsPictureOf}
use Rattle.live_service.specs.Following.{ShowsView}
use Rattle.live_service.specs.LiveReplies.{LiveState, Pushed}

-- no session is open
pub record IsFirst (live : LiveState) : Type 0 where
  pub sessions : live.state.sessions ≡ []
  pub followed : live.followed ≡ []
  pub pending : live.pending ≡ []

-- The frame is pushed, shows a view, and leaves the book. So what is drawn of it is a chart of the book behind the edit.
pub record ShowsPush (frame : Frame) (drawing : Option Canvas) (old new : LiveState) : Type 0 where
  pub pushed : Pushed frame old new
  pub shows : ShowsView frame
  pub book : new.state.book ≡ old.state.book
  pub picture : IsPictureOf old.state new.state frame drawing
