-- What a stream is to its callers.
use Rattle.std.specs.Prelude.{ℕ, List, Option, IfSome}
use Rattle.chart_frames.specs.declared.frame.Frame.{Frame}
use Rattle.chart_frames.specs.Frames.{Fits}
use Rattle.chart_frames.specs.Pending.{Pending}
use Rattle.m4_groups.specs.declared.row.Row.{Row}
use Rattle.chart_client.specs.declared.holding.Holding.{Holding}

-- the bytes that aren't taken, what the client holds, the frame in hand, the bytes of what was drawn last, and the
-- rows of the picture that was drawn last; a cover is no picture
pub record State : Type 0 where
  pub decoder : Pending
  pub client : List Holding
  pub frame : Option Frame
  pub picture : List ℕ
  pub columns : List Row

-- the frame in hand keeps its rules
abbrev pub HandFits : Option Frame → Type 0
HandFits hand = IfSome hand Fits
