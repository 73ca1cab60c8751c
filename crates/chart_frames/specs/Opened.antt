-- Which sessions frames open and close.
use Rattle.std.specs.Prelude.{ℕ, Bool, not, ◌==◌, ◌&&◌, ◌||◌}
use Rattle.chart_frames.specs.declared.frame.Frame.{Frame}
use Rattle.chart_frames.specs.declared.frame.Frame.TheVariants.{Done, Refused, Opened, Closed, View, Rows, Live, Report}

-- whether the session n is open after a frame, where it was or wasn't before it
abbrev pub opens : Frame → ℕ → Bool → Bool
opens (Done slots) n was = was
opens (Refused number a b) n was = was
opens (Opened session cache) n was = session == n || was
opens (Closed session) n was = not (session == n) && was
opens (View view) n was = was
opens (Rows rows) n was = was
opens (Live session on) n was = was
opens (Report report) n was = was
