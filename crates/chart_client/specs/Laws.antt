-- Laws of accepted frames.
use Rattle.std.specs.Prelude.{◌≡◌, ℕ, List, [], ◌∷◌, ◌++◌, Option, Some}
use Rattle.std.specs.List.{cons_option}
use Rattle.line_raster.specs.Canvas.{Canvas}
use Rattle.chart_frames.specs.declared.frame.Frame.{Frame}
use Rattle.chart_frames.specs.declared.frame.Frame.TheVariants.{Opened}
use Rattle.chart_frames.specs.declared.frame.ViewFrame.{ViewFrame}
use Rattle.chart_client.specs.declared.holding.Holding.{Holding}
use Rattle.chart_client.specs.Holdings.{holding_of}
use Rattle.chart_client.specs.Accepting.{Accepts, AcceptsAll, AcceptsView, viewed}

-- A session that was opened holds nothing, and keeps as many pairs as its frame says.
abbrev pub OpenedSessionsHoldNothing : Type 0
OpenedSessionsHoldNothing =
    (number size : ℕ) (drawing : Option Canvas) (old new : List Holding)
    → Accepts (Opened number size) drawing old new
    → holding_of number new ≡ Some (record { number = number; cache = record { pairs = []; capacity = size } })

-- A session that was viewed holds what the view leaves it.
abbrev pub ViewedSessionsHoldTheirKeys : Type 0
ViewedSessionsHoldTheirKeys =
    (view : ViewFrame) (holding : Holding) (drawing : Canvas) (old new : List Holding)
    → holding_of view.session old ≡ Some holding → (accepted : AcceptsView view holding.cache drawing old new)
    → holding_of view.session new ≡ Some (record { number = view.session; cache = viewed view holding.cache accepted.wanted })

-- One more frame that is accepted goes on behind those before it.
abbrev pub AcceptedFramesGoOn : Type 0
AcceptedFramesGoOn =
    (frames : List Frame) (drawings : List Canvas) (old between new : List Holding) (frame : Frame) (drawing : Option Canvas)
    → AcceptsAll frames drawings old between → Accepts frame drawing between new
    → AcceptsAll (frames ++ frame ∷ []) (drawings ++ cons_option drawing []) old new
