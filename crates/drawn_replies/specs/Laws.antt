-- The laws of what a client draws of replies.
use Rattle.std.specs.Prelude.{ℕ, ◌≡◌, List, [], Option, Some, slice_get}
use Rattle.std.specs.List.{filter}
use Rattle.line_raster.specs.Canvas.{Canvas}
use Rattle.chart_client.specs.declared.holding.Holding.{Holding}
use Rattle.chart_client.specs.Agreeing.{IsGridOf, Agrees}
use Rattle.chart_client.specs.Holdings.{holding_of}
use Rattle.chart_grid.specs.declared.grid.Grid.{Grid}
use Rattle.series_book.specs.declared.one_series.Series.{Series}
use Rattle.request_lines.specs.declared.requests.Request.{Request}
use Rattle.chart_frames.specs.declared.frame.Frame.{Frame}
use Rattle.chart_frames.specs.declared.frame.Frame.TheVariants.{View}
use Rattle.chart_frames.specs.declared.frame.ViewFrame.{ViewFrame}
use Rattle.chart_service.specs.State.{State, IsSound}
use Rattle.chart_service.specs.Replies.{Replies, RepliesToLine}
use Rattle.chart_service.specs.Serving.{RepliesToAll}
use Rattle.chart_service.specs.Alone.{only}
use Rattle.drawn_replies.specs.Mirrors.{Mirrors, DrawsTheBook, OnlyLacksMemory}
use Rattle.drawn_replies.specs.Pictures.{AcceptsAll, ArePictured, AreOwnPictured, NoneRejected, names}
use Rattle.drawn_replies.specs.Sent.{FollowsOwn}

-- A client that holds what the sessions hold draws of a line's frame the chart of the book.
abbrev pub LinesAreDrawn : Type 0
LinesAreDrawn =
    (line : Option (List ℕ)) (frame : Frame) (old new : State) (holdings : List Holding)
    → IsSound old → RepliesToLine line frame old new → Mirrors old.sessions holdings → DrawsTheBook frame old new holdings

-- Nothing but want of memory keeps it from that.
abbrev pub LinesAreAccepted : Type 0
LinesAreAccepted =
    (line : Option (List ℕ)) (frame : Frame) (old new : State) (holdings : List Holding)
    → IsSound old → RepliesToLine line frame old new → Mirrors old.sessions holdings → OnlyLacksMemory frame holdings

-- The same of the frame that answers a request.
abbrev pub RequestsAreDrawn : Type 0
RequestsAreDrawn =
    (request : Request) (frame : Frame) (old new : State) (holdings : List Holding)
    → IsSound old → Replies request frame old new → Mirrors old.sessions holdings → DrawsTheBook frame old new holdings

-- And nothing but want of memory keeps it from that.
abbrev pub RequestsAreAccepted : Type 0
RequestsAreAccepted =
    (request : Request) (frame : Frame) (old new : State) (holdings : List Holding)
    → IsSound old → Replies request frame old new → Mirrors old.sessions holdings → OnlyLacksMemory frame holdings

-- The series of a view, as it is in the book, agrees with the view's frame and with what a client holds of its session.
abbrev pub AgreesWithBook : ViewFrame → State → List Holding → Type 0
AgreesWithBook view old holdings =
    (holding : Holding) (grid : Grid) (series : Series) → holding_of view.session holdings ≡ Some holding → IsGridOf view grid
    → slice_get old.book view.series ≡ Some series → Agrees view holding.cache grid series.slots

-- That is so of each view that answers a line, for a client that holds what the sessions hold.
abbrev pub LineViewsAgree : Type 0
LineViewsAgree =
    (line : Option (List ℕ)) (view : ViewFrame) (old new : State) (holdings : List Holding)
    → IsSound old → RepliesToLine line (View view) old new → Mirrors old.sessions holdings → AgreesWithBook view old holdings

-- The same of each view that answers a request.
abbrev pub RequestViewsAgree : Type 0
RequestViewsAgree =
    (request : Request) (view : ViewFrame) (old new : State) (holdings : List Holding)
    → IsSound old → Replies request (View view) old new → Mirrors old.sessions holdings → AgreesWithBook view old holdings

-- The drawings of all replies to lines are the pictures of the book, each as it is at its line.
abbrev pub RepliesDrawTheBook : Type 0
RepliesDrawTheBook =
    (lines : List (Option (List ℕ))) (frames : List Frame) (drawings : List (Option Canvas)) (old new : State) (holdings now : List Holding)
    → IsSound old → RepliesToAll old lines frames new → Mirrors old.sessions holdings → AcceptsAll holdings frames drawings now
    → ArePictured old lines frames drawings new × Mirrors new.sessions now

-- The same of the frames of one session alone.
abbrev pub OwnRepliesDrawTheBook : Type 0
OwnRepliesDrawTheBook =
    (n : ℕ) (lines : List (Option (List ℕ))) (frames : List Frame) (drawings : List (Option Canvas)) (old new : State)
    (holdings now : List Holding)
    → IsSound old → RepliesToAll old lines frames new → Mirrors (only n old.sessions) holdings
    → AcceptsAll holdings (filter (names n) frames) drawings now
    → AreOwnPictured n old lines frames drawings new × Mirrors (only n new.sessions) now

-- Of the frames of one session, from the first line on, none is rejected.
abbrev pub OwnRepliesAreAccepted : Type 0
OwnRepliesAreAccepted =
    (n : ℕ) (lines : List (Option (List ℕ))) (frames : List Frame) (old new : State)
    → IsSound old → old.sessions ≡ [] → RepliesToAll old lines frames new → NoneRejected (filter (names n) frames)

-- The client of one session, which is sent the frames that name it alone, follows the frame that answers a line.
abbrev pub OwnLinesAreDrawn : Type 0
OwnLinesAreDrawn =
    (n : ℕ) (line : Option (List ℕ)) (frame : Frame) (old new : State)
    → IsSound old → RepliesToLine line frame old new → FollowsOwn n frame old new

-- And the frame that answers a request.
abbrev pub OwnRequestsAreDrawn : Type 0
OwnRequestsAreDrawn =
    (n : ℕ) (request : Request) (frame : Frame) (old new : State)
    → IsSound old → Replies request frame old new → FollowsOwn n frame old new
