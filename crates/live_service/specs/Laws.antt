-- The laws of what a client draws of pushes.
use Rattle.std.specs.Prelude.{ℕ, ◌≡◌, ◌≤◌, ◌↔◌, List, [], ◌∷◌, length, Option, Some}
use Rattle.chart_client.specs.declared.holding.Holding.{Holding}
use Rattle.chart_frames.specs.declared.frame.Frame.{Frame}
use Rattle.chart_service.specs.EditGroups.{SpellsEdit}
use Rattle.chart_service.specs.State.{IsSound}
use Rattle.drawn_replies.specs.Mirrors.{Mirrors, DrawsTheBook, OnlyLacksMemory}
use Rattle.drawn_replies.specs.Sent.{FollowsOwn}
use Rattle.live_service.specs.LiveReplies.{GroupReplied, LiveState, LiveReplied, Pushed}
use Rattle.series_book.specs.declared.edits.Edit.{Edit}

-- A client that holds what the sessions hold draws of a push the chart of the book.
abbrev pub PushesAreDrawn : Type 0
PushesAreDrawn =
    (frame : Frame) (old new : LiveState) (holdings : List Holding)
    → IsSound old.state → Pushed frame old new → Mirrors old.state.sessions holdings → DrawsTheBook frame old.state new.state holdings

-- The same of the frame that answers a line.
abbrev pub LinesAreDrawn : Type 0
LinesAreDrawn =
    (line : Option (List ℕ)) (frame : Frame) (old new : LiveState) (holdings : List Holding)
    → IsSound old.state → LiveReplied line frame old new → Mirrors old.state.sessions holdings
    → DrawsTheBook frame old.state new.state holdings

-- Nothing but want of memory keeps it from that.
abbrev pub LinesAreAccepted : Type 0
LinesAreAccepted =
    (line : Option (List ℕ)) (frame : Frame) (old new : LiveState) (holdings : List Holding)
    → IsSound old.state → LiveReplied line frame old new → Mirrors old.state.sessions holdings → OnlyLacksMemory frame holdings

-- The client of one session, which is sent the frames that name it alone, follows the frame that answers a line.
abbrev pub OwnLinesAreDrawn : Type 0
OwnLinesAreDrawn =
    (n : ℕ) (line : Option (List ℕ)) (frame : Frame) (old new : LiveState)
    → IsSound old.state → LiveReplied line frame old new → FollowsOwn n frame old.state new.state

-- And so it does a push.
abbrev pub OwnPushesAreDrawn : Type 0
OwnPushesAreDrawn =
    (n : ℕ) (frame : Frame) (old new : LiveState) → IsSound old.state → Pushed frame old new → FollowsOwn n frame old.state new.state

-- The frame that answers a line, and what the service holds behind it, are determined by what it holds before.
abbrev pub LiveRepliesAreOne : Type 0
LiveRepliesAreOne =
    (line : Option (List ℕ)) (frame other : Frame) (old new behind : LiveState)
    → LiveReplied line frame old new → LiveReplied line other old behind → (frame ≡ other) × (new ≡ behind)

-- So are the next push and what it holds behind that.
abbrev pub PushesAreOne : Type 0
PushesAreOne =
    (frame other : Frame) (old new behind : LiveState) → Pushed frame old new → Pushed other old behind → (frame ≡ other) × (new ≡ behind)

-- And so are the frames of edits that are done together.
abbrev pub GroupsAreOne : Type 0
GroupsAreOne =
    (edits : List Edit) (frames others : List Frame) (old new behind : LiveState)
    → GroupReplied edits frames old new → GroupReplied edits others old behind → (frames ≡ others) × (new ≡ behind)

-- One edit that is done as a group is answered, and pushed, as the line that spells it.
abbrev pub GroupsOfOneAreLines : Type 0
GroupsOfOneAreLines =
    (line : List ℕ) (edit : Edit) (frame : Frame) (old new : LiveState)
    → SpellsEdit (Some line) edit → length line ≤ 8192
    → GroupReplied (edit ∷ []) (frame ∷ []) old new ↔ LiveReplied (Some line) frame old new
