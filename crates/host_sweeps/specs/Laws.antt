-- The laws of steps of a sweep.
use Rattle.std.specs.Prelude.{◌≡◌, ◌+◌, ◌≤◌, List, drop, length}
use Rattle.block_disk.specs.View.{Image}
use Rattle.chart_client.specs.declared.holding.Holding.{Holding}
use Rattle.chart_frames.specs.declared.frame.Frame.{Frame}
use Rattle.chart_service.specs.State.{IsSound}
use Rattle.drawn_replies.specs.Mirrors.{DrawsTheBook, Mirrors, OnlyLacksMemory}
use Rattle.live_service.specs.Following.{FollowsWell}
use Rattle.live_service.specs.LiveReplies.{LiveState}
use Rattle.live_service.specs.Shown.{DoesSome}
use Rattle.retention.specs.declared.rule.Rule.{Rule}
use Rattle.retention.specs.Drops.{book_stepped, book_swept}
use Rattle.retention.specs.Sweeps.{sweeps}
use Rattle.host_sweeps.specs.Sweeping.{DoesStep, SweepReplied, SweepsSome, most_clears, step_clears}

-- A step has one answer: the frame, and what the service holds behind it, are determined by what it holds before.
abbrev pub SweepsAreOne : Type 0
SweepsAreOne =
    (rule : Rule) (frame other : Frame) (old new behind : LiveState)
    → SweepReplied rule frame old new → SweepReplied rule other old behind → (frame ≡ other) × (new ≡ behind)

-- A client that holds what the sessions hold goes on doing so, and draws nothing.
abbrev pub SweepsAreDrawn : Type 0
SweepsAreDrawn =
    (rule : Rule) (frame : Frame) (old new : LiveState) (holdings : List Holding)
    → SweepReplied rule frame old new → Mirrors old.state.sessions holdings → DrawsTheBook frame old.state new.state holdings

-- Nothing but want of memory keeps it from that.
abbrev pub SweepsAreAccepted : Type 0
SweepsAreAccepted =
    (rule : Rule) (frame : Frame) (old new : LiveState) (holdings : List Holding) → SweepReplied rule frame old new
    → OnlyLacksMemory frame holdings

-- Followed sessions can follow behind a step.
abbrev pub SweepsKeepFollowing : Type 0
SweepsKeepFollowing = (rule : Rule) (frame : Frame) (old new : LiveState) → FollowsWell old → SweepReplied rule frame old new
    → FollowsWell new

-- Behind a step the rule makes the later clears of the same list.
abbrev pub StepsGoOn : Type 0
StepsGoOn =
    (rule : Rule) (frame : Frame) (old new : LiveState)
    → IsSound old.state → DoesStep rule frame old new
    → sweeps new.state.total new.state.book rule ≡ drop most_clears (sweeps old.state.total old.state.book rule)

-- Two steps make as many first clears of it together.
abbrev pub StepsComeTogether : Type 0
StepsComeTogether =
    (rule : Rule) (frame other : Frame) (old between new : LiveState)
    → IsSound old.state → DoesStep rule frame old between → DoesStep rule other between new
    → new.state.book ≡ book_stepped old.state.total old.state.book rule (most_clears + most_clears)

-- A step behind which none is left leaves the book that the sweep leaves.
abbrev pub LastStepsSweep : Type 0
LastStepsSweep =
    (rule : Rule) (frame : Frame) (old new : LiveState)
    → length (sweeps old.state.total old.state.book rule) ≤ most_clears → DoesStep rule frame old new
    → new.state.book ≡ book_swept old.state.total old.state.book rule

-- Some first clears of a step are some first edits of a group of these clears.
abbrev pub ClearsAreEdits : Type 0
ClearsAreEdits = (rule : Rule) (old : LiveState) (image : Image) → IsSound old.state → SweepsSome rule old image
    → DoesSome (step_clears old.state rule) old image
