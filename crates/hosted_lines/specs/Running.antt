-- How far a host has answered the lines of an input, and pushed. Where a record speaks of a book that is there, it is one for
-- which pages stand, or one that a disk holds, or to which an image recovers.
use Rattle.std.specs.Prelude.{ℕ, ◌≡◌, ◌+◌, ◌-◌, ◌<◌, ◌≤◌, ◌⊎◌, List, [], ◌∷◌, ◌++◌, length, take, Option, IfSome}
use Rattle.block_disk.specs.Streams.{sent_after, PartSent}
use Rattle.chart_frames.specs.declared.frame.Frame.{Frame}
use Rattle.chart_frames.specs.Frames.{spelling}
use Rattle.chart_service.specs.Serving.{most_ahead, told}
use Rattle.chart_world.specs.Fronts.{BeginsWith, IsWhole}
use Rattle.chart_world.specs.Lines.{NoLineFeed}
use Rattle.line_runs.specs.Runs.{Unended}
use Rattle.live_service.specs.LiveReplies.{LiveState}
use Rattle.run_ends.specs.declared.ending.End.{End}
use Rattle.run_ends.specs.declared.ending.End.TheVariants.{Done, NoMemory, ReadFault, SendFault, DiskFault, InputTooLong}
use Rattle.series_book.specs.declared.one_series.Series.{Series}
use Rattle.hosted_lines.specs.Amid.{IsThereAhead}
use Rattle.hosted_lines.specs.Groups.{FewGroups}
use Rattle.hosted_lines.specs.Hosting.{NextCosts}
use Rattle.hosted_lines.specs.Hosts.{Counted, Event, Happens, HappensFor, InRow, groups_in, lines_in}
use Rattle.hosted_lines.specs.Input.{most_bytes}
use Rattle.hosted_lines.specs.Lives.{spelled}

-- these lines are answered by these frames, alone or together, some first of the last pushes among them
pub record HostedBy (lines : List (Option (List ℕ))) (frames : List Frame) (old new : LiveState) : Type 0 where
  pub events : List Event
  pub lines_are : lines_in events ≡ lines
  pub happened : InRow Happens old events frames new

-- some first lines of the input are, in its order; all pushes behind each line or group but the last are made before the next
-- one is answered, and of those behind the last one some first are
pub record FirstLines (input : List ℕ) (frames : List Frame) (old new : LiveState) : Type 0 where
  pub front : List ℕ
  pub rest : List ℕ
  pub begins : BeginsWith input front rest
  pub early : length front ≤ most_bytes
  pub hosted : HostedBy (told front) frames old new

-- some first lines are answered, and the spellings of all frames so far were sent
pub record SendsLines (input : List ℕ) (old : LiveState) (before now : Option (List ℕ)) : Type 0 where
  pub frames : List Frame
  pub state : LiveState
  pub first : FirstLines input frames old state
  pub sent : now ≡ sent_after (spelled frames) before

module _ (IsThere : List Series → Type 0) (input : List ℕ) (old : LiveState) (before now : Option (List ℕ)) where
  -- all lines of the input are answered, all pushes are made, and the spellings of all these frames were sent
  pub record SendsAll : Type 0 where
    pub frames : List Frame
    pub state : LiveState
    pub hosted : HostedBy (told input) frames old state
    pub idle : state.pending ≡ []
    pub there : IsThere state.state.book
    pub sent : now ≡ sent_after (spelled frames) before

  -- the same of some first lines of the input
  pub record SendsFirst : Type 0 where
    pub frames : List Frame
    pub state : LiveState
    pub first : FirstLines input frames old state
    pub idle : state.pending ≡ []
    pub there : IsThere state.state.book
    pub sent : now ≡ sent_after (spelled frames) before

  -- they are those whose line feeds were among the bytes taken, where the bytes left are told
  pub record SendsTaken (left : Option (List ℕ)) : Type 0 where
    pub sends : SendsFirst
    pub whole : IsWhole sends.first.front
    pub behind : IfSome left (Unended sends.first.rest)

  -- they are those that ended among the first 2^63 - 1 bytes, and there is a byte more
  pub record SendsWithin : Type 0 where
    pub sends : SendsFirst
    pub unended : NoLineFeed (take (most_bytes - length sends.first.front) sends.first.rest)
    pub past : most_bytes < length input

  -- Some first lines are answered. Of one of the last frames, which are no more than may be done ahead, a part was sent, of
  -- those behind it nothing, and of the others all.
  pub record SendsPart : Type 0 where
    pub shown : List Frame
    pub last : Frame
    pub more : List Frame
    pub few : length (last ∷ more) ≤ most_ahead
    pub state : LiveState
    pub first : FirstLines input (shown ++ last ∷ more) old state
    pub there : IsThere state.state.book
    pub between : Option (List ℕ)
    pub whole : between ≡ sent_after (spelled shown) before
    pub part : PartSent (spelling last) between now

  -- some first lines are answered, and perhaps some clears of the next one made, and the spellings of all these frames were
  -- sent but the last ones, which are no more than may be done ahead
  pub record SendsSome : Type 0 where
    pub shown : List Frame
    pub more : List Frame
    pub few : length more ≤ most_ahead
    pub state : LiveState
    pub first : FirstLines input (shown ++ more) old state
    pub there : IsThereAhead IsThere more (told first.rest) state
    pub sent : now ≡ sent_after (spelled shown) before

-- What was done and sent, by how a run ended that answers from this state on, and which book is there then. After a fault
-- of the disk that is said by the moments of the run.
abbrev pub EndsSo : (List Series → Type 0) → List ℕ → LiveState → Option (List ℕ) → Option (List ℕ) → Option (List ℕ) → End → Type 0
EndsSo IsThere input old left before now Done = SendsAll IsThere input old before now
EndsSo IsThere input old left before now NoMemory = SendsSome IsThere input old before now
EndsSo IsThere input old left before now ReadFault = SendsTaken IsThere input old before now left
EndsSo IsThere input old left before now SendFault = SendsPart IsThere input old before now
EndsSo IsThere input old left before now DiskFault = SendsLines input old before now
EndsSo IsThere input old left before now InputTooLong = SendsWithin IsThere input old before now
EndsSo IsThere input old left before now end = ⊥

-- Some first lines are answered and some pushes made, and the book that they leave is there, or one amid the step of a sweep
-- that the next line asks for. After so many bytes the spellings of all these frames were sent but the last ones, which are no
-- more than may be done ahead, and of those nothing, a part or all. So each edit whose Done was sent whole is in the book, and
-- at most 64 more are, the clears of a step among them.
pub record IsAhead (IsThere : List Series → Type 0) (input : List ℕ) (old : LiveState) (from sent : ℕ) : Type 0 where
  pub shown : List Frame
  pub more : List Frame
  pub few : length more ≤ most_ahead
  pub state : LiveState
  pub first : FirstLines input (shown ++ more) old state
  pub there : IsThereAhead IsThere more (told first.rest) state
  pub low : from + length (spelled shown) ≤ sent
  pub high : sent ≤ from + length (spelled (shown ++ more))

-- Some first lines of the input are answered, and perhaps the line, the group, the step or the push behind them failed; by
-- each no more blocks were read than it may, and the disk was synced no more often. There are few groups, by the lines that are
-- answered and the pieces taken.
pub record CostsLines (input : List ℕ) (old : Counted) (pieces pieces' reads syncs : ℕ) : Type 0 where
  pub front : List ℕ
  pub rest : List ℕ
  pub begins : BeginsWith input front rest
  pub events : List Event
  pub lines_are : lines_in events ≡ told front
  pub frames : List Frame
  pub state : Counted
  pub happened : InRow HappensFor old events frames state
  pub groups : FewGroups (told front) (groups_in events) pieces pieces'
  pub last : ((reads ≡ state.reads) × (syncs ≡ state.syncs)) ⊎ NextCosts (told rest) state reads syncs
