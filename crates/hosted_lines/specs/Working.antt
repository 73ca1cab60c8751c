-- The work of a host on its lines: what stands where a line may be given, and what is done of what is given.
use Rattle.std.specs.Prelude.{◌≡◌, ◌≢◌, ℕ, ◌<◌, List, [], ◌++◌, length, All, Option, None, Some, ⊤}
use Rattle.block_disk.specs.Streams.{sent_after}
use Rattle.block_disk.specs.View.{Image, View}
use Rattle.chart_frames.specs.declared.frame.Frame.{Frame}
use Rattle.chart_service.specs.EditGroups.{SpellEdits}
use Rattle.chart_service.specs.Serving.{most_ahead}
use Rattle.chart_service.specs.State.{IsSound}
use Rattle.chart_service.specs.Stepping.{state_of}
use Rattle.line_runs.specs.Given.{Given, Line, Pause, End as EndOf}
use Rattle.live_service.specs.LiveReplies.{LiveState}
use Rattle.run_ends.specs.declared.ending.End.{End}
use Rattle.run_ends.specs.declared.ending.End.TheVariants.{DiskFault, InputTooLong}
use Rattle.series_book.specs.declared.edits.Edit.{Edit}
use Rattle.series_book.specs.declared.one_series.Series.{Series}
use Rattle.series_book.specs.Edits.{IsEdit}
use Rattle.served_lines.specs.Turning.{lines_of, pauses_of}
use Rattle.stored_book.specs.Standing.{StandsForBook}
use Rattle.hosted_lines.specs.Doing.{Held, Side, held_with}
use Rattle.hosted_lines.specs.Groups.{GroupsBy}
use Rattle.hosted_lines.specs.Hosting.{HostCost, HostMoment, HostStop, counted_with}
use Rattle.hosted_lines.specs.HostCauses.{IsHostCause}
use Rattle.hosted_lines.specs.Hosts.{Counted, Event, HappensFor, InRow, groups_in, lines_in}
use Rattle.hosted_lines.specs.Lives.{spelled}

-- a book, what a live service holds beside its pages, how often blocks were read and the disk was synced, the lines that are
-- kept back, and what was sent
pub record Hosted : Type 0 where
  pub total : ℕ
  pub book : List Series
  pub held : Held
  pub reads : ℕ
  pub syncs : ℕ
  pub ahead : List (Option (List ℕ))
  pub sent : Option (List ℕ)

abbrev pub counted_of : Hosted → Counted
counted_of hosted = counted_with hosted.total hosted.book hosted.held hosted.reads hosted.syncs

abbrev pub live_at : Hosted → LiveState
live_at hosted = held_with hosted.total hosted.book hosted.held

-- calls may be made, no push is pending, and fewer than 64 edits are kept back
pub record IsFit (at : View) (pending : List ℕ) (edits : List Edit) : Type 0 where
  pub sound : at.fit
  pub idle : pending ≡ []
  pub few : length edits < most_ahead
  pub are_edits : All IsEdit edits

-- the pages, which reads give, stand for the book, no push is pending, and the lines kept back spell the edits that are
pub record IsHosted (hosted : Hosted) (edits : List Edit) (told : Type 0) (at : View) (held : Held) (sent : Option (List ℕ)) : Type 0 where
  pub told_so : told
  pub stands : StandsForBook at.image hosted.total hosted.book
  pub sound : IsSound (state_of hosted.book hosted.total hosted.held.sessions)
  pub held_is : hosted.held ≡ held
  pub idle : hosted.held.pending ≡ []
  pub spell : SpellEdits hosted.ahead edits
  pub sent_is : hosted.sent ≡ sent
  pub reads_are : hosted.reads ≡ at.reads
  pub syncs_are : hosted.syncs ≡ at.syncs

-- Of the lines kept back and those that are given, with so many pauses, some first are answered, and the others are kept back.
pub record Turn (old : Hosted) (lines : List (Option (List ℕ))) (pauses : ℕ) (text : List ℕ) (new : Hosted) : Type 0 where
  pub events : List Event
  pub split : old.ahead ++ lines ≡ lines_in events ++ new.ahead
  pub frames : List Frame
  pub happened : InRow HappensFor (counted_of old) events frames (counted_of new)
  pub groups : GroupsBy (lines_in events) (groups_in events) pauses
  pub text_is : text ≡ spelled frames
  pub sent_is : new.sent ≡ sent_after text old.sent
  pub total_is : new.total ≡ old.total

-- what is given when a pause comes isn't kept back
abbrev pub KeepsNone : Given → List (Option (List ℕ)) → Type 0
KeepsNone (Line at line) ahead = ⊤
KeepsNone Pause ahead = ahead ≡ []
KeepsNone EndOf ahead = ⊤

abbrev pub Does : Hosted → Given → List ℕ → Hosted → Type 0
Does old it text new = Turn old (lines_of it) (pauses_of it) text new × KeepsNone it new.ahead

-- it stopped the work
pub record Stops (old : Hosted) (it : Given) (image : Image) (now : Option (List ℕ)) (reads syncs : ℕ) (end : End) : Type 0 where
  pub why : HostStop (old.ahead ++ lines_of it) old.total (live_at old) image old.sent now end
  pub cost : HostCost 1 (old.ahead ++ lines_of it) (counted_of old) reads syncs

-- what a crash leaves meanwhile, where it began after so many bytes
abbrev pub Leaves : Hosted → Given → ℕ → Image → ℕ → Type 0
Leaves old it from image count = HostMoment (old.ahead ++ lines_of it) old.total (live_at old) from image count

-- between lines a crash leaves the book
abbrev pub Rests : Hosted → Image → Type 0
Rests old image = StandsForBook image old.total old.book

-- the bytes sent are told, so what a crash leaves is too
abbrev pub AreTold : Option (List ℕ) → Type 0
AreTold None = ⊥
AreTold (Some bytes) = ⊤

abbrev pub Lasting : Hosted → Type 0
Lasting old = AreTold old.sent

-- why lines weren't answered; behind any end but a fault of the disk calls may be made
pub record CausesEnd (end : End) (old new : Side) : Type 0 where
  pub cause : IsHostCause end old new
  pub within : end ≢ InputTooLong
  pub sound : end ≢ DiskFault → new.view.fit
