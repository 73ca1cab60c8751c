-- What a serving command says to the lines of its input, over the book that its disk holds, and what it leaves.
use Rattle.std.specs.Prelude.{◌≡◌, ◌≢◌, ℕ, ◌+◌, ◌-◌, ◌^◌, ◌<◌, ◌≤◌, List, [], Option, IfSome, Result, Ok, Err, OnOk, IfErr, ⊤, All}
use Rattle.block_disk.specs.Counts.{HasRisen}
use Rattle.block_disk.specs.Streams.{sent_after}
use Rattle.block_disk.specs.View.{Honest, Image, View, sent_now}
use Rattle.chart_client.specs.Accepting.{Rejects}
use Rattle.chart_client.specs.declared.errors.ClientError.{ClientError}
use Rattle.chart_client.specs.declared.errors.ClientError.TheVariants as client
use Rattle.chart_client.specs.declared.holding.Holding.{Holding}
use Rattle.chart_frames.specs.declared.frame.Frame.{Frame}
use Rattle.chart_frames.specs.Frames.{Fits}
use Rattle.gate_pages.specs.GatePages.{IsReadable}
use Rattle.gate_pages.specs.Journal.{page_count}
use Rattle.gate_pages.specs.Pages.{GoesOn}
use Rattle.line_raster.specs.Canvas.{Canvas}
use Rattle.disk_store.specs.Openings.{Prevents, SyncsOpening}
use Rattle.disk_store.specs.declared.causes.OpeningCause.{OpeningCause}
use Rattle.disk_store.specs.declared.causes.OpeningCause.TheVariants as opening
use Rattle.chart_service.specs.State.{State}
use Rattle.chart_service.specs.Moments.{Since, IsAhead}
use Rattle.chart_service.specs.ReadingBlocks.{ReadsLines}
use Rattle.chart_service.specs.Syncing.{SyncsLines}
use Rattle.chart_service.specs.Serving.{AreSpelled, SendsText, SendsFrontOf, SendsTaken, SendsWithin, SendsSome, SendsLines}
use Rattle.chart_service.specs.declared.failure.ServeEnd.{ServeEnd}
use Rattle.chart_service.specs.declared.failure.ServeEnd.TheVariants as serve_end
use Rattle.drawn_replies.specs.Pictures.{AcceptsAll}
use Rattle.chart_program.specs.declared.lines_end.LinesEnd.{LinesEnd}
use Rattle.chart_program.specs.declared.lines_end.LinesEnd.TheVariants as lines_end
use Rattle.chart_program.specs.declared.run_end.RunEnd.{RunEnd}
use Rattle.chart_program.specs.declared.run_end.RunEnd.TheVariants as run_end
use Rattle.stored_book.specs.Standing.{KeepsOldStore, book_pages}
use Rattle.stored_book.specs.Damage.{IsBadForRequest}
use Rattle.store_commands.specs.Damaged.{IsDamagedLater}
use Rattle.store_commands.specs.Books.{begun, OfBook, FromBook, HoldsAgain, Never}
use Rattle.store_commands.specs.Traffic.{IsLong, WasRead}
use Rattle.served_fronts.specs.Texts.{texts_of}
pub use Rattle.served_fronts.specs.Texts.{AreTexts}
use Rattle.run_ends.specs.Statuses.{block_of}

-- what is said to lines by the frames that answer them from a state on
abbrev pub Says : Type 1
Says = State → List (Option (List ℕ)) → List Frame → List ℕ → Type 0

-- the spellings of the frames
abbrev pub Spelled : Says
Spelled start = AreSpelled

-- the lines of the whole input were answered so
abbrev pub AnswersAll : Says → ℕ → View → View → List ℕ → Option (List ℕ) → Option (List ℕ) → Type 0
AnswersAll IsText count old new input before now = FromBook count old new
    (λ start state. SendsText (IsText start) input start state before now)

-- the first bytes of what answers the first lines were sent; lines behind them may have been done too
abbrev pub AnswersFront : Says → ℕ → View → View → List ℕ → Option (List ℕ) → Option (List ℕ) → Type 0
AnswersFront IsText count old new input before now = FromBook count old new
    (λ start state. SendsFrontOf (IsText start) input start state before now)

-- all lines whose line feeds were among the bytes taken were answered, and these bytes are left
abbrev pub AnswersTaken : Says → ℕ → View → View → List ℕ → List ℕ → Option (List ℕ) → Option (List ℕ) → Type 0
AnswersTaken IsText count old new input bytes before now = FromBook count old new
    (λ start state. SendsTaken (IsText start) input bytes start state before now)

-- all lines that ended among the first 2^32 bytes were answered, and there is a byte more
abbrev pub AnswersWithin : Says → ℕ → View → View → List ℕ → Option (List ℕ) → Option (List ℕ) → Type 0
AnswersWithin IsText count old new input before now = FromBook count old new
    (λ start state. SendsWithin (IsText start) input start state before now)

-- some first lines were answered; lines behind them may have been done too
abbrev pub AnswersSome : Says → ℕ → View → View → List ℕ → Option (List ℕ) → Option (List ℕ) → Type 0
AnswersSome IsText count old new input before now = FromBook count old new
    (λ start state. SendsSome (IsText start) input start state before now)

-- some first lines were answered, at a fault of the disk: what it holds then is said by the moments of the run
abbrev pub AnswersLines : Says → ℕ → View → List ℕ → Option (List ℕ) → Option (List ℕ) → Type 0
AnswersLines IsText count old input before now = OfBook count old
    (λ total book. SendsLines (IsText (begun total book)) input (begun total book) before now)

-- why not all lines were answered, and what was sent
abbrev pub EndsServing : Says → ℕ → View → View → List ℕ → Option (List ℕ) → Option (List ℕ) → Option (List ℕ) → ServeEnd → Type 0
EndsServing IsText count old new input left before now serve_end.ReadFault = IfSome left
    (λ bytes. AnswersTaken IsText count old new input bytes before now)
EndsServing IsText count old new input left before now serve_end.SendFault = AnswersFront IsText count old new input before now
EndsServing IsText count old new input left before now serve_end.DiskFault = AnswersLines IsText count old input before now
EndsServing IsText count old new input left before now (serve_end.Damaged page) = Never count old
EndsServing IsText count old new input left before now serve_end.InputTooLong = AnswersWithin IsText count old new input before now
EndsServing IsText count old new input left before now serve_end.NoMemory = AnswersSome IsText count old new input before now

-- the same, where each frame was shown: where the disk holds a book, nothing but want of memory keeps it from that
abbrev pub EndsLines : Says → ℕ → View → View → List ℕ → Option (List ℕ) → Option (List ℕ) → Option (List ℕ) → RunEnd → Type 0
EndsLines IsText count old new input left before now (run_end.Serve end) = EndsServing IsText count old new input left before now end
EndsLines IsText count old new input left before now (run_end.Show client.NoMemory) = AnswersSome IsText count old new input before now
EndsLines IsText count old new input left before now (run_end.Show e) = Never count old

-- ---- crashes

-- The image recovers to a book that is ahead of the start's: each edit whose answer was sent whole by then is in it, and
-- at most 64 edits more.
pub record IsAheadOn (IsText : List (Option (List ℕ)) → List Frame → List ℕ
    → Type 0) (input : List ℕ) (count total : ℕ) (start : State) (from : ℕ) (image : Image) (sent : ℕ) : Type 0 where
  pub readable : IsReadable count image
  pub within : total ≤ count
  pub old : KeepsOldStore count image
  pub ahead : IsAhead IsText input total start from (book_pages count image) sent

-- at each moment from old to new a crash leaves such an image
abbrev pub LeavesBooks : Says → ℕ → List ℕ → View → View → Type 0
LeavesBooks IsText count input old new =
    OfBook count old (λ total book. Since old new (IsAheadOn (IsText (begun total book)) input count total (begun total book)
    (sent_now old)))

-- ---- how much is read, and how often the disk is synced

-- the lines of the input read no more blocks than they may, and no other block is read, from this count on
abbrev pub ReadsFrom : ℕ → View → View → List ℕ → ℕ → Type 0
ReadsFrom count old new input from = OfBook count old (λ total book. ReadsLines input (begun total book) from new.reads)

-- they sync no more often than they may, from this count on, where the pieces are counted
abbrev pub SyncsFrom : ℕ → View → View → List ℕ → ℕ → Type 0
SyncsFrom count old new input from = OfBook count old (λ total book. new.beside.pieces < 2 ^ 64 - 1
    → SyncsLines input total book (new.beside.pieces - old.beside.pieces) from new.syncs)

-- an opening reads 200 blocks at most, and then the lines read
abbrev pub ReadsServing : View → View → List ℕ → Type 0
ReadsServing old new input = (opened : ℕ) × (opened ≤ old.reads + 200) × ReadsFrom (page_count old.size) old new input opened

-- an opening syncs as often as it may, and then the lines sync
abbrev pub SyncsServing : View → View → List ℕ → Type 0
SyncsServing old new input = (opened : ℕ) × SyncsOpening (page_count old.size) old opened
    × SyncsFrom (page_count old.size) old new input opened

-- ---- frames that can't be used

-- A client that held nothing accepted some frames one after the other, whose texts were sent, and rejects the next one so.
pub record RejectsNext (e : ClientError) (before now : Option (List ℕ)) : Type 0 where
  pub frames : List Frame
  pub fits : All Fits frames
  pub drawings : List (Option Canvas)
  pub held : List Holding
  pub accepted : AcceptsAll [] frames drawings held
  pub sent : now ≡ sent_after (texts_of frames drawings) before
  pub frame : Frame
  pub fits_too : Fits frame
  pub rejects : Rejects frame e held

-- ---- how a serving command ends

-- the counts of the faults of the streams, before and now
pub record Faults : Type 0 where
  pub reads : ℕ
  pub reads_now : ℕ
  pub sends : ℕ
  pub sends_now : ℕ

abbrev pub faults_of : ℕ → ℕ → ℕ → ℕ → Faults
faults_of reads reads_now sends sends_now = record { reads = reads; reads_now = reads_now; sends = sends; sends_now = sends_now }

-- why not all lines were answered; a client can come in the way of a command that shows its frames alone
abbrev pub IsLinesCause : Type 0 → ℕ → View → View → Option (List ℕ) → Option (List ℕ) → Faults → RunEnd → Type 0
IsLinesCause CanShow count old new before now faults (run_end.Serve serve_end.ReadFault) = HasRisen faults.reads faults.reads_now
IsLinesCause CanShow count old new before now faults (run_end.Serve serve_end.SendFault) = HasRisen faults.sends faults.sends_now
IsLinesCause CanShow count old new before now faults (run_end.Serve serve_end.DiskFault) = HasRisen old.faults new.faults
IsLinesCause CanShow count old new before now faults (run_end.Serve (serve_end.Damaged page)) = IsDamagedLater IsBadForRequest count new
    (block_of page)
IsLinesCause CanShow count old new before now faults (run_end.Serve serve_end.InputTooLong) = ⊤
IsLinesCause CanShow count old new before now faults (run_end.Serve serve_end.NoMemory) = ⊤
IsLinesCause CanShow count old new before now faults (run_end.Show (client.Missing key)) = CanShow × (key.index < 2 ^ 40)
    × RejectsNext (client.Missing key) before now
IsLinesCause CanShow count old new before now faults (run_end.Show (client.BadCoefficient key)) = CanShow × (key.index < 2 ^ 40)
    × RejectsNext (client.BadCoefficient key) before now
IsLinesCause CanShow count old new before now faults (run_end.Show (client.UnknownSession number)) = ⊥
IsLinesCause CanShow count old new before now faults (run_end.Show client.NoMemory) = ⊤

-- What a command did that serves the lines of its input over a store: what it sent, what the disk holds then and held at
-- each moment, and why it ended.
pub record ServesLines {T : Type 0} (IsText : Says) (CanShow : Type 0) (count : ℕ) (old new : View)
    (left left' before now : Option (List ℕ)) (faults : Faults) (answer : Result T RunEnd) : Type 0 where
  pub done : OnOk answer (IfSome left (λ input. AnswersAll IsText count old new input before now))
  pub within : OnOk answer (WasRead left left')
  pub long : answer ≡ Err (run_end.Serve serve_end.InputTooLong) → IsLong left
  pub ends : IfErr answer (λ end. IfSome left (λ input. EndsLines IsText count old new input left' before now end))
  pub crash : IfSome left (λ input. IfSome before (λ bytes. LeavesBooks IsText count input old new))
  pub cause : IfErr answer (λ end. IsLinesCause CanShow count old new before now faults end)
  pub holds : answer ≢ Err (run_end.Serve serve_end.DiskFault) → IfSome left (λ input. HoldsAgain count old new)
  pub reads : IfSome left (λ input. ReadsFrom count old new input old.reads)
  pub syncs : IfSome left (λ input. SyncsFrom count old new input old.syncs)
  pub honest : Honest old → Honest new
  pub goes_on : GoesOn old new
  pub risen : old.faults ≤ new.faults

-- what a serving alone answers, as the end of a run
abbrev pub served : {T : Type 0} → Result T ServeEnd → Result T RunEnd
served (Ok done) = Ok done
served (Err end) = Err (run_end.Serve end)

-- why not all lines were answered, where the store is opened first
abbrev pub IsWorldCause : Type 0 → View → View → Option (List ℕ) → Option (List ℕ) → Faults → LinesEnd → Type 0
IsWorldCause CanShow old new before now faults (lines_end.Opening cause) = Prevents cause old new
IsWorldCause CanShow old new before now faults (lines_end.Answering end) = IsLinesCause CanShow
    (page_count old.size) old new before now faults end

abbrev pub EndsOpening : Says → View → View → List ℕ → Option (List ℕ) → Option (List ℕ) → OpeningCause → Type 0
EndsOpening IsText old new input before now (opening.TooSmall size) = now ≡ before
EndsOpening IsText old new input before now (opening.Damaged block) = Never (page_count old.size) old × (now ≡ before)
EndsOpening IsText old new input before now opening.DiskFault = AnswersLines IsText (page_count old.size) old input before now
EndsOpening IsText old new input before now opening.NoMemory = AnswersSome IsText (page_count old.size) old new input before now

abbrev pub EndsWorld : Says → View → View → List ℕ → Option (List ℕ) → Option (List ℕ) → Option (List ℕ) → LinesEnd → Type 0
EndsWorld IsText old new input left before now (lines_end.Opening cause) = EndsOpening IsText old new input before now cause
EndsWorld IsText old new input left before now (lines_end.Answering end) = EndsLines IsText
    (page_count old.size) old new input left before now end

-- the same of a command that opens the store of its disk and serves lines over it
pub record ServesWorld {T : Type 0} (IsText : Says) (CanShow : Type 0) (old new : View) (left left' before now : Option (List ℕ))
    (faults : Faults) (answer : Result T LinesEnd) : Type 0 where
  pub done : OnOk answer (IfSome left (λ input. AnswersAll IsText (page_count old.size) old new input before now))
  pub within : OnOk answer (WasRead left left')
  pub long : answer ≡ Err (lines_end.Answering (run_end.Serve serve_end.InputTooLong)) → IsLong left
  pub ends : IfErr answer (λ end. IfSome left (λ input. EndsWorld IsText old new input left' before now end))
  pub crash : IfSome left (λ input. IfSome before (λ bytes. LeavesBooks IsText (page_count old.size) input old new))
  pub cause : IfErr answer (λ end. IsWorldCause CanShow old new before now faults end)
  pub holds : answer ≢ Err (lines_end.Answering (run_end.Serve serve_end.DiskFault))
      → IfSome left (λ input. HoldsAgain (page_count old.size) old new)
  pub reads : IfSome left (λ input. ReadsServing old new input)
  pub syncs : IfSome left (λ input. SyncsServing old new input)
  pub honest : Honest old → Honest new
  pub goes_on : GoesOn old new

abbrev pub in_world : {T : Type 0} → Result T RunEnd → Result T LinesEnd
in_world (Ok done) = Ok done
in_world (Err end) = Err (lines_end.Answering end)
