-- Edits that are done together, and the lines that spell them.
use Rattle.std.specs.Prelude.{ℕ, ◌≡◌, ◌+◌, ◌*◌, ◌≤◌, List, [], ◌∷◌, ◌++◌, length, map, take, Option, None, Some, Result, Ok, Err, ⊤}
use Rattle.block_disk.specs.View.{Image}
use Rattle.chart_frames.specs.declared.frame.Frame.{Frame}
use Rattle.chart_frames.specs.declared.frame.Frame.TheVariants.{Done, Refused, Opened, Closed, View, Rows, Live, Report}
use Rattle.request_lines.specs.declared.requests.Request.TheVariants.{Edit as EditRequest}
use Rattle.request_lines.specs.Requests.{read_line}
use Rattle.series_book.specs.declared.edits.Edit.{Edit}
use Rattle.series_book.specs.declared.one_series.Series.{Series}
use Rattle.series_book.specs.declared.refusals.Refusal.{Refusal}
use Rattle.series_book.specs.EditLists.{after_edits, edits_give}
use Rattle.stored_book.specs.Standing.{StandsForBook}
use Rattle.series_store.specs.Groups.{AreMany}
use Rattle.series_store.specs.declared.errors.StoreError.{StoreError}
use Rattle.series_store.specs.declared.errors.StoreError.TheVariants as store
use Rattle.chart_service.specs.Replies.{refused}
use Rattle.chart_service.specs.State.{State}
use Rattle.chart_service.specs.Stepping.{RepliedTo}
use Rattle.chart_service.specs.declared.failure.ServiceError.{ServiceError}
use Rattle.chart_service.specs.declared.failure.ServiceError.TheVariants.{DiskFault, Damaged, NoMemory}

-- what edits do, one after the other: by which frames they are answered, and to which state
abbrev pub RepliesToEdits : List Edit → List Frame → State → State → Type 0
RepliesToEdits [] [] old new = new ≡ old
RepliesToEdits [] (frame ∷ frames) old new = ⊥
RepliesToEdits (edit ∷ later) [] old new = ⊥
RepliesToEdits (edit ∷ later) (frame ∷ frames) old new =
    (between : State) × RepliedTo (EditRequest edit) frame old between × RepliesToEdits later frames between new

-- the pages stand for the book after some first edits of a list
pub record IsAfterSome (total : ℕ) (book : List Series) (edits : List Edit) (image : Image) : Type 0 where
  pub first : List Edit
  pub later : List Edit
  pub edits_are : edits ≡ first ++ later
  pub stands : StandsForBook image total (after_edits total book first)

-- the frame that tells what an edit gave
abbrev pub frame_of : Result ℕ Refusal → Frame
frame_of (Ok slots) = Done slots
frame_of (Err refusal) = refused refusal

-- the frames that tell what edits gave
abbrev pub frames_of : List (Result ℕ Refusal) → List Frame
frames_of given = map frame_of given

-- some first of the edits are done, all or as many as fill a commit, and the frames that tell what they gave stand behind
-- the others
pub record DoesSome (total : ℕ) (book : List Series) (edits : List Edit) (before now : List Frame) (image : Image) : Type 0 where
  pub covered : ℕ
  pub within : covered ≤ length edits
  pub many : AreMany total book edits covered
  pub frames_are : now ≡ before ++ frames_of (edits_give total book (take covered edits))
  pub stands : StandsForBook image total (after_edits total book (take covered edits))

-- the frame tells what an edit gave
abbrev pub IsEditReply : Frame → Type 0
IsEditReply (Done slots) = ⊤
IsEditReply (Refused number a b) = ⊤
IsEditReply (Opened session cache) = ⊥
IsEditReply (Closed session) = ⊥
IsEditReply (View view) = ⊥
IsEditReply (Rows rows) = ⊥
IsEditReply (Live session on) = ⊥
IsEditReply (Report report) = ⊥

-- some first of the edits are answered, and the pages stand for the book then
pub record AnswersSome (edits : List Edit) (old : State) (image : Image) : Type 0 where
  pub first : List Edit
  pub later : List Edit
  pub edits_are : edits ≡ first ++ later
  pub frames : List Frame
  pub new : State
  pub replied : RepliesToEdits first frames old new
  pub sessions : new.sessions ≡ old.sessions
  pub total : new.total ≡ old.total
  pub stands : StandsForBook image old.total new.book

-- an error of a group of edits, and what it is for a service
abbrev pub IsOfGroup : StoreError → Type 0
IsOfGroup (store.Refused refusal) = ⊥
IsOfGroup store.NotAStore = ⊥
IsOfGroup store.DiskFault = ⊤
IsOfGroup (store.Damaged page) = ⊤
IsOfGroup store.NoMemory = ⊤

abbrev pub group_end : StoreError → ServiceError
group_end (store.Refused refusal) = NoMemory
group_end store.NotAStore = NoMemory
group_end store.DiskFault = DiskFault
group_end (store.Damaged page) = Damaged page
group_end store.NoMemory = NoMemory

-- ---- lines

-- the line, which isn't empty, spells this edit
abbrev pub SpellsEdit : Option (List ℕ) → Edit → Type 0
SpellsEdit None edit = ⊥
SpellsEdit (Some []) edit = ⊥
SpellsEdit (Some (byte ∷ bytes)) edit = read_line (byte ∷ bytes) ≡ Ok (EditRequest edit)

-- each line spells its edit
abbrev pub SpellEdits : List (Option (List ℕ)) → List Edit → Type 0
SpellEdits [] [] = ⊤
SpellEdits [] (edit ∷ edits) = ⊥
SpellEdits (line ∷ later) [] = ⊥
SpellEdits (line ∷ later) (edit ∷ edits) = SpellsEdit line edit × SpellEdits later edits

-- at most 96 blocks are read for each frame more
abbrev pub ReadsByFrames : List Frame → List Frame → ℕ → ℕ → Type 0
ReadsByFrames before now old new = new + 96 * length before ≤ old + 96 * length now

-- so of all lines that spell these edits
abbrev pub SpelledBy : List Edit → (List (Option (List ℕ)) → Type 0) → Type 0
SpelledBy edits AreSo = (lines : List (Option (List ℕ))) → SpellEdits lines edits → AreSo lines
