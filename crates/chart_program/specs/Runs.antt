-- What `run_on` sends: for each line that isn't empty the text of what its frame shows.
use Rattle.std.specs.Prelude.{◌≡◌, ℕ, List, [], ◌∷◌, ◌++◌, length, Option, IfSome, Result, Ok, Err, ⊤}
use Rattle.block_disk.specs.View.{Image}
use Rattle.chart_frames.specs.declared.frame.Frame.{Frame}
use Rattle.chart_frames.specs.Frames.{spelling}
use Rattle.chart_client.specs.declared.errors.ClientError.{ClientError}
use Rattle.chart_client.specs.declared.show.Shown.{Shown}
use Rattle.chart_service.specs.State.{State}
use Rattle.chart_service.specs.Serving.{SendsFirst, SendsFrontOf, SendsTaken, SendsWithin, SendsSome, SendsLines, AnswersNext}
use Rattle.chart_service.specs.Serving as serving
use Rattle.chart_service.specs.Shown as service
use Rattle.chart_service.specs.declared.failure.AnswerEnd.{AnswerEnd}
use Rattle.chart_service.specs.declared.failure.AnswerEnd.TheVariants as answers
use Rattle.chart_service.specs.declared.service.Service.{Service}
use Rattle.gate_pages.specs.declared.pages.Pages.{Ghosts}
use Rattle.series_book.specs.declared.one_series.Series.{Series}
use Rattle.chart_service.specs.Stepping.{StandsAfter}
use Rattle.chart_service.specs.declared.failure.ServeEnd.TheVariants.{ReadFault, SendFault, DiskFault, Damaged, InputTooLong, NoMemory}
use Rattle.zoom_session.specs.declared.session.Session.{Session}
use Rattle.chart_program.specs.declared.run_end.RunEnd.{RunEnd}
use Rattle.chart_program.specs.declared.run_end.RunEnd.TheVariants.{Serve, Show}
use Rattle.served_fronts.specs.Texts.{text_of}

-- what showing may answer and leave, as a `Show` says it
abbrev pub Gives : Type 0 → Type 1
Gives V = V → List ℕ → Result Shown ClientError → V → Type 0

-- The spellings of the frames were given to `show` one after the other, and the text is that of what it
-- showed.
abbrev pub AreShown : {V : Type 0} → Gives V → V → V → List (Option (List ℕ)) → List Frame → List ℕ → Type 0
AreShown gives old new lines [] text = (text ≡ []) × (new ≡ old)
AreShown {V} gives old new lines (frame ∷ frames) text =
    (shown : Shown) × (between : V) × (rest : List ℕ) × gives old (spelling frame) (Ok shown) between
    × (text ≡ text_of shown.frame shown.bitmap (length (spelling frame)) ++ rest) × AreShown gives between new lines frames rest

-- the same, whatever `show` is left as
abbrev pub AreShownFrom : {V : Type 0} → Gives V → V → List (Option (List ℕ)) → List Frame → List ℕ → Type 0
AreShownFrom {V} gives old lines frames text = (new : V) × AreShown gives old new lines frames text

-- the bytes are the text of what a frame's spelling showed
abbrev pub IsShownText : {V : Type 0} → Gives V → Frame → V → V → List ℕ → Type 0
IsShownText gives frame old new text =
    (shown : Shown) × gives old (spelling frame) (Ok shown) new × (text ≡ text_of shown.frame shown.bitmap (length (spelling frame)))

-- why there is no text of a frame
abbrev pub TextStops : {V : Type 0} → Gives V → Frame → V → V → RunEnd → Type 0
TextStops gives frame old new (Serve ReadFault) = ⊥
TextStops gives frame old new (Serve SendFault) = ⊥
TextStops gives frame old new (Serve DiskFault) = ⊥
TextStops gives frame old new (Serve (Damaged page)) = ⊥
TextStops gives frame old new (Serve InputTooLong) = ⊥
TextStops gives frame old new (Serve NoMemory) = ⊤
TextStops gives frame old new (Show e) = gives old (spelling frame) (Err e) new

-- what making the text of a frame may answer and leave
abbrev pub MakesText : {V : Type 0} → Gives V → V → Frame → Result (List ℕ) RunEnd → V → Type 0
MakesText gives old frame (Ok text) new = IsShownText gives frame old new text
MakesText gives old frame (Err end) new = TextStops gives frame old new end

-- what the answering of lines by texts answers, as the end of a run
abbrev pub run_answer : {T : Type 0} → Result T (AnswerEnd RunEnd) → Result T RunEnd
run_answer (Ok done) = Ok done
run_answer (Err (answers.Serve end)) = Err (Serve end)
run_answer (Err (answers.Reply end)) = Err end

-- The text for some first lines was sent, lines behind them were done ahead, and showing their first frame gave this error.
pub record ShowFails {V : Type 0} (gives : Gives V) (shown shown' : V) (input : List ℕ) (old new : State) (before now : Option (List ℕ))
    (e : ClientError) : Type 0 where
  pub rest : List ℕ
  pub between : State
  pub screen : V
  pub first : SendsFirst (AreShown gives shown screen) input rest old between before now
  pub next : AnswersNext (length first.front) rest between new
  pub frame : Frame
  pub later : List Frame
  pub is_first : next.frames ≡ frame ∷ later
  pub fails : gives screen (spelling frame) (Err e) shown'

-- why not all lines of the input were answered, and what was sent, where the pages stand for a book then
abbrev pub EndsRunAt : {V : Type 0} → Gives V → V → V → List ℕ → State → State → Option (List ℕ) → Option (List ℕ) → Option (List ℕ)
    → RunEnd → Type 0
EndsRunAt gives shown shown' input old new left before now (Serve ReadFault) =
    IfSome left (λ bytes. SendsTaken (AreShown gives shown shown') input bytes old new before now)
EndsRunAt gives shown shown' input old new left before now (Serve SendFault) = SendsFrontOf
    (AreShown gives shown shown') input old new before now
EndsRunAt gives shown shown' input old new left before now (Serve DiskFault) = ⊥
EndsRunAt gives shown shown' input old new left before now (Serve (Damaged page)) = ⊥
EndsRunAt gives shown shown' input old new left before now (Serve InputTooLong) = SendsWithin
    (AreShown gives shown shown') input old new before now
EndsRunAt {V} gives shown shown' input old new left before now (Serve NoMemory) =
    (screen : V) × SendsSome (AreShown gives shown screen) input old new before now
EndsRunAt gives shown shown' input old new left before now (Show e) = ShowFails gives shown shown' input old new before now e

-- Why not all lines of the input were answered, and what was sent. Where it is no fault of the disk, the pages stand for
-- a book then; no page is damaged.
abbrev pub EndsRun : {V : Type 0} → Gives V → V → V → Option (List ℕ) → State → Image → List Session → Option (List ℕ) → Option (List ℕ)
    → Option (List ℕ) → RunEnd → Type 0
EndsRun {V} gives shown shown' o old image sessions left before now (Serve DiskFault) =
    (screen : V) × IfSome o (λ input. SendsLines (AreShown gives shown screen) input old before now)
EndsRun gives shown shown' o old image sessions left before now (Serve (Damaged page)) = ⊥
EndsRun gives shown shown' o old image sessions left before now end =
    StandsAfter old.total image sessions (λ new. IfSome o (λ input. EndsRunAt gives shown shown' input old new left before now end))

-- a page that the end names is one of the store's, or damaged where reads give what the pages are
abbrev pub EndsAtBad : Type 0 → ℕ → Image → RunEnd → Type 0
EndsAtBad told count image (Serve end) = serving.EndsAtBad told count image end
EndsAtBad told count image (Show e) = ⊤

-- an error of showing is one that `show` answered
abbrev pub IsShown : {V : Type 0} → Gives V → RunEnd → Type 0
IsShown gives (Serve end) = ⊤
IsShown {V} gives (Show e) = (old : V) × (bytes : List ℕ) × (new : V) × gives old bytes (Err e) new

-- why not all lines of a service's input were answered, and what was sent
abbrev pub RunEndsBy : {P V : Type 0} {g : Ghosts P} → (P → Option (List ℕ)) → (P → Option (List ℕ)) → Gives V → V → V → ℕ → List Series
    → Service P g → Service P g → RunEnd → Type 0
RunEndsBy left sent gives shown shown' total book old new =
    EndsRun gives shown shown' (left (service.pages old)) (service.state old total book) (service.image new) (service.sessions new)
    (left (service.pages new)) (sent (service.pages old)) (sent (service.pages new))
