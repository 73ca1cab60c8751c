-- What a run over a screen sends: the texts of the replies, with the pictures of the book.
use Rattle.std.proofs.Common.{◌≡◌, ℕ, List, [], ◌∷◌, ◌++◌, length, Option, Some, None, Result, Ok, Err, IfSome, IfErr, OnOk, All, refl, ap}
use Rattle.std.proofs.Common.{subst, inr, sym, ◌∙◌, arith}
use Rattle.std.specs.List.{filter}
use Rattle.std.proofs.lemmas.List.Elements.{All-tail}
use Rattle.line_raster.specs.Canvas.{Canvas}
use Rattle.zoom_session.specs.declared.session.Session.{Session}
use Rattle.chart_world.specs.LineLaws.{lines_none}
use Rattle.chart_world.specs.Fronts.{says}
use Rattle.chart_frames.specs.declared.frame.Frame.{Frame}
use Rattle.chart_frames.specs.Frames.{Fits, spelling}
use Rattle.chart_client.specs.declared.holding.Holding.{Holding}
use Rattle.chart_client.specs.declared.errors.ClientError.{ClientError}
use Rattle.chart_client.specs.declared.errors.ClientError.TheVariants as client
use Rattle.chart_client.specs.Accepting.{Accepts, Rejects, HasNumber}
use Rattle.chart_client.specs.Showing.{Spells, RejectsBytes, ScreenGives}
use Rattle.chart_service.specs.State.{State, IsSound}
use Rattle.chart_service.specs.Replies.{RepliesToLine}
use Rattle.chart_service.specs.declared.failure.ServeEnd.TheVariants as serve_end
use Rattle.chart_service.specs.Telling.{Tells, first_replied, text_told, first_told, front_told, taken_told, within_told, some_told}
use Rattle.chart_service.specs.Serving.{told, RepliesToAll, SendsText, SendsFrontOf, SendsTaken, SendsWithin, SendsSome, SendsLines}
use Rattle.drawn_replies.specs.Mirrors.{Mirrors, OnlyLacksMemory}
use Rattle.drawn_replies.specs.Pictures.{AcceptsAll, ArePictured}
use Rattle.chart_program.specs.declared.run_end.RunEnd.{RunEnd}
use Rattle.chart_program.specs.declared.run_end.RunEnd.TheVariants as run_end
use Rattle.served_fronts.specs.Texts.{text_of, texts_of}
use Rattle.chart_program.specs.Runs.{AreShown, AreShownFrom, ShowFails, EndsRunAt}
use Rattle.chart_program.specs.Served.{AreTexts}

-- ---- a screen

-- bytes that spell two frames spell one
abbrev pub OneFrame : Type 0
OneFrame = (f g : Frame) (x y : List ℕ) → Fits f → Fits g → spelling f ++ x ≡ spelling g ++ y → (f ≡ g) × (x ≡ y)

pub shown_frame : OneFrame → (f g : Frame) → Fits f → Spells (spelling f) g → f ≡ g
shown_frame one f g fits spells = (one f g [] [] fits spells.fits (ap (λ l. l ++ []) spells.is)).0

-- what a screen shows of the frames that answer lines is what a client draws of them
screen_draws : OneFrame → (all lines : List (Option (List ℕ))) (frames : List Frame) (text : List ℕ) (old new : State) (h h' : List Holding)
    → RepliesToAll old lines frames new
    → AreShown ScreenGives h h' all frames text → (drawings : List (Option Canvas)) × AcceptsAll h frames drawings h'
    × (text ≡ texts_of frames drawings)
screen_draws one all [] [] text old new h h' replied shown = ([], shown.1, shown.0)
screen_draws one all [] (f ∷ fs) text old new h h' replied shown = absurd replied
screen_draws one all (l ∷ ls) [] text old new h h' replied shown = absurd replied
screen_draws one all (l ∷ ls) (f ∷ fs) text old new h h' replied shown =
    let later = screen_draws one all ls fs shown.2 replied.0 new shown.1 h' replied.2 shown.5 in
    let same : f ≡ shown.0.frame = shown_frame one f shown.0.frame replied.1.1 shown.3.0 in
    let A : Frame → Type 0 = λ g. Accepts g shown.0.bitmap h shown.1 in (
      shown.0.bitmap ∷ later.0,
      (shown.1, subst A (sym same) shown.3.1, later.1),
      shown.4 ∙ ap (λ g. text_of g shown.0.bitmap (length (spelling f)) ++ shown.2) (sym same)
          ∙ ap (λ t. text_of f shown.0.bitmap (length (spelling f)) ++ t) later.2,
    )

-- and so of any frames whose fields meet their rules
pub screen_accepts : OneFrame → (all : List (Option (List ℕ))) (frames : List Frame) (text : List ℕ) (h h' : List Holding) → All Fits frames
    → AreShown ScreenGives h h' all frames text
    → (drawings : List (Option Canvas)) × AcceptsAll h frames drawings h' × (text ≡ texts_of frames drawings)
screen_accepts one all [] text h h' fits shown = ([], shown.1, shown.0)
screen_accepts one all (f ∷ fs) text h h' fits shown =
    let later = screen_accepts one all fs shown.2 shown.1 h' (All-tail Fits f fs fits) shown.5 in
    let same : f ≡ shown.0.frame = shown_frame one f shown.0.frame (fits 0 f (omega arith)) shown.3.0 in
    let A : Frame → Type 0 = λ g. Accepts g shown.0.bitmap h shown.1 in (
      shown.0.bitmap ∷ later.0,
      (shown.1, subst A (sym same) shown.3.1, later.1),
      shown.4 ∙ ap (λ g. text_of g shown.0.bitmap (length (spelling f)) ++ shown.2) (sym same)
          ∙ ap (λ t. text_of f shown.0.bitmap (length (spelling f)) ++ t) later.2,
    )

-- a client that holds no lists mirrors a service without sessions
mirrors_none : (start : State) → start.sessions ≡ [] → Mirrors start.sessions []
mirrors_none start alone = let P : List Session → Type 0 = λ s. Mirrors s [] in subst P (sym alone) refl

abbrev pub AllDraw : Type 0
AllDraw = (lines : List (Option (List ℕ))) (frames : List Frame) (drawings : List (Option Canvas)) (old new : State)
    (holdings now : List Holding) → IsSound old
    → RepliesToAll old lines frames new → Mirrors old.sessions holdings → AcceptsAll holdings frames drawings now
    → ArePictured old lines frames drawings new × Mirrors new.sessions now

abbrev pub OneLacks : Type 0
OneLacks = (line : Option (List ℕ)) (frame : Frame) (old new : State) (holdings : List Holding) → IsSound old
    → RepliesToLine line frame old new → Mirrors old.sessions holdings → OnlyLacksMemory frame holdings

pub screen_texts : OneFrame → AllDraw → (start : State) → start.sessions ≡ [] → IsSound start → (h : List Holding)
    → Tells start (AreShown ScreenGives [] h) (AreTexts start)
screen_texts one draws start alone sound h lines frames text new replied shown =
    let drawn = screen_draws one lines lines frames text start new [] h replied shown in
    record {
      drawings = drawn.0;
      state = new;
      pictured = (draws lines frames drawn.0 start new [] h sound replied
          (mirrors_none start alone) drawn.1).0;
      texts = drawn.2;
    }

pub any_texts : OneFrame → AllDraw → (start : State) → start.sessions ≡ [] → IsSound start
    → Tells start (AreShownFrom ScreenGives []) (AreTexts start)
any_texts one draws start alone sound lines frames text new replied shown = screen_texts one draws start alone sound shown.0 lines frames
    text new replied shown.1

-- ---- how a run ends

sound_after : (lines : List (Option (List ℕ))) (frames : List Frame) (old new : State) → IsSound old → RepliesToAll old lines frames new
    → IsSound new
sound_after [] [] old new sound replied = subst IsSound (sym replied) sound
sound_after [] (f ∷ fs) old new sound replied = absurd replied
sound_after (l ∷ ls) [] old new sound replied = absurd replied
sound_after (l ∷ ls) (f ∷ fs) old new sound replied = sound_after ls fs replied.0 new replied.1.2 replied.2

-- nothing but want of memory keeps a screen from showing the next frame
fails_at : OneFrame → AllDraw → OneLacks → (start : State) → start.sessions ≡ [] → IsSound start
    → (input : List ℕ) (new : State) (h : List Holding) (before now : Option (List ℕ)) (e : ClientError)
    → (f : ShowFails ScreenGives [] h input start new before now e) → RejectsBytes (spelling f.frame) e f.screen → e ≡ client.NoMemory
fails_at one draws lacks start alone sound input new h before now e f rejects =
    let a = f.first.answers in
    let drawn = screen_draws one (told f.first.front)
    (told f.first.front) a.frames f.first.text start f.between [] f.screen a.replied a.texts in
    let mirrors = (draws (told f.first.front) a.frames drawn.0 start f.between [] f.screen sound a.replied
    (mirrors_none start alone) drawn.1).1 in
    let next = first_replied f.between new (told f.next.front) f.next.frames f.frame f.later f.is_first f.next.replied in
    let same : f.frame ≡ rejects.frame = shown_frame one f.frame rejects.frame next.replied.1 rejects.spelled in
    let R : Frame → Type 0 = λ g. Rejects g e f.screen in
    lacks next.line f.frame f.between next.between f.screen
    (sound_after (told f.first.front) a.frames start f.between sound a.replied) next.replied.0 mirrors e
    (subst R (sym same) rejects.rejects)

-- what ends a run over a screen that isn't a fault of the disk, in the words of its texts
abbrev pub EndsTexts : List ℕ → State → State → Option (List ℕ) → Option (List ℕ) → Option (List ℕ) → RunEnd → Type 0
EndsTexts input start new left before now (run_end.Serve serve_end.ReadFault) = IfSome left
    (λ bytes. SendsTaken (AreTexts start) input bytes start new before now)
EndsTexts input start new left before now (run_end.Serve serve_end.SendFault) = SendsFrontOf (AreTexts start) input start new before now
EndsTexts input start new left before now (run_end.Serve serve_end.DiskFault) = ⊥
EndsTexts input start new left before now (run_end.Serve (serve_end.Damaged page)) = ⊥
EndsTexts input start new left before now (run_end.Serve serve_end.InputTooLong) = SendsWithin (AreTexts start) input start new before now
EndsTexts input start new left before now (run_end.Serve serve_end.NoMemory) = SendsSome (AreTexts start) input start new before now
EndsTexts input start new left before now (run_end.Show client.NoMemory) = SendsSome (AreTexts start) input start new before now
EndsTexts input start new left before now (run_end.Show e) = ⊥

pub texts_end : OneFrame → AllDraw → OneLacks → (start : State) → start.sessions ≡ [] → IsSound start
    → (input : List ℕ) (new : State) (h : List Holding) (left before now : Option (List ℕ)) (end : RunEnd)
    → EndsRunAt ScreenGives [] h input start new left before now end → EndsTexts input start new left before now end
texts_end one draws lacks start alone sound input new h None before now (run_end.Serve serve_end.ReadFault) ends = tt
texts_end one draws lacks start alone sound input new h (Some bytes) before now (run_end.Serve serve_end.ReadFault) ends =
    taken_told (AreShown ScreenGives [] h) (AreTexts start) input bytes start new before now
    (screen_texts one draws start alone sound h) ends
texts_end one draws lacks start alone sound input new h left before now (run_end.Serve serve_end.SendFault) ends =
    front_told (AreShown ScreenGives [] h) (AreTexts start) input start new before now (screen_texts one draws start alone sound h) ends
texts_end one draws lacks start alone sound input new h left before now (run_end.Serve serve_end.DiskFault) ends = absurd ends
texts_end one draws lacks start alone sound input new h left before now (run_end.Serve (serve_end.Damaged page)) ends = absurd ends
texts_end one draws lacks start alone sound input new h left before now (run_end.Serve serve_end.InputTooLong) ends =
    within_told (AreShown ScreenGives [] h) (AreTexts start) input start new before now (screen_texts one draws start alone sound h) ends
texts_end one draws lacks start alone sound input new h left before now (run_end.Serve serve_end.NoMemory) ends =
    some_told (AreShown ScreenGives [] ends.0) (AreTexts start) input start new before now
    (screen_texts one draws start alone sound ends.0) ends.1
texts_end one draws lacks start alone sound input new h left before now (run_end.Show client.NoMemory) ends = record {
  rest = ends.rest;
  between = ends.between;
  first = first_told (AreShown ScreenGives [] ends.screen) (AreTexts start) input ends.rest start ends.between before now
      (screen_texts one draws start alone sound ends.screen) ends.first;
  state = inr ends.next;
}
texts_end one draws lacks start alone sound input new h left before now (run_end.Show (client.Missing key)) ends =
    let never : client.Missing key ≡ client.NoMemory = fails_at one draws lacks start alone sound input new h before now
    (client.Missing key) ends ends.fails.0 in
    cc
texts_end one draws lacks start alone sound input new h left before now (run_end.Show (client.BadCoefficient key)) ends =
    let never : client.BadCoefficient key ≡ client.NoMemory = fails_at one draws lacks start alone sound input new h before now
    (client.BadCoefficient key) ends ends.fails.0 in
    cc
texts_end one draws lacks start alone sound input new h left before now (run_end.Show (client.UnknownSession number)) ends =
    let never : client.UnknownSession number ≡ client.NoMemory = fails_at one draws lacks start alone sound input new h before now
    (client.UnknownSession number) ends ends.fails.0 in
    cc

pub texts_all : OneFrame → AllDraw → (start : State) → start.sessions ≡ [] → IsSound start
    → (input : List ℕ) (new : State) (h : List Holding) (before now : Option (List ℕ))
    → SendsText (AreShown ScreenGives [] h) input start new before now → SendsText (AreTexts start) input start new before now
texts_all one draws start alone sound input new h before now sends = text_told (AreShown ScreenGives [] h)
    (AreTexts start) input start new before now (screen_texts one draws start alone sound h) sends

pub texts_lines : OneFrame → AllDraw → (start : State) → start.sessions ≡ [] → IsSound start
    → (input : List ℕ) (h : List Holding) (before now : Option (List ℕ))
    → SendsLines (AreShown ScreenGives [] h) input start before now → SendsLines (AreTexts start) input start before now
texts_lines one draws start alone sound input h before now lines =
    record {
      rest = lines.rest;
      between = lines.between;
      first = first_told (AreShown ScreenGives [] h) (AreTexts start) input lines.rest start lines.between before now
          (screen_texts one draws start alone sound h) lines.first;
    }

-- nothing is said to no lines
pub texts_none : (start : State) → AreTexts start (told []) [] []
texts_none start =
    let P : List (Option (List ℕ)) → Type 0 = λ l. AreTexts start (filter says l) [] [] in
    subst P (sym lines_none) (record { drawings = []; state = start; pictured = (refl, refl, refl); texts = refl })

pub ok_so : {T E : Type 0} (r : Result T E) (P Q : Type 0) → OnOk r P → (P → Q) → OnOk r Q
ok_so (Ok v) P Q is more = more is
ok_so (Err e) P Q is more = tt

pub err_so : {T E : Type 0} (r : Result T E) (P Q : E → Type 0) → IfErr r P → ((e : E) → P e → Q e) → IfErr r Q
err_so (Ok v) P Q is more = tt
err_so (Err e) P Q is more = more e is

-- a key that a screen's error names has a number
abbrev pub Numbered : Type 0
Numbered = (frame : Frame) (old : List Holding) (e : ClientError) → Rejects frame e old → HasNumber e
