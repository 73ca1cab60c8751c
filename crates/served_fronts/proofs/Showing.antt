-- The answers to lines, and what is drawn of a front of them.
use Rattle.std.proofs.Common.{◌≡◌, ℕ, ◌+◌, ◌-◌, true, false, List, [], ◌∷◌, ◌++◌, length, map, Option, refl, ap, sym}
use Rattle.std.proofs.Common.{subst, ◌∙◌, append-nil}
use Rattle.std.proofs.lemmas.List.Elements.{All-nil, All-cons}
use Rattle.std.specs.Prelude.{flat_map, nat_le, All, if◌then◌else◌}
use Rattle.series_book.specs.declared.one_series.Series.{Series}
use Rattle.view_keys.specs.Laws.{NeededKeysAreFew}
use Rattle.line_raster.specs.Canvas.{Canvas}
use Rattle.chart_frames.specs.declared.frame.Frame.{Frame}
use Rattle.chart_frames.specs.Format.{number_in}
use Rattle.chart_frames.specs.Frames.{spelling}
use Rattle.chart_service.specs.State.{State}
use Rattle.chart_service.specs.Serving.{RepliesToAll}
use Rattle.chart_service.specs.Replies.{RepliesToLine}
use Rattle.drawn_replies.specs.Mirrors.{IsPictureOf}
use Rattle.drawn_replies.specs.Pictures.{ArePictured}
use Rattle.draw_command.specs.Covers.{picture_bytes}
use Rattle.served_fronts.specs.Books.{Line, said_by, after_line}
use Rattle.served_fronts.specs.Fronts.{whole_frames}
use Rattle.served_fronts.specs.Answers.{OpenSession, Answer, IsFrame, AreAnswers, bytes_of, whole_in, ArePictures}
use Rattle.served_fronts.proofs.Agreeing.{OneReply}
use Rattle.served_fronts.proofs.Books.{by_line}
use Rattle.served_fronts.proofs.Fronts.{Told}
use Rattle.served_fronts.proofs.Saying.{OneReading, open_in, line_said, picture_of, told_kind}

-- no picture
none_drawn : (old state : State) (lines : List Line) (drawings : List (Option Canvas)) → ArePictured old lines [] drawings state
    → ArePictures [] (flat_map picture_bytes drawings)
none_drawn old state [] drawings is = ap (λ ds. flat_map picture_bytes ds) is.1
none_drawn old state (l ∷ ls) drawings is = absurd is

module _ (either : OneReading) (bound : NeededKeysAreFew) (told : Told) (one : OneReply) where
  abbrev pub answers_of : (lines : List Line) (frames : List Frame) (old new : State) → RepliesToAll old lines frames new → List Answer
  answers_of [] [] old new replied = []
  answers_of [] (f ∷ fs) old new replied = []
  answers_of (l ∷ ls) [] old new replied = []
  answers_of (l ∷ ls) (f ∷ fs) old new replied =
      record {
        bytes = spelling f;
        reply =
            (line_said either bound l old replied.0 f replied.1.0).reply;
      } ∷ answers_of ls fs replied.0 new replied.2

  pub spelled : (lines : List Line) (frames : List Frame) (old new : State) → (replied : RepliesToAll old lines frames new)
      → bytes_of (answers_of lines frames old new replied) ≡ flat_map spelling frames
  spelled [] [] old new replied = refl
  spelled [] (f ∷ fs) old new replied = absurd replied
  spelled (l ∷ ls) [] old new replied = absurd replied
  spelled (l ∷ ls) (f ∷ fs) old new replied = ap (λ bytes. spelling f ++ bytes) (spelled ls fs replied.0 new replied.2)

  pub each : (lines : List Line) (frames : List Frame) (old new : State) → (replied : RepliesToAll old lines frames new)
      → map (λ answer. answer.bytes) (answers_of lines frames old new replied) ≡ map spelling frames
  each [] [] old new replied = refl
  each [] (f ∷ fs) old new replied = absurd replied
  each (l ∷ ls) [] old new replied = absurd replied
  each (l ∷ ls) (f ∷ fs) old new replied = ap (λ bytes. spelling f ∷ bytes) (each ls fs replied.0 new replied.2)

  pub fit : (lines : List Line) (frames : List Frame) (old new : State) → (replied : RepliesToAll old lines frames new)
      → AreAnswers old.total old.book (open_in old) (map said_by lines) (answers_of lines frames old new replied)
  fit [] [] old new replied = tt
  fit [] (f ∷ fs) old new replied = absurd replied
  fit (l ∷ ls) [] old new replied = absurd replied
  fit (l ∷ ls) (f ∷ fs) old new replied =
      let said = line_said either bound l old replied.0 f replied.1.0 in
      let later = answers_of ls fs replied.0 new replied.2 in
      let book = by_line old replied.0 f l replied.1.0 in
      let T : ℕ → Type 0 = λ total. AreAnswers total replied.0.book (open_in replied.0) (map said_by ls) later in
      let B : List Series → Type 0 = λ b. AreAnswers old.total b (open_in replied.0) (map said_by ls) later in
      let O : List OpenSession → Type 0 = λ o. AreAnswers old.total (after_line old.total old.book l) o (map said_by ls) later in
      let behind = subst O said.open_is (subst B book.0 (subst T book.1 (fit ls fs replied.0 new replied.2))) in
      (said.fits, behind)

  pub frames_are : (lines : List Line) (frames : List Frame) (old new : State) → (replied : RepliesToAll old lines frames new)
      → All (λ answer. IsFrame answer.reply answer.bytes) (answers_of lines frames old new replied)
  frames_are [] [] old new replied = All-nil (λ answer. IsFrame answer.reply answer.bytes)
  frames_are [] (f ∷ fs) old new replied = absurd replied
  frames_are (l ∷ ls) [] old new replied = absurd replied
  frames_are (l ∷ ls) (f ∷ fs) old new replied =
      let said = line_said either bound l old replied.0 f replied.1.0 in
      let size = told f [] replied.1.1 ∙ ap (λ l. 4 + number_in 4 l) (append-nil (spelling f)) in
      let answer : Answer = record { bytes = spelling f; reply = said.reply } in
      let is : IsFrame said.reply (spelling f) = record { size = size; kind = told_kind said.reply f said.tells } in
      All-cons (λ a. IsFrame a.reply a.bytes) answer (answers_of ls fs replied.0 new replied.2) is
      (frames_are ls fs replied.0 new replied.2)

  step : (l : Line) (ls : List Line) (f : Frame) (rest : List Frame) (old between : State) (is : RepliesToLine l f old between)
      (later : List Answer)
      (behind : List Line) (state : State)
      → ((front : List Line) (drawings : List (Option Canvas)) → ls ≡ front ++ behind → ArePictured between front rest drawings state
      → ArePictures later (flat_map picture_bytes drawings))
      → (front : List Line) (drawings : List (Option Canvas)) → l ∷ ls ≡ front ++ behind → ArePictured old front (f ∷ rest) drawings state
      → ArePictures (record { bytes = spelling f; reply = (line_said either bound l old between f is).reply } ∷ later)
      (flat_map picture_bytes drawings)
  step l ls f rest old between is later behind state all [] drawings split pictured = absurd (let none : f ∷ rest ≡ [] = pictured.0 in cc)
  step l ls f rest old between is later behind state all (x ∷ xs) [] split pictured = absurd pictured
  step l ls f rest old between is later behind state all (x ∷ xs) (d ∷ ds) split pictured =
      let first : l ≡ x = cc in
      let split_on : ls ≡ xs ++ behind = cc in
      let L : Line → Type 0 = λ line. RepliesToLine line f old pictured.0 in
      let same = (one l f f old between pictured.0 is (subst L (sym first) pictured.1)).1 in
      let P : State → Type 0 = λ s. IsPictureOf old s f d in
      let Q : State → Type 0 = λ s. ArePictured s xs rest ds state in
      let said = line_said either bound l old between f is in
      let shows = picture_of said.reply d (said.shows d (subst P (sym same) pictured.2)) in
      (picture_bytes d, flat_map picture_bytes ds, shows, all xs ds split_on (subst Q (sym same) pictured.3), refl)

  pub drawn : (n : ℕ) (lines : List Line) (frames : List Frame) (old new : State) → (replied : RepliesToAll old lines frames new)
      → (front behind : List Line) (drawings : List (Option Canvas)) (state : State) → lines ≡ front ++ behind
      → ArePictured old front (whole_frames n frames) drawings state
      → ArePictures (whole_in n (answers_of lines frames old new replied)) (flat_map picture_bytes drawings)
  drawn n [] [] old new replied front behind drawings state split pictured = none_drawn old state front drawings pictured
  drawn n [] (f ∷ fs) old new replied front behind drawings state split pictured = absurd replied
  drawn n (l ∷ ls) [] old new replied front behind drawings state split pictured = absurd replied
  drawn n (l ∷ ls) (f ∷ fs) old new replied front behind drawings state split pictured =
      let answer : Answer = record { bytes = spelling f; reply = (line_said either bound l old replied.0 f replied.1.0).reply } in
      let m = n - length (spelling f) in
      let rest = whole_frames m fs in
      let later = whole_in m (answers_of ls fs replied.0 new replied.2) in
      (elim (nat_le (length (spelling f)) n) as (λ b. ArePictured old front (if b then f ∷ rest else []) drawings state
      → ArePictures (if b then answer ∷ later else []) (flat_map picture_bytes drawings)) [
        | true ↦ λ p. step l ls f rest old replied.0 replied.1.0 later behind state
            (λ xs ds is q. drawn m ls fs replied.0 new replied.2 xs behind ds state is q) front drawings split p
        | false ↦ λ p. none_drawn old state front drawings p
      ]) pictured
