-- How the answering of an input's lines ends, over a book.
use Rattle.std.proofs.Common.{◌≡◌, ◌∙◌, ℕ, ◌+◌, ◌≤◌, List, [], ◌++◌, length, Option, None, Some, IfSome, refl, ap, sym, subst}
use Rattle.std.specs.Borrow.{GName}
use Rattle.std.proofs.lemmas.List.{append-nil}
use Rattle.block_disk.specs.View.{Image, View}
use Rattle.chart_world.specs.LineLaws.{told_so}
use Rattle.line_runs.specs.Given.{AreBefore, AreFirst, Given}
use Rattle.line_runs.specs.Runs as runs
use Rattle.series_book.specs.declared.edits.Edit.{Edit}
use Rattle.series_book.specs.declared.one_series.Series.{Series}
use Rattle.stored_book.specs.Standing.{StandsForBook}
use Rattle.zoom_session.specs.declared.session.Session.{Session}
use Rattle.chart_frames.specs.declared.frame.Frame.{Frame}
use Rattle.chart_service.specs.Answering.{EndsAnswers, EndsAt}
use Rattle.chart_service.specs.Making.{Makes, AreMade, AreMadeFrom, LinesMoments, LinesStop, LinesStopAt}
use Rattle.chart_service.specs.Serving.{RepliesToAll, SendsLines, SendsText, SendsTaken, most_ahead, told}
use Rattle.chart_service.specs.Moments.{IsAhead}
use Rattle.chart_service.specs.State.{State}
use Rattle.chart_service.specs.Stepping.{StandsAfter, state_of}
use Rattle.chart_service.specs.declared.failure.AnswerEnd.{AnswerEnd}
use Rattle.chart_service.specs.declared.failure.AnswerEnd.TheVariants.{Serve, Reply}
use Rattle.chart_service.specs.declared.failure.ServeEnd.TheVariants.{ReadFault, SendFault, DiskFault, Damaged, InputTooLong, NoMemory}
use Rattle.chart_service.proofs.Made.{line_stops}
use Rattle.chart_service.proofs.Moments.{at_line, at_rest}
use Rattle.chart_service.proofs.Progress.{Progress, first_at}
use Rattle.chart_service.proofs.Sending.{stands_on}
use Rattle.served_lines.specs.Standing.{IsHeld, StandsSo}
use Rattle.served_lines.specs.Turning.{Answered, Begun, Does, Held, Over, Stand, Turn, lines_of}
use Rattle.served_lines.proofs.Carried.{Turned, all_ended, ended, lines_all, paused, told_are, turned}
use Rattle.served_lines.proofs.Reached.{Passing, behind, passing, place, reached, reading_at}
use Rattle.served_lines.proofs.TurnLemmas.{answered_then}

-- before the first line
abbrev pub first_held : {S : Type 0} → S → ℕ → List Series → List Session → Option (List ℕ) → ℕ → ℕ → Held S
first_held kept total book own before reads syncs =
    record { kept = kept; state = state_of book total own; ahead = []; sent = before; reads = reads; syncs = syncs }

module _ {S F : Type 0} (makes : Makes S F) (v w : S) (total : ℕ) (book : List Series) (own sessions : List Session)
    (before now : Option (List ℕ)) (from syncs : ℕ) (name : GName) (edits : List Edit) (told_now : Type 0) (new : View) where
  abbrev first : Held S
  first = first_held v total book own before from syncs

  abbrev StandsNow : Stand S → Type 0
  StandsNow stand = StandsSo stand name w edits told_now new sessions now

  -- the state behind lines that were given
  abbrev state_now : (h : Held S) → State
  state_now h = state_of h.state.book total sessions

  state_is : (h : Held S) → h.state.total ≡ total → h.state.sessions ≡ sessions → h.state ≡ state_now h
  state_is h same same_sessions = ap (λ t. state_of h.state.book t h.state.sessions) same ∙ ap (state_of h.state.book total) same_sessions

  -- all lines given were answered
  record AllAnswered (text : List ℕ) (bytes : List ℕ) (h : Held S) : Type 0 where
    pub frames : List Frame
    pub replied : RepliesToAll (state_of book total own) (told bytes) frames (state_now h)
    pub made : AreMade makes v w (told bytes) frames text

  module _ (given : List Given) (text : List ℕ) (stand : Stand S) (t : Turned makes first given text stand) (none : t.new.ahead ≡ [])
      (stands : StandsNow stand) where
    held_now : IsHeld t.new w edits told_now new sessions now
    held_now = subst StandsNow t.is stands

    stands_now : StandsForBook new.image total t.new.state.book
    stands_now =
        let P : ℕ → Type 0 = λ n. StandsForBook new.image n t.new.state.book in
        subst P t.turn.answered.total_is held_now.stands

    all_answered : (bytes : List ℕ) → lines_all given ≡ told bytes → AllAnswered text bytes t.new
    all_answered bytes are =
        let one = t.turn.answered in
        let front : one.front ≡ told bytes =
        sym (append-nil one.front) ∙ ap (λ l. one.front ++ l) (sym none) ∙ sym one.split ∙ are in
        let R : List (Option (List ℕ)) → Type 0 = λ l. RepliesToAll (state_of book total own) l one.frames (state_now t.new) in
        let N : State → Type 0 = λ s. RepliesToAll (state_of book total own) one.front one.frames s in
        let M : List (Option (List ℕ)) → Type 0 = λ l. AreMade makes v w l one.frames text in
        let K : S → Type 0 = λ k. AreMade makes v k one.front one.frames text in
        record {
          frames = one.frames;
          replied = subst R front (subst N (state_is t.new one.total_is held_now.sessions_are) one.replied);
          made = subst M front (subst K held_now.kept_is one.made);
        }

  -- after the whole input
  pub done_over : (o : Option (List ℕ)) (pieces pieces' : ℕ)
      → runs.Runs (Does makes) (Over first) (runs.AreAll pieces pieces') StandsNow o before now
      → StandsAfter total new.image sessions (λ after. IfSome o (λ input. SendsText (AreMade makes v w) input (state_of book total own)
      after before now))
  done_over None pieces pieces' all =
      let t = turned makes all.done.given first all.done.text all.done.behind all.done.carries in
      let h : IsHeld t.new w edits told_now new sessions now = subst StandsNow t.is all.stands in
      let P : ℕ → Type 0 = λ n. StandsForBook new.image n t.new.state.book in
      record { book = t.new.state.book; stands = subst P t.turn.answered.total_is h.stands; so = tt }
  done_over (Some input) pieces pieces' all =
      let done = all.done in
      let e = ended makes all.are.earlier done.given first done.text done.behind all.are.paused all.are.given_are done.carries in
      let are : lines_all done.given ≡ told input =
      ap lines_all all.are.given_are ∙ all_ended all.are.earlier ∙ told_are all.are.earlier input all.are.lines_are in
      let a = all_answered done.given done.text done.behind e.0 e.1 all.stands input are in
      record {
        book = e.0.new.state.book;
        stands = stands_now done.given done.text done.behind e.0 e.1 all.stands;
        so = record {
          text = done.text;
          answers = record { frames = a.frames; replied = a.replied; texts = a.made };
          sent = all.sent;
        };
      }

  -- at a failed take
  pub read_over : (o left : Option (List ℕ)) (pieces pieces' : ℕ)
      → runs.Runs (Does makes) (Over first) (runs.AreTaken pieces pieces' left) StandsNow o before now
      → EndsAnswers makes v w o (state_of book total own) new.image sessions left before now (Serve ReadFault)
  read_over None left pieces pieces' all =
      let t = turned makes all.done.given first all.done.text all.done.behind all.done.carries in
      let h : IsHeld t.new w edits told_now new sessions now = subst StandsNow t.is all.stands in
      let P : ℕ → Type 0 = λ n. StandsForBook new.image n t.new.state.book in
      record { book = t.new.state.book; stands = subst P t.turn.answered.total_is h.stands; so = tt }
  read_over (Some input) left pieces pieces' all =
      let done = all.done in
      let are = all.are in
      let e = paused makes done.given first done.text done.behind are.paused done.carries in
      let a = all_answered done.given done.text done.behind e.0 e.1 all.stands are.first.front
      (told_are done.given are.first.front are.first.given_are) in
      record {
        book = e.0.new.state.book;
        stands = stands_now done.given done.text done.behind e.0 e.1 all.stands;
        so = by left a are.behind;
      }
    where
      by : (l : Option (List ℕ)) → {h : Held S} → AllAnswered all.done.text all.are.first.front h
          → IfSome l (runs.Unended all.are.first.rest)
          → IfSome l (λ bytes. SendsTaken (AreMade makes v w) input bytes (state_of book total own) (state_now h) before now)
      by None {h} a after = tt
      by (Some bytes) {h} a after = record {
        rest = all.are.first.rest;
        first = record {
          front = all.are.first.front;
          begins = all.are.first.begins;
          early = all.are.first.early;
          text = all.done.text;
          answers = record { frames = a.frames; replied = a.replied; texts = a.made };
          sent = all.sent;
        };
        whole = all.are.whole;
        partial = after.partial;
        taken = after.taken;
        unended = after.unended;
      }

  -- past 2^32 bytes
  pub long_over : (o left : Option (List ℕ)) (pieces pieces' : ℕ)
      → runs.Runs (Does makes) (Over first) (runs.AreWithin pieces pieces') StandsNow o before now
      → EndsAnswers makes v w o (state_of book total own) new.image sessions left before now (Serve InputTooLong)
  long_over None left pieces pieces' all =
      let t = turned makes all.done.given first all.done.text all.done.behind all.done.carries in
      let h : IsHeld t.new w edits told_now new sessions now = subst StandsNow t.is all.stands in
      let P : ℕ → Type 0 = λ n. StandsForBook new.image n t.new.state.book in
      record { book = t.new.state.book; stands = subst P t.turn.answered.total_is h.stands; so = tt }
  long_over (Some input) left pieces pieces' all =
      let done = all.done in
      let are = all.are in
      let e = paused makes done.given first done.text done.behind are.paused done.carries in
      let a = all_answered done.given done.text done.behind e.0 e.1 all.stands are.first.front
      (told_are done.given are.first.front are.first.given_are) in
      record {
        book = e.0.new.state.book;
        stands = stands_now done.given done.text done.behind e.0 e.1 all.stands;
        so = record {
          rest = are.first.rest;
          first = record {
            front = are.first.front;
            begins = are.first.begins;
            early = are.first.early;
            text = done.text;
            answers = record { frames = a.frames; replied = a.replied; texts = a.made };
            sent = all.sent;
          };
          few = are.first.early;
          unended = are.unended;
          past = are.past;
        };
      }

-- ---- lines on their way

-- lines were given, some of them were answered, and behind those the next ones are on their way
pub record OnWay {S F : Type 0} (makes : Makes S F) (first : Held S) (given : List Given) (it : Given) (text : List ℕ) (next : List
    (Option (List ℕ)))
    (between : Held S) : Type 0 where
  pub answered : Answered makes first between (lines_all given) text
  pub later : List (Option (List ℕ))
  pub next_are : between.ahead ++ lines_of it ≡ next ++ later
  pub some : 1 ≤ length (between.ahead ++ lines_of it)
  pub few : length next ≤ most_ahead

module _ {S F : Type 0} (makes : Makes S F) (v : S) (total : ℕ) (book : List Series) (own : List Session) (before : Option (List ℕ))
    (from syncs : ℕ) where
  abbrev start : Held S
  start = first_held v total book own before from syncs

  -- behind what was given
  pub on_way : (given : List Given) (it : Given) (mid : Held S) (text : List ℕ) (pauses : ℕ)
      → Turn makes start mid (lines_all given) pauses text
      → (b : Begun makes mid (lines_of it)) → OnWay makes start given it (text ++ b.text) b.next b.between
  on_way given it mid text pauses t b =
      let A : List (Option (List ℕ)) → Type 0 = λ l. Answered makes start b.between l (text ++ b.text) in
      record {
        answered = subst A (append-nil (lines_all given))
            (answered_then makes start mid b.between (lines_all given) [] text b.text t.answered b.answered);
        later = b.later;
        next_are = b.next_are;
        some = b.some;
        few = b.few;
      }

  module _ (given : List Given) (it : Given) (text : List ℕ) (next : List (Option (List ℕ))) (between : Held S)
      (way : OnWay makes start given it text next between) where
    between_is : between.state ≡ state_of between.state.book total between.state.sessions
    between_is = ap (λ t. state_of between.state.book t between.state.sessions) way.answered.total_is

    pub told_place : (input : List ℕ) (are : AreBefore input given it) → told are.first.front ≡ way.answered.front ++ between.ahead
    told_place input are = sym (told_are given are.first.front are.first.given_are) ∙ way.answered.split

    -- the place behind the lines that were answered
    abbrev pub count_at : (input : List ℕ) → AreBefore input given it → ℕ
    count_at input are =
        length (place input are.first.front are.first.rest are.first.begins are.first.early way.answered.front between.ahead (told_place
        input are)).front

    abbrev pub rest_at : (input : List ℕ) → AreBefore input given it → List ℕ
    rest_at input are = behind input are.first.front are.first.rest are.first.begins are.first.early way.answered.front between.ahead
        (told_place input are)

    abbrev pub reached_at : (input : List ℕ) (are : AreBefore input given it)
        → Progress (AreMade makes v between.kept) input (Some (rest_at input are)) (count_at input are) (state_of book total own)
        between.state before between.sent
    reached_at input are =
        reached input are.first.front are.first.rest are.first.begins are.first.early way.answered.front between.ahead (told_place input
        are) makes v between.kept
        (state_of book total own) between.state before between.sent way.answered.frames text way.answered.replied way.answered.made
        way.answered.sent

    abbrev pub passing_at : (input : List ℕ) (are : AreBefore input given it)
        → Passing input are.first.front are.first.rest are.first.begins are.first.early way.answered.front between.ahead (told_place input
        are) next
    passing_at input are =
        passing input are.first.front are.first.rest are.first.begins are.first.early way.answered.front between.ahead (told_place input
        are)
        it next way.later are.next_is way.next_are way.some

    -- they stopped the answering
    module _ (w' : S) (image : Image) (sessions : List Session) (left now : Option (List ℕ)) where
      left_free : (input : List ℕ) (new : State) (l : Option (List ℕ)) (end : AnswerEnd F)
          → LinesStopAt makes next between.kept w' between.state new between.sent now end
          → EndsAt makes v w' input (state_of book total own) new l before now end
          → EndsAt makes v w' input (state_of book total own) new left before now end
      left_free input new l (Serve ReadFault) is ends = absurd is
      left_free input new l (Serve SendFault) is ends = ends
      left_free input new l (Serve DiskFault) is ends = absurd is
      left_free input new l (Serve (Damaged page)) is ends = absurd is
      left_free input new l (Serve InputTooLong) is ends = absurd is
      left_free input new l (Serve NoMemory) is ends = ends
      left_free input new l (Reply e) is ends = ends

      stop_at : (end : AnswerEnd F) (input : List ℕ) (are : AreBefore input given it) (new : State)
          → LinesStopAt makes next between.kept w' between.state new between.sent now end
          → EndsAt makes v w' input (state_of book total own) new left before now end
      stop_at end input are new is =
          let p = passing_at input are in
          left_free input new (Some p.later) end is
          (line_stops makes (Some input) (reading_at (count_at input are)) (reading_at (count_at input are + length p.piece)) (Some
          (rest_at input are)) (Some p.later)
          (state_of book total own) between.state new v between.kept w' before between.sent now next p.passes way.few end is (reached_at
          input are))

      stops_standing : (end : AnswerEnd F) (o : Option (List ℕ)) → IfSome o (λ input. AreBefore input given it)
          → StandsAfter between.state.total image sessions (λ new. LinesStopAt makes next between.kept w' between.state new between.sent
          now end)
          → StandsAfter total image sessions (λ new. IfSome o (λ input. EndsAt makes v w' input (state_of book total own) new left before
          now end))
      stops_standing end o are why =
          let T : ℕ → Type 0 = λ t. StandsAfter t image sessions (λ new. LinesStopAt makes next between.kept w' between.state new
          between.sent now end) in
          stands_on total image image sessions sessions (λ new. LinesStopAt makes next between.kept w' between.state new between.sent now
          end)
          (λ new. IfSome o (λ input. EndsAt makes v w' input (state_of book total own) new left before now end)) refl refl
          (λ new is. told_so (λ input. AreBefore input given it) (λ input. EndsAt makes v w' input (state_of book total own) new left
          before now end) o
          (λ input so. stop_at end input so new is) are)
          (subst T way.answered.total_is why)

      lines_only : (input : List ℕ) → now ≡ between.sent → AreBefore input given it
          → SendsLines (AreMade makes v between.kept) input (state_of book total own) before now
      lines_only input same are =
          let N : Option (List ℕ) → Type 0 = λ n. SendsLines (AreMade makes v between.kept) input (state_of book total own) before n in
          subst N (sym same) (record {
            rest = rest_at input are;
            between = between.state;
            first = first_at (AreMade makes v between.kept) input (state_of book total own) between.state before between.sent (Some
                (rest_at input are)) (count_at input are) (reached_at input are);
          })

      pub ends_over : (end : AnswerEnd F) (o : Option (List ℕ)) → IfSome o (λ input. AreBefore input given it)
          → LinesStop makes next between.kept w' between.state image sessions between.sent now end
          → EndsAnswers makes v w' o (state_of book total own) image sessions left before now end
      ends_over (Serve ReadFault) o are why = stops_standing (Serve ReadFault) o are why
      ends_over (Serve SendFault) o are why = stops_standing (Serve SendFault) o are why
      ends_over (Serve DiskFault) o are why = (
        between.kept,
        told_so (λ input. AreBefore input given it) (λ input. SendsLines (AreMade makes v between.kept) input (state_of book total own)
            before now) o
            (λ input. lines_only input why) are,
      )
      ends_over (Serve (Damaged page)) o are why = absurd why
      ends_over (Serve InputTooLong) o are why = stops_standing (Serve InputTooLong) o are why
      ends_over (Serve NoMemory) o are why = stops_standing (Serve NoMemory) o are why
      ends_over (Reply e) o are why = stops_standing (Reply e) o are why

    -- what a crash leaves meanwhile
    pub ahead_over : (input : List ℕ) (are : AreBefore input given it) (sent_before : ℕ) (image : Image) (count at : ℕ)
        → at ≡ sent_before + length text
        → LinesMoments makes between.kept next between.state at image count
        → IsAhead (AreMadeFrom makes v) input total (state_of book total own) sent_before image count
    ahead_over input are sent_before image count at begins moment =
        let p = passing_at input are in
        at_line makes v between.kept input (reading_at (count_at input are)) (reading_at (count_at input are + length p.piece)) (Some
        (rest_at input are)) (Some p.later)
        total sent_before (state_of book total own) between.state before between.sent (reached_at input are) way.answered.total_is next
        p.passes way.few image count at begins moment

  -- between lines a crash leaves the book
  pub rests_over : (given : List Given) (mid : Held S) (text : List ℕ) (pauses : ℕ) (t : Turn makes start mid (lines_all given) pauses
      text) (input : List ℕ) (are : AreFirst input given)
      (sent_before : ℕ) (image : Image) (count : ℕ) → StandsForBook image mid.state.total mid.state.book → count ≡ sent_before + length text
      → IsAhead (AreMadeFrom makes v) input total (state_of book total own) sent_before image count
  rests_over given mid text pauses t input are sent_before image count stands sent =
      let one = t.answered in
      let told_is : told are.front ≡ one.front ++ mid.ahead = sym (told_are given are.front are.given_are) ∙ one.split in
      let P : ℕ → Type 0 = λ n. StandsForBook image n mid.state.book in
      at_rest makes v mid.kept input (Some (behind input are.front are.rest are.begins are.early one.front mid.ahead told_is))
      (length (place input are.front are.rest are.begins are.early one.front mid.ahead told_is).front) total sent_before (state_of book
      total own) mid.state before mid.sent
      (reached input are.front are.rest are.begins are.early one.front mid.ahead told_is makes v mid.kept (state_of book total own)
      mid.state before mid.sent one.frames text one.replied one.made one.sent)
      one.total_is image count (subst P one.total_is stands) sent
