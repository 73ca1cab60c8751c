-- How far lines are answered by bytes that are made one after the other.
use Rattle.std.proofs.Common.{◌≡◌, ℕ, ◌+◌, ◌≤◌, List, [], ◌∷◌, ◌++◌, length, Option, None, Some, IfSome, take, refl, ap, subst, sym, ◌∙◌}
use Rattle.std.proofs.Common.{inl, inr, append_assoc, arith, length-append}
use Rattle.std.proofs.lemmas.List.{append-nil}
use Rattle.std.proofs.Math.Seq.{take-append-add}
use Rattle.block_disk.specs.Streams.{sent_after}
use Rattle.block_disk.specs.SentLaws.{sent_more}
use Rattle.chart_world.specs.LineLaws.{told_so}
use Rattle.chart_world.specs.Reading.{Reading, unread}
use Rattle.chart_frames.specs.declared.frame.Frame.{Frame}
use Rattle.chart_service.specs.Answering.{ReplyFails, EndsAt}
use Rattle.chart_service.specs.Making.{Makes, AreMade, LinesDone, LinesCut, DoesFirst, LinesStopAt}
use Rattle.chart_service.specs.Serving.{RepliesToAll, Answers, KeepsBook, SendsSome, most_ahead}
use Rattle.chart_service.specs.State.{State}
use Rattle.chart_service.specs.declared.failure.AnswerEnd.{AnswerEnd}
use Rattle.chart_service.specs.declared.failure.AnswerEnd.TheVariants.{Serve, Reply}
use Rattle.chart_service.specs.declared.failure.ServeEnd.TheVariants.{ReadFault, SendFault, DiskFault, Damaged, InputTooLong, NoMemory}
use Rattle.chart_service.specs.Telling.{replies_joined}
use Rattle.chart_service.proofs.Progress.{Progress, Grows, PassesLines, SplitLines, split_lines, answers_more, answered_at, none_or_some}
use Rattle.chart_service.proofs.Progress.{next_at, kept_at, first_at}
use Rattle.chart_service.proofs.Sending.{made_one}

pub made_for : {S F : Type 0} (makes : Makes S F) (v w : S) (lines others : List (Option (List ℕ))) (frames : List Frame) (text : List ℕ)
    → AreMade makes v w lines frames text → AreMade makes v w others frames text
made_for makes v w lines others [] text all = all
made_for makes v w lines others (f ∷ fs) text all = (all.0, all.1, all.2, all.3, all.4, made_for makes all.1 w lines others fs all.2 all.5)

-- the bytes of more frames are made, and stand behind the others
pub made_joined : {S F : Type 0} (makes : Makes S F) (v w x : S) (lines more all : List (Option (List ℕ))) (frames answers : List Frame)
    (text reply : List ℕ)
    → AreMade makes w x more answers reply → AreMade makes v w lines frames text → AreMade makes v x all (frames ++ answers) (text ++ reply)
made_joined {S} makes v w x lines more all [] answers text reply next made =
    let P : S → Type 0 = λ y. AreMade makes y x all answers reply in
    let T : List ℕ → Type 0 = λ t. AreMade makes v x all answers (t ++ reply) in
    subst T (sym made.0) (subst P made.1 (made_for makes w x more all answers reply next))
made_joined makes v w x lines more all (f ∷ fs) answers text reply next made = (
  made.0,
  made.1,
  made.2 ++ reply,
  made.3,
  ap (λ t. t ++ reply) made.4 ∙ append_assoc made.0 made.2 reply,
  made_joined makes made.1 w x lines more all fs answers made.2 reply next made.5,
)

pub made_grows : {S F : Type 0} (makes : Makes S F) (v w x : S) (more : List (Option (List ℕ))) (answers : List Frame) (reply : List ℕ)
    → AreMade makes w x more answers reply → Grows (AreMade makes v w) (AreMade makes v x) more answers reply
made_grows makes v w x more answers reply next = λ lines frames text made. made_joined makes v w x lines more
    (lines ++ more) frames answers text reply next made

-- want of memory, where nothing more was sent
some_at : {S F : Type 0} (makes : Makes S F) (o : Option (List ℕ)) (old new : State) (v w : S) (left before now later : Option (List ℕ))
    (w' : S) → later ≡ now
    → IfSome o (λ input. SendsSome (AreMade makes v w) input old new before now)
    → IfSome o (λ input. EndsAt makes v w' input old new left before later (Serve NoMemory))
some_at makes None old new v w left before now later w' same p = tt
some_at makes (Some input) old new v w left before now later w' same p =
    let P : Option (List ℕ) → Type 0 = λ n. SendsSome (AreMade makes v w) input old new before n in
    (w, subst P (sym same) p)

pub no_memory : {S F : Type 0} (makes : Makes S F) (o : Option (List ℕ)) (bytes : Option (List ℕ)) (given : ℕ) (old state new : State)
    (v w w' : S) (left before now later : Option (List ℕ)) → later ≡ now → KeepsBook state new
    → IfSome o (λ input. Progress (AreMade makes v w) input bytes given old state before now)
    → IfSome o (λ input. EndsAt makes v w' input old new left before later (Serve NoMemory))
no_memory makes o bytes given old state new v w w' left before now later same keeps p =
    some_at makes o old new v w left before now later w' same
    (told_so (λ input. Progress (AreMade makes v w) input bytes given old state before now)
    (λ input. SendsSome (AreMade makes v w) input old new before now) o
    (λ input. kept_at (AreMade makes v w) input old state before now new bytes given keeps) p)

-- frames answer lines
some_lines : (old new : State) (lines : List (Option (List ℕ))) (frame : Frame) (later : List Frame)
    → RepliesToAll old lines (frame ∷ later) new → 1 ≤ length lines
some_lines old new [] frame later all = absurd all
some_lines old new (line ∷ lines) frame later all = omega arith

-- no lines do nothing
none_done : (old new : State) (lines : List (Option (List ℕ))) (frames : List Frame) → lines ≡ [] → RepliesToAll old lines frames new
    → new ≡ old
none_done old new [] [] none all = all
none_done old new [] (f ∷ fs) none all = absurd all
none_done old new (l ∷ ls) frames none all = cc (none)

-- the book is as it was where none of the lines are done
kept_none : (old new : State) → new ≡ old → KeepsBook old new
kept_none old new same = (ap (λ (s : State). s.book) same, ap (λ (s : State). s.total) same)

-- the first line and the others
pub record FirstLine (lines : List (Option (List ℕ))) (frame : Frame) (later : List Frame) (old new : State) : Type 0 where
  pub line : Option (List ℕ)
  pub rest : List (Option (List ℕ))
  pub lines_are : lines ≡ line ∷ rest
  pub between : State
  pub one : RepliesToAll old (line ∷ []) (frame ∷ []) between
  pub others : RepliesToAll between rest later new

first_line : (old new : State) (lines : List (Option (List ℕ))) (frame : Frame) (later : List Frame)
    → RepliesToAll old lines (frame ∷ later) new → FirstLine lines frame later old new
first_line old new [] frame later all = absurd all
first_line old new (line ∷ rest) frame later all = record {
  line = line;
  rest = rest;
  lines_are = refl;
  between = all.0;
  one = (all.0, all.1, refl);
  others = all.2;
}

-- lines of the input are given
module _ {S F : Type 0} (makes : Makes S F) (o : Option (List ℕ)) (r r' : Reading) (left left' : Option (List ℕ)) (old state new : State)
    (v w w' : S) (before now later : Option (List ℕ)) (all : List (Option (List ℕ))) (given : PassesLines r r' left left' all)
    (few : length all ≤ most_ahead) where
  abbrev Here : List ℕ → Type 0
  Here input = Progress (AreMade makes v w) input (unread r left) r.given old state before now

  -- behind them, answered or empty
  pub line_done : LinesDone makes all w w' state new now later → IfSome o Here
      → IfSome o (λ input. Progress (AreMade makes v w') input (unread r' left') r'.given old new before later)
  line_done done =
      told_so Here (λ input. Progress (AreMade makes v w') input (unread r' left') r'.given old new before later) o
      (λ input p. answered_at (AreMade makes v w) (AreMade makes v w') input r r' left left' old state new before now later all done.frames
      done.text given done.replied (made_grows makes v w w' all done.frames done.text done.made) p done.sent)

  -- what the first of them does, and the text for them is
  first_answers : (input : List ℕ) (p : Here input) (first rest : List (Option (List ℕ))) (s : SplitLines input p.front first rest) (x : S)
      (frames : List Frame) (text : List ℕ) (between : State) → RepliesToAll state first frames between
      → AreMade makes w x first frames text → Answers (AreMade makes v x) (p.front ++ s.piece) (p.text ++ text) old between
  first_answers input p first rest s x frames text between replied made =
      answers_more (AreMade makes v w) (AreMade makes v x) p.front s.piece p.text text old state between first frames s.told_all p.answers
      replied (made_grows makes v w x first frames text made)

  -- the bytes of the next frame were sent in part
  cut_at : (input : List ℕ) → LinesCut makes all w w' state new now later (Serve SendFault) → Here input
      → EndsAt makes v w' input old new left' before later (Serve SendFault)
  cut_at input cut p =
      let q = given input p.front p.rest p.told_rest p.counted p.begins in
      let next = first_line cut.between new cut.rest cut.frame cut.later cut.replied in
      let first = cut.front ++ next.line ∷ [] in
      let lines_are : all ≡ first ++ next.rest = cut.lines_are ∙ ap (λ l. cut.front ++ l) next.lines_are
      ∙ sym (append_assoc cut.front (next.line ∷ []) next.rest) in
      let s = split_lines input p.front p.rest (unread r' left') r'.given all first next.rest lines_are q in
      let piece = cut.stops.0 in
      let part = cut.stops.2 in
      let reply = cut.done.text ++ piece in
      let made = made_joined makes w cut.last w' cut.front (next.line ∷ []) first cut.done.frames (cut.frame ∷ []) cut.done.text piece
      (made_one makes cut.last w' (next.line ∷ []) cut.frame piece cut.stops.1) cut.done.made in
      let replied = replies_joined state cut.between next.between cut.front (next.line ∷ []) cut.done.frames
      (cut.frame ∷ []) cut.done.replied next.one in
      let text = p.text ++ reply in
      let sum : length text ≡ length p.text + length cut.done.text + length piece = omega (
        arith,
        length-append p.text reply,
        length-append cut.done.text piece,
      ) in
      let count = length p.text + (length cut.done.text + part.count) in
      let front : take count text ≡ p.text ++ (cut.done.text ++ take part.count piece) =
      take-append-add p.text reply (length cut.done.text + part.count)
      ∙ ap (λ l. p.text ++ l) (take-append-add cut.done.text piece part.count) in
      record {
        front = p.front ++ s.piece;
        rest = s.rest;
        begins = s.begins;
        early = s.early;
        text = text;
        between = next.between;
        answers = first_answers input p first next.rest s w' (cut.done.frames ++ cut.frame ∷ []) reply next.between replied made;
        count = count;
        within = omega (arith, part.within, sum);
        sent = sent_more p.text (cut.done.text ++ take part.count piece) before now later p.sent
            (sent_more cut.done.text (take part.count piece) now cut.sent later cut.done.sent part.sent)
            ∙ ap (λ t. sent_after t before) (sym front);
        state = elim (none_or_some next.rest) [
          | inl none ↦ inl (none_done next.between new next.rest cut.later none next.others)
          | inr some ↦ inr (next_at (length (p.front ++ s.piece)) s.rest s.next s.behind next.rest [] cut.later next.between new s.here
              (s.told_next ∙ sym (append-nil next.rest)) s.early_next
              (omega (arith, few, ap length lines_are, length-append first next.rest)) some next.others).0
        ];
      }

  -- the bytes of the next frame weren't made
  fails_at : (input : List ℕ) (e : F) → LinesCut makes all w w' state new now later (Reply e) → Here input
      → ReplyFails makes v w' input old new before later e
  fails_at input e cut p =
      let q = given input p.front p.rest p.told_rest p.counted p.begins in
      let s = split_lines input p.front p.rest (unread r' left') r'.given all cut.front cut.rest cut.lines_are q in
      let next = next_at (length (p.front ++ s.piece)) s.rest s.next s.behind cut.rest [] (cut.frame ∷ cut.later) cut.between new s.here
      (s.told_next ∙ sym (append-nil cut.rest)) s.early_next
      (omega (arith, few, ap length cut.lines_are, length-append cut.front cut.rest))
      (some_lines cut.between new cut.rest cut.frame cut.later cut.replied) cut.replied in
      let P : Option (List ℕ) → Type 0 = λ n. ReplyFails makes v w' input old new before n e in
      subst P (sym cut.stops.0) (record {
        rest = s.rest;
        between = cut.between;
        last = cut.last;
        first = record {
          front = p.front ++ s.piece;
          begins = s.begins;
          early = s.early;
          text = p.text ++ cut.done.text;
          answers = first_answers input p cut.front cut.rest s cut.last cut.done.frames cut.done.text cut.between cut.done.replied
              cut.done.made;
          sent = sent_more p.text cut.done.text before now cut.sent p.sent cut.done.sent;
        };
        next = next.0;
        frame = cut.frame;
        later = cut.later;
        is_first = next.2;
        fails = cut.stops.1;
      })

  -- some first of them are done, and not answered
  does_at : (input : List ℕ) → DoesFirst all state new → Here input → SendsSome (AreMade makes v w) input old new before now
  does_at input does p =
      let q = given input p.front p.rest p.told_rest p.counted p.begins in
      elim (none_or_some does.front) [
        | inl none ↦ kept_at (AreMade makes v w) input old state before now new (unread r left) r.given
            (kept_none state new (none_done state new does.front does.frames none does.replied)) p
        | inr some ↦ record {
          rest = p.rest;
          between = state;
          first = first_at (AreMade makes v w) input old state before now (unread r left) r.given p;
          state = inr (next_at (length p.front) p.rest q.piece q.later does.front does.rest does.frames state new q.here (q.told_piece
              ∙ does.lines_are) (omega (arith, q.early, q.counted, length-append p.front q.piece))
              (omega (arith, few, ap length does.lines_are, length-append does.front does.rest)) some does.replied).0;
        }
      ]

  -- they weren't answered, or the bytes of one weren't made or sent
  pub line_stops : (end : AnswerEnd F) → LinesStopAt makes all w w' state new now later end → IfSome o Here
      → IfSome o (λ input. EndsAt makes v w' input old new left' before later end)
  line_stops (Serve ReadFault) why p = absurd why
  line_stops (Serve SendFault) why p = told_so Here (λ input. EndsAt makes v w' input old new left' before later (Serve SendFault)) o
      (λ input. cut_at input why) p
  line_stops (Serve DiskFault) why p = absurd why
  line_stops (Serve (Damaged page)) why p = absurd why
  line_stops (Serve InputTooLong) why p = absurd why
  line_stops (Serve NoMemory) why p = elim why.1 [
    | inl keeps ↦ no_memory makes o (unread r left) r.given old state new v w w' left' before now later why.0 keeps p
    | inr does ↦ some_at makes o old new v w left' before now later w' why.0
        (told_so Here (λ input. SendsSome (AreMade makes v w) input old new before now) o (λ input. does_at input does) p)
  ]
  line_stops (Reply e) why p = told_so Here (λ input. EndsAt makes v w' input old new left' before later (Reply e)) o
      (λ input. fails_at input e why) p
