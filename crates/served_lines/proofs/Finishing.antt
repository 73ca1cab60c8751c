-- What a run of the loop over lines says of the answering.
use Rattle.std.proofs.Common.{◌≡◌, ◌∙◌, ℕ, ◌+◌, ◌-◌, ◌^◌, ◌<◌, ◌⊎◌, List, [], ◌∷◌, ◌++◌, length, Option, None, Some, Result, Ok, Err, IfErr}
use Rattle.std.proofs.Common.{IfSome, refl, ap, sym, subst, inl, inr, arith, append_assoc, length-append}
use Rattle.std.specs.Prelude.{OnOk}
use Rattle.std.specs.Borrow.{GName}
use Rattle.std.specs.List.{after_first, filter}
use Rattle.std.proofs.lemmas.List.{append-nil}
use Rattle.block_disk.specs.Streams.{sent_after}
use Rattle.block_disk.specs.View.{Image, View, sent_now}
use Rattle.chart_world.specs.FrontLaws.{whole_joined}
use Rattle.chart_world.specs.Fronts.{says, BeginsWith, IsWhole, first_piece}
use Rattle.chart_world.specs.LineLaws.{lines_none, piece_ends, piece_line, pieces, told_behind}
use Rattle.chart_world.specs.Lines.{is_line_feed, lines}
use Rattle.chart_world.specs.declared.line_answer.LineFault.TheVariants as fault
use Rattle.line_runs.specs.Carried.{Done}
use Rattle.line_runs.specs.Given.{AreBefore, Given, IsNext, Line, Pause, End, pauses}
use Rattle.line_runs.specs.GivenLaws.{pauses_joined}
use Rattle.line_runs.specs.Moments as moments
use Rattle.line_runs.specs.Runs as runs
use Rattle.line_runs.specs.declared.lines_stop.LinesStop.{LinesStop}
use Rattle.line_runs.specs.declared.lines_stop.LinesStop.TheVariants as stop
use Rattle.series_book.specs.declared.edits.Edit.{Edit}
use Rattle.series_book.specs.declared.one_series.Series.{Series}
use Rattle.stored_book.specs.Standing.{StandsForBook}
use Rattle.zoom_session.specs.declared.session.Session.{Session}
use Rattle.chart_service.specs.Answering.{EndsAnswers}
use Rattle.chart_service.specs.EditGroups.{SpellEdits}
use Rattle.chart_service.specs.Making.{Makes, AreMade, AreMadeFrom}
use Rattle.chart_service.specs.Moments.{IsAhead, Since}
use Rattle.chart_service.specs.ReadingBlocks.{ReadsInTurn, ReadsLines}
use Rattle.chart_service.specs.Serving.{SendsText, told, unless_empty}
use Rattle.chart_service.specs.State.{State}
use Rattle.chart_service.specs.Stepping.{StandsAfter, state_of}
use Rattle.chart_service.specs.Syncing.{SyncsLines, edits_of}
use Rattle.chart_service.specs.declared.failure.AnswerEnd.{AnswerEnd}
use Rattle.chart_service.proofs.SyncLemmas.{edits_joined}
use Rattle.served_lines.specs.Ending.{answer_of}
use Rattle.served_lines.specs.Shown.{StopsBy}
use Rattle.served_lines.specs.Standing.{IsHeld, StandsSo}
use Rattle.served_lines.specs.Turning.{AreTold, Costs, CostsSome, Does, Held, Leaves, Over, ReadsNext, Rests, Stand, StopsSo, Turn}
use Rattle.served_lines.specs.Turning.{lines_of, pauses_of}
use Rattle.served_lines.proofs.Carried.{Turned, all_ended, ended, lines_all, paused, told_are, turned}
use Rattle.served_lines.proofs.Concluding.{OnWay, ahead_over, done_over, ends_over, first_held, long_over, on_way, passing_at, read_over}
use Rattle.served_lines.proofs.Concluding.{rest_at, rests_over, told_place}
use Rattle.served_lines.proofs.Counting.{costs_lines}
use Rattle.served_lines.proofs.Reached.{first_of, no_lines, place, place_begins}
use Rattle.served_lines.proofs.TurnLemmas.{costs_then}

-- what is given next is passed too
record FrontMore (input front : List ℕ) (it : Given) : Type 0 where
  pub bytes : List ℕ
  pub rest : List ℕ
  pub begins : BeginsWith input bytes rest
  pub told_is : told bytes ≡ told front ++ lines_of it

front_more : (input front rest : List ℕ) (it : Given) → BeginsWith input front rest → IsNext (length front) rest it
    → FrontMore input front it
front_more input front rest (Line at line) begins is = by (whole_of rest begins.whole is.1.lines_are)
  where
    whole_of : (bytes : List ℕ) → IsWhole front ⊎ (bytes ≡ []) → lines bytes ≡ line ∷ is.1.later → IsWhole front
    whole_of bytes (inl whole) are = whole
    whole_of bytes (inr none) are = absurd (no_lines (sym (ap lines none ∙ lines_none) ∙ are))

    by : IsWhole front → FrontMore input front (Line at line)
    by whole =
        let first = first_piece rest in
        record {
          bytes = front ++ first;
          rest = after_first is_line_feed rest;
          begins = record {
            split = begins.split ∙ ap (λ l. front ++ l) (pieces rest) ∙ sym (append_assoc front first (after_first is_line_feed rest));
            whole = elim (piece_ends rest) [
              | inl ends ↦ inl (whole_joined front first whole ends)
              | inr none ↦ inr none
            ];
          };
          told_is = told_behind front first whole
              ∙ ap (λ l. told front ++ filter says l) (piece_line rest line (first_of rest line is.1.later is.1.lines_are));
        }
front_more input front rest Pause begins is = record {
  bytes = front;
  rest = rest;
  begins = begins;
  told_is = sym (append-nil (told
      front));
}
front_more input front rest End begins is = record { bytes = front; rest = rest; begins = begins; told_is = sym (append-nil (told front)) }

-- the line that is given is the one that stands there
line_is : (line one : Option (List ℕ)) → unless_empty line ≡ one ∷ [] → line ≡ one
line_is None one is = cc
line_is (Some []) one is = absurd (no_lines is)
line_is (Some (byte ∷ bytes)) one is = cc

next_line : (it : Given) (one : Option (List ℕ)) (count : ℕ) (rest : List ℕ) → lines_of it ≡ one ∷ [] → IsNext count rest it
    → (later : List (Option (List ℕ))) × (lines rest ≡ one ∷ later)
next_line (Line at line) one count rest is next = (next.1.later, next.1.lines_are ∙ ap (λ l. l ∷ next.1.later) (line_is line one is))
next_line Pause one count rest is next = absurd (no_lines is)
next_line End one count rest is next = absurd (no_lines is)

told_case : (sent : Option (List ℕ)) (P : Type 0) → (AreTold sent → IfSome sent (λ bytes. P)) → IfSome sent (λ bytes. P)
told_case None P more = tt
told_case (Some bytes) P more = more tt

-- before the first line the book stands
pub first_stands : {S : Type 0} (kept : S) (total : ℕ) (book : List Series) (edits : List Edit) (told_so : Type 0) (at : View) (own : List
    Session) (before : Option (List ℕ))
    → told_so → StandsForBook at.image total book → edits ≡ []
    → IsHeld (first_held kept total book own before at.reads at.syncs) kept edits told_so at own before
first_stands kept total book edits told_so at own before told_now stands none = record {
  told_so = told_now;
  stands = stands;
  sessions_are = refl;
  kept_is = refl;
  spells = let P : List Edit → Type 0 = λ e. SpellEdits [] e in subst P (sym none) tt;
  sent_is = refl;
  reads_are = refl;
  syncs_are = refl;
}

module _ {S F : Type 0} (makes : Makes S F) (v w : S) (total : ℕ) (book : List Series) (own sessions : List Session)
    (before now : Option (List ℕ)) (old : View) (name : GName) (edits : List Edit) (told_now : Type 0) (new : View) where
  abbrev start : Held S
  start = first_held v total book own before old.reads old.syncs

  abbrev first : State
  first = state_of book total own

  abbrev StandsNow : Stand S → Type 0
  StandsNow stand = StandsSo stand name w edits told_now new sessions now

  abbrev Stops : Stand S → Given → AnswerEnd F → Option (List ℕ) → Type 0
  Stops stand it end sent = StopsBy makes stand it name w told_now new.size new.image sessions sent now new.reads new.syncs end

  abbrev RunStops : Option (List ℕ) → Option (List ℕ) → ℕ → ℕ → LinesStop (AnswerEnd F) → Type 0
  RunStops o left pieces pieces' why = runs.StopsSo (Does makes) Stops StandsNow (Over start) o left before now pieces pieces' why

  -- where the work stopped
  stop_held : (done : Done (Does makes) (Over start)) (t : Turned makes start done.given done.text done.behind) (it : Given) (end :
      AnswerEnd F) (sent : Option (List ℕ))
      → Stops done.behind it end sent → StopsSo makes t.new it w new.image sessions now new.reads new.syncs end
  stop_held done t it end sent why = let P : Stand S → Type 0 = λ s. Stops s it end sent in subst P t.is why

  pub done_so : {T : Type 0} (o : Option (List ℕ)) (pieces pieces' : ℕ) (r : Result T (LinesStop (AnswerEnd F)))
      → OnOk r (runs.Runs (Does makes) (Over start) (runs.AreAll pieces pieces') StandsNow o before now)
      → OnOk (answer_of r) (StandsAfter total new.image sessions (λ after. IfSome o (λ input. SendsText (AreMade makes v w) input first
      after before now)))
  done_so o pieces pieces' (Ok done) all = done_over makes v w total book own sessions before now old.reads old.syncs name edits told_now
      new o pieces pieces' all
  done_so o pieces pieces' (Err why) all = tt

  pub ends_so : {T : Type 0} (o left : Option (List ℕ)) (pieces pieces' : ℕ) (r : Result T (LinesStop (AnswerEnd F)))
      → IfErr r (RunStops o left pieces pieces')
      → IfErr (answer_of r) (EndsAnswers makes v w o first new.image sessions left before now)
  ends_so o left pieces pieces' (Ok done) why = tt
  ends_so o left pieces pieces' (Err (stop.Fault fault.ReadFault)) why =
      read_over makes v w total book own sessions before now old.reads old.syncs name edits told_now new o left pieces pieces' why
  ends_so o left pieces pieces' (Err (stop.Fault fault.InputTooLong)) why =
      long_over makes v w total book own sessions before now old.reads old.syncs name edits told_now new o left pieces pieces' why
  ends_so o left pieces pieces' (Err (stop.Work end)) why =
      let done = why.done in
      let t = turned makes done.given start done.text done.behind done.carries in
      let s = stop_held done t why.next end (sent_after done.text before) why.why in
      let way = on_way makes v total book own before old.reads old.syncs done.given why.next t.new done.text (pauses done.given) t.turn
      s.begun in
      ends_over makes v total book own before old.reads old.syncs done.given why.next (done.text ++ s.begun.text) s.begun.next
      s.begun.between way
      w new.image sessions left now end o why.are s.why

  -- ---- what a crash leaves

  ahead_so : (input bytes : List ℕ) (from : ℕ) (image : Image) (count : ℕ)
      → runs.IsAhead (Does makes) Rests (Leaves makes) (Over start) (Some input) (Some bytes) from image count
      → IsAhead (AreMadeFrom makes v) input total first from image count
  ahead_so input bytes from image count a =
      let done = a.done in
      let t = turned makes done.given start done.text done.behind done.carries in
      elim a.is [
        | inl is ↦
            let R : Stand S → Type 0 = λ s. Rests s image in
            rests_over makes v total book own before old.reads old.syncs done.given t.new done.text (pauses done.given) t.turn input
            is.are from image count
            (subst R t.is is.rests_so) is.sent_is
        | inr amid ↦
            let L : Stand S → Type 0 = λ s. Leaves makes s amid.next amid.begun image count in
            let l = subst L t.is amid.leaves_so in
            let way = on_way makes v total book own before old.reads old.syncs done.given amid.next t.new done.text (pauses done.given)
            t.turn l.begun in
            ahead_over makes v total book own before old.reads old.syncs done.given amid.next (done.text ++ l.begun.text) l.begun.next
            l.begun.between way
            input amid.are from image count (amid.begun + length l.begun.text) (omega (
              arith,
              amid.begun_is,
              length-append done.text
                  l.begun.text,
            )) l.moments
      ]

  pub crash_so : (o : Option (List ℕ)) → moments.Since old new (runs.IsAhead (Does makes) Rests (Leaves makes) (Over start) o before
      (sent_now old))
      → IfSome o (λ input. IfSome before (λ bytes. Since old new (IsAhead (AreMadeFrom makes v) input total first (sent_now old))))
  crash_so o since = by o before refl since
    where
      by : (p q : Option (List ℕ)) → q ≡ before
          → moments.Since old new (runs.IsAhead (Does makes) Rests (Leaves makes) (Over start) p before (sent_now old))
          → IfSome p (λ input. IfSome q (λ bytes. Since old new (IsAhead (AreMadeFrom makes v) input total first (sent_now old))))
      by None q same s = tt
      by (Some input) None same s = tt
      by (Some input) (Some bytes) same s =
          let A : Option (List ℕ) → Image → ℕ → Type 0 = λ b image count.
          runs.IsAhead (Does makes) Rests (Leaves makes) (Over start) (Some input) b (sent_now old) image count in
          record {
            goes = s.goes;
            here = λ time image low high left.
                ahead_so input bytes (sent_now old) image (new.sent_by time)
                (let M : Option (List ℕ) → Type 0 = λ b. A b image (new.sent_by time) in subst M (sym same) (s.here time image low high
                left));
          }

  -- where what was sent is told
  pub crash_told : (o : Option (List ℕ)) → (AreTold before
      → moments.Since old new (runs.IsAhead (Does makes) Rests (Leaves makes) (Over start) o before (sent_now old)))
      → IfSome o (λ input. IfSome before (λ bytes. Since old new (IsAhead (AreMadeFrom makes v) input total first (sent_now old))))
  crash_told None since = tt
  crash_told (Some input) since =
      told_case before (Since old new (IsAhead (AreMadeFrom makes v) input total first (sent_now old))) (λ is_told. crash_so (Some input)
      (since is_told))

  -- ---- reads

  reads_all : (input front rest : List ℕ) (given : List Given) (text : List ℕ) (stand : Stand S) (t : Turned makes start given text stand)
      → BeginsWith input front rest
      → t.new.ahead ≡ [] → lines_all given ≡ told front → StandsNow stand → ReadsLines input first old.reads new.reads
  reads_all input front rest given text stand t begins none are stands =
      let one = t.turn.answered in
      let h : IsHeld t.new w edits told_now new sessions now = subst StandsNow t.is stands in
      let front_is : one.front ≡ told front = sym (append-nil one.front) ∙ ap (λ l. one.front ++ l) (sym none) ∙ sym one.split ∙ are in
      let R : List (Option (List ℕ)) → Type 0 = λ l. ReadsInTurn first l one.frames t.new.state old.reads t.new.reads in
      record {
        front = front;
        rest = rest;
        begins = begins;
        frames = one.frames;
        between = t.new.state;
        count = t.new.reads;
        answered = subst R front_is one.reads;
        last = inl (sym h.reads_are);
      }

  whole_input : (input : List ℕ) → BeginsWith input input []
  whole_input input = record { split = sym (append-nil input); whole = inr refl }

  reads_stopped : (input : List ℕ) (given : List Given) (it : Given) (text : List ℕ) (next : List (Option (List ℕ))) (between : Held S)
      (way : OnWay makes start given it text next between) (are : AreBefore input given it)
      → ReadsNext between.ahead (lines_of it) next between.state between.reads new.reads → ReadsLines input first old.reads new.reads
  reads_stopped input given it text next between way are (inl (line, none, line_given, reads)) =
      let one = way.answered in
      let there = next_line it line (length are.first.front) are.first.rest line_given are.next_is in
      let front_is : one.front ≡ told are.first.front =
      sym (append-nil one.front) ∙ ap (λ l. one.front ++ l) (sym none)
      ∙ sym (told_place makes v total book own before old.reads old.syncs given it text next between way input are) in
      let R : List (Option (List ℕ)) → Type 0 = λ l. ReadsInTurn first l one.frames between.state old.reads between.reads in
      record {
        front = are.first.front;
        rest = are.first.rest;
        begins = are.first.begins;
        frames = one.frames;
        between = between.state;
        count = between.reads;
        answered = subst R front_is one.reads;
        last = inr (inl (line, there.0, there.1, reads));
      }
  reads_stopped input given it text next between way are (inr (spelled, spells, few, most)) =
      let one = way.answered in
      let told_is = told_place makes v total book own before old.reads old.syncs given it text next between way input are in
      let p = place input are.first.front are.first.rest are.first.begins are.first.early one.front between.ahead told_is in
      let q = passing_at makes v total book own before old.reads old.syncs given it text next between way input are in
      let R : List (Option (List ℕ)) → Type 0 = λ l. ReadsInTurn first l one.frames between.state old.reads between.reads in
      let E : List (Option (List ℕ)) → Type 0 = λ l. SpellEdits l spelled in
      record {
        front = p.front;
        rest = rest_at makes v total book own before old.reads old.syncs given it text next between way input are;
        begins = place_begins input are.first.front are.first.rest are.first.begins are.first.early one.front between.ahead told_is;
        frames = one.frames;
        between = between.state;
        count = between.reads;
        answered = subst R (sym p.first_are) one.reads;
        last = inr (inr (record {
          front = q.piece;
          rest = q.later;
          begins = q.here;
          edits = spelled;
          spells = subst E (sym q.told_piece)
              spells;
          few = few;
          most = most;
        }));
      }

  pub reads_so : {T : Type 0} (o left : Option (List ℕ)) (pieces pieces' : ℕ) (r : Result T (LinesStop (AnswerEnd F)))
      → OnOk r (runs.Runs (Does makes) (Over start) (runs.AreAll pieces pieces') StandsNow o before now)
      → IfErr r (RunStops o left pieces pieces')
      → IfSome o (λ input. ReadsLines input first old.reads new.reads)
  reads_so None left pieces pieces' r all why = tt
  reads_so (Some input) left pieces pieces' (Ok done) all why =
      let d = all.done in
      let e = ended makes all.are.earlier d.given start d.text d.behind all.are.paused all.are.given_are d.carries in
      reads_all input input [] d.given d.text d.behind e.0 (whole_input input) e.1
      (ap lines_all all.are.given_are ∙ all_ended all.are.earlier ∙ told_are all.are.earlier input all.are.lines_are) all.stands
  reads_so (Some input) left pieces pieces' (Err (stop.Fault fault.ReadFault)) all why =
      let d = why.done in
      let f = why.are.first in
      let e = paused makes d.given start d.text d.behind why.are.paused d.carries in
      reads_all input f.front f.rest d.given d.text d.behind e.0 f.begins e.1 (told_are d.given f.front f.given_are) why.stands
  reads_so (Some input) left pieces pieces' (Err (stop.Fault fault.InputTooLong)) all why =
      let d = why.done in
      let f = why.are.first in
      let e = paused makes d.given start d.text d.behind why.are.paused d.carries in
      reads_all input f.front f.rest d.given d.text d.behind e.0 f.begins e.1 (told_are d.given f.front f.given_are) why.stands
  reads_so (Some input) left pieces pieces' (Err (stop.Work end)) all why =
      let done = why.done in
      let t = turned makes done.given start done.text done.behind done.carries in
      let s = stop_held done t why.next end (sent_after done.text before) why.why in
      let way = on_way makes v total book own before old.reads old.syncs done.given why.next t.new done.text (pauses done.given) t.turn
      s.begun in
      reads_stopped input done.given why.next (done.text ++ s.begun.text) s.begun.next s.begun.between way why.are s.reads_next

  -- ---- syncs

  abbrev Synced : List ℕ → ℕ → ℕ → Type 0
  Synced input pieces pieces' = pieces' < 2 ^ 64 - 1 → SyncsLines input total book (pieces' - pieces) old.syncs new.syncs

  syncs_all : (input front rest : List ℕ) (pieces pieces' : ℕ) (given : List Given) (text : List ℕ) (stand : Stand S) (t : Turned makes
      start given text stand) → BeginsWith input front rest
      → lines_all given ≡ told front → StandsNow stand → runs.FewPauses pieces pieces' given → Synced input pieces pieces'
  syncs_all input front rest pieces pieces' given text stand t begins are stands few small =
      let one = t.turn.answered in
      let h : IsHeld t.new w edits told_now new sessions now = subst StandsNow t.is stands in
      let C : ℕ → Type 0 = λ n. Costs first (edits_of one.front) (lines_all given) (pauses given) old.syncs n in
      let c = costs_lines first front (lines_all given) one.front t.new.ahead (pauses given) (pieces' - pieces) old.syncs new.syncs are
      one.split
      (omega (arith, few small)) (subst C h.syncs_are t.turn.costs) in
      record { front = front; rest = rest; begins = begins; others = c.0; counted = c.1; few = c.2 }

  syncs_stopped : (input : List ℕ) (pieces pieces' : ℕ) (given : List Given) (it : Given) (text : List ℕ) (mid : Held S) (t : Turn makes
      start mid (lines_all given) (pauses given) text)
      → AreBefore input given it → CostsSome mid.state (mid.ahead ++ lines_of it) (lines_of it) (pauses_of it) mid.syncs new.syncs
      → runs.FewPauses pieces pieces' (given ++ it ∷ []) → Synced input pieces pieces'
  syncs_stopped input pieces pieces' given it text mid t are some few small =
      let one = t.answered in
      let f = front_more input are.first.front are.first.rest it are.first.begins are.next_is in
      let both = costs_then first mid.state (edits_of one.front) (edits_of some.front) (lines_all given) (lines_of it) (pauses given)
      (pauses_of it) old.syncs mid.syncs new.syncs
      one.total_is one.book_is t.costs some.costs in
      let C : List Edit → Type 0 = λ e. Costs first e (lines_all given ++ lines_of it) (pauses given + pauses_of it) old.syncs new.syncs in
      let told_is : lines_all given ++ lines_of it ≡ told f.bytes =
      ap (λ l. l ++ lines_of it) (told_are given are.first.front are.first.given_are) ∙ sym f.told_is in
      let split : lines_all given ++ lines_of it ≡ (one.front ++ some.front) ++ some.rest =
      ap (λ l. l ++ lines_of it) one.split ∙ append_assoc one.front mid.ahead (lines_of it) ∙ ap (λ l. one.front ++ l) some.split
      ∙ sym (append_assoc one.front some.front some.rest) in
      let c = costs_lines first f.bytes (lines_all given ++ lines_of it) (one.front ++ some.front) some.rest (pauses given + pauses_of it)
      (pieces' - pieces) old.syncs new.syncs told_is split
      (omega (arith, few small, pauses_joined given (it ∷ []), pauses_one it)) (subst C (sym (edits_joined one.front some.front)) both) in
      record { front = f.bytes; rest = f.rest; begins = f.begins; others = c.0; counted = c.1; few = c.2 }
    where
      pauses_one : (one : Given) → pauses (one ∷ []) ≡ pauses_of one
      pauses_one (Line at line) = refl
      pauses_one Pause = omega arith
      pauses_one End = refl

  pub syncs_so : {T : Type 0} (o left : Option (List ℕ)) (pieces pieces' : ℕ) (r : Result T (LinesStop (AnswerEnd F)))
      → OnOk r (runs.Runs (Does makes) (Over start) (runs.AreAll pieces pieces') StandsNow o before now)
      → IfErr r (RunStops o left pieces pieces')
      → IfSome o (λ input. Synced input pieces pieces')
  syncs_so None left pieces pieces' r all why = tt
  syncs_so (Some input) left pieces pieces' (Ok done) all why =
      let d = all.done in
      let t = turned makes d.given start d.text d.behind d.carries in
      syncs_all input input [] pieces pieces' d.given d.text d.behind t (whole_input input)
      (ap lines_all all.are.given_are ∙ all_ended all.are.earlier ∙ told_are all.are.earlier input all.are.lines_are) all.stands all.are.few
  syncs_so (Some input) left pieces pieces' (Err (stop.Fault fault.ReadFault)) all why =
      let d = why.done in
      let f = why.are.first in
      let t = turned makes d.given start d.text d.behind d.carries in
      syncs_all input f.front f.rest pieces pieces' d.given d.text d.behind t f.begins (told_are d.given f.front f.given_are) why.stands
      why.are.few
  syncs_so (Some input) left pieces pieces' (Err (stop.Fault fault.InputTooLong)) all why =
      let d = why.done in
      let f = why.are.first in
      let t = turned makes d.given start d.text d.behind d.carries in
      syncs_all input f.front f.rest pieces pieces' d.given d.text d.behind t f.begins (told_are d.given f.front f.given_are) why.stands
      why.are.few
  syncs_so (Some input) left pieces pieces' (Err (stop.Work end)) all why =
      let done = why.done in
      let t = turned makes done.given start done.text done.behind done.carries in
      let s = stop_held done t why.next end (sent_after done.text before) why.why in
      syncs_stopped input pieces pieces' done.given why.next done.text t.new t.turn why.are s.costs why.few
