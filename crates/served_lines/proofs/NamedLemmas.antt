-- What a run of the loop over lines gave, whatever the pages are.
use Rattle.std.proofs.Common.{◌≡◌, ◌∙◌, ◌⊎◌, ◌^◌, inl, inr, length, ℕ, Bool, true, false, List, [], ◌∷◌, ◌++◌, All, IsTrue, Option, None}
use Rattle.std.proofs.Common.{Some, Result, Ok, Err, IfErr, IfSome, refl, ap, sym, subst}
use Rattle.std.specs.Prelude.{OnOk, ◌==◌, ◌&&◌, ◌||◌, not}
use Rattle.std.specs.Borrow.{GName}
use Rattle.std.specs.List.{filter}
use Rattle.std.proofs.lemmas.List.{append_assoc, append-nil}
use Rattle.std.proofs.lemmas.List.Elements.{All-head, All-tail}
use Rattle.block_disk.specs.SentLaws.{sent_more, sent_none}
use Rattle.block_disk.specs.Streams.{sent_after}
use Rattle.block_disk.specs.View.{View}
use Rattle.chart_frames.specs.Frames.{Fits}
use Rattle.chart_frames.specs.Opened.{opens}
use Rattle.chart_frames.specs.declared.frame.Frame.{Frame}
use Rattle.chart_frames.specs.declared.frame.Frame.TheVariants.{Done, Refused, Opened, Closed, View as ViewFrame, Rows, Live, Report}
use Rattle.chart_world.specs.Fronts.{IsWhole, says}
use Rattle.chart_world.specs.LineLaws.{lines_none, told_behind}
use Rattle.chart_world.specs.declared.line_answer.LineFault.TheVariants as fault
use Rattle.line_runs.specs.Carried.{Carries}
use Rattle.line_runs.specs.CarriedLaws.{carries_both}
use Rattle.line_runs.specs.Given.{AreBeforeWithin, End, EndsPaused, Given, IsNextWithin, Line, Pause}
use Rattle.line_runs.specs.Runs as runs
use Rattle.line_runs.specs.declared.lines_stop.LinesStop.{LinesStop}
use Rattle.line_runs.specs.declared.lines_stop.LinesStop.TheVariants as stop
use Rattle.series_book.specs.declared.edits.Edit.{Edit}
use Rattle.zoom_session.specs.declared.session.Session.{Session}
use Rattle.zoom_session.specs.Sessions.{is_open}
use Rattle.chart_service.specs.Blaming.{BlamesEnd, GivesLast}
use Rattle.chart_service.specs.LastShown.{IsLastIn, LastShown}
use Rattle.chart_service.specs.Knowing.{EndsKnown, Follows, KnowsOpen, NamesKnown}
use Rattle.chart_service.specs.Making.{Makes, AreMade}
use Rattle.chart_service.specs.Naming.{GivesBy, GivesFirst, GivesTold, StopsBehind, opens_all}
use Rattle.chart_service.specs.Serving.{told}
use Rattle.chart_service.specs.declared.failure.AnswerEnd.{AnswerEnd}
use Rattle.chart_service.specs.declared.failure.AnswerEnd.TheVariants.{Serve, Reply}
use Rattle.chart_service.specs.declared.failure.ServeEnd.TheVariants.{ReadFault, SendFault, DiskFault, Damaged, InputTooLong, NoMemory}
use Rattle.chart_service.proofs.Blaming.{last_none, last_then}
use Rattle.served_lines.proofs.BlameLemmas.{blames_behind, more_blamed}
use Rattle.served_lines.specs.Blaming.{BlamesTold}
use Rattle.chart_service.proofs.Naming.{first_behind, first_fault}
use Rattle.served_lines.specs.Ending.{answer_of}
use Rattle.served_lines.specs.Shown.{StopsBy}
use Rattle.served_lines.specs.Standing.{IsNamed, StandsSo}
use Rattle.served_lines.specs.Turning.{Any, Does, GivesSome, Named, Over, Stand, StopsAt, lines_of}
use Rattle.served_lines.proofs.Carried.{all_ended, lines_all, said_first, told_are}

module _ {S F : Type 0} (makes : Makes S F) where
  -- what was given by all that was done, and to which lines
  pub record GivesTo (old : Named S) (all : List Given) (text : List ℕ) (stand : Stand S) : Type 0 where
    pub new : Named S
    pub is : stand ≡ Any new
    pub gives : GivesSome makes old new (lines_all all) text

  more_split : (ahead one other front behind kept last : List (Option (List ℕ))) → ahead ++ one ≡ front ++ kept
      → kept ++ other ≡ behind ++ last
      → ahead ++ (one ++ other) ≡ (front ++ behind) ++ last
  more_split ahead one other front behind kept last first second =
      sym (append_assoc ahead one other) ∙ ap (λ (l : List (Option (List ℕ))). l ++ other) first ∙ append_assoc front kept other
      ∙ ap (λ (l : List (Option (List ℕ))). front ++ l) second ∙ sym (append_assoc front behind last)

  pub given : (all : List Given) (old : Named S) (text : List ℕ) (stand : Stand S) → Carries (Does makes) (Any old) all text stand
      → GivesTo old all text stand
  given [] old text stand all = record {
    new = old;
    is = all.1;
    gives = record {
      same_reference = refl;
      front = [];
      split = append-nil old.ahead;
      gives = λ before now sent.
          let G : Option (List ℕ) → Type 0 = λ n. GivesLast makes [] old.kept old.kept old.sessions old.sessions before n in
          subst G (sent_none before ∙ sym (sent ∙ ap (λ t. sent_after t before) all.0)) (last_none makes old.kept old.sessions before);
    };
  }
  given (it ∷ later) old text stand all =
      by all.between all.does (λ mid same. given later mid all.more stand
      (let C : Stand S → Type 0 = λ b. Carries (Does makes) b later all.more stand in subst C same all.others)) refl
    where
      by : (between : Stand S) → Does makes (Any old) it all.first between → ((mid : Named S) → all.between ≡ Any mid
          → GivesTo mid later all.more stand)
          → all.between ≡ between → GivesTo old (it ∷ later) text stand
      by (Over held) does others same = absurd does
      by (Any mid) does others same =
          let rest = others mid same in
          record {
            new = rest.new;
            is = rest.is;
            gives = record {
              same_reference = rest.gives.same_reference ∙ does.0.same_reference;
              front = does.0.front ++ rest.gives.front;
              split = more_split old.ahead (lines_of it)
                  (lines_all later) does.0.front rest.gives.front mid.ahead rest.new.ahead does.0.split rest.gives.split;
              gives = λ before now sent.
                  let mid_sent = sent_after all.first before in
                  let both : now ≡ sent_after all.more mid_sent =
                  sent ∙ ap (λ t. sent_after t before) all.texts
                  ∙ sym (sent_more all.first all.more before mid_sent (sent_after all.more mid_sent) refl refl) in
                  last_then makes does.0.front rest.gives.front old.kept mid.kept rest.new.kept old.sessions mid.sessions rest.new.sessions
                  before mid_sent now (does.0.gives before mid_sent refl) (rest.gives.gives mid_sent now both);
            };
          }

  any_one : (old new : Named S) → ◌≡◌ {A = Stand S} (Any old) (Any new) → old ≡ new
  any_one old new same = cc

  pause_none : (new mid : Named S) (text : List ℕ) (between : Stand S) → Does makes (Any mid) Pause text between → between ≡ Any new
      → new.ahead ≡ []
  pause_none new mid text (Over held) does same = absurd does
  pause_none new mid text (Any next) does same = sym (ap (λ n. n.ahead) (any_one next new same)) ∙ does.1

  -- behind a pause nothing is kept back
  paused : (given_all : List Given) (old : Named S) (text : List ℕ) (stand : Stand S) → EndsPaused given_all
      → Carries (Does makes) (Any old) given_all text stand → (t : GivesTo old given_all text stand) × (t.new.ahead ≡ [])
  paused given_all old text stand p all =
      let C : List Given → Type 0 = λ l. Carries (Does makes) (Any old) l text stand in
      let both = carries_both (Does makes) p.earlier (Pause ∷ []) (Any old) text stand (subst C p.given_are all) in
      let t = given given_all old text stand all in
      let first = given p.earlier old both.begin both.between both.begins in
      let D : Stand S → Type 0 = λ b. Does makes b Pause both.others.first both.others.between in (
        t,
        pause_none t.new first.new both.others.first both.others.between (subst D first.is both.others.does) (sym both.others.others.1
            ∙ t.is),
      )

  none_both : (front rest : List (Option (List ℕ))) → front ++ rest ≡ [] → rest ≡ []
  none_both [] rest none = none
  none_both (line ∷ front) rest none = absurd (cc (none))

  end_none : (new mid : Named S) (text : List ℕ) → mid.ahead ≡ [] → (between : Stand S) → Does makes (Any mid) End text between
      → between ≡ Any new → new.ahead ≡ []
  end_none new mid text none (Over held) does same = absurd does
  end_none new mid text none (Any next) does same =
      sym (ap (λ n. n.ahead) (any_one next new same))
      ∙ none_both does.0.front next.ahead (sym does.0.split ∙ append-nil mid.ahead ∙ none)

  -- nor behind the end that comes then
  ended : (earlier given_all : List Given) (old : Named S) (text : List ℕ) (stand : Stand S) → EndsPaused earlier
      → given_all ≡ earlier ++ End ∷ []
      → Carries (Does makes) (Any old) given_all text stand → (t : GivesTo old given_all text stand) × (t.new.ahead ≡ [])
  ended earlier given_all old text stand p is all =
      let C : List Given → Type 0 = λ l. Carries (Does makes) (Any old) l text stand in
      let both = carries_both (Does makes) earlier (End ∷ []) (Any old) text stand (subst C is all) in
      let t = given given_all old text stand all in
      let first = paused earlier old both.begin both.between p both.begins in
      let D : Stand S → Type 0 = λ b. Does makes b End both.others.first both.others.between in (
        t,
        end_none t.new first.0.new both.others.first first.1 both.others.between (subst D first.0.is both.others.does) (sym
            both.others.others.1 ∙ t.is),
      )

module _ {S F : Type 0} (makes : Makes S F) (v w : S) (own sessions : List Session) (before now : Option (List ℕ)) (name name' : GName)
    (edits : List Edit)
    (told_now : Type 0) (new : View) where
  abbrev start : Named S
  start = record { name = name; kept = v; ahead = []; sessions = own }

  abbrev StandsNow : Stand S → Type 0
  StandsNow stand = StandsSo stand name' w edits told_now new sessions now

  abbrev Stops : Stand S → Given → AnswerEnd F → Option (List ℕ) → Type 0
  Stops stand it end sent = StopsBy makes stand it name' w told_now new.size new.image sessions sent now new.reads new.syncs end

  abbrev RunStops : Option (List ℕ) → Option (List ℕ) → ℕ → ℕ → LinesStop (AnswerEnd F) → Type 0
  RunStops o left pieces pieces' why = runs.StopsSo (Does makes) Stops StandsNow (Any start) o left before now pieces pieces' why

  -- to these lines
  abbrev GivesLines : List (Option (List ℕ)) → Type 0
  GivesLines lines = GivesLast makes lines v w own sessions before now

  gives_to : (all : List Given) (text : List ℕ) (stand : Stand S) (t : GivesTo makes start all text stand) → StandsNow stand
      → now ≡ sent_after text before → GivesLines t.gives.front × (name' ≡ name)
  gives_to all text stand t stands sent =
      let h : IsNamed t.new name' w edits sessions = subst StandsNow t.is stands in
      let K : S → Type 0 = λ k. GivesLast makes t.gives.front v k own sessions before now in
      let O : List Session → Type 0 = λ o. GivesLast makes t.gives.front v t.new.kept own o before now in
      (subst K h.kept_is (subst O h.sessions_are (t.gives.gives before now sent)), sym h.name_is ∙ t.gives.same_reference)

  -- those of the input, where all was done
  lines_told : (pieces pieces' : ℕ) (o : Option (List ℕ))
      (all : runs.Runs (Does makes) (Any start) (runs.AreAll pieces pieces') StandsNow o before now)
      → (lines : List (Option (List ℕ))) × GivesLines lines × (name' ≡ name) × IfSome o (λ input. lines ≡ told input)
  lines_told pieces pieces' None all =
      let t = given makes all.done.given start all.done.text all.done.behind all.done.carries in
      let g = gives_to all.done.given all.done.text all.done.behind t all.stands all.sent in
      (t.gives.front, g.0, g.1, tt)
  lines_told pieces pieces' (Some input) all =
      let t = ended makes all.are.earlier all.done.given start all.done.text all.done.behind all.are.paused all.are.given_are
      all.done.carries in
      let g = gives_to all.done.given all.done.text all.done.behind t.0 all.stands all.sent in
      let are : lines_all all.done.given ≡ told input =
      ap lines_all all.are.given_are ∙ all_ended all.are.earlier ∙ told_are all.are.earlier input all.are.lines_are in (
        t.0.gives.front,
        g.0,
        g.1,
        sym (append-nil t.0.gives.front) ∙ ap (λ (l : List (Option (List ℕ))). t.0.gives.front ++ l) (sym t.1)
            ∙ sym t.0.gives.split ∙ are,
      )

  pub gives_so : {T : Type 0} (o left : Option (List ℕ)) (pieces pieces' : ℕ) (r : Result T (LinesStop (AnswerEnd F)))
      → OnOk r (runs.Runs (Does makes) (Any start) (runs.AreAll pieces pieces') StandsNow o before now)
      → IfErr r (RunStops o left pieces pieces')
      → GivesTold makes o v w own sessions before now (answer_of r) × (name' ≡ name)
  gives_so o left pieces pieces' (Ok done) all why =
      let is = lines_told pieces pieces' o all in
      (record { lines = is.0; gives = is.1.gives; are_told = is.3 }, is.2)
  gives_so o left pieces pieces' (Err (stop.Fault fault.ReadFault)) all why =
      let t = given makes why.done.given start why.done.text why.done.behind why.done.carries in
      let g = gives_to why.done.given why.done.text why.done.behind t why.stands why.sent in (
        record {
          lines = [];
          gives = first_fault makes t.gives.front v w (λ n. is_open n own)
              (λ n. is_open n sessions) before now fault.ReadFault g.0.gives;
          are_told = tt;
        },
        g.1,
      )
  gives_so o left pieces pieces' (Err (stop.Fault fault.InputTooLong)) all why =
      let t = given makes why.done.given start why.done.text why.done.behind why.done.carries in
      let g = gives_to why.done.given why.done.text why.done.behind t why.stands why.sent in (
        record {
          lines = [];
          gives = first_fault makes t.gives.front v w (λ n. is_open n own)
              (λ n. is_open n sessions) before now fault.InputTooLong g.0.gives;
          are_told = tt;
        },
        g.1,
      )
  gives_so o left pieces pieces' (Err (stop.Work end)) all why =
      let d = why.done in
      let t = given makes d.given start d.text d.behind d.carries in
      let mid = sent_after d.text before in
      let P : Stand S → Type 0 = λ s. Stops s why.next end mid in
      let s : StopsAt makes t.new why.next name' w told_now new.size new.image mid now end = subst P t.is why.why in (
        record {
          lines = [];
          gives = first_behind makes t.gives.front v t.new.kept w (λ n. is_open n own) (λ n. is_open n t.new.sessions) before mid now end
              (t.gives.gives before mid
              refl).gives s.gives;
          are_told = tt;
        },
        s.same_reference ∙ t.gives.same_reference,
      )

  -- ---- a page that is called damaged

  -- the lines given, and the one that is given next, are some first lines of the input
  pub first_told : (input : List ℕ) (all : List Given) (next : Given) → AreBeforeWithin (2 ^ 32) input all next
      → (behind : List (Option (List ℕ))) × (told input ≡ (lines_all all ++ lines_of next) ++ behind)
  first_told input all next are =
      let first = are.first in
      let front_is : lines_all all ≡ told first.front = told_are all first.front first.given_are in
      let split : told input ≡ told first.front ++ told first.rest = ap told first.begins.split
      ∙ told_both first.front first.rest first.begins.whole in
      let rest = next_told next first.rest are.next_is in (
        rest.0,
        split ∙ ap (λ (l : List (Option (List ℕ))). l ++ told first.rest) (sym front_is)
            ∙ ap (λ (l : List (Option (List ℕ))). lines_all all ++ l) rest.1
            ∙ sym (append_assoc (lines_all all) (lines_of next) rest.0),
      )
    where
      told_both : (front rest : List ℕ) → IsWhole front ⊎ (rest ≡ []) → told (front ++ rest) ≡ told front ++ told rest
      told_both front rest (inl whole) = told_behind front rest whole
      told_both front rest (inr none) =
          ap (λ (r : List ℕ). told (front ++ r)) none ∙ ap told (append-nil front) ∙ sym (append-nil (told front))
          ∙ ap (λ (l : List (Option (List ℕ))). told front ++ l) (sym (ap (filter says) lines_none))
          ∙ ap (λ (r : List ℕ). told front ++ told r) (sym none)

      next_told : (next : Given) (rest : List ℕ) → IsNextWithin (2 ^ 32) (length are.first.front) rest next
          → (behind : List (Option (List ℕ))) × (told rest ≡ lines_of next ++ behind)
      next_told (Line at line) rest is = (filter says is.1.later, ap (filter says) is.1.lines_are ∙ sym (said_first line is.1.later))
      next_told Pause rest is = (told rest, refl)
      next_told End rest is = (told rest, refl)

  -- the line behind the answered ones blames it
  pub blames_so : {T : Type 0} (o left : Option (List ℕ)) (pieces pieces' : ℕ) (r : Result T (LinesStop (AnswerEnd F)))
      → IfErr r (RunStops o left pieces pieces')
      → IfErr (answer_of r) (BlamesTold makes v w own o before now told_now new.size new.image)
  blames_so o left pieces pieces' (Ok done) why = tt
  blames_so o left pieces pieces' (Err (stop.Fault fault.ReadFault)) why = tt
  blames_so o left pieces pieces' (Err (stop.Fault fault.InputTooLong)) why = tt
  blames_so o left pieces pieces' (Err (stop.Work end)) why =
      let d = why.done in
      let t = given makes d.given start d.text d.behind d.carries in
      let mid = sent_after d.text before in
      let P : Stand S → Type 0 = λ s. Stops s why.next end mid in
      let s : StopsAt makes t.new why.next name' w told_now new.size new.image mid now end = subst P t.is why.why in
      let blamed = blames_behind makes v w own before now told_now new.size new.image t.new.kept t.new.sessions mid t.gives.front
      (t.new.ahead ++ lines_of why.next) end
      (t.gives.gives before mid refl) s.blames in
      let lines_are : t.gives.front ++ (t.new.ahead ++ lines_of why.next) ≡ lines_all d.given ++ lines_of why.next =
      sym (append_assoc t.gives.front t.new.ahead (lines_of why.next))
      ∙ ap (λ (l : List (Option (List ℕ))). l ++ lines_of why.next) (sym t.gives.split) in
      by o end why.are (let B : List (Option (List ℕ))
      → Type 0 = λ l. BlamesEnd makes l v w own before now told_now new.size new.image end in subst B lines_are blamed)
    where
      by : (o : Option (List ℕ)) (end : AnswerEnd F) → IfSome o (λ bytes. AreBeforeWithin (2 ^ 32) bytes why.done.given why.next)
          → BlamesEnd makes (lines_all why.done.given ++ lines_of why.next) v w own before now told_now new.size new.image end
          → BlamesTold makes v w own o before now told_now new.size new.image end
      by o (Serve ReadFault) are is = tt
      by o (Serve SendFault) are is = tt
      by o (Serve DiskFault) are is = tt
      by None (Serve (Damaged page)) are is = tt
      by (Some input) (Serve (Damaged page)) are is =
          let rest = first_told input why.done.given why.next are in
          let g = is.gives.gives in
          record {
            front = is.front;
            line = is.line;
            behind = is.behind ++ rest.0;
            lines_are = rest.1 ∙ ap (λ (l : List (Option (List ℕ))). l ++ rest.0) is.split
                ∙ append_assoc is.front (is.line ∷ is.behind) rest.0;
            frames = g.frames;
            fits = g.fits;
            answers = g.answers;
            named = g.named;
            text = g.text;
            made = g.made;
            sent = g.sent;
            blames = more_blamed is.line (IsLastIn is.sessions)
                (LastShown (IsLastIn own) is.front g.frames) told_now new.size new.image page is.gives.lasts is.blames;
          }
      by o (Serve InputTooLong) are is = tt
      by o (Serve NoMemory) are is = tt
      by o (Reply e) are is = tt

-- ---- what is known of open sessions

-- what opens where it was open opens where it was known
opens_more : (frame : Frame) (n : ℕ) (was known : Bool) → (IsTrue was → IsTrue known) → IsTrue (opens frame n was)
    → IsTrue (opens frame n known)
opens_more (Done slots) n was known more is = more is
opens_more (Refused number a b) n was known more is = more is
opens_more (Opened session cache) n was known more is =
    elim (session == n) as (λ (b : Bool). IsTrue (b || was) → IsTrue (b || known)) [ true ↦ λ t. t | false ↦ more ] is
opens_more (Closed session) n was known more is =
    elim (session == n) as (λ (b : Bool). IsTrue (not b && was) → IsTrue (not b && known)) [ true ↦ λ t. t | false ↦ more ] is
opens_more (ViewFrame view) n was known more is = more is
opens_more (Rows rows) n was known more is = more is
opens_more (Live session on) n was known more is = more is
opens_more (Report report) n was known more is = more is

named_known : (frame : Frame) (was known : ℕ → Bool) → ((n : ℕ) → IsTrue (was n) → IsTrue (known n)) → NamesKnown frame was
    → NamesKnown frame known
named_known (Done slots) was known more named = tt
named_known (Refused number a b) was known more named = tt
named_known (Opened session cache) was known more named = tt
named_known (Closed session) was known more named = more session named
named_known (ViewFrame view) was known more named = more view.session named
named_known (Rows rows) was known more named = more rows.session named
named_known (Live session on) was known more named = more session named
named_known (Report report) was known more named = tt

module _ {S F : Type 0} (makes : Makes S F) (knows : S → ℕ → Bool) (follows : Follows makes knows) where
  known_behind : (frames : List Frame) (v w : S) (was : ℕ → Bool) (lines : List (Option (List ℕ))) (text : List ℕ) → All Fits frames
      → AreMade makes v w lines frames text → ((n : ℕ) → IsTrue (was n) → IsTrue (knows v n)) → (n : ℕ)
      → IsTrue (opens_all frames n (was n)) → IsTrue (knows w n)
  known_behind [] v w was lines text fits made known n is =
      let K : S → Type 0 = λ k. IsTrue (knows k n) in subst K (sym made.1) (known n is)
  known_behind (frame ∷ frames) v w was lines text fits made known n is =
      known_behind frames made.1 w (λ n. opens frame n (was n)) lines made.2 (All-tail Fits frame frames fits) made.5
      (λ n is. follows v made.1 frame made.0 n (All-head Fits frame frames fits) made.3 (opens_more frame n (was n) (knows v n) (known n)
      is)) n is

  stops_known : (last kept : S) (was : ℕ → Bool) (sent now : Option (List ℕ)) (end : AnswerEnd F) → ((n : ℕ) → IsTrue (was n)
      → IsTrue (knows last n))
      → StopsBehind makes last kept was sent now end → EndsKnown makes knows end
  stops_known last kept was sent now (Serve end) known stops = tt
  stops_known last kept was sent now (Reply e) known stops =
      (last, stops.0, kept, stops.1, named_known stops.0 was (knows last) known stops.2, stops.3.1)

  first_known : (v w : S) (own : List Session) (before now : Option (List ℕ)) (end : AnswerEnd F) → KnowsOpen knows v own
      → GivesFirst makes v w (λ n. is_open n own) before now end → EndsKnown makes knows end
  first_known v w own before now end known g =
      stops_known g.last w g.now_open g.sent now end
      (λ n is. known_behind g.given.frames v g.last (λ n. is_open n own) [] g.given.text g.given.fits g.given.made known n
      (subst IsTrue (g.given.open_now n) is)) g.stops

  -- a frame whose bytes weren't made names known sessions
  pub known_by : {T : Type 0} (lines : List (Option (List ℕ))) (v w : S) (own sessions : List Session) (before now : Option (List ℕ))
      (r : Result T (AnswerEnd F))
      → KnowsOpen knows v own
      → GivesBy makes lines v w own sessions before now r → IfErr r (EndsKnown makes knows)
  known_by lines v w own sessions before now (Ok done) known gives = tt
  known_by lines v w own sessions before now (Err end) known gives = first_known v w own before now end known gives
