-- Which line or push of a host calls a page damaged, whatever the pages are.
use Rattle.std.proofs.Common.{◌≡◌, ◌∙◌, ◌⊎◌, ◌<◌, ℕ, List, [], ◌∷◌, ◌++◌, length, Option, None, Some, IfSome, Result, Ok, Err, IfErr, refl}
use Rattle.std.proofs.Common.{ap, sym, subst, inl, inr, arith, append_assoc}
use Rattle.std.specs.Prelude.{⊤}
use Rattle.std.specs.List.{filter}
use Rattle.std.proofs.lemmas.List.{append-nil}
use Rattle.std.proofs.lemmas.List.Elements.{filter-append}
use Rattle.block_disk.specs.Streams.{sent_after}
use Rattle.block_disk.specs.View.{Image, View}
use Rattle.chart_frames.specs.declared.frame.Frame.{Frame}
use Rattle.chart_service.specs.Blaming.{Blames, BlamesRead}
use Rattle.chart_service.specs.EditDamage.{NamesBadForEdit}
use Rattle.chart_service.specs.EditGroups.{SpellEdits, SpellsEdit}
use Rattle.chart_service.specs.Serving.{told}
use Rattle.chart_service.specs.Stepping.{IsBadPage}
use Rattle.chart_service.specs.declared.failure.ServiceError.TheVariants as step
use Rattle.chart_world.specs.Fronts.{IsWhole, says}
use Rattle.chart_world.specs.LineLaws.{lines_none, told_behind}
use Rattle.gate_pages.specs.Journal.{pages_of}
use Rattle.host_lines.specs.Grammar.{host_line}
use Rattle.host_lines.specs.declared.asked.HostLine.{HostLine}
use Rattle.host_lines.specs.declared.asked.HostLine.TheVariants.{List as ListLine, Values, Sum, Sweep, Bad, Other}
use Rattle.host_replies.specs.Replies.{IsReportCause}
use Rattle.line_runs.specs.Given.{AreBeforeWithin, Given, IsNextWithin, Line, Pause, End as EndOf}
use Rattle.line_runs.specs.Runs.{StopsSoWithin}
use Rattle.line_runs.specs.Ends.{run_end, stop_end}
use Rattle.line_runs.specs.declared.lines_stop.LinesStop.{LinesStop}
use Rattle.line_runs.specs.declared.lines_stop.LinesStop.TheVariants as stop
use Rattle.chart_world.specs.declared.line_answer.LineFault.TheVariants as fault
use Rattle.live_service.specs.Kinds.{MayAnswerLive}
use Rattle.live_service.specs.Pushing.{followed_after}
use Rattle.request_lines.specs.Requests.{read_line}
use Rattle.request_lines.specs.declared.requests.Request.{Request}
use Rattle.request_lines.specs.declared.requests.Request.TheVariants.{Edit as EditRequest}
use Rattle.retention.specs.declared.rule.Rule.{Rule}
use Rattle.run_ends.specs.declared.ending.End.{End}
use Rattle.run_ends.specs.declared.ending.End.TheVariants as end
use Rattle.series_book.specs.declared.edits.Edit.{Edit}
use Rattle.series_pair.specs.Damage.{IsBadForChart}
use Rattle.served_lines.proofs.BlameLemmas.{more_blamed}
use Rattle.served_lines.proofs.Carried.{lines_all, said_first, told_are}
use Rattle.served_lines.specs.Turning.{lines_of}
use Rattle.stored_book.proofs.CurrentLemmas.{spelled_current}
use Rattle.stored_book.specs.Damage.{IsBadForRequest}
use Rattle.stored_book.specs.Standing.{book_pages}
use Rattle.store_commands.specs.Exported.{IsBadForExport}
use Rattle.hosted_lines.specs.Answers.{MayAnswerHost, Sends, Watched, followed_behind}
use Rattle.hosted_lines.specs.Blaming.{BlamesAlone, BlamesBy, BlamesFirst, BlamesHost, BlamesNext, FirstBlames, NextBlames, OfDamaged}
use Rattle.hosted_lines.specs.Hosting.{FramesStop}
use Rattle.hosted_lines.specs.Hosts.{IsPassed}
use Rattle.hosted_lines.specs.Standing.{Any, DoesFrom, Named, Stand, StopsFrom}
use Rattle.hosted_lines.proofs.AnswersLemmas.{sends_host}
use Rattle.hosted_lines.proofs.AnyLemmas.{answered}
use Rattle.hosted_lines.proofs.AskLemmas.{asks_nothing}
use Rattle.hosted_lines.proofs.BlameLemmas.{blames_before, blames_behind, blames_so, line_current, told_blames}
use Rattle.hosted_lines.proofs.RowLemmas.{ArePassed}

-- frames that weren't all sent call no page damaged
unsent : (frames : List Frame) (before now : Option (List ℕ)) (IsSo : ℕ → Type 0) (e : End) → FramesStop frames before now e
    → OfDamaged IsSo e
unsent frames before now IsSo end.NoMemory stops = tt
unsent frames before now IsSo end.SendFault stops = tt
unsent frames before now IsSo e stops = absurd stops

pub unsent_frames : {T : Type 0} (r : Result T End) (frames : List Frame) (before now : Option (List ℕ)) (IsSo : ℕ → Type 0)
    → IfErr r (FramesStop frames before now) → IfErr r (OfDamaged IsSo)
unsent_frames (Ok v) frames before now IsSo stops = tt
unsent_frames (Err e) frames before now IsSo stops = unsent frames before now IsSo e stops

-- ---- lines that ask nothing of the host alone blame as those of a live service

front_passed : (first later : List (Option (List ℕ))) → ArePassed (first ++ later) → ArePassed first × ArePassed later
front_passed [] later passed = (tt, passed)
front_passed (line ∷ first) later passed = let rest = front_passed first later passed.1 in ((passed.0, rest.0), rest.1)

module _ (last : ℕ → ℕ → Type 0) (is_told : Type 0) (count : ℕ) (image : Image) (page : ℕ) where
  passed_blames : (line : Option (List ℕ)) → IsPassed line → Blames line last is_told count image page
      → BlamesHost line last is_told count image page
  passed_blames None passed blames = absurd blames
  passed_blames (Some text) passed blames =
      let H : HostLine → Type 0 = λ a. BlamesAlone a text last is_told count image page in subst H (sym passed) blames

  next_passed : (lines : List (Option (List ℕ))) (followed : List ℕ) → ArePassed lines
      → NextBlames Blames lines followed last is_told count image page → NextBlames BlamesHost lines followed last is_told count image page
  next_passed [] followed passed (inl blames) = absurd blames
  next_passed (line ∷ lines) followed passed (inl blames) = inl (passed_blames line passed.0 blames)
  next_passed lines followed passed (inr blames) = inr blames

  -- ---- edits that are done together, what a line asks, and a step

  edit_blamed : (line : Option (List ℕ)) (edit : Edit) → SpellsEdit line edit → NamesBadForEdit is_told count image (step.Damaged page)
      → BlamesHost line last is_told count image page
  edit_blamed None edit spells bad = absurd spells
  edit_blamed (Some []) edit spells bad = absurd spells
  edit_blamed (Some (byte ∷ bytes)) edit spells bad =
      let text : List ℕ = byte ∷ bytes in
      let R : Result Request ℕ → Type 0 = λ r. BlamesRead r last is_told count image page in
      let H : HostLine → Type 0 = λ a. BlamesAlone a text last is_told count image page in
      subst H (sym (asks_nothing text (EditRequest edit) spells))
      (subst R (sym spells) (record { reads = tt; within = bad.0; found = bad.1 }))

  pub group_blamed : (lines : List (Option (List ℕ))) (edits : List Edit) → SpellEdits lines edits → 0 < length edits
      → NamesBadForEdit is_told count image (step.Damaged page)
      → FirstBlames BlamesHost lines last is_told count image page
  group_blamed lines [] spell some bad = absurd (omega (arith, some))
  group_blamed [] (edit ∷ edits) spell some bad = absurd spell
  group_blamed (line ∷ lines) (edit ∷ edits) spell some bad = edit_blamed line edit spell.0 bad

  pub step_blamed : (text : List ℕ) (rule : Rule) → host_line text ≡ Sweep rule → IsBadPage is_told count image page
      → BlamesHost (Some text) last is_told count image page
  step_blamed text rule asks bad =
      let H : HostLine → Type 0 = λ a. BlamesAlone a text last is_told count image page in subst H (sym asks) bad

never_lacks : (page : ℕ) → step.Damaged page ≡ step.NoMemory → ⊥
never_lacks page is = cc

asked_blames : (asked : HostLine) (text : List ℕ) (last : ℕ → ℕ → Type 0) (is_told : Type 0) (old new : View) (page : ℕ)
    → IsReportCause asked (step.Damaged page) is_told old new
    → BlamesAlone asked text last is_told new.size new.image page
asked_blames ListLine text last is_told old new page cause = absurd (never_lacks page cause)
asked_blames (Values name t0 t1) text last is_told old new page cause = cause
asked_blames (Sum session request) text last is_told old new page cause = cause
asked_blames (Sweep rule) text last is_told old new page cause = absurd cause
asked_blames (Bad at) text last is_told old new page cause = absurd cause
asked_blames Other text last is_told old new page cause = absurd cause

pub report_blamed : (text : List ℕ) (asked : HostLine) (last : ℕ → ℕ → Type 0) (is_told : Type 0) (old new : View) (page : ℕ)
    → host_line text ≡ asked → IsReportCause asked (step.Damaged page) is_told old new
    → BlamesHost (Some text) last is_told new.size new.image page
report_blamed text asked last is_told old new page asks cause =
    let H : HostLine → Type 0 = λ a. BlamesAlone a text last is_told new.size new.image page in
    subst H (sym asks) (asked_blames asked text last is_told old new page cause)

-- ---- by what is answered

module _ (is_told : Type 0) (count : ℕ) (image : Image) where
  first_passed : (page : ℕ) (lines : List (Option (List ℕ))) (old : Watched) (before now : Option (List ℕ)) → ArePassed lines
      → BlamesFirst MayAnswerLive followed_after Blames lines old before now is_told count image page
      → BlamesFirst MayAnswerHost followed_behind BlamesHost lines old before now is_told count image page
  first_passed page lines old before now passed it =
      let parts = front_passed it.first it.later (subst ArePassed it.split passed) in
      let done : Result ⊤ End = Ok tt in
      record {
        first = it.first;
        later = it.later;
        split = it.split;
        at = it.at;
        sends = sends_host done it.first old it.at before now parts.0 it.sends;
        blames = next_passed _ is_told count image page it.later it.at.followed parts.1 it.blames;
      }

  pub host_blames : {T : Type 0} (r : Result T End) (lines : List (Option (List ℕ))) (old : Watched) (before now : Option (List ℕ))
      → ArePassed lines
      → IfErr r (OfDamaged (BlamesFirst MayAnswerLive followed_after Blames lines old before now is_told count image))
      → IfErr r (OfDamaged (BlamesFirst MayAnswerHost followed_behind BlamesHost lines old before now is_told count image))
  host_blames {T} r lines old before now passed blames =
      blames_so r (BlamesFirst MayAnswerLive followed_after Blames lines old before now is_told count image)
      (BlamesFirst MayAnswerHost followed_behind BlamesHost lines old before now is_told count image)
      (λ page it. first_passed page lines old before now passed it) blames

  -- lines behind them aren't done
  pub before_blames : {T : Type 0} (r : Result T End) (lines more : List (Option (List ℕ))) (old : Watched) (before now : Option (List ℕ))
      → IfErr r (OfDamaged (BlamesFirst MayAnswerHost followed_behind BlamesHost lines old before now is_told count image))
      → IfErr r (OfDamaged (BlamesFirst MayAnswerHost followed_behind BlamesHost (lines ++ more) old before now is_told count image))
  before_blames {T} r lines more old before now blames =
      blames_so r (BlamesFirst MayAnswerHost followed_behind BlamesHost lines old before now is_told count image)
      (BlamesFirst MayAnswerHost followed_behind BlamesHost (lines ++ more) old before now is_told count image)
      (λ page it. blames_before MayAnswerHost followed_behind BlamesHost is_told count image page lines more old before now it) blames

-- ---- the lines of an input

module _ (limit : ℕ) where
  told_both : (front rest : List ℕ) → IsWhole front ⊎ (rest ≡ []) → told (front ++ rest) ≡ told front ++ told rest
  told_both front rest (inl whole) = told_behind front rest whole
  told_both front rest (inr none) =
      ap (λ r. told (front ++ r)) none ∙ ap told (append-nil front) ∙ sym (append-nil (told front))
      ∙ ap (λ l. told front ++ l) (sym (ap (filter says) lines_none))
      ∙ ap (λ r. told front ++ told r) (sym none)

  next_told : (next : Given) (given : ℕ) (rest : List ℕ) → IsNextWithin limit given rest next
      → (behind : List (Option (List ℕ))) × (told rest ≡ lines_of next ++ behind)
  next_told (Line at line) given rest is = (filter says is.1.later, ap (filter says) is.1.lines_are ∙ sym (said_first line is.1.later))
  next_told Pause given rest is = (told rest, refl)
  next_told EndOf given rest is = (told rest, refl)

  -- the lines given, and the one that is given next, are some first lines of the input
  first_told : (input : List ℕ) (all : List Given) (next : Given) → AreBeforeWithin limit input all next
      → (behind : List (Option (List ℕ))) × (told input ≡ (lines_all all ++ lines_of next) ++ behind)
  first_told input all next are =
      let first = are.first in
      let split : told input ≡ told first.front ++ told first.rest = ap told first.begins.split
      ∙ told_both first.front first.rest first.begins.whole in
      let rest = next_told next (length first.front) first.rest are.next_is in (
        rest.0,
        split ∙ ap (λ l. l ++ told first.rest) (sym (told_are all first.front first.given_are)) ∙ ap (λ l. lines_all all ++ l) rest.1
            ∙ sym (append_assoc (lines_all all) (lines_of next) rest.0),
      )

  module _ (watched : Watched) (is_told : Type 0) (count : ℕ) (image : Image) (before now : Option (List ℕ))
      (reads syncs pieces pieces' : ℕ) (left : Option (List ℕ)) (IsNow : Stand → Type 0) where
    abbrev begin : Named
    begin = record { ahead = []; watched = watched }

    abbrev Stopping : Stand → Given → End → Option (List ℕ) → Type 0
    Stopping stand it e earlier = StopsFrom stand it is_told count image earlier now reads syncs e

    abbrev Blamed : Option (List ℕ) → End → Type 0
    Blamed o e = OfDamaged (λ page. IfSome o (λ input. BlamesFirst MayAnswerHost followed_behind BlamesHost
        (told input) watched before now is_told count image page)) e

    by : (o : Option (List ℕ)) (e : End) (given : List Given) (next : Given) → IfSome o (λ bytes. AreBeforeWithin limit bytes given next)
        → OfDamaged (BlamesFirst MayAnswerHost followed_behind BlamesHost
        (lines_all given ++ lines_of next) watched before now is_told count image) e → Blamed o e
    by None (end.DamagedPage page) given next are blames = tt
    by (Some input) (end.DamagedPage page) given next are blames =
        let rest = first_told input given next are in
        let L : List (Option (List ℕ)) → Type 0 = λ l.
        BlamesFirst MayAnswerHost followed_behind BlamesHost l watched before now is_told count image page in
        subst L (sym rest.1) (blames_before MayAnswerHost followed_behind BlamesHost is_told count image page
        (lines_all given ++ lines_of next) rest.0 watched before now blames)
    by o e given next are blames = tt

    behind : (e : End) (front ahead lines : List (Option (List ℕ))) (mid : Watched) (meanwhile : Option (List ℕ))
        → Sends MayAnswerHost followed_behind front watched mid before meanwhile
        → OfDamaged (BlamesFirst MayAnswerHost followed_behind BlamesHost (ahead ++ lines) mid meanwhile now is_told count image) e
        → OfDamaged (BlamesFirst MayAnswerHost followed_behind BlamesHost
        ((front ++ ahead) ++ lines) watched before now is_told count image) e
    behind (end.DamagedPage page) front ahead lines mid meanwhile sends blames =
        let L : List (Option (List ℕ)) → Type 0 = λ l.
        BlamesFirst MayAnswerHost followed_behind BlamesHost l watched before now is_told count image page in
        subst L (sym (append_assoc front ahead lines))
        (blames_behind MayAnswerHost followed_behind BlamesHost is_told count image page front
        (ahead ++ lines) watched mid before meanwhile now sends blames)
    behind e front ahead lines mid meanwhile sends blames = tt

    stopped : (o : Option (List ℕ)) (why : LinesStop End)
        → StopsSoWithin limit DoesFrom Stopping IsNow (Any begin) o left before now pieces pieces' why → Blamed o (stop_end why)
    stopped o (stop.Fault fault.ReadFault) r = tt
    stopped o (stop.Fault fault.InputTooLong) r = tt
    stopped o (stop.Work e) r =
        let t = answered r.done.given begin r.done.text r.done.behind r.done.carries in
        let mid = sent_after r.done.text before in
        let W : Stand → Type 0 = λ s. Stopping s r.next e mid in
        let why : W (Any t.new) = subst W t.is r.why in
        let L : List (Option (List ℕ)) → Type 0 = λ l. OfDamaged
        (BlamesFirst MayAnswerHost followed_behind BlamesHost (l ++ lines_of r.next) watched before now is_told count image) e in
        by o e r.done.given r.next r.are
        (subst L (sym t.some.split) (behind e t.some.front t.new.ahead (lines_of r.next) t.new.watched mid
        (record { text = r.done.text; answers = t.some.answers; sent = refl }) why))

    pub all_blames : {T : Type 0} (answer : Result T (LinesStop End)) (o : Option (List ℕ))
        → IfErr answer (StopsSoWithin limit DoesFrom Stopping IsNow (Any begin) o left before now pieces pieces')
        → Blamed o (run_end answer)
    all_blames {T} (Ok v) o stops = tt
    all_blames {T} (Err why) o stops = stopped o why stops

-- ---- of a run that begins with no session, on a disk

alone_more : (asked : HostLine) (text : List ℕ) (one other : ℕ → ℕ → Type 0) (is_told : Type 0) (count : ℕ) (image : Image) (page : ℕ)
    → ((n id : ℕ) → one n id → other n id)
    → BlamesAlone asked text one is_told count image page → BlamesAlone asked text other is_told count image page
alone_more ListLine text one other is_told count image page more blames = absurd blames
alone_more (Values name t0 t1) text one other is_told count image page more blames = blames
alone_more (Sum session request) text one other is_told count image page more blames = blames
alone_more (Sweep rule) text one other is_told count image page more blames = blames
alone_more (Bad at) text one other is_told count image page more blames = absurd blames
alone_more Other text one other is_told count image page more blames = more_blamed
    (Some text) one other is_told count image page more blames

host_more : (line : Option (List ℕ)) (one other : ℕ → ℕ → Type 0) (is_told : Type 0) (count : ℕ) (image : Image) (page : ℕ)
    → ((n id : ℕ) → one n id → other n id)
    → BlamesHost line one is_told count image page → BlamesHost line other is_told count image page
host_more None one other is_told count image page more blames = absurd blames
host_more (Some text) one other is_told count image page more blames = alone_more
    (host_line text) text one other is_told count image page more blames

pub host_told : (is_told : Type 0) (count : ℕ) (image : Image) (e : End) (o : Option (List ℕ)) (old : Watched)
    (before now : Option (List ℕ)) → old.sessions ≡ [] → old.followed ≡ []
    → OfDamaged (λ page. IfSome o (λ input. BlamesFirst MayAnswerHost followed_behind BlamesHost
    (told input) old before now is_told count image page)) e
    → OfDamaged (λ page. IfSome o (λ input. BlamesNext MayAnswerHost followed_behind BlamesHost input before now is_told count image page))
    e
host_told is_told count image e o old before now none alone blames =
    told_blames MayAnswerHost followed_behind BlamesHost is_told count image
    (λ page line one other more blamed. host_more line one other is_told count image page more blamed) e o old before now none alone
    blames

-- what page 0 says of the pages of a disk, they say where they are of version 2
values_current : (name : List ℕ) (count : ℕ) (image : Image) (page : ℕ) → IsBadForExport name count (pages_of count image) page
    → IsBadForExport name count (book_pages count image) page
values_current name count image page bad =
    let Says : Image → Type 0 = λ pages. IsBadForExport name count pages page in
    subst Says (sym (spelled_current (pages_of count image) bad.numbers bad.keeps.spelled)) bad

sum_current : (count : ℕ) (image : Image) (page : ℕ) → IsBadForChart count (pages_of count image) page
    → IsBadForChart count (book_pages count image) page
sum_current count image page bad =
    let Says : Image → Type 0 = λ pages. IsBadForChart count pages page in
    subst Says (sym (spelled_current (pages_of count image) bad.numbers bad.keeps.spelled)) bad

request_current : (count : ℕ) (image : Image) (page : ℕ) → IsBadForRequest count (pages_of count image) page
    → IsBadForRequest count (book_pages count image) page
request_current count image page bad =
    let Says : Image → Type 0 = λ pages. IsBadForRequest count pages page in
    subst Says (sym (spelled_current (pages_of count image) bad.numbers bad.keeps.spelled)) bad

alone_current : (asked : HostLine) (text : List ℕ) (last : ℕ → ℕ → Type 0) (is_told : Type 0) (count : ℕ) (image : Image) (page : ℕ)
    → BlamesAlone asked text last is_told count (pages_of count image) page
    → BlamesAlone asked text last is_told count (book_pages count image) page
alone_current ListLine text last is_told count image page blames = absurd blames
alone_current (Values name t0 t1) text last is_told count image page blames = (
  blames.0,
  λ t. values_current name count image page (blames.1 t),
)
alone_current (Sum session request) text last is_told count image page blames = (blames.0, λ t. sum_current count image page (blames.1 t))
alone_current (Sweep rule) text last is_told count image page blames = (blames.0, λ t. request_current count image page (blames.1 t))
alone_current (Bad at) text last is_told count image page blames = absurd blames
alone_current Other text last is_told count image page blames = line_current (Some text) last is_told count image page blames

pub host_current : (line : Option (List ℕ)) (last : ℕ → ℕ → Type 0) (is_told : Type 0) (count : ℕ) (image : Image) (page : ℕ)
    → BlamesHost line last is_told count (pages_of count image) page
    → BlamesHost line last is_told count (book_pages count image) page
host_current None last is_told count image page blames = absurd blames
host_current (Some text) last is_told count image page blames = alone_current (host_line text) text last is_told count image page blames
