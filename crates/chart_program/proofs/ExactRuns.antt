-- What a call makes is a run.
use Rattle.std.proofs.Common.{◌≡◌, ◌≢◌, ℕ, true, false, zero, suc, ◌<◌, ◌≤◌, ◌^◌, inl, inr, List, [], ◌++◌, map, take}
use Rattle.std.proofs.Common.{drop, Option, None, Some, IfSome, refl, sym, subst, ap, ◌∙◌, arith}
use Rattle.std.specs.Prelude.{Contains, if◌then◌else◌}
use Rattle.std.specs.List.{list_any}
use Rattle.std.proofs.lemmas.List.{append_cancel_left, append-nil, take-append-drop}
use Rattle.block_disk.specs.Streams.{sent_after}
use Rattle.block_disk.specs.View.{Image, View, sent_now}
use Rattle.chart_world.specs.Fronts.{BeginsWith}
use Rattle.chart_service.specs.State.{State}
use Rattle.chart_service.specs.Serving.{told, Answers, AreSpelled, SendsFirst}
use Rattle.chart_frames.specs.declared.frame.Frame.{Frame}
use Rattle.disk_store.specs.Held.{HoldsBook}
use Rattle.draw_command.specs.declared.draw_end.DrawEnd.TheVariants as draw_end
use Rattle.empty_store.specs.Stores.{IsNewStore}
use Rattle.gate_pages.specs.Journal.{page_count}
use Rattle.program_words.specs.declared.words.Command.{Command}
use Rattle.program_words.specs.declared.words.Command.TheVariants.{Plot, Load, Demo, Run, Serve, Draw, Init}
use Rattle.program_words.specs.declared.words.Command.TheVariants.{Check, ListSeries, Export, Retain, Cover, Live, Host, Derive}
use Rattle.series_book.specs.declared.one_series.Series.{Series}
use Rattle.served_fronts.specs.Fronts.{Draws, Covers}
use Rattle.served_fronts.specs.Headline.{IsExact, IsRun}
use Rattle.served_fronts.specs.Headline.Task.{serves, runs, watches, looks, changes}
use Rattle.served_fronts.specs.Servings.{SendsFirstBytes, ServingsAreExact, TextsAreExact}
use Rattle.served_fronts.specs.Books.{said_by}
use Rattle.served_fronts.specs.Laws.{LinesSayWhatIsRead}
use Rattle.served_fronts.proofs.Keeping.{told_join}
use Rattle.served_fronts.proofs.Starts.{begin_sound}
use Rattle.stored_book.specs.Standing.{RecoversTo, book_pages}
use Rattle.store_commands.specs.Books.{begun, LeavesSame}
use Rattle.chart_program.specs.CommandStatuses.{codes_of}
use Rattle.chart_program.specs.Exact.{run_of, task_of, drawing_codes, MakesRuns, BeginsRuns, DrawsFronts}
use Rattle.chart_program.specs.HostLines.{asks_sweep}
use Rattle.chart_program.specs.Lives.{BeginsOn, IsLeftAt}
use Rattle.chart_program.specs.Ran.{CommandEnds, Leaves}
use Rattle.chart_program.specs.Served.{Faults, AreTexts}
use Rattle.live_command.specs.Ended.{LeavesLived}
use Rattle.hosted_lines.specs.Begun.{begun_live}
use Rattle.chart_program.proofs.CommandsEnd.{small_never}
use Rattle.chart_program.proofs.HostRuns.{quiet_left}
use Rattle.chart_program.proofs.LiveRuns.{live_follows}
use Rattle.chart_program.proofs.LivesLemmas.{begun_holds, left_by, run_lives, OneBook}

-- ---- what was sent

same_sent : (was sent text : List ℕ) → Some (was ++ sent) ≡ Some (was ++ text) → sent ≡ text
same_sent was sent text same = let inner : was ++ sent ≡ was ++ text = cc in append_cancel_left was sent text inner

module _ (IsText : List (Option (List ℕ)) → List Frame → List ℕ → Type 0) where
  -- some first lines were answered, and a front of their text was sent
  sent_front : (old between : State) (input front rest text sent unsent : List ℕ) (status : ℕ) → BeginsWith input front rest
      → Answers IsText front text old between → text ≡ sent ++ unsent → status ≢ 0 → SendsFirstBytes IsText old input status sent
  sent_front old between input front rest text sent unsent status begins answers is other = record {
    lines = told front;
    later = told rest;
    split = told_join input front rest begins;
    frames = answers.frames;
    new = between;
    replied = answers.replied;
    text = text;
    texts = answers.texts;
    unsent = unsent;
    bytes = is;
    all = λ done. absurd (other done);
  }

  -- their whole text was
  sent_first : (old between : State) (input rest was sent : List ℕ) (status : ℕ)
      → SendsFirst IsText input rest old between (Some was) (Some (was ++ sent)) → status ≢ 0 → SendsFirstBytes IsText old input status sent
  sent_first old between input rest was sent status first other =
      sent_front old between input first.front rest first.text sent [] status first.begins first.answers
      (sym (same_sent was sent first.text first.sent) ∙ sym (append-nil sent)) other

  -- the first bytes of it were
  sent_part : (old between : State) (input front rest text was sent : List ℕ) (count status : ℕ) → BeginsWith input front rest
      → Answers IsText front text old between → Some (was ++ sent) ≡ sent_after (take count text) (Some was) → status ≢ 0
      → SendsFirstBytes IsText old input status sent
  sent_part old between input front rest text was sent count status begins answers is other =
      sent_front old between input front rest text sent (drop count text) status begins answers
      (sym (take-append-drop count text) ∙ ap (λ l. l ++ drop count text) (sym (same_sent was sent (take count text) is))) other

  -- all lines were answered
  sent_all : (old new : State) (input text was sent : List ℕ) (status : ℕ) → Answers IsText input text old new
      → Some (was ++ sent) ≡ sent_after text (Some was) → SendsFirstBytes IsText old input status sent
  sent_all old new input text was sent status answers is = record {
    lines = told input;
    later = [];
    split = sym (append-nil (told input));
    frames = answers.frames;
    new = new;
    replied = answers.replied;
    text = text;
    texts = answers.texts;
    unsent = [];
    bytes = sym (same_sent was sent text is) ∙ sym (append-nil sent);
    all = λ done. (refl, refl);
  }

other_than : (code some : ℕ) → code ≡ suc some → code ≢ 0
other_than code some is zero_is = let never : suc some ≡ 0 = sym is ∙ zero_is in omega (arith, never)

-- ---- a serving

module _ (old new : View) (input was sent bytes : List ℕ) (faults : Faults) (code place : ℕ)
    (e : CommandEnds Serve old new (Some input) (Some bytes) (Some was) (Some (was ++ sent)) faults code place) where
  serve_sent : (total : ℕ) (book : List Series) → HoldsBook (page_count old.size) total book old → Contains (codes_of Serve) code
      → SendsFirstBytes AreSpelled (begun total book) input code sent
  serve_sent total book holds (zero, inside, is) =
      let done = e.done (sym is) total book holds in
      sent_all AreSpelled (begun total book) done.0 input done.1.text was sent code done.1.answers done.1.sent
  serve_sent total book holds (suc zero, inside, is) =
      let some = e.memory (sym is) total book holds in
      sent_first AreSpelled (begun total book) some.1.between input some.1.rest was sent code some.1.first (other_than code 2 (sym is))
  serve_sent total book holds (suc (suc zero), inside, is) =
      let taken = e.stopped (sym is) total book holds in
      sent_first AreSpelled (begun total book) taken.0 input taken.1.rest was sent code taken.1.first (other_than code 3 (sym is))
  serve_sent total book holds (suc (suc (suc zero)), inside, is) =
      let part = (e.part (sym is) total book holds).1 in
      sent_part AreSpelled (begun total book) part.between input part.front part.rest part.text was sent part.count code part.begins
      part.answers part.sent (other_than code 4 (sym is))
  serve_sent total book holds (suc (suc (suc (suc zero))), inside, is) =
      let lines = e.faulted (sym is) total book holds in
      sent_first AreSpelled (begun total book) lines.between input lines.rest was sent code lines.first (other_than code 5 (sym is))
  serve_sent total book holds (suc (suc (suc (suc (suc zero)))), inside, is) =
      absurd (e.undamaged (sym is) total book holds)
  serve_sent total book holds (suc (suc (suc (suc (suc (suc zero))))), inside, is) =
      let within = (e.much (sym is)).2 total book holds in
      sent_first AreSpelled (begun total book) within.0 input within.1.rest was sent code within.1.first (other_than code 8 (sym is))
  serve_sent total book holds (suc (suc (suc (suc (suc (suc (suc zero)))))), inside, is) =
      absurd (small_never old total book holds (omega (arith, (e.small (sym is)).1)))
  serve_sent total book holds (suc (suc (suc (suc (suc (suc (suc (suc k))))))), inside, is) = absurd (omega (arith, inside))

  serve_run : ServingsAreExact → (begins after : Image) (at : ℕ) → BeginsOn begins old → IsLeftAt old new at after
      → IsRun (page_count old.size) (run_of serves begins input sent code old new at after)
  serve_run law begins after at b is total book recovers =
      let count = page_count old.size in
      let holds = begun_holds count total book begins old b recovers in
      let there = (e.crash total book holds).here at after is.0 is.1.0 is.1.1 in
      let run = run_of serves begins input sent code old new at after in
      let exact = law total book run (book_pages count after) (sent_now old) (new.sent_by at)
      (begin_sound count total begins book recovers) (serve_sent total book holds e.own) there.ahead refl in
      (exact.0, exact.1, record { readable = there.readable; within = there.within; old = there.old; stands = exact.2 })

-- ---- a look

look_run : (old new : View) (input sent : List ℕ) (code : ℕ) → LeavesSame (page_count old.size) old new → (begins after : Image) (at : ℕ)
    → BeginsOn begins old → IsLeftAt old new at after → IsRun (page_count old.size) (run_of looks begins input sent code old new at after)
look_run old new input sent code leaves begins after at b is total book recovers =
    (book, refl, (leaves total book (begun_holds (page_count old.size) total book begins old b recovers)).here at after is.0 is.1.0 is.1.1)

-- ---- a run of texts

module _ (old new : View) (input was sent bytes : List ℕ) (faults : Faults) (code place : ℕ)
    (e : CommandEnds Run old new (Some input) (Some bytes) (Some was) (Some (was ++ sent)) faults code place) where
  texts_sent : (total : ℕ) (book : List Series) → HoldsBook (page_count old.size) total book old → Contains (codes_of Run) code
      → SendsFirstBytes (AreTexts (begun total book)) (begun total book) input code sent
  texts_sent total book holds (zero, inside, is) =
      let done = e.done (sym is) total book holds in
      sent_all (AreTexts (begun total book)) (begun total book) done.0 input done.1.text was sent code done.1.answers done.1.sent
  texts_sent total book holds (suc zero, inside, is) =
      let some = e.memory (sym is) total book holds in
      sent_first (AreTexts (begun total book)) (begun total book) some.1.between input some.1.rest was sent code some.1.first
      (other_than code 2 (sym is))
  texts_sent total book holds (suc (suc zero), inside, is) =
      let taken = e.stopped (sym is) total book holds in
      sent_first (AreTexts (begun total book)) (begun total book) taken.0 input taken.1.rest was sent code taken.1.first
      (other_than code 3 (sym is))
  texts_sent total book holds (suc (suc (suc zero)), inside, is) =
      let part = (e.part (sym is) total book holds).1 in
      sent_part (AreTexts (begun total book)) (begun total book) part.between input part.front part.rest part.text was sent part.count code
      part.begins
      part.answers part.sent (other_than code 4 (sym is))
  texts_sent total book holds (suc (suc (suc (suc zero))), inside, is) =
      let lines = e.faulted (sym is) total book holds in
      sent_first (AreTexts (begun total book)) (begun total book) lines.between input lines.rest was sent code lines.first
      (other_than code 5 (sym is))
  texts_sent total book holds (suc (suc (suc (suc (suc zero)))), inside, is) =
      absurd (e.undamaged (sym is) total book holds)
  texts_sent total book holds (suc (suc (suc (suc (suc (suc zero))))), inside, is) =
      let within = (e.much (sym is)).2 total book holds in
      sent_first (AreTexts (begun total book)) (begun total book) within.0 input within.1.rest was sent code within.1.first
      (other_than code 8 (sym is))
  texts_sent total book holds (suc (suc (suc (suc (suc (suc (suc zero)))))), inside, is) =
      absurd ((e.missing (sym is)).0 total book holds)
  texts_sent total book holds (suc (suc (suc (suc (suc (suc (suc (suc zero))))))), inside, is) =
      absurd ((e.misfit (sym is)).0 total book holds)
  texts_sent total book holds (suc (suc (suc (suc (suc (suc (suc (suc (suc zero)))))))), inside, is) =
      absurd (small_never old total book holds (omega (arith, (e.small (sym is)).1)))
  texts_sent total book holds (suc (suc (suc (suc (suc (suc (suc (suc (suc (suc k))))))))), inside, is) = absurd (omega (arith, inside))

  text_run : TextsAreExact → (begins after : Image) (at : ℕ) → BeginsOn begins old → IsLeftAt old new at after
      → IsRun (page_count old.size) (run_of runs begins input sent code old new at after)
  text_run law begins after at b is total book recovers =
      let count = page_count old.size in
      let holds = begun_holds count total book begins old b recovers in
      let there = (e.crash total book holds).here at after is.0 is.1.0 is.1.1 in
      let run = run_of runs begins input sent code old new at after in
      let exact = law total book run (book_pages count after) (sent_now old) (new.sent_by at) (texts_sent total book holds e.own)
      there.ahead refl in
      (exact.0, exact.1, record { readable = there.readable; within = there.within; old = there.old; stands = exact.2 })

-- ---- a run that follows views

live_run : LinesSayWhatIsRead → (old new : View) (input sent : List ℕ) (code : ℕ) → LeavesLived (page_count old.size) input old new
    → (begins after : Image) (at : ℕ) → BeginsOn begins old → IsLeftAt old new at after
    → IsRun (page_count old.size) (run_of watches begins input sent code old new at after)
live_run reads old new input sent code leaves begins after at b is total book recovers =
    let a = (leaves total book (begun_holds (page_count old.size) total book begins old b recovers)).here at after is.0 is.1.0 is.1.1 in
    let first = a.first in (
      a.state.state.book,
      record {
        lines = told first.front;
        later = told first.rest;
        split = told_join input first.front first.rest first.begins;
        requests = map said_by (told first.front);
        said = reads (told first.front);
        next_is = live_follows (begun_live total book) a.state (told first.front) (a.shown ++ a.more) first.lives;
      },
      a.there,
    )

-- ---- another change

change_run : OneBook → (command : Command) (old new : View) (input sent : List ℕ) (code : ℕ) → Leaves command input old new
    → (begins after : Image) (at : ℕ) → BeginsOn begins old → IsLeftAt old new at after
    → IsRun (page_count old.size) (run_of changes begins input sent code old new at after)
change_run one command old new input sent code leaves begins after at b is total book recovers =
    let life = run_lives command input old new begins after at b leaves is total book recovers in
    let left = left_by one command input (page_count old.size) total book (sent_now old) after (new.sent_by at) life in
    (left.0, tt, left.2)

-- ---- a run of `host`, which is as one that follows views unless a line asks for a sweep

host_run : LinesSayWhatIsRead → OneBook → (old new : View) (input sent : List ℕ) (code : ℕ) → Leaves Host input old new
    → (begins after : Image) (at : ℕ) → BeginsOn begins old → IsLeftAt old new at after
    → IsRun (page_count old.size) (run_of (task_of Host input) begins input sent code old new at after)
host_run reads one old new input sent code leaves begins after at b is total book recovers =
    let life = run_lives Host input old new begins after at b leaves is total book recovers in
    let left = left_by one Host input (page_count old.size) total book (sent_now old) after (new.sent_by at) life in (
      left.0,
      (elim (list_any asks_sweep (told input)) as (λ some. list_any asks_sweep (told input) ≡ some
          → IsExact (if some then changes else watches) total book
          (run_of (task_of Host input) begins input sent code old new at after) left.0) [
            | true ↦ λ some. tt
            | false ↦ λ none. quiet_left reads total book input left.0 none left.1.0
          ]) refl,
      left.2,
    )

-- ---- any command

command_run : ServingsAreExact → TextsAreExact → LinesSayWhatIsRead → OneBook
    → (command : Command) (old new : View) (input was sent bytes : List ℕ) (faults : Faults)
    (code place : ℕ) → CommandEnds command old new (Some input) (Some bytes) (Some was) (Some (was ++ sent)) faults code place
    → (begins after : Image) (at : ℕ) → BeginsOn begins old → IsLeftAt old new at after
    → IsRun (page_count old.size) (run_of (task_of command input) begins input sent code old new at after)
command_run law texts reads one (Plot w h) old new input was sent bytes faults code place e = look_run old new input sent code e.crash
command_run law texts reads one Draw old new input was sent bytes faults code place e = look_run old new input sent code e.crash
command_run law texts reads one (Cover every) old new input was sent bytes faults code place e = look_run old new input sent code e.crash
command_run law texts reads one Init old new input was sent bytes faults code place e = look_run old new input sent code e.crash
command_run law texts reads one Check old new input was sent bytes faults code place e = look_run old new input sent code e.crash
command_run law texts reads one ListSeries old new input was sent bytes faults code place e = look_run old new input sent code e.crash
command_run law texts reads one (Export name window) old new input was sent bytes faults code place e = look_run old new input sent code
    e.crash
command_run law texts reads one Derive old new input was sent bytes faults code place e = look_run old new input sent code e.crash
command_run law texts reads one Serve old new input was sent bytes faults code place e = serve_run old new input was sent bytes faults code
    place e law
command_run law texts reads one Run old new input was sent bytes faults code place e = text_run old new input was sent bytes faults code
    place e texts
command_run law texts reads one (Load name) old new input was sent bytes faults code place e =
    change_run one (Load name) old new input sent code e.crash
command_run law texts reads one (Demo seed rounds) old new input was sent bytes faults code place e =
    change_run one (Demo seed rounds) old new input sent code e.crash
command_run law texts reads one Retain old new input was sent bytes faults code place e = change_run one Retain old new input sent code
    e.crash
command_run law texts reads one Live old new input was sent bytes faults code place e = live_run reads old new input sent code e.crash
command_run law texts reads one Host old new input was sent bytes faults code place e = host_run reads one old new input sent code e.crash

-- where the input is told
pub runs_made : ServingsAreExact → TextsAreExact → LinesSayWhatIsRead → OneBook
    → (command : Command) (old new : View) (left left' before now : Option (List ℕ))
    (faults : Faults) (code place : ℕ) → CommandEnds command old new left left' before now faults code place
    → IfSome left (λ input. MakesRuns code left' command old new input before now)
runs_made law texts reads one command old new None left' before now faults code place e = tt
runs_made law texts reads one command old new (Some input) left' before now faults code place e =
    λ begins after at was sent bytes b is left_is before_is now_is.
    let L : Option (List ℕ) → Type 0 = λ l. CommandEnds command old new (Some input) l before now faults code place in
    let B : Option (List ℕ) → Type 0 = λ o. CommandEnds command old new (Some input) (Some bytes) o now faults code place in
    let N : Option (List ℕ) → Type 0 = λ o. CommandEnds command old new (Some input) (Some bytes) (Some was) o faults code place in
    command_run law texts reads one command old new input was sent bytes faults code place
    (subst N now_is (subst B before_is (subst L left_is e)))
    begins after at b is

-- ---- the first run

abbrev pub NewStoresRecover : Type 0
NewStoresRecover = (count : ℕ) (image : Image) → 62 ≤ count → count < 2 ^ 32 → IsNewStore count image → RecoversTo count image count []

pub runs_begun : NewStoresRecover → (command : Command) (old new : View) (left left' before now : Option (List ℕ)) (faults : Faults)
    (code place : ℕ) → CommandEnds command old new left left' before now faults code place → code ≡ 0 → BeginsRuns command old new
runs_begun recovers Init old new left left' before now faults code place e is = λ honest.
    let made = e.made is in (
      record { honest = e.disk.honest honest; only = made.rests },
      recovers (page_count old.size) new.image (omega (arith, made.large)) (omega arith) (made.store honest),
    )
runs_begun recovers (Plot w h) old new left left' before now faults code place e is = tt
runs_begun recovers Draw old new left left' before now faults code place e is = tt
runs_begun recovers (Cover every) old new left left' before now faults code place e is = tt
runs_begun recovers Check old new left left' before now faults code place e is = tt
runs_begun recovers ListSeries old new left left' before now faults code place e is = tt
runs_begun recovers (Export name window) old new left left' before now faults code place e is = tt
runs_begun recovers Derive old new left left' before now faults code place e is = tt
runs_begun recovers Serve old new left left' before now faults code place e is = tt
runs_begun recovers Run old new left left' before now faults code place e is = tt
runs_begun recovers (Load name) old new left left' before now faults code place e is = tt
runs_begun recovers (Demo seed rounds) old new left left' before now faults code place e is = tt
runs_begun recovers Retain old new left left' before now faults code place e is = tt
runs_begun recovers Live old new left left' before now faults code place e is = tt
runs_begun recovers Host old new left left' before now faults code place e is = tt

-- ---- drawings

drawing : (old new : View) (input : List ℕ) (left' before now : Option (List ℕ)) (faults : Faults) (code place : ℕ)
    → CommandEnds Draw old new (Some input) left' before now faults code place → Contains drawing_codes code → Draws input left' before now
drawing old new input left' before now faults code place e (zero, inside, is) = inl (e.done (sym is))
drawing old new input left' before now faults code place e (suc zero, inside, is) = inr (draw_end.BadFrame place, tt, e.bad (sym is))
drawing old new input left' before now faults code place e (suc (suc zero), inside, is) =
    inr (draw_end.InputTooLong, tt, (e.much (sym is)).1)
drawing old new input left' before now faults code place e (suc (suc (suc zero)), inside, is) =
    let lacks = e.missing (sym is) in inr (draw_end.Missing lacks.0, tt, lacks.2)
drawing old new input left' before now faults code place e (suc (suc (suc (suc zero))), inside, is) =
    let misfits = e.misfit (sym is) in inr (draw_end.BadCoefficient misfits.0, tt, misfits.2)
drawing old new input left' before now faults code place e (suc (suc (suc (suc (suc zero)))), inside, is) =
    inr (draw_end.UnknownSession place, tt, e.unopened (sym is))
drawing old new input left' before now faults code place e (suc (suc (suc (suc (suc (suc k))))), inside, is) =
    absurd (omega (arith, inside))

-- and with covers
covering : (every : ℕ) (old new : View) (input : List ℕ) (left' before now : Option (List ℕ)) (faults : Faults) (code place : ℕ)
    → CommandEnds (Cover every) old new (Some input) left' before now faults code place → Contains drawing_codes code
    → Covers every input left' before now
covering every old new input left' before now faults code place e (zero, inside, is) = inl (e.done (sym is))
covering every old new input left' before now faults code place e (suc zero, inside, is) = inr (draw_end.BadFrame place, tt, e.bad (sym is))
covering every old new input left' before now faults code place e (suc (suc zero), inside, is) =
    inr (draw_end.InputTooLong, tt, (e.much (sym is)).1)
covering every old new input left' before now faults code place e (suc (suc (suc zero)), inside, is) =
    let lacks = e.missing (sym is) in inr (draw_end.Missing lacks.0, tt, lacks.2)
covering every old new input left' before now faults code place e (suc (suc (suc (suc zero))), inside, is) =
    let misfits = e.misfit (sym is) in inr (draw_end.BadCoefficient misfits.0, tt, misfits.2)
covering every old new input left' before now faults code place e (suc (suc (suc (suc (suc zero)))), inside, is) =
    inr (draw_end.UnknownSession place, tt, e.unopened (sym is))
covering every old new input left' before now faults code place e (suc (suc (suc (suc (suc (suc k))))), inside, is) =
    absurd (omega (arith, inside))

pub drawings_told : (command : Command) (old new : View) (left left' before now : Option (List ℕ)) (faults : Faults) (code place : ℕ)
    → CommandEnds command old new left left' before now faults code place → Contains drawing_codes code
    → IfSome left (λ input. DrawsFronts left' command old new input before now)
drawings_told command old new None left' before now faults code place e is = tt
drawings_told Draw old new (Some input) left' before now faults code place e is =
    drawing old new input left' before now faults code place e is
drawings_told Init old new (Some input) left' before now faults code place e is = tt
drawings_told (Plot w h) old new (Some input) left' before now faults code place e is = tt
drawings_told (Cover every) old new (Some input) left' before now faults code place e is =
    covering every old new input left' before now faults code place e is
drawings_told Check old new (Some input) left' before now faults code place e is = tt
drawings_told ListSeries old new (Some input) left' before now faults code place e is = tt
drawings_told (Export name window) old new (Some input) left' before now faults code place e is = tt
drawings_told Derive old new (Some input) left' before now faults code place e is = tt
drawings_told Serve old new (Some input) left' before now faults code place e is = tt
drawings_told Run old new (Some input) left' before now faults code place e is = tt
drawings_told (Load name) old new (Some input) left' before now faults code place e is = tt
drawings_told (Demo seed rounds) old new (Some input) left' before now faults code place e is = tt
drawings_told Retain old new (Some input) left' before now faults code place e is = tt
drawings_told Live old new (Some input) left' before now faults code place e is = tt
drawings_told Host old new (Some input) left' before now faults code place e is = tt
