-- What a service did over a disk is what a serving command does.
use Rattle.std.proofs.Common.{◌≡◌, ℕ, ◌≤◌, Bool, List, [], Option, Some, None, Result, Ok, Err, IfSome, refl, sym, ap, subst, arith, take}
use Rattle.std.proofs.Common.{◌∙◌}
use Rattle.std.proofs.lemmas.List.{take_all}
use Rattle.std.specs.Prelude.{OnOk, IfErr}
use Rattle.block_disk.specs.Streams.{sent_after}
use Rattle.block_disk.specs.View.{View, Honest, sent_now}
use Rattle.chart_world.specs.LineLaws.{told_so}
use Rattle.chart_client.specs.Showing.{RejectsBytes, ScreenGives}
use Rattle.chart_client.specs.declared.errors.ClientError.{ClientError}
use Rattle.chart_client.specs.declared.errors.ClientError.TheVariants as client
use Rattle.chart_frames.specs.Frames.{spelling}
use Rattle.chart_client.specs.declared.holding.Holding.{Holding}
use Rattle.gate_pages.specs.GatePages.{IsClosed, pages_view}
use Rattle.gate_pages.specs.Journal.{pages_of}
use Rattle.gate_pages.specs.Pages.{GoesOn}
use Rattle.gate_pages.specs.GateLaws.{goes_none}
use Rattle.series_book.specs.declared.one_series.Series.{Series}
use Rattle.disk_store.specs.Held.{HoldsBook}
use Rattle.stored_book.specs.Standing.{StandsForBook}
use Rattle.zoom_session.specs.declared.session.Session.{Session}
use Rattle.chart_service.specs.State.{IsSound}
use Rattle.chart_service.specs.Moments.{Since, IsAhead}
use Rattle.chart_service.specs.Serving.{AreSpelled, SendsText, EndsServe}
use Rattle.chart_service.specs.Serving as serving
use Rattle.chart_service.specs.Stepping.{StandsAfter, state_of}
use Rattle.chart_service.specs.declared.failure.ServeEnd.{ServeEnd}
use Rattle.chart_service.specs.declared.failure.ServeEnd.TheVariants as serve_end
use Rattle.chart_service.specs.MomentLaws.{since_none}
use Rattle.chart_program.specs.declared.run_end.RunEnd.{RunEnd}
use Rattle.chart_program.specs.declared.run_end.RunEnd.TheVariants as run_end
use Rattle.chart_program.specs.Runs.{AreShown, AreShownFrom, EndsRun, EndsAtBad}
use Rattle.chart_program.specs.Served.{Says, Spelled, AreTexts, Faults, AnswersAll, EndsServing, EndsLines, LeavesBooks, IsAheadOn}
use Rattle.chart_program.specs.Served.{IsLinesCause, RejectsNext, ReadsFrom, SyncsFrom, ServesLines, served}
use Rattle.store_commands.specs.Traffic.{IsLong, WasRead}
use Rattle.store_commands.specs.Books.{OfBook, HoldsAgain, begun}
use Rattle.store_commands.proofs.HoldsAgain.{again_from}
use Rattle.chart_program.proofs.Counts.{reads_none, syncs_none}
use Rattle.chart_program.proofs.Lowering.{crash_for, serve_ends, serve_again, text_ends, run_again, leaves_lowered}
use Rattle.store_commands.proofs.Damages.{later_bad}
use Rattle.store_commands.proofs.Held.{RestsNew, stands_held, from_book}
use Rattle.chart_service.proofs.Sending.{stands_on}
use Rattle.chart_program.specs.Known.{EndsKnown, ShowStops, ShowsBy}
use Rattle.chart_program.proofs.Knowing.{holds_of, never_unknown}
use Rattle.chart_program.proofs.Telling.{OneFrame, AllDraw, OneLacks, Numbered, any_texts, texts_all, screen_accepts}
use Rattle.chart_service.specs.Telling.{ahead_told}
use Rattle.chart_program.proofs.World.{SaysNothing, some_none, ahead_none}

-- what is told
both_so : (o b : Option (List ℕ)) (P Q : List ℕ → Type 0) → ((input : List ℕ) → P input → Q input)
    → IfSome o (λ input. IfSome b (λ bytes. P input)) → IfSome o (λ input. IfSome b (λ bytes. Q input))
both_so None b P Q more is = tt
both_so (Some input) None P Q more is = tt
both_so (Some input) (Some bytes) P Q more is = more input is

told_for : (o : Option (List ℕ)) (Pre : ℕ → List Series → Type 0) (X : ℕ → List Series → List ℕ → Type 0)
    → ((total : ℕ) (book : List Series) → Pre total book → IfSome o (λ input. X total book input))
    → IfSome o (λ input. (total : ℕ) (book : List Series) → Pre total book → X total book input)
told_for None Pre X all = tt
told_for (Some input) Pre X all = all

for_told : (o : Option (List ℕ)) (P : List ℕ → Type 0) → ((input : List ℕ) → o ≡ Some input → P input) → IfSome o P
for_told None P all = tt
for_told (Some input) P all = all input refl

of_told : (o : Option (List ℕ)) (input : List ℕ) (P : List ℕ → Type 0) → o ≡ Some input → IfSome o P → P input
of_told o input P is all = let Q : Option (List ℕ) → Type 0 = λ x. IfSome x P in subst Q is all

-- the causes of a serving
pub serve_cause : (count count' : ℕ) (old new : View) (before now : Option (List ℕ)) (faults : Faults) (CanShow : Type 0) (end : ServeEnd)
    → count' ≡ count
    → (end ≡ serve_end.ReadFault → IsLinesCause CanShow count old new before now faults (run_end.Serve serve_end.ReadFault))
    → (end ≡ serve_end.SendFault → IsLinesCause CanShow count old new before now faults (run_end.Serve serve_end.SendFault))
    → (end ≡ serve_end.DiskFault → IsLinesCause CanShow count old new before now faults (run_end.Serve serve_end.DiskFault))
    → serving.EndsAtBad (Honest new) count' (pages_of count' new.image) end
    → IsLinesCause CanShow count old new before now faults (run_end.Serve end)
serve_cause count count' old new before now faults CanShow serve_end.ReadFault same read send disk bad = read refl
serve_cause count count' old new before now faults CanShow serve_end.SendFault same read send disk bad = send refl
serve_cause count count' old new before now faults CanShow serve_end.DiskFault same read send disk bad = disk refl
serve_cause count count' old new before now faults CanShow
    (serve_end.Damaged page) same read send disk bad = later_bad count count' new page same bad.0 bad.1
serve_cause count count' old new before now faults CanShow serve_end.InputTooLong same read send disk bad = tt
serve_cause count count' old new before now faults CanShow serve_end.NoMemory same read send disk bad = tt

pub serve_causes : {T : Type 0} (count count' : ℕ) (old new : View) (before now : Option (List ℕ)) (faults : Faults) (CanShow : Type 0)
    (answer : Result T ServeEnd) → count' ≡ count
    → (answer ≡ Err serve_end.ReadFault → IsLinesCause CanShow count old new before now faults (run_end.Serve serve_end.ReadFault))
    → (answer ≡ Err serve_end.SendFault → IsLinesCause CanShow count old new before now faults (run_end.Serve serve_end.SendFault))
    → (answer ≡ Err serve_end.DiskFault → IsLinesCause CanShow count old new before now faults (run_end.Serve serve_end.DiskFault))
    → IfErr answer (serving.EndsAtBad (Honest new) count' (pages_of count' new.image))
    → IfErr answer (λ end. IsLinesCause CanShow count old new before now faults (run_end.Serve end))
serve_causes count count' old new before now faults CanShow (Ok v) same read send disk bad = tt
serve_causes count count' old new before now faults CanShow (Err end) same read send disk bad =
    serve_cause count count' old new before now faults CanShow end same (λ is. read (ap Err is)) (λ is. send (ap Err is))
    (λ is. disk (ap Err is)) bad

-- what is known of a service over the pages of a disk
module _ (count count' : ℕ) (sound sound' : Bool) (old new : View) (left left' before now : Option (List ℕ)) (faults : Faults)
    (sessions : List Session)
    (same : count' ≡ count) (told : Honest old → Honest new) (goes : GoesOn old new) (risen : old.faults ≤ new.faults)
    (rests : RestsNew count old) where
  -- ---- a serving with no session open

  abbrev pub AllDone : {T : Type 0} → Result T ServeEnd → List Session → Type 0
  AllDone answer own = (total : ℕ) (book : List Series) → Honest old → StandsForBook (pages_of count old.image) total book
      → OnOk answer (IfSome left (λ input. StandsAfter total (pages_of count' new.image) sessions
      (λ state. SendsText AreSpelled input (state_of book total own) state before now)))

  abbrev pub AllEnds : {T : Type 0} → Result T ServeEnd → List Session → Type 0
  AllEnds answer own = (total : ℕ) (book : List Series) → Honest old → StandsForBook (pages_of count old.image) total book
      → IfErr answer (λ end. IfSome left (λ input. EndsServe input (state_of book total own)
      (pages_of count' new.image) sessions left' before now end))

  abbrev pub AllLasts : List Session → Type 0
  AllLasts own = (total : ℕ) (book : List Series) → Honest old → StandsForBook (pages_of count old.image) total book
      → IfSome left (λ input. IfSome before (λ bytes. Since (pages_view count sound old) (pages_view count' sound' new)
      (IsAhead AreSpelled input total (state_of book total own) (sent_now (pages_view count sound old)))))

  serve_crash : AllLasts [] → IfSome left (λ input. IfSome before (λ bytes. LeavesBooks Spelled count input old new))
  serve_crash lasts =
      let X : ℕ → List Series → List ℕ → Type 0 = λ total book input. Since (pages_view count sound old) (pages_view count' sound' new)
      (IsAhead AreSpelled input total (begun total book) (sent_now (pages_view count sound old))) in
      both_so left before (λ input. OfBook count old (λ total book. X total book input)) (λ input. LeavesBooks Spelled count input old new)
      (λ input all. leaves_lowered Spelled count count' sound sound' old new input same goes all)
      (crash_for left before (λ total book. HoldsBook count total book old) X
      (λ total book holds. lasts total book holds.honest (stands_held count total book old rests holds)))

  serve_alone : {T : Type 0} (answer : Result T ServeEnd) → AllDone answer [] → OnOk answer (WasRead left left')
      → (answer ≡ Err serve_end.InputTooLong → IsLong left) → AllEnds answer [] → AllLasts []
      → ((answer ≡ Err serve_end.DiskFault → ⊥) → IsClosed new)
      → IfErr answer (λ end. IsLinesCause ⊥ count old new before now faults (run_end.Serve end))
      → IfSome left (λ input. ReadsFrom count old new input old.reads) → IfSome left (λ input. SyncsFrom count old new input old.syncs)
      → ServesLines Spelled ⊥ count old new left left' before now faults (served answer)
  serve_alone {T} (Ok v) done within long ends lasts closed cause reads syncs =
      let X : ℕ → List Series → List ℕ → Type 0 = λ total book input. StandsAfter total (pages_of count' new.image) sessions
      (λ state. SendsText AreSpelled input (begun total book) state before now) in
      record {
        done = told_so (λ input. OfBook count old (λ total book. X total book input))
            (λ input. AnswersAll Spelled count old new input before now) left
            (λ input all. from_book count count' old new same told sessions
            (λ start state. SendsText AreSpelled input start state before now) (closed (λ e. cc)) all)
            (told_for left (λ total book. HoldsBook count total book old) X
            (λ total book holds. done total book holds.honest (stands_held count total book old rests holds)));
        within = within;
        long = λ is. cc;
        ends = tt;
        crash = serve_crash lasts;
        cause = tt;
        holds = λ other. told_so (λ input. OfBook count old (λ total book. X total book input)) (λ input. HoldsAgain count old new) left
            (λ input all. again_from count old new (λ start state. SendsText AreSpelled input start state before now)
            (from_book count count' old new same told sessions (λ start state. SendsText AreSpelled input start state before now)
            (closed (λ e. cc)) all))
            (told_for left (λ total book. HoldsBook count total book old) X
            (λ total book holds. done total book holds.honest (stands_held count total book old rests holds)));
        reads = reads;
        syncs = syncs;
        honest = told;
        goes_on = goes;
        risen = risen;
      }
  serve_alone {T} (Err end) done within long ends lasts closed cause reads syncs =
      let X : ℕ → List Series → List ℕ → Type 0 = λ total book input. EndsServe input (begun total book)
      (pages_of count' new.image) sessions left' before now end in
      record {
        done = tt;
        within = tt;
        long = λ is. long (let same : end ≡ serve_end.InputTooLong = cc in ap Err same);
        ends = told_so (λ input. OfBook count old (λ total book. X total book input))
            (λ input. EndsServing Spelled count old new input left' before now end) left
            (λ input all. serve_ends count count' old new same told sessions input left' before now end
            (λ other. closed (λ e. other (cc))) all)
            (told_for left (λ total book. HoldsBook count total book old) X
            (λ total book holds. ends total book holds.honest (stands_held count total book old rests holds)));
        crash = serve_crash lasts;
        cause = cause;
        holds = λ other. told_so (λ input. OfBook count old (λ total book. X total book input)) (λ input. HoldsAgain count old new) left
            (λ input all. serve_again count count' old new same told sessions input left' before now end (λ more. closed (λ e. more (cc)))
            (λ e. other (ap (λ f. Err (run_end.Serve f)) e)) all)
            (told_for left (λ total book. HoldsBook count total book old) X
            (λ total book holds. ends total book holds.honest (stands_held count total book old rests holds)));
        reads = reads;
        syncs = syncs;
        honest = told;
        goes_on = goes;
        risen = risen;
      }

  pub serve_made : {T : Type 0} (answer : Result T ServeEnd) (own : List Session) → own ≡ [] → AllDone answer own
      → OnOk answer (WasRead left left') → (answer ≡ Err serve_end.InputTooLong → IsLong left) → AllEnds answer own → AllLasts own
      → ((answer ≡ Err serve_end.DiskFault → ⊥) → IsClosed new)
      → IfErr answer (λ end. IsLinesCause ⊥ count old new before now faults (run_end.Serve end))
      → IfSome left (λ input. ReadsFrom count old new input old.reads) → IfSome left (λ input. SyncsFrom count old new input old.syncs)
      → ServesLines Spelled ⊥ count old new left left' before now faults (served answer)
  serve_made {T} answer own alone done within long ends lasts closed cause reads syncs =
      let D : List Session → Type 0 = λ s. AllDone answer s in
      let E : List Session → Type 0 = λ s. AllEnds answer s in
      let L : List Session → Type 0 = λ s. AllLasts s in
      serve_alone answer (subst D alone done) within long (subst E alone ends) (subst L alone lasts) closed cause reads syncs

  -- ---- a run over a screen that holds nothing yet

  abbrev pub RunDone : {T : Type 0} → Result T RunEnd → List Holding → List Holding → List Session → Type 0
  RunDone answer v h own = (total : ℕ) (book : List Series) → Honest old → StandsForBook (pages_of count old.image) total book
      → OnOk answer (StandsAfter total (pages_of count' new.image) sessions
      (λ state. IfSome left (λ input. SendsText (AreShown ScreenGives v h) input (state_of book total own) state before now)))

  abbrev pub RunEnds : {T : Type 0} → Result T RunEnd → List Holding → List Holding → List Session → Type 0
  RunEnds answer v h own = (total : ℕ) (book : List Series) → Honest old → StandsForBook (pages_of count old.image) total book
      → IfErr answer (λ end. EndsRun ScreenGives v h left (state_of book total own)
      (pages_of count' new.image) sessions left' before now end)

  abbrev pub RunLasts : List Holding → List Session → Type 0
  RunLasts v own = (total : ℕ) (book : List Series) → Honest old → StandsForBook (pages_of count old.image) total book
      → IfSome left (λ input. IfSome before (λ bytes. Since (pages_view count sound old) (pages_view count' sound' new)
      (IsAhead (AreShownFrom ScreenGives v) input total (state_of book total own) (sent_now (pages_view count sound old)))))

  abbrev pub AreSoundStarts : List Session → Type 0
  AreSoundStarts own = (total : ℕ) (book : List Series) → Honest old → StandsForBook (pages_of count old.image) total book
      → IsSound (state_of book total own)

  module _ (one : OneFrame) (draws : AllDraw) (lacks : OneLacks) where
    started : AreSoundStarts [] → (total : ℕ) (book : List Series) → HoldsBook count total book old → IsSound (begun total book)
    started starts total book holds = starts total book holds.honest (stands_held count total book old rests holds)

    run_crash : AreSoundStarts [] → RunLasts [] [] → IfSome left
        (λ input. IfSome before (λ bytes. LeavesBooks AreTexts count input old new))
    run_crash starts lasts =
        let X : ℕ → List Series → List ℕ → Type 0 = λ total book input. Since (pages_view count sound old) (pages_view count' sound' new)
        (IsAhead (AreShownFrom ScreenGives []) input total (begun total book) (sent_now (pages_view count sound old))) in
        both_so left before (λ input. OfBook count old (λ total book. X total book input))
        (λ input. LeavesBooks AreTexts count input old new)
        (λ input all. leaves_lowered AreTexts count count' sound sound' old new input same goes (λ total book holds.
        let since = all total book holds in
        record {
          goes = since.goes;
          here = λ at image low high left_by. ahead_told (AreShownFrom ScreenGives []) (AreTexts (begun total book)) input total
              (begun total book) (sent_now (pages_view count sound old)) image (new.sent_by at)
              (any_texts one draws (begun total book) refl (started starts total book holds)) (since.here at image low high left_by);
        }))
        (crash_for left before (λ total book. HoldsBook count total book old) X
        (λ total book holds. lasts total book holds.honest (stands_held count total book old rests holds)))

    run_alone : {T : Type 0} (answer : Result T RunEnd) (h : List Holding) → AreSoundStarts [] → RunDone answer [] h []
        → OnOk answer (WasRead left left') → (answer ≡ Err (run_end.Serve serve_end.InputTooLong) → IsLong left) → RunEnds answer [] h []
        → RunLasts [] [] → ((answer ≡ Err (run_end.Serve serve_end.DiskFault) → ⊥) → IsClosed new)
        → IfErr answer (IsLinesCause (Unit {0}) count old new before now faults)
        → IfSome left (λ input. ReadsFrom count old new input old.reads)
        → IfSome left (λ input. SyncsFrom count old new input old.syncs)
        → ServesLines AreTexts (Unit {0}) count old new left left' before now faults answer
    run_alone {T} (Ok v) h starts done within long ends lasts closed cause reads syncs = record {
      done = for_told left (λ input. AnswersAll AreTexts count old new input before now) (λ input is.
          from_book count count' old new same told sessions (λ start state. SendsText (AreTexts start) input start state before now)
          (closed (λ e. cc)) (λ total book holds.
          stands_on total (pages_of count' new.image) (pages_of count' new.image) sessions sessions
          (λ state. IfSome left (λ given. SendsText (AreShown ScreenGives [] h) given (begun total book) state before now))
          (λ state. SendsText (AreTexts (begun total book)) input (begun total book) state before now) refl refl
          (λ state sends. texts_all one draws (begun total book) refl (started starts total book holds) input state h before now
          (of_told left input (λ given. SendsText (AreShown ScreenGives [] h) given (begun total book) state before now) is sends))
          (done total book holds.honest (stands_held count total book old rests holds))));
      within = within;
      long = λ is. cc;
      ends = tt;
      crash = run_crash starts lasts;
      cause = tt;
      holds = λ other. for_told left (λ input. HoldsAgain count old new) (λ input is.
          again_from count old new (λ start state. Unit {0})
          (from_book count count' old new same told sessions (λ start state. Unit {0}) (closed (λ e. cc)) (λ total book holds.
          stands_on total (pages_of count' new.image) (pages_of count' new.image) sessions sessions
          (λ state. IfSome left (λ given. SendsText (AreShown ScreenGives [] h) given (begun total book) state before now))
          (λ state. Unit {0}) refl refl
          (λ state sends. tt) (done total book holds.honest (stands_held count total book old rests holds)))));
      reads = reads;
      syncs = syncs;
      honest = told;
      goes_on = goes;
      risen = risen;
    }
    run_alone {T} (Err end) h starts done within long ends lasts closed cause reads syncs = record {
      done = tt;
      within = tt;
      long = long;
      ends = for_told left (λ input. EndsLines AreTexts count old new input left' before now end) (λ input is.
          text_ends count count' old new same told one draws lacks (started starts) h sessions input left' before now end
          (λ other. closed (λ e. other (cc))) (λ total book holds.
          let O : Option (List ℕ) → Type 0 = λ o. EndsRun ScreenGives [] h o (begun total book)
          (pages_of count' new.image) sessions left' before now end in
          subst O is (ends total book holds.honest (stands_held count total book old rests holds))));
      crash = run_crash starts lasts;
      cause = cause;
      holds = λ other. for_told left (λ input. HoldsAgain count old new) (λ input is.
          run_again count count' old new same told h sessions left left' before now end (λ more. closed (λ e. more (cc)))
          (λ e. other (ap Err e)) (λ total book holds.
          ends total book holds.honest (stands_held count total book old rests holds)));
      reads = reads;
      syncs = syncs;
      honest = told;
      goes_on = goes;
      risen = risen;
    }

    pub run_made : {T : Type 0} (answer : Result T RunEnd) (v h : List Holding) (own : List Session) → v ≡ [] → own ≡ []
        → AreSoundStarts own → RunDone answer v h own → OnOk answer (WasRead left left')
        → (answer ≡ Err (run_end.Serve serve_end.InputTooLong) → IsLong left) → RunEnds answer v h own → RunLasts v own
        → ((answer ≡ Err (run_end.Serve serve_end.DiskFault) → ⊥) → IsClosed new)
        → IfErr answer (IsLinesCause (Unit {0}) count old new before now faults)
        → IfSome left (λ input. ReadsFrom count old new input old.reads)
        → IfSome left (λ input. SyncsFrom count old new input old.syncs)
        → ServesLines AreTexts (Unit {0}) count old new left left' before now faults answer
    run_made {T} answer v h own none alone starts done within long ends lasts closed cause reads syncs =
        let D : List Session → Type 0 = λ s. RunDone answer [] h s in
        let E : List Session → Type 0 = λ s. RunEnds answer [] h s in
        let L : List Session → Type 0 = λ s. RunLasts [] s in
        let S : List Session → Type 0 = λ s. AreSoundStarts s in
        let DV : List Holding → Type 0 = λ w. RunDone answer w h own in
        let EV : List Holding → Type 0 = λ w. RunEnds answer w h own in
        let LV : List Holding → Type 0 = λ w. RunLasts w own in
        run_alone answer h (subst S alone starts) (subst D alone (subst DV none done)) within long (subst E alone (subst EV none ends))
        (subst L alone (subst LV none lasts)) closed cause reads syncs

-- a screen that held nothing was given frames, whose texts were sent, and rejects the next one
rejected : OneFrame → (e : ClientError) (v w : List Holding) (own : List Session) (before now : Option (List ℕ)) → v ≡ []
    → (stops : ShowStops ScreenGives v w own before now e) → RejectsBytes (spelling stops.frame) e stops.last → RejectsNext e before now
rejected one e v w own before now none stops bytes =
    let given = stops.given in
    let S : List Holding → Type 0 = λ h. AreShown ScreenGives h stops.last [] given.frames given.text in
    let all = screen_accepts one [] given.frames given.text [] stops.last given.fits (subst S none given.shown) in
    let whole : take given.count given.text ≡ given.text = take_all given.count given.text (omega (arith, stops.whole)) in
    record {
      frames = given.frames;
      fits = given.fits;
      drawings = all.0;
      held = stops.last;
      accepted = all.1;
      sent = given.sent ∙ ap (λ t. sent_after t before) (whole ∙ all.2);
      frame = bytes.frame;
      fits_too = bytes.spelled.fits;
      rejects = bytes.rejects;
    }

-- the causes of a run over a screen
pub run_cause : OneFrame → Numbered → (count count' : ℕ) (old new : View) (faults : Faults) (v w : List Holding) (own : List Session)
    (before now : Option (List ℕ)) (end : RunEnd) → v ≡ [] → count' ≡ count
    → (end ≡ run_end.Serve serve_end.ReadFault → IsLinesCause (Unit {0}) count old new before now faults
    (run_end.Serve serve_end.ReadFault)) → (end ≡ run_end.Serve serve_end.SendFault
    → IsLinesCause (Unit {0}) count old new before now faults (run_end.Serve serve_end.SendFault))
    → (end ≡ run_end.Serve serve_end.DiskFault → IsLinesCause (Unit {0}) count old new before now faults
    (run_end.Serve serve_end.DiskFault))
    → EndsAtBad (Honest new) count' (pages_of count' new.image) end → ShowsBy {T = Unit {0}} ScreenGives v w own before now (Err end)
    → EndsKnown ScreenGives holds_of end → IsLinesCause (Unit {0}) count old new before now faults end
run_cause one law count count' old new faults v w own before now (run_end.Serve end) none same read send disk bad shown known =
    serve_cause count count' old new before now faults (Unit {0}) end same (λ e. read (ap run_end.Serve e)) (λ e. send (ap run_end.Serve e))
    (λ e. disk (ap run_end.Serve e)) bad
run_cause one law count count' old new faults v w own before now
    (run_end.Show (client.Missing key)) none same read send disk bad shown known =
    let bytes = shown.fails.0 in (
      tt,
      law bytes.frame shown.last (client.Missing key) bytes.rejects,
      rejected one (client.Missing key) v w own before now none shown bytes,
    )
run_cause one law count count' old new faults v w own before now
    (run_end.Show (client.BadCoefficient key)) none same read send disk bad shown known =
    let bytes = shown.fails.0 in (
      tt,
      law bytes.frame shown.last (client.BadCoefficient key) bytes.rejects,
      rejected one (client.BadCoefficient key) v w own before now none shown bytes,
    )
run_cause one law count count' old new faults v w own before now
    (run_end.Show (client.UnknownSession number)) none same read send disk bad shown known = never_unknown one number known
run_cause one law count count' old new faults v w own before now
    (run_end.Show client.NoMemory) none same read send disk bad shown known = tt

pub run_causes : {T : Type 0} → OneFrame → Numbered
    → (count count' : ℕ) (old new : View) (faults : Faults) (v w : List Holding) (own : List Session) (before now : Option (List ℕ))
    (answer : Result T RunEnd) → v ≡ [] → count' ≡ count
    → (answer ≡ Err (run_end.Serve serve_end.ReadFault)
    → IsLinesCause (Unit {0}) count old new before now faults (run_end.Serve serve_end.ReadFault))
    → (answer ≡ Err (run_end.Serve serve_end.SendFault)
    → IsLinesCause (Unit {0}) count old new before now faults (run_end.Serve serve_end.SendFault))
    → (answer ≡ Err (run_end.Serve serve_end.DiskFault)
    → IsLinesCause (Unit {0}) count old new before now faults (run_end.Serve serve_end.DiskFault))
    → IfErr answer (EndsAtBad (Honest new) count' (pages_of count' new.image))
    → IfErr answer (λ end. ShowsBy {T = Unit {0}} ScreenGives v w own before now (Err end))
    → IfErr answer (EndsKnown ScreenGives holds_of) → IfErr answer (IsLinesCause (Unit {0}) count old new before now faults)
run_causes one law count count' old new faults v w own before now (Ok done) none same read send disk bad shown known = tt
run_causes one law count count' old new faults v w own before now (Err end) none same read send disk bad shown known =
    run_cause one law count count' old new faults v w own before now end none same (λ is. read (ap Err is)) (λ is. send (ap Err is))
    (λ is. disk (ap Err is)) bad shown known

-- want of memory for a service or a screen
pub made_none : {T : Type 0} (IsText : Says) (CanShow : Type 0) (count : ℕ) (at : View) (left before : Option (List ℕ)) (faults : Faults)
    → SaysNothing IsText → ServesLines {T = T} IsText CanShow count at at left left before before faults
    (Err (run_end.Serve serve_end.NoMemory))
made_none {T} IsText CanShow count at left before faults none = record {
  done = tt;
  within = tt;
  long = λ is. cc;
  ends = for_told left (λ input. EndsLines IsText count at at input left before before (run_end.Serve serve_end.NoMemory))
      (λ input is. some_none IsText count at at input before none (λ total book holds. holds));
  crash = for_told left (λ input. IfSome before (λ bytes. LeavesBooks IsText count input at at)) (λ input is.
      for_told before (λ bytes. LeavesBooks IsText count input at at) (λ bytes is_told total book holds.
      since_none at (IsAheadOn (IsText (begun total book)) input count total (begun total book) (sent_now at)) (λ image left_by.
      ahead_none IsText input count total book (sent_now at) image (sent_now at) none (holds.images image left_by) refl)));
  cause = tt;
  holds = λ other. for_told left (λ input. HoldsAgain count at at) (λ input is total book holds. (book, holds));
  reads = reads_none left count at;
  syncs = syncs_none left count at;
  honest = λ h. h;
  goes_on = goes_none at;
  risen = omega arith;
}

pub same_answer : {T : Type 0} (IsText : Says) (CanShow : Type 0) (count : ℕ) (old new : View) (left left' before now : Option (List ℕ))
    (faults : Faults) (answer answer' : Result T RunEnd) → answer' ≡ answer
    → ServesLines IsText CanShow count old new left left' before now faults answer
    → ServesLines IsText CanShow count old new left left' before now faults answer'
same_answer {T} IsText CanShow count old new left left' before now faults answer answer' same s =
    let A : Result T RunEnd → Type 0 = λ a. ServesLines IsText CanShow count old new left left' before now faults a in
    subst A (sym same) s
