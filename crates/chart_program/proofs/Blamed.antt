-- The line behind the answered ones calls a page damaged, as the page of a command says.
use Rattle.std.proofs.Common.{◌≡◌, ℕ, List, [], flat_map, Option, None, Some, IfErr, Result, Ok, Err, refl, sym, subst, arith, ◌<◌}
use Rattle.block_disk.specs.View.{Honest, Image, View}
use Rattle.chart_client.specs.Showing.{ScreenGives}
use Rattle.chart_client.specs.declared.errors.ClientError.TheVariants as client
use Rattle.chart_client.specs.declared.holding.Holding.{Holding}
use Rattle.chart_frames.specs.Frames.{spelling}
use Rattle.chart_service.proofs.LastLemmas.{last_more}
use Rattle.chart_service.proofs.Naming.{named_opened}
use Rattle.chart_service.specs.Blaming.{Blames, BlamesRead}
use Rattle.chart_service.specs.LastShown.{IsLastIn, LastShown}
use Rattle.chart_service.specs.Naming.{NameOpen}
use Rattle.chart_service.specs.declared.failure.AnswerEnd.{AnswerEnd}
use Rattle.chart_service.specs.declared.failure.AnswerEnd.TheVariants as answers
use Rattle.chart_service.specs.declared.failure.ServeEnd.{ServeEnd}
use Rattle.chart_service.specs.declared.failure.ServeEnd.TheVariants as serve_end
use Rattle.disk_store.specs.declared.causes.OpeningCause.TheVariants as opening
use Rattle.gate_pages.specs.Journal.{page_count, pages_of}
use Rattle.request_lines.specs.Requests.{read_line}
use Rattle.request_lines.specs.declared.requests.Request.{Request}
use Rattle.served_lines.proofs.BlameLemmas.{more_blamed}
use Rattle.served_lines.specs.Blaming.{BlamesTold, ServeBlames}
use Rattle.stored_book.proofs.CurrentLemmas.{spelled_current}
use Rattle.stored_book.specs.Damage.{SaysNumbers}
use Rattle.chart_service.specs.Blaming.{FindsDamaged}
use Rattle.stored_book.specs.Standing.{book_pages}
use Rattle.store_commands.specs.Traffic.{Traffic}
use Rattle.zoom_session.specs.Sessions.{is_open}
use Rattle.zoom_session.specs.declared.session.Session.{Session}
use Rattle.chart_program.specs.Blamed.{IsBlamed, NoneShown, RunBlames, ShowBlames, WorldBlames}
use Rattle.chart_program.specs.LineAnswers.{AreDrawnTexts, AreSpellings, IsSentOf}
use Rattle.chart_program.specs.Runs.{AreShown, Gives, MakesText, run_answer}
use Rattle.chart_program.specs.Served.{in_world, served}
use Rattle.chart_program.specs.declared.lines_end.LinesEnd.{LinesEnd}
use Rattle.chart_program.specs.declared.lines_end.LinesEnd.TheVariants as lines_end
use Rattle.chart_program.specs.declared.run_end.RunEnd.{RunEnd}
use Rattle.chart_program.specs.declared.run_end.RunEnd.TheVariants as run_end
use Rattle.chart_program.proofs.Running.{Unmade, made_shown}
use Rattle.chart_program.proofs.ServePage.{end_of, passed}
use Rattle.chart_program.proofs.Telling.{OneFrame, screen_accepts}

-- ---- the pages that a disk holds

module _ (last : ℕ → ℕ → Type 0) (count count' : ℕ) (disk : View) (page : ℕ) (same : count' ≡ count) where
  read_current : (read : Result Request ℕ) → BlamesRead read last (Honest disk) count' (pages_of count' disk.image) page
      → BlamesRead read last (Honest disk) count (book_pages count disk.image) page
  read_current (Err at) is = absurd is
  read_current (Ok request) is =
      let P : ℕ → Type 0 = λ n. SaysNumbers n (pages_of n disk.image) (λ s. (page < s.total)
      × FindsDamaged request last (pages_of n disk.image) s page) in
      let Q : Image → Type 0 = λ i. SaysNumbers count i (λ s. (page < s.total) × FindsDamaged request last i s page) in
      record {
        reads = is.reads;
        within = omega (arith, is.within, same);
        found = λ honest.
            let here = subst P same (is.found honest) in
            subst Q (sym (spelled_current (pages_of count disk.image) here.numbers here.keeps.spelled)) here;
      }

  -- they are of version 2
  current : (line : Option (List ℕ)) → Blames line last (Honest disk) count' (pages_of count' disk.image) page
      → Blames line last (Honest disk) count (book_pages count disk.image) page
  current None is = absurd is
  current (Some text) is = read_current (read_line text) is

-- where no session is open at first, none shows a series
none_shown : (own : List Session) → own ≡ [] → (n id : ℕ) → IsLastIn own n id → NoneShown n id
none_shown own alone n id last = let P : List Session → Type 0 = λ s. IsLastIn s n id in subst P alone last

-- ---- a serving

module _ (own : List Session) (before now : Option (List ℕ)) (count count' : ℕ) (disk : View) (alone : own ≡ [])
    (same : count' ≡ count) where
  spelled_end : (left : Option (List ℕ)) (end : ServeEnd)
      → ServeBlames own left before now (Honest disk) count' (pages_of count' disk.image) end
      → RunBlames AreSpellings count disk left before now (run_end.Serve end)
  spelled_end left serve_end.ReadFault is = tt
  spelled_end left serve_end.SendFault is = tt
  spelled_end left serve_end.DiskFault is = tt
  spelled_end None (serve_end.Damaged page) is = tt
  spelled_end (Some input) (serve_end.Damaged page) is =
      let N : List Session → Type 0 = λ s. NameOpen (λ n. is_open n s) is.frames in
      record {
        front = is.front;
        line = is.line;
        behind = is.behind;
        lines_are = is.lines_are;
        frames = is.frames;
        fits = is.fits;
        answers = is.answers;
        named = named_opened is.frames (subst N alone is.named);
        bytes = flat_map spelling is.frames;
        is_sent = refl;
        sent = is.sent;
        blames = current (LastShown NoneShown is.front is.frames) count count' disk page same is.line
            (more_blamed is.line (LastShown (IsLastIn own) is.front is.frames) (LastShown NoneShown is.front is.frames) (Honest disk) count'
            (pages_of count' disk.image) page
            (last_more is.front is.frames (IsLastIn own) NoneShown (none_shown own alone)) is.blames);
      }
  spelled_end left serve_end.InputTooLong is = tt
  spelled_end left serve_end.NoMemory is = tt

  pub spelled_blames : {T : Type 0} (left : Option (List ℕ)) (r : Result T ServeEnd)
      → IfErr r (ServeBlames own left before now (Honest disk) count' (pages_of count' disk.image))
      → IfErr (served r) (RunBlames AreSpellings count disk left before now)
  spelled_blames left (Ok done) is = tt
  spelled_blames left (Err end) is = spelled_end left end is

  -- ---- a run over a screen that held nothing

  module _ (one : OneFrame) (v w : List Holding) (none : v ≡ []) where
    drawn_end : (left : Option (List ℕ)) (end : RunEnd)
        → ShowBlames ScreenGives v w own left before now (Honest disk) count' (pages_of count' disk.image) end
        → RunBlames AreDrawnTexts count disk left before now end
    drawn_end left (run_end.Serve serve_end.ReadFault) is = tt
    drawn_end left (run_end.Serve serve_end.SendFault) is = tt
    drawn_end left (run_end.Serve serve_end.DiskFault) is = tt
    drawn_end None (run_end.Serve (serve_end.Damaged page)) is = tt
    drawn_end (Some input) (run_end.Serve (serve_end.Damaged page)) is =
        let N : List Session → Type 0 = λ s. NameOpen (λ n. is_open n s) is.frames in
        let S : List Holding → Type 0 = λ h. AreShown ScreenGives h w [] is.frames is.text in
        let drawn = screen_accepts one [] is.frames is.text [] w is.fits (subst S none is.shown) in
        record {
          front = is.front;
          line = is.line;
          behind = is.behind;
          lines_are = is.lines_are;
          frames = is.frames;
          fits = is.fits;
          answers = is.answers;
          named = named_opened is.frames (subst N alone is.named);
          bytes = is.text;
          is_sent = record { drawings = drawn.0; held = w; accepted = drawn.1; texts = drawn.2 };
          sent = is.sent;
          blames = current (LastShown NoneShown is.front is.frames) count count' disk page same is.line
              (more_blamed is.line (LastShown (IsLastIn own) is.front is.frames) (LastShown NoneShown is.front is.frames)
              (Honest disk) count' (pages_of count' disk.image) page
              (last_more is.front is.frames (IsLastIn own) NoneShown (none_shown own alone)) is.blames);
        }
    drawn_end left (run_end.Serve serve_end.InputTooLong) is = tt
    drawn_end left (run_end.Serve serve_end.NoMemory) is = tt
    drawn_end left (run_end.Show e) is = tt

    pub drawn_blames : {T : Type 0} (left : Option (List ℕ)) (r : Result T RunEnd)
        → IfErr r (ShowBlames ScreenGives v w own left before now (Honest disk) count' (pages_of count' disk.image))
        → IfErr r (RunBlames AreDrawnTexts count disk left before now)
    drawn_blames left (Ok done) is = tt
    drawn_blames left (Err end) is = drawn_end left end is

-- ---- a run over what shows frames

module _ {V : Type 0} (gives : Gives V) (v w : V) (own : List Session) (before now : Option (List ℕ)) (told : Type 0) (count : ℕ)
    (image : Image) where
  shown_end : (left : Option (List ℕ)) (end : ServeEnd)
      → BlamesTold (MakesText gives) v w own left before now told count image (answers.Serve end)
      → ShowBlames gives v w own left before now told count image (run_end.Serve end)
  shown_end left serve_end.ReadFault is = tt
  shown_end left serve_end.SendFault is = tt
  shown_end left serve_end.DiskFault is = tt
  shown_end None (serve_end.Damaged page) is = tt
  shown_end (Some input) (serve_end.Damaged page) is = record {
    front = is.front;
    line = is.line;
    behind = is.behind;
    lines_are = is.lines_are;
    frames = is.frames;
    fits = is.fits;
    answers = is.answers;
    named = is.named;
    text = is.text;
    shown = made_shown gives v w [] is.frames is.text is.made;
    sent = is.sent;
    blames = is.blames;
  }
  shown_end left serve_end.InputTooLong is = tt
  shown_end left serve_end.NoMemory is = tt

  pub shown_blames : {T : Type 0} (left : Option (List ℕ)) (r : Result T (AnswerEnd RunEnd)) → IfErr r (Unmade gives)
      → IfErr r (BlamesTold (MakesText gives) v w own left before now told count image)
      → IfErr (run_answer r) (ShowBlames gives v w own left before now told count image)
  shown_blames left (Ok x) unmade is = tt
  shown_blames left (Err (answers.Serve end)) unmade is = shown_end left end is
  shown_blames left (Err (answers.Reply (run_end.Serve serve_end.ReadFault))) unmade is = tt
  shown_blames left (Err (answers.Reply (run_end.Serve serve_end.SendFault))) unmade is = tt
  shown_blames left (Err (answers.Reply (run_end.Serve serve_end.DiskFault))) unmade is = tt
  shown_blames left (Err (answers.Reply (run_end.Serve (serve_end.Damaged page)))) unmade is = absurd unmade.5
  shown_blames left (Err (answers.Reply (run_end.Serve serve_end.InputTooLong))) unmade is = tt
  shown_blames left (Err (answers.Reply (run_end.Serve serve_end.NoMemory))) unmade is = tt
  shown_blames left (Err (answers.Reply (run_end.Show e))) unmade is = tt

-- ---- a world

in_world_blames : {T : Type 0} (IsSent : IsSentOf) (old new : View) (left before now : Option (List ℕ)) (r : Result T RunEnd)
    → IfErr r (RunBlames IsSent (page_count old.size) new left before now) → IfErr (in_world r) (WorldBlames IsSent old new left before now)
in_world_blames IsSent old new left before now (Ok done) is = tt
in_world_blames IsSent old new left before now (Err end) is = is

-- whose store was opened first: that took nothing and sent nothing
pub opened_blames : {T : Type 0} (IsSent : IsSentOf) (old new : View) (count : ℕ) (left left' before before' now : Option (List ℕ))
    (r : Result T RunEnd) (s : Result T LinesEnd) → count ≡ page_count old.size → left ≡ left' → before ≡ before' → s ≡ in_world r
    → IfErr r (RunBlames IsSent count new left before now) → IfErr s (WorldBlames IsSent old new left' before' now)
opened_blames {T} IsSent old new count left left' before before' now r s counted same_left same_sent is blames =
    let C : ℕ → Type 0 = λ n. IfErr r (RunBlames IsSent n new left before now) in
    let L : Option (List ℕ) → Type 0 = λ l. IfErr r (RunBlames IsSent (page_count old.size) new l before now) in
    let B : Option (List ℕ) → Type 0 = λ b. IfErr r (RunBlames IsSent (page_count old.size) new left' b now) in
    let S : Result T LinesEnd → Type 0 = λ x. IfErr x (WorldBlames IsSent old new left' before' now) in
    subst S (sym is) (in_world_blames IsSent old new left' before' now r (subst B same_sent (subst L same_left (subst C counted blames))))

-- ---- a command

pub is_blamed : {T : Type 0} (IsSent : IsSentOf) (old new : View) (t : Traffic) (answer : Result T LinesEnd)
    → IfErr answer (WorldBlames IsSent old new t.left t.sent t.sent_now) → IsBlamed IsSent (passed old new t) (end_of answer)
is_blamed IsSent old new t (Ok done) is = tt
is_blamed IsSent old new t (Err (lines_end.Opening (opening.TooSmall size))) is = tt
is_blamed IsSent old new t (Err (lines_end.Opening (opening.Damaged block))) is = tt
is_blamed IsSent old new t (Err (lines_end.Opening opening.DiskFault)) is = tt
is_blamed IsSent old new t (Err (lines_end.Opening opening.NoMemory)) is = tt
is_blamed IsSent old new t (Err (lines_end.Answering (run_end.Serve serve_end.ReadFault))) is = tt
is_blamed IsSent old new t (Err (lines_end.Answering (run_end.Serve serve_end.SendFault))) is = tt
is_blamed IsSent old new t (Err (lines_end.Answering (run_end.Serve serve_end.DiskFault))) is = tt
is_blamed IsSent old new t (Err (lines_end.Answering (run_end.Serve (serve_end.Damaged page)))) is = is
is_blamed IsSent old new t (Err (lines_end.Answering (run_end.Serve serve_end.InputTooLong))) is = tt
is_blamed IsSent old new t (Err (lines_end.Answering (run_end.Serve serve_end.NoMemory))) is = tt
is_blamed IsSent old new t (Err (lines_end.Answering (run_end.Show (client.Missing key)))) is = tt
is_blamed IsSent old new t (Err (lines_end.Answering (run_end.Show (client.BadCoefficient key)))) is = tt
is_blamed IsSent old new t (Err (lines_end.Answering (run_end.Show (client.UnknownSession number)))) is = tt
is_blamed IsSent old new t (Err (lines_end.Answering (run_end.Show client.NoMemory))) is = tt
