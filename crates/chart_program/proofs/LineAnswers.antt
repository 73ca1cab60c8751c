-- Each line of the input was answered, whatever the disk holds.
use Rattle.std.proofs.Common.{◌≡◌, ℕ, Bool, List, [], flat_map, Option, IfSome, Result, Ok, Err, OnOk, refl, sym, subst}
use Rattle.chart_client.specs.Showing.{ScreenGives}
use Rattle.chart_client.specs.declared.holding.Holding.{Holding}
use Rattle.chart_frames.specs.Frames.{spelling}
use Rattle.chart_service.proofs.Naming.{named_opened}
use Rattle.chart_service.specs.Kinds.{MayAnswerAll}
use Rattle.chart_service.specs.Naming.{Gives as GivesFrames, GivesTold, NameOpen, SendsAnswers}
use Rattle.chart_service.specs.Serving.{told}
use Rattle.chart_service.specs.declared.failure.AnswerEnd.{AnswerEnd}
use Rattle.chart_service.specs.declared.failure.AnswerEnd.TheVariants as answers
use Rattle.chart_service.specs.declared.failure.ServeEnd.{ServeEnd}
use Rattle.chart_world.specs.LineLaws.{told_so}
use Rattle.zoom_session.specs.Sessions.{is_open}
use Rattle.zoom_session.specs.declared.session.Session.{Session}
use Rattle.chart_program.specs.LineAnswers.{AnswersEach, AnswersTold, AreDrawnTexts, AreSpellings, IsSentOf, ShowsEach}
use Rattle.chart_program.specs.Runs.{AreShown, Gives, MakesText, run_answer}
use Rattle.chart_program.specs.Served.{in_world, served}
use Rattle.chart_program.specs.declared.lines_end.LinesEnd.{LinesEnd}
use Rattle.chart_program.specs.declared.run_end.RunEnd.{RunEnd}
use Rattle.chart_program.proofs.Running.{made_shown}
use Rattle.chart_program.proofs.Telling.{OneFrame, screen_accepts}

-- ---- a run over what shows frames

module _ {V : Type 0} (gives : Gives V) (v w : V) (sessions : List Session) (before now : Option (List ℕ)) where
  each_of : (lines : List (Option (List ℕ))) (b : ℕ → Bool)
      → GivesFrames (MakesText gives) lines v w (λ n. is_open n sessions) b before now → (input : List ℕ)
      → lines ≡ told input
      → ShowsEach gives v w sessions input before now
  each_of lines b g input are =
      let P : List (Option (List ℕ)) → Type 0 = λ l. MayAnswerAll l g.frames in
      record {
        frames = g.frames;
        fits = g.fits;
        answers = subst P are g.answers;
        named = g.named;
        text = g.text;
        shown = made_shown gives v w [] g.frames g.text g.made;
        sent = g.sent;
      }

  pub each_shown : (left : Option (List ℕ)) (sessions' : List Session) (r : Result (Unit {0}) (AnswerEnd RunEnd))
      → GivesTold (MakesText gives) left v w sessions sessions' before now r
      → OnOk (run_answer r) (IfSome left (λ input. ShowsEach gives v w sessions input before now))
  each_shown left sessions' (Ok done) g =
      told_so (λ input. g.lines ≡ told input) (λ input. ShowsEach gives v w sessions input before now) left
      (λ input are. each_of g.lines (λ n. is_open n sessions') g.gives input are) g.are_told
  each_shown left sessions' (Err (answers.Serve end)) g = tt
  each_shown left sessions' (Err (answers.Reply end)) g = tt

-- ---- with no session open at first

-- a serving
pub each_spelled : {T : Type 0} (own : List Session) (left before now : Option (List ℕ)) (r : Result T ServeEnd)
    → own ≡ [] → OnOk r (IfSome left (λ input. SendsAnswers own input before now))
    → AnswersTold AreSpellings left before now (served r)
each_spelled own left before now (Ok done) alone all =
    told_so (λ input. SendsAnswers own input before now) (λ input. AnswersEach AreSpellings input before now) left
    (λ input sends.
    let N : List Session → Type 0 = λ s. NameOpen (λ n. is_open n s) sends.frames in
    record {
      frames = sends.frames;
      fits = sends.fits;
      answers = sends.answers;
      named = named_opened sends.frames (subst N alone sends.named);
      bytes = flat_map spelling sends.frames;
      is_sent = refl;
      sent = sends.sent;
    }) all
each_spelled own left before now (Err end) alone all = tt

-- and a run over a screen that held nothing
pub each_drawn : {T : Type 0} → OneFrame → (v w : List Holding) (own : List Session) (left before now : Option (List ℕ))
    (r : Result T RunEnd)
    → v ≡ [] → own ≡ [] → OnOk r (IfSome left (λ input. ShowsEach ScreenGives v w own input before now))
    → AnswersTold AreDrawnTexts left before now r
each_drawn one v w own left before now (Ok done) none alone all =
    told_so (λ input. ShowsEach ScreenGives v w own input before now)
    (λ input. AnswersEach AreDrawnTexts input before now) left
    (λ input shows.
    let N : List Session → Type 0 = λ s. NameOpen (λ n. is_open n s) shows.frames in
    let S : List Holding → Type 0 = λ h. AreShown ScreenGives h w [] shows.frames shows.text in
    let drawn = screen_accepts one [] shows.frames shows.text [] w shows.fits (subst S none shows.shown) in
    record {
      frames = shows.frames;
      fits = shows.fits;
      answers = shows.answers;
      named = named_opened shows.frames (subst N alone shows.named);
      bytes = shows.text;
      is_sent = record { drawings = drawn.0; held = w; accepted = drawn.1; texts = drawn.2 };
      sent = shows.sent;
    }) all
each_drawn one v w own left before now (Err end) none alone all = tt

-- ---- the same answer in other words

pub told_again : {T E : Type 0} (IsSent : IsSentOf) (left before now : Option (List ℕ)) (r s : Result T E) → s ≡ r
    → AnswersTold IsSent left before now r → AnswersTold IsSent left before now s
told_again {T} {E} IsSent left before now r s same each =
    let P : Result T E → Type 0 = λ x. AnswersTold IsSent left before now x in
    subst P (sym same) each

told_in : {T : Type 0} (IsSent : IsSentOf) (left before now : Option (List ℕ)) (r : Result T RunEnd)
    → AnswersTold IsSent left before now r → AnswersTold IsSent left before now (in_world r)
told_in IsSent left before now (Ok done) each = each
told_in IsSent left before now (Err end) each = tt

-- of a world whose store was opened first: that took nothing and sent nothing
pub told_opened : {T : Type 0} (IsSent : IsSentOf) (left left' before before' now : Option (List ℕ))
    (r : Result T RunEnd) (s : Result T LinesEnd) → left ≡ left' → before ≡ before' → s ≡ in_world r
    → AnswersTold IsSent left before now r
    → AnswersTold IsSent left' before' now s
told_opened {T} IsSent left left' before before' now r s same_left same_sent is each =
    let L : Option (List ℕ) → Type 0 = λ l. AnswersTold IsSent l before now r in
    let B : Option (List ℕ) → Type 0 = λ b. AnswersTold IsSent left' b now r in
    told_again IsSent left' before' now (in_world r) s is
    (told_in IsSent left' before' now r (subst B same_sent (subst L same_left each)))
