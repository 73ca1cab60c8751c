-- What is sent for lines, one after the other, whatever the pages are.
use Rattle.std.proofs.Common.{◌≡◌, ◌≢◌, ◌∙◌, ◌⊎◌, ◌==◌, ℕ, suc, Bool, true, false, List, [], ◌∷◌, ◌++◌, length, Option, None, Some, IfSome}
use Rattle.std.proofs.Common.{Result, Ok, Err, refl, ap, sym, subst, inl, inr, arith}
use Rattle.std.specs.Prelude.{All, OnOk, ⊤}
use Rattle.std.proofs.lemmas.Bool.{eqb-false, eqb-true}
use Rattle.std.proofs.lemmas.List.{append-nil}
use Rattle.std.proofs.lemmas.List.Elements.{All-append, All-cons, All-nil, All-tail}
use Rattle.block_disk.specs.SentLaws.{sent_more, sent_none}
use Rattle.block_disk.specs.Streams.{sent_after}
use Rattle.block_disk.specs.View.{View}
use Rattle.chart_frames.specs.declared.frame.Frame.{Frame}
use Rattle.chart_frames.specs.declared.frame.Frame.TheVariants.{Done as DoneOf, Refused, Report, Rows}
use Rattle.chart_frames.specs.declared.reports.Report.TheVariants.{Catalog, Swept, Values as ValuesOf}
use Rattle.chart_frames.specs.Frames.{Fits, spelling}
use Rattle.chart_frames.specs.Opened.{opens}
use Rattle.chart_service.specs.EditGroups.{IsEditReply, SpellEdits, SpellsEdit}
use Rattle.chart_service.specs.Kinds.{MayAnswerRead}
use Rattle.chart_service.specs.LastShown.{IsLastIn, LastShown, LastsBehind, LastsBy, OfRowsLine, OfRowsRead, ShownBy}
use Rattle.chart_service.specs.Naming.{NameOpen, opens_all}
use Rattle.chart_service.specs.Opening.{OpensBy}
use Rattle.chart_service.specs.Serving.{told}
use Rattle.chart_service.proofs.LastLemmas.{last_more}
use Rattle.chart_service.proofs.Naming.{edit_known, name_alike, name_joined, named_opened, names_open}
use Rattle.chart_service.proofs.Sending.{ok_so}
use Rattle.host_lines.specs.Grammar.{host_line}
use Rattle.host_lines.specs.declared.asked.HostLine.{HostLine}
use Rattle.host_lines.specs.declared.asked.HostLine.TheVariants.{List as ListLine, Values, Sum, Sweep, Bad, Other}
use Rattle.host_replies.specs.Replies.{MayReport}
use Rattle.host_sweeps.specs.Sweeping.{TellsStep}
use Rattle.live_service.specs.Kinds.{AnswerWithPushes, MayAnswerAsked, MayAnswerBy, MayAnswerLive, MayPush}
use Rattle.live_service.specs.Pushing.{AnswerFollowed, FollowedBy, followed_after, followed_asked}
use Rattle.live_view.proofs.SpellingLemmas.{request-asks-nothing}
use Rattle.live_view.specs.Following.{ShowsOneOf}
use Rattle.live_view.specs.Meaning.{meaning_of}
use Rattle.live_view.specs.Replies.{ended, still_followed}
use Rattle.live_view.specs.declared.meaning.Meaning.{Meaning}
use Rattle.live_view.specs.declared.live_lines.LiveLine.{LiveLine}
use Rattle.retention.specs.declared.rule.Rule.{Rule}
use Rattle.request_lines.specs.Requests.{read_line}
use Rattle.request_lines.specs.declared.requests.Request.{Request}
use Rattle.request_lines.specs.declared.requests.Request.TheVariants.{Edit as EditRequest}
use Rattle.run_ends.specs.declared.ending.End.{End}
use Rattle.series_book.specs.declared.edits.Edit.{Edit}
use Rattle.zoom_session.specs.declared.session.Session.{Session}
use Rattle.zoom_session.specs.Sessions.{is_open}
use Rattle.hosted_lines.specs.Answers.{Answers, AreSentBy, MayAnswerAlone, MayAnswerHost, MayTellStep, Sends, SendsAnswers, Watched}
use Rattle.hosted_lines.specs.Answers.{followed_alone, followed_behind, lines_at}
use Rattle.hosted_lines.specs.Hosts.{IsPassed}
use Rattle.hosted_lines.specs.Lives.{Event, answer, lines_in, push, spelled}
use Rattle.hosted_lines.proofs.AskLemmas.{asks_nothing}
use Rattle.hosted_lines.proofs.EventLemmas.{lines_more, spelled_more}
use Rattle.hosted_lines.proofs.RowLemmas.{ArePassed}

pub opens_more : (frames more : List Frame) (n : ℕ) (was : Bool)
    → opens_all (frames ++ more) n was ≡ opens_all more n (opens_all frames n was)
opens_more [] more n was = refl
opens_more (f ∷ fs) more n was = opens_more fs more n (opens f n was)

-- ---- frames that tell what edits gave

edit_keeps : (frame : Frame) (n : ℕ) (was : Bool) → IsEditReply frame → opens frame n was ≡ was
edit_keeps (DoneOf slots) n was is = refl
edit_keeps (Refused number a b) n was is = refl
edit_keeps frame n was is = absurd is

-- such a frame ends no following
edit_ends : (meaning : Meaning) (frame : Frame) (followed : List ℕ) → IsEditReply frame
    → still_followed (ended meaning frame) followed ≡ followed
edit_ends meaning (DoneOf slots) followed is = refl
edit_ends meaning (Refused number a b) followed is = refl
edit_ends meaning frame followed is = absurd is

edits_keep : (frames : List Frame) (n : ℕ) (was : Bool) → All IsEditReply frames → opens_all frames n was ≡ was
edits_keep [] n was all = refl
edits_keep (f ∷ fs) n was all =
    edits_keep fs n (opens f n was) (All-tail IsEditReply f fs all) ∙ edit_keeps f n was (all 0 f (omega arith))

edits_name : (frames : List Frame) (was : ℕ → Bool) → All IsEditReply frames → NameOpen was frames
edits_name [] was all = tt
edits_name (f ∷ fs) was all =
    (edit_known f was (all 0 f (omega arith)), edits_name fs (λ n. opens f n (was n)) (All-tail IsEditReply f fs all))

module _ (May : MayAnswerBy) where
  -- ---- frames by a book, and others behind them

  pub with_more : (lines others : List (Option (List ℕ))) (frames more : List Frame) → AnswerWithPushes May lines frames
      → AnswerWithPushes May others more
      → AnswerWithPushes May (lines ++ others) (frames ++ more)
  with_more [] others [] more one two = two
  with_more (line ∷ lines) others [] more one two = absurd one
  with_more [] [] (f ∷ fs) more one two = (one.0, with_more [] [] fs more one.1 two)
  with_more [] (o ∷ os) (f ∷ fs) more one two = inr (one.0, with_more [] (o ∷ os) fs more one.1 two)
  with_more (line ∷ lines) others (f ∷ fs) more (inl it) two = inl (it.0, with_more lines others fs more it.1 two)
  with_more (line ∷ lines) others (f ∷ fs) more (inr it) two = inr (it.0, with_more (line ∷ lines) others fs more it.1 two)

  pub push_first : (lines : List (Option (List ℕ))) (frame : Frame) (frames : List Frame) → MayPush frame
      → AnswerWithPushes May lines frames → AnswerWithPushes May lines (frame ∷ frames)
  push_first [] frame frames may later = (may, later)
  push_first (line ∷ lines) frame frames may later = inr (may, later)

-- ---- the series of last views

at_more : (events others : List Event) → lines_at (events ++ others) ≡ lines_at events ++ lines_at others
at_more [] others = refl
at_more (answer line ∷ es) others = ap (λ l. line ∷ l) (at_more es others)
at_more (push ∷ es) others = ap (λ l. None ∷ l) (at_more es others)

last_behind : (lines others : List (Option (List ℕ))) (frames more : List Frame) (was : ℕ → ℕ → Type 0) (n id : ℕ)
    → length frames ≡ length lines
    → LastShown (λ m i. LastShown was lines frames m i) others more n id → LastShown was (lines ++ others) (frames ++ more) n id
last_behind [] others [] more was n id long last = last
last_behind [] others (f ∷ fs) more was n id long last = absurd (omega (arith, long))
last_behind (line ∷ lines) others [] more was n id long last = absurd (omega (arith, long))
last_behind (line ∷ lines) others (f ∷ fs) more was n id long last =
    last_behind lines others fs more (λ m i. ShownBy (OfRowsLine line (was m)) f m (was m) i) n id (omega (arith, long)) last

lasts_behind : (events others : List Event) (frames more : List Frame) (old mid new : List Session)
    → length frames ≡ length (lines_at events)
    → LastsBehind (lines_at events) frames old mid → LastsBehind (lines_at others) more mid new
    → LastsBehind (lines_at (events ++ others)) (frames ++ more) old new
lasts_behind events others frames more old mid new long one two = λ n id last.
    let were : ℕ → ℕ → Type 0 = λ m i. LastShown (IsLastIn old) (lines_at events) frames m i in
    let L : List (Option (List ℕ)) → Type 0 = λ l. LastShown (IsLastIn old) l (frames ++ more) n id in
    subst L (sym (at_more events others))
    (last_behind (lines_at events) (lines_at others) frames more (IsLastIn old) n id long
    (last_more (lines_at others) more (IsLastIn mid) were one n id (two n id last)))

-- frames that tell what edits gave leave them
edit_leaves : (IsOfRows : ℕ → Type 0) (frame : Frame) (n id : ℕ) (was : ℕ → Type 0) → IsEditReply frame → was id
    → ShownBy IsOfRows frame n was id
edit_leaves IsOfRows (DoneOf slots) n id was is last = last
edit_leaves IsOfRows (Refused number a b) n id was is last = last
edit_leaves IsOfRows frame n id was is last = absurd is

edits_leave : (lines : List (Option (List ℕ))) (frames : List Frame) (was : ℕ → ℕ → Type 0) (n id : ℕ) → All IsEditReply frames → was n id
    → LastShown was lines frames n id
edits_leave [] frames was n id all last = last
edits_leave (line ∷ lines) [] was n id all last = last
edits_leave (line ∷ lines) (f ∷ fs) was n id all last =
    edits_leave lines fs (λ m i. ShownBy (OfRowsLine line (was m)) f m (was m) i) n id (All-tail IsEditReply f fs all)
    (edit_leaves (OfRowsLine line (was n)) f n id (was n) (all 0 f (omega arith)) last)

-- ---- what is watched

pub watched_same : (one other : Watched) → one.sessions ≡ other.sessions → one.followed ≡ other.followed → one ≡ other
watched_same one other sessions followed = λ i. record { sessions = sessions i; followed = followed i }

module _ (May : MayAnswerBy) (after : FollowedBy) where
  -- ---- events with their frames, and others behind them

  behind : (events others : List Event) (old mid new : List ℕ) (frames more : List Frame) → AreSentBy May after events old frames mid
      → AreSentBy May after others mid more new
      → AreSentBy May after (events ++ others) old (frames ++ more) new
  behind [] others old mid new [] more one two = let F : List ℕ → Type 0 = λ f. AreSentBy May after others f more new in subst F one two
  behind [] others old mid new (f ∷ fs) more one two = absurd one
  behind (answer line ∷ es) others old mid new [] more one two = absurd one
  behind (push ∷ es) others old mid new [] more one two = absurd one
  behind (answer line ∷ es) others old mid new (f ∷ fs) more one two = (
    one.0,
    behind es others (after line f old) mid new fs more one.1 two,
  )
  behind (push ∷ es) others old mid new (f ∷ fs) more one two = (one.0, behind es others old mid new fs more one.1 two)

  one_each : (events : List Event) (old new : List ℕ) (frames : List Frame) → AreSentBy May after events old frames new
      → length frames ≡ length (lines_at events)
  one_each [] old new [] sent = refl
  one_each [] old new (f ∷ fs) sent = absurd sent
  one_each (answer line ∷ es) old new [] sent = absurd sent
  one_each (push ∷ es) old new [] sent = absurd sent
  one_each (answer line ∷ es) old new (f ∷ fs) sent = ap suc (one_each es (after line f old) new fs sent.1)
  one_each (push ∷ es) old new (f ∷ fs) sent = ap suc (one_each es old new fs sent.1)

  -- so they answer the lines, with pushes
  pushed_first : (lines : List (Option (List ℕ))) (old new : List ℕ) (frame : Frame) (frames : List Frame) → ShowsOneOf old frame
      → AnswerFollowed May after lines old frames new
      → AnswerFollowed May after lines old (frame ∷ frames) new
  pushed_first [] old new frame frames shows later = (shows, later)
  pushed_first (line ∷ lines) old new frame frames shows later = inr (shows, later)

  pub are_answers : (events : List Event) (old new : List ℕ) (frames : List Frame) → AreSentBy May after events old frames new
      → AnswerFollowed May after (lines_in events) old frames new
  are_answers [] old new [] sent = sent
  are_answers [] old new (f ∷ fs) sent = absurd sent
  are_answers (answer line ∷ es) old new [] sent = absurd sent
  are_answers (push ∷ es) old new [] sent = absurd sent
  are_answers (answer line ∷ es) old new (f ∷ fs) sent = inl (sent.0, are_answers es (after line f old) new fs sent.1)
  are_answers (push ∷ es) old new (f ∷ fs) sent = pushed_first (lines_in es) old new f fs sent.0 (are_answers es old new fs sent.1)

  pub answers_none : (at : Watched) → Answers May after [] at at []
  answers_none at = record {
    events = [];
    lines_are = refl;
    frames = [];
    fits = All-nil Fits;
    are_sent = refl;
    named = tt;
    open_now = λ n. refl;
    lasts = λ n id last. last;
    text_is = refl;
  }

  pub answers_then : (lines others : List (Option (List ℕ))) (old mid new : Watched) (text later : List ℕ)
      → Answers May after lines old mid text → Answers May after others mid new later
      → Answers May after (lines ++ others) old new (text ++ later)
  answers_then lines others old mid new text later one two = record {
    events = one.events ++ two.events;
    lines_are = lines_more one.events two.events ∙ ap (λ l. l ++ lines_in two.events) one.lines_are ∙ ap (λ l. lines ++ l) two.lines_are;
    frames = one.frames ++ two.frames;
    fits = All-append Fits one.frames two.frames one.fits two.fits;
    are_sent = behind one.events two.events old.followed mid.followed new.followed one.frames two.frames one.are_sent two.are_sent;
    lasts = lasts_behind one.events two.events one.frames two.frames old.sessions mid.sessions new.sessions
        (one_each one.events old.followed mid.followed one.frames one.are_sent) one.lasts two.lasts;
    named = name_joined one.frames two.frames (λ n. is_open n old.sessions) one.named
        (name_alike two.frames (λ n. is_open n mid.sessions) (λ n. opens_all one.frames n (is_open n old.sessions)) one.open_now two.named);
    open_now = λ n. two.open_now n ∙ ap (λ b. opens_all two.frames n b) (one.open_now n)
        ∙ sym (opens_more one.frames two.frames n (is_open n old.sessions));
    text_is = ap (λ t. t ++ later) one.text_is ∙ ap (λ t. spelled one.frames ++ t) two.text_is ∙ sym (spelled_more one.frames two.frames);
  }

  -- ---- what is sent

  pub sends_none : (at : Watched) (before : Option (List ℕ)) → Sends May after [] at at before before
  sends_none at before = record { text = []; answers = answers_none at; sent = sent_none before }

  pub sends_both : (lines others : List (Option (List ℕ))) (old mid new : Watched) (before between now : Option (List ℕ))
      → Sends May after lines old mid before between
      → Sends May after others mid new between now → Sends May after (lines ++ others) old new before now
  sends_both lines others old mid new before between now one two = record {
    text = one.text ++ two.text;
    answers = answers_then lines others old mid new one.text two.text one.answers two.answers;
    sent = sent_more one.text two.text before between now one.sent two.sent;
  }

  pub sends_then : {T : Type 0} (r : Result T End) (lines others : List (Option (List ℕ))) (old mid new : Watched)
      (before between now : Option (List ℕ))
      → Sends May after lines old mid before between → OnOk r (Sends May after others mid new between now)
      → OnOk r (Sends May after (lines ++ others) old new before now)
  sends_then {T} r lines others old mid new before between now one two =
      ok_so r (Sends May after others mid new between now) (Sends May after (lines ++ others) old new before now)
      (λ it. sends_both lines others old mid new before between now one it) two

  pub sends_so : {T : Type 0} (r : Result T End) (lines others : List (Option (List ℕ))) (old new : Watched) (before now : Option (List ℕ))
      → lines ≡ others
      → OnOk r (Sends May after lines old new before now) → OnOk r (Sends May after others old new before now)
  sends_so {T} r lines others old new before now same sends =
      let P : List (Option (List ℕ)) → Type 0 = λ l. OnOk r (Sends May after l old new before now) in subst P same sends

  -- frames that were sent behind a call that sent nothing
  made_sends : {T : Type 0} (r : Result T End) (lines : List (Option (List ℕ))) (events : List Event) (frames : List Frame)
      (old mid new : Watched) (before between now : Option (List ℕ))
      → lines_in events ≡ lines → All Fits frames → AreSentBy May after events old.followed frames mid.followed
      → NameOpen (λ n. is_open n old.sessions) frames
      → ((n : ℕ) → is_open n mid.sessions ≡ opens_all frames n (is_open n old.sessions))
      → LastsBehind (lines_at events) frames old.sessions mid.sessions
      → new ≡ mid → between ≡ before → OnOk r (now ≡ sent_after (spelled frames) between)
      → OnOk r (Sends May after lines old new before now)
  made_sends {T} r lines events frames old mid new before between now lines_are fits are_sent named open_now lasts same unsent made =
      let B : Option (List ℕ) → Type 0 = λ b. OnOk r (now ≡ sent_after (spelled frames) b) in
      let A : Watched → Type 0 = λ w. Answers May after lines old w (spelled frames) in
      let answers : A mid = record {
        events = events;
        lines_are = lines_are;
        frames = frames;
        fits = fits;
        are_sent = are_sent;
        named = named;
        open_now = open_now;
        lasts = lasts;
        text_is = refl;
      } in
      ok_so r (now ≡ sent_after (spelled frames) before) (Sends May after lines old new before now)
      (λ sent. record { text = spelled frames; answers = subst A (sym same) answers; sent = sent })
      (subst B unsent made)

  module _ {T : Type 0} (r : Result T End) (frame : Frame) (old mid new : Watched) (before between now : Option (List ℕ))
      (fits : Fits frame) (opened : OpensBy frame old.sessions mid.sessions)
      (same : new ≡ mid) (unsent : between ≡ before) (made : OnOk r (now ≡ sent_after (spelling frame) between)) where
    one_sends : (event : Event) → AreSentBy May after (event ∷ []) old.followed (frame ∷ []) mid.followed
        → LastsBehind (lines_at (event ∷ [])) (frame ∷ []) old.sessions mid.sessions
        → OnOk r (Sends May after (lines_in (event ∷ [])) old new before now)
    one_sends event are_sent lasts =
        let S : List ℕ → Type 0 = λ t. OnOk r (now ≡ sent_after t between) in
        made_sends r (lines_in (event ∷ [])) (event ∷ []) (frame ∷ []) old mid new before between now refl
        (All-cons Fits frame [] fits (All-nil Fits)) are_sent
        (names_open frame old.sessions opened.named, tt) opened.after lasts same unsent (subst S (sym (append-nil (spelling frame))) made)

    -- the frame answers a line
    pub sends_answer : (line : Option (List ℕ)) → May line frame → mid.followed ≡ after line frame old.followed
        → LastsBy (OfRowsLine line) frame old.sessions mid.sessions
        → OnOk r (Sends May after (line ∷ []) old new before now)
    sends_answer line may followed lasts = one_sends (answer line) (may, followed) lasts

    -- it is pushed
    pub sends_push : ShowsOneOf old.followed frame → mid.followed ≡ old.followed → LastsBy (λ was. was) frame old.sessions mid.sessions
        → OnOk r (Sends May after [] old new before now)
    sends_push shows followed lasts = one_sends push (shows, followed) lasts

  -- ---- all lines of an input, where no session was open before them

  input_answers : (input : List ℕ) (old new : Watched) (before now : Option (List ℕ)) → old.sessions ≡ [] → old.followed ≡ []
      → Sends May after (told input) old new before now
      → SendsAnswers May after input before now
  input_answers input old new before now none alone s =
      let N : List Session → Type 0 = λ ss. NameOpen (λ n. is_open n ss) s.answers.frames in
      let F : List ℕ → Type 0 = λ f. AnswerFollowed May after (told input) f s.answers.frames new.followed in
      let L : List (Option (List ℕ)) → Type 0 = λ l. AnswerFollowed May after l old.followed s.answers.frames new.followed in
      record {
        frames = s.answers.frames;
        fits = s.answers.fits;
        followed = new.followed;
        answers = subst F alone (subst L s.answers.lines_are
            (are_answers s.answers.events old.followed new.followed s.answers.frames s.answers.are_sent));
        named = named_opened s.answers.frames (subst N none s.answers.named);
        sent = s.sent ∙ ap (λ t. sent_after t before) s.answers.text_is;
      }

  pub sends_answers : (o : Option (List ℕ)) (old new : Watched) (before now : Option (List ℕ)) → old.sessions ≡ [] → old.followed ≡ []
      → IfSome o (λ input. Sends May after (told input) old new before now)
      → IfSome o (λ input. SendsAnswers May after input before now)
  sends_answers None old new before now none alone sends = tt
  sends_answers (Some input) old new before now none alone sends = input_answers input old new before now none alone sends

  -- behind an opening, which leaves the streams
  pub answers_over : (o o' before before' now : Option (List ℕ)) → o ≡ o' → before ≡ before'
      → IfSome o (λ input. SendsAnswers May after input before now) → IfSome o' (λ input. SendsAnswers May after input before' now)
  answers_over o o' before before' now same unsent answers =
      let O : Option (List ℕ) → Type 0 = λ x. IfSome x (λ input. SendsAnswers May after input before' now) in
      let B : Option (List ℕ) → Type 0 = λ b. IfSome o (λ input. SendsAnswers May after input b now) in
      subst O same (subst B unsent answers)

-- ---- a host

pub edit_may : (line : Option (List ℕ)) (edit : Edit) (frame : Frame) → SpellsEdit line edit → IsEditReply frame → MayAnswerHost line frame
edit_may None edit frame spells is = absurd spells
edit_may (Some []) edit frame spells is = absurd spells
edit_may (Some (byte ∷ bytes)) edit frame spells is =
    let text : List ℕ = byte ∷ bytes in
    let R : Result Request ℕ → Type 0 = λ r. MayAnswerRead r frame in
    let A : LiveLine → Type 0 = λ a. MayAnswerAsked a text frame in
    let H : HostLine → Type 0 = λ a. MayAnswerAlone a text frame in
    subst H (sym (asks_nothing text (EditRequest edit) spells))
    (subst A (sym (request-asks-nothing text (EditRequest edit) spells)) (subst R (sym spells) is))

-- it leaves the followed sessions
edit_after : (line : Option (List ℕ)) (edit : Edit) (frame : Frame) (followed : List ℕ) → SpellsEdit line edit → IsEditReply frame
    → followed_behind line frame followed ≡ followed
edit_after None edit frame followed spells is = absurd spells
edit_after (Some []) edit frame followed spells is = absurd spells
edit_after (Some (byte ∷ bytes)) edit frame followed spells is =
    let text : List ℕ = byte ∷ bytes in
    let A : LiveLine → Type 0 = λ a. followed_asked a text frame followed ≡ followed in
    let H : HostLine → Type 0 = λ a. followed_alone a text frame followed ≡ followed in
    subst H (sym (asks_nothing text (EditRequest edit) spells))
    (subst A (sym (request-asks-nothing text (EditRequest edit) spells)) (edit_ends (meaning_of text) frame followed is))

-- each line is answered
abbrev all_answered : List (Option (List ℕ)) → List Event
all_answered [] = []
all_answered (line ∷ lines) = answer line ∷ all_answered lines

lines_answered : (lines : List (Option (List ℕ))) → lines_in (all_answered lines) ≡ lines
lines_answered [] = refl
lines_answered (line ∷ lines) = ap (λ l. line ∷ l) (lines_answered lines)

edits_answer : (lines : List (Option (List ℕ))) (edits : List Edit) (frames : List Frame) (followed : List ℕ) → SpellEdits lines edits
    → length frames ≡ length edits → All IsEditReply frames
    → AreSentBy MayAnswerHost followed_behind (all_answered lines) followed frames followed
edits_answer [] [] [] followed spell long all = refl
edits_answer [] [] (f ∷ fs) followed spell long all = absurd (omega (arith, long))
edits_answer [] (e ∷ es) frames followed spell long all = absurd spell
edits_answer (l ∷ ls) [] frames followed spell long all = absurd spell
edits_answer (l ∷ ls) (e ∷ es) [] followed spell long all = absurd (omega (arith, long))
edits_answer (l ∷ ls) (e ∷ es) (f ∷ fs) followed spell long all =
    let F : List ℕ → Type 0 = λ x. AreSentBy MayAnswerHost followed_behind (all_answered ls) x fs followed in (
      edit_may l e f spell.0 (all 0 f (omega arith)),
      subst F (sym (edit_after l e f followed spell.0 (all 0 f (omega arith))))
          (edits_answer ls es fs followed spell.1 (omega (arith, long)) (All-tail IsEditReply f fs all)),
    )

-- edits are answered that lines spell; the sessions stay, and the followed ones
pub sends_group : {T : Type 0} (r : Result T End) (lines : List (Option (List ℕ))) (edits : List Edit) (frames : List Frame)
    (old mid new : Watched)
    (before between now : Option (List ℕ)) → SpellEdits lines edits → length frames ≡ length edits → All IsEditReply frames
    → All Fits frames → mid.sessions ≡ old.sessions → mid.followed ≡ old.followed → new ≡ mid
    → between ≡ before → OnOk r (now ≡ sent_after (spelled frames) between)
    → OnOk r (Sends MayAnswerHost followed_behind lines old new before now)
sends_group {T} r lines edits frames old mid new before between now spell long all fits kept followed same unsent made =
    let F : List ℕ → Type 0 = λ x. AreSentBy MayAnswerHost followed_behind (all_answered lines) old.followed frames x in
    let events = all_answered lines in
    let S : List Session → Type 0 = λ ss. LastsBehind (lines_at events) frames old.sessions ss in
    made_sends MayAnswerHost followed_behind r lines events frames old mid new before between now (lines_answered lines) fits
    (subst F (sym followed) (edits_answer lines edits frames old.followed spell long all))
    (edits_name frames (λ n. is_open n old.sessions) all)
    (λ n. ap (λ s. is_open n s) kept ∙ sym (edits_keep frames n (is_open n old.sessions) all))
    (subst S (sym kept) (λ n id last. edits_leave (lines_at events) frames (IsLastIn old.sessions) n id all last)) same unsent made

-- lines that ask nothing of the host alone are answered as by a live service
pub may_passed : (line : Option (List ℕ)) (frame : Frame) → IsPassed line → MayAnswerLive line frame → MayAnswerHost line frame
may_passed None frame passed may = may
may_passed (Some text) frame passed may = let H : HostLine → Type 0 = λ a. MayAnswerAlone a text frame in subst H (sym passed) may

passed_after : (line : Option (List ℕ)) (frame : Frame) (followed : List ℕ) → IsPassed line
    → followed_behind line frame followed ≡ followed_after line frame followed
passed_after None frame followed passed = refl
passed_after (Some text) frame followed passed =
    let H : HostLine → Type 0 = λ a. followed_alone a text frame followed ≡ followed_after (Some text) frame followed in
    subst H (sym passed) refl

all_passed : (events : List Event) (old new : List ℕ) (frames : List Frame) → ArePassed (lines_in events)
    → AreSentBy MayAnswerLive followed_after events old frames new
    → AreSentBy MayAnswerHost followed_behind events old frames new
all_passed [] old new [] passed may = may
all_passed [] old new (f ∷ fs) passed may = absurd may
all_passed (answer line ∷ es) old new [] passed may = absurd may
all_passed (push ∷ es) old new [] passed may = absurd may
all_passed (answer line ∷ es) old new (f ∷ fs) passed may =
    let F : List ℕ → Type 0 = λ x. AreSentBy MayAnswerHost followed_behind es x fs new in (
      may_passed line f passed.0 may.0,
      subst F (sym (passed_after line f old passed.0))
          (all_passed es (followed_after line f old) new fs passed.1 may.1),
    )
all_passed (push ∷ es) old new (f ∷ fs) passed may = (may.0, all_passed es old new fs passed may.1)

pub sends_host : {T : Type 0} (r : Result T End) (lines : List (Option (List ℕ))) (old new : Watched) (before now : Option (List ℕ))
    → ArePassed lines
    → OnOk r (Sends MayAnswerLive followed_after lines old new before now)
    → OnOk r (Sends MayAnswerHost followed_behind lines old new before now)
sends_host {T} r lines old new before now passed sends =
    ok_so r (Sends MayAnswerLive followed_after lines old new before now) (Sends MayAnswerHost followed_behind lines old new before now)
    (λ s. let a = s.answers in record {
      text = s.text;
      answers = record {
        events = a.events;
        lines_are = a.lines_are;
        frames = a.frames;
        fits = a.fits;
        are_sent = all_passed a.events old.followed new.followed a.frames (subst ArePassed (sym a.lines_are) passed) a.are_sent;
        named = a.named;
        open_now = a.open_now;
        lasts = a.lasts;
        text_is = a.text_is;
      };
      sent = s.sent;
    }) sends

-- a line that asks something of the host alone leaves the followed sessions
alone_after : (asked : HostLine) (text : List ℕ) (frame : Frame) (followed : List ℕ) → (asked ≡ Other → ⊥)
    → followed ≡ followed_alone asked text frame followed
alone_after ListLine text frame followed other = refl
alone_after (Values name t0 t1) text frame followed other = refl
alone_after (Sum session request) text frame followed other = refl
alone_after (Sweep rule) text frame followed other = refl
alone_after (Bad at) text frame followed other = refl
alone_after Other text frame followed other = absurd (other refl)

not_other : (asked : HostLine) (frame : Frame) → MayReport asked frame → asked ≡ Other → ⊥
not_other asked frame may is = let R : HostLine → Type 0 = λ a. MayReport a frame in subst R is may

asked_after : (text : List ℕ) (asked : HostLine) (frame : Frame) (old mid : List ℕ) → host_line text ≡ asked → (asked ≡ Other → ⊥)
    → mid ≡ old → mid ≡ followed_behind (Some text) frame old
asked_after text asked frame old mid asks other same =
    let H : HostLine → Type 0 = λ a. mid ≡ followed_alone a text frame old in
    subst H (sym asks) (same ∙ alone_after asked text frame old other)

pub report_after : (text : List ℕ) (asked : HostLine) (frame : Frame) (old mid : List ℕ) → host_line text ≡ asked → MayReport asked frame
    → mid ≡ old → mid ≡ followed_behind (Some text) frame old
report_after text asked frame old mid asks may same = asked_after text asked frame old mid asks (not_other asked frame may) same

never_sweep : (rule : Rule) → ◌≡◌ {A = HostLine} (Sweep rule) Other → ⊥
never_sweep rule is = cc

pub step_after : (text : List ℕ) (rule : Rule) (frame : Frame) (old mid : List ℕ) → host_line text ≡ Sweep rule → mid ≡ old
    → mid ≡ followed_behind (Some text) frame old
step_after text rule frame old mid asks same = asked_after text (Sweep rule) frame old mid asks (never_sweep rule) same

-- the frame of a report, and of a step
reported : (asked : HostLine) (text : List ℕ) (frame : Frame) → MayReport asked frame → MayAnswerAlone asked text frame
reported ListLine text frame may = may
reported (Values name t0 t1) text frame may = may
reported (Sum session request) text frame may = may
reported (Sweep rule) text frame may = absurd may
reported (Bad at) text frame may = may
reported Other text frame may = absurd may

pub may_report : (text : List ℕ) (asked : HostLine) (frame : Frame) → host_line text ≡ asked → MayReport asked frame
    → MayAnswerHost (Some text) frame
may_report text asked frame asks may =
    let H : HostLine → Type 0 = λ a. MayAnswerAlone a text frame in subst H (sym asks) (reported asked text frame may)

tells_step : (frame : Frame) (told : Type 0) (old new : View) → TellsStep frame told old new → MayTellStep frame
tells_step (Report (Swept clears used more)) told old new tells = tt
tells_step (Refused number a b) told old new tells = tells.0
tells_step frame told old new tells = absurd tells

pub step_may : (text : List ℕ) (rule : Rule) (frame : Frame) → host_line text ≡ Sweep rule → MayTellStep frame
    → MayAnswerHost (Some text) frame
step_may text rule frame asks may =
    let H : HostLine → Type 0 = λ a. MayAnswerAlone a text frame in subst H (sym asks) may

pub may_step : (text : List ℕ) (rule : Rule) (frame : Frame) (told : Type 0) (old new : View) → host_line text ≡ Sweep rule
    → TellsStep frame told old new
    → MayAnswerHost (Some text) frame
may_step text rule frame told old new asks tells = step_may text rule frame asks (tells_step frame told old new tells)

-- a step opens and closes no session
pub step_stays : (frame : Frame) (told : Type 0) (old new : View) (sessions sessions' : List Session) → sessions' ≡ sessions
    → TellsStep frame told old new → OpensBy frame sessions sessions'
step_stays (Report (Swept clears used more)) told old new sessions sessions' same tells = record {
  named = tt;
  after = λ n. ap (λ s. is_open n s) same;
}
step_stays (Refused number a b) told old new sessions sessions' same tells = record { named = tt; after = λ n. ap (λ s. is_open n s) same }
step_stays frame told old new sessions sessions' same tells = absurd tells

-- ---- and leaves the last views

-- a line that asks something of the host alone says no request
no_request : (text : List ℕ) (asked : HostLine) (read : Result Request ℕ) → read_line text ≡ read → host_line text ≡ asked
    → (asked ≡ Other → ⊥) → (was : ℕ → Type 0) (id : ℕ) → was id
    → OfRowsRead read was id
no_request text asked (Ok request) reads asks other was id last = absurd (other (sym asks ∙ asks_nothing text request reads))
no_request text asked (Err at) reads asks other was id last = last

rows_of : (text : List ℕ) (asked : HostLine) → host_line text ≡ asked → (asked ≡ Other → ⊥) → (was : ℕ → Type 0) (id : ℕ) → was id
    → OfRowsLine (Some text) was id
rows_of text asked asks other was id last = no_request text asked (read_line text) refl asks other was id last

told_rows : (test : Bool) (session n id : ℕ) (IsOfRows was : ℕ → Type 0) → (session == n) ≡ test → IsOfRows id → was id
    → ((session ≡ n) × IsOfRows id) ⊎ ((session ≢ n) × was id)
told_rows true session n id IsOfRows was e rows last = inl (eqb-true session n e, rows)
told_rows false session n id IsOfRows was e rows last = inr (eqb-false session n e, last)

-- frames that tell no view leave them
abbrev TellsNoView : Frame → Type 0
TellsNoView (Refused number a b) = ⊤
TellsNoView (Rows rows) = ⊤
TellsNoView (Report report) = ⊤
TellsNoView frame = ⊥

frame_leaves : (IsOfRows was : ℕ → Type 0) (frame : Frame) (n id : ℕ) → TellsNoView frame → IsOfRows id → was id
    → ShownBy IsOfRows frame n was id
frame_leaves IsOfRows was (Refused number a b) n id is rows last = last
frame_leaves IsOfRows was (Rows frame) n id is rows last = told_rows (frame.session == n) frame.session n id IsOfRows was refl rows last
frame_leaves IsOfRows was (Report report) n id is rows last = last
frame_leaves IsOfRows was frame n id is rows last = absurd is

asked_lasts : (text : List ℕ) (asked : HostLine) (frame : Frame) (old mid : List Session) → host_line text ≡ asked → (asked ≡ Other → ⊥)
    → TellsNoView frame → mid ≡ old
    → LastsBy (OfRowsLine (Some text)) frame old mid
asked_lasts text asked frame old mid asks other is same =
    let S : List Session → Type 0 = λ ss. LastsBy (OfRowsLine (Some text)) frame old ss in
    subst S (sym same) (λ n id last. frame_leaves (OfRowsLine (Some text) (IsLastIn old n)) (IsLastIn old n) frame n id is
    (rows_of text asked asks other (IsLastIn old n) id last) last)

report_tells : (asked : HostLine) (frame : Frame) → MayReport asked frame → TellsNoView frame
report_tells ListLine (Report (Catalog catalog)) may = tt
report_tells ListLine frame may = absurd may
report_tells (Values name t0 t1) (Refused number a b) may = tt
report_tells (Values name t0 t1) (Report (ValuesOf values)) may = tt
report_tells (Values name t0 t1) frame may = absurd may
report_tells (Sum session request) (Refused number a b) may = tt
report_tells (Sum session request) (Rows rows) may = tt
report_tells (Sum session request) frame may = absurd may
report_tells (Sweep rule) frame may = absurd may
report_tells (Bad at) frame may = let F : Frame → Type 0 = TellsNoView in subst F (sym may) tt
report_tells Other frame may = absurd may

pub report_lasts : (text : List ℕ) (asked : HostLine) (frame : Frame) (old mid : List Session) → host_line text ≡ asked
    → MayReport asked frame → mid ≡ old → LastsBy (OfRowsLine (Some text)) frame old mid
report_lasts text asked frame old mid asks may same = asked_lasts text asked frame old mid asks (not_other asked frame may)
    (report_tells asked frame may) same

step_tells : (frame : Frame) → MayTellStep frame → TellsNoView frame
step_tells (Report (Swept clears used more)) may = tt
step_tells (Refused number a b) may = tt
step_tells frame may = absurd may

pub step_lasts : (text : List ℕ) (rule : Rule) (frame : Frame) (told : Type 0) (old new : View) (sessions sessions' : List Session)
    → host_line text ≡ Sweep rule → TellsStep frame told old new → sessions' ≡ sessions
    → LastsBy (OfRowsLine (Some text)) frame sessions sessions'
step_lasts text rule frame told old new sessions sessions' asks tells same =
    asked_lasts text (Sweep rule) frame sessions sessions' asks (never_sweep rule)
    (step_tells frame (tells_step frame told old new tells)) same
