-- A line is answered: its step, and the sending of its reply.
use Rattle.std.proofs.Common.{◌≡◌, ℕ, ◌≤◌, List, [], ◌∷◌, length, Option, Some, None, Result, Ok, Err, IfErr, OnOk, refl, subst, inl, inr}
use Rattle.std.proofs.Common.{sym, arith}
use Rattle.std.specs.Prelude.{IsErrAnd, true}
use Rattle.std.proofs.lemmas.List.{append-nil}
use Rattle.block_disk.specs.View.{Image, View, Now, Only, Passes, sent_now}
use Rattle.block_disk.specs.SentLaws.{sent_none}
use Rattle.chart_world.specs.Fronts.{says}
use Rattle.chart_world.specs.LineLaws.{said}
use Rattle.chart_frames.specs.declared.frame.Frame.{Frame}
use Rattle.chart_frames.specs.Frames.{Fits}
use Rattle.gate_pages.specs.Pages.{Quiet}
use Rattle.gate_pages.proofs.Moving.{sent_same}
use Rattle.series_book.specs.declared.one_series.Series.{Series}
use Rattle.series_book.specs.declared.refusals.Refusal.TheVariants.{LineTooLong}
use Rattle.stored_book.specs.Standing.{StandsForBook}
use Rattle.zoom_session.specs.declared.session.Session.{Session}
use Rattle.chart_service.specs.Making.{Makes, AreMade, FrameSent, FrameStops, LinesDone, LinesCut, LinesStop, ReplySent, FrameMoments}
use Rattle.chart_service.specs.Making.{LinesMoments}
use Rattle.chart_service.specs.Replies.{Replied, line_text, refused}
use Rattle.chart_service.specs.Serving.{unless_empty, end_of_step}
use Rattle.chart_service.specs.State.{State, IsSound}
use Rattle.chart_service.specs.Stepping.{StandsAfter, IsBeforeOrAfter, IsOutside, IsUnchangedFor, state_of}
use Rattle.chart_service.specs.MomentLaws.{through_by, through_so, through_then}
use Rattle.chart_service.specs.Telling.{replied_one}
use Rattle.chart_service.specs.Moments.{Through}
use Rattle.chart_service.specs.declared.failure.AnswerEnd.{AnswerEnd}
use Rattle.chart_service.specs.declared.failure.AnswerEnd.TheVariants.{Serve, Reply}
use Rattle.chart_service.specs.declared.failure.ServiceError.{ServiceError}
use Rattle.chart_service.specs.declared.failure.ServiceError.TheVariants as step
use Rattle.chart_service.specs.declared.failure.ServeEnd.TheVariants.{ReadFault, SendFault, DiskFault, Damaged, InputTooLong, NoMemory}

-- an error that is passed on
pub error_goes : {T E : Type 0} (Q : E → Type 0) (r : Result T E) (from : E) → IsErrAnd r (λ e. e ≡ from) → Q from → IfErr r Q
error_goes Q (Ok v) from is so = tt
error_goes Q (Err e) from is so = subst Q (sym is) so

pub ok_so : {T E : Type 0} (r : Result T E) (P Q : Type 0) → (P → Q) → OnOk r P → OnOk r Q
ok_so (Ok v) P Q more is = more is
ok_so (Err e) P Q more is = tt

pub error_so : {T E : Type 0} (r : Result T E) (P Q : E → Type 0) → ((e : E) → P e → Q e) → IfErr r P → IfErr r Q
error_so (Ok v) P Q more is = tt
error_so (Err e) P Q more is = more e is

-- behind a call that leaves the pages, the sessions and what was sent
pub stands_on : (total : ℕ) (image image' : Image) (sessions sessions' : List Session) (P Q : State → Type 0) → image' ≡ image
    → sessions' ≡ sessions → ((s : State) → P s → Q s) → StandsAfter total image sessions P → StandsAfter total image' sessions' Q
stands_on total image image' sessions sessions' P Q same same_sessions more after =
    let I : Image → Type 0 = λ i. StandsForBook i total after.book in
    let S : List Session → Type 0 = λ s. Q (state_of after.book total s) in
    record {
      book = after.book;
      stands = subst I (sym same) after.stands;
      so = subst S (sym same_sessions) (more (state_of after.book total sessions) after.so);
    }

pub text_is : (text : List ℕ) → length text ≤ 8192 → line_text text ≡ Some text
text_is text short = grind (arith)

-- what is answered, behind a reply that leaves the pages and the sessions
pub replied_kept : (line : Option (List ℕ)) (frame : Frame) (total : ℕ) (first : State) (image image' : Image)
    (sessions sessions' : List Session) → image' ≡ image → sessions' ≡ sessions
    → StandsAfter total image sessions (λ new. Replied line frame first new)
    → StandsAfter total image' sessions' (λ new. Replied line frame first new)
replied_kept line frame total first image image' sessions sessions' same same_sessions after =
    stands_on total image image' sessions sessions' (λ new. Replied line frame first new)
    (λ new. Replied line frame first new) same same_sessions (λ s is. is) after

-- what a step of a line of at most 8,192 bytes answers
pub text_replied : (text : List ℕ) (frame : Frame) (total : ℕ) (first : State) (image : Image) (sessions : List Session)
    → length text ≤ 8192 → StandsAfter total image sessions (λ new. Replied (line_text text) frame first new)
    → StandsAfter total image sessions (λ new. Replied (Some text) frame first new)
text_replied text frame total first image sessions short after =
    let L : Option (List ℕ) → Type 0 = λ l. StandsAfter total image sessions (λ new. Replied l frame first new) in
    subst L (text_is text short) after

-- a line that is too long is refused
pub long_replied : (frame : Frame) (state : State) → frame ≡ refused LineTooLong → Fits frame → IsSound state
    → Replied None frame state state
long_replied frame state is fits sound = (record { reply = is; state = refl }, fits, sound)

pub long_after : (frame : Frame) (total : ℕ) (book : List Series) (own : List Session) (image : Image)
    → Replied None frame (state_of book total own) (state_of book total own) → StandsForBook image total book
    → StandsAfter total image own (λ new. Replied None frame (state_of book total own) new)
long_after frame total book own image replied stands = record { book = book; stands = stands; so = replied }

-- ---- a line that is answered by one frame

pub made_one : {S F : Type 0} (makes : Makes S F) (v w : S) (lines : List (Option (List ℕ))) (frame : Frame) (piece : List ℕ)
    → makes v frame (Ok piece) w → AreMade makes v w lines (frame ∷ []) piece
made_one makes v w lines frame piece given = (piece, w, [], given, sym (append-nil piece), (refl, refl))

one_done : {S F : Type 0} (makes : Makes S F) (v w : S) (line : Option (List ℕ)) (frame : Frame) (old new : State)
    (before now : Option (List ℕ)) → says line ≡ true → Replied line frame old new → FrameSent makes frame v w before now
    → LinesDone makes (unless_empty line) v w old new before now
one_done makes v w line frame old new before now some replied sent =
    let P : List (Option (List ℕ)) → Type 0 = λ l. LinesDone makes l v w old new before now in
    subst P (sym (said line some)) (record {
      frames = frame ∷ [];
      replied = replied_one old new line frame replied;
      text = sent.0;
      made = made_one makes v w (line ∷ []) frame sent.0 sent.1;
      sent = sent.2;
    })

one_cut : {S F : Type 0} (makes : Makes S F) (v w : S) (line : Option (List ℕ)) (frame : Frame) (old new : State)
    (before now : Option (List ℕ)) (end : AnswerEnd F) → says line ≡ true → Replied line frame old new
    → FrameStops makes frame v w before now end → LinesCut makes (unless_empty line) v w old new before now end
one_cut makes v w line frame old new before now end some replied stops =
    let P : List (Option (List ℕ)) → Type 0 = λ l. LinesCut makes l v w old new before now end in
    subst P (sym (said line some)) (record {
      front = [];
      rest = line ∷ [];
      lines_are = refl;
      between = old;
      last = v;
      sent = before;
      done = record { frames = []; replied = refl; text = []; made = (refl, refl); sent = sent_none before };
      frame = frame;
      later = [];
      replied = replied_one old new line frame replied;
      stops = stops;
    })

one_next : {S F : Type 0} (makes : Makes S F) (v : S) (line : Option (List ℕ)) (frame : Frame) (old after : State) (from : ℕ)
    (image : Image) (count : ℕ) → says line ≡ true → Replied line frame old after → StandsForBook image old.total after.book
    → ReplySent makes v frame from count → LinesMoments makes v (unless_empty line) old from image count
one_next makes v line frame old after from image count some replied stands sent =
    let P : List (Option (List ℕ)) → Type 0 = λ l. LinesMoments makes v l old from image count in
    let all = replied_one old after line frame replied in
    subst P (sym (said line some)) (inr (record {
      front = line ∷ [];
      rest = [];
      lines_are = refl;
      frames = frame ∷ [];
      after = after;
      replied = all;
      stands = stands;
      sent = elim sent [
        | inl none ↦ inl none
        | inr bytes ↦ inr (
          record {
            front = line ∷ [];
            rest = [];
            lines_are = refl;
            shown = frame ∷ [];
            later = [];
            frames_are = refl;
            state = after;
            replied = all;
          },
          bytes.0,
          bytes.1,
          made_one makes v bytes.1 (line ∷ []) frame bytes.0 bytes.2,
          bytes.3,
          bytes.4,
        )
      ];
    }))

-- an empty line is passed over
pub empty_done : {S F : Type 0} (makes : Makes S F) (v : S) (line : List ℕ) (at : State) (now : Option (List ℕ)) → length line ≡ 0
    → LinesDone makes (unless_empty (Some line)) v v at at now now
empty_done makes v [] at now none = record { frames = []; replied = refl; text = []; made = (refl, refl); sent = sent_none now }
empty_done makes v (byte ∷ bytes) at now none = absurd (omega (arith, none))

-- the bytes of the frame were sent, behind a step that sent nothing
pub answer_done : {S F T E : Type 0} (makes : Makes S F) (v w : S) (r : Result T E) (line : Option (List ℕ)) (frame : Frame) (total : ℕ)
    (first : State) (image image' : Image) (sessions sessions' : List Session) (before now later : Option (List ℕ)) → says line ≡ true
    → StandsAfter total image sessions (λ new. Replied line frame first new) → image' ≡ image → sessions' ≡ sessions → now ≡ before
    → OnOk r (FrameSent makes frame v w now later)
    → OnOk r (StandsAfter total image' sessions' (λ new. LinesDone makes (unless_empty line) v w first new before later))
answer_done makes v w r line frame total first image image' sessions sessions' before now later some after same same_sessions same_sent =
    let N : Option (List ℕ) → Type 0 = λ n. FrameSent makes frame v w n later in
    ok_so r (FrameSent makes frame v w now later) (StandsAfter total image' sessions'
    (λ new. LinesDone makes (unless_empty line) v w first new before later))
    (λ sent. stands_on total image image' sessions sessions' (λ new. Replied line frame first new)
    (λ new. LinesDone makes (unless_empty line) v w first new before later) same same_sessions
    (λ new is. one_done makes v w line frame first new before later some is (subst N same_sent sent)) after)

-- they weren't
stops_at : {S F : Type 0} (makes : Makes S F) (v w : S) (line : Option (List ℕ)) (frame : Frame) (first : State) (image : Image)
    (sessions : List Session) (before later : Option (List ℕ)) → says line ≡ true
    → StandsAfter first.total image sessions (λ new. Replied line frame first new) → (end : AnswerEnd F)
    → FrameStops makes frame v w before later end → LinesStop makes (unless_empty line) v w first image sessions before later end
stops_at makes v w line frame first image sessions before later some after (Serve ReadFault) why = absurd why
stops_at makes v w line frame first image sessions before later some after (Serve SendFault) why =
    stands_on first.total image image sessions sessions (λ new. Replied line frame first new)
    (λ new. LinesCut makes (unless_empty line) v w first new before later (Serve SendFault)) refl refl
    (λ new is. one_cut makes v w line frame first new before later (Serve SendFault) some is why) after
stops_at makes v w line frame first image sessions before later some after (Serve DiskFault) why = absurd why
stops_at makes v w line frame first image sessions before later some after (Serve (Damaged page)) why = absurd why
stops_at makes v w line frame first image sessions before later some after (Serve InputTooLong) why = absurd why
stops_at makes v w line frame first image sessions before later some after (Serve NoMemory) why = absurd why
stops_at makes v w line frame first image sessions before later some after (Reply e) why =
    stands_on first.total image image sessions sessions (λ new. Replied line frame first new)
    (λ new. LinesCut makes (unless_empty line) v w first new before later (Reply e)) refl refl
    (λ new is. one_cut makes v w line frame first new before later (Reply e) some is why) after

pub answer_stops : {S F T : Type 0} (makes : Makes S F) (v w : S) (r : Result T (AnswerEnd F)) (line : Option (List ℕ)) (frame : Frame)
    (first : State) (image image' : Image) (sessions sessions' : List Session) (before now later : Option (List ℕ)) → says line ≡ true
    → StandsAfter first.total image sessions (λ new. Replied line frame first new) → image' ≡ image → sessions' ≡ sessions → now ≡ before
    → IfErr r (FrameStops makes frame v w now later)
    → IfErr r (LinesStop makes (unless_empty line) v w first image' sessions' before later)
answer_stops makes v w r line frame first image image' sessions sessions' before now later some after same same_sessions same_sent =
    let kept = replied_kept line frame first.total first image image' sessions sessions' same same_sessions after in
    error_so r (FrameStops makes frame v w now later) (LinesStop makes (unless_empty line) v w first image' sessions' before later)
    (λ e why.
    let N : Option (List ℕ) → Type 0 = λ n. FrameStops makes frame v w n later e in
    stops_at makes v w line frame first image' sessions' before later some kept e (subst N same_sent why))

-- the step answered no frame
pub step_stops : {S F : Type 0} (makes : Makes S F) (v : S) (lines : List (Option (List ℕ))) (total : ℕ) (book : List Series)
    (own sessions : List Session) (told : Type 0) (old new : View) (before now : Option (List ℕ)) (e : ServiceError)
    → told → StandsForBook old.image total book → now ≡ before → IsOutside e → IsUnchangedFor e told old new
    → LinesStop makes lines v v (state_of book total own) new.image sessions before now (Serve (end_of_step e))
step_stops makes v lines total book own sessions told old new before now step.DiskFault is stands same outside unchanged = same
step_stops makes v lines total book own sessions told old new before now
    (step.Damaged page) is stands same outside unchanged = elim outside [ inl e ↦ cc | inr e ↦ cc ]
step_stops makes v lines total book own sessions told old new before now step.NoMemory is stands same outside unchanged =
    let I : Image → Type 0 = λ i. StandsForBook i total book in
    record { book = book; stands = subst I (sym (unchanged.image is)) stands; so = (same, inl (refl, refl)) }

-- ---- what a crash leaves

-- while its request is answered
step_moments : {S F : Type 0} (makes : Makes S F) (v : S) (line : Option (List ℕ)) (total : ℕ) (book : List Series)
    (sessions : List Session) (old new : View) → says line ≡ true
    → Passes old new (IsBeforeOrAfter (Replied line) total book sessions) (Quiet old)
    → Through old new (LinesMoments makes v (unless_empty line) (state_of book total sessions) (sent_now old))
step_moments makes v line total book sessions old new some passes =
    through_by old new (IsBeforeOrAfter (Replied line) total book sessions) (Quiet old)
    (LinesMoments makes v (unless_empty line) (state_of book total sessions) (sent_now old)) passes
    (λ image count which quiet. elim which [
      | inl before ↦ inl (before, quiet)
      | inr after ↦ one_next makes v line after.frame (state_of book total sessions) (state_of after.after.book total after.left)
          (sent_now old) image count some after.after.so after.after.stands (inl quiet)
    ])

-- while the reply of a frame that leaves this state is sent
pub reply_moments : {S F : Type 0} (makes : Makes S F) (v : S) (line : Option (List ℕ)) (frame : Frame) (start after : State) (from : ℕ)
    (old new : View) → says line ≡ true → Replied line frame start after → Only old.image (Now old)
    → StandsForBook old.image start.total after.book → sent_now old ≡ from
    → FrameMoments makes v frame old new → Through old new (LinesMoments makes v (unless_empty line) start from)
reply_moments makes v line frame start after from old new some replied only stands same moments =
    let B : Image → Type 0 = λ image. StandsForBook image start.total after.book in
    through_so old new (λ image count. Now old image
    × ReplySent makes v frame (sent_now old) count) (LinesMoments makes v (unless_empty line) start from)
    (λ image count is.
    let P : ℕ → Type 0 = λ n. ReplySent makes v frame n count in
    one_next makes v line frame start after from image count some replied (subst B (sym (only image is.0)) stands) (subst P same is.1))
    moments

pub text_step : {S F : Type 0} (makes : Makes S F) (v : S) (text : List ℕ) (total : ℕ) (book : List Series) (own : List Session)
    (old new : View) → length text ≤ 8192 → says (Some text) ≡ true
    → Passes old new (IsBeforeOrAfter (Replied (line_text text)) total book own) (Quiet old)
    → Through old new (LinesMoments makes v (unless_empty (Some text)) (state_of book total own) (sent_now old))
text_step makes v text total book own old new short some passes =
    let L : Option (List ℕ) → Type 0 = λ l. Passes old new (IsBeforeOrAfter (Replied l) total book own) (Quiet old) in
    step_moments makes v (Some text) total book own old new some (subst L (text_is text short) passes)

-- and the moments of the step and of the sending
pub text_moments : {S F : Type 0} (makes : Makes S F) (v : S) (text : List ℕ) (frame : Frame) (total : ℕ) (book : List Series)
    (own sessions : List Session) (old mid new : View) → length text ≤ 8192 → says (Some text) ≡ true
    → Passes old mid (IsBeforeOrAfter (Replied (line_text text)) total book own) (Quiet old)
    → Only mid.image (Now mid) → StandsAfter total mid.image sessions
    (λ state. Replied (line_text text) frame (state_of book total own) state) → FrameMoments makes v frame mid new
    → Through old new (LinesMoments makes v (unless_empty (Some text)) (state_of book total own) (sent_now old))
text_moments makes v text frame total book own sessions old mid new short some passes only after moments =
    let done = text_replied text frame total (state_of book total own) mid.image sessions short after in
    through_then old mid new (LinesMoments makes v (unless_empty (Some text)) (state_of book total own) (sent_now old))
    (text_step makes v text total book own old mid short some passes)
    (reply_moments makes v (Some text) frame (state_of book total own) (state_of done.book total sessions)
    (sent_now old) mid new some done.so only done.stands
    (sent_same old mid (IsBeforeOrAfter (Replied (line_text text)) total book own) passes) moments)
