-- Frames are given that name sessions which are open.
use Rattle.std.proofs.Common.{◌≡◌, ◌≢◌, ◌⊎◌, ℕ, ◌+◌, Bool, true, false, ◌==◌, IsTrue, List, [], ◌∷◌, ◌++◌, length, take, Option, None, Some}
use Rattle.std.proofs.Common.{◌≤◌, ◌<◌, Result, Ok, Err, IfErr, refl, ap, sym, subst, ◌∙◌, inl, inr, arith, length-append}
use Rattle.std.specs.Prelude.{All, IfSome, IsErrAnd, OnOk, flat_map, not, ◌&&◌, ◌||◌}
use Rattle.std.proofs.Math.Seq.{take-append-add, take-length}
use Rattle.std.proofs.lemmas.Bool.{eqb-true, eqb-false}
use Rattle.std.proofs.lemmas.Grind.{flat_map-append}
use Rattle.std.proofs.lemmas.List.{append-nil}
use Rattle.std.proofs.lemmas.List.Elements.{All-append, All-cons, All-nil, All-tail}
use Rattle.block_disk.specs.Streams.{sent_after, PartSent}
use Rattle.chart_world.specs.declared.line_answer.LineFault.{LineFault}
use Rattle.chart_world.specs.declared.line_answer.LineFault.TheVariants as fault
use Rattle.chart_frames.specs.declared.frame.Frame.{Frame}
use Rattle.chart_frames.specs.declared.frame.Frame.TheVariants.{Done, Refused, Opened, Closed, View, Rows, Live, Report}
use Rattle.chart_frames.specs.Frames.{Fits, spelling}
use Rattle.chart_frames.specs.Opened.{opens}
use Rattle.zoom_session.specs.declared.session.Session.{Session}
use Rattle.zoom_session.specs.Sessions.{is_open}
use Rattle.request_lines.specs.declared.requests.Request.{Request}
use Rattle.series_book.specs.declared.edits.Edit.{Edit}
use Rattle.chart_service.specs.EditGroups.{IsEditReply, SpellEdits, SpellsEdit}
use Rattle.chart_service.specs.Kinds.{MayAnswerAll, MayAnswerLine, MayAnswerRead}
use Rattle.chart_service.specs.Knowing.{NamesKnown}
use Rattle.chart_service.specs.Making.{Makes, FrameSent, FrameStops, FramesSent, FramesCut}
use Rattle.chart_service.specs.Naming.{opens_all, NameOpen, IsOpened, NamesOpened, NameOpened, Gives, StopsBehind, GivesFirst, GivesBy}
use Rattle.chart_service.specs.Naming.{GivesTold, SendsAnswers, SendsNamed}
use Rattle.chart_service.specs.Opening.{NamesOpen}
use Rattle.chart_service.specs.Replies.{line_text}
use Rattle.block_disk.specs.SentLaws.{sent_none, sent_more}
use Rattle.chart_service.specs.Serving.{end_of, end_of_step, told, unless_empty}
use Rattle.chart_service.specs.Spelled.{serve_end}
use Rattle.chart_service.specs.declared.failure.AnswerEnd.{AnswerEnd}
use Rattle.chart_service.specs.declared.failure.AnswerEnd.TheVariants.{Serve, Reply}
use Rattle.std.specs.declared.alloc.AllocError.{AllocError}
use Rattle.chart_service.specs.declared.failure.ServiceError.{ServiceError}
use Rattle.chart_service.specs.declared.failure.ServiceError.TheVariants as step
use Rattle.chart_service.specs.declared.failure.ServeEnd.TheVariants.{ReadFault, SendFault, DiskFault, Damaged, InputTooLong, NoMemory}
use Rattle.chart_service.proofs.Known.{named_known}
use Rattle.chart_service.proofs.Made.{made_joined}
use Rattle.chart_service.proofs.Sending.{made_one, ok_so, error_so, text_is}
use Rattle.chart_service.proofs.Served.{spelling_makes, spells, made_spelled}

-- ---- frames that name open sessions

pub known_alike : (frame : Frame) (a b : ℕ → Bool) → ((n : ℕ) → a n ≡ b n) → NamesKnown frame a → NamesKnown frame b
known_alike (Done slots) a b same named = tt
known_alike (Refused number x y) a b same named = tt
known_alike (Opened session cache) a b same named = tt
known_alike (Closed session) a b same named = subst IsTrue (same session) named
known_alike (View view) a b same named = subst IsTrue (same view.session) named
known_alike (Rows rows) a b same named = subst IsTrue (same rows.session) named
known_alike (Live session on) a b same named = subst IsTrue (same session) named
known_alike (Report report) a b same named = tt

pub name_alike : (frames : List Frame) (a b : ℕ → Bool) → ((n : ℕ) → a n ≡ b n) → NameOpen a frames → NameOpen b frames
name_alike [] a b same named = tt
name_alike (f ∷ fs) a b same named = (
  known_alike f a b same named.0,
  name_alike fs (λ n. opens f n (a n)) (λ n. opens f n (b n))
      (λ n. ap (λ w. opens f n w) (same n)) named.1,
)

pub name_joined : (frames more : List Frame) (a : ℕ → Bool) → NameOpen a frames → NameOpen (λ n. opens_all frames n (a n)) more
    → NameOpen a (frames ++ more)
name_joined [] more a named next = next
name_joined (f ∷ fs) more a named next = (named.0, name_joined fs more (λ n. opens f n (a n)) named.1 next)

pub opens_joined : (frames more : List Frame) (n : ℕ) (was : Bool)
    → opens_all (frames ++ more) n was ≡ opens_all more n (opens_all frames n was)
opens_joined [] more n was = refl
opens_joined (f ∷ fs) more n was = opens_joined fs more n (opens f n was)

-- of these the one behind some first
name_at : (front behind : List Frame) (frame : Frame) (a : ℕ → Bool) → NameOpen a (front ++ frame ∷ behind)
    → NamesKnown frame (λ n. opens_all front n (a n))
name_at [] behind frame a named = named.0
name_at (f ∷ fs) behind frame a named = name_at fs behind frame (λ n. opens f n (a n)) named.1

-- ---- a session that is open behind frames was opened by one of them

abbrev StaysOpen : ℕ → List Frame → Type 0
StaysOpen n frames = All (λ frame. frame ≢ Closed n) frames

-- the first frame is passed
opened_later : (n : ℕ) (f : Frame) (fs : List Frame) → IsOpened n fs → IsOpened n (f ∷ fs)
opened_later n f fs o = record { front = f ∷ o.front; cache = o.cache; behind = o.behind; split = ap (λ l. f ∷ l) o.split; stays = o.stays }

closed_other : (session n : ℕ) → (session == n) ≡ false → Closed session ≡ Closed n → ⊥
closed_other session n other same = let is : session ≡ n = cc in eqb-false session n other is

opened_step : (n : ℕ) (f : Frame) (fs : List Frame) (was : Bool) → StaysOpen n fs → IsTrue (opens f n was)
    → IsOpened n (f ∷ fs) ⊎ (IsTrue was × StaysOpen n (f ∷ fs))
opened_step n (Done slots) fs was stays is = inr (is, All-cons (λ frame. frame ≢ Closed n) (Done slots) fs (λ e. cc (e)) stays)
opened_step n (Refused number x y) fs was stays is = inr (
  is,
  All-cons (λ frame. frame ≢ Closed n) (Refused number x y) fs (λ e. cc (e)) stays,
)
opened_step n (Opened session cache) fs was stays is =
    (elim (session == n) as (λ (b : Bool). (session == n) ≡ b → IsTrue (b || was) → IsOpened n (Opened session cache ∷ fs)
    ⊎ (IsTrue was × StaysOpen n (Opened session cache ∷ fs))) [
      | true ↦ λ h t. inl (record {
        front = [];
        cache = cache;
        behind = fs;
        split = ap (λ k. Opened k cache ∷ fs) (eqb-true session n h);
        stays = stays;
      })
      | false ↦ λ h t. inr (t, All-cons (λ frame. frame ≢ Closed n) (Opened session cache) fs (λ e. cc (e)) stays)
    ]) refl is
opened_step n (Closed session) fs was stays is =
    (elim (session == n) as (λ (b : Bool). (session == n) ≡ b → IsTrue (not b && was) → IsOpened n (Closed session ∷ fs)
    ⊎ (IsTrue was × StaysOpen n (Closed session ∷ fs))) [
      | true ↦ λ h t. absurd (cc (t))
      | false ↦ λ h t. inr (t, All-cons (λ frame. frame ≢ Closed n) (Closed session) fs (λ e. closed_other session n h e) stays)
    ]) refl is
opened_step n (View view) fs was stays is = inr (is, All-cons (λ frame. frame ≢ Closed n) (View view) fs (λ e. cc (e)) stays)
opened_step n (Rows rows) fs was stays is = inr (is, All-cons (λ frame. frame ≢ Closed n) (Rows rows) fs (λ e. cc (e)) stays)
opened_step n (Live session on) fs was stays is = inr (is, All-cons (λ frame. frame ≢ Closed n) (Live session on) fs (λ e. cc (e)) stays)
opened_step n (Report report) fs was stays is = inr (is, All-cons (λ frame. frame ≢ Closed n) (Report report) fs (λ e. cc (e)) stays)

opened_or : (frames : List Frame) (n : ℕ) (was : Bool) → IsTrue (opens_all frames n was)
    → IsOpened n frames ⊎ (IsTrue was × StaysOpen n frames)
opened_or [] n was is = inr (is, All-nil (λ frame. frame ≢ Closed n))
opened_or (f ∷ fs) n was is = elim (opened_or fs n (opens f n was) is) [
  | inl opened ↦ inl (opened_later n f fs opened)
  | inr stays ↦ opened_step n f fs was stays.1 stays.0
]

opened_by : (frames : List Frame) (n : ℕ) → IsTrue (opens_all frames n false) → IsOpened n frames
opened_by frames n is = elim (opened_or frames n false is) [ inl opened ↦ opened | inr never ↦ absurd (cc (never.0)) ]

known_opened : (frame : Frame) (front : List Frame) → NamesKnown frame (λ n. opens_all front n false) → NamesOpened frame front
known_opened (Done slots) front named = tt
known_opened (Refused number x y) front named = tt
known_opened (Opened session cache) front named = tt
known_opened (Closed session) front named = opened_by front session named
known_opened (View view) front named = opened_by front view.session named
known_opened (Rows rows) front named = opened_by front rows.session named
known_opened (Live session on) front named = opened_by front session named
known_opened (Report report) front named = tt

pub named_opened : (frames : List Frame) → NameOpen (λ n. false) frames → NameOpened frames
named_opened frames named = λ front behind frame split.
    let P : List Frame → Type 0 = λ l. NameOpen (λ n. false) l in
    known_opened frame front (name_at front behind frame (λ n. false) (subst P split named))

-- ---- frames that tell what edits gave

abbrev pub Each : (Frame → Type 0) → List Frame → Type 0
Each P [] = Unit {0}
Each P (f ∷ fs) = P f × Each P fs

pub each_of : (P : Frame → Type 0) (frames : List Frame) → All P frames → Each P frames
each_of P [] all = tt
each_of P (f ∷ fs) all = (all 0 f (omega arith), each_of P fs (All-tail P f fs all))

pub all_of : (P : Frame → Type 0) (frames : List Frame) → Each P frames → All P frames
all_of P [] all = All-nil P
all_of P (f ∷ fs) all = All-cons P f fs all.0 (all_of P fs all.1)

each_first : (P : Frame → Type 0) (front behind : List Frame) → Each P (front ++ behind) → Each P front
each_first P [] behind all = tt
each_first P (f ∷ fs) behind all = (all.0, each_first P fs behind all.1)

each_behind : (P : Frame → Type 0) (front behind : List Frame) → Each P (front ++ behind) → Each P behind
each_behind P [] behind all = all
each_behind P (f ∷ fs) behind all = each_behind P fs behind all.1

-- what tells of an edit names no session
pub edit_known : (frame : Frame) (a : ℕ → Bool) → IsEditReply frame → NamesKnown frame a
edit_known (Done slots) a is = tt
edit_known (Refused number x y) a is = tt
edit_known (Opened session cache) a is = absurd is
edit_known (Closed session) a is = absurd is
edit_known (View view) a is = absurd is
edit_known (Rows rows) a is = absurd is
edit_known (Live session on) a is = absurd is
edit_known (Report report) a is = absurd is

edit_keeps : (frame : Frame) (n : ℕ) (was : Bool) → IsEditReply frame → opens frame n was ≡ was
edit_keeps (Done slots) n was is = refl
edit_keeps (Refused number x y) n was is = refl
edit_keeps (Opened session cache) n was is = absurd is
edit_keeps (Closed session) n was is = absurd is
edit_keeps (View view) n was is = absurd is
edit_keeps (Rows rows) n was is = absurd is
edit_keeps (Live session on) n was is = absurd is
edit_keeps (Report report) n was is = absurd is

pub edits_name : (frames : List Frame) (a : ℕ → Bool) → Each IsEditReply frames → NameOpen a frames
edits_name [] a all = tt
edits_name (f ∷ fs) a all = (edit_known f a all.0, edits_name fs (λ n. opens f n (a n)) all.1)

pub edits_keep : (frames : List Frame) (n : ℕ) (was : Bool) → Each IsEditReply frames → opens_all frames n was ≡ was
edits_keep [] n was all = refl
edits_keep (f ∷ fs) n was all = edits_keep fs n (opens f n was) all.1 ∙ edit_keeps f n was all.0

-- ---- frames that are given

-- ---- frames that may answer lines

pub may_joined : (lines more : List (Option (List ℕ))) (frames later : List Frame) → MayAnswerAll lines frames → MayAnswerAll more later
    → MayAnswerAll (lines ++ more) (frames ++ later)
may_joined [] more [] later may next = next
may_joined [] more (f ∷ fs) later may next = absurd may
may_joined (l ∷ ls) more [] later may next = absurd may
may_joined (l ∷ ls) more (f ∷ fs) later may next = (may.0, may_joined ls more fs later may.1 next)

-- some first of the frames answer some lines
may_first : (front behind : List Frame) (lines : List (Option (List ℕ))) → MayAnswerAll lines (front ++ behind)
    → (some : List (Option (List ℕ))) × MayAnswerAll some front
may_first [] behind lines may = ([], tt)
may_first (f ∷ fs) behind [] may = absurd may
may_first (f ∷ fs) behind (l ∷ ls) may = let rest = may_first fs behind ls may.1 in (l ∷ rest.0, (may.0, rest.1))

-- what tells of edits may answer the lines that spell them
edit_may : (line : Option (List ℕ)) (edit : Edit) (frame : Frame) → SpellsEdit line edit → IsEditReply frame → MayAnswerLine line frame
edit_may None edit frame spells is = absurd spells
edit_may (Some []) edit frame spells is = absurd spells
edit_may (Some (byte ∷ bytes)) edit frame spells is = let R : Result Request ℕ → Type 0 = λ r. MayAnswerRead r frame in
    subst R (sym spells) is

pub edits_may : (lines : List (Option (List ℕ))) (edits : List Edit) (frames : List Frame) → SpellEdits lines edits
    → length frames ≡ length edits → All IsEditReply frames → MayAnswerAll lines frames
edits_may [] [] [] spell long all = tt
edits_may [] [] (f ∷ fs) spell long all = absurd (omega (arith, long))
edits_may [] (e ∷ es) frames spell long all = absurd spell
edits_may (l ∷ ls) [] frames spell long all = absurd spell
edits_may (l ∷ ls) (e ∷ es) [] spell long all = absurd (omega (arith, long))
edits_may (l ∷ ls) (e ∷ es) (f ∷ fs) spell long all = (
  edit_may l e f spell.0 (all 0 f (omega arith)),
  edits_may ls es fs spell.1 (omega (arith, long)) (All-tail IsEditReply f fs all),
)

-- one that answers a line which isn't empty
line_may_all : (text : List ℕ) (frame : Frame) → (text ≡ [] → ⊥) → MayAnswerLine (Some text) frame
    → MayAnswerAll (unless_empty (Some text)) (frame ∷ [])
line_may_all [] frame some may = absurd (some refl)
line_may_all (x ∷ text) frame some may = (may, tt)

pub text_may_all : (text : List ℕ) (frame : Frame) → length text ≤ 8192 → 0 < length text → MayAnswerLine (line_text text) frame
    → MayAnswerAll (unless_empty (Some text)) (frame ∷ [])
text_may_all text frame short some may =
    let L : Option (List ℕ) → Type 0 = λ o. MayAnswerLine o frame in
    line_may_all text frame (λ none. omega (arith, some, ap length none)) (subst L (text_is text short) may)

module _ {S F : Type 0} (makes : Makes S F) where
  unfoldable pub gives_none : (v : S) (a : ℕ → Bool) (before : Option (List ℕ)) → Gives makes [] v v a a before before
  gives_none v a before = record {
    frames = [];
    fits = All-nil Fits;
    answers = tt;
    named = tt;
    open_now = λ n. refl;
    text = [];
    made = (refl, refl);
    sent = sent_none before;
  }

  -- an empty line is given nothing
  pub gives_empty : (line : List ℕ) → length line ≡ 0 → (v : S) (a : ℕ → Bool) (before : Option (List ℕ))
      → Gives makes (unless_empty (Some line)) v v a a before before
  gives_empty [] none v a before = gives_none v a before
  gives_empty (byte ∷ bytes) none v a before = absurd (omega (arith, none))

  pub gives_kept : (lines : List (Option (List ℕ))) (v w : S) (a b c : ℕ → Bool) (before now later : Option (List ℕ))
      → ((n : ℕ) → c n ≡ b n) → later ≡ now → Gives makes lines v w a b before now → Gives makes lines v w a c before later
  gives_kept lines v w a b c before now later same same_now g =
      record {
        frames = g.frames;
        fits = g.fits;
        answers = g.answers;
        named = g.named;
        open_now = λ n. same n ∙ g.open_now n;
        text = g.text;
        made = g.made;
        sent = same_now ∙ g.sent;
      }

  unfoldable pub gives_joined : (lines more : List (Option (List ℕ))) (u v w : S) (a b c : ℕ → Bool) (before mid now : Option (List ℕ))
      → Gives makes lines u v a b before mid → Gives makes more v w b c mid now → Gives makes (lines ++ more) u w a c before now
  gives_joined lines more u v w a b c before mid now one two = record {
    frames = one.frames ++ two.frames;
    fits = All-append Fits one.frames two.frames one.fits two.fits;
    answers = may_joined lines more one.frames two.frames one.answers two.answers;
    named = name_joined one.frames two.frames a one.named
        (name_alike two.frames b (λ n. opens_all one.frames n (a n)) one.open_now two.named);
    open_now = λ n. two.open_now n ∙ ap (λ x. opens_all two.frames n x) (one.open_now n) ∙ sym (opens_joined one.frames two.frames n (a n));
    text = one.text ++ two.text;
    made = made_joined makes u v w [] [] [] one.frames two.frames one.text two.text two.made one.made;
    sent = sent_more one.text two.text before mid now one.sent two.sent;
  }

  unfoldable pub gives_one : (lines : List (Option (List ℕ))) (v w : S) (frame : Frame) (a b : ℕ → Bool) (before now : Option (List ℕ))
      → Fits frame → MayAnswerAll lines (frame ∷ []) → NamesKnown frame a → ((n : ℕ) → b n ≡ opens frame n (a n))
      → FrameSent makes frame v w before now → Gives makes lines v w a b before now
  gives_one lines v w frame a b before now fits may named after s =
      record {
        frames = frame ∷ [];
        fits = All-cons Fits frame [] fits (All-nil Fits);
        answers = may;
        named = (named, tt);
        open_now = after;
        text = s.0;
        made = made_one makes v w [] frame s.0 s.1;
        sent = s.2;
      }

  -- the next frame isn't
  stops_one : (v w : S) (frame : Frame) (a : ℕ → Bool) (before now : Option (List ℕ)) (end : AnswerEnd F) → Fits frame → NamesKnown frame a
      → FrameStops makes frame v w before now end → StopsBehind makes v w a before now end
  stops_one v w frame a before now (Serve ReadFault) fits named why = absurd why
  stops_one v w frame a before now (Serve SendFault) fits named why = (frame, fits, named, why)
  stops_one v w frame a before now (Serve DiskFault) fits named why = absurd why
  stops_one v w frame a before now (Serve (Damaged page)) fits named why = absurd why
  stops_one v w frame a before now (Serve InputTooLong) fits named why = absurd why
  stops_one v w frame a before now (Serve NoMemory) fits named why = absurd why
  stops_one v w frame a before now (Reply e) fits named why = (frame, fits, named, why)

  pub first_one : (v w : S) (frame : Frame) (a : ℕ → Bool) (before now : Option (List ℕ)) (end : AnswerEnd F) → Fits frame
      → NamesKnown frame a → FrameStops makes frame v w before now end → GivesFirst makes v w a before now end
  first_one v w frame a before now end fits named why =
      record {
        lines = [];
        last = v;
        now_open = a;
        sent = before;
        given = gives_none v a before;
        stops = stops_one v w frame a before now end fits named why;
      }

  -- frames were given, and then some first
  pub first_behind : (lines : List (Option (List ℕ))) (u v w : S) (a b : ℕ → Bool) (before mid now : Option (List ℕ)) (end : AnswerEnd F)
      → Gives makes lines u v a b before mid → GivesFirst makes v w b mid now end → GivesFirst makes u w a before now end
  first_behind lines u v w a b before mid now end one g =
      record {
        lines = lines ++ g.lines;
        last = g.last;
        now_open = g.now_open;
        sent = g.sent;
        given = gives_joined lines g.lines u v g.last a b g.now_open before mid g.sent one g.given;
        stops = g.stops;
      }

  -- nothing more was sent
  pub first_memory : (lines : List (Option (List ℕ))) (u v : S) (a b : ℕ → Bool) (before now : Option (List ℕ))
      → Gives makes lines u v a b before now → GivesFirst makes u v a before now (Serve NoMemory)
  first_memory lines u v a b before now g = record { lines = lines; last = v; now_open = b; sent = now; given = g; stops = (refl, refl) }

  fault_stops : (v : S) (a : ℕ → Bool) (now : Option (List ℕ)) (f : LineFault) → StopsBehind makes v v a now now (Serve (end_of f))
  fault_stops v a now fault.ReadFault = (refl, refl)
  fault_stops v a now fault.InputTooLong = (refl, refl)

  pub first_fault : (lines : List (Option (List ℕ))) (u v : S) (a b : ℕ → Bool) (before now : Option (List ℕ)) (f : LineFault)
      → Gives makes lines u v a b before now → GivesFirst makes u v a before now (Serve (end_of f))
  first_fault lines u v a b before now f g = record {
    lines = lines;
    last = v;
    now_open = b;
    sent = now;
    given = g;
    stops = fault_stops v b now f;
  }

  step_stops : (v : S) (a : ℕ → Bool) (before now : Option (List ℕ)) (e : ServiceError) → now ≡ before
      → StopsBehind makes v v a before now (Serve (end_of_step e))
  step_stops v a before now step.DiskFault same = (refl, same)
  step_stops v a before now (step.Damaged page) same = (refl, same)
  step_stops v a before now step.NoMemory same = (refl, same)

  pub first_step : (v : S) (a : ℕ → Bool) (before now : Option (List ℕ)) (e : ServiceError) → now ≡ before
      → GivesFirst makes v v a before now (Serve (end_of_step e))
  first_step v a before now e same = record {
    lines = [];
    last = v;
    now_open = a;
    sent = before;
    given = gives_none v a before;
    stops = step_stops v a before now e same;
  }

  -- ---- by what is answered

  gives_by : {T : Type 0} (lines : List (Option (List ℕ))) (v w : S) (old new : List Session) (before now : Option (List ℕ))
      (r : Result T (AnswerEnd F)) → OnOk r (Gives makes lines v w (λ n. is_open n old) (λ n. is_open n new) before now)
      → IfErr r (GivesFirst makes v w (λ n. is_open n old) before now) → GivesBy makes lines v w old new before now r
  gives_by lines v w old new before now (Ok done) good bad = good
  gives_by lines v w old new before now (Err e) good bad = bad

  pub gives_error : {T : Type 0} (lines : List (Option (List ℕ))) (v w : S) (old new : List Session) (before now : Option (List ℕ))
      (r : Result T (AnswerEnd F)) (from : AnswerEnd F) → IsErrAnd r (λ e. e ≡ from)
      → GivesFirst makes v w (λ n. is_open n old) before now from → GivesBy makes lines v w old new before now r
  gives_error lines v w old new before now (Ok done) from is so = absurd is
  gives_error lines v w old new before now (Err e) from is so = let P : AnswerEnd F
      → Type 0 = λ x. GivesFirst makes v w (λ n. is_open n old) before now x in subst P (sym is) so

  -- a frame is given, or it isn't
  pub answer_gives : {T : Type 0} (lines : List (Option (List ℕ))) (v w : S) (r : Result T (AnswerEnd F)) (frame : Frame)
      (old new : List Session) (before mid now : Option (List ℕ)) → Fits frame → MayAnswerAll lines (frame ∷ [])
      → NamesKnown frame (λ n. is_open n old) → ((n : ℕ) → is_open n new ≡ opens frame n (is_open n old)) → mid ≡ before
      → OnOk r (FrameSent makes frame v w mid now) → IfErr r (FrameStops makes frame v w mid now)
      → GivesBy makes lines v w old new before now r
  answer_gives lines v w r frame old new before mid now fits may named after same good bad =
      let Y : Option (List ℕ) → Type 0 = λ o. OnOk r (FrameSent makes frame v w o now) in
      let N : Option (List ℕ) → Type 0 = λ o. IfErr r (FrameStops makes frame v w o now) in
      gives_by lines v w old new before now r
      (ok_so r (FrameSent makes frame v w before now) (Gives makes lines v w (λ n. is_open n old) (λ n. is_open n new) before now)
      (gives_one lines v w frame (λ n. is_open n old) (λ n. is_open n new) before now fits may named after) (subst Y same good))
      (error_so r (FrameStops makes frame v w before now) (GivesFirst makes v w (λ n. is_open n old) before now)
      (λ end why. first_one v w frame (λ n. is_open n old) before now end fits named why) (subst N same bad))

  -- frames that tell what edits gave
  unfoldable pub gives_edits : (lines : List (Option (List ℕ))) (v w : S) (frames : List Frame) (a : ℕ
      → Bool) (before now : Option (List ℕ)) → Each Fits frames → MayAnswerAll lines frames → Each IsEditReply frames
      → FramesSent makes frames v w before now → Gives makes lines v w a a before now
  gives_edits lines v w frames a before now fits may all s =
      record {
        frames = frames;
        fits = all_of Fits frames fits;
        answers = may;
        named = edits_name frames a all;
        open_now = λ n. sym (edits_keep frames n (a n) all);
        text = s.0;
        made = s.1;
        sent = s.2;
      }

  first_edits : (lines : List (Option (List ℕ))) (v w : S) (frames : List Frame) (a : ℕ
      → Bool) (before now : Option (List ℕ)) (end : AnswerEnd F) → Each Fits frames → MayAnswerAll lines frames → Each IsEditReply frames
      → FramesCut makes frames v w before now end → GivesFirst makes v w a before now end
  first_edits lines v w frames a before now end fits may all cut =
      let later = cut.frame ∷ cut.later in
      let fits' : Each Fits (cut.shown ++ later) = subst (Each Fits) cut.frames_are fits in
      let all' : Each IsEditReply (cut.shown ++ later) = subst (Each IsEditReply) cut.frames_are all in
      let some = may_first cut.shown later lines (subst (MayAnswerAll lines) cut.frames_are may) in
      record {
        lines = some.0;
        last = cut.last;
        now_open = a;
        sent = cut.sent;
        given = gives_edits some.0 v cut.last cut.shown a before cut.sent (each_first Fits cut.shown later fits') some.1
            (each_first IsEditReply cut.shown later all') cut.done;
        stops = stops_one cut.last w cut.frame a cut.sent now end (each_behind Fits cut.shown later fits').0
            (edit_known cut.frame a (each_behind IsEditReply cut.shown later all').0) cut.stops;
      }

  pub edits_give : {T : Type 0} (lines : List (Option (List ℕ))) (v w : S) (r : Result T (AnswerEnd F)) (frames : List Frame)
      (old new : List Session) (before mid now : Option (List ℕ)) → All Fits frames → MayAnswerAll lines frames → All IsEditReply frames
      → new ≡ old → mid ≡ before
      → OnOk r (FramesSent makes frames v w mid now) → IfErr r (FramesCut makes frames v w mid now)
      → GivesBy makes lines v w old new before now r
  edits_give lines v w r frames old new before mid now fits may all same_sessions same good bad =
      let Y : Option (List ℕ) → Type 0 = λ o. OnOk r (FramesSent makes frames v w o now) in
      let N : Option (List ℕ) → Type 0 = λ o. IfErr r (FramesCut makes frames v w o now) in
      let a : ℕ → Bool = λ n. is_open n old in
      let fit = each_of Fits frames fits in
      let each = each_of IsEditReply frames all in
      gives_by lines v w old new before now r
      (ok_so r (FramesSent makes frames v w before now) (Gives makes lines v w a (λ n. is_open n new) before now)
      (λ s. gives_kept lines v w a a (λ n. is_open n new) before now now (λ n. ap (λ l. is_open n l) same_sessions) refl
      (gives_edits lines v w frames a before now fit may each s)) (subst Y same good))
      (error_so r (FramesCut makes frames v w before now) (GivesFirst makes v w a before now)
      (λ end cut. first_edits lines v w frames a before now end fit may each cut) (subst N same bad))

-- a frame that names an open session names a known one, where those are known that are open
pub names_open : (frame : Frame) (sessions : List Session) → NamesOpen frame sessions → NamesKnown frame (λ n. is_open n sessions)
names_open frame sessions named = named_known (λ (u : Unit {0}) n. is_open n sessions) tt frame sessions (λ n is. is) named

-- ---- the spellings of frames that are given

-- all of them
whole_named : (lines : List (Option (List ℕ))) (v w : Unit {0}) (old : List Session) (b : ℕ → Bool) (before now : Option (List ℕ))
    → Gives spelling_makes lines v w (λ n. is_open n old) b before now → SendsNamed old before now
whole_named lines v w old b before now g =
    let text = flat_map spelling g.frames in
    let same : g.text ≡ text = made_spelled spelling_makes spells v w [] g.frames g.text g.made in
    record {
      frames = g.frames;
      fits = g.fits;
      named = g.named;
      count = length text;
      within = omega arith;
      sent = g.sent ∙ ap (λ t. sent_after t before) (same ∙ sym (take-length text));
    }

-- and a first part of one more
part_named : (lines : List (Option (List ℕ))) (v w : Unit {0}) (old : List Session) (b : ℕ
    → Bool) (before sent now : Option (List ℕ)) (frame : Frame) (piece : List ℕ)
    → Gives spelling_makes lines v w (λ n. is_open n old) b before sent → Fits frame → NamesKnown frame b → piece ≡ spelling frame
    → PartSent piece sent now → SendsNamed old before now
part_named lines v w old b before sent now frame piece g fits known is part =
    let a : ℕ → Bool = λ n. is_open n old in
    let text = flat_map spelling g.frames in
    let last = spelling frame ++ [] in
    let all = flat_map spelling (g.frames ++ frame ∷ []) in
    let same : g.text ≡ text = made_spelled spelling_makes spells v w [] g.frames g.text g.made in
    let piece_is : piece ≡ last = is ∙ sym (append-nil (spelling frame)) in
    let all_is : all ≡ text ++ last = flat_map-append spelling g.frames (frame ∷ []) in
    let taken : take (length text + part.count) all ≡ text ++ take part.count last = ap (λ l. take (length text + part.count) l) all_is
    ∙ take-append-add text last part.count in
    let gone : now ≡ sent_after (g.text ++ take part.count piece) before = sent_more g.text
    (take part.count piece) before sent now g.sent part.sent in
    record {
      frames = g.frames ++ frame ∷ [];
      fits = All-append Fits g.frames (frame ∷ []) g.fits (All-cons Fits frame [] fits (All-nil Fits));
      named = name_joined g.frames (frame ∷ []) a g.named (known_alike frame b (λ n. opens_all g.frames n (a n)) g.open_now known, tt);
      count = length text + part.count;
      within = omega (arith, part.within, ap length piece_is, ap length all_is, length-append text last);
      sent = gone ∙ ap (λ t. sent_after t before) (ap (λ t. t ++ take part.count piece) same ∙ ap (λ p. text ++ take part.count p) piece_is
          ∙ sym taken);
    }

-- by the end
first_named : (v w : Unit {0}) (old : List Session) (before now : Option (List ℕ)) (end : AnswerEnd AllocError)
    → GivesFirst spelling_makes v w (λ n. is_open n old) before now end → SendsNamed old before now
first_named v w old before now (Serve ReadFault) g = whole_named g.lines v g.last old g.now_open before now
    (gives_kept spelling_makes g.lines v g.last (λ n. is_open n old) g.now_open g.now_open before g.sent now (λ n. refl) g.stops.1 g.given)
first_named v w old before now (Serve SendFault) g = part_named g.lines v g.last old g.now_open before g.sent now g.stops.0 g.stops.3.0
    g.given g.stops.1 g.stops.2 (spells g.last w g.stops.0 g.stops.3.0 g.stops.3.1) g.stops.3.2
first_named v w old before now (Serve DiskFault) g = whole_named g.lines v g.last old g.now_open before now
    (gives_kept spelling_makes g.lines v g.last (λ n. is_open n old) g.now_open g.now_open before g.sent now (λ n. refl) g.stops.1 g.given)
first_named v w old before now (Serve (Damaged page)) g = whole_named g.lines v g.last old g.now_open before now
    (gives_kept spelling_makes g.lines v g.last (λ n. is_open n old) g.now_open g.now_open before g.sent now (λ n. refl) g.stops.1 g.given)
first_named v w old before now (Serve InputTooLong) g = whole_named g.lines v g.last old g.now_open before now
    (gives_kept spelling_makes g.lines v g.last (λ n. is_open n old) g.now_open g.now_open before g.sent now (λ n. refl) g.stops.1 g.given)
first_named v w old before now (Serve NoMemory) g = whole_named g.lines v g.last old g.now_open before now
    (gives_kept spelling_makes g.lines v g.last (λ n. is_open n old) g.now_open g.now_open before g.sent now (λ n. refl) g.stops.1 g.given)
first_named v w old before now (Reply e) g = whole_named g.lines v g.last old g.now_open before now
    (gives_kept spelling_makes g.lines v g.last (λ n. is_open n old) g.now_open g.now_open before g.sent now
    (λ n. refl) g.stops.3.0 g.given)

pub serve_named : {T : Type 0} (lines : List (Option (List ℕ))) (v w : Unit {0}) (old new : List Session) (before now : Option (List ℕ))
    (r : Result T (AnswerEnd AllocError)) → GivesBy spelling_makes lines v w old new before now r → SendsNamed old before now
serve_named lines v w old new before now (Ok done) g = whole_named lines v w old (λ n. is_open n new) before now g
serve_named lines v w old new before now (Err end) g = first_named v w old before now end g

-- and where all lines of an input were, it is an answer a line
answers_told : (input : List ℕ) (lines : List (Option (List ℕ))) (v w : Unit {0}) (old : List Session) (b : ℕ
    → Bool) (before now : Option (List ℕ)) → lines ≡ told input → Gives spelling_makes lines v w (λ n. is_open n old) b before now
    → SendsAnswers old input before now
answers_told input lines v w old b before now are g =
    let L : List (Option (List ℕ)) → Type 0 = λ l. MayAnswerAll l g.frames in
    record {
      frames = g.frames;
      fits = g.fits;
      answers = subst L are g.answers;
      named = g.named;
      sent = g.sent ∙ ap (λ t. sent_after t before) (made_spelled spelling_makes spells v w [] g.frames g.text g.made);
    }

pub serve_answers : (r : Result (Unit {0}) (AnswerEnd AllocError)) (v w : Unit {0}) (old new : List Session)
    (before now left : Option (List ℕ)) → GivesTold spelling_makes left v w old new before now r
    → OnOk (serve_end r) (IfSome left (λ input. SendsAnswers old input before now))
serve_answers (Ok done) v w old new before now None g = tt
serve_answers (Ok done) v w old new before now (Some input) g = answers_told input g.lines v w old
    (λ n. is_open n new) before now g.are_told g.gives
serve_answers (Err end) v w old new before now left g = tt
