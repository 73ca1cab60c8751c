-- Edits that were done together are answered, frame by frame.
use Rattle.std.proofs.Common.{◌≡◌, ◌+◌, ℕ, List, [], ◌∷◌, ◌++◌, length, Option, None, Some, Result, Ok, IfErr, IfSome, refl, ap, sym, subst}
use Rattle.std.proofs.Common.{◌∙◌, inl, inr, arith, length-append}
use Rattle.std.specs.Prelude.{OnOk}
use Rattle.std.proofs.lemmas.Bool.{cases_lt}
use Rattle.std.proofs.lemmas.List.{append-nil}
use Rattle.block_disk.specs.Streams.{sent_after}
use Rattle.block_disk.specs.View.{Image, View, Now, Only, Passes, sent_now}
use Rattle.block_disk.specs.SentLaws.{sent_none, sent_more}
use Rattle.chart_frames.specs.declared.frame.Frame.{Frame}
use Rattle.gate_pages.specs.Pages.{Quiet}
use Rattle.gate_pages.proofs.Moving.{sent_same}
use Rattle.series_book.specs.declared.edits.Edit.{Edit}
use Rattle.series_book.specs.declared.one_series.Series.{Series}
use Rattle.request_lines.specs.declared.requests.Request.{Request}
use Rattle.request_lines.specs.declared.requests.Request.TheVariants.{Edit as EditRequest}
use Rattle.stored_book.specs.Standing.{StandsForBook}
use Rattle.zoom_session.specs.declared.session.Session.{Session}
use Rattle.chart_service.specs.EditGroups.{SpellsEdit, SpellEdits, RepliesToEdits, AnswersSome}
use Rattle.chart_service.specs.Making.{Makes, LinesDone, LinesCut, LinesStop, LinesMoments, FrameStops, ReplySent, FrameMoments, FramesSent}
use Rattle.chart_service.specs.Making.{FramesCut, FirstSent, FramesMoments}
use Rattle.chart_service.specs.Moments.{Through}
use Rattle.chart_service.specs.MomentLaws.{through_by, through_so, through_then}
use Rattle.chart_service.specs.Replies.{Replied, RepliesTo}
use Rattle.chart_service.specs.Serving.{RepliesToAll, end_of_step}
use Rattle.chart_service.specs.State.{State}
use Rattle.chart_service.specs.Stepping.{StandsAfter, RepliedTo, IsOutside, state_of}
use Rattle.chart_service.specs.declared.failure.AnswerEnd.{AnswerEnd}
use Rattle.chart_service.specs.declared.failure.AnswerEnd.TheVariants.{Serve, Reply}
use Rattle.chart_service.specs.declared.failure.ServiceError.{ServiceError}
use Rattle.chart_service.specs.declared.failure.ServiceError.TheVariants as step
use Rattle.chart_service.specs.declared.failure.ServeEnd.TheVariants.{ReadFault, SendFault, DiskFault, Damaged, InputTooLong, NoMemory}
use Rattle.chart_service.proofs.Made.{made_for}
use Rattle.chart_service.proofs.Sending.{made_one, ok_so, error_so, stands_on}

-- ---- frames in a row

pub cut_first : {S F : Type 0} (makes : Makes S F) (v w : S) (frame : Frame) (later frames : List Frame) (before now : Option (List ℕ))
    (end : AnswerEnd F) → frames ≡ frame ∷ later → FrameStops makes frame v w before now end → FramesCut makes frames v w before now end
cut_first makes v w frame later frames before now end is stops =
    record {
      shown = [];
      frame = frame;
      later = later;
      frames_are = is;
      last = v;
      sent = before;
      done = ([], (refl, refl), sent_none before);
      stops = stops;
    }

sent_cons : {S F : Type 0} (makes : Makes S F) (v w x : S) (frame : Frame) (later : List Frame) (piece : List ℕ)
    (before now after : Option (List ℕ)) → makes v frame (Ok piece) w → now ≡ sent_after piece before → FramesSent makes later w x now after
    → FramesSent makes (frame ∷ later) v x before after
sent_cons makes v w x frame later piece before now after given sent next = (
  piece ++ next.0,
  (piece, w, next.0, given, refl, next.1),
  sent_more piece next.0 before now after sent next.2,
)

pub sent_later : {S F T E : Type 0} (makes : Makes S F) (v w x : S) (r : Result T E) (frame : Frame) (later frames : List Frame)
    (piece : List ℕ) (before now after : Option (List ℕ)) → frames ≡ frame ∷ later → makes v frame (Ok piece) w
    → now ≡ sent_after piece before
    → OnOk r (FramesSent makes later w x now after) → OnOk r (FramesSent makes frames v x before after)
sent_later makes v w x r frame later frames piece before now after is given sent next =
    let P : List Frame → Type 0 = λ f. FramesSent makes f v x before after in
    ok_so r (FramesSent makes later w x now after) (FramesSent makes frames v x before after)
    (λ all. subst P (sym is) (sent_cons makes v w x frame later piece before now after given sent all)) next

pub cut_later : {S F T : Type 0} (makes : Makes S F) (v w x : S) (r : Result T (AnswerEnd F)) (frame : Frame) (later frames : List Frame)
    (piece : List ℕ) (before now after : Option (List ℕ)) → frames ≡ frame ∷ later → makes v frame (Ok piece) w
    → now ≡ sent_after piece before
    → IfErr r (FramesCut makes later w x now after) → IfErr r (FramesCut makes frames v x before after)
cut_later makes v w x r frame later frames piece before now after is given sent next =
    error_so r (FramesCut makes later w x now after) (FramesCut makes frames v x before after)
    (λ end cut. record {
      shown = frame ∷ cut.shown;
      frame = cut.frame;
      later = cut.later;
      frames_are = is ∙ ap (λ l. frame ∷ l) cut.frames_are;
      last = cut.last;
      sent = cut.sent;
      done = sent_cons makes v w cut.last frame cut.shown piece before now cut.sent given sent cut.done;
      stops = cut.stops;
    }) next

-- ---- what a crash leaves meanwhile

first_sent : {S F : Type 0} (makes : Makes S F) (v : S) (frame : Frame) (later frames : List Frame) (from count : ℕ)
    → frames ≡ frame ∷ later → ReplySent makes v frame from count → FirstSent makes v frames from count
first_sent makes v frame later frames from count is (inl none) = inl none
first_sent makes v frame later frames from count is (inr b) = inr (
  frame ∷ [],
  later,
  b.0,
  b.1,
  is,
  made_one makes v b.1 [] frame b.0 b.2,
  b.3,
  b.4,
)

pub moments_first : {S F : Type 0} (makes : Makes S F) (v : S) (frame : Frame) (later frames : List Frame) (old new : View)
    → frames ≡ frame ∷ later → FrameMoments makes v frame old new → FramesMoments makes v frames old new
moments_first makes v frame later frames old new is moments =
    through_so old new (λ image count. Now old image × ReplySent makes v frame (sent_now old) count) (λ image count. Now old image
    × FirstSent makes v frames (sent_now old) count)
    (λ image count so. (so.0, first_sent makes v frame later frames (sent_now old) count is so.1)) moments

-- so too where bytes are told
pub if_told : {A : Type 0} (P : Type 0) (o : Option A) → P → IfSome o (λ x. P)
if_told P None is = tt
if_told P (Some x) is = is

-- for bytes that are told
pub moments_told : {S F : Type 0} (makes : Makes S F) (v : S) (frames : List Frame) (old new : View) (before : Option (List ℕ))
    → FramesMoments makes v frames old new → IfSome before (λ bytes. FramesMoments makes v frames old new)
moments_told makes v frames old new None moments = tt
moments_told makes v frames old new (Some bytes) moments = moments

-- what a crash leaves then it left before
now_through : (old mid : View) (P : Image → ℕ → Type 0) (image : Image) → Through old mid (λ image count. Now old image × P image count)
    → Now mid image → Now old image
now_through old mid P image through left = elim (cases_lt old.clock mid.clock) [
  | inl late ↦ (through.here mid.clock image late (omega arith) left).0
  | inr early ↦
      let same : mid.clock ≡ old.clock = omega (arith, early, through.goes.later) in
      let C : ℕ → Type 0 = λ t. old.crash t image in
      subst C same (through.goes.past mid.clock image (omega (arith, early)) left)
]

behind_sent : {S F : Type 0} (makes : Makes S F) (v w : S) (frame : Frame) (later frames : List Frame) (piece : List ℕ) (from mid count : ℕ)
    → frames ≡ frame ∷ later → makes v frame (Ok piece) w → mid ≡ from + length piece → FirstSent makes w later mid count
    → FirstSent makes v frames from count
behind_sent makes v w frame later frames piece from mid count is given at (inl same) = inr (
  frame ∷ [],
  later,
  piece,
  w,
  is,
  made_one makes v w [] frame piece given,
  omega (arith, same, at),
  omega (arith, same, at),
)
behind_sent makes v w frame later frames piece from mid count is given at (inr s) =
    inr (
      frame ∷ s.0,
      s.1,
      piece ++ s.2,
      s.3,
      is ∙ ap (λ l. frame ∷ l) s.4,
      (piece, w, s.2, given, refl, s.5),
      omega (arith, s.6, at),
      omega (arith, s.7, at, length-append piece s.2),
    )

pub moments_later : {S F : Type 0} (makes : Makes S F) (v w : S) (frame : Frame) (later frames : List Frame) (piece : List ℕ)
    (old mid new : View) (before now : Option (List ℕ)) → frames ≡ frame ∷ later → makes v frame (Ok piece) w
    → now ≡ sent_after piece before
    → IfSome before (λ bytes. sent_now old ≡ length bytes) → IfSome now (λ bytes. sent_now mid ≡ length bytes)
    → FrameMoments makes v frame old mid → IfSome now (λ bytes. FramesMoments makes w later mid new)
    → IfSome before (λ bytes. FramesMoments makes v frames old new)
moments_later makes v w frame later frames piece old mid new None now is given sent counts counts_now first next = tt
moments_later makes v w frame later frames piece old mid new (Some bytes) now is given sent counts counts_now first next =
    let C : Option (List ℕ) → Type 0 = λ o. IfSome o (λ b. sent_now mid ≡ length b) in
    let N : Option (List ℕ) → Type 0 = λ o. IfSome o (λ b. FramesMoments makes w later mid new) in
    let counted : sent_now mid ≡ length (bytes ++ piece) = subst C sent counts_now in
    let at : sent_now mid ≡ sent_now old + length piece = omega (arith, counted, counts, length-append bytes piece) in
    through_then old mid new (λ image count. Now old image
    × FirstSent makes v frames (sent_now old) count) (moments_first makes v frame later frames old mid is first)
    (through_so mid new (λ image count. Now mid image × FirstSent makes w later (sent_now mid) count) (λ image count. Now old image
    × FirstSent makes v frames (sent_now old) count)
    (λ image count so. (
      now_through old mid (λ image count. ReplySent makes v frame (sent_now old) count) image first so.0,
      behind_sent makes v w frame later frames piece (sent_now old) (sent_now mid) count is given at so.1,
    )) (subst N sent next))

-- ---- the lines that spell the edits

one_spelled : (line : Option (List ℕ)) (edit : Edit) (frame : Frame) (old new : State) → SpellsEdit line edit
    → RepliedTo (EditRequest edit) frame old new → Replied line frame old new
one_spelled None edit frame old new spells replied = absurd spells
one_spelled (Some []) edit frame old new spells replied = absurd spells
one_spelled (Some (b ∷ bs)) edit frame old new spells replied =
    let R : Result Request ℕ → Type 0 = λ r. RepliesTo r frame old new in
    (subst R (sym spells) replied.0, replied.1, replied.2)

pub spelled_replies : (lines : List (Option (List ℕ))) (edits : List Edit) (frames : List Frame) (old new : State) → SpellEdits lines edits
    → RepliesToEdits edits frames old new → RepliesToAll old lines frames new
spelled_replies [] [] [] old new spells replied = replied
spelled_replies [] [] (f ∷ fs) old new spells replied = absurd replied
spelled_replies [] (e ∷ es) frames old new spells replied = absurd spells
spelled_replies (l ∷ ls) [] frames old new spells replied = absurd spells
spelled_replies (l ∷ ls) (e ∷ es) [] old new spells replied = absurd replied
spelled_replies (l ∷ ls) (e ∷ es) (f ∷ fs) old new spells replied = (
  replied.0,
  one_spelled l e f old replied.0 spells.0 replied.1,
  spelled_replies ls es fs replied.0 new spells.1 replied.2,
)

-- the lines of the first edits, and the others
pub record SpelledFront (lines : List (Option (List ℕ))) (first later : List Edit) : Type 0 where
  pub front : List (Option (List ℕ))
  pub rest : List (Option (List ℕ))
  pub lines_are : lines ≡ front ++ rest
  pub spells : SpellEdits front first

spelled_front : (lines : List (Option (List ℕ))) (first later : List Edit) → SpellEdits lines (first ++ later)
    → SpelledFront lines first later
spelled_front lines [] later spells = record { front = []; rest = lines; lines_are = refl; spells = tt }
spelled_front [] (e ∷ es) later spells = absurd spells
spelled_front (l ∷ ls) (e ∷ es) later spells =
    let f = spelled_front ls es later spells.1 in
    record { front = l ∷ f.front; rest = f.rest; lines_are = ap (λ x. l ∷ x) f.lines_are; spells = (spells.0, f.spells) }

some_front : (lines : List (Option (List ℕ))) (edits first later : List Edit) → edits ≡ first ++ later → SpellEdits lines edits
    → SpelledFront lines first later
some_front lines edits first later is spells = let E : List Edit → Type 0 = λ e. SpellEdits lines e in
    spelled_front lines first later (subst E is spells)

-- the lines whose frames stand first
pub record SplitReplied (old new : State) (lines : List (Option (List ℕ))) (shown later : List Frame) : Type 0 where
  pub front : List (Option (List ℕ))
  pub rest : List (Option (List ℕ))
  pub lines_are : lines ≡ front ++ rest
  pub state : State
  pub replied : RepliesToAll old front shown state
  pub others : RepliesToAll state rest later new

split_replied : (old new : State) (lines : List (Option (List ℕ))) (shown later : List Frame) → RepliesToAll old lines (shown ++ later) new
    → SplitReplied old new lines shown later
split_replied old new lines [] later all = record { front = []; rest = lines; lines_are = refl; state = old; replied = refl; others = all }
split_replied old new [] (f ∷ fs) later all = absurd all
split_replied old new (l ∷ ls) (f ∷ fs) later all =
    let s = split_replied all.0 new ls fs later all.2 in
    record {
      front = l ∷ s.front;
      rest = s.rest;
      lines_are = ap (λ x. l ∷ x) s.lines_are;
      state = s.state;
      replied = (all.0, all.1, s.replied);
      others = s.others;
    }

by_frames : (old new : State) (lines : List (Option (List ℕ))) (frames shown later : List Frame) → frames ≡ shown ++ later
    → RepliesToAll old lines frames new → SplitReplied old new lines shown later
by_frames old new lines frames shown later is all = let R : List Frame → Type 0 = λ f. RepliesToAll old lines f new in
    split_replied old new lines shown later (subst R is all)

-- ---- the answers to the lines

group_done_at : {S F : Type 0} (makes : Makes S F) (v w : S) (lines : List (Option (List ℕ))) (frames : List Frame) (old new : State)
    (before now later : Option (List ℕ)) → now ≡ before → RepliesToAll old lines frames new → FramesSent makes frames v w now later
    → LinesDone makes lines v w old new before later
group_done_at makes v w lines frames old new before now later same replied sent =
    record {
      frames = frames;
      replied = replied;
      text = sent.0;
      made = made_for makes v w [] lines frames sent.0 sent.1;
      sent = sent.2 ∙ ap (sent_after sent.0) same;
    }

pub group_done : {S F T E : Type 0} (makes : Makes S F) (v w : S) (r : Result T E) (lines : List (Option (List ℕ))) (edits : List Edit)
    (frames : List Frame) (total : ℕ) (first : State) (image image' : Image) (sessions sessions' : List Session)
    (before now later : Option (List ℕ)) → SpellEdits lines edits
    → StandsAfter total image sessions (RepliesToEdits edits frames first) → image' ≡ image → sessions' ≡ sessions → now ≡ before
    → OnOk r (FramesSent makes frames v w now later)
    → OnOk r (StandsAfter total image' sessions' (λ new. LinesDone makes lines v w first new before later))
group_done makes v w r lines edits frames total first image image' sessions sessions' before now later spells after same same_sessions
    same_sent =
    ok_so r (FramesSent makes frames v w now later)
    (StandsAfter total image' sessions' (λ new. LinesDone makes lines v w first new before later))
    (λ sent. stands_on total image image' sessions sessions' (RepliesToEdits edits frames first)
    (λ new. LinesDone makes lines v w first new before later) same same_sessions
    (λ new is. group_done_at makes v w lines frames first new before now later same_sent
    (spelled_replies lines edits frames first new spells is) sent) after)

group_cut : {S F : Type 0} (makes : Makes S F) (v w : S) (lines : List (Option (List ℕ))) (frames : List Frame) (old new : State)
    (before now later : Option (List ℕ)) (end : AnswerEnd F) → now ≡ before → RepliesToAll old lines frames new
    → FramesCut makes frames v w now later end → LinesCut makes lines v w old new before later end
group_cut makes v w lines frames old new before now later end same replied cut =
    let s = by_frames old new lines frames cut.shown (cut.frame ∷ cut.later) cut.frames_are replied in
    record {
      front = s.front;
      rest = s.rest;
      lines_are = s.lines_are;
      between = s.state;
      last = cut.last;
      sent = cut.sent;
      done = group_done_at makes v cut.last s.front cut.shown old s.state before now cut.sent same s.replied cut.done;
      frame = cut.frame;
      later = cut.later;
      replied = s.others;
      stops = cut.stops;
    }

module _ {S F : Type 0} (makes : Makes S F) (v w : S) (lines : List (Option (List ℕ))) (edits : List Edit) (frames : List Frame)
    (first : State) (image image' : Image) (sessions sessions' : List Session) (before now later : Option (List ℕ))
    (spells : SpellEdits lines edits) (after : StandsAfter first.total image sessions (RepliesToEdits edits frames first))
    (same : image' ≡ image) (same_sessions : sessions' ≡ sessions) (same_sent : now ≡ before) where
  cut_in : (end : AnswerEnd F) → FramesCut makes frames v w now later end
      → StandsAfter first.total image' sessions' (λ new. LinesCut makes lines v w first new before later end)
  cut_in end cut =
      stands_on first.total image image' sessions sessions' (RepliesToEdits edits frames first)
      (λ new. LinesCut makes lines v w first new before later end) same same_sessions
      (λ new is. group_cut makes v w lines frames first new before now later end same_sent
      (spelled_replies lines edits frames first new spells is) cut) after

  stops_in : (end : AnswerEnd F) → FramesCut makes frames v w now later end
      → LinesStop makes lines v w first image' sessions' before later end
  stops_in (Serve ReadFault) cut = absurd cut.stops
  stops_in (Serve SendFault) cut = cut_in (Serve SendFault) cut
  stops_in (Serve DiskFault) cut = absurd cut.stops
  stops_in (Serve (Damaged page)) cut = absurd cut.stops
  stops_in (Serve InputTooLong) cut = absurd cut.stops
  stops_in (Serve NoMemory) cut = absurd cut.stops
  stops_in (Reply e) cut = cut_in (Reply e) cut

  pub group_stops : {T : Type 0} (r : Result T (AnswerEnd F)) → IfErr r (FramesCut makes frames v w now later)
      → IfErr r (LinesStop makes lines v w first image' sessions' before later)
  group_stops r why = error_so r (FramesCut makes frames v w now later)
      (LinesStop makes lines v w first image' sessions' before later) stops_in why

-- the edits weren't all done
pub edits_stop : {S F : Type 0} (makes : Makes S F) (v : S) (lines : List (Option (List ℕ))) (edits : List Edit) (total : ℕ)
    (book : List Series) (own sessions : List Session) (image : Image) (before now : Option (List ℕ)) (e : ServiceError)
    → SpellEdits lines edits → sessions ≡ own → now ≡ before → IsOutside e
    → ((e ≡ step.DiskFault → ⊥) → AnswersSome edits (state_of book total own) image)
    → LinesStop makes lines v v (state_of book total own) image sessions before now (Serve (end_of_step e))
edits_stop makes v lines edits total book own sessions image before now step.DiskFault spells same_sessions same outside left = same
edits_stop makes v lines edits total book own sessions image before now
    (step.Damaged page) spells same_sessions same outside left = elim outside [ inl e ↦ cc | inr e ↦ cc ]
edits_stop makes v lines edits total book own sessions image before now step.NoMemory spells same_sessions same outside left =
    let some = left (λ e. cc) in
    let f = some_front lines edits some.first some.later some.edits_are spells in
    let old = state_of book total own in
    let T : ℕ → Type 0 = λ t. RepliesToAll old f.front some.frames (state_of some.new.book t some.new.sessions) in
    let S : List Session → Type 0 = λ s. RepliesToAll old f.front some.frames (state_of some.new.book total s) in
    record {
      book = some.new.book;
      stands = some.stands;
      so = (
        same,
        inr (record {
          front = f.front;
          rest = f.rest;
          lines_are = f.lines_are;
          frames = some.frames;
          replied = subst S (some.sessions ∙ sym same_sessions)
              (subst T some.total (spelled_replies f.front some.first some.frames old some.new f.spells some.replied));
        }),
      );
    }

-- ---- and what a crash leaves

some_next : {S F : Type 0} (makes : Makes S F) (v : S) (lines : List (Option (List ℕ))) (edits : List Edit) (old : State) (from : ℕ)
    (image : Image) (count : ℕ) → SpellEdits lines edits → AnswersSome edits old image → count ≡ from
    → LinesMoments makes v lines old from image count
some_next makes v lines edits old from image count spells some quiet =
    let f = some_front lines edits some.first some.later some.edits_are spells in
    inr (record {
      front = f.front;
      rest = f.rest;
      lines_are = f.lines_are;
      frames = some.frames;
      after = some.new;
      replied = spelled_replies f.front some.first some.frames old some.new f.spells some.replied;
      stands = some.stands;
      sent = inl quiet;
    })

pub edits_moments : {S F : Type 0} (makes : Makes S F) (v : S) (lines : List (Option (List ℕ))) (edits : List Edit) (first : State)
    (old new : View) → SpellEdits lines edits → Passes old new (AnswersSome edits first) (Quiet old)
    → Through old new (LinesMoments makes v lines first (sent_now old))
edits_moments makes v lines edits first old new spells passes =
    through_by old new (AnswersSome edits first) (Quiet old) (LinesMoments makes v lines first (sent_now old)) passes
    (λ image count some quiet. some_next makes v lines edits first (sent_now old) image count spells some quiet)

sent_next : {S F : Type 0} (makes : Makes S F) (v : S) (lines : List (Option (List ℕ))) (frames : List Frame) (old after : State) (from : ℕ)
    (image : Image) (count : ℕ) → RepliesToAll old lines frames after → StandsForBook image old.total after.book
    → FirstSent makes v frames from count → LinesMoments makes v lines old from image count
sent_next makes v lines frames old after from image count replied stands (inl none) =
    inr (record {
      front = lines;
      rest = [];
      lines_are = sym (append-nil lines);
      frames = frames;
      after = after;
      replied = replied;
      stands = stands;
      sent = inl none;
    })
sent_next makes v lines frames old after from image count replied stands (inr some) =
    let s = by_frames old after lines frames some.0 some.1 some.4 replied in
    inr (record {
      front = lines;
      rest = [];
      lines_are = sym (append-nil lines);
      frames = frames;
      after = after;
      replied = replied;
      stands = stands;
      sent = inr (
        record {
          front = s.front;
          rest = s.rest;
          lines_are = s.lines_are;
          shown = some.0;
          later = some.1;
          frames_are = some.4;
          state = s.state;
          replied = s.replied;
        },
        some.2,
        some.3,
        made_for makes v some.3 [] s.front some.0 some.2 some.5,
        some.6,
        some.7,
      );
    })

pub group_moments : {S F : Type 0} (makes : Makes S F) (v : S) (lines : List (Option (List ℕ))) (edits : List Edit) (frames : List Frame)
    (first : State) (old mid new : View) (sessions : List Session) (before now : Option (List ℕ)) → SpellEdits lines edits
    → Passes old mid (AnswersSome edits first) (Quiet old) → Only mid.image (Now mid)
    → StandsAfter first.total mid.image sessions (RepliesToEdits edits frames first) → now ≡ before
    → IfSome now (λ bytes. FramesMoments makes v frames mid new)
    → IfSome before (λ bytes. Through old new (LinesMoments makes v lines first (sent_now old)))
group_moments makes v lines edits frames first old mid new sessions None now spells passes only after same moments = tt
group_moments makes v lines edits frames first old mid new sessions (Some bytes) now spells passes only after same moments =
    let N : Option (List ℕ) → Type 0 = λ o. IfSome o (λ b. FramesMoments makes v frames mid new) in
    let done = state_of after.book first.total sessions in
    let B : Image → Type 0 = λ i. StandsForBook i first.total after.book in
    let quiet = sent_same old mid (AnswersSome edits first) passes in
    through_then old mid new (LinesMoments makes v lines first (sent_now old))
    (edits_moments makes v lines edits first old mid spells passes)
    (through_so mid new (λ image count. Now mid image
    × FirstSent makes v frames (sent_now mid) count) (LinesMoments makes v lines first (sent_now old))
    (λ image count so.
    let C : ℕ → Type 0 = λ n. FirstSent makes v frames n count in
    sent_next makes v lines frames first done (sent_now old) image count (spelled_replies lines edits frames first done spells after.so)
    (subst B (sym (only image so.0)) after.stands) (subst C quiet so.1)) (subst N same moments))
