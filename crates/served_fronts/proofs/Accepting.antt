-- No frame of a session is rejected, from a state in which it isn't open.
use Rattle.std.proofs.Common.{◌≡◌, ◌≢◌, ℕ, Bool, true, false, ◌==◌, List, [], ◌∷◌, ◌++◌, map, Option, None, Some, Result, Ok, Err, refl}
use Rattle.std.proofs.Common.{ap, sym, subst, ◌∙◌}
use Rattle.std.specs.Prelude.{filter, if◌then◌else◌}
use Rattle.std.proofs.lemmas.List.Elements.{All-nil, All-cons}
use Rattle.series_book.specs.declared.one_series.Series.{Series}
use Rattle.series_book.specs.declared.refusals.Refusal.TheVariants.{TooManySessions}
use Rattle.request_lines.specs.declared.requests.Request.{Request}
use Rattle.request_lines.specs.declared.requests.Request.TheVariants.{Edit, Open, View, Zoom, Pan, Close}
use Rattle.request_lines.specs.Requests.{read_line}
use Rattle.zoom_session.specs.declared.view_spec.ViewSpec.{ViewSpec}
use Rattle.view_keys.specs.Laws.{NeededKeysAreFew}
use Rattle.chart_frames.specs.declared.frame.Frame.{Frame}
use Rattle.chart_service.specs.State.{State, IsSound}
use Rattle.chart_service.specs.Serving.{RepliesToAll}
use Rattle.chart_service.specs.Replies.{Replied, refused as refusal_frame, cache_of}
use Rattle.chart_service.specs.Alone.{only, alone, concerns, is_own, session_read, NeverCrowded}
use Rattle.chart_service.specs.Laws.{SessionsStandAlone}
use Rattle.chart_service.proofs.Standing.{alone_sound}
use Rattle.drawn_replies.specs.Mirrors.{mirrored}
use Rattle.drawn_replies.specs.Laws.{LinesAreAccepted, OwnRepliesDrawTheBook}
use Rattle.drawn_replies.specs.Pictures.{AcceptsAll, NoneRejected, names}
use Rattle.served_fronts.specs.Books.{Line, ok_of, said_by}
use Rattle.served_fronts.specs.Answers.{OpenSession, is_there, cant_open, Reply, FitsIn, FitsRequest, FitsSaid, says_in}
use Rattle.served_fronts.specs.Answers.Reply.{applied, opened, closed, shown, refused}
use Rattle.served_fronts.proofs.Saying.{OneReading, open_in, line_said}

not_both : (b : Bool) → b ≡ true → b ≡ false → ⊥
not_both b holds fails = cc

-- ---- a line that is answered in a session names it

in_session : (book : List Series) (n m : ℕ) (Asks : OpenSession → ViewSpec → Type 0) (Cant : OpenSession → Type 0)
    (o : Option OpenSession) (reply : Reply)
    → FitsIn book n Asks Cant o reply → says_in m reply ≡ true → (n == m) ≡ true
in_session book n m Asks Cant None reply fits says = absurd (not_both (says_in m reply) says (ap (says_in m) fits))
in_session book n m Asks Cant (Some s) applied fits says = absurd fits
in_session book n m Asks Cant (Some s) (opened k cache) fits says = absurd fits
in_session book n m Asks Cant (Some s) (closed k) fits says = absurd fits
in_session book n m Asks Cant (Some s) (shown k view samples) fits says = ap (λ x. x == m) (sym fits.0) ∙ says
in_session book n m Asks Cant (Some s) refused fits says = absurd (not_both false says refl)

by_request : (total : ℕ) (book : List Series) (sessions : List OpenSession) (m : ℕ) (r : Request) (reply : Reply)
    → FitsRequest total book sessions r reply
    → says_in m reply ≡ true → is_own m (session_read (Ok r)) ≡ true
by_request total book sessions m (Edit edit) reply fits says = refl
by_request total book sessions m (Open n cache) reply fits says =
    (elim (cant_open n (cache_of cache) sessions) as
    (λ b. reply ≡ (if b then refused else opened n (cache_of cache)) → (n == m) ≡ true) [
      | true ↦ λ is. absurd (not_both (says_in m reply) says (ap (says_in m) is))
      | false ↦ λ is. sym (ap (says_in m) is) ∙ says
    ]) fits
by_request total book sessions m (View n name w h t0 t1 word text) reply fits says = in_session book n m _ _ _ reply fits says
by_request total book sessions m (Zoom n t0 t1) reply fits says = in_session book n m _ _ _ reply fits says
by_request total book sessions m (Pan n by) reply fits says = in_session book n m _ _ _ reply fits says
by_request total book sessions m (Close n) reply fits says =
    (elim (is_there n sessions) as (λ b. reply ≡ (if b then closed n else refused) → (n == m) ≡ true) [
      | true ↦ λ is. sym (ap (says_in m) is) ∙ says
      | false ↦ λ is. absurd (not_both (says_in m reply) says (ap (says_in m) is))
    ]) fits

by_read : (total : ℕ) (book : List Series) (sessions : List OpenSession) (m : ℕ) (r : Result Request ℕ) (reply : Reply)
    → FitsSaid total book sessions (ok_of r) reply
    → says_in m reply ≡ true → is_own m (session_read r) ≡ true
by_read total book sessions m (Err at) reply fits says = refl
by_read total book sessions m (Ok r) reply fits says = by_request total book sessions m r reply fits says

pub concerned : (total : ℕ) (book : List Series) (sessions : List OpenSession) (m : ℕ) (line : Line) (reply : Reply)
    → FitsSaid total book sessions (said_by line) reply
    → says_in m reply ≡ true → concerns m line ≡ true
concerned total book sessions m None reply fits says = refl
concerned total book sessions m (Some text) reply fits says = by_read total book sessions m (read_line text) reply fits says

-- ---- the next frame of the session

-- it answers a line behind those whose frames are the session's before it
record Next (m : ℕ) (old : State) (front : List Frame) (frame : Frame) : Type 0 where
  lines : List Line
  frames : List Frame
  mid : State
  replied : RepliesToAll old lines frames mid
  own : filter (names m) frames ≡ front
  sound : IsSound mid
  line : Line
  new : State
  next : Replied line frame mid new
  named : names m frame ≡ true

none_there : (front behind : List Frame) (frame : Frame) → [] ≡ front ++ frame ∷ behind → ⊥
none_there [] behind frame is = cc
none_there (g ∷ gs) behind frame is = cc

first_of : (f g : Frame) (fs gs : List Frame) → f ∷ fs ≡ g ∷ gs → f ≡ g
first_of f g fs gs is = cc

rest_of : (f g : Frame) (fs gs : List Frame) → f ∷ fs ≡ g ∷ gs → fs ≡ gs
rest_of f g fs gs is = cc

abbrev Own : ℕ → Bool → Frame → List Frame → List Frame
Own m b f fs = if b then f ∷ filter (names m) fs else filter (names m) fs

next_of : (m : ℕ) (lines : List Line) (frames : List Frame) (old new : State) → IsSound old → RepliesToAll old lines frames new
    → (front behind : List Frame) (frame : Frame) → filter (names m) frames ≡ front ++ frame ∷ behind → Next m old front frame
next_of m [] [] old new sound replied front behind frame is = absurd (none_there front behind frame is)
next_of m [] (f ∷ fs) old new sound replied front behind frame is = absurd replied
next_of m (l ∷ ls) [] old new sound replied front behind frame is = absurd replied
next_of m (l ∷ ls) (f ∷ fs) old new sound replied [] behind frame is =
    (elim (names m f) as (λ b. names m f ≡ b → Own m b f fs ≡ frame ∷ behind → Next m old [] frame) [
      | true ↦ λ named is'.
          let same = first_of f frame (filter (names m) fs) behind is' in
          let R : Frame → Type 0 = λ h. Replied l h old replied.0 in
          record {
            lines = [];
            frames = [];
            mid = old;
            replied = refl;
            own = refl;
            sound = sound;
            line = l;
            new = replied.0;
            next = subst R same replied.1;
            named = sym (ap (names m) same) ∙ named;
          }
      | false ↦ λ named is'.
          let x = next_of m ls fs replied.0 new replied.1.2 replied.2 [] behind frame is' in
          record {
            lines = l ∷ x.lines;
            frames = f ∷ x.frames;
            mid = x.mid;
            replied = (replied.0, replied.1, x.replied);
            own = ap (λ b. Own m b f x.frames) named ∙ x.own;
            sound = x.sound;
            line = x.line;
            new = x.new;
            next = x.next;
            named = x.named;
          }
    ]) refl is
next_of m (l ∷ ls) (f ∷ fs) old new sound replied (g ∷ gs) behind frame is =
    (elim (names m f) as (λ b. names m f ≡ b → Own m b f fs ≡ g ∷ (gs ++ frame ∷ behind) → Next m old (g ∷ gs) frame) [
      | true ↦ λ named is'.
          let same = first_of f g (filter (names m) fs) (gs ++ frame ∷ behind) is' in
          let x = next_of m ls fs replied.0 new replied.1.2 replied.2 gs behind frame
          (rest_of f g (filter (names m) fs) (gs ++ frame ∷ behind) is') in
          record {
            lines = l ∷ x.lines;
            frames = f ∷ x.frames;
            mid = x.mid;
            replied = (replied.0, replied.1, x.replied);
            own = ap (λ b. Own m b f x.frames) named ∙ ap (λ fs. f ∷ fs) x.own ∙ ap (λ h. h ∷ gs) same;
            sound = x.sound;
            line = x.line;
            new = x.new;
            next = x.next;
            named = x.named;
          }
      | false ↦ λ named is'.
          let x = next_of m ls fs replied.0 new replied.1.2 replied.2 (g ∷ gs) behind frame is' in
          record {
            lines = l ∷ x.lines;
            frames = f ∷ x.frames;
            mid = x.mid;
            replied = (replied.0, replied.1, x.replied);
            own = ap (λ b. Own m b f x.frames) named ∙ x.own;
            sound = x.sound;
            line = x.line;
            new = x.new;
            next = x.next;
            named = x.named;
          }
    ]) refl is

abbrev pub OwnAccepted : Type 0
OwnAccepted =
    (m : ℕ) (lines : List Line) (frames : List Frame) (old new : State)
    → IsSound old → only m old.sessions ≡ [] → RepliesToAll old lines frames new → NoneRejected (filter (names m) frames)

-- a frame of the session is no refusal
pub never_crowded : (m : ℕ) (line : Line) (frame : Frame) (b : Bool) → names m frame ≡ true → NeverCrowded (if b then frame ∷ [] else [])
never_crowded m line frame true named =
    All-cons (λ f. f ≢ refusal_frame TooManySessions) frame [] (λ is. not_both (names m frame) named (ap (names m) is))
    (All-nil (λ f. f ≢ refusal_frame TooManySessions))
never_crowded m line frame false named = All-nil (λ f. f ≢ refusal_frame TooManySessions)

pub own_accepted : OneReading → NeededKeysAreFew → SessionsStandAlone → OwnRepliesDrawTheBook → LinesAreAccepted → OwnAccepted
own_accepted either bound stands draws accepts m lines frames old new sound none replied front behind frame ds h e is taken rejects =
    let x = next_of m lines frames old new sound replied front behind frame is in
    let A : List Frame → Type 0 = λ fs. AcceptsAll [] fs ds h in
    let mirrors = (draws m x.lines x.frames ds old x.mid [] h sound x.replied (ap (λ ss. map mirrored ss) (sym none))
    (subst A (sym x.own) taken)).1 in
    let said = line_said either bound x.line x.mid x.new frame x.next.0 in
    let own = concerned x.mid.total x.mid.book (open_in x.mid) m x.line said.reply said.fits (sym (said.named m) ∙ x.named) in
    let never = never_crowded m x.line frame (concerns m x.line) x.named in
    let all = stands m (x.line ∷ []) (frame ∷ []) x.mid x.new (x.new, x.next, refl) never in
    let R : Bool → Type 0 = λ b. RepliesToAll (alone m x.mid) (if b then x.line ∷ [] else []) (if b then frame ∷ [] else [])
    (alone m x.new) in
    let here : RepliesToAll (alone m x.mid) (x.line ∷ []) (frame ∷ []) (alone m x.new) = subst R own all in
    accepts x.line frame (alone m x.mid) here.0 h (alone_sound m x.mid x.sound) here.1.0 mirrors e rejects
