-- Which series the last view of a session is of.
use Rattle.std.proofs.Common.{◌≡◌, ◌≢◌, ◌∙◌, ℕ, Bool, true, false, ◌==◌, if◌then◌else◌, List, [], ◌∷◌, ◌++◌, length, ◌≤◌, Option, None}
use Rattle.std.proofs.Common.{Some, Result, Ok, Err, IfOk, IsTrue, refl, sym, ap, subst, inl, inr}
use Rattle.std.specs.Prelude.{◌&&◌, not}
use Rattle.std.proofs.lemmas.Bool.{eqb-true, eqb-false}
use Rattle.chart_frames.specs.declared.frame.Frame.{Frame}
use Rattle.chart_frames.specs.declared.frame.Frame.TheVariants.{Done, Refused, Opened, Closed, View as ViewOf, Rows, Live, Report}
use Rattle.chart_frames.specs.declared.frame.RowsFrame.{RowsFrame}
use Rattle.chart_frames.specs.declared.frame.ViewFrame.{ViewFrame}
use Rattle.om3_coeff.specs.declared.coef.Coef.{Coef}
use Rattle.om3_coeff.specs.declared.key.Key.{Key}
use Rattle.request_lines.specs.Requests.{read_line}
use Rattle.request_lines.specs.declared.requests.Request.{Request}
use Rattle.request_lines.specs.declared.requests.Request.TheVariants.{Edit as EditRequest, Open, View as ViewRequest, Zoom, Pan, Close}
use Rattle.series_book.specs.declared.refusals.Refusal.{Refusal}
use Rattle.zoom_session.specs.Sessions.{is_open, session_of, last_of, viewed, fresh_session}
use Rattle.zoom_session.specs.declared.session.Session.{Session}
use Rattle.zoom_session.specs.declared.view_spec.ViewSpec.{ViewSpec}
use Rattle.chart_service.specs.EditGroups.{IsEditReply}
use Rattle.chart_service.specs.Kinds.{IsRefusal, KeepsSessions, MayClose, MayShow}
use Rattle.chart_service.specs.LastShown.{IsLastIn, LastShown, LastsBy, OfRows, OfRowsLine, OfRowsRead, ShownBy, TellsSeries}
use Rattle.chart_service.specs.Opening.{OpensBy}
use Rattle.chart_service.specs.Planning.{IsLastOf}
use Rattle.chart_service.specs.Replies.{Opens, line_text, refused}
use Rattle.chart_service.specs.Rooms.{OthersStay}
use Rattle.chart_service.specs.State.{State}
use Rattle.chart_service.specs.Stepping.{IsLastShown}
use Rattle.chart_service.specs.declared.failure.ServiceError.{ServiceError}
use Rattle.chart_service.proofs.Lasts.{nobody, somebody}
use Rattle.chart_service.proofs.RoomLemmas.{own_viewed}
use Rattle.chart_service.proofs.Sending.{text_is}

-- ---- frames that leave all sessions

same_last : (old new : List Session) → new ≡ old → (n id : ℕ) → IsLastIn new n id → IsLastIn old n id
same_last old new same n id is = let P : List Session → Type 0 = λ ss. IsLastIn ss n id in subst P same is

-- a refusal
pub lasts_refused : (IsOfRows : (ℕ → Type 0) → ℕ → Type 0) (frame : Frame) (refusal : Refusal) (old new : List Session)
    → frame ≡ refused refusal → new ≡ old → LastsBy IsOfRows frame old new
lasts_refused IsOfRows frame refusal old new is same =
    let P : Frame → Type 0 = λ f. LastsBy IsOfRows f old new in
    subst P (sym is) (λ n id last. same_last old new same n id last)

-- a reply to an edit
lasts_edit : (IsOfRows : (ℕ → Type 0) → ℕ → Type 0) (frame : Frame) (old new : List Session) → IsEditReply frame → new ≡ old
    → LastsBy IsOfRows frame old new
lasts_edit IsOfRows (Done slots) old new is same = λ n id last. same_last old new same n id last
lasts_edit IsOfRows (Refused number a b) old new is same = λ n id last. same_last old new same n id last
lasts_edit IsOfRows (Opened session cache) old new is same = absurd is
lasts_edit IsOfRows (Closed session) old new is same = absurd is
lasts_edit IsOfRows (ViewOf view) old new is same = absurd is
lasts_edit IsOfRows (Rows rows) old new is same = absurd is
lasts_edit IsOfRows (Live session on) old new is same = absurd is
lasts_edit IsOfRows (Report report) old new is same = absurd is

pub lasts_edited : {E : Type 0} (r : Result Frame E) (IsOfRows : (ℕ → Type 0) → ℕ → Type 0) (old new : List Session) → IfOk r IsEditReply
    → new ≡ old → IfOk r (λ frame. LastsBy IsOfRows frame old new)
lasts_edited (Ok frame) IsOfRows old new is same = lasts_edit IsOfRows frame old new is same
lasts_edited (Err e) IsOfRows old new is same = tt

-- ---- an answered view

last_at : (spec : ViewSpec) (o : Option Session) (s : Session) (id : ℕ) → o ≡ Some s → s.last ≡ Some spec → IsLastShown (last_of o) id
    → id ≡ spec.series
last_at spec o s id is last shown =
    let S : Option Session → Type 0 = λ x. IsLastShown (last_of x) id in
    let L : Option ViewSpec → Type 0 = λ x. IsLastShown x id in
    let same : spec.series ≡ id = subst L last (subst S is shown) in
    sym same

-- a session's last view is the one that it was answered
pub last_viewed : (number : ℕ) (spec : ViewSpec) (needed : Option (List (Key × Coef))) (old mid new : List Session)
    → IsTrue (is_open number old) → mid ≡ old → new ≡ viewed number spec needed mid → (id : ℕ) → IsLastIn new number id → id ≡ spec.series
last_viewed number spec needed old mid new there same is id shown =
    let one = somebody number old (open_true (is_open number old) there) in
    let so : new ≡ viewed number spec needed old = is ∙ ap (λ (ss : List Session). viewed number spec needed ss) same in
    last_at spec (session_of number new) _ id (ap (λ (ss : List Session). session_of number ss) so
    ∙ own_viewed number spec needed old one.0 one.1) refl shown
  where
    open_true : (b : Bool) → IsTrue b → b ≡ true
    open_true true is = refl
    open_true false is = cc (is)

tells_one : (number : ℕ) (One Other : ℕ → Type 0) (sessions : List Session) (frame : Frame) → ((id : ℕ) → One id → Other id)
    → TellsSeries number One sessions frame → TellsSeries number Other sessions frame
tells_one number One Other sessions (Done slots) more tells = tt
tells_one number One Other sessions (Refused code a b) more tells = tt
tells_one number One Other sessions (Opened session cache) more tells = tt
tells_one number One Other sessions (Closed session) more tells = tt
tells_one number One Other sessions (ViewOf view) more tells = tells
tells_one number One Other sessions (Rows rows) more tells = λ id last. more id (tells id last)
tells_one number One Other sessions (Live session on) more tells = tt
tells_one number One Other sessions (Report report) more tells = tt

-- the same of rows of more series
pub tells_more : {E : Type 0} (r : Result Frame E) (number : ℕ) (One Other : ℕ → Type 0) (sessions : List Session)
    → ((id : ℕ) → One id → Other id) → IfOk r (TellsSeries number One sessions) → IfOk r (TellsSeries number Other sessions)
tells_more (Ok frame) number One Other sessions more tells = tells_one number One Other sessions frame more tells
tells_more (Err e) number One Other sessions more tells = tt

-- the last view is of its own series
pub of_last : (number : ℕ) (sessions : List Session) (last : ViewSpec) → IsLastOf (session_of number sessions) (Ok last) → (id : ℕ)
    → id ≡ last.series → IsLastIn sessions number id
of_last number sessions last is id same = at (session_of number sessions) is
  where
    in_view : (o : Option ViewSpec) (s : Session) → s.last ≡ o → IsLastOf (Some s) (Ok last) → IsLastShown o id
    in_view None s has is = let P : Option ViewSpec → Type 0 = λ l. IsLastOf (Some (record s { last = l })) (Ok last) in
        absurd (subst P has is)
    in_view (Some spec) s has is = let P : Option ViewSpec → Type 0 = λ l. IsLastOf (Some (record s { last = l })) (Ok last) in
        let own : last ≡ spec = subst P has is in sym (same ∙ ap (λ (v : ViewSpec). v.series) own)

    at : (o : Option Session) → IsLastOf o (Ok last) → IsLastShown (last_of o) id
    at None is = absurd is
    at (Some s) is = in_view s.last s refl is

view_last : (view : ViewFrame) (number : ℕ) (IsOfRows : (ℕ → Type 0) → ℕ → Type 0) (old new : List Session) → view.session ≡ number
    → OthersStay number old new → TellsSeries number (IsOfRows (IsLastIn old number)) new (ViewOf view)
    → (n id : ℕ) → (test : Bool) → (n == number) ≡ test → IsLastIn new n id
    → ShownBy (IsOfRows (IsLastIn old n)) (ViewOf view) n (IsLastIn old n) id
view_last view number IsOfRows old new is others tells n id true e last =
    let same : n ≡ number = eqb-true n number e in
    let L : ℕ → Type 0 = λ k. IsLastIn new k id in
    inl (is ∙ sym same, tells id (subst L same last))
view_last view number IsOfRows old new is others tells n id false e last =
    let apart : n ≢ number = eqb-false n number e in
    let S : Option Session → Type 0 = λ o. IsLastShown (last_of o) id in
    inr (λ here. apart (sym here ∙ is), subst S (others n apart) last)

rows_last : (rows : RowsFrame) (number : ℕ) (IsOfRows : (ℕ → Type 0) → ℕ → Type 0) (old new : List Session) → rows.session ≡ number
    → OthersStay number old new → TellsSeries number (IsOfRows (IsLastIn old number)) new (Rows rows)
    → (n id : ℕ) → (test : Bool) → (n == number) ≡ test → IsLastIn new n id
    → ShownBy (IsOfRows (IsLastIn old n)) (Rows rows) n (IsLastIn old n) id
rows_last rows number IsOfRows old new is others tells n id true e last =
    let same : n ≡ number = eqb-true n number e in
    let L : ℕ → Type 0 = λ k. IsLastIn new k id in
    let R : ℕ → Type 0 = λ k. IsOfRows (IsLastIn old k) id in
    inl (is ∙ sym same, subst R (sym same) (tells id (subst L same last)))
rows_last rows number IsOfRows old new is others tells n id false e last =
    let apart : n ≢ number = eqb-false n number e in
    let S : Option Session → Type 0 = λ o. IsLastShown (last_of o) id in
    inr (λ here. apart (sym here ∙ is), subst S (others n apart) last)

shown_one : (number : ℕ) (IsOfRows : (ℕ → Type 0) → ℕ → Type 0) (frame : Frame) (old new : List Session) → MayShow number frame
    → OthersStay number old new → (IsRefusal frame → new ≡ old)
    → TellsSeries number (IsOfRows (IsLastIn old number)) new frame → LastsBy IsOfRows frame old new
shown_one number IsOfRows (Done slots) old new may others kept tells = absurd may
shown_one number IsOfRows (Refused code a b) old new may others kept tells = λ n id last. same_last old new (kept tt) n id last
shown_one number IsOfRows (Opened session cache) old new may others kept tells = absurd may
shown_one number IsOfRows (Closed session) old new may others kept tells = absurd may
shown_one number IsOfRows (ViewOf view) old new may others kept tells = λ n id last.
    view_last view number IsOfRows old new may others tells n id (n == number) refl last
shown_one number IsOfRows (Rows rows) old new may others kept tells = λ n id last.
    rows_last rows number IsOfRows old new may others tells n id (n == number) refl last
shown_one number IsOfRows (Live session on) old new may others kept tells = absurd may
shown_one number IsOfRows (Report report) old new may others kept tells = absurd may

-- a reply to a view in a session
pub lasts_shown : (r : Result Frame ServiceError) (number : ℕ) (IsOfRows : (ℕ → Type 0) → ℕ → Type 0) (old new : List Session)
    → IfOk r (MayShow number) → OthersStay number old new → KeepsSessions r old new
    → IfOk r (TellsSeries number (IsOfRows (IsLastIn old number)) new) → IfOk r (λ frame. LastsBy IsOfRows frame old new)
lasts_shown (Ok frame) number IsOfRows old new may others kept tells = shown_one number IsOfRows frame old new may others kept tells
lasts_shown (Err e) number IsOfRows old new may others kept tells = tt

-- ---- an opened session, and a closed one

fresh_at : (n id : ℕ) (s : Session) (here : Bool) → s.last ≡ None → IsLastShown (last_of (if here then Some s else None)) id → ⊥
fresh_at n id s true none last = let L : Option ViewSpec → Type 0 = λ o. IsLastShown o id in subst L none last
fresh_at n id s false none last = last

opened_last : (n id : ℕ) (ss : List Session) (s : Session) → s.last ≡ None → IsLastIn (ss ++ s ∷ []) n id → IsLastIn ss n id
opened_last n id [] s none last = absurd (fresh_at n id s (s.number == n) none last)
opened_last n id (x ∷ xs) s none last = (elim (x.number == n) as
    (λ b. IsLastShown (last_of (if b then Some x else session_of n (xs ++ s ∷ []))) id
    → IsLastShown (last_of (if b then Some x else session_of n xs)) id) [
      | true ↦ λ h. h
      | false ↦ λ h. opened_last n id xs s none h
    ]) last

opens_last : (o : Option Refusal) (number cache : ℕ) (IsOfRows : (ℕ → Type 0) → ℕ → Type 0) (frame : Frame) (old new : State)
    → Opens o number cache frame old new → LastsBy IsOfRows frame old.sessions new.sessions
opens_last (Some refusal) number cache IsOfRows frame old new is =
    lasts_refused IsOfRows frame refusal old.sessions new.sessions is.reply (ap (λ (s : State). s.sessions) is.state)
opens_last None number cache IsOfRows frame old new is =
    let P : Frame → Type 0 = λ f. LastsBy IsOfRows f old.sessions new.sessions in
    subst P (sym is.0) (λ n id last. opened_last n id old.sessions (fresh_session number cache) refl
    (same_last (old.sessions ++ fresh_session number cache ∷ []) new.sessions (ap (λ (s : State). s.sessions) is.1) n id last))

pub lasts_opened : {E : Type 0} (r : Result Frame E) (o : Option Refusal) (number cache : ℕ) (IsOfRows : (ℕ → Type 0) → ℕ
    → Type 0) (old new : State) → IfOk r (λ frame. Opens o number cache frame old new)
    → IfOk r (λ frame. LastsBy IsOfRows frame old.sessions new.sessions)
lasts_opened (Ok frame) o number cache IsOfRows old new is = opens_last o number cache IsOfRows frame old new is
lasts_opened (Err e) o number cache IsOfRows old new is = tt

closed_none : (k : ℕ) (was : Bool) (now : Bool) (test : Bool) → (k == k) ≡ test → now ≡ (not test && was) → now ≡ false
closed_none k was now true e is = is
closed_none k was now false e is = absurd (eqb-false k k e refl)

pub lasts_closed : (number : ℕ) (IsOfRows : (ℕ → Type 0) → ℕ → Type 0) (frame : Frame) (old new : List Session) → MayClose number frame
    → OthersStay number old new → OpensBy frame old new → (IsRefusal frame → new ≡ old) → LastsBy IsOfRows frame old new
lasts_closed number IsOfRows (Done slots) old new may others opens kept = absurd may
lasts_closed number IsOfRows (Refused code a b) old new may others opens kept = λ n id last. same_last old new (kept tt) n id last
lasts_closed number IsOfRows (Opened session cache) old new may others opens kept = absurd may
lasts_closed number IsOfRows (Closed session) old new may others opens kept = λ n id last.
    let S : Option Session → Type 0 = λ o. IsLastShown (last_of o) id in
    let none : is_open session new ≡ false = closed_none session (is_open session old) (is_open session new) (session == session) refl
    (opens.after session) in
    let apart : session ≢ n = λ here. let L : ℕ → Type 0 = λ k. IsLastIn new k id in
    subst S (nobody session new none) (subst L (sym here) last) in
    (apart, subst S (others n (λ here. apart (may ∙ sym here))) last)
lasts_closed number IsOfRows (ViewOf view) old new may others opens kept = absurd may
lasts_closed number IsOfRows (Rows rows) old new may others opens kept = absurd may
lasts_closed number IsOfRows (Live session on) old new may others opens kept = absurd may
lasts_closed number IsOfRows (Report report) old new may others opens kept = absurd may

-- ---- lines

pub lasts_line : {E : Type 0} (r : Result Frame E) (line : List ℕ) (request : Request) (old new : List Session) → length line ≤ 8192
    → read_line line ≡ Ok request → IfOk r (λ frame. LastsBy (OfRows request) frame old new)
    → IfOk r (λ frame. LastsBy (OfRowsLine (line_text line)) frame old new)
lasts_line r line request old new short is lasts =
    let L : Option (List ℕ) → Type 0 = λ o. IfOk r (λ frame. LastsBy (OfRowsLine o) frame old new) in
    let R : Result Request ℕ → Type 0 = λ x. IfOk r (λ frame. LastsBy (OfRowsRead x) frame old new) in
    subst L (sym (text_is line short)) (subst R (sym is) lasts)

-- ---- more series

rows_more : (request : Request) (one other : ℕ → Type 0) → ((id : ℕ) → one id → other id) → (id : ℕ) → OfRows request one id
    → OfRows request other id
rows_more (EditRequest edit) one other more id is = more id is
rows_more (Open number cache) one other more id is = more id is
rows_more (ViewRequest number name w h t0 t1 word text) one other more id is = tt
rows_more (Zoom number t0 t1) one other more id is = more id is
rows_more (Pan number by) one other more id is = more id is
rows_more (Close number) one other more id is = more id is

read_more : (read : Result Request ℕ) (one other : ℕ → Type 0) → ((id : ℕ) → one id → other id) → (id : ℕ) → OfRowsRead read one id
    → OfRowsRead read other id
read_more (Err at) one other more id is = more id is
read_more (Ok request) one other more id is = rows_more request one other more id is

line_more : (line : Option (List ℕ)) (one other : ℕ → Type 0) → ((id : ℕ) → one id → other id) → (id : ℕ) → OfRowsLine line one id
    → OfRowsLine line other id
line_more None one other more id is = more id is
line_more (Some text) one other more id is = read_more (read_line text) one other more id is

pub shown_more : (frame : Frame) (n id : ℕ) (Rows_one Rows_other one other : ℕ → Type 0) → ((i : ℕ) → Rows_one i → Rows_other i)
    → ((i : ℕ) → one i → other i) → ShownBy Rows_one frame n one id → ShownBy Rows_other frame n other id
shown_more (Done slots) n id Rows_one Rows_other one other rows more is = more id is
shown_more (Refused number a b) n id Rows_one Rows_other one other rows more is = more id is
shown_more (Opened session cache) n id Rows_one Rows_other one other rows more is = more id is
shown_more (Closed session) n id Rows_one Rows_other one other rows more is = (is.0, more id is.1)
shown_more (ViewOf view) n id Rows_one Rows_other one other rows more is = elim is
    [ inl here ↦ inl here | inr there ↦ inr (there.0, more id there.1) ]
shown_more (Rows frame) n id Rows_one Rows_other one other rows more is = elim is
    [ inl here ↦ inl (here.0, rows id here.1) | inr there ↦ inr (there.0, more id there.1) ]
shown_more (Live session on) n id Rows_one Rows_other one other rows more is = more id is
shown_more (Report report) n id Rows_one Rows_other one other rows more is = more id is

pub last_more : (lines : List (Option (List ℕ))) (frames : List Frame) (one other : ℕ → ℕ → Type 0) → ((n id : ℕ) → one n id → other n id)
    → (n id : ℕ) → LastShown one lines frames n id → LastShown other lines frames n id
last_more [] frames one other more n id is = more n id is
last_more (line ∷ lines) [] one other more n id is = more n id is
last_more (line ∷ lines) (frame ∷ frames) one other more n id is =
    last_more lines frames (λ m i. ShownBy (OfRowsLine line (one m)) frame m (one m) i)
    (λ m i. ShownBy (OfRowsLine line (other m)) frame m (other m) i)
    (λ m i. shown_more frame m i (OfRowsLine line (one m)) (OfRowsLine line (other m)) (one m) (other m)
    (λ k. line_more line (one m) (other m) (more m) k) (more m)) n id is
