-- What is known of the sessions that are open stays so as frames are replied.
use Rattle.std.proofs.Common.{◌≡◌, ℕ, Bool, true, false, List, IsTrue, Option, Ok, refl, ap, sym, subst, ◌∙◌}
use Rattle.std.specs.Prelude.{◌==◌, ◌&&◌, ◌||◌, not}
use Rattle.chart_frames.specs.declared.frame.Frame.{Frame}
use Rattle.chart_frames.specs.declared.frame.Frame.TheVariants.{Done, Refused, Opened, Closed, View, Rows, Live, Report}
use Rattle.chart_frames.specs.Frames.{Fits}
use Rattle.chart_frames.specs.Opened.{opens}
use Rattle.series_book.specs.declared.refusals.Refusal.{Refusal}
use Rattle.zoom_session.specs.declared.session.Session.{Session}
use Rattle.zoom_session.specs.Sessions.{is_open}
use Rattle.chart_service.specs.EditGroups.{IsEditReply}
use Rattle.chart_service.specs.Knowing.{Follows, KnowsOpen, NamesKnown, EndsKnown}
use Rattle.chart_service.specs.Making.{Makes, FrameStops}
use Rattle.chart_service.specs.Opening.{NamesOpen}
use Rattle.chart_service.specs.Replies.{refused}
use Rattle.chart_service.specs.declared.failure.AnswerEnd.{AnswerEnd}
use Rattle.chart_service.specs.declared.failure.AnswerEnd.TheVariants.{Serve, Reply}

-- what opens where it was open opens where it was known
opens_more : (frame : Frame) (n : ℕ) (was known : Bool) → (IsTrue was → IsTrue known) → IsTrue (opens frame n was)
    → IsTrue (opens frame n known)
opens_more (Done slots) n was known more is = more is
opens_more (Refused number a b) n was known more is = more is
opens_more (Opened session cache) n was known more is =
    elim (session == n) as (λ (b : Bool). IsTrue (b || was) → IsTrue (b || known)) [ true ↦ λ t. t | false ↦ more ] is
opens_more (Closed session) n was known more is =
    elim (session == n) as (λ (b : Bool). IsTrue (not b && was) → IsTrue (not b && known)) [ true ↦ λ t. t | false ↦ more ] is
opens_more (View view) n was known more is = more is
opens_more (Rows rows) n was known more is = more is
opens_more (Live session on) n was known more is = more is
opens_more (Report report) n was known more is = more is

-- behind a frame that was shown
pub known_next : {S F : Type 0} (makes : Makes S F) (knows : S → ℕ → Bool) (old new : S) (frame : Frame) (sessions sessions' : List Session)
    → Follows makes knows → Fits frame → KnowsOpen knows old sessions → ((n : ℕ) → is_open n sessions' ≡ opens frame n (is_open n sessions))
    → (piece : List ℕ) → makes old frame (Ok piece) new → KnowsOpen knows new sessions'
known_next makes knows old new frame sessions sessions' follows fits known after piece given = λ n is.
    follows old new frame piece n fits given (opens_more frame n (is_open n sessions) (knows old n) (known n) (subst IsTrue (after n) is))

pub named_known : {S : Type 0} (knows : S → ℕ → Bool) (old : S) (frame : Frame) (sessions : List Session) → KnowsOpen knows old sessions
    → NamesOpen frame sessions → NamesKnown frame (knows old)
named_known knows old (Done slots) sessions known named = tt
named_known knows old (Refused number a b) sessions known named = tt
named_known knows old (Opened session cache) sessions known named = tt
named_known knows old (Closed session) sessions known named = known session named
named_known knows old (View view) sessions known named = known view.session named
named_known knows old (Rows rows) sessions known named = known rows.session named
named_known knows old (Live session on) sessions known named = known session named
named_known knows old (Report report) sessions known named = tt

-- a frame that wasn't shown
pub ends_known : {S F : Type 0} (makes : Makes S F) (knows : S → ℕ
    → Bool) (old new : S) (frame : Frame) (before now : Option (List ℕ)) (end : AnswerEnd F) → Fits frame → NamesKnown frame (knows old)
    → FrameStops makes frame old new before now end → EndsKnown makes knows end
ends_known makes knows old new frame before now (Serve end) fits named why = tt
ends_known makes knows old new frame before now (Reply e) fits named why = (old, frame, new, fits, named, why.1)

-- the sessions as they were
pub known_kept : {S : Type 0} (knows : S → ℕ → Bool) (kept : S) (sessions sessions' : List Session) → sessions' ≡ sessions
    → KnowsOpen knows kept sessions → KnowsOpen knows kept sessions'
known_kept {S} knows kept sessions sessions' same known = let P : List Session → Type 0 = λ s. KnowsOpen knows kept s in
    subst P (sym same) known

pub same_opens : (sessions sessions' sessions'' : List Session) (frame : Frame) → sessions'' ≡ sessions'
    → ((n : ℕ) → is_open n sessions' ≡ opens frame n (is_open n sessions)) → (n : ℕ)
    → is_open n sessions'' ≡ opens frame n (is_open n sessions)
same_opens sessions sessions' sessions'' frame same after n = ap (λ s. is_open n s) same ∙ after n

-- what tells of an edit opens and closes no session
pub edit_opens : (frame : Frame) (sessions sessions' : List Session) → IsEditReply frame → sessions' ≡ sessions → (n : ℕ)
    → is_open n sessions' ≡ opens frame n (is_open n sessions)
edit_opens (Done slots) sessions sessions' is same n = ap (λ s. is_open n s) same
edit_opens (Refused number a b) sessions sessions' is same n = ap (λ s. is_open n s) same
edit_opens (Opened session cache) sessions sessions' is same n = absurd is
edit_opens (Closed session) sessions sessions' is same n = absurd is
edit_opens (View view) sessions sessions' is same n = absurd is
edit_opens (Rows rows) sessions sessions' is same n = absurd is
edit_opens (Live session on) sessions sessions' is same n = absurd is
edit_opens (Report report) sessions sessions' is same n = absurd is

-- a refusal opens and closes no session, and names none
pub refused_opens : (frame : Frame) (refusal : Refusal) → frame ≡ refused refusal → (sessions : List Session) (n : ℕ)
    → is_open n sessions ≡ opens frame n (is_open n sessions)
refused_opens frame refusal is sessions n = let P : Frame → Type 0 = λ f. is_open n sessions ≡ opens f n (is_open n sessions) in
    subst P (sym is) refl

pub refused_names : (frame : Frame) (refusal : Refusal) → frame ≡ refused refusal → (knows : ℕ → Bool) → NamesKnown frame knows
refused_names frame refusal is knows = let P : Frame → Type 0 = λ f. NamesKnown f knows in subst P (sym is) tt
