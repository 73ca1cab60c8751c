-- Replies name sessions that are open.
use Rattle.std.proofs.Common.{◌≡◌, ℕ, Bool, true, false, ◌==◌, IsTrue, List, [], ◌∷◌, ◌++◌, Option, None, Some, refl, ap, sym, subst, inl}
use Rattle.std.proofs.Common.{inr, ◌∙◌}
use Rattle.std.specs.Prelude.{◌||◌, if◌then◌else◌}
use Rattle.std.proofs.lemmas.List.Folds.{list_any-append}
use Rattle.zoom_session.specs.declared.session.Session.{Session}
use Rattle.zoom_session.specs.Sessions.{is_open, session_of, fresh_session, viewed, AreSessions}
use Rattle.chart_frames.specs.declared.frame.Frame.{Frame}
use Rattle.chart_frames.specs.declared.frame.Frame.TheVariants.{Closed, View, Rows}
use Rattle.chart_frames.specs.Opened.{opens}
use Rattle.chart_service.specs.Naming.{NameOpen}
use Rattle.chart_service.specs.Opening.{OpensBy}
use Rattle.chart_service.specs.Serving.{RepliesToAll}
use Rattle.chart_service.specs.State.{State}
use Rattle.chart_service.specs.Viewing.{view_frame, rows_frame}
use Rattle.coefficient_cache.specs.Views.{to_send}
use Rattle.chart_service.proofs.Naming.{name_alike, names_open}
use Rattle.chart_service.proofs.Openings.{opens_viewed, opens_rows, opens_closed}
use Rattle.drawn_replies.proofs.Steps.{Step, IsQuiet, step-of}

or_false : (b : Bool) → (b || false) ≡ b
or_false true = refl
or_false false = refl

or_turned : (a b : Bool) → (a || b) ≡ (b || a)
or_turned true true = refl
or_turned true false = refl
or_turned false true = refl
or_turned false false = refl

open_after : (number size n : ℕ) (ss : List Session) → is_open n (ss ++ fresh_session number size ∷ []) ≡ (number == n || is_open n ss)
open_after number size n ss =
    list_any-append (λ s. s.number == n) ss (fresh_session number size ∷ [])
    ∙ or_turned (is_open n ss) (is_open n (fresh_session number size ∷ []))
    ∙ ap (λ b. b || is_open n ss) (or_false (number == n))

open_of : (n : ℕ) (ss : List Session) (s : Session) → session_of n ss ≡ Some s → IsTrue (is_open n ss)
open_of n [] s is = cc
open_of n (t ∷ ss) s is = (elim (t.number == n) as (λ (b : Bool). (if b then Some t else session_of n ss) ≡ Some s
    → IsTrue (b || is_open n ss)) [
      | true ↦ λ h. refl
      | false ↦ λ h. open_of n ss s h
    ]) is

quiet_opens : (frame : Frame) (ss ss' : List Session) → ss' ≡ ss → IsQuiet frame → OpensBy frame ss ss'
quiet_opens frame ss ss' same (inl q) =
    let P : Frame → Type 0 = λ f. OpensBy f ss ss' in
    subst P (sym q.3) (record { named = tt; after = λ n. ap (λ l. is_open n l) same })
quiet_opens frame ss ss' same (inr q) =
    let P : Frame → Type 0 = λ f. OpensBy f ss ss' in
    subst P (sym q.1) (record { named = tt; after = λ n. ap (λ l. is_open n l) same })

step_opens : (frame : Frame) (old new : State) → AreSessions old.sessions → Step frame old new → OpensBy frame old.sessions new.sessions
step_opens frame old new valid (inl q) = quiet_opens frame old.sessions new.sessions q.sessions q.quiet
step_opens frame old new valid (inr (inl o)) =
    let P : Frame → Type 0 = λ f. OpensBy f old.sessions new.sessions in
    subst P (sym o.is) (record { named = tt; after = λ n. ap (λ l. is_open n l) o.sessions ∙ open_after o.number o.size n old.sessions })
step_opens frame old new valid (inr (inr (inl c))) =
    let P : Frame → Type 0 = λ f. OpensBy f old.sessions new.sessions in
    let Q : List Session → Type 0 = λ l. OpensBy (Closed c.number) old.sessions l in
    subst P (sym c.is) (subst Q (sym c.sessions) (opens_closed c.number old.sessions valid (subst IsTrue (sym c.there) refl)))
step_opens frame old new valid (inr (inr (inr (inl v)))) =
    let a = v.answers in
    let view = view_frame v.number v.spec a.range v.series (to_send a.session.cache.pairs v.spec.series a.needed) in
    let P : Frame → Type 0 = λ f. OpensBy f old.sessions new.sessions in
    let Q : List Session → Type 0 = λ l. OpensBy (View view) old.sessions l in
    let sessions : new.sessions ≡ viewed v.number v.spec (Some a.needed) old.sessions = ap (λ s. s.sessions) a.state in
    subst P (sym a.frame_is) (subst Q (sym sessions)
    (opens_viewed v.number v.spec (Some a.needed) view old.sessions refl (open_of v.number old.sessions a.session a.open_is)))
step_opens frame old new valid (inr (inr (inr (inr r)))) =
    let a = r.answers in
    let rows = rows_frame r.number r.spec a.range a.rows in
    let P : Frame → Type 0 = λ f. OpensBy f old.sessions new.sessions in
    let Q : List Session → Type 0 = λ l. OpensBy (Rows rows) old.sessions l in
    let sessions : new.sessions ≡ viewed r.number r.spec None old.sessions = ap (λ s. s.sessions) a.state in
    subst P (sym a.frame_is) (subst Q (sym sessions)
    (opens_rows r.number r.spec None rows old.sessions refl (open_of r.number old.sessions a.session a.open_is)))

replies_name : (lines : List (Option (List ℕ))) (frames : List Frame) (old new : State) → AreSessions old.sessions
    → RepliesToAll old lines frames new → NameOpen (λ n. is_open n old.sessions) frames
replies_name [] [] old new valid all = tt
replies_name [] (f ∷ fs) old new valid all = absurd all
replies_name (l ∷ ls) [] old new valid all = absurd all
replies_name (l ∷ ls) (f ∷ fs) old new valid all =
    let o = step_opens f old all.0 valid (step-of l f old all.0 all.1.0) in (
      names_open f old.sessions o.named,
      name_alike fs (λ n. is_open n all.0.sessions) (λ n. opens f n (is_open n old.sessions)) o.after
          (replies_name ls fs all.0 new all.1.2.sessions all.2),
    )

pub replies_open : (lines : List (Option (List ℕ))) (frames : List Frame) (old new : State) → AreSessions old.sessions → old.sessions ≡ []
    → RepliesToAll old lines frames new → NameOpen (λ n. false) frames
replies_open lines frames old new valid none all =
    name_alike frames (λ n. is_open n old.sessions) (λ n. false) (λ n. ap (λ l. is_open n l) none)
    (replies_name lines frames old new valid all)
