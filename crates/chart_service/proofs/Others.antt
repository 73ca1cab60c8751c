-- The sessions of other numbers, behind an answered view and where a session is closed.
use Rattle.std.proofs.Common.{◌≡◌, ◌≢◌, ℕ, Bool, true, false, ◌==◌, if◌then◌else◌, List, [], ◌∷◌, Option, Some, Result, Ok, Err, refl, sym}
use Rattle.std.proofs.Common.{ap, ◌∙◌}
use Rattle.std.specs.Prelude.{OnOk, ◌||◌}
use Rattle.std.proofs.lemmas.Bool.{eqb-true, ne_eqb}
use Rattle.om3_coeff.specs.declared.key.Key.{Key}
use Rattle.om3_coeff.specs.declared.coef.Coef.{Coef}
use Rattle.zoom_session.specs.declared.session.Session.{Session}
use Rattle.zoom_session.specs.declared.view_spec.ViewSpec.{ViewSpec}
use Rattle.zoom_session.specs.Sessions.{is_open, session_of, without, viewed, after_view}
use Rattle.chart_service.specs.Opening.{StaysIn}

-- a session of this number isn't one of another
not_other : (n number : ℕ) (s : Session) → n ≢ number → (s.number == number) ≡ true → (s.number == n) ≡ false
not_other n number s apart is = ne_eqb s.number n (λ e. apart (sym e ∙ eqb-true s.number number is))

viewed_at : (n number : ℕ) (spec : ViewSpec) (needed : Option (List (Key × Coef))) (s : Session) (ss : List Session) → n ≢ number
    → session_of n (viewed number spec needed ss) ≡ session_of n ss → (here : Bool) → (s.number == number) ≡ here
    → session_of n (if here then after_view spec needed s ∷ ss else s ∷ viewed number spec needed ss) ≡ session_of n (s ∷ ss)
viewed_at n number spec needed s ss apart later true is =
    let other = not_other n number s apart is in
    ap (λ b. if b then Some (after_view spec needed s) else session_of n ss) other
    ∙ sym (ap (λ b. if b then Some s else session_of n ss) other)
viewed_at n number spec needed s ss apart later false is = ap (λ o. if s.number == n then Some s else o) later

pub viewed_others : (n number : ℕ) (spec : ViewSpec) (needed : Option (List (Key × Coef))) (ss : List Session) → n ≢ number
    → session_of n (viewed number spec needed ss) ≡ session_of n ss
viewed_others n number spec needed [] apart = refl
viewed_others n number spec needed (s ∷ ss) apart =
    viewed_at n number spec needed s ss apart (viewed_others n number spec needed ss apart) (s.number == number) refl

without_at : (n number : ℕ) (s : Session) (ss : List Session) → n ≢ number → session_of n (without number ss) ≡ session_of n ss
    → (here : Bool) → (s.number == number) ≡ here
    → session_of n (if here then ss else s ∷ without number ss) ≡ session_of n (s ∷ ss)
without_at n number s ss apart later true is = sym (ap (λ b. if b then Some s else session_of n ss) (not_other n number s apart is))
without_at n number s ss apart later false is = ap (λ o. if s.number == n then Some s else o) later

pub without_others : (n number : ℕ) (ss : List Session) → n ≢ number → session_of n (without number ss) ≡ session_of n ss
without_others n number [] apart = refl
without_others n number (s ∷ ss) apart = without_at n number s ss apart (without_others n number ss apart) (s.number == number) refl

viewed_open_at : (n number : ℕ) (spec : ViewSpec) (needed : Option (List (Key × Coef))) (s : Session) (ss : List Session)
    → is_open n (viewed number spec needed ss) ≡ is_open n ss → (here : Bool)
    → is_open n (if here then after_view spec needed s ∷ ss else s ∷ viewed number spec needed ss) ≡ is_open n (s ∷ ss)
viewed_open_at n number spec needed s ss later true = refl
viewed_open_at n number spec needed s ss later false = ap (λ b. s.number == n || b) later

viewed_open : (n number : ℕ) (spec : ViewSpec) (needed : Option (List (Key × Coef))) (ss : List Session)
    → is_open n (viewed number spec needed ss) ≡ is_open n ss
viewed_open n number spec needed [] = refl
viewed_open n number spec needed (s ∷ ss) = viewed_open_at n number spec needed s ss (viewed_open n number spec needed ss)
    (s.number == number)

if_ok : {T E : Type 0} (r : Result T E) (P : Type 0) → P → OnOk r P
if_ok (Ok t) P is = is
if_ok (Err e) P is = tt

-- all sessions are as they were
pub stays_same : {T E : Type 0} (number : ℕ) (result : Result T E) (old new : List Session) → new ≡ old → StaysIn number result old new
stays_same number result old new same = record {
  others = λ n apart. ap (λ ss. session_of n ss) same;
  alike = if_ok result _ (λ n. ap (λ ss. is_open n ss) same);
}

-- a view was answered
pub stays_viewed : {T E : Type 0} (number : ℕ) (result : Result T E) (spec : ViewSpec) (needed : Option (List (Key × Coef)))
    (old mid new : List Session) → new ≡ viewed number spec needed mid → mid ≡ old → StaysIn number result old new
stays_viewed number result spec needed old mid new done same = record {
  others = λ n apart. ap (λ ss. session_of n ss) done ∙ viewed_others n number spec needed mid apart ∙ ap (λ ss. session_of n ss) same;
  alike = if_ok result _ (λ n. ap (λ ss. is_open n ss) done ∙ viewed_open n number spec needed mid ∙ ap (λ ss. is_open n ss) same);
}

-- it failed, and its session was closed
pub stays_closed : {T E : Type 0} (number : ℕ) (error : E) (old mid new : List Session) → new ≡ without number mid → mid ≡ old
    → StaysIn {T = T} number (Err error) old new
stays_closed number error old mid new closed same = record {
  others = λ n apart. ap (λ ss. session_of n ss) closed ∙ without_others n number mid apart ∙ ap (λ ss. session_of n ss) same;
  alike = tt;
}
