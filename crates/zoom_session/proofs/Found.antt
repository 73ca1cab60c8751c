-- The session of a number, by the place at which it stands.
use Rattle.std.proofs.Common.{◌≡◌, ℕ, zero, suc, ◌<◌, ◌≤◌, Bool, true, false, ◌==◌, if◌then◌else◌, List, [], ◌∷◌, length, get_or, Option}
use Rattle.std.proofs.Common.{None, Some, refl, ap, sym, ◌∙◌, inl, inr, arith}
use Rattle.std.specs.Prelude.{position, cond, slice_set, ◌||◌, IfSome, IfNone}
use Rattle.std.specs.List.{remove, position_or_len}
use Rattle.std.proofs.lemmas.Bool.{cases_lt, lt-ltb}
use Rattle.std.proofs.lemmas.List.Folds.{list_any_none}
use Rattle.std.proofs.lemmas.List.Sums.{fails_before_first}
use Rattle.std.proofs.lemmas.List.Quantifiers.{position-Some}
use Rattle.om3_coeff.specs.declared.key.Key.{Key}
use Rattle.om3_coeff.specs.declared.coef.Coef.{Coef}
use Rattle.zoom_session.specs.declared.session.Session.{Session}
use Rattle.zoom_session.specs.declared.view_spec.ViewSpec.{ViewSpec}
use Rattle.zoom_session.specs.Sessions.{is_open, session_of, fresh_session, without, viewed, after_view}
use Rattle.zoom_session.specs.Places.{IsPlaceOf, IsClosed}

abbrev pub is_numbered : ℕ → Session → Bool
is_numbered number s = s.number == number

-- the sessions have this number first at this place
pub record StandsAt (number : ℕ) (ss : List Session) (i : ℕ) : Type 0 where
  pub inside : i < length ss
  pub here : (d : Session) → is_numbered number (get_or ss i d) ≡ true
  pub none_before : (k : ℕ) (d : Session) → k < i → is_numbered number (get_or ss k d) ≡ false

pub stands_at : (number : ℕ) (ss : List Session) (i : ℕ) (s : Session) → position (is_numbered number) ss ≡ Some i → StandsAt number ss i
stands_at number ss i s found = record {
  inside = (position-Some (is_numbered number) ss i s found).0;
  here = λ d. (position-Some (is_numbered number) ss i d found).1;
  none_before = λ k d before. (position-Some (is_numbered number) ss i d found).2 k before;
}

behind : (number : ℕ) (s : Session) (ss : List Session) (i : ℕ) → StandsAt number (s ∷ ss) (suc i) → StandsAt number ss i
behind number s ss i at = record {
  inside = let inside = at.inside in omega arith;
  here = at.here;
  none_before = λ k d before. at.none_before (suc k) d (omega (arith, before));
}

-- the session of the number is the one at this place
pub session_at : (number : ℕ) (ss : List Session) (i : ℕ) (d : Session) → StandsAt number ss i → session_of number ss ≡ Some (get_or ss i d)
session_at number [] i d at = let inside = at.inside in absurd (omega arith)
session_at number (s ∷ ss) zero d at = ap (λ b. if b then Some s else session_of number ss) (at.here d)
session_at number (s ∷ ss) (suc i) d at =
    ap (λ b. if b then Some s else session_of number ss) (at.none_before 0 d (omega arith))
    ∙ session_at number ss i d (behind number s ss i at)

-- without it
pub without_at : (number : ℕ) (ss : List Session) (i : ℕ) (d : Session) → StandsAt number ss i → without number ss ≡ remove ss i
without_at number [] i d at = let inside = at.inside in absurd (omega arith)
without_at number (s ∷ ss) zero d at = ap (λ b. if b then ss else s ∷ without number ss) (at.here d)
without_at number (s ∷ ss) (suc i) d at =
    ap (λ b. if b then ss else s ∷ without number ss) (at.none_before 0 d (omega arith))
    ∙ ap (λ l. s ∷ l) (without_at number ss i d (behind number s ss i at))

-- after a view of it
pub viewed_at : (number : ℕ) (spec : ViewSpec) (needed : Option (List (Key × Coef))) (ss : List Session) (i : ℕ) (d : Session)
    → StandsAt number ss i → viewed number spec needed ss ≡ slice_set ss i (after_view spec needed (get_or ss i d))
viewed_at number spec needed [] i d at = let inside = at.inside in absurd (omega arith)
viewed_at number spec needed (s ∷ ss) zero d at = ap (λ b. if b then after_view spec needed s ∷ ss
    else s ∷ viewed number spec needed ss) (at.here d)
viewed_at number spec needed (s ∷ ss) (suc i) d at =
    ap (λ b. if b then after_view spec needed s ∷ ss else s ∷ viewed number spec needed ss) (at.none_before 0 d (omega arith))
    ∙ ap (λ l. s ∷ l) (viewed_at number spec needed ss i d (behind number s ss i at))

-- it is open
pub open_at : (number : ℕ) (ss : List Session) (i : ℕ) (d : Session) → StandsAt number ss i → is_open number ss ≡ true
open_at number [] i d at = let inside = at.inside in absurd (omega arith)
open_at number (s ∷ ss) zero d at = ap (λ b. b || is_open number ss) (at.here d)
open_at number (s ∷ ss) (suc i) d at =
    ap (λ b. b || is_open number ss) (at.none_before 0 d (omega arith)) ∙ open_at number ss i d (behind number s ss i at)

beyond : (p : Session → Bool) (ss : List Session) → position p ss ≡ None → length ss ≤ position_or_len p ss
beyond p ss none = elim (cases_lt (position_or_len p ss) (length ss)) [
  | inl below ↦
      let there : position p ss ≡ Some (position_or_len p ss) = ap (λ b. cond b (Some (position_or_len p ss)) None)
      (lt-ltb (position_or_len p ss) (length ss) below) in
      let clash : Some (position_or_len p ss) ≡ None = sym there ∙ none in
      cc
  | inr past ↦ past
]

-- where no place is found, no session has the number
pub none_open : (number : ℕ) (ss : List Session) → position (is_numbered number) ss ≡ None → is_open number ss ≡ false
none_open number ss none =
    let past = beyond (is_numbered number) ss none in
    list_any_none (is_numbered number) ss (λ k d below. fails_before_first (is_numbered number) ss k d (omega (arith, past, below)))

pub none_of : (number : ℕ) (ss : List Session) → is_open number ss ≡ false → session_of number ss ≡ None
none_of number [] none = refl
none_of number (s ∷ ss) none = (elim (is_numbered number s) as (λ b. (b || is_open number ss) ≡ false
    → (if b then Some s else session_of number ss) ≡ None) [
      | true ↦ λ h. cc
      | false ↦ λ h. none_of number ss h
    ]) none

pub place_so : (number : ℕ) (ss : List Session) (o : Option ℕ) → o ≡ position (is_numbered number) ss → IfSome o (IsPlaceOf number ss)
place_so number ss None same = tt
place_so number ss (Some i) same =
    let at = stands_at number ss i (fresh_session number 0) (sym same) in
    record {
      inside = at.inside;
      opened = open_at number ss i (fresh_session number 0) at;
      session = λ e. session_at number ss i e at;
      removed = without_at number ss i (fresh_session number 0) at;
      changed = λ spec needed e. viewed_at number spec needed ss i e at;
    }

pub closed_so : (number : ℕ) (ss : List Session) (o : Option ℕ) → o ≡ position (is_numbered number) ss → IfNone o (IsClosed number ss)
closed_so number ss (Some i) same = tt
closed_so number ss None same = record {
  opened = none_open number ss (sym same);
  session = none_of number ss (none_open number ss (sym same));
}
