-- What holds of the open sessions goes on to hold.
use Rattle.std.proofs.Common.{◌≡◌, ◌≢◌, ℕ, zero, suc, ◌<◌, Bool, true, false, List, [], ◌∷◌, ◌++◌, length, get_or, take, drop, None, Some}
use Rattle.std.proofs.Common.{refl, ap, sym, ◌∙◌, subst, arith, length-append}
use Rattle.std.specs.Prelude.{All, slice_set, ◌||◌, nat_le, nat_lt, if◌then◌else◌}
use Rattle.std.specs.List.{remove}
use Rattle.std.proofs.lemmas.Bool.{eq-eqb, leb-false, ltb-false}
use Rattle.std.proofs.lemmas.List.Elements.{All-push, All-append, All-take, All-drop}
use Rattle.std.proofs.lemmas.List.Edits.{length-remove}
use Rattle.std.proofs.lemmas.List.Quantifiers.{all_pairs_push, all_pairs_remove}
use Rattle.coefficient_cache.specs.Caches.{IsCapacity}
use Rattle.series_book.specs.declared.refusals.Refusal.TheVariants.{SessionOpen, TooManySessions, BadCache}
use Rattle.zoom_session.specs.declared.session.Session.{Session}
use Rattle.zoom_session.specs.Sessions.{is_open, open_refusal, fresh_session, most_sessions, AreSessions}
use Rattle.zoom_session.proofs.Found.{is_numbered}

-- a number that isn't open is no session's
other_number : (number : ℕ) (ss : List Session) → is_open number ss ≡ false → (k : ℕ) (d : Session) → k < length ss
    → (get_or ss k d).number ≢ number
other_number number [] none k d below = absurd (omega (arith, below))
other_number number (s ∷ ss) none zero d below = λ same.
    let here : is_numbered number s ≡ true = eq-eqb s.number number same in
    let is_so : (is_numbered number s || is_open number ss) ≡ true = ap (λ b. b || is_open number ss) here in
    let clash : true ≡ false = sym is_so ∙ none in
    cc
other_number number (s ∷ ss) none (suc k) d below =
    let later : is_open number ss ≡ false = (elim (is_numbered number s) as (λ b. (b || is_open number ss) ≡ false
    → is_open number ss ≡ false) [
      | true ↦ λ h. cc
      | false ↦ λ h. h
    ]) none in
    other_number number ss later k d (omega (arith, below))

-- one more
pub opened_valid : (number cache : ℕ) (ss : List Session) → AreSessions ss → is_open number ss ≡ false → length ss < most_sessions
    → IsCapacity cache → AreSessions (ss ++ fresh_session number cache ∷ [])
opened_valid number cache ss valid none few size = record {
  distinct = all_pairs_push (λ a b. a.number ≢ b.number) ss (fresh_session number cache) valid.distinct
      (λ k d below. other_number number ss none k d below);
  few = omega (arith, few, length-append ss (fresh_session number cache ∷ []));
  sizes = All-push (λ s. IsCapacity s.cache.capacity) ss (fresh_session number cache) valid.sizes size;
}

all_removed : (P : Session → Type 0) (ss : List Session) (i : ℕ) → All P ss → All P (remove ss i)
all_removed P ss i all = All-append P (take i ss) (drop (suc i) ss) (All-take P i ss all) (All-drop P (suc i) ss all)

-- what stood in the place of the removed one doesn't matter
pub removed_set : (ss : List Session) (i : ℕ) (y : Session) → remove (slice_set ss i y) i ≡ remove ss i
removed_set [] i y = refl
removed_set (s ∷ ss) zero y = refl
removed_set (s ∷ ss) (suc i) y = ap (λ l. s ∷ l) (removed_set ss i y)

pub removed_valid : (ss : List Session) (i : ℕ) (y : Session) → i < length ss → AreSessions ss → AreSessions (remove (slice_set ss i y) i)
removed_valid ss i y inside valid = subst AreSessions (sym (removed_set ss i y)) (record {
  distinct = all_pairs_remove (λ a b. a.number ≢ b.number) ss i inside valid.distinct;
  few = omega (arith, valid.few, length-remove ss i inside);
  sizes = all_removed (λ s. IsCapacity s.cache.capacity) ss i valid.sizes;
})

none_of_four : (a b c d : Bool) → (if a then Some SessionOpen else if b then Some TooManySessions else if c || d then Some BadCache
    else None) ≡ None → (a ≡ false) × (b ≡ false) × (c ≡ false) × (d ≡ false)
none_of_four true b c d none = cc
none_of_four false true c d none = cc
none_of_four false false true d none = cc
none_of_four false false false true none = cc
none_of_four false false false false none = (refl, refl, refl, refl)

-- where nothing stands against opening a session, it may be added
pub one_more_valid : (number cache : ℕ) (ss : List Session) → AreSessions ss → open_refusal ss number cache ≡ None
    → AreSessions (ss ++ fresh_session number cache ∷ [])
one_more_valid number cache ss valid free =
    let tests = none_of_four (is_open number ss) (nat_le most_sessions (length ss)) (nat_lt cache 1) (nat_lt 131072 cache) free in
    opened_valid number cache ss valid tests.0 (leb-false most_sessions (length ss) tests.1) (
      ltb-false cache 1 tests.2,
      ltb-false 131072 cache tests.3,
    )
