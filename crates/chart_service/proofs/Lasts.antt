-- The last view of a session, or why there is none.
use Rattle.std.proofs.Common.{◌≡◌, ℕ, true, false, ◌==◌, if◌then◌else◌, List, [], ◌∷◌, Option, None, Some, Ok, Err, refl, sym, subst}
use Rattle.std.specs.Prelude.{◌||◌}
use Rattle.series_book.specs.declared.refusals.Refusal.TheVariants.{UnknownSession, NoView}
use Rattle.zoom_session.specs.declared.session.Session.{Session}
use Rattle.zoom_session.specs.declared.view_spec.ViewSpec.{ViewSpec}
use Rattle.zoom_session.specs.Sessions.{is_open, session_of, last_of}
use Rattle.chart_service.specs.Holding.{IsViewIn, HasViewIn, AreViewsIn}
use Rattle.chart_service.specs.Planning.{IsLastOf}
use Rattle.chart_service.proofs.Keeping.{view_of_session}

pub nobody : (number : ℕ) (ss : List Session) → is_open number ss ≡ false → session_of number ss ≡ None
nobody number [] none = refl
nobody number (s ∷ ss) none = (elim (s.number == number) as (λ b. (b || is_open number ss) ≡ false
    → (if b then Some s else session_of number ss) ≡ None) [
      | true ↦ λ h. cc
      | false ↦ λ h. nobody number ss h
    ]) none

-- a session that is open
pub somebody : (number : ℕ) (ss : List Session) → is_open number ss ≡ true → (s : Session) × (session_of number ss ≡ Some s)
somebody number [] there = cc
somebody number (s ∷ ss) there = (elim (s.number == number) as (λ b. (b || is_open number ss) ≡ true → (t : Session)
    × ((if b then Some s else session_of number ss) ≡ Some t)) [
      | true ↦ λ h. (s, refl)
      | false ↦ λ h. somebody number ss h
    ]) there

-- the session isn't open
pub none_of : (number : ℕ) (ss : List Session) → is_open number ss ≡ false → IsLastOf (session_of number ss) (Err UnknownSession)
none_of number ss none = let P : Option Session → Type 0 = λ o. IsLastOf o (Err UnknownSession) in
    subst P (sym (nobody number ss none)) refl

no_last_of : (o : Option Session) (s : Session) → o ≡ Some s → None ≡ last_of o → IsLastOf o (Err NoView)
no_last_of None s is none = cc
no_last_of (Some t) s is none = let P : Option ViewSpec → Type 0 = λ l. IsLastOf (Some (record t { last = l })) (Err NoView) in
    subst P none refl

-- it has had no view
pub no_last : (number : ℕ) (ss : List Session) → is_open number ss ≡ true → None ≡ last_of (session_of number ss)
    → IsLastOf (session_of number ss) (Err NoView)
no_last number ss there none = let one = somebody number ss there in no_last_of (session_of number ss) one.0 one.1 none

last_is : (o : Option Session) (spec : ViewSpec) → Some spec ≡ last_of o → IsLastOf o (Ok spec)
last_is None spec is = cc
last_is (Some t) spec is = let P : Option ViewSpec → Type 0 = λ l. IsLastOf (Some (record t { last = l })) (Ok spec) in subst P is refl

-- it has had one
pub last_so : (number : ℕ) (ss : List Session) (spec : ViewSpec) → Some spec ≡ last_of (session_of number ss)
    → IsLastOf (session_of number ss) (Ok spec)
last_so number ss spec is = last_is (session_of number ss) spec is

view_in : (count : ℕ) (o : Option Session) (spec : ViewSpec) → ((s : Session) → o ≡ Some s → HasViewIn count s.last) → Some spec ≡ last_of o
    → IsViewIn count spec
view_in count None spec views is = cc
view_in count (Some s) spec views is = let P : Option ViewSpec → Type 0 = λ l. HasViewIn count l in subst P (sym is) (views s refl)

-- which is of a series that is there
pub view_so : (count : ℕ) (number : ℕ) (ss : List Session) (spec : ViewSpec) → AreViewsIn count ss
    → Some spec ≡ last_of (session_of number ss) → IsViewIn count spec
view_so count number ss spec views is = view_in count (session_of number ss) spec
    (λ s there. view_of_session count number ss s there views) is
