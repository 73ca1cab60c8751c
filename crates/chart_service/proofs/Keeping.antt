-- The last views of the sessions go on to be of series that are there.
use Rattle.std.proofs.Common.{◌≡◌, ℕ, suc, ◌≤◌, subst, sym, true, false, ◌==◌, if◌then◌else◌, List, [], ◌∷◌, length, Option, None, Some}
use Rattle.std.proofs.Common.{Result, Ok, Err, arith}
use Rattle.std.specs.Prelude.{All, OnOk, OnErr}
use Rattle.std.proofs.lemmas.List.Elements.{All-cons}
use Rattle.om3_coeff.specs.declared.key.Key.{Key}
use Rattle.om3_coeff.specs.declared.coef.Coef.{Coef}
use Rattle.series_book.specs.declared.one_series.Series.{Series}
use Rattle.series_book.specs.Books.{IsBook}
use Rattle.zoom_session.specs.declared.session.Session.{Session}
use Rattle.zoom_session.specs.declared.view_spec.ViewSpec.{ViewSpec}
use Rattle.zoom_session.specs.Sessions.{without, viewed, after_view, session_of, AreSessions}
use Rattle.chart_service.specs.State.{IsSound, HasViewOf, AreViewsOf}
use Rattle.chart_service.specs.Holding.{IsViewIn, HasViewIn, AreViewsIn}
use Rattle.chart_service.specs.Stepping.{state_of}

abbrev HasView : ℕ → Session → Type 0
HasView count s = HasViewIn count s.last

grown : (count more : ℕ) (last : Option ViewSpec) → count ≤ more → HasViewIn count last → HasViewIn more last
grown count more None fits has = tt
grown count more (Some spec) fits has = record { there = omega (arith, has.there, fits); range = has.range }

-- where there are more series
pub views_grown : (count more : ℕ) (ss : List Session) → count ≤ more → AreViewsIn count ss → AreViewsIn more ss
views_grown count more ss fits all = λ k d below. grown count more _ fits (all k d below)

tail_of : (P : Session → Type 0) (s : Session) (ss : List Session) → All P (s ∷ ss) → All P ss
tail_of P s ss all = λ k d below. all (suc k) d (omega (arith, below))

head_of : (P : Session → Type 0) (s : Session) (ss : List Session) → All P (s ∷ ss) → P s
head_of P s ss all = all 0 s (omega arith)

-- behind a closing
pub views_closed : (count : ℕ) (number : ℕ) (ss : List Session) → AreViewsIn count ss → AreViewsIn count (without number ss)
views_closed count number [] all = all
views_closed count number (s ∷ ss) all =
    elim (s.number == number) as (λ b. AreViewsIn count (if b then ss else s ∷ without number ss)) [
      | true ↦ tail_of (HasView count) s ss all
      | false ↦ All-cons (HasView count) s (without number ss) (head_of (HasView count) s ss all)
          (views_closed count number ss (tail_of (HasView count) s ss all))
    ]

-- behind an answered view
pub views_viewed : (count : ℕ) (number : ℕ) (spec : ViewSpec) (needed : Option (List (Key × Coef))) (ss : List Session)
    → IsViewIn count spec → AreViewsIn count ss → AreViewsIn count (viewed number spec needed ss)
views_viewed count number spec needed [] view all = all
views_viewed count number spec needed (s ∷ ss) view all =
    elim (s.number == number) as (λ b. AreViewsIn count (if b then after_view spec needed s ∷ ss else s ∷ viewed number spec needed ss)) [
      | true ↦ All-cons (HasView count) (after_view spec needed s) ss view (tail_of (HasView count) s ss all)
      | false ↦ All-cons (HasView count) s (viewed number spec needed ss) (head_of (HasView count) s ss all)
          (views_viewed count number spec needed ss view (tail_of (HasView count) s ss all))
    ]

-- a session's last view
pub view_of_session : (count : ℕ) (number : ℕ) (ss : List Session) (s : Session) → session_of number ss ≡ Some s → AreViewsIn count ss
    → HasViewIn count s.last
view_of_session count number [] s is all = cc
view_of_session count number (x ∷ ss) s is all =
    (elim (x.number == number) as (λ b. (if b then Some x else session_of number ss) ≡ Some s → HasViewIn count s.last) [
      | true ↦ λ h. let same : x ≡ s = cc in subst (HasView count) same (head_of (HasView count) x ss all)
      | false ↦ λ h. view_of_session count number ss s h (tail_of (HasView count) x ss all)
    ]) is

-- ---- the sessions over a book

of_book : (count : ℕ) (book : List Series) (last : Option ViewSpec) → count ≡ length book → HasViewIn count last → HasViewOf book last
of_book count book None same has = tt
of_book count book (Some spec) same has = record { there = omega (arith, has.there, same); range = has.range }

views_of : (count : ℕ) (book : List Series) (ss : List Session) → count ≡ length book → AreViewsIn count ss → AreViewsOf book ss
views_of count book ss same all = λ k d below. of_book count book _ same (all k d below)

-- a state is sound
pub state_sound : (count : ℕ) (book : List Series) (total : ℕ) (ss : List Session) → IsBook book → count ≡ length book → AreSessions ss
    → AreViewsIn count ss → IsSound (state_of book total ss)
state_sound count book total ss is same sessions views = record {
  book = is;
  sessions = sessions;
  views = views_of count book ss same views;
}

-- ---- behind calls whose answers are not known yet

-- a closing
pub views_after_close : {T E : Type 0} (r : Result T E) (count number : ℕ) (old new : List Session) → OnOk r (new ≡ without number old)
    → OnErr r (new ≡ old) → AreViewsIn count old → AreViewsIn count new
views_after_close (Ok t) count number old new closed same all = subst (AreViewsIn count) (sym closed) (views_closed count number old all)
views_after_close (Err e) count number old new closed same all = subst (AreViewsIn count) (sym same) all

-- an answered view, or no memory for it
pub views_after_view : {T E : Type 0} (r : Result T E) (count number : ℕ) (spec : ViewSpec) (needed : Option (List (Key × Coef)))
    (old new : List Session) → OnOk r (new ≡ viewed number spec needed old) → OnErr r (new ≡ without number old) → IsViewIn count spec
    → AreViewsIn count old → AreViewsIn count new
views_after_view (Ok t) count number spec needed old new viewed_so closed view all = subst (AreViewsIn count) (sym viewed_so)
    (views_viewed count number spec needed old view all)
views_after_view (Err e) count number spec needed old new viewed_so closed view all = subst (AreViewsIn count) (sym closed)
    (views_closed count number old all)
