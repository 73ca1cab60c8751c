-- Which sessions a reply opens and closes.
use Rattle.std.proofs.Common.{◌≡◌, ◌≢◌, ℕ, suc, ◌<◌, Bool, true, false, ◌==◌, List, [], ◌∷◌, length, get_or, Option, IsTrue, refl, ap, sym}
use Rattle.std.proofs.Common.{◌∙◌, subst, arith}
use Rattle.std.specs.Prelude.{AllPairs, not, ◌&&◌, ◌||◌, if◌then◌else◌}
use Rattle.std.proofs.lemmas.Bool.{eqb-true}
use Rattle.om3_coeff.specs.declared.key.Key.{Key}
use Rattle.om3_coeff.specs.declared.coef.Coef.{Coef}
use Rattle.zoom_session.specs.declared.session.Session.{Session}
use Rattle.zoom_session.specs.declared.view_spec.ViewSpec.{ViewSpec}
use Rattle.zoom_session.specs.Sessions.{is_open, without, viewed, after_view, AreSessions}
use Rattle.chart_frames.specs.declared.frame.Frame.TheVariants.{Closed, View, Rows}
use Rattle.chart_frames.specs.declared.frame.ViewFrame.{ViewFrame}
use Rattle.chart_frames.specs.declared.frame.RowsFrame.{RowsFrame}
use Rattle.chart_service.specs.Opening.{OpensBy}

-- an answered view
same_open : (number n : ℕ) (spec : ViewSpec) (needed : Option (List (Key × Coef))) (ss : List Session)
    → is_open n (viewed number spec needed ss) ≡ is_open n ss
same_open number n spec needed [] = refl
same_open number n spec needed (s ∷ ss) =
    elim (s.number == number) as (λ b. is_open n (if b then after_view spec needed s ∷ ss
    else s ∷ viewed number spec needed ss) ≡ is_open n (s ∷ ss)) [
      | true ↦ refl
      | false ↦ ap (λ b. s.number == n || b) (same_open number n spec needed ss)
    ]

pub opens_viewed : (number : ℕ) (spec : ViewSpec) (needed : Option (List (Key × Coef))) (view : ViewFrame) (ss : List Session)
    → view.session ≡ number → IsTrue (is_open number ss) → OpensBy (View view) ss (viewed number spec needed ss)
opens_viewed number spec needed view ss is there = record {
  named = let P : ℕ → Type 0 = λ n. IsTrue (is_open n ss) in subst P (sym is) there;
  after = λ n. same_open number n spec needed ss;
}

-- the same with a filter
pub opens_rows : (number : ℕ) (spec : ViewSpec) (needed : Option (List (Key × Coef))) (rows : RowsFrame) (ss : List Session)
    → rows.session ≡ number → IsTrue (is_open number ss) → OpensBy (Rows rows) ss (viewed number spec needed ss)
opens_rows number spec needed rows ss is there = record {
  named = let P : ℕ → Type 0 = λ n. IsTrue (is_open n ss) in subst P (sym is) there;
  after = λ n. same_open number n spec needed ss;
}

-- a session of another number
others : (s : Session) (ss : List Session) → AllPairs (λ a b. a.number ≢ b.number) (s ∷ ss) → AllPairs (λ a b. a.number ≢ b.number) ss
others s ss all = λ i j d less below. all (suc i) (suc j) d (omega (arith, less)) (omega (arith, below))

none_open : (n : ℕ) (ss : List Session) → ((k : ℕ) (d : Session) → k < length ss → (get_or ss k d).number ≢ n) → is_open n ss ≡ false
none_open n [] none = refl
none_open n (s ∷ ss) none =
    let other : (s.number == n) ≡ false = (elim (s.number == n) as (λ b. (s.number == n) ≡ b → (s.number == n) ≡ false) [
      | true ↦ λ h. absurd (none 0 s (omega arith) (eqb-true s.number n h))
      | false ↦ λ h. h
    ]) refl in
    ap (λ b. b || is_open n ss) other ∙ none_open n ss (λ k d below. none (suc k) d (omega (arith, below)))

-- the first of the sessions is closed or isn't, and n is its number or isn't
closed_at : (number n : ℕ) (s : Session) (ss : List Session) → AllPairs (λ a b. a.number ≢ b.number) (s ∷ ss)
    → is_open n (without number ss) ≡ (not (number == n) && is_open n ss) → (here : Bool) → (s.number == number) ≡ here → (asked : Bool)
    → (number == n) ≡ asked → is_open n (if here then ss else s ∷ without number ss) ≡ (not asked && (s.number == n || is_open n ss))
closed_at number n s ss distinct later true is true same =
    let number_is : s.number ≡ n = eqb-true s.number number is ∙ eqb-true number n same in
    none_open n ss (λ k d below found. distinct 0 (suc k) d (omega arith) (omega (arith, below)) (number_is ∙ sym found))
closed_at number n s ss distinct later true is false same =
    let number_is : s.number ≡ number = eqb-true s.number number is in
    let other : (s.number == n) ≡ false = ap (λ m. m == n) number_is ∙ same in
    sym (ap (λ b. b || is_open n ss) other)
closed_at number n s ss distinct later false is true same =
    let none : is_open n (without number ss) ≡ false = later ∙ ap (λ b. not b && is_open n ss) same in
    let other : (s.number == n) ≡ false = ap (λ m. s.number == m) (sym (eqb-true number n same)) ∙ is in
    ap (λ b. b || is_open n (without number ss)) other ∙ none
closed_at number n s ss distinct later false is false same =
    ap (λ b. s.number == n || b) (later ∙ ap (λ b. not b && is_open n ss) same)

pub closed_less : (number n : ℕ) (ss : List Session) → AllPairs (λ a b. a.number ≢ b.number) ss
    → is_open n (without number ss) ≡ (not (number == n) && is_open n ss)
closed_less number n [] distinct = elim (number == n) as (λ b. false ≡ (not b && false)) [ true ↦ refl | false ↦ refl ]
closed_less number n (s ∷ ss) distinct =
    closed_at number n s ss distinct (closed_less number n ss (others s ss distinct)) (s.number == number) refl (number == n) refl

-- a closing
pub opens_closed : (number : ℕ) (ss : List Session) → AreSessions ss → IsTrue (is_open number ss)
    → OpensBy (Closed number) ss (without number ss)
opens_closed number ss valid there = record { named = there; after = λ n. closed_less number n ss valid.distinct }
