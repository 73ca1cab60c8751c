-- The coefficients that count, and those that are told.
use Rattle.std.proofs.Common.{ℕ, ℤ, zero, suc, ◌≡◌, ◌<◌, ◌≤◌, ◌⊎◌, inl, inr, Bool, true, false, cond, List, [], ◌∷◌, length, get_or, Option}
use Rattle.std.proofs.Common.{None, Some, refl, sym, ap, ◌∙◌, subst, arith}
use Rattle.std.specs.Prelude.{AllPairs, slice_get, ◌&&◌, ◌==◌, nat_lt, nat_le, Result, Ok, Err, IfOk, IsSome}
use Rattle.std.proofs.lemmas.Bool.{cases_lt, cases_eq}
use Rattle.std.proofs.lemmas.Bool.Decides.{nat_tests}
use Rattle.std.proofs.lemmas.Option.{slice_get_within, get_or_from_slice_get, slice_get-get_or}
use Rattle.line_raster.specs.Canvas.{Canvas}
use Rattle.chart_grid.specs.declared.axis.Axis.{Axis}
use Rattle.om3_coeff.specs.declared.key.Key.{Key}
use Rattle.om3_coeff.specs.declared.span.Span.{Span}
use Rattle.om3_coeff.specs.declared.coef.Coef.{Coef}
use Rattle.view_keys.specs.Listed.{ComesBefore}
use Rattle.view_keys.proofs.Ranging.{key-same}
use Rattle.view_keys.proofs.Orders.{not_itself, before_on}
use Rattle.view_cover.specs.declared.scope.Scope.{Scope}
use Rattle.view_cover.specs.Scene.{Scene}
use Rattle.view_cover.specs.Across.{IsAcross, is_across}
use Rattle.view_cover.specs.Walk.{IsCoverOf, scene_of}
use Rattle.view_cover.proofs.Crossing.{decided}
use Rattle.chart_frames.specs.declared.frame.ViewFrame.{ViewFrame}
use Rattle.chart_frames.specs.Frames.{Precedes}
use Rattle.chart_client.specs.declared.holding.Holding.{Holding}
use Rattle.chart_client.specs.Holdings.{holding_of, root_of, axis_of}
use Rattle.chart_client.specs.Held.{held_by}
use Rattle.chart_client.specs.Agreeing.{IsGridOf}
use Rattle.chart_client.proofs.Entries.{same_or_apart}
use Rattle.progressive_view.specs.Places.{IsPlace, place_in, coef_if, precedes}
use Rattle.progressive_view.specs.Telling.{choice, told_in}
use Rattle.progressive_view.specs.Used.{IsTaken, IsUnsent, IsBeforeNext, IsHeldFor, AreUsed}
use Rattle.progressive_view.specs.Covers.{Taking, IsUnderWay, DrawsCover, scene_by}
use Rattle.progressive_view.proofs.Standing.{in-order, precedes-is, precedes-not, cond-true, cond-false}

-- whether a key comes before another one
before-cases : (a b : Key) → ComesBefore a b ⊎ (ComesBefore a b → ⊥)
before-cases a b =
    elim (cases_lt b.level a.level) [
      | inl lower ↦ inl (inl lower)
      | inr low ↦ elim (cases_eq a.level b.level) [
        | inl same ↦ elim (cases_lt a.index b.index) [
          | inl less ↦ inl (inr (same, less))
          | inr more ↦ inr (λ h. elim h [
            | inl lower ↦ absurd (omega (arith, lower, low))
            | inr less ↦ absurd
                (omega (arith, less.1, more))
          ])
        ]
        | inr other ↦ inr (λ h. elim h [ inl lower ↦ absurd (omega (arith, lower, low)) | inr less ↦ other less.0 ])
      ]
    ]

rest-order : (e : Key × Coef) (es : List (Key × Coef)) → AllPairs Precedes (e ∷ es) → AllPairs Precedes es
rest-order e es order i j d less within = order (suc i) (suc j) d (omega (arith, less)) (omega (arith, within))

place-at : (list : List (Key × Coef)) (k : Key) (p q : ℕ) → p ≡ q → IsPlace list k p → IsPlace list k q
place-at list k p q same h = subst (λ (n : ℕ). IsPlace list k n) same h

place-first : (e : Key × Coef) (es : List (Key × Coef)) (k : Key) → AllPairs Precedes (e ∷ es) → (ComesBefore e.0 k → ⊥)
    → IsPlace (e ∷ es) k 0
place-first e es k order not = record {
  within = omega arith;
  before = λ i d low. absurd (omega (arith, low));
  behind = behind;
}
  where
    behind : (i : ℕ) (d : Key × Coef) → 0 ≤ i → i < length (e ∷ es) → ComesBefore (get_or (e ∷ es) i d).0 k → ⊥
    behind zero d more within before = not before
    behind (suc i) d more within before =
        not (before_on e.0 (get_or es i d).0 k (in-order e (get_or es i d) (order 0 (suc i) d (omega arith) within)) before)

place-next : (e : Key × Coef) (es : List (Key × Coef)) (k : Key) (p : ℕ) → ComesBefore e.0 k → IsPlace es k p → IsPlace (e ∷ es) k (suc p)
place-next e es k p first h = record {
  within = omega (arith, h.within);
  before = before;
  behind = behind;
}
  where
    before : (i : ℕ) (d : Key × Coef) → i < suc p → ComesBefore (get_or (e ∷ es) i d).0 k
    before zero d low = first
    before (suc i) d low = h.before i d (omega (arith, low))

    behind : (i : ℕ) (d : Key × Coef) → suc p ≤ i → i < length (e ∷ es) → ComesBefore (get_or (e ∷ es) i d).0 k → ⊥
    behind zero d more within b = absurd (omega (arith, more))
    behind (suc i) d more within b = h.behind i d (omega (arith, more)) (omega (arith, within)) b

-- the computed place is the place
place-place : (list : List (Key × Coef)) (k : Key) → AllPairs Precedes list → IsPlace list k (place_in list k)
place-place [] k order = record {
  within = omega arith;
  before = λ i d low. absurd (omega (arith, low));
  behind = λ i d more within before. absurd (omega (arith, within));
}
place-place (e ∷ es) k order =
    elim (before-cases e.0 k) [
      | inl first ↦ place-at (e ∷ es) k (suc (place_in es k)) (place_in (e ∷ es) k)
          (sym (cond-true (precedes e.0 k) (suc (place_in es k)) 0 (precedes-is e.0 k first)))
          (place-next e es k (place_in es k) first (place-place es k (rest-order e es order)))
      | inr not ↦ place-at (e ∷ es) k 0 (place_in (e ∷ es) k)
          (sym (cond-false (precedes e.0 k) (suc (place_in es k)) 0 (precedes-not e.0 k not)))
          (place-first e es k order not)
    ]

-- an entry of the key stands at its place
sent-place : (list : List (Key × Coef)) (k : Key) (p j : ℕ) (c : Coef) → AllPairs Precedes list → IsPlace list k p
    → slice_get list j ≡ Some (k, c) → j ≡ p
sent-place list k p j c order h at =
    let d : Key × Coef = (k, c) in
    let inside : j < length list = slice_get_within list j d at in
    let here : get_or list j d ≡ d = get_or_from_slice_get list j d d at in
    elim (cases_lt j p) [
      | inl low ↦ absurd (not_itself k (subst (λ (e : Key × Coef). ComesBefore e.0 k) here (h.before j d low)))
      | inr high ↦ elim (cases_lt p j) [
        | inr same ↦ omega (arith, high, same)
        | inl past ↦ absurd (h.behind p d (omega arith) (omega (arith, past, inside))
            (subst (λ (e : Key × Coef). ComesBefore (get_or list p d).0 e.0) here
            (in-order (get_or list p d) (get_or list j d) (order p j d past inside))))
      ]
    ]

-- the coefficient of an entry, if it is the key's
eq-true : (a b : ℕ) → a ≡ b → (a == b) ≡ true
eq-true a b h = grind (arith, nat_tests, h)

eq-false : (a b : ℕ) → (a ≡ b → ⊥) → (a == b) ≡ false
eq-false a b h = grind (arith, nat_tests, h)

both-true : (a b : Bool) → a ≡ true → b ≡ true → (a && b) ≡ true
both-true a b p q = ap (λ (x : Bool). x && b) p ∙ q

first-false : (a b : Bool) → a ≡ false → (a && b) ≡ false
first-false a b p = ap (λ (x : Bool). x && b) p

second-false : (a b : Bool) → a ≡ true → b ≡ false → (a && b) ≡ false
second-false a b p q = ap (λ (x : Bool). x && b) p ∙ q

pick-true : (b : Bool) (x y : Option Coef) → b ≡ true → cond b x y ≡ x
pick-true b x y is = ap (λ (c : Bool). cond c x y) is

pick-false : (b : Bool) (x y : Option Coef) → b ≡ false → cond b x y ≡ y
pick-false b x y is = ap (λ (c : Bool). cond c x y) is

some-entry : (e f : Key × Coef) → ◌≡◌ {A = Option (Key × Coef)} (Some e) (Some f) → e ≡ f
some-entry e f h = cc

some-coef : (e f : Coef) → ◌≡◌ {A = Option Coef} (Some e) (Some f) → e ≡ f
some-coef e f h = cc

none-entry : (e : Key × Coef) → ◌≡◌ {A = Option (Key × Coef)} None (Some e) → ⊥
none-entry e h = cc

none-coef : (e : Coef) → ◌≡◌ {A = Option Coef} None (Some e) → ⊥
none-coef e h = cc

IfCases : Option (Key × Coef) → Key → Type 0
IfCases o k = ((c : Coef) × (o ≡ Some (k, c)) × (coef_if o k ≡ Some c)) ⊎ ((coef_if o k ≡ None) × ((c : Coef) → o ≡ Some (k, c) → ⊥))

if-cases : (o : Option (Key × Coef)) (k : Key) → IfCases o k
unfolding IfCases
if-cases None k = inr (refl, λ c h. none-entry (k, c) h)
if-cases (Some e) k =
    elim (cases_eq e.0.level k.level) [
      | inr other ↦ inr (
        pick-false (e.0.level == k.level && e.0.index == k.index) (Some e.1) None
            (first-false (e.0.level == k.level) (e.0.index == k.index) (eq-false e.0.level k.level other)),
        λ c h. other (ap (λ (q : Key × Coef). q.0.level) (some-entry e (k, c) h)),
      )
      | inl level ↦ elim (cases_eq e.0.index k.index) [
        | inr other ↦ inr (
          pick-false (e.0.level == k.level && e.0.index == k.index) (Some e.1) None
              (second-false (e.0.level == k.level) (e.0.index == k.index) (eq-true e.0.level k.level level)
              (eq-false e.0.index k.index other)),
          λ c h. other (ap (λ (q : Key × Coef). q.0.index) (some-entry e (k, c) h)),
        )
        | inl index ↦ inl (
          e.1,
          ap (λ (q : Key). Some (q, e.1)) (key-same e.0 k level index),
          pick-true (e.0.level == k.level && e.0.index == k.index) (Some e.1) None
              (both-true (e.0.level == k.level) (e.0.index == k.index) (eq-true e.0.level k.level level) (eq-true e.0.index k.index index)),
        )
      ]
    ]

lt-true : (a b : ℕ) → a < b → nat_lt a b ≡ true
lt-true a b h = grind (arith, nat_tests, h)

lt-false : (a b : ℕ) → b ≤ a → nat_lt a b ≡ false
lt-false a b h = grind (arith, nat_tests, h)

le-true : (a b : ℕ) → a ≤ b → nat_le a b ≡ true
le-true a b h = grind (arith, nat_tests, h)

le-false : (a b : ℕ) → b < a → nat_le a b ≡ false
le-false a b h = grind (arith, nat_tests, h)

-- what is chosen
chosen-sent : (o held : Option Coef) (c : Coef) (across : Bool) (taken p : ℕ) → o ≡ Some c → p < taken
    → choice o held across taken p ≡ Some c
chosen-sent o held c across taken p is low =
    ap (λ (q : Option Coef). choice q held across taken p) is ∙ pick-true (nat_lt p taken) (Some c) None (lt-true p taken low)

chosen-untaken : (o held : Option Coef) (c : Coef) (across : Bool) (taken p : ℕ) → o ≡ Some c → taken ≤ p
    → choice o held across taken p ≡ None
chosen-untaken o held c across taken p is high =
    ap (λ (q : Option Coef). choice q held across taken p) is ∙ pick-false (nat_lt p taken) (Some c) None (lt-false p taken high)

pub chosen-held : (o held : Option Coef) (across : Bool) (taken p : ℕ) → o ≡ None → p ≤ taken → across ≡ true
    → choice o held across taken p ≡ held
chosen-held o held across taken p is low so =
    ap (λ (q : Option Coef). choice q held across taken p) is
    ∙ pick-true (nat_le p taken && across) held None (both-true (nat_le p taken) across (le-true p taken low) so)

chosen-late : (o held : Option Coef) (across : Bool) (taken p : ℕ) → o ≡ None → taken < p → choice o held across taken p ≡ None
chosen-late o held across taken p is high =
    ap (λ (q : Option Coef). choice q held across taken p) is
    ∙ pick-false (nat_le p taken && across) held None (first-false (nat_le p taken) across (le-false p taken high))

chosen-within : (o held : Option Coef) (across : Bool) (taken p : ℕ) → o ≡ None → p ≤ taken → across ≡ false
    → choice o held across taken p ≡ None
chosen-within o held across taken p is low off =
    ap (λ (q : Option Coef). choice q held across taken p) is
    ∙ pick-false (nat_le p taken && across) held None (second-false (nat_le p taken) across (le-true p taken low) off)

-- the frame, what is held, and the scope of the view
record Ground (view : ViewFrame) (holding : Holding) (scope : Scope) : Type 0 where
  order : AllPairs Precedes view.coefs
  axis : scope.axis ≡ axis_of view

across-of : (view : ViewFrame) (scope : Scope) (k : Key) → scope.axis ≡ axis_of view → IsAcross scope.axis scope.grid k
    → IsAcross (axis_of view) scope.grid k
across-of view scope k same h = subst (λ (a : Axis). IsAcross a scope.grid k) same h

across-to : (view : ViewFrame) (scope : Scope) (k : Key) → scope.axis ≡ axis_of view → IsAcross (axis_of view) scope.grid k
    → IsAcross scope.axis scope.grid k
across-to view scope k same h = subst (λ (a : Axis). IsAcross a scope.grid k) (sym same) h

turn-of : (view : ViewFrame) (i p : ℕ) (k : Key) → IsPlace view.coefs k p → p ≤ i → IsUnsent view k → IsBeforeNext view i k
turn-of view i p k place low unsent next at =
    let inside : i < length view.coefs = slice_get_within view.coefs i next at in
    let here : get_or view.coefs i next ≡ next = get_or_from_slice_get view.coefs i next next at in
    elim (before-cases k next.0) [
      | inl before ↦ before
      | inr not ↦
          (let same : next.0 ≡ k = same_or_apart next.0 k
          (λ b. place.behind i next low inside (subst (λ (e : Key × Coef). ComesBefore e.0 k) (sym here) b)) not in
          absurd (unsent i next.1 (at ∙ ap (λ (q : Key). Some (q, next.1)) same)))
    ]

turn-place : (view : ViewFrame) (i p : ℕ) (k : Key) (d : Key × Coef) → IsPlace view.coefs k p → IsBeforeNext view i k → p ≤ i
turn-place view i p k d place turn =
    elim (cases_lt i p) [
      | inr low ↦ low
      | inl late ↦
          (let before = place.before i d late in
          let at : slice_get view.coefs i ≡ Some (get_or view.coefs i d) = slice_get-get_or view.coefs i d
          (omega (arith, late, place.within)) in
          absurd (not_itself k (before_on k (get_or view.coefs i d).0 k (turn (get_or view.coefs i d) at) before)))
    ]

to-used : (view : ViewFrame) (holding : Holding) (scope : Scope) (i : ℕ) → Ground view holding scope → (k : Key) (c : Coef)
    → IfCases (slice_get view.coefs (place_in view.coefs k)) k
    → told_in scope view.coefs (Some holding) view.series i k ≡ Some c → IsTaken view i k c ⊎ IsHeldFor view holding scope.grid i k c
unfolding IfCases
to-used view holding scope i g k c (inl found) is =
    let p : ℕ = place_in view.coefs k in
    let held : Option Coef = held_by (Some holding) view.series k in
    elim (cases_lt p i) [
      | inl low ↦
          (let same : found.0 ≡ c = some-coef found.0 c
          (sym (chosen-sent (coef_if (slice_get view.coefs p) k) held found.0 (is_across scope k) i p found.2 low) ∙ is) in
          inl (record { place = p; turn = low; sent = found.1 ∙ ap (λ (x : Coef). Some (k, x)) same }))
      | inr high ↦ absurd (none-coef c (sym (chosen-untaken (coef_if (slice_get view.coefs p) k) held found.0
          (is_across scope k) i p found.2 high) ∙ is))
    ]
to-used view holding scope i g k c (inr none) is =
    let p : ℕ = place_in view.coefs k in
    let held : Option Coef = held_by (Some holding) view.series k in
    let place : IsPlace view.coefs k p = place-place view.coefs k g.order in
    let unsent : IsUnsent view k = (λ j e at. none.1 e
    (subst (λ (n : ℕ). slice_get view.coefs n ≡ Some (k, e)) (sent-place view.coefs k p j e g.order place at) at)) in
    elim (cases_lt i p) [
      | inl late ↦ absurd (none-coef c (sym (chosen-late (coef_if (slice_get view.coefs p) k) held (is_across scope k) i p none.0 late)
          ∙ is))
      | inr low ↦ elim (decided scope k) [
        | inr other ↦ absurd (none-coef c (sym (chosen-within (coef_if (slice_get view.coefs p) k) held
            (is_across scope k) i p none.0 low other.0) ∙ is))
        | inl across ↦ inr (record {
          unsent = unsent;
          across = across-of view scope k g.axis across.1;
          turn = turn-of view i p k place low unsent;
          held = sym (chosen-held (coef_if (slice_get view.coefs p) k) held (is_across scope k) i p none.0 low across.0) ∙ is;
        })
      ]
    ]

from-used : (view : ViewFrame) (holding : Holding) (scope : Scope) (i : ℕ) → Ground view holding scope → (k : Key) (c : Coef)
    → IfCases (slice_get view.coefs (place_in view.coefs k)) k
    → IsTaken view i k c ⊎ IsHeldFor view holding scope.grid i k c → told_in scope view.coefs (Some holding) view.series i k ≡ Some c
unfolding IfCases
from-used view holding scope i g k c (inl found) (inl t) =
    let p : ℕ = place_in view.coefs k in
    let held : Option Coef = held_by (Some holding) view.series k in
    let at : t.place ≡ p = sent-place view.coefs k p t.place c g.order (place-place view.coefs k g.order) t.sent in
    let here : slice_get view.coefs p ≡ Some (k, c) = subst (λ (n : ℕ). slice_get view.coefs n ≡ Some (k, c)) at t.sent in
    let same : found.0 ≡ c = ap (λ (q : Key × Coef). q.1) (some-entry (k, found.0) (k, c) (sym found.1 ∙ here)) in
    chosen-sent (coef_if (slice_get view.coefs p) k) held found.0 (is_across scope k) i p found.2 (omega (arith, at, t.turn))
    ∙ ap (λ (x : Coef). Some x) same
from-used view holding scope i g k c (inl found) (inr h) = absurd (h.unsent (place_in view.coefs k) found.0 found.1)
from-used view holding scope i g k c (inr none) (inl t) =
    let p : ℕ = place_in view.coefs k in
    let at : t.place ≡ p = sent-place view.coefs k p t.place c g.order (place-place view.coefs k g.order) t.sent in
    absurd (none.1 c (subst (λ (n : ℕ). slice_get view.coefs n ≡ Some (k, c)) at t.sent))
from-used view holding scope i g k c (inr none) (inr h) =
    let p : ℕ = place_in view.coefs k in
    let held : Option Coef = held_by (Some holding) view.series k in
    let low : p ≤ i = turn-place view i p k (k, c) (place-place view.coefs k g.order) h.turn in
    elim (decided scope k) [
      | inl across ↦ chosen-held (coef_if (slice_get view.coefs p) k) held (is_across scope k) i p none.0 low across.0 ∙ h.held
      | inr other ↦ absurd (other.1 (across-to view scope k g.axis h.across))
    ]

-- what is told are the coefficients that count
used : (view : ViewFrame) (holding : Holding) (scope : Scope) (i : ℕ) → Ground view holding scope
    → AreUsed view holding scope.grid i (told_in scope view.coefs (Some holding) view.series i)
used view holding scope i g k c =
    let cases = if-cases (slice_get view.coefs (place_in view.coefs k)) k in
    (λ is. to-used view holding scope i g k c cases is, λ h. from-used view holding scope i g k c cases h)

some-holding : (o : Option Holding) → IsSome o → (h : Holding) × (o ≡ Some h)
some-holding (Some h) some = (h, refl)
some-holding None some = absurd (grind (arith, some))

-- a cover by the scope's fields is one by the view's
cover-by : (view : ViewFrame) (w : Scope) (told : Key → Option Coef) (c : Canvas) → w.axis ≡ axis_of view → w.lo ≡ view.lo → w.hi ≡ view.hi
    → w.root ≡ root_of view
    → IsCoverOf (scene_of w told) c → IsCoverOf (scene_by view w.grid told) c
cover-by view w told c of_axis of_lo of_hi of_root h =
    let A : Axis → Type 0 = λ a. let s : Scene = record { axis = a; grid = w.grid; lo = w.lo; hi = w.hi; root = w.root; told = told } in
    IsCoverOf s c in
    let L : ℤ → Type 0 = λ l. let s : Scene = record {
      axis = axis_of view;
      grid = w.grid;
      lo = l;
      hi = w.hi;
      root = w.root;
      told = told;
    } in IsCoverOf s c in
    let H : ℤ → Type 0 = λ l. let s : Scene = record {
      axis = axis_of view;
      grid = w.grid;
      lo = view.lo;
      hi = l;
      root = w.root;
      told = told;
    } in IsCoverOf s c in
    let R : Option Span → Type 0 = λ r. let s : Scene = record {
      axis = axis_of view;
      grid = w.grid;
      lo = view.lo;
      hi = view.hi;
      root = r;
      told = told;
    } in IsCoverOf s c in
    subst R of_root (subst H of_hi (subst L of_lo (subst A of_axis h)))

pub drawn-cover : (view : ViewFrame) (holdings : List Holding) (taken : ℕ) (scope : Scope) (sent : List (Key × Coef)) (c : Canvas)
    → IsUnderWay view holdings taken → scope.axis ≡ axis_of view
    → IsGridOf view scope.grid → scope.lo ≡ view.lo → scope.hi ≡ view.hi → scope.root ≡ root_of view → sent ≡ view.coefs
    → IsCoverOf (scene_of scope (told_in scope sent (holding_of view.session holdings) view.series taken)) c
    → (let s : Taking = record { view = view; holdings = holdings; taken = taken } in DrawsCover s c)
drawn-cover view holdings taken scope sent c way of_axis of_grid of_lo of_hi of_root is cover =
    let open_is = some-holding (holding_of view.session holdings) way.is_open in
    let told : Key → Option Coef = told_in scope view.coefs (Some open_is.0) view.series taken in
    let one : IsCoverOf (scene_of scope (told_in scope view.coefs (holding_of view.session holdings) view.series taken)) c =
    subst (λ (l : List (Key × Coef)). IsCoverOf (scene_of scope (told_in scope l (holding_of view.session holdings) view.series taken)) c)
    is cover in
    let two : IsCoverOf (scene_of scope told) c =
    subst (λ (h : Option Holding). IsCoverOf (scene_of scope (told_in scope view.coefs h view.series taken)) c) open_is.1 one in
    record {
      stage = record {
        grid = scope.grid;
        grid_is = of_grid;
        holding = open_is.0;
        holding_is = open_is.1;
        told = told;
        used = used view open_is.0 scope taken (record { order = way.fits.coefs.order; axis = of_axis });
      };
      cover = cover-by view scope told c of_axis of_lo of_hi of_root two;
    }

pub if-ok : {X E : Type 0} (r : Result X E) (P Q : X → Type 0) → ((x : X) → P x → Q x) → IfOk r P → IfOk r Q
if-ok (Ok x) P Q more h = more x h
if-ok (Err e) P Q more h = tt
