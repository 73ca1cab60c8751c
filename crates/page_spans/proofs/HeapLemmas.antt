-- Heaps of spans: that splitting finds them, and that they agree with a page's flags.
use Rattle.std.proofs.Common.{ℕ, ℤ, List, zero, suc, ◌≡◌, ◌+◌, ◌*◌, ◌<◌, ◌≤◌, inl, inr, sym, ◌∙◌, ap, ap₂, subst, refl, pos, Bool, true}
use Rattle.std.proofs.Common.{false, ◌&&◌, ◌||◌, arith}
use Rattle.std.proofs.lemmas.Bool.{cases_lt, cases_eq}
use Rattle.std.proofs.lemmas.Option.{same_Some}
use Rattle.std.specs.Prelude.{Option, None, Some, Result, Ok, Err, is_some, OnOk, OnErr, IfErr}
use Rattle.om3_coeff.specs.declared.span.Span.{Span}
use Rattle.om3_coeff.specs.declared.coef.Coef.{Coef}
use Rattle.om3_coeff.specs.Spans.{IsProperIfAny, hull}
use Rattle.om3_coeff.specs.Coefs.{coef_of, parts, IsFlat}
use Rattle.om3_coeff.proofs.CoefLemmas.{parts_joined, parts_are, AreParts}
use Rattle.node_page.specs.Layout.{has_value, KeepsLayout}
use Rattle.node_page.specs.Fields.{coef_at}
use Rattle.page_spans.specs.Heaps.{AreProper, HasHalves, IsSplit, IsJoined, IsHeap}
use Rattle.page_spans.specs.Failing.{IsUnsplit, IsFirstBad}

-- what joins to nothing is nothing
pub hull_empty : (l r : Option Span) → hull l r ≡ None → (l ≡ None) × (r ≡ None)
hull_empty None r e = (refl, e)
hull_empty (Some l) None e = absurd (cc)
hull_empty (Some l) (Some r) e = absurd (cc)

pair_parts : (l r l' r' : Option Span) → Some (let p : Option Span × Option Span = (l, r) in
    p) ≡ Some (let p : Option Span × Option Span = (l', r') in p) → (l ≡ l') × (r ≡ r')
pair_parts l r l' r' e =
    let p : Option Span × Option Span = (l, r) in
    let q : Option Span × Option Span = (l', r') in
    let same : p ≡ q = same_Some p q e in
    (ap (λ (p : Option Span × Option Span). p.0) same, ap (λ (p : Option Span × Option Span). p.1) same)

-- a coefficient of two halves splits their span into these halves
halves_are : (s : Option Span) (c : Coef) (l r wl wr : Option Span) → HasHalves s c l r → IsProperIfAny wl → IsProperIfAny wr
    → s ≡ hull wl wr → c ≡ coef_of wl wr → (l ≡ wl) × (r ≡ wr)
halves_are None c l r wl wr h pl pr es ec =
    let none = hull_empty wl wr (sym es) in (h.0 ∙ sym none.0, h.1 ∙ sym none.1)
halves_are (Some s) c l r wl wr h pl pr es ec =
    pair_parts l r wl wr (sym h ∙ ap (parts s) ec ∙ parts_joined wl wr s pl pr (sym es))

-- and doesn't fail to split it
no_halves : (s : Option Span) (c : Coef) (wl wr : Option Span) → IsUnsplit s c → IsProperIfAny wl → IsProperIfAny wr → s ≡ hull wl wr
    → c ≡ coef_of wl wr → ⊥
no_halves None c wl wr h pl pr es ec = h
no_halves (Some s) c wl wr h pl pr es ec =
    let e = sym h ∙ ap (parts s) ec ∙ parts_joined wl wr s pl pr (sym es) in cc

-- spans that are split from the top of a heap of proper ones are those of the heap
pub heap_found : (m : ℕ) (spans want : ℕ → Option Span) (coefs : ℕ → Coef) → m ≤ 127 → IsHeap want coefs → AreProper want → spans 0 ≡ want 0
    → ((n : ℕ) → n < m → IsSplit spans coefs n) → (n : ℕ) → n ≤ 2 * m → spans n ≡ want n
heap_found zero spans want coefs few heap proper top splits n to =
    let none : n ≡ 0 = omega arith in
    subst (λ (n : ℕ). spans n ≡ want n) (sym none) top
heap_found (suc m) spans want coefs few heap proper top splits n to =
    let before : (n : ℕ) → n ≤ 2 * m → spans n ≡ want n =
    heap_found m spans want coefs (omega (arith, few)) heap proper top (λ n less. splits n (omega (arith, less))) in
    let here : IsJoined want coefs m = heap m (omega (arith, few)) in
    let both = halves_are (spans m) (coefs m) (spans (2 * m + 1)) (spans (2 * m + 2)) (want (2 * m + 1)) (want (2 * m + 2))
    (splits m (omega arith))
    (proper (2 * m + 1) (omega (arith, few))) (proper (2 * m + 2) (omega (arith, few))) (before m (omega arith) ∙ here.span) here.coef in
    elim (cases_lt n (2 * m + 1)) [
      | inl less ↦ before n (omega (arith, less))
      | inr more ↦ elim (cases_eq n (2 * m + 1)) [
        | inl same ↦ subst (λ (n : ℕ). spans n ≡ want n) (sym same) both.0
        | inr other ↦
            let last : n ≡ 2 * m + 2 = omega (arith, more, other, to) in
            subst (λ (n : ℕ). spans n ≡ want n) (sym last) both.1
      ]
    ]

-- and no node fails to split
pub heap_not_bad : (spans want : ℕ → Option Span) (coefs : ℕ → Coef) (node : ℕ) → IsHeap want coefs → AreProper want → spans 0 ≡ want 0
    → IsFirstBad spans coefs node → ⊥
heap_not_bad spans want coefs node heap proper top bad =
    let few : node < 127 = bad.within in
    let here : IsJoined want coefs node = heap node few in
    let same : spans node ≡ want node = heap_found node spans want coefs (omega (arith, few)) heap proper top bad.above node
    (omega arith) in
    no_halves (spans node) (coefs node) (want (2 * node + 1)) (want (2 * node + 2)) bad.none
    (proper (2 * node + 1) (omega (arith, few))) (proper (2 * node + 2) (omega (arith, few))) (same ∙ here.span) here.coef

-- what flags and differences of a page's nodes have to do with each other
pub record AreTied (coefs : ℕ → Coef) : Type 0 where
  pub top : has_value (coefs 0) ≡ true
  pub left : (n : ℕ) → n < 63 → has_value (coefs (2 * n + 1)) ≡ (coefs n).left
  pub right : (n : ℕ) → n < 63 → has_value (coefs (2 * n + 2)) ≡ (coefs n).right
  pub flat : (n : ℕ) → n < 127 → ((coefs n).left && (coefs n).right) ≡ false → IsFlat (coefs n)

pub page_tied : (page : List ℕ) → KeepsLayout page → AreTied (coef_at page)
page_tied page keeps = record {
  top = keeps.flags.top;
  left = keeps.flags.left;
  right = keeps.flags.right;
  flat = λ n few. (keeps.differences n few).flat;
}

pub coef-left : (l r : Option Span) → (coef_of l r).left ≡ is_some l
coef-left None None = refl
coef-left None (Some r) = refl
coef-left (Some l) None = refl
coef-left (Some l) (Some r) = refl

pub coef-right : (l r : Option Span) → (coef_of l r).right ≡ is_some r
coef-right None None = refl
coef-right None (Some r) = refl
coef-right (Some l) None = refl
coef-right (Some l) (Some r) = refl

neither : (a b : Bool) → (a || b) ≡ false → (a ≡ false) × (b ≡ false)
neither true b e = absurd (cc)
neither false b e = (refl, e)

sides : (s : Option Span) (c : Coef) (l r : Option Span) → HasHalves s c l r → has_value c ≡ is_some s
    → (c.left ≡ is_some l) × (c.right ≡ is_some r)
sides None c l r h v =
    let none = neither c.left c.right v in
    (none.0 ∙ sym (ap is_some h.0), none.1 ∙ sym (ap is_some h.1))
sides (Some s) c l r h v =
    let are : AreParts s c l r = parts_are s c l r h in
    (sym (ap (λ (c : Coef). c.left) are.coef) ∙ coef-left l r, sym (ap (λ (c : Coef). c.right) are.coef) ∙ coef-right l r)

-- a node has a flag exactly where it has a span
values : (m : ℕ) (spans : ℕ → Option Span) (coefs : ℕ → Coef) (top : Span) → AreTied coefs → spans 0 ≡ Some top
    → ((n : ℕ) → n < 127 → IsSplit spans coefs n) → (n : ℕ) → n ≤ 2 * m → n < 127 → has_value (coefs n) ≡ is_some (spans n)
values zero spans coefs top tied is splits n to few =
    let none : n ≡ 0 = omega arith in
    subst (λ (n : ℕ). has_value (coefs n) ≡ is_some (spans n)) (sym none) (tied.top ∙ sym (ap is_some is))
values (suc m) spans coefs top tied is splits n to few =
    let before : (n : ℕ) → n ≤ 2 * m → n < 127 → has_value (coefs n) ≡ is_some (spans n) = values m spans coefs top tied is splits in
    elim (cases_lt n (2 * m + 1)) [
      | inl less ↦ before n (omega (arith, less)) few
      | inr more ↦
          let low : m < 63 = omega (arith, more, few) in
          let both = sides (spans m) (coefs m) (spans (2 * m + 1)) (spans (2 * m + 2)) (splits m (omega (arith, low)))
          (before m (omega arith) (omega (arith, low))) in
          elim (cases_eq n (2 * m + 1)) [
            | inl same ↦ subst (λ (n : ℕ). has_value (coefs n) ≡ is_some (spans n)) (sym same) (tied.left m low ∙ both.0)
            | inr other ↦
                let last : n ≡ 2 * m + 2 = omega (arith, more, other, to) in
                subst (λ (n : ℕ). has_value (coefs n) ≡ is_some (spans n)) (sym last) (tied.right m low ∙ both.1)
          ]
    ]

coef_is : (c : Coef) (left right : Bool) (dmin dmax : ℤ) → c.left ≡ left → c.right ≡ right → c.dmin ≡ dmin → c.dmax ≡ dmax
    → c ≡ (let t : Coef = record { left = left; right = right; dmin = dmin; dmax = dmax } in t)
coef_is c left right dmin dmax e f g h =
    ap₂ (λ (left right : Bool). let t : Coef = record { left = left; right = right; dmin = c.dmin; dmax = c.dmax } in t) e f
    ∙ ap₂ (λ (dmin dmax : ℤ). let t : Coef = record { left = left; right = right; dmin = dmin; dmax = dmax } in t) g h

empty_coef : (c : Coef) → has_value c ≡ false → ((c.left && c.right) ≡ false → IsFlat c) → c ≡ coef_of None None
empty_coef c v flat =
    let none = neither c.left c.right v in
    let zeros : IsFlat c = flat (ap (λ (b : Bool). b && c.right) none.0) in
    coef_is c false false (pos 0) (pos 0) none.0 none.1 zeros.0 zeros.1

joined_by : (s : Option Span) (c : Coef) (l r : Option Span) → HasHalves s c l r → (s ≡ None → c ≡ coef_of None None)
    → (s ≡ hull l r) × (c ≡ coef_of l r)
joined_by None c l r h empty = (sym (ap₂ hull h.0 h.1), empty refl ∙ sym (ap₂ coef_of h.0 h.1))
joined_by (Some s) c l r h empty =
    let are : AreParts s c l r = parts_are s c l r h in (sym are.whole, sym are.coef)

-- spans that are split by a page's coefficients are a heap
pub heap_split : (spans : ℕ → Option Span) (coefs : ℕ → Coef) (top : Span) → AreTied coefs → spans 0 ≡ Some top
    → ((n : ℕ) → n < 127 → IsSplit spans coefs n) → IsHeap spans coefs
heap_split spans coefs top tied is splits = λ n few.
    let value : has_value (coefs n) ≡ is_some (spans n) = values n spans coefs top tied is splits n (omega arith) few in
    let both = joined_by (spans n) (coefs n) (spans (2 * n + 1)) (spans (2 * n + 2)) (splits n few)
    (λ none. empty_coef (coefs n) (value ∙ ap is_some none) (tied.flat n few)) in
    record { span = both.0; coef = both.1 }

-- what spreading answers
pub spread_heap : {A E : Type 0} (r : Result A E) (spans : ℕ → Option Span) (coefs : ℕ → Coef) (top : Span) → AreTied coefs
    → spans 0 ≡ Some top
    → OnOk r ((n : ℕ) → n < 127 → IsSplit spans coefs n) → OnOk r (IsHeap spans coefs)
spread_heap (Ok x) spans coefs top tied is splits = heap_split spans coefs top tied is splits
spread_heap (Err e) spans coefs top tied is splits = tt

pub spread_joined : {A E : Type 0} (r : Result A E) (node : E → ℕ) (spans want : ℕ → Option Span) (coefs : ℕ → Coef) → IsHeap want coefs
    → AreProper want → spans 0 ≡ want 0
    → IfErr r (λ e. IsFirstBad spans coefs (node e)) → OnErr r ⊥
spread_joined (Ok x) node spans want coefs heap proper top bad = tt
spread_joined (Err e) node spans want coefs heap proper top bad = heap_not_bad spans want coefs (node e) heap proper top bad

pub spread_same : {A E : Type 0} (r : Result A E) (spans want : ℕ → Option Span) (coefs : ℕ → Coef) → IsHeap want coefs → AreProper want
    → spans 0 ≡ want 0
    → OnErr r ⊥ → OnOk r ((n : ℕ) → n < 127 → IsSplit spans coefs n) → (n : ℕ) → n < 255 → spans n ≡ want n
spread_same (Ok x) spans want coefs heap proper top none splits n few = heap_found 127 spans want coefs
    (omega arith) heap proper top splits n (omega (arith, few))
spread_same (Err e) spans want coefs heap proper top none splits n few = absurd none
