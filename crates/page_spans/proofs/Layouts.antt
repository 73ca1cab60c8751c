-- Heaps keep the rules of a page's flags and differences.
use Rattle.std.proofs.Common.{ℕ, ℤ, List, ◌≡◌, ◌+◌, ◌*◌, ◌/◌, ◌%◌, ◌<◌, sym, ◌∙◌, ap, subst, refl, ◌-ℤ◌, Bool, true, false, ◌==◌, cond}
use Rattle.std.proofs.Common.{arith}
use Rattle.std.proofs.lemmas.Int.{ints}
use Rattle.std.proofs.lemmas.Bool.{eqb-true, eqb-false}
use Rattle.std.specs.Prelude.{Option, None, Some, Result, Ok, Err, OnOk, is_some}
use Rattle.om3_coeff.specs.declared.span.Span.{Span}
use Rattle.om3_coeff.specs.declared.coef.Coef.{Coef}
use Rattle.om3_coeff.specs.Spans.{IsProperIfAny, hull}
use Rattle.whole_number.specs.Range.{IsValue, IsTime}
use Rattle.om3_coeff.specs.Coefs.{coef_of}
use Rattle.node_page.specs.Fields.{coef_at}
use Rattle.node_page.specs.Layout.{AreDifferences, HasDifferences, has_value, has_child}
use Rattle.page_spans.specs.Heaps.{AreProper, IsHeap}
use Rattle.page_spans.proofs.HeapLemmas.{coef-left, coef-right}

hull-some : (l r : Option Span) → has_value (coef_of l r) ≡ is_some (hull l r)
hull-some None None = refl
hull-some None (Some r) = refl
hull-some (Some l) None = refl
hull-some (Some l) (Some r) = refl

value_is : (spans : ℕ → Option Span) (coefs : ℕ → Coef) (n : ℕ) → n < 127 → IsHeap spans coefs → has_value (coefs n) ≡ is_some (spans n)
value_is spans coefs n few heap =
    let here = heap n few in ap has_value here.coef ∙ hull-some (spans (2 * n + 1)) (spans (2 * n + 2)) ∙ sym (ap is_some here.span)

left_is : (spans : ℕ → Option Span) (coefs : ℕ → Coef) (n : ℕ) → n < 127 → IsHeap spans coefs → (coefs n).left ≡ is_some (spans (2 * n + 1))
left_is spans coefs n few heap = ap (λ (c : Coef). c.left) (heap n few).coef ∙ coef-left (spans (2 * n + 1)) (spans (2 * n + 2))

right_is : (spans : ℕ → Option Span) (coefs : ℕ → Coef) (n : ℕ) → n < 127 → IsHeap spans coefs
    → (coefs n).right ≡ is_some (spans (2 * n + 2))
right_is spans coefs n few heap = ap (λ (c : Coef). c.right) (heap n few).coef ∙ coef-right (spans (2 * n + 1)) (spans (2 * n + 2))

apart : (a b : ℤ) → IsValue a → IsValue b → IsTime (a -ℤ b)
apart a b va vb = grind (arith, ints, va, vb)

differences : (l r : Option Span) → IsProperIfAny l → IsProperIfAny r → HasDifferences (coef_of l r)
differences None None pl pr = record { least = omega arith; greatest = omega arith; flat = λ e. (refl, refl) }
differences None (Some r) pl pr = record { least = omega arith; greatest = omega arith; flat = λ e. (refl, refl) }
differences (Some l) None pl pr = record { least = omega arith; greatest = omega arith; flat = λ e. (refl, refl) }
differences (Some l) (Some r) pl pr = record {
  least = apart l.min r.min pl.low pr.low;
  greatest = apart l.max r.max pl.high pr.high;
  flat = λ e. absurd (cc);
}

pub heap_differences : (spans : ℕ → Option Span) (page : List ℕ) → IsHeap spans (coef_at page) → AreProper spans → AreDifferences page
heap_differences spans page heap proper = λ n few.
    subst HasDifferences (sym (heap n few).coef)
    (differences (spans (2 * n + 1)) (spans (2 * n + 2)) (proper (2 * n + 1) (omega (arith, few)))
    (proper (2 * n + 2) (omega (arith, few))))

side_cases : (b x y z : Bool) → (b ≡ true → x ≡ z) → (b ≡ false → y ≡ z) → cond b x y ≡ z
side_cases true x y z f g = f refl
side_cases false x y z f g = g refl

pub heap_children : (spans : ℕ → Option Span) (page : List ℕ) → IsHeap spans (coef_at page) → (child : ℕ) → child < 128
    → has_child page child ≡ is_some (spans (127 + child))
heap_children spans page heap child few =
    let n = 63 + child / 2 in
    let low : n < 127 = omega (arith, few) in
    let c : Coef = coef_at page n in
    side_cases (child % 2 == 0) c.left c.right (is_some (spans (127 + child)))
    (λ e.
    let even : child % 2 ≡ 0 = eqb-true (child % 2) 0 e in
    let place : 2 * n + 1 ≡ 127 + child = omega (arith, even) in
    left_is spans (coef_at page) n low heap ∙ ap (λ (n : ℕ). is_some (spans n)) place)
    (λ e.
    let odd : child % 2 ≡ 0 → ⊥ = eqb-false (child % 2) 0 e in
    let place : 2 * n + 2 ≡ 127 + child = omega (arith, odd) in
    right_is spans (coef_at page) n low heap ∙ ap (λ (n : ℕ). is_some (spans n)) place)

pub spread_children : {A E : Type 0} (r : Result A E) (spans : ℕ → Option Span) (page : List ℕ) → OnOk r (IsHeap spans (coef_at page))
    → OnOk r ((child : ℕ) → child < 128 → has_child page child ≡ is_some (spans (127 + child)))
spread_children (Ok x) spans page heap = heap_children spans page heap
spread_children (Err e) spans page heap = tt
