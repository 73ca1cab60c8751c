use Rattle.std.proofs.Common.{ℕ, ℤ, ◌≡◌, ◌^◌, ◌≤◌, List, length, refl, sym, ◌∙◌, ap, ap₂, subst, arith}
use Rattle.std.proofs.lemmas.Option.{same_Some}
use Rattle.std.specs.Prelude.{Option, Some, IsSome}
use Rattle.om3_coeff.specs.declared.key.Key.{Key}
use Rattle.om3_coeff.specs.declared.span.Span.{Span}
use Rattle.om3_coeff.specs.declared.coef.Coef.{Coef}
use Rattle.om3_coeff.specs.Keys.{left_of, right_of, height, top_key, IsNode}
use Rattle.om3_coeff.specs.Spans.{AreSlots, IsProperIfAny, hull, span_over, span}
use Rattle.om3_coeff.specs.Coefs.{coef_of, parts}
use Rattle.om3_coeff.specs.View.{Agrees, known_of}
use Rattle.om3_coeff.specs.ListNodes.{list_view}
use Rattle.om3_coeff.proofs.SpanLemmas.{span_over-all}
use Rattle.om3_coeff.proofs.ExtremeLemmas.{span_over-proper}
use Rattle.om3_coeff.proofs.CoefLemmas.{parts_joined}
use Rattle.om3_coeff.proofs.KeyLemmas.{height_covers, span_halves}
use Rattle.om3_coeff.proofs.KnownLemmas.{agrees_known}
use Rattle.om3_coeff.proofs.WalkLemmas.{top_first, top_end}

-- the top's span is that of all slots
pub top_span : (list : List (Option ℤ)) → length list ≤ 2 ^ 35 → span list (top_key (length list)) ≡ span_over list 0 (length list)
top_span list few =
    ap₂ (span_over list) (top_first (length list)) (top_end (length list))
    ∙ span_over-all list (2 ^ height (length list)) (height_covers (length list) few)
    ∙ sym (span_over-all list (length list) (omega arith))

-- nodes over a list agree with it
pub list_agrees : (list : List (Option ℤ)) (asked : Option Key) → AreSlots list → length list ≤ 2 ^ 35 → Agrees (list_view list asked) list
list_agrees list asked values few = record {
  values = values;
  few = few;
  slots = refl;
  root = sym (top_span list few);
  tells = tt;
  told = λ k node some concerns. refl;
}

-- the span of a node that was asked is the list's
pub list_seen : (list : List (Option ℤ)) (asked : Option Key) (k : Key) (s : Span) → AreSlots list → length list ≤ 2 ^ 35
    → IsNode (height (length list)) k
    → known_of (list_view list asked) k ≡ Some (Some s) → span list k ≡ Some s
list_seen list asked k s values few node seen =
    same_Some (span list k) (Some s)
    (sym (agrees_known (list_view list asked) list k (list_agrees list asked values few)
    (record { high = node.high; within = node.within })) ∙ seen)

some_is : (p : Option (Option Span × Option Span)) (q : Option Span × Option Span) → p ≡ Some q → IsSome p
some_is p q e = let P : Option (Option Span × Option Span) → Type 0 = λ p. IsSome p in subst P (sym e) refl

-- so its coefficient splits it
pub list_splits : (list : List (Option ℤ)) (asked : Option Key) (k left right : Key) (s : Span) (l r : Option Span) (c : Coef)
    → AreSlots list → length list ≤ 2 ^ 35 → IsNode (height (length list)) k
    → known_of (list_view list asked) k ≡ Some (Some s) → left ≡ left_of k → right ≡ right_of k → l ≡ span list left → r ≡ span list right
    → c ≡ coef_of l r → IsSome (parts s c)
list_splits list asked k left right s l r c values few node seen el er e f joined =
    let is_left : l ≡ span list (left_of k) = e ∙ ap (span list) el in
    let is_right : r ≡ span list (right_of k) = f ∙ ap (span list) er in
    let whole : hull l r ≡ Some s = ap₂ hull is_left is_right ∙ sym (span_halves list k node.low)
    ∙ list_seen list asked k s values few node seen in
    let P : Option Span → Type 0 = λ s. IsProperIfAny s in
    let pl : IsProperIfAny l = subst P (sym is_left) (span_over-proper list _ _ values) in
    let pr : IsProperIfAny r = subst P (sym is_right) (span_over-proper list _ _ values) in
    some_is (parts s c) (l, r) (ap (parts s) joined ∙ parts_joined l r s pl pr whole)

pub proper_at : (list : List (Option ℤ)) (a b : ℕ) (s : Option Span) → AreSlots list → s ≡ span_over list a b → IsProperIfAny s
proper_at list a b s values e = let P : Option Span → Type 0 = λ s. IsProperIfAny s in subst P (sym e) (span_over-proper list a b values)
