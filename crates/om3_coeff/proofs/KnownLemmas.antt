use Rattle.std.proofs.Common.{ℕ, zero, suc, ℤ, ◌≡◌, ◌+◌, ◌-◌, ◌*◌, ◌/◌, ◌%◌, ◌^◌, ◌<◌, ◌≤◌, ◌⊎◌, inl, inr, cond, List, length, refl, sym}
use Rattle.std.proofs.Common.{◌∙◌, ap, ap₂, subst, arith}
use Rattle.std.proofs.lemmas.Bool.{cases_lt}
use Rattle.std.proofs.lemmas.Nat.{mod_below, shr-shr}
use Rattle.std.proofs.Math.Nat.{div-one}
use Rattle.std.proofs.lemmas.Option.{same_Some}
use Rattle.std.specs.Prelude.{Option, Some, None, IfSome, IsSome, ◌==◌}
use Rattle.std.specs.Option.{option_map}
use Rattle.om3_coeff.specs.declared.key.Key.{Key}
use Rattle.om3_coeff.specs.declared.span.Span.{Span}
use Rattle.om3_coeff.specs.declared.coef.Coef.{Coef}
use Rattle.om3_coeff.specs.Keys.{parent_of, left_of, right_of, height, top_key, IsKey, IsNode, IsAtOrAbove}
use Rattle.om3_coeff.specs.Spans.{AreSlots, IsProperIfAny, hull, span}
use Rattle.om3_coeff.specs.Coefs.{coef_of, coef, parts}
use Rattle.om3_coeff.specs.Known.{half, known_below, known_from, known}
use Rattle.om3_coeff.specs.View.{NodesView, Agrees, known_of}
use Rattle.om3_coeff.specs.Walks.{IsReached}
use Rattle.om3_coeff.proofs.ExtremeLemmas.{span_over-proper}
use Rattle.om3_coeff.proofs.CoefLemmas.{AreParts, parts_joined, parts_are}
use Rattle.om3_coeff.proofs.KeyLemmas.{span_halves, even_half, odd_half, left_parent, right_parent, parent_above, above_on, parent_within}
use Rattle.om3_coeff.proofs.KeyLemmas.{same_key, left_key, right_key}

-- the top has the root's span
pub known_top : (root : Option Span) (told : Key → Option Coef) (n : ℕ) → known root told (height n) (top_key n) ≡ Some root
unfolding known_from
known_top root told n =
    let none : height n - height n ≡ 0 = omega arith in ap (λ d. known_from root told d (height n) 0) none

-- one step down
pub known_step : (root : Option Span) (told : Key → Option Coef) (top : ℕ) (k : Key) → k.level < top
    → known root told top k ≡ known_below k.index (known root told top (parent_of k)) (told (parent_of k))
unfolding known_from
known_step root told top k low =
    let down : top - k.level ≡ suc (top - suc k.level) = omega arith in
    ap (λ d. known_from root told d k.level k.index) down

-- which half a key is
even_is : (index : ℕ) (p : Option Span × Option Span) → index % 2 ≡ 0 → half index p ≡ p.0
even_is index p even = ap (λ n. cond (n == 0) p.0 p.1) even

odd_is : (index : ℕ) (p : Option Span × Option Span) → index % 2 ≡ 1 → half index p ≡ p.1
odd_is index p odd = ap (λ n. cond (n == 0) p.0 p.1) odd

parity : (n : ℕ) → (n % 2 ≡ 0) ⊎ (n % 2 ≡ 1)
parity n = elim (cases_lt (n % 2) 1) [ inl h ↦ inl (omega arith) | inr h ↦ inr (omega (arith, mod_below n 2 (omega arith))) ]

-- what is known is proper where the root is
half_proper : (index : ℕ) (left right : Option Span) → IsProperIfAny left → IsProperIfAny right → IsProperIfAny (half index (left, right))
half_proper index left right pl pr =
    let P : Option Span → Type 0 = λ s. IsProperIfAny s in
    elim (parity index) [
      | inl even ↦ subst P (sym (even_is index (left, right) even)) pl
      | inr odd ↦ subst P (sym (odd_is index (left, right) odd)) pr
    ]

below_parts : (index : ℕ) (s : Span) (c : Coef) (p : Option (Option Span × Option Span)) → parts s c ≡ p
    → IfSome (option_map (half index) p) IsProperIfAny
below_parts index s c None e = tt
below_parts index s c (Some p) e =
    let h : AreParts s c p.0 p.1 = parts_are s c p.0 p.1 e in half_proper index p.0 p.1 h.left_proper h.right_proper

below_proper : (index : ℕ) (k : Option (Option Span)) (c : Option Coef) → IfSome k IsProperIfAny
    → IfSome (known_below index k c) IsProperIfAny
below_proper index None c h = tt
below_proper index (Some None) c h = tt
below_proper index (Some (Some s)) None h = tt
below_proper index (Some (Some s)) (Some c) h = below_parts index s c (parts s c) refl

from_proper : (root : Option Span) (told : Key → Option Coef) (depth level index : ℕ) → IsProperIfAny root
    → IfSome (known_from root told depth level index) IsProperIfAny
unfolding known_from
from_proper root told zero level index proper = proper
from_proper root told (suc depth) level index proper =
    below_proper index (known_from root told depth (suc level) (index / 2)) (told (record { level = suc level; index = index / 2 }))
    (from_proper root told depth (suc level) (index / 2) proper)

pub known_proper : (root : Option Span) (told : Key → Option Coef) (top : ℕ) (k : Key) → IsProperIfAny root
    → IfSome (known root told top k) IsProperIfAny
known_proper root told top k proper = from_proper root told (top - k.level) k.level k.index proper

-- below a key that has no span none has one
below_none : (index : ℕ) (k : Option (Option Span)) (c : Option Coef) → k ≡ Some None → known_below index k c ≡ Some None
below_none index k c e = ap (λ k. known_below index k c) e

clear_from : (root : Option Span) (told : Key → Option Coef) (top gap : ℕ) (w k : Key) → w.level ≤ top → w.level ≡ k.level + gap
    → k.index / 2 ^ gap ≡ w.index
    → known root told top w ≡ Some None → known root told top k ≡ Some None
clear_from root told top zero w k high levels place clear =
    let P : Key → Type 0 = λ k. known root told top k ≡ Some None in
    subst P (same_key w k (omega arith) (sym place ∙ div-one k.index)) clear
clear_from root told top (suc gap) w k high levels place clear =
    let widths : k.index / 2 / 2 ^ gap ≡ k.index / 2 ^ suc gap =
    shr-shr k.index 1 gap ∙ ap (λ n. k.index / 2 ^ n) (omega arith) in
    known_step root told top k (omega arith)
    ∙ below_none k.index (known root told top (parent_of k)) (told (parent_of k))
    (clear_from root told top gap w (parent_of k) high (omega arith) (widths ∙ place) clear)

-- below a key that is known to have no span none has one
pub known_clear : (root : Option Span) (told : Key → Option Coef) (top : ℕ) (w k : Key) → w.level ≤ top → IsAtOrAbove w k
    → known root told top w ≡ Some None → known root told top k ≡ Some None
known_clear root told top w k high above clear =
    clear_from root told top (w.level - k.level) w k high (omega (arith, above.higher)) above.holds clear

-- a key's span by its parent's
hull_none : (a b : Option Span) → hull a b ≡ None → (a ≡ None) × (b ≡ None)
hull_none None b e = (refl, e)
hull_none (Some a) None e = absurd (cc)
hull_none (Some a) (Some b) e = absurd (cc)

by_half : (P : Option Span → Type 0) (list : List (Option ℤ)) (k : Key) → (k.index % 2 ≡ 0 → P (span list (left_of (parent_of k))))
    → (k.index % 2 ≡ 1 → P (span list (right_of (parent_of k))))
    → P (span list k)
by_half P list k left right =
    let Q : Key → Type 0 = λ k. P (span list k) in
    elim (parity k.index) [
      | inl even ↦ subst Q (even_half k even) (left even)
      | inr odd ↦ subst Q (odd_half k odd) (right odd)
    ]

parent_low : (k : Key) → 1 ≤ (parent_of k).level
parent_low k = omega arith

none_half : (list : List (Option ℤ)) (k : Key) → span list (parent_of k) ≡ None → span list k ≡ None
none_half list k none =
    let both : (span list (left_of (parent_of k)) ≡ None) × (span list (right_of (parent_of k)) ≡ None) =
    hull_none (span list (left_of (parent_of k))) (span list (right_of (parent_of k))) (sym (span_halves list (parent_of k) (parent_low k))
    ∙ none) in
    by_half (λ s. s ≡ None) list k (λ even. both.0) (λ odd. both.1)

some_half : (list : List (Option ℤ)) (k : Key) (s : Span) → AreSlots list → span list (parent_of k) ≡ Some s
    → option_map (half k.index) (parts s (coef list (parent_of k))) ≡ Some (span list k)
some_half list k s values some =
    let l : Option Span = span list (left_of (parent_of k)) in
    let r : Option Span = span list (right_of (parent_of k)) in
    let split : parts s (coef_of l r) ≡ Some (l, r) =
    parts_joined l r s (span_over-proper list _ _ values) (span_over-proper list _ _ values)
    (sym (span_halves list (parent_of k) (parent_low k)) ∙ some) in
    ap (option_map (half k.index)) split
    ∙ by_half (λ t. Some (half k.index (let p : Option Span × Option Span = (l, r) in p)) ≡ Some t) list k
    (λ even. ap (λ t. Some t) (even_is k.index (l, r) even))
    (λ odd. ap (λ t. Some t) (odd_is k.index (l, r) odd))

known_half : (list : List (Option ℤ)) (k : Key) (s : Option Span) (c : Option Coef) → AreSlots list → span list (parent_of k) ≡ s
    → (IsSome s → c ≡ Some (coef list (parent_of k))) → known_below k.index (Some s) c ≡ Some (span list k)
known_half list k None c values is told = ap (λ s. Some s) (sym (none_half list k is))
known_half list k (Some s) c values is told =
    ap (λ c. known_below k.index (Some (Some s)) c) (told refl) ∙ some_half list k s values is

-- the told coefficients above a key are the list's
abbrev IsToldAbove : (Key → Option Coef) → List (Option ℤ) → Key → Type 0
IsToldAbove told list k = (w : Key) → IsNode (height (length list)) w → k.level < w.level → IsAtOrAbove w k → IsSome (span list w)
    → told w ≡ Some (coef list w)

spans_from : (root : Option Span) (told : Key → Option Coef) (list : List (Option ℤ)) (depth : ℕ) (k : Key) → AreSlots list
    → root ≡ span list (top_key (length list))
    → k.level + depth ≡ height (length list) → k.index < 2 ^ depth → IsToldAbove told list k
    → known root told (height (length list)) k ≡ Some (span list k)
spans_from root told list zero k values is levels within above =
    let at_top : top_key (length list) ≡ k = same_key (top_key (length list)) k (omega arith) (omega arith) in
    let P : Key → Type 0 = λ k. known root told (height (length list)) k ≡ Some (span list k) in
    subst P at_top (known_top root told (length list) ∙ ap (λ s. Some s) is)
spans_from root told list (suc depth) k values is levels within above =
    let p : Key = parent_of k in
    let low : k.level < height (length list) = omega arith in
    let gap : height (length list) - suc k.level ≡ depth = omega arith in
    let place : k.index < 2 ^ (height (length list) - k.level) = subst (λ n. k.index < 2 ^ n)
    (let e : suc depth ≡ height (length list) - k.level = omega arith in e) within in
    let fits : p.index < 2 ^ (height (length list) - suc k.level) = parent_within (height (length list)) k low place in
    let fits_depth : p.index < 2 ^ depth = subst (λ n. p.index < 2 ^ n) gap fits in
    let node : IsNode (height (length list)) p = record { low = parent_low k; high = omega arith; within = fits } in
    let known_parent : known root told (height (length list)) p ≡ Some (span list p) =
    spans_from root told list depth p values is (omega arith) fits_depth
    (λ w here higher over some. above w here (omega arith) (above_on w p k over (parent_above k)) some) in
    known_step root told (height (length list)) k low
    ∙ ap (λ s. known_below k.index s (told p)) known_parent
    ∙ known_half list k (span list p) (told p) values refl (λ some. above p node (omega arith) (parent_above k) some)

-- where what is told above a key is the list's, its span is known, and the list's
pub known_spans : (root : Option Span) (told : Key → Option Coef) (list : List (Option ℤ)) (k : Key) → AreSlots list
    → root ≡ span list (top_key (length list))
    → IsKey (height (length list)) k → IsToldAbove told list k → known root told (height (length list)) k ≡ Some (span list k)
known_spans root told list k values is key above =
    spans_from root told list (height (length list) - k.level) k values is (omega (arith, key.high)) key.within above

-- nodes that agree with a list know each key's span
pub agrees_known : (view : NodesView) (list : List (Option ℤ)) (k : Key) → Agrees view list → IsKey (height view.slots) k
    → known_of view k ≡ Some (span list k)
agrees_known view list k agrees key =
    let P : ℕ → Type 0 = λ n. IsKey (height n) k in
    ap (λ n. known view.root view.told (height n) k) agrees.slots
    ∙ known_spans view.root view.told list k agrees.values agrees.root (subst P agrees.slots key)
    (λ w node low above some. agrees.told w node some tt)

-- what an ask shows of the halves
known_left : (root : Option Span) (told : Key → Option Coef) (top : ℕ) (k : Key) (s : Span) (c : Coef) (left right : Option Span)
    → IsNode top k
    → known root told top k ≡ Some (Some s) → told k ≡ Some c → parts s c ≡ Some (left, right) → known root told top (left_of k) ≡ Some left
known_left root told top k s c left right node seen is split =
    known_step root told top (left_of k) (omega (arith, node.low, node.high))
    ∙ ap (λ p. known_below (2 * k.index) (known root told top p) (told p)) (left_parent k node.low)
    ∙ ap₂ (λ (a : Option (Option Span)) (b : Option Coef). known_below (2 * k.index) a b) seen is
    ∙ ap (option_map (half (2 * k.index))) split
    ∙ ap (λ t. Some t) (even_is (2 * k.index) (left, right) (omega arith))

known_right : (root : Option Span) (told : Key → Option Coef) (top : ℕ) (k : Key) (s : Span) (c : Coef) (left right : Option Span)
    → IsNode top k
    → known root told top k ≡ Some (Some s) → told k ≡ Some c → parts s c ≡ Some (left, right)
    → known root told top (right_of k) ≡ Some right
known_right root told top k s c left right node seen is split =
    known_step root told top (right_of k) (omega (arith, node.low, node.high))
    ∙ ap (λ p. known_below (2 * k.index + 1) (known root told top p) (told p)) (right_parent k node.low)
    ∙ ap₂ (λ (a : Option (Option Span)) (b : Option Coef). known_below (2 * k.index + 1) a b) seen is
    ∙ ap (option_map (half (2 * k.index + 1))) split
    ∙ ap (λ t. Some t) (odd_is (2 * k.index + 1) (left, right) (omega arith))

pub reached_left : (view : NodesView) (k : Key) (s : Span) (c : Coef) (left right : Option Span) → IsNode (height view.slots) k
    → (view.tells → known_of view k ≡ Some (Some s)) → (view.tells → view.told k ≡ Some c) → parts s c ≡ Some (left, right)
    → IsReached view (left_of k) left
reached_left view k s c left right node seen is split = record {
  key = left_key (height view.slots) k node;
  proper = (parts_are s c left right split).left_proper;
  known = λ tells. known_left view.root view.told (height view.slots) k s c left right node (seen tells) (is tells) split;
}

pub reached_right : (view : NodesView) (k : Key) (s : Span) (c : Coef) (left right : Option Span) → IsNode (height view.slots) k
    → (view.tells → known_of view k ≡ Some (Some s)) → (view.tells → view.told k ≡ Some c) → parts s c ≡ Some (left, right)
    → IsReached view (right_of k) right
reached_right view k s c left right node seen is split = record {
  key = right_key (height view.slots) k node;
  proper = (parts_are s c left right split).right_proper;
  known = λ tells. known_right view.root view.told (height view.slots) k s c left right node (seen tells) (is tells) split;
}

-- the span of a key that a walk has come to is that of a list with which the nodes agree
pub reached_span : (view : NodesView) (list : List (Option ℤ)) (k : Key) (s : Option Span) → Agrees view list → IsReached view k s
    → s ≡ span list k
reached_span view list k s agrees reached =
    same_Some s (span list k) (sym (reached.known agrees.tells) ∙ agrees_known view list k agrees reached.key)
