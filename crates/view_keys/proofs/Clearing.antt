-- A key all of whose slots are known to hold nothing is known to hold nothing.
use Rattle.std.proofs.Common.{ℕ, zero, suc, ◌≡◌, ◌+◌, ◌*◌, ◌/◌, ◌%◌, ◌<◌, ◌≤◌, Option, None, Some, refl, sym, ap, ◌∙◌, subst, arith}
use Rattle.std.specs.Option.{option_map}
use Rattle.om3_coeff.specs.declared.key.Key.{Key}
use Rattle.om3_coeff.specs.declared.span.Span.{Span}
use Rattle.om3_coeff.specs.declared.coef.Coef.{Coef}
use Rattle.om3_coeff.specs.Keys.{parent_of}
use Rattle.om3_coeff.specs.Spans.{hull}
use Rattle.om3_coeff.specs.Coefs.{parts}
use Rattle.om3_coeff.specs.Known.{half, known_below}
use Rattle.view_keys.specs.Ranges.{IsInRange}
use Rattle.view_keys.proofs.Ranging.{above-in_range, slot_key, slot_key-in_range, make_key, parent-above}
use Rattle.view_keys.proofs.Flatness.{PartsJoin, left-half, right-half}

none-hull : {s : Span} → ◌≡◌ {A = Option Span} None (Some s) → ⊥
none-hull h = cc

not-none : ◌≡◌ {A = Option (Option Span)} None (Some None) → ⊥
not-none h = cc

inner : {a b : Option Span} → ◌≡◌ {A = Option (Option Span)} (Some a) (Some b) → a ≡ b
inner h = cc

parts-clear : PartsJoin → (left right : ℕ) → left % 2 ≡ 0 → right % 2 ≡ 1 → (s : Span) (c : Coef) (o : Option (Option Span × Option Span))
    → parts s c ≡ o
    → option_map (half left) o ≡ Some None → option_map (half right) o ≡ Some None → ⊥
parts-clear join left right even odd s c None is l r = not-none l
parts-clear join left right even odd s c (Some (a, b)) is l r =
    let a_is : a ≡ None = sym (left-half left a b even) ∙ inner l in
    let b_is : b ≡ None = sym (right-half right a b odd) ∙ inner r in
    let whole : hull a b ≡ Some s = join s c a b is in
    let none : hull None None ≡ Some s = subst (λ (o : Option Span). hull None o ≡ Some s) b_is
    (subst (λ (o : Option Span). hull o b ≡ Some s) a_is whole) in
    none-hull none

halves-clear : PartsJoin → (left right : ℕ) → left % 2 ≡ 0 → right % 2 ≡ 1 → (p : Option (Option Span)) (c : Option Coef)
    → known_below left p c ≡ Some None → known_below right p c ≡ Some None → p ≡ Some None
halves-clear join left right even odd None c l r = l
halves-clear join left right even odd (Some None) c l r = refl
halves-clear join left right even odd (Some (Some s)) None l r = absurd (not-none l)
halves-clear join left right even odd (Some (Some s)) (Some c) l r = absurd (parts-clear join left right even odd s c (parts s c) refl l r)

parent-is : (level index part : ℕ) → part / 2 ≡ index → parent_of (make_key level part) ≡ make_key (suc level) index
parent-is level index part is = ap (λ i. make_key (suc level) i) is

slots-clear-by : PartsJoin → (of_key : Key → Option (Option Span)) (told : Key → Option Coef) (top : ℕ)
    → ((k : Key) → k.level < top → of_key k ≡ known_below k.index (of_key (parent_of k)) (told (parent_of k)))
    → (level index : ℕ) → level ≤ top → ((j : ℕ) → IsInRange (make_key level index) j → of_key (slot_key j) ≡ Some None)
    → of_key (make_key level index) ≡ Some None
slots-clear-by join of_key told top below zero index high clear = clear index (slot_key-in_range index)
slots-clear-by join of_key told top below (suc level) index high clear =
    let l_is : parent_of (make_key level (2 * index)) ≡ make_key (suc level) index = parent-is level index (2 * index) (omega arith) in
    let r_is : parent_of (make_key level (2 * index + 1)) ≡ make_key (suc level) index = parent-is level index (2 * index + 1)
    (omega arith) in
    let l : of_key (make_key level (2 * index)) ≡ Some None =
    slots-clear-by join of_key told top below level (2 * index) (omega (arith, high))
    (λ j r. clear j (subst (λ (w : Key). IsInRange w j) l_is
    (above-in_range (parent_of (make_key level (2 * index))) (make_key level (2 * index)) j (parent-above (make_key level (2 * index))) r)))
    in
    let r : of_key (make_key level (2 * index + 1)) ≡ Some None =
    slots-clear-by join of_key told top below level (2 * index + 1) (omega (arith, high))
    (λ j r. clear j (subst (λ (w : Key). IsInRange w j) r_is
    (above-in_range (parent_of (make_key level (2 * index + 1))) (make_key level (2 * index + 1)) j
    (parent-above (make_key level (2 * index + 1))) r))) in
    halves-clear join (2 * index) (2 * index + 1) (omega arith) (omega arith) (of_key (make_key (suc level) index))
    (told (make_key (suc level) index))
    (subst (λ (w : Key). known_below (2 * index) (of_key w) (told w) ≡ Some None) l_is
    (sym (below (make_key level (2 * index)) (omega (arith, high))) ∙ l))
    (subst (λ (w : Key). known_below (2 * index + 1) (of_key w) (told w) ≡ Some None) r_is
    (sym (below (make_key level (2 * index + 1)) (omega (arith, high))) ∙ r))

pub slots-clear : PartsJoin → (of_key : Key → Option (Option Span)) (told : Key → Option Coef) (top : ℕ)
    → ((k : Key) → k.level < top → of_key k ≡ known_below k.index (of_key (parent_of k)) (told (parent_of k)))
    → (k : Key) → k.level ≤ top → ((j : ℕ) → IsInRange k j → of_key (slot_key j) ≡ Some None) → of_key k ≡ Some None
slots-clear join of_key told top below k high clear = slots-clear-by join of_key told top below k.level k.index high clear

seen-apart : {s : Span} → ◌≡◌ {A = Option (Option Span)} (Some None) (Some (Some s)) → ⊥
seen-apart h = cc

-- not all slots of a seen key are
pub seen-unclear : PartsJoin → (of_key : Key → Option (Option Span)) (told : Key → Option Coef) (top : ℕ)
    → ((k : Key) → k.level < top → of_key k ≡ known_below k.index (of_key (parent_of k)) (told (parent_of k)))
    → (k : Key) (s : Span) → k.level ≤ top → of_key k ≡ Some (Some s) → ((j : ℕ) → IsInRange k j → of_key (slot_key j) ≡ Some None) → ⊥
seen-unclear join of_key told top below k s high is clear = seen-apart (sym (slots-clear join of_key told top below k high clear) ∙ is)
