-- Spans of keys and of those above them.
use Rattle.std.proofs.Common.{ℕ, ℤ, zero, suc, ◌≡◌, ◌-◌, ◌/◌, ◌%◌, ◌≤◌, ◌<◌, ◌≤ℤ◌, inl, inr, Option, None, Some, refl, sym, ap, ◌∙◌, subst}
use Rattle.std.proofs.Common.{arith}
use Rattle.std.specs.Option.{option_map}
use Rattle.std.proofs.lemmas.Bool.{cases_eq}
use Rattle.std.proofs.lemmas.Int.{ints}
use Rattle.om3_coeff.specs.declared.key.Key.{Key}
use Rattle.om3_coeff.specs.declared.span.Span.{Span}
use Rattle.om3_coeff.specs.declared.coef.Coef.{Coef}
use Rattle.om3_coeff.specs.Keys.{first_slot, end_slot, parent_of, IsAtOrAbove}
use Rattle.om3_coeff.specs.Spans.{IsProperIfAny, hull}
use Rattle.om3_coeff.specs.Coefs.{parts}
use Rattle.om3_coeff.specs.Known.{half, known_below, known_from, known}
use Rattle.view_keys.proofs.Flatness.{HeightsRise, PartsJoin, PartsProper}

-- what the laws rest on
pub record Basis : Type 0 where
  pub heights : HeightsRise
  pub join : PartsJoin
  pub proper : PartsProper
  pub below : (root : Option Span) (told : Key → Option Coef) (top : ℕ) (k : Key) → k.level < top
      → known root told top k ≡ known_below k.index (known root told top (parent_of k)) (told (parent_of k))
  pub clear : (root : Option Span) (told : Key → Option Coef) (top : ℕ) (w k : Key) → w.level ≤ top → IsAtOrAbove w k
      → known root told top w ≡ Some None → known root told top k ≡ Some None
  pub first : (w k : Key) → IsAtOrAbove w k → first_slot w ≤ first_slot k
  pub last : (w k : Key) → IsAtOrAbove w k → end_slot k ≤ end_slot w

-- the span s lies within t
pub record IsPart (s t : Span) : Type 0 where
  pub low : t.min ≤ℤ s.min
  pub high : s.max ≤ℤ t.max

pub part-same : (s : Span) → IsPart s s
part-same s = record { low = omega (arith, ints); high = omega (arith, ints) }

pub part-trans : (s t u : Span) → IsPart s t → IsPart t u → IsPart s u
part-trans s t u a b = record { low = omega (arith, ints, a.low, b.low); high = omega (arith, ints, a.high, b.high) }

left-part : (s t : Span) (o : Option Span) → IsProperIfAny (Some s) → hull (Some s) o ≡ Some t → IsPart s t
left-part s t None proper is = record { low = grind (arith, ints, proper.ordered, is); high = grind (arith, ints, proper.ordered, is) }
left-part s t (Some r) proper is = record { low = grind (arith, ints, proper.ordered, is); high = grind (arith, ints, proper.ordered, is) }

right-part : (s t : Span) (o : Option Span) → IsProperIfAny (Some s) → hull o (Some s) ≡ Some t → IsPart s t
right-part s t None proper is = record { low = grind (arith, ints, proper.ordered, is); high = grind (arith, ints, proper.ordered, is) }
right-part s t (Some l) proper is = record { low = grind (arith, ints, proper.ordered, is); high = grind (arith, ints, proper.ordered, is) }

pub left-half : (index : ℕ) (l r : Option Span) → index % 2 ≡ 0 → half index (l, r) ≡ l
left-half index l r even = grind (arith, even)

pub right-half : (index : ℕ) (l r : Option Span) → index % 2 ≡ 1 → half index (l, r) ≡ r
right-half index l r odd = grind (arith, odd)

halves-part : PartsJoin → PartsProper → (index : ℕ) (s t : Span) (c : Coef) (l r : Option Span) → parts t c ≡ Some (l, r)
    → half index (l, r) ≡ Some s → IsPart s t
halves-part join proper index s t c l r is chosen =
    elim (cases_eq (index % 2) 0) [
      | inl even ↦
          (let l_is : l ≡ Some s = sym (left-half index l r even) ∙ chosen in
          left-part s t r (subst (λ (o : Option Span). IsProperIfAny o) l_is (proper t c l r is).0)
          (subst (λ (o : Option Span). hull o r ≡ Some t) l_is (join t c l r is)))
      | inr odd ↦
          (let r_is : r ≡ Some s = sym (right-half index l r (omega (arith, odd))) ∙ chosen in
          right-part s t l (subst (λ (o : Option Span). IsProperIfAny o) r_is (proper t c l r is).1)
          (subst (λ (o : Option Span). hull l o ≡ Some t) r_is (join t c l r is)))
    ]

pub inner : {a b : Option Span} → ◌≡◌ {A = Option (Option Span)} (Some a) (Some b) → a ≡ b
inner h = cc

pub one-span : {s t : Span} → ◌≡◌ {A = Option (Option Span)} (Some (Some s)) (Some (Some t)) → s ≡ t
one-span h = cc

pub not-known : {s : Option Span} → ◌≡◌ {A = Option (Option Span)} None (Some s) → ⊥
not-known h = cc

pub not-empty : {s : Span} → ◌≡◌ {A = Option (Option Span)} (Some None) (Some (Some s)) → ⊥
not-empty h = cc

parts-part : PartsJoin → PartsProper → (index : ℕ) (s t : Span) (c : Coef) (o : Option (Option Span × Option Span)) → parts t c ≡ o
    → option_map (half index) o ≡ Some (Some s) → IsPart s t
parts-part join proper index s t c None is chosen = absurd (not-known chosen)
parts-part join proper index s t c (Some (l, r)) is chosen = halves-part join proper index s t c l r is (inner chosen)

told-part : PartsJoin → PartsProper → (index : ℕ) (s t : Span) (c : Option Coef) → known_below index (Some (Some t)) c ≡ Some (Some s)
    → IsPart s t
told-part join proper index s t None is = absurd (not-known is)
told-part join proper index s t (Some c) is = parts-part join proper index s t c (parts t c) refl is

-- where a key's span is seen, that of the key above it is, and holds it
pub parent-seen : PartsJoin → PartsProper → (index : ℕ) (p : Option (Option Span)) (c : Option Coef) (s : Span)
    → known_below index p c ≡ Some (Some s)
    → (t : Span) × (p ≡ Some (Some t)) × IsPart s t
parent-seen join proper index None c s is = absurd (not-known is)
parent-seen join proper index (Some None) c s is = absurd (not-empty is)
parent-seen join proper index (Some (Some t)) c s is = (t, refl, told-part join proper index s t c is)

-- more coefficients show no less
mono-below : (index : ℕ) (p q : Option (Option Span)) (c d : Option Coef) (o : Option Span)
    → ((r : Option Span) → p ≡ Some r → q ≡ Some r) → ((e : Coef) → c ≡ Some e → d ≡ Some e)
    → known_below index p c ≡ Some o → known_below index q d ≡ Some o
mono-below index None q c d o of_p of_c is = absurd (not-known is)
mono-below index (Some None) q c d o of_p of_c is = subst (λ (r : Option (Option Span)). known_below index r d ≡ Some o)
    (sym (of_p None refl)) is
mono-below index (Some (Some s)) q None d o of_p of_c is = absurd (not-known is)
mono-below index (Some (Some s)) q (Some e) d o of_p of_c is =
    subst (λ (r : Option (Option Span)). known_below index r d ≡ Some o) (sym (of_p (Some s) refl))
    (subst (λ (f : Option Coef). known_below index (Some (Some s)) f ≡ Some o) (sym (of_c e refl)) is)

more-from : (root : Option Span) (told more : Key → Option Coef) → ((k : Key) (c : Coef) → told k ≡ Some c → more k ≡ Some c)
    → (depth level index : ℕ) (o : Option Span)
    → known_from root told depth level index ≡ Some o → known_from root more depth level index ≡ Some o
unfolding known_from
more-from root told more tells zero level index o is = is
more-from root told more tells (suc depth) level index o is =
    let above : Key = record { level = suc level; index = index / 2 } in
    mono-below index (known_from root told depth (suc level) (index / 2)) (known_from root more depth (suc level) (index / 2)) (told above)
    (more above) o
    (λ r h. more-from root told more tells depth (suc level) (index / 2) r h) (λ e h. tells above e h) is

pub known-more : (root : Option Span) (told more : Key → Option Coef) → ((k : Key) (c : Coef) → told k ≡ Some c → more k ≡ Some c)
    → (top : ℕ) (k : Key) (o : Option Span)
    → known root told top k ≡ Some o → known root more top k ≡ Some o
known-more root told more tells top k o is = more-from root told more tells (top - k.level) k.level k.index o is

-- the top has the root's span
pub known-top : (root : Option Span) (told : Key → Option Coef) (top : ℕ) (k : Key) → top ≤ k.level → known root told top k ≡ Some root
unfolding known_from
known-top root told top k high =
    let none : top - k.level ≡ 0 = omega (arith, high) in
    ap (λ (n : ℕ). known_from root told n k.level k.index) none
