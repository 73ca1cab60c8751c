-- A span within a flat one is flat.
use Rattle.std.proofs.Common.{ℕ, ℤ, ◌≡◌, ◌%◌, ◌≤ℤ◌, ◌⊎◌, inl, inr, List, Option, None, Some, IsSome, refl, sym, ◌∙◌, subst, arith}
use Rattle.std.specs.Option.{option_map}
use Rattle.std.proofs.lemmas.Bool.{cases_eq}
use Rattle.std.proofs.lemmas.Int.{ints, by_lt_z}
use Rattle.chart_grid.specs.Projection.{height}
use Rattle.om3_coeff.specs.declared.key.Key.{Key}
use Rattle.om3_coeff.specs.declared.span.Span.{Span}
use Rattle.om3_coeff.specs.declared.coef.Coef.{Coef}
use Rattle.om3_coeff.specs.Keys.{first_slot, end_slot, IsAtOrAbove}
use Rattle.om3_coeff.specs.Spans.{AreExtremes, IsSpanOf, IsProperIfAny, hull, span}
use Rattle.om3_coeff.specs.Coefs.{parts}
use Rattle.om3_coeff.specs.Known.{half, known_below}
use Rattle.view_keys.specs.Ranges.{IsInRange}
use Rattle.view_keys.specs.Flat.{IsFlat}
use Rattle.view_keys.specs.Needed.{IsUneven}
use Rattle.view_keys.proofs.Ranging.{above-in_range}
use Rattle.view_keys.proofs.Ends.{Extremes}

-- a greater value is no lower
abbrev pub HeightsRise : Type 0
HeightsRise = (u v lo hi : ℤ) (h : ℕ) → u ≤ℤ v → height u lo hi h ≤ℤ height v lo hi h

-- what splitting a span gives makes that span, and is ordered
abbrev pub PartsJoin : Type 0
PartsJoin = (s : Span) (c : Coef) (left right : Option Span) → parts s c ≡ Some (left, right) → hull left right ≡ Some s

abbrev pub PartsProper : Type 0
PartsProper = (s : Span) (c : Coef) (left right : Option Span) → parts s c ≡ Some (left, right) → IsProperIfAny left × IsProperIfAny right

-- the span s is ordered and lies within t
abbrev pub IsInside : Span → Span → Type 0
IsInside s t = (t.min ≤ℤ s.min) × (s.min ≤ℤ s.max) × (s.max ≤ℤ t.max)

pub squeeze : (a b c d : ℤ) → a ≤ℤ b → b ≤ℤ c → c ≤ℤ d → a ≡ d → b ≡ c
squeeze a b c d low mid high same = omega (arith, ints, low, mid, high, same)

pub inside-flat : HeightsRise → (lo hi : ℤ) (h : ℕ) (s t : Span) → IsInside s t → IsFlat lo hi h t → IsFlat lo hi h s
inside-flat rise lo hi h s t (low, mid, high) flat =
    squeeze (height t.min lo hi h) (height s.min lo hi h) (height s.max lo hi h) (height t.max lo hi h)
    (rise t.min s.min lo hi h low) (rise s.min s.max lo hi h mid) (rise s.max t.max lo hi h high) flat

-- the stored values of a key's range lie within those of a key above it
pub above-inside : (list : List (Option ℤ)) (w k : Key) → Extremes list → IsAtOrAbove w k → (s t : Span)
    → span list k ≡ Some s → span list w ≡ Some t → IsInside s t
above-inside list w k extremes above s t s_is t_is =
    let a : AreExtremes list (first_slot k) (end_slot k) s =
    subst (λ (o : Option Span). IsSpanOf list (first_slot k) (end_slot k) o) s_is (extremes (first_slot k) (end_slot k)) in
    let b : AreExtremes list (first_slot w) (end_slot w) t =
    subst (λ (o : Option Span). IsSpanOf list (first_slot w) (end_slot w) o) t_is (extremes (first_slot w) (end_slot w)) in
    let least : IsInRange w a.least.slot = above-in_range w k a.least.slot above (record { from = a.least.low; to = a.least.high }) in
    let greatest : IsInRange w a.greatest.slot =
    above-in_range w k a.greatest.slot above (record { from = a.greatest.low; to = a.greatest.high }) in (
      b.above a.least.slot s.min least.from least.to a.least.holds,
      a.above a.greatest.slot s.max a.greatest.low a.greatest.high a.greatest.holds,
      b.below a.greatest.slot s.max greatest.from greatest.to a.greatest.holds,
    )

uneven-by : (list : List (Option ℤ)) (lo hi : ℤ) (h : ℕ) (w k : Key) → HeightsRise → Extremes list → IsAtOrAbove w k
    → (o : Option Span) → span list k ≡ o → IsSome o → IsUneven list lo hi h k → IsUneven list lo hi h w
uneven-by list lo hi h w k rise extremes above None is some uneven = absurd (grind (arith, some))
uneven-by list lo hi h w k rise extremes above (Some s) is some uneven =
    λ t t_is flat. uneven s is (inside-flat rise lo hi h s t (above-inside list w k extremes above s t is t_is) flat)

-- what lies above a stored key that isn't flat isn't
pub uneven-above : (list : List (Option ℤ)) (lo hi : ℤ) (h : ℕ) (w k : Key) → HeightsRise → Extremes list → IsAtOrAbove w k
    → IsSome (span list k) → IsUneven list lo hi h k → IsUneven list lo hi h w
uneven-above list lo hi h w k rise extremes above some uneven = uneven-by list lo hi h w k rise extremes above
    (span list k) refl some uneven

left-inside : (s t : Span) (o : Option Span) → IsProperIfAny (Some s) → hull (Some s) o ≡ Some t → IsInside s t
left-inside s t None proper is = grind (arith, ints, proper.ordered, is)
left-inside s t (Some r) proper is = grind (arith, ints, proper.ordered, is)

right-inside : (s t : Span) (o : Option Span) → IsProperIfAny (Some s) → hull o (Some s) ≡ Some t → IsInside s t
right-inside s t None proper is = grind (arith, ints, proper.ordered, is)
right-inside s t (Some l) proper is = grind (arith, ints, proper.ordered, is)

pub left-half : (index : ℕ) (l r : Option Span) → index % 2 ≡ 0 → half index (l, r) ≡ l
left-half index l r even = grind (arith, even)

pub right-half : (index : ℕ) (l r : Option Span) → index % 2 ≡ 1 → half index (l, r) ≡ r
right-half index l r odd = grind (arith, odd)

halves-inside : PartsJoin → PartsProper → (index : ℕ) (s t : Span) (c : Coef) (l r : Option Span) → parts t c ≡ Some (l, r)
    → half index (l, r) ≡ Some s → IsInside s t
halves-inside join proper index s t c l r is chosen =
    elim (cases_eq (index % 2) 0) [
      | inl even ↦
          (let l_is : l ≡ Some s = sym (left-half index l r even) ∙ chosen in
          left-inside s t r (subst (λ (o : Option Span). IsProperIfAny o) l_is (proper t c l r is).0)
          (subst (λ (o : Option Span). hull o r ≡ Some t) l_is (join t c l r is)))
      | inr odd ↦
          (let r_is : r ≡ Some s = sym (right-half index l r (omega (arith, odd))) ∙ chosen in
          right-inside s t l (subst (λ (o : Option Span). IsProperIfAny o) r_is (proper t c l r is).1)
          (subst (λ (o : Option Span). hull l o ≡ Some t) r_is (join t c l r is)))
    ]

inner : {a b : Option Span} → ◌≡◌ {A = Option (Option Span)} (Some a) (Some b) → a ≡ b
inner h = cc

not-some : {s : Span} → ◌≡◌ {A = Option (Option Span)} None (Some (Some s)) → ⊥
not-some h = cc

parts-inside : PartsJoin → PartsProper → (index : ℕ) (s t : Span) (c : Coef) (o : Option (Option Span × Option Span)) → parts t c ≡ o
    → option_map (half index) o ≡ Some (Some s) → IsInside s t
parts-inside join proper index s t c None is chosen = absurd (not-some chosen)
parts-inside join proper index s t c (Some (l, r)) is chosen = halves-inside join proper index s t c l r is (inner chosen)

told-inside : PartsJoin → PartsProper → (index : ℕ) (s t : Span) (c : Option Coef) → known_below index (Some (Some t)) c ≡ Some (Some s)
    → IsInside s t
told-inside join proper index s t None is = absurd (not-some is)
told-inside join proper index s t (Some c) is = parts-inside join proper index s t c (parts t c) refl is

none-apart : {s : Span} → ◌≡◌ {A = Option (Option Span)} (Some None) (Some (Some s)) → ⊥
none-apart h = cc

-- where a key's span is seen, that of the key above it is, and holds it
pub parent-seen : PartsJoin → PartsProper → (index : ℕ) (p : Option (Option Span)) (c : Option Coef) (s : Span)
    → known_below index p c ≡ Some (Some s)
    → (t : Span) × (p ≡ Some (Some t)) × IsInside s t
parent-seen join proper index None c s is = absurd (not-some is)
parent-seen join proper index (Some None) c s is = absurd (none-apart is)
parent-seen join proper index (Some (Some t)) c s is = (t, refl, told-inside join proper index s t c is)

-- whether two numbers are one
same_int : (a b : ℤ) → (a ≡ b) ⊎ (a ≡ b → ⊥)
same_int a b =
    by_lt_z a b (λ low. inr (λ (e : a ≡ b). absurd (omega (arith, ints, low, e))))
    (λ high. by_lt_z b a (λ low. inr (λ (e : a ≡ b). absurd (omega (arith, ints, low, e)))) (λ low. inl (omega (arith, ints, low, high))))

-- the key has a span, and it is flat
abbrev pub IsFlatKey : List (Option ℤ) → ℤ → ℤ → ℕ → Key → Type 0
IsFlatKey list lo hi h k = (s : Span) × (span list k ≡ Some s) × IsFlat lo hi h s

inner-span : {a b : Span} → ◌≡◌ {A = Option Span} (Some a) (Some b) → a ≡ b
inner-span h = cc

none-some : {s : Span} → ◌≡◌ {A = Option Span} None (Some s) → ⊥
none-some h = cc

flat-by : (list : List (Option ℤ)) (lo hi : ℤ) (h : ℕ) (k : Key) (o : Option Span) → span list k ≡ o
    → IsFlatKey list lo hi h k ⊎ (IsFlatKey list lo hi h k → ⊥)
flat-by list lo hi h k None is = inr (λ (f : IsFlatKey list lo hi h k). none-some (sym is ∙ f.1))
flat-by list lo hi h k (Some s) is =
    elim (same_int (height s.min lo hi h) (height s.max lo hi h)) [
      | inl flat ↦ inl (s, is, flat)
      | inr not ↦ inr (λ (f : IsFlatKey list lo hi h k).
          not (subst (λ (t : Span). IsFlat lo hi h t) (inner-span (sym f.1 ∙ is)) f.2))
    ]

pub flat-cases : (list : List (Option ℤ)) (lo hi : ℤ) (h : ℕ) (k : Key) → IsFlatKey list lo hi h k ⊎ (IsFlatKey list lo hi h k → ⊥)
flat-cases list lo hi h k = flat-by list lo hi h k (span list k) refl
