-- What the parts of a walk add to the cover.
use Rattle.std.proofs.Common.{ℕ, ℤ, zero, suc, pos, ◌≡◌, ◌+◌, ◌-◌, ◌/◌, ◌^◌, ◌<◌, ◌≤◌, ◌≤ℤ◌, ◌⊎◌, inl, inr, Option, None, Some, min, max}
use Rattle.std.proofs.Common.{refl, sym, ap, ◌∙◌, subst, arith}
use Rattle.std.specs.Int.{int_min, int_max}
use Rattle.std.specs.Option.{option_map}
use Rattle.std.proofs.lemmas.Int.{ints}
use Rattle.std.proofs.lemmas.Bool.{cases_lt}
use Rattle.line_raster.specs.Canvas.{Canvas, Adds}
use Rattle.line_raster.proofs.Drawn.{both, alike, none}
use Rattle.om3_coeff.specs.declared.key.Key.{Key}
use Rattle.om3_coeff.specs.declared.span.Span.{Span}
use Rattle.om3_coeff.specs.declared.coef.Coef.{Coef}
use Rattle.om3_coeff.specs.Keys.{first_slot, end_slot, left_of, right_of, parent_of, IsAtOrAbove}
use Rattle.om3_coeff.specs.Coefs.{parts}
use Rattle.om3_coeff.specs.Spans.{hull}
use Rattle.om3_coeff.specs.Known.{half, known_below}
use Rattle.om3_coeff.proofs.KeyLemmas.{left_first, right_end}
use Rattle.view_keys.proofs.Ranging.{shared-above, parent-above}
use Rattle.view_cover.specs.declared.area.Area.{Area}
use Rattle.view_cover.specs.Area.{InArea, both_areas, with_last}
use Rattle.view_cover.specs.Scene.{Scene, known_in, IsSeen, IsDrawnIn}
use Rattle.view_cover.specs.Front.{IsLowest, IsInFront, IsFreeBetween, AreConsecutive}
use Rattle.view_cover.specs.Cover.{bottom, top, InRectangle, InBox}
use Rattle.view_cover.specs.Walk.{IsReached, AreColumnsIn, IsAreaOf, IsLastBefore, InPart}
use Rattle.view_cover.proofs.Spans.{Basis, not-known}
use Rattle.view_cover.proofs.Trees.{peak, above-trans, above-both, level-same, known-under, seen-one, ranges-apart, left-parent}
use Rattle.view_cover.proofs.Trees.{right-parent}
use Rattle.view_cover.proofs.Fronts.{lowest-apart, seen-left, seen-right}
use Rattle.view_cover.proofs.Shrinking.{drawn-above}
use Rattle.view_cover.proofs.Ends.{some-slots}

none-some : {u : Span} → ◌≡◌ {A = Option Span} None (Some u) → ⊥
none-some h = cc

-- a span that is split leaves one to some half
hull-some : (l r : Option Span) (s : Span) → hull l r ≡ Some s → ((a : Span) × (l ≡ Some a)) ⊎ ((b : Span) × (r ≡ Some b))
hull-some (Some a) r s is = inl (a, refl)
hull-some None (Some b) s is = inr (b, refl)
hull-some None None s is = absurd (none-some is)

-- what is above a known key is known
below-some : (index : ℕ) (p : Option (Option Span)) (c : Option Coef) (o : Option Span) → known_below index p c ≡ Some o
    → (r : Option Span) × (p ≡ Some r)
below-some index None c o is = absurd (not-known is)
below-some index (Some r) c o is = (r, refl)

above-some : Basis → (scene : Scene) (w : Key) → w.level ≤ peak scene → (fuel : ℕ) (k : Key) (o : Option Span) → w.level ≤ k.level + fuel
    → IsAtOrAbove w k
    → known_in scene k ≡ Some o → (r : Option Span) × (known_in scene w ≡ Some r)
above-some by scene w high zero k o few above is =
    (o, ap (λ (b : Key). known_in scene b) (level-same w k above (omega (arith, few))) ∙ is)
above-some by scene w high (suc fuel) k o few above is =
    elim (cases_lt k.level w.level) [
      | inr same ↦ (o, ap (λ (b : Key). known_in scene b) (level-same w k above same) ∙ is)
      | inl low ↦
          (let p = below-some k.index (known_in scene (parent_of k)) (scene.told (parent_of k)) o
          (sym (by.below scene.root scene.told (peak scene) k (omega (arith, low, high))) ∙ is) in
          above-some by scene w high fuel (parent_of k) p.0 (omega (arith, few))
          (above-both w (parent_of k) k above (parent-above k) low) p.1)
    ]

-- nothing is known below a lowest key
lowest-split : Basis → (scene : Scene) (w : Key) (t : Span) (c : Coef) → 1 ≤ w.level → IsLowest scene w t → scene.told w ≡ Some c
    → (o : Option (Option Span × Option Span)) → parts t c ≡ o → (index : ℕ) (r : Option Span) → option_map (half index) o ≡ Some r → ⊥
lowest-split by scene w t c low lowest is None split index r found = not-known found
lowest-split by scene w t c low lowest is (Some (l, r)) split index found_r found =
    elim (hull-some l r t (by.join t c l r split)) [
      | inl a ↦ lowest.no_half (left_of w) a.0 (left-parent w low) (seen-left by scene w t c l r a.0 low lowest.seen is split a.1)
      | inr b ↦ lowest.no_half (right_of w) b.0 (right-parent w low) (seen-right by scene w t c l r b.0 low lowest.seen is split b.1)
    ]

lowest-told : Basis → (scene : Scene) (w : Key) (t : Span) → 1 ≤ w.level → IsLowest scene w t → (c : Option Coef) → scene.told w ≡ c
    → (index : ℕ) (r : Option Span) → known_below index (Some (Some t)) c ≡ Some r → ⊥
lowest-told by scene w t low lowest None is index r found = not-known found
lowest-told by scene w t low lowest (Some c) is index r found = lowest-split by scene w t c low lowest is (parts t c) refl index r found

lowest-unknown : Basis → (scene : Scene) (w k : Key) (t : Span) (o : Option Span) → IsLowest scene w t → IsAtOrAbove w k → k.level < w.level
    → known_in scene k ≡ Some o → ⊥
lowest-unknown by scene w k t o lowest above under is =
    let part : Key = record { level = w.level - 1; index = k.index / 2 ^ (w.level - 1 - k.level) } in
    let over : IsAtOrAbove part k = record { higher = omega (arith, under); holds = refl } in
    let found = above-some by scene part (omega (arith, lowest.seen.key.high)) part.level k o (omega arith) over is in
    let up : IsAtOrAbove w (parent_of part) = above-both w (parent_of part) k above
    (above-trans (parent_of part) part k (parent-above part) over) (omega (arith, under)) in
    let same : parent_of part ≡ w = sym (level-same w (parent_of part) up (omega (arith, under))) in
    lowest-told by scene w t (omega (arith, under)) lowest (scene.told w) refl part.index found.0
    (sym (known-under by scene part w (Some (Some t)) same lowest.seen.key.high lowest.seen.span) ∙ found.1)

-- how a lowest key lies to one that a walk has come to
pub places : Basis → (scene : Scene) (k : Key) (o : Option Span) → IsReached scene k o → (m : Key) (u : Span) → IsLowest scene m u
    → IsAtOrAbove k m ⊎ ((end_slot m ≤ first_slot k) ⊎ (end_slot k ≤ first_slot m))
places by scene k o reached m u lowest =
    elim (ranges-apart k m) [
      | inr apart ↦ elim apart [ inl behind ↦ inr (inr behind) | inr before ↦ inr (inl before) ]
      | inl shared ↦ elim (cases_lt k.level m.level) [
        | inl under ↦ absurd (lowest-unknown by scene m k u o lowest
            (shared-above m k shared.0 (omega (arith, under)) shared.2 shared.1) under reached.known_so)
        | inr over ↦ inl (shared-above k m shared.0 over shared.1 shared.2)
      ]
    ]

-- where no key of the front lies at or below a key, none lies between its ends
free-below : Basis → (scene : Scene) (k : Key) (o : Option Span) → IsReached scene k o
    → ((m : Key) (u : Span) → IsInFront scene m u → IsAtOrAbove k m → ⊥)
    → IsFreeBetween scene (first_slot k) (end_slot k)
free-below by scene k o reached none m u front from to =
    elim (places by scene k o reached m u front.lowest) [
      | inl above ↦ none m u front above
      | inr apart ↦ elim apart [
        | inl before ↦ absurd (omega (arith, before, from, some-slots m))
        | inr behind ↦ absurd (omega (arith, behind, to, some-slots m))
      ]
    ]

pub empty-free : Basis → (scene : Scene) (k : Key) → IsReached scene k None → IsFreeBetween scene (first_slot k) (end_slot k)
empty-free by scene k reached =
    free-below by scene k None reached (λ m u front above.
    empty-some (sym (by.clear scene.root scene.told (peak scene) k m reached.key.high above reached.known_so) ∙ front.lowest.seen.span))
  where
    empty-some : {v : Span} → ◌≡◌ {A = Option (Option Span)} (Some None) (Some (Some v)) → ⊥
    empty-some h = cc

pub undrawn-free : Basis → (scene : Scene) (k : Key) (o : Option Span) → IsReached scene k o
    → ((c : ℕ) → IsDrawnIn scene.axis scene.grid k c → ⊥)
    → IsFreeBetween scene (first_slot k) (end_slot k)
undrawn-free by scene k o reached none =
    free-below by scene k o reached (λ m u front above. none front.column
    (drawn-above scene.axis scene.grid k m front.column above front.drawn))

free-on : Basis → (scene : Scene) (k : Key) (o : Option Span) (a : ℕ) → IsReached scene k o → IsFreeBetween scene a (first_slot k)
    → IsFreeBetween scene (first_slot k) (end_slot k)
    → IsFreeBetween scene a (end_slot k)
free-on by scene k o a reached before within m u front from to =
    elim (places by scene k o reached m u front.lowest) [
      | inl above ↦ within m u front (by.first k m above) to
      | inr apart ↦ elim apart [
        | inl early ↦ before m u front from early
        | inr behind ↦ absurd (omega (arith, behind, to, some-slots m))
      ]
    ]

-- a part with no key of the front adds nothing
pub last-free : Basis → (scene : Scene) (k : Key) (o : Option Span) (last : Option Area) → IsReached scene k o
    → IsFreeBetween scene (first_slot k) (end_slot k)
    → IsLastBefore scene (first_slot k) last → IsLastBefore scene (end_slot k) last
last-free by scene k o None reached within before = free-on by scene k o 0 reached before within
last-free by scene k o (Some area) reached within before = (
  before.0,
  before.1,
  before.2,
  omega (arith, before.3, some-slots k),
  free-on by scene k o (end_slot before.0) reached before.4 within,
  before.5,
)

pub part-free : (scene : Scene) (a b : ℕ) (c : Canvas) → IsFreeBetween scene a b → Adds (λ x y. InPart scene a b x (pos y)) c c
part-free scene a b c free =
    none (λ x y. InPart scene a b x (pos y)) c (λ x y column row h. elim h [
      | inl s ↦ free s.key s.span s.front s.from s.to
      | inr j ↦ free j.next j.next_span j.next_front j.from j.to
    ])

wider : (scene : Scene) (a b p q x : ℕ) (y : ℤ) → p ≤ a → b ≤ q → InPart scene a b x y → InPart scene p q x y
wider scene a b p q x y low high (inl s) = inl (record {
  key = s.key;
  span = s.span;
  front = s.front;
  from = omega (arith, low, s.from);
  to = omega (arith, high, s.to);
  pixel = s.pixel;
})
wider scene a b p q x y low high (inr j) = inr (record {
  key = j.key;
  span = j.span;
  front = j.front;
  next = j.next;
  next_span = j.next_span;
  next_front = j.next_front;
  consecutive = j.consecutive;
  from = omega (arith, low, j.from);
  to = omega (arith, high, j.to);
  pixel = j.pixel;
})

-- a key of the front in a range lies in the one or in the other half
in-half : Basis → (scene : Scene) (k : Key) (o : Option Span) → 1 ≤ k.level → IsReached scene (left_of k) o → (m : Key) (u : Span)
    → IsInFront scene m u
    → first_slot k ≤ first_slot m → end_slot m ≤ end_slot k → (end_slot m ≤ end_slot (left_of k)) ⊎ (end_slot (left_of k) ≤ first_slot m)
in-half by scene k o low reached m u front from to =
    elim (places by scene (left_of k) o reached m u front.lowest) [
      | inl above ↦ inl (by.last (left_of k) m above)
      | inr apart ↦ elim apart [
        | inl before ↦ absurd (omega (arith, before, from, some-slots m, left_first k low))
        | inr behind ↦ inr behind
      ]
    ]

split-part : Basis → (scene : Scene) (k : Key) (o : Option Span) → 1 ≤ k.level → IsReached scene (left_of k) o → (x : ℕ) (y : ℤ)
    → InPart scene (first_slot k) (end_slot k) x y
    → InPart scene (first_slot (left_of k)) (end_slot (left_of k)) x y ⊎ InPart scene (first_slot (right_of k)) (end_slot (right_of k)) x y
split-part by scene k o low reached x y (inl s) =
    elim (in-half by scene k o low reached s.key s.span s.front s.from s.to) [
      | inl early ↦ inl (inl (record {
        key = s.key;
        span = s.span;
        front = s.front;
        from = omega (arith, s.from, left_first k low);
        to = early;
        pixel = s.pixel;
      }))
      | inr late ↦ inr (inl (record {
        key = s.key;
        span = s.span;
        front = s.front;
        from = late;
        to = omega (arith, s.to, right_end k low);
        pixel = s.pixel;
      }))
    ]
split-part by scene k o low reached x y (inr j) =
    elim (in-half by scene k o low reached j.next j.next_span j.next_front j.from j.to) [
      | inl early ↦ inl (inr (record {
        key = j.key;
        span = j.span;
        front = j.front;
        next = j.next;
        next_span = j.next_span;
        next_front = j.next_front;
        consecutive = j.consecutive;
        from = omega (arith, j.from, left_first k low);
        to = early;
        pixel = j.pixel;
      }))
      | inr late ↦ inr (inr (record {
        key = j.key;
        span = j.span;
        front = j.front;
        next = j.next;
        next_span = j.next_span;
        next_front = j.next_front;
        consecutive = j.consecutive;
        from = late;
        to = omega (arith, j.to, right_end k low);
        pixel = j.pixel;
      }))
    ]

pub part-halves : Basis → (scene : Scene) (k l r : Key) (o : Option Span) (a b c : Canvas) → 1 ≤ k.level → l ≡ left_of k → r ≡ right_of k
    → IsReached scene (left_of k) o
    → Adds (λ x y. InPart scene (first_slot l) (end_slot l) x (pos y)) a b
    → Adds (λ x y. InPart scene (first_slot r) (end_slot r) x (pos y)) b c
    → Adds (λ x y. InPart scene (first_slot k) (end_slot k) x (pos y)) a c
part-halves by scene k l r o a b c low l_is r_is reached first second =
    let L : ℕ → ℕ → Type 0 = λ x y. InPart scene (first_slot (left_of k)) (end_slot (left_of k)) x (pos y) in
    let R : ℕ → ℕ → Type 0 = λ x y. InPart scene (first_slot (right_of k)) (end_slot (right_of k)) x (pos y) in
    let one : Adds L a b = subst (λ (w : Key). Adds (λ x y. InPart scene (first_slot w) (end_slot w) x (pos y)) a b) l_is first in
    let two : Adds R b c = subst (λ (w : Key). Adds (λ x y. InPart scene (first_slot w) (end_slot w) x (pos y)) b c) r_is second in
    let from = left_first k low in
    let to = right_end k low in
    let left_slots = some-slots (left_of k) in
    let right_slots = some-slots (right_of k) in
    alike (λ x y. L x y ⊎ R x y) (λ x y. InPart scene (first_slot k) (end_slot k) x (pos y)) a c (both L R a b c one two)
    (λ x y column row. (
      (λ h. elim h [
        | inl e ↦ wider scene (first_slot (left_of k)) (end_slot (left_of k)) (first_slot k) (end_slot k) x (pos y) (omega (arith, from))
            (omega (arith, to, right_slots)) e
        | inr e ↦ wider scene (first_slot (right_of k)) (end_slot (right_of k)) (first_slot k) (end_slot k) x (pos y)
            (omega (arith, from, left_slots)) (omega (arith, to)) e
      ]),
      (λ h. split-part by scene k o low reached x (pos y) h),
    ))

-- the only key of the front in the range of a lowest key is that key
one-front : Basis → (scene : Scene) (k m : Key) (s u : Span) → IsLowest scene k s → IsInFront scene m u → first_slot k ≤ first_slot m
    → end_slot m ≤ end_slot k → m ≡ k
one-front by scene k m s u lowest front from to =
    elim (lowest-apart by scene m k u s front.lowest lowest) [
      | inl same ↦ same
      | inr apart ↦ elim apart [
        | inl before ↦ absurd (omega (arith, before, from, some-slots m))
        | inr behind ↦ absurd (omega (arith, behind, to, some-slots m))
      ]
    ]

-- the key of the front before another one is the last one
one-before : Basis → (scene : Scene) (k l m : Key) (s u : Span) → IsInFront scene k s → end_slot k ≤ first_slot l
    → IsFreeBetween scene (end_slot k) (first_slot l)
    → IsInFront scene m u → AreConsecutive scene m l → m ≡ k
one-before by scene k l m s u front order free front_m next =
    elim (lowest-apart by scene m k u s front_m.lowest front.lowest) [
      | inl same ↦ same
      | inr apart ↦ elim apart [
        | inl before ↦ absurd (next.none_between k s front before order)
        | inr behind ↦ absurd (free m u front_m behind next.order)
      ]
    ]

-- a rectangle by the boxes of two keys
left-drawn : (scene : Scene) (k l : Key) (a b c d : ℕ) → AreColumnsIn scene.axis scene.grid k a c → AreColumnsIn scene.axis scene.grid l b d
    → (n : ℕ) × (IsDrawnIn scene.axis scene.grid k n ⊎ IsDrawnIn scene.axis scene.grid l n) × (n ≤ min a b)
left-drawn scene k l a b c d of_k of_l =
    elim (cases_lt a b) [
      | inl low ↦ (a, inl of_k.left_drawn, omega (arith, low))
      | inr high ↦ (b, inr of_l.left_drawn, omega (arith, high))
    ]

right-drawn : (scene : Scene) (k l : Key) (a b c d : ℕ) → AreColumnsIn scene.axis scene.grid k a c
    → AreColumnsIn scene.axis scene.grid l b d
    → (n : ℕ) × (IsDrawnIn scene.axis scene.grid k n ⊎ IsDrawnIn scene.axis scene.grid l n) × (max c d ≤ n)
right-drawn scene k l a b c d of_k of_l =
    elim (cases_lt c d) [
      | inl low ↦ (d, inr of_l.right_drawn, omega (arith, low))
      | inr high ↦ (c, inl of_k.right_drawn, omega (arith, high))
    ]

rows-from : (a b p q y : ℤ) → a ≡ p → b ≡ q → int_min a b ≤ℤ y → int_min p q ≤ℤ y
rows-from a b p q y e f h = grind (arith, ints, e, f, h)

rows-to : (a b p q y : ℤ) → a ≡ p → b ≡ q → y ≤ℤ int_max a b → y ≤ℤ int_max p q
rows-to a b p q y e f h = grind (arith, ints, e, f, h)

area-rectangle : (scene : Scene) (k l : Key) (s t : Span) (a b : Area) → IsAreaOf scene k s a → IsAreaOf scene l t b → (x : ℕ) (y : ℤ)
    → InArea (both_areas a b) x y → InRectangle scene k s l t x y
area-rectangle scene k l s t a b of_k of_l x y h =
    let first = left-drawn scene k l a.left b.left a.right b.right of_k.columns of_l.columns in
    let last = right-drawn scene k l a.left b.left a.right b.right of_k.columns of_l.columns in
    record {
      columns = record {
        first = first.0;
        first_drawn = first.1;
        from = omega (arith, first.2, h.from);
        last = last.0;
        last_drawn = last.1;
        to = omega (arith, last.2, h.to);
      };
      above = rows-from a.low b.low (bottom scene s) (bottom scene t) y of_k.low of_l.low h.above;
      below = rows-to a.high b.high (top scene s) (top scene t) y of_k.high of_l.high h.below;
    }

drawn-left : (scene : Scene) (k l : Key) (a b c d n : ℕ) → AreColumnsIn scene.axis scene.grid k a c
    → AreColumnsIn scene.axis scene.grid l b d
    → IsDrawnIn scene.axis scene.grid k n ⊎ IsDrawnIn scene.axis scene.grid l n → (min a b ≤ n) × (n ≤ max c d)
drawn-left scene k l a b c d n of_k of_l (inl h) = (omega (arith, of_k.none_left n h), omega (arith, of_k.none_right n h))
drawn-left scene k l a b c d n of_k of_l (inr h) = (omega (arith, of_l.none_left n h), omega (arith, of_l.none_right n h))

rectangle-area : (scene : Scene) (k l : Key) (s t : Span) (a b : Area) → IsAreaOf scene k s a → IsAreaOf scene l t b → (x : ℕ) (y : ℤ)
    → InRectangle scene k s l t x y → InArea (both_areas a b) x y
rectangle-area scene k l s t a b of_k of_l x y h =
    let first = drawn-left scene k l a.left b.left a.right b.right h.columns.first of_k.columns of_l.columns h.columns.first_drawn in
    let last = drawn-left scene k l a.left b.left a.right b.right h.columns.last of_k.columns of_l.columns h.columns.last_drawn in
    record {
      from = omega (arith, first.0, h.columns.from);
      to = omega (arith, last.1, h.columns.to);
      above = rows-from (bottom scene s) (bottom scene t) a.low b.low y (sym of_k.low) (sym of_l.low) h.above;
      below = rows-to (top scene s) (top scene t) a.high b.high y (sym of_k.high) (sym of_l.high) h.below;
    }

-- one box alone
twice : (a : Area) (x : ℕ) (y : ℤ) → InArea a x y → InArea (both_areas a a) x y
twice a x y h = record {
  from = omega (arith, h.from);
  to = omega (arith, h.to);
  above = grind (arith, ints, h.above);
  below = grind (arith, ints, h.below);
}

once : (a : Area) (x : ℕ) (y : ℤ) → InArea (both_areas a a) x y → InArea a x y
once a x y h = record {
  from = omega (arith, h.from);
  to = omega (arith, h.to);
  above = grind (arith, ints, h.above);
  below = grind (arith, ints, h.below);
}

second : (a b : Area) (x : ℕ) (y : ℤ) → InArea b x y → InArea (both_areas a b) x y
second a b x y h = record {
  from = omega (arith, h.from);
  to = omega (arith, h.to);
  above = grind (arith, ints, h.above);
  below = grind (arith, ints, h.below);
}

-- a box of the key m is one of the key k, where both are one
box-same : (scene : Scene) (k m : Key) (s u : Span) → m ≡ k → IsSeen scene k s → IsSeen scene m u → (x : ℕ) (y : ℤ) → InBox scene m u x y
    → InBox scene k s x y
box-same scene k m s u same seen_k seen_m x y h =
    let one : IsSeen scene k u = subst (λ (w : Key). IsSeen scene w u) same seen_m in
    subst (λ (v : Span). InBox scene k v x y) (seen-one scene k u s one seen_k) (subst (λ (w : Key). InBox scene w u x y) same h)

join-same : (scene : Scene) (k m l n : Key) (s u t v : Span) → m ≡ k → n ≡ l → IsSeen scene k s → IsSeen scene m u → IsSeen scene l t
    → IsSeen scene n v → (x : ℕ) (y : ℤ)
    → InRectangle scene m u n v x y → InRectangle scene k s l t x y
join-same scene k m l n s u t v same next seen_k seen_m seen_l seen_n x y h =
    let one : IsSeen scene k u = subst (λ (w : Key). IsSeen scene w u) same seen_m in
    let two : IsSeen scene l v = subst (λ (w : Key). IsSeen scene w v) next seen_n in
    subst (λ (b : Span). InRectangle scene k s l b x y) (seen-one scene l v t two seen_l)
    (subst (λ (b : Span). InRectangle scene k b l v x y) (seen-one scene k u s one seen_k)
    (subst (λ (w : Key). InRectangle scene k u w v x y) next
    (subst (λ (w : Key). InRectangle scene w u n v x y) same h)))

-- what a lowest key adds, behind the last one before it
added-to : (scene : Scene) (k : Key) (s : Span) (area : Area) (last : Option Area) → IsInFront scene k s → IsAreaOf scene k s area
    → IsLastBefore scene (first_slot k) last
    → (x : ℕ) (y : ℤ) → InArea (with_last last area) x y → InPart scene (first_slot k) (end_slot k) x y
added-to scene k s area None front is before x y h =
    inl (record {
      key = k;
      span = s;
      front = front;
      from = omega arith;
      to = omega arith;
      pixel = area-rectangle scene k k s s area area is is x y (twice area x y h);
    })
added-to scene k s area (Some b) front is before x y h =
    inr (record {
      key = before.0;
      span = before.1;
      front = before.2;
      next = k;
      next_span = s;
      next_front = front;
      consecutive = record { order = before.3; none_between = before.4 };
      from = omega arith;
      to = omega arith;
      pixel = area-rectangle scene before.0 k before.1 s b area before.5 is x y h;
    })

added-box : (scene : Scene) (k : Key) (s : Span) (area : Area) (last : Option Area) → IsAreaOf scene k s area → (x : ℕ) (y : ℤ)
    → InBox scene k s x y → InArea (with_last last area) x y
added-box scene k s area None is x y h = once area x y (rectangle-area scene k k s s area area is is x y h)
added-box scene k s area (Some b) is x y h = second b area x y (once area x y (rectangle-area scene k k s s area area is is x y h))

added-join : Basis → (scene : Scene) (k : Key) (s : Span) (area : Area) (last : Option Area) → IsInFront scene k s → IsAreaOf scene k s area
    → IsLastBefore scene (first_slot k) last
    → (m n : Key) (u v : Span) → n ≡ k → IsInFront scene m u → IsInFront scene n v → AreConsecutive scene m k → (x : ℕ) (y : ℤ)
    → InRectangle scene m u n v x y → InArea (with_last last area) x y
added-join by scene k s area None front is before m n u v same front_m front_n next x y h = absurd
    (before m u front_m (omega arith) next.order)
added-join by scene k s area (Some b) front is before m n u v same front_m front_n next x y h =
    let one = one-before by scene before.0 k m before.1 u before.2 before.3 before.4 front_m next in
    rectangle-area scene before.0 k before.1 s b area before.5 is x y
    (join-same scene before.0 m k n before.1 u s v one same before.2.lowest.seen front_m.lowest.seen front.lowest.seen front_n.lowest.seen x
    y h)

added-from : Basis → (scene : Scene) (k : Key) (s : Span) (area : Area) (last : Option Area) → IsInFront scene k s → IsAreaOf scene k s area
    → IsLastBefore scene (first_slot k) last
    → (x : ℕ) (y : ℤ) → InPart scene (first_slot k) (end_slot k) x y → InArea (with_last last area) x y
added-from by scene k s area last front is before x y (inl h) =
    added-box scene k s area last is x y
    (box-same scene k h.key s h.span (one-front by scene k h.key s h.span front.lowest h.front h.from h.to) front.lowest.seen
    h.front.lowest.seen x y h.pixel)
added-from by scene k s area last front is before x y (inr j) =
    let same = one-front by scene k j.next s j.next_span front.lowest j.next_front j.from j.to in
    added-join by scene k s area last front is before j.key j.next j.span j.next_span same j.front j.next_front
    (subst (λ (w : Key). AreConsecutive scene j.key w) same j.consecutive) x y j.pixel

pub part-lowest : Basis → (scene : Scene) (k : Key) (s : Span) (area : Area) (last : Option Area) (a b : Canvas) → IsInFront scene k s
    → IsAreaOf scene k s area
    → IsLastBefore scene (first_slot k) last → Adds (λ x y. InArea (with_last last area) x (pos y)) a b
    → Adds (λ x y. InPart scene (first_slot k) (end_slot k) x (pos y)) a b
part-lowest by scene k s area last a b front is before drawn =
    alike (λ x y. InArea (with_last last area) x (pos y)) (λ x y. InPart scene (first_slot k) (end_slot k) x (pos y)) a b drawn
    (λ x y column row. (
      λ h. added-to scene k s area last front is before x (pos y) h,
      λ h. added-from by scene k s area last front is before x (pos y) h,
    ))

pub last-lowest : (scene : Scene) (k : Key) (s : Span) (area : Area) → IsInFront scene k s → IsAreaOf scene k s area
    → IsLastBefore scene (end_slot k) (Some area)
last-lowest scene k s area front is = (k, s, front, omega arith, λ m u front_m from to. absurd (omega (arith, from, to, some-slots m)), is)
