-- From one column to the next that has a stored slot: the keys at both ends are consecutive.
use Rattle.std.proofs.Common.{ℕ, ℤ, zero, suc, ◌≡◌, ◌+◌, ◌^◌, ◌<◌, ◌≤◌, ◌≤ℤ◌, inl, inr, List, Option, Some, subst, arith}
use Rattle.std.proofs.lemmas.Bool.{cases_lt}
use Rattle.std.proofs.lemmas.Int.{ints}
use Rattle.chart_grid.specs.Projection.{height}
use Rattle.om3_coeff.specs.declared.key.Key.{Key}
use Rattle.om3_coeff.specs.declared.span.Span.{Span}
use Rattle.om3_coeff.specs.Keys.{first_slot, end_slot, parent_of, IsAtOrAbove}
use Rattle.om3_coeff.specs.Spans.{Holds}
use Rattle.om3_coeff.specs.Coefs.{coef}
use Rattle.view_keys.specs.Ranges.{IsInRange}
use Rattle.view_keys.proofs.Ranging.{above-in_range, shared-above, parent-above, first-in_range}
use Rattle.view_cover.specs.Scene.{Scene, IsSeen}
use Rattle.view_cover.specs.Front.{AreConsecutive}
use Rattle.view_cover.specs.Cover.{bottom, top}
use Rattle.view_cover.proofs.Spans.{Basis, IsPart}
use Rattle.view_cover.proofs.Trees.{peak, seen-one, seen-parent, seen-above, ranges-apart}
use Rattle.view_cover.proofs.Listed.{Sums, Tells, Listed, Found, IsLevel, extremes-of, half-listed, top-listed}
use Rattle.view_cover.proofs.Filling.{AreOrdered}
use Rattle.view_cover.proofs.Parts.{places}
use Rattle.view_cover.proofs.Steps.{seen-reached}
use Rattle.view_cover.proofs.Ends.{HasLast, HasFirst, some-slots}

-- a view, all of whose needed keys are told of a list, and what that rests on
pub record Told (list : List (Option ℤ)) (scene : Scene) : Type 0 where
  pub by : Basis
  pub sums : Sums
  pub tells : Tells list scene
  pub few : scene.axis.slots ≤ 2 ^ 35
  pub ordered : AreOrdered scene

-- the last and the first stored slot of two columns, with none between them
pub record Gap (list : List (Option ℤ)) (scene : Scene) (i j c d : ℕ) : Type 0 where
  pub order : i < j
  pub none : (r : ℕ) (v : ℤ) → i < r → r < j → Holds list r v → ⊥
  pub left : Found list scene i (λ k s. IsLevel scene c k s)
  pub right : Found list scene j (λ k s. IsLevel scene d k s)
  pub apart : c < d

-- the keys of both ends don't meet
ends-apart : (list : List (Option ℤ)) (scene : Scene) (i j c d : ℕ) → (g : Gap list scene i j c d)
    → end_slot g.left.key ≤ first_slot g.right.key
ends-apart list scene i j c d g =
    elim (ranges-apart g.left.key g.right.key) [
      | inl shared ↦ absurd (omega (
        arith,
        g.apart,
        (g.left.sought.within shared.0 shared.1).place,
        (g.right.sought.within shared.0 shared.2).place,
      ))
      | inr apart ↦ elim apart [
        | inl order ↦ order
        | inr turned ↦ absurd (omega (arith, turned, g.order, g.left.in_range.from, g.right.in_range.to))
      ]
    ]

-- a key that holds a slot of the gap and a stored one lies above that of one of the ends, so it is told with the list's coefficient
told-over-left : (list : List (Option ℤ)) (scene : Scene) (i : ℕ) (IsSought : Key → Span
    → Type 0) (f : Found list scene i IsSought) (p : Key) (m : ℕ) → p.level ≤ peak scene
    → IsInRange p i → IsInRange p m → (IsInRange f.key m → ⊥) → scene.told p ≡ Some (coef list p)
told-over-left list scene i IsSought f p m high holds_i holds_m out =
    elim (cases_lt f.key.level p.level) [
      | inl strict ↦ f.under p high (shared-above p f.key i (omega (arith, strict)) holds_i f.in_range) strict
      | inr low ↦ absurd (out (above-in_range f.key p m (shared-above f.key p i low f.in_range holds_i) holds_m))
    ]

told-over : (list : List (Option ℤ)) (scene : Scene) → Told list scene → (i j c d : ℕ) (g : Gap list scene i j c d) (p : Key)
    → Listed list scene p → (m : ℕ) → IsInRange p m
    → end_slot g.left.key ≤ m → m < first_slot g.right.key → scene.told p ≡ Some (coef list p)
told-over list scene of i j c d g p listed m r from to =
    let least = (extremes-of of.sums list p listed.span listed.is).least in
    elim (cases_lt i least.slot) [
      | inr early ↦ told-over-left list scene i (λ k s. IsLevel scene c k s) g.left p m listed.seen.key.high
          (record { from = omega (arith, least.low, early); to = omega (arith, g.left.in_range.to, from, r.to) }) r
          (λ h. absurd (omega (arith, h.to, from)))
      | inl behind ↦ elim (cases_lt least.slot j) [
        | inl before ↦ absurd (g.none least.slot listed.span.min behind before least.holds)
        | inr late ↦ told-over-left list scene j (λ k s. IsLevel scene d k s) g.right p m listed.seen.key.high
            (record { from = omega (arith, r.from, to, g.right.in_range.from); to = omega (arith, late, least.high) }) r
            (λ h. absurd (omega (arith, h.from, to)))
      ]
    ]

climb : (list : List (Option ℤ)) (scene : Scene) → Told list scene → (i j c d : ℕ) (g : Gap list scene i j c d) (m : ℕ)
    → end_slot g.left.key ≤ m → m < first_slot g.right.key
    → (fuel : ℕ) (x : Key) (u : Span) → peak scene ≤ x.level + fuel → IsInRange x m → IsSeen scene x u → Listed list scene x
climb list scene of i j c d g m from to zero x u few r seen = top-listed list scene of.tells x u (omega (arith, few)) seen
climb list scene of i j c d g m from to (suc fuel) x u few r seen =
    elim (cases_lt x.level (peak scene)) [
      | inr high ↦ top-listed list scene of.tells x u high seen
      | inl low ↦
          (let p = seen-parent of.by scene x u low seen in
          let r_p : IsInRange (parent_of x) m = above-in_range (parent_of x) x m (parent-above x) r in
          let listed : Listed list scene (parent_of x) = climb list scene of i j c d g m from to fuel (parent_of x) p.0
          (omega (arith, few)) r_p p.1 in
          half-listed of.by of.sums list scene of.tells x u listed
          (told-over list scene of i j c d g (parent_of x) listed m r_p from to) seen)
    ]

-- no key that is seen lies between those of the ends
none-seen : (list : List (Option ℤ)) (scene : Scene) → Told list scene → (i j c d : ℕ) (g : Gap list scene i j c d) (m : Key) (u : Span)
    → IsSeen scene m u
    → end_slot g.left.key ≤ first_slot m → end_slot m ≤ first_slot g.right.key → ⊥
none-seen list scene of i j c d g m u seen from to =
    let listed = climb list scene of i j c d g (first_slot m) from (omega (arith, to, some-slots m)) (peak scene) m u (omega arith)
    (first-in_range m) seen in
    let least = (extremes-of of.sums list m listed.span listed.is).least in
    g.none least.slot listed.span.min (omega (arith, g.left.in_range.to, from, least.low))
    (omega (arith, least.high, to, g.right.in_range.from)) least.holds

-- the last lowest key of the left end and the first one of the right end are consecutive
pub gap-crossed : (list : List (Option ℤ)) (scene : Scene) → Told list scene
    → (i j c d : ℕ) (g : Gap list scene i j c d) (f : HasLast scene g.left.key) (h : HasFirst scene g.right.key)
    → AreConsecutive scene f.key h.key
gap-crossed list scene of i j c d g f h =
    let left_end : end_slot f.key ≤ end_slot g.left.key = of.by.last g.left.key f.key f.above in
    let left_start : first_slot g.left.key ≤ first_slot f.key = of.by.first g.left.key f.key f.above in
    let right_start : first_slot g.right.key ≤ first_slot h.key = of.by.first g.right.key h.key h.above in
    let right_end : end_slot h.key ≤ end_slot g.right.key = of.by.last g.right.key h.key h.above in
    record {
      order = omega (arith, left_end, right_start, ends-apart list scene i j c d g);
      none_between = λ m u front from to.
          elim (places of.by scene g.left.key (Some g.left.listed.span)
          (seen-reached scene g.left.key g.left.listed.span g.left.listed.seen) m u front.lowest) [
            | inl above ↦ f.none m u front.lowest above from
            | inr apart ↦ elim apart [
              | inl before ↦ absurd (omega (arith, before, some-slots m, some-slots f.key, left_start, from))
              | inr behind ↦ elim (places of.by scene g.right.key (Some g.right.listed.span)
                  (seen-reached scene g.right.key g.right.listed.span g.right.listed.seen) m u front.lowest) [
                    | inl over ↦ h.none m u front.lowest over to
                    | inr aside ↦ elim aside [
                      | inr past ↦ absurd (omega (arith, past, some-slots m, some-slots h.key, right_end, to))
                      | inl short ↦ none-seen list scene of i j c d g m u front.lowest.seen behind short
                    ]
                  ]
            ]
          ];
    }

-- a key below one of one height has the row of each value of that
pub row-of : (list : List (Option ℤ)) (scene : Scene) → Told list scene → (c i : ℕ) (v : ℤ) → Holds list i v
    → (f : Found list scene i (λ k s. IsLevel scene c k s))
    → (m : Key) (u : Span) → IsSeen scene m u → IsAtOrAbove f.key m → (y : ℤ) → y ≡ height v scene.lo scene.hi scene.grid.h
    → (bottom scene u ≤ℤ y) × (y ≤ℤ top scene u)
row-of list scene of c i v holds f m u seen above y is =
    let lo = scene.lo in
    let hi = scene.hi in
    let h = scene.grid.h in
    let s : Span = f.listed.span in
    let up = seen-above of.by scene f.key m u f.listed.seen.key.high above seen in
    let same : up.0 ≡ s = seen-one scene f.key up.0 s up.1 f.listed.seen in
    let part : IsPart u s = subst (λ (t : Span). IsPart u t) same up.2 in
    let ends = extremes-of of.sums list f.key s f.listed.is in
    let flat : height s.min lo hi h ≡ height s.max lo hi h = f.sought.flat in
    let low = of.by.heights s.min v lo hi h (ends.above i v f.in_range.from f.in_range.to holds) in
    let high = of.by.heights v s.max lo hi h (ends.below i v f.in_range.from f.in_range.to holds) in
    let first = of.by.heights s.min u.min lo hi h part.low in
    let middle = of.by.heights u.min u.max lo hi h (of.ordered m u seen) in
    let last = of.by.heights u.max s.max lo hi h part.high in
    (omega (arith, ints, is, flat, low, high, first, middle, last), omega (arith, ints, is, flat, low, high, first, middle, last))
