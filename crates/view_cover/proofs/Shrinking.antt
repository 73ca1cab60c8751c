-- With more coefficients the cover shrinks.
use Rattle.std.proofs.Common.{ℕ, ℤ, pos, ◌≡◌, ◌*◌, ◌≤◌, ◌≤ℤ◌, ◌+ℤ◌, ◌⊎◌, inl, inr, Option, None, Some, refl, sym, subst, arith}
use Rattle.std.proofs.lemmas.Int.{ints}
use Rattle.std.proofs.Math.Nat.{mul-le-mul_right}
use Rattle.std.specs.Int.{int_min, int_max}
use Rattle.chart_grid.specs.declared.axis.Axis.{Axis}
use Rattle.chart_grid.specs.declared.grid.Grid.{Grid}
use Rattle.chart_grid.specs.Projection.{column}
use Rattle.chart_grid.specs.Slots.{IsInColumn, slot_time}
use Rattle.om3_coeff.specs.declared.key.Key.{Key}
use Rattle.om3_coeff.specs.declared.span.Span.{Span}
use Rattle.om3_coeff.specs.declared.coef.Coef.{Coef}
use Rattle.om3_coeff.specs.Keys.{first_slot, end_slot, IsAtOrAbove}
use Rattle.view_keys.proofs.Ranging.{above-in_range, first-in_range}
use Rattle.view_cover.specs.Scene.{Scene, with_told, IsToldBy, IsSeen, IsDrawnIn}
use Rattle.view_cover.specs.Front.{IsLowest, IsInFront, AreConsecutive}
use Rattle.view_cover.specs.Cover.{bottom, top, InRectangle, InSomeBox, InSomeJoin, InCover}
use Rattle.view_cover.proofs.Spans.{Basis, IsPart}
use Rattle.view_cover.proofs.Trees.{seen-more, seen-one}
use Rattle.view_cover.proofs.Fronts.{IsInherited, lowest-above, lowest-apart, lowest-below}

pub front-lowest : (scene : Scene) (k : Key) (s : Span) → IsInFront scene k s → IsLowest scene k s
front-lowest scene k s f = f.lowest

pub lowest-front : (scene : Scene) (k : Key) (s : Span) (c : ℕ) → IsLowest scene k s → IsDrawnIn scene.axis scene.grid k c
    → IsInFront scene k s
lowest-front scene k s c low drawn = record { lowest = low; column = c; drawn = drawn }

-- a key above has the columns of the one below
pub drawn-above : (axis : Axis) (grid : Grid) (w k : Key) (c : ℕ) → IsAtOrAbove w k → IsDrawnIn axis grid k c → IsDrawnIn axis grid w c
drawn-above axis grid w k c above d = record {
  slot = d.slot;
  in_range = above-in_range w k d.slot above d.in_range;
  in_column = d.in_column;
}

pub times-between : (start : ℤ) (step i j : ℕ) → i ≤ j → (start +ℤ pos (i * step)) ≤ℤ (start +ℤ pos (j * step))
times-between start step i j low =
    let m : i * step ≤ j * step = mul-le-mul_right step low in
    omega (arith, ints, m)

-- a slot between two drawn ones is drawn
pub drawn-between : (axis : Axis) (grid : Grid) (c d a i b : ℕ) → IsInColumn axis grid c a → IsInColumn axis grid d b → a ≤ i → i ≤ b
    → IsInColumn axis grid (column grid (slot_time axis i)) i
drawn-between axis grid c d a i b in_a in_b low high =
    let early = times-between axis.start axis.step a i low in
    let late = times-between axis.start axis.step i b high in
    record {
      slot = omega (arith, high, in_b.slot);
      shown = record {
        from = omega (arith, ints, in_a.shown.from, early);
        to = omega (arith, ints, in_b.shown.to, late);
      };
      place = refl;
    }

either-above : (scene : Scene) (w k v l : Key) (c : ℕ) → IsAtOrAbove w k → IsAtOrAbove v l
    → IsDrawnIn scene.axis scene.grid k c ⊎ IsDrawnIn scene.axis scene.grid l c
    → IsDrawnIn scene.axis scene.grid w c ⊎ IsDrawnIn scene.axis scene.grid v c
either-above scene w k v l c a b (inl d) = inl (drawn-above scene.axis scene.grid w k c a d)
either-above scene w k v l c a b (inr d) = inr (drawn-above scene.axis scene.grid v l c b d)

low-both : (a b c d y : ℤ) → a ≤ℤ c → b ≤ℤ d → int_min c d ≤ℤ y → int_min a b ≤ℤ y
low-both a b c d y h k m = grind (arith, ints, h, k, m)

high-both : (a b c d y : ℤ) → c ≤ℤ a → d ≤ℤ b → y ≤ℤ int_max c d → y ≤ℤ int_max a b
high-both a b c d y h k m = grind (arith, ints, h, k, m)

-- the rectangle of two keys lies within that of keys above them with greater spans
pub rectangle-above : Basis → (scene : Scene) (w k v l : Key) (p s q t : Span) (x : ℕ) (y : ℤ) → IsAtOrAbove w k → IsAtOrAbove v l
    → IsPart s p → IsPart t q
    → InRectangle scene k s l t x y → InRectangle scene w p v q x y
rectangle-above by scene w k v l p s q t x y a b m n r =
    let lo = scene.lo in
    let hi = scene.hi in
    let h = scene.grid.h in
    record {
      columns = record {
        first = r.columns.first;
        first_drawn = either-above scene w k v l r.columns.first a b r.columns.first_drawn;
        from = r.columns.from;
        last = r.columns.last;
        last_drawn = either-above scene w k v l r.columns.last a b r.columns.last_drawn;
        to = r.columns.to;
      };
      above = low-both (bottom scene p) (bottom scene q) (bottom scene s) (bottom scene t) y
          (by.heights p.min s.min lo hi h m.low) (by.heights q.min t.min lo hi h n.low) r.above;
      below = high-both (top scene p) (top scene q) (top scene s) (top scene t) y
          (by.heights s.max p.max lo hi h m.high) (by.heights t.max q.max lo hi h n.high) r.below;
    }

-- which pixels a rectangle has isn't a matter of what is told
of_view : (scene : Scene) (more : Key → Option Coef) (k : Key) (s : Span) (l : Key) (t : Span) (x : ℕ) (y : ℤ)
    → InRectangle (with_told scene more) k s l t x y → InRectangle scene k s l t x y
of_view scene more k s l t x y r = record { columns = r.columns; above = r.above; below = r.below }

-- what is so of each span is inherited
some-inherited : IsInherited (λ s. Unit {0})
some-inherited None None s is p = absurd (none-some is)
  where
    none-some : {u : Span} → ◌≡◌ {A = Option Span} None (Some u) → ⊥
    none-some h = cc
some-inherited (Some a) r s is p = inl (a, refl, tt)
some-inherited None (Some b) s is p = inr (b, refl, tt)

-- Between the two keys of the front above two consecutive ones there is none.
none-between : Basis → (scene : Scene) (more : Key → Option Coef) → IsToldBy scene.told more → (k l w v m : Key) (s t p q u : Span)
    → IsInFront (with_told scene more) k s → IsInFront (with_told scene more) l t → AreConsecutive (with_told scene more) k l
    → IsAtOrAbove w k → IsAtOrAbove v l → IsInFront scene m u → end_slot w ≤ first_slot m → end_slot m ≤ first_slot v → ⊥
none-between by scene more tells k l w v m s t p q u front_k front_l next above_k above_l front_m from to =
    let found = lowest-below by (with_told scene more) (λ s. Unit {0}) some-inherited m u
    (seen-more scene more tells m u front_m.lowest.seen) tt in
    let start = by.last w k above_k in
    let stop = by.first v l above_l in
    let a = front_k.drawn in
    let b = front_l.drawn in
    let i = first_slot found.0 in
    let low = by.first m found.0 found.3 in
    let high = by.last m found.0 found.3 in
    let inside = (first-in_range found.0) in
    let here = drawn-between scene.axis scene.grid front_k.column front_l.column a.slot i b.slot a.in_column b.in_column
    (omega (arith, a.in_range.to, start, from, low)) (omega (arith, b.in_range.from, stop, to, high, inside.to)) in
    next.none_between found.0 found.1
    (lowest-front (with_told scene more) found.0 found.1 (column scene.grid (slot_time scene.axis i)) found.2
    (record { slot = i; in_range = inside; in_column = here }))
    (omega (arith, start, from, low)) (omega (arith, stop, to, high))

-- the box of a key lies within that of the one above
box-within : Basis → (scene : Scene) (more : Key → Option Coef) → IsToldBy scene.told more → (x : ℕ) (y : ℤ)
    → InSomeBox (with_told scene more) x y → InCover scene x y
box-within by scene more tells x y b =
    let up = lowest-above by scene more tells b.key b.span (front-lowest (with_told scene more) b.key b.span b.front) in
    inl (record {
      key = up.0;
      span = up.1;
      front = lowest-front scene up.0 up.1 b.front.column up.2
          (drawn-above scene.axis scene.grid up.0 b.key b.front.column up.3 b.front.drawn);
      pixel = rectangle-above by scene up.0 b.key up.0 b.key up.1 b.span up.1 b.span x y up.3 up.3 up.4 up.4
          (of_view scene more b.key b.span b.key b.span x y b.pixel);
    })

join-within : Basis → (scene : Scene) (more : Key → Option Coef) → IsToldBy scene.told more → (x : ℕ) (y : ℤ)
    → InSomeJoin (with_told scene more) x y → InCover scene x y
join-within by scene more tells x y j =
    let a = lowest-above by scene more tells j.key j.span (front-lowest (with_told scene more) j.key j.span j.front) in
    let b = lowest-above by scene more tells j.next j.next_span (front-lowest (with_told scene more) j.next j.next_span j.next_front) in
    let front_a = lowest-front scene a.0 a.1 j.front.column a.2
    (drawn-above scene.axis scene.grid a.0 j.key j.front.column a.3 j.front.drawn) in
    let front_b = lowest-front scene b.0 b.1 j.next_front.column b.2
    (drawn-above scene.axis scene.grid b.0 j.next j.next_front.column b.3 j.next_front.drawn) in
    let pixel = rectangle-above by scene a.0 j.key b.0 j.next a.1 j.span b.1 j.next_span x y a.3 b.3 a.4 b.4
    (of_view scene more j.key j.span j.next j.next_span x y j.pixel) in
    elim (lowest-apart by scene a.0 b.0 a.1 b.1 a.2 b.2) [
      | inl same ↦
          (let one : IsSeen scene a.0 b.1 = subst (λ (k : Key). IsSeen scene k b.1) (sym same) b.2.seen in
          let spans : b.1 ≡ a.1 = seen-one scene a.0 b.1 a.1 one a.2.seen in
          inl (record {
            key = a.0;
            span = a.1;
            front = front_a;
            pixel = subst (λ (t : Span). InRectangle scene a.0 a.1 a.0 t x y) spans
                (subst (λ (k : Key). InRectangle scene a.0 a.1 k b.1 x y) (sym same) pixel);
          }))
      | inr apart ↦ elim apart [
        | inl order ↦ inr (record {
          key = a.0;
          span = a.1;
          front = front_a;
          next = b.0;
          next_span = b.1;
          next_front = front_b;
          consecutive = record {
            order = order;
            none_between = λ m u front from to.
                none-between by scene more tells j.key j.next a.0 b.0 m j.span j.next_span a.1 b.1 u j.front j.next_front j.consecutive a.3
                b.3 front from to;
          };
          pixel = pixel;
        })
        | inr turned ↦ absurd (omega (
          arith,
          turned,
          j.consecutive.order,
          by.last a.0 j.key a.3,
          by.first a.0 j.key a.3,
          by.first b.0 j.next b.3,
          by.last b.0 j.next b.3,
          (first-in_range j.key).to,
          (first-in_range j.next).to,
        ))
      ]
    ]

pub shrinks : Basis → (scene : Scene) (more : Key → Option Coef) (x : ℕ) (y : ℤ) → IsToldBy scene.told more
    → InCover (with_told scene more) x y → InCover scene x y
shrinks by scene more x y tells (inl b) = box-within by scene more tells x y b
shrinks by scene more x y tells (inr j) = join-within by scene more tells x y j
