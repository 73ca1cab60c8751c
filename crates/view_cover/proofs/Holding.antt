-- A cover holds the chart of each list of which what is told is told.
use Rattle.std.proofs.Common.{ℕ, ℤ, ◌≡◌, ◌-◌, ◌^◌, ◌<◌, ◌≤◌, ◌≤ℤ◌, ◌<ℤ◌, ◌-ℤ◌, unsigned_abs, ◌⊎◌, inl, inr, List, length, Option, None}
use Rattle.std.proofs.Common.{Some, refl, sym, ap, ◌∙◌, subst, arith}
use Rattle.std.specs.Prelude.{IfSome}
use Rattle.std.specs.Int.{int_min, int_max}
use Rattle.std.proofs.lemmas.Bool.{cases_lt}
use Rattle.std.proofs.lemmas.Int.{ints, by_lt_z}
use Rattle.chart_grid.specs.declared.grid.Grid.{Grid}
use Rattle.chart_grid.specs.Projection.{height, column, InWindow}
use Rattle.chart_grid.specs.Slots.{IsInColumn, slot_time}
use Rattle.line_raster.specs.declared.position.Point.{Point}
use Rattle.line_raster.specs.Segment.{On, columns, rows, share, towards}
use Rattle.line_raster.proofs.SegmentLemmas.{share-le}
use Rattle.om3_coeff.specs.declared.key.Key.{Key}
use Rattle.om3_coeff.specs.declared.span.Span.{Span}
use Rattle.om3_coeff.specs.declared.coef.Coef.{Coef}
use Rattle.om3_coeff.specs.Keys.{first_slot, end_slot, top_key, IsAtOrAbove}
use Rattle.om3_coeff.specs.Spans.{IsProperIfAny, Holds}
use Rattle.om3_coeff.specs.Known.{known}
use Rattle.view_keys.specs.Ranges.{IsWithin}
use Rattle.view_keys.proofs.Ranging.{above-in_range, first-in_range, index-of, power-some}
use Rattle.view_cover.specs.Scene.{Scene, with_told, IsSeen, IsDrawnIn}
use Rattle.view_cover.specs.Cover.{bottom, top, InCover}
use Rattle.view_cover.specs.Chart.{InChart, IsToldOf}
use Rattle.view_cover.proofs.Spans.{Basis}
use Rattle.view_cover.proofs.Trees.{peak, seen-above}
use Rattle.view_cover.proofs.Fronts.{IsInherited, lowest-below}
use Rattle.view_cover.proofs.Shrinking.{lowest-front, times-between, shrinks}
use Rattle.view_cover.proofs.Steps.{reached-order, seen-reached}
use Rattle.view_cover.proofs.Samples.{IsSample, IsOfSample, IsOfSegment, charted}
use Rattle.view_cover.proofs.Listed.{Sums, IsEnd, filled, filled-more, filled-tells, extremes-of, column-between, blocked, anchored}
use Rattle.view_cover.proofs.Filling.{Drawn, fills-column}
use Rattle.view_cover.proofs.Ends.{HasLast, HasFirst, last-of, first-of}
use Rattle.view_cover.proofs.Gaps.{Told, Gap, gap-crossed, row-of}

-- a span's low end is that of one of its halves, and so is its high end
none-span : {u : Span} → ◌≡◌ {A = Option Span} None (Some u) → ⊥
none-span h = cc

same-span : {s t : Span} → ◌≡◌ {A = Option Span} (Some s) (Some t) → s ≡ t
same-span h = cc

low-inherited : (scene : Scene) (y : ℤ) → IsInherited (λ s. bottom scene s ≤ℤ y)
low-inherited scene y None None s is p = absurd (none-span is)
low-inherited scene y (Some a) None s is p = inl (a, refl, subst (λ (t : Span). bottom scene t ≤ℤ y) (sym (same-span is)) p)
low-inherited scene y None (Some b) s is p = inr (b, refl, subst (λ (t : Span). bottom scene t ≤ℤ y) (sym (same-span is)) p)
low-inherited scene y (Some a) (Some b) s is p =
    let least : int_min a.min b.min ≡ s.min = ap (λ (t : Span). t.min) (same-span is) in
    by_lt_z b.min a.min
    (λ less. inr (b, refl, subst (λ (v : ℤ). height v scene.lo scene.hi scene.grid.h ≤ℤ y) (sym least ∙ min-is b.min a.min less) p))
    (λ more. inl (a, refl, subst (λ (v : ℤ). height v scene.lo scene.hi scene.grid.h ≤ℤ y) (sym least ∙ min-first a.min b.min more) p))
  where
    min-is : (v u : ℤ) → v <ℤ u → int_min u v ≡ v
    min-is v u h = grind (arith, ints, h)

    min-first : (u v : ℤ) → u ≤ℤ v → int_min u v ≡ u
    min-first u v h = grind (arith, ints, h)

high-inherited : (scene : Scene) (y : ℤ) → IsInherited (λ s. y ≤ℤ top scene s)
high-inherited scene y None None s is p = absurd (none-span is)
high-inherited scene y (Some a) None s is p = inl (a, refl, subst (λ (t : Span). y ≤ℤ top scene t) (sym (same-span is)) p)
high-inherited scene y None (Some b) s is p = inr (b, refl, subst (λ (t : Span). y ≤ℤ top scene t) (sym (same-span is)) p)
high-inherited scene y (Some a) (Some b) s is p =
    let most : int_max a.max b.max ≡ s.max = ap (λ (t : Span). t.max) (same-span is) in
    by_lt_z a.max b.max
    (λ less. inr (b, refl, subst (λ (v : ℤ). y ≤ℤ height v scene.lo scene.hi scene.grid.h) (sym most ∙ max-is a.max b.max less) p))
    (λ more. inl (a, refl, subst (λ (v : ℤ). y ≤ℤ height v scene.lo scene.hi scene.grid.h) (sym most ∙ max-first a.max b.max more) p))
  where
    max-is : (u v : ℤ) → u <ℤ v → int_max u v ≡ v
    max-is u v h = grind (arith, ints, h)

    max-first : (u v : ℤ) → v ≤ℤ u → int_max u v ≡ u
    max-first u v h = grind (arith, ints, h)

-- a lowest key of the column that reaches down to the row, and one that reaches up to it
record Under (scene : Scene) (c : ℕ) (y : ℤ) : Type 0 where
  key : Key
  span : Span
  at : Drawn scene c key span
  row : bottom scene span ≤ℤ y

record Over (scene : Scene) (c : ℕ) (y : ℤ) : Type 0 where
  key : Key
  span : Span
  at : Drawn scene c key span
  row : y ≤ℤ top scene span

drawn-within : (scene : Scene) (c : ℕ) (k m : Key) → IsWithin scene.axis scene.grid c k → IsAtOrAbove k m
    → IsDrawnIn scene.axis scene.grid m c
drawn-within scene c k m within above = record {
  slot = first_slot m;
  in_range = first-in_range m;
  in_column = within (first_slot m) (above-in_range k m (first_slot m) above (first-in_range m));
}

under-value : (list : List (Option ℤ)) (scene : Scene) → Told list scene → (c i : ℕ) (v : ℤ) → Holds list i v
    → IsInColumn scene.axis scene.grid c i
    → (y : ℤ) → height v scene.lo scene.hi scene.grid.h ≤ℤ y → Under scene c y
under-value list scene of c i v holds here y low =
    let f = blocked of.by of.sums list scene of.tells of.few c i v holds here in
    let ends = extremes-of of.sums list f.key f.listed.span f.listed.is in
    let rise = of.by.heights f.listed.span.min v scene.lo scene.hi scene.grid.h (ends.above i v f.in_range.from f.in_range.to holds) in
    let m = lowest-below of.by scene (λ s. bottom scene s ≤ℤ y) (low-inherited scene y) f.key f.listed.span f.listed.seen
    (omega (arith, ints, rise, low)) in
    record { key = m.0; span = m.1; at = record { lowest = m.2; drawn = drawn-within scene c f.key m.0 f.sought m.3 }; row = m.4 }

over-value : (list : List (Option ℤ)) (scene : Scene) → Told list scene → (c i : ℕ) (v : ℤ) → Holds list i v
    → IsInColumn scene.axis scene.grid c i
    → (y : ℤ) → y ≤ℤ height v scene.lo scene.hi scene.grid.h → Over scene c y
over-value list scene of c i v holds here y high =
    let f = blocked of.by of.sums list scene of.tells of.few c i v holds here in
    let ends = extremes-of of.sums list f.key f.listed.span f.listed.is in
    let rise = of.by.heights v f.listed.span.max scene.lo scene.hi scene.grid.h (ends.below i v f.in_range.from f.in_range.to holds) in
    let m = lowest-below of.by scene (λ s. y ≤ℤ top scene s) (high-inherited scene y) f.key f.listed.span f.listed.seen
    (omega (arith, ints, rise, high)) in
    record { key = m.0; span = m.1; at = record { lowest = m.2; drawn = drawn-within scene c f.key m.0 f.sought m.3 }; row = m.4 }

top-above : (scene : Scene) (k : Key) (s : Span) → IsSeen scene k s → IsAtOrAbove (top_key scene.axis.slots) k
top-above scene k s seen = record {
  higher = seen.key.high;
  holds = index-of 0 (2 ^ (peak scene - k.level)) k.index (power-some (peak scene - k.level)) (omega arith)
      (omega (arith, seen.key.within));
}

-- so the row is in the cover
between : (list : List (Option ℤ)) (scene : Scene) → Told list scene → (c : ℕ) (y : ℤ) → Under scene c y → Over scene c y
    → InCover scene c y
between list scene of c y u o =
    let n : ℕ = scene.axis.slots in
    let all = seen-above of.by scene (top_key n) u.key u.span (omega arith)
    (top-above scene u.key u.span u.at.lowest.seen) u.at.lowest.seen in
    fills-column of.by scene of.ordered c y (top_key n) all.0 all.1 u.key o.key u.span o.span u.at o.at
    (top-above scene u.key u.span u.at.lowest.seen) (top-above scene o.key o.span o.at.lowest.seen)
    (record { down = inl u.row; up = inr o.row })

-- the rows from that of one sample of a column to that of another one
in-column : (scene : Scene) (c d i : ℕ) → c ≡ d → IsInColumn scene.axis scene.grid c i → IsInColumn scene.axis scene.grid d i
in-column scene c d i same here = subst (λ (x : ℕ). IsInColumn scene.axis scene.grid x i) same here

column-in : (list : List (Option ℤ)) (scene : Scene) → Told list scene → (i j : ℕ) (p q : Point) → IsSample list scene i p
    → IsSample list scene j q → p.x ≡ q.x
    → (y : ℤ) → (p.y ≤ℤ y) ⊎ (q.y ≤ℤ y) → (y ≤ℤ p.y) ⊎ (y ≤ℤ q.y) → InCover scene p.x y
column-in list scene of i j p q a b same y down up =
    let here = in-column scene q.x p.x j (sym same) b.column in
    between list scene of p.x y
    (elim down [
      | inl low ↦ under-value list scene of p.x i a.value a.stored a.column y (omega (arith, ints, a.row, low))
      | inr low ↦ under-value list scene of p.x j b.value b.stored here y (omega (arith, ints, b.row, low))
    ])
    (elim up [
      | inl high ↦ over-value list scene of p.x i a.value a.stored a.column y (omega (arith, ints, a.row, high))
      | inr high ↦ over-value list scene of p.x j b.value b.stored here y (omega (arith, ints, b.row, high))
    ])

-- a segment lies within the rectangle of its ends
record Within (p q : Point) (x : ℕ) (y : ℤ) : Type 0 where
  from : p.x ≤ x
  to : x ≤ q.x
  above : int_min p.y q.y ≤ℤ y
  below : y ≤ℤ int_max p.y q.y

between-rows : (a b y : ℤ) (n : ℕ) → y ≡ towards a b n → n ≤ unsigned_abs (b -ℤ a) → (int_min a b ≤ℤ y) × (y ≤ℤ int_max a b)
between-rows a b y n is few = (grind (arith, ints, is, few), grind (arith, ints, is, few))

segment-within : (p q : Point) → p.x ≤ q.x → (x : ℕ) (y : ℤ) → On p q x y → Within p q x y
segment-within p q order x y (inl dot) = record {
  from = omega (arith, dot.column);
  to = omega (arith, dot.column, order);
  above = grind (arith, ints, dot.row);
  below = grind (arith, ints, dot.row);
}
segment-within p q order x y (inr (inl flat)) =
    let few : share (columns p q) (rows p q) flat.n ≤ rows p q = share-le (columns p q) (rows p q) flat.n flat.some flat.reached in
    let rows_of = between-rows p.y q.y y (share (columns p q) (rows p q) flat.n) flat.row few in
    record { from = omega (arith, flat.column); to = omega (arith, flat.column, flat.reached, order); above = rows_of.0; below = rows_of.1 }
segment-within p q order x y (inr (inr steep)) =
    let few : share (rows p q) (columns p q) steep.n ≤ columns p q = share-le (rows p q) (columns p q) steep.n
    (omega (arith, steep.high)) steep.reached in
    let rows_of = between-rows p.y q.y y steep.n steep.row steep.reached in
    record { from = omega (arith, steep.column); to = omega (arith, steep.column, few, order); above = rows_of.0; below = rows_of.1 }

low-of : (a b c d y : ℤ) → a ≤ℤ c → b ≤ℤ d → int_min c d ≤ℤ y → int_min a b ≤ℤ y
low-of a b c d y h k m = grind (arith, ints, h, k, m)

high-of : (a b c d y : ℤ) → c ≤ℤ a → d ≤ℤ b → y ≤ℤ int_max c d → y ≤ℤ int_max a b
high-of a b c d y h k m = grind (arith, ints, h, k, m)

gap-in : (list : List (Option ℤ)) (scene : Scene) → Told list scene → (i j : ℕ) (p q : Point) → IsSample list scene i p
    → IsSample list scene j q → Gap list scene i j p.x q.x
    → (x : ℕ) (y : ℤ) → Within p q x y → InCover scene x y
gap-in list scene of i j p q a b g x y w =
    let f : HasLast scene g.left.key = last-of of.by scene g.left.key g.left.listed.span g.left.listed.seen in
    let h : HasFirst scene g.right.key = first-of of.by scene g.right.key g.right.listed.span g.right.listed.seen in
    let f_drawn = drawn-within scene p.x g.left.key f.key g.left.sought.within f.above in
    let h_drawn = drawn-within scene q.x g.right.key h.key g.right.sought.within h.above in
    let f_rows = row-of list scene of p.x i a.value a.stored g.left f.key f.span f.lowest.seen f.above p.y a.row in
    let h_rows = row-of list scene of q.x j b.value b.stored g.right h.key h.span h.lowest.seen h.above q.y b.row in
    inr (record {
      key = f.key;
      span = f.span;
      front = lowest-front scene f.key f.span p.x f.lowest f_drawn;
      next = h.key;
      next_span = h.span;
      next_front = lowest-front scene h.key h.span q.x h.lowest h_drawn;
      consecutive = gap-crossed list scene of i j p.x q.x g f h;
      pixel = record {
        columns = record { first = p.x; first_drawn = inl f_drawn; from = w.from; last = q.x; last_drawn = inr h_drawn; to = w.to };
        above = low-of (bottom scene f.span) (bottom scene h.span) p.y q.y y f_rows.0 h_rows.0 w.above;
        below = high-of (top scene f.span) (top scene h.span) p.y q.y y f_rows.1 h_rows.1 w.below;
      };
    })

-- the ends of a segment from one column to another are the last and the first stored slot of them
last-end : (list : List (Option ℤ)) (scene : Scene) (i j : ℕ) (p q : Point) → IsSample list scene i p → IsSample list scene j q → i < j
    → ((r : ℕ) (v : ℤ) → i < r → r < j → Holds list r v → ⊥) → p.x < q.x → IsEnd list scene p.x i
last-end list scene i j p q a b order none apart = inr (record {
  in_column = a.column;
  value = a.value;
  stored = a.stored;
  none_behind = λ r v less here holds. elim (cases_lt r j) [
    | inl before ↦ none r v less before holds
    | inr late ↦
        (let at : IsInColumn scene.axis scene.grid p.x j = column-between scene.axis scene.grid p.x i j r
        (omega (arith, order)) late a.column here in
        absurd (omega (arith, apart, at.place, b.column.place)))
  ];
})

first-end : (list : List (Option ℤ)) (scene : Scene) (i j : ℕ) (p q : Point) → IsSample list scene i p → IsSample list scene j q → i < j
    → ((r : ℕ) (v : ℤ) → i < r → r < j → Holds list r v → ⊥) → p.x < q.x → IsEnd list scene q.x j
first-end list scene i j p q a b order none apart = inl (record {
  in_column = b.column;
  value = b.value;
  stored = b.stored;
  none_before = λ r v less here holds. elim (cases_lt i r) [
    | inl behind ↦ none r v behind less holds
    | inr early ↦
        (let at : IsInColumn scene.axis scene.grid q.x i = column-between scene.axis scene.grid q.x r i j early
        (omega (arith, order)) here b.column in
        absurd (omega (arith, apart, at.place, a.column.place)))
  ];
})

min-cases : (a b y : ℤ) → int_min a b ≤ℤ y → (a ≤ℤ y) ⊎ (b ≤ℤ y)
min-cases a b y h = by_lt_z y a (λ less. inr (grind (arith, ints, h, less))) (λ more. inl more)

max-cases : (a b y : ℤ) → y ≤ℤ int_max a b → (y ≤ℤ a) ⊎ (y ≤ℤ b)
max-cases a b y h = by_lt_z a y (λ less. inr (grind (arith, ints, h, less))) (λ more. inl more)

abbrev ColumnsRise : Scene → Type 0
ColumnsRise scene = (c d i j : ℕ) → i ≤ j → IsInColumn scene.axis scene.grid c i → IsInColumn scene.axis scene.grid d j → c ≤ d

in-cover : (scene : Scene) (c x : ℕ) (y : ℤ) → c ≡ x → InCover scene c y → InCover scene x y
in-cover scene c x y same h = subst (λ (n : ℕ). InCover scene n y) same h

sample-in : (list : List (Option ℤ)) (scene : Scene) → Told list scene → (x : ℕ) (y : ℤ) → IsOfSample list scene x y → InCover scene x y
sample-in list scene of x y h =
    in-cover scene h.point.x x y (sym h.pixel.column)
    (column-in list scene of h.slot h.slot h.point h.point h.sample h.sample refl y (inl (omega (arith, ints, h.pixel.row)))
    (inl (omega (arith, ints, h.pixel.row))))

segment-in : (list : List (Option ℤ)) (scene : Scene) → Told list scene → ColumnsRise scene → (x : ℕ) (y : ℤ) → IsOfSegment list scene x y
    → InCover scene x y
segment-in list scene of rise x y h =
    let p = h.point in
    let q = h.next_point in
    let order : p.x ≤ q.x = rise p.x q.x h.slot h.next (omega (arith, h.order)) h.sample.column h.next_sample.column in
    let w : Within p q x y = segment-within p q order x y h.pixel in
    elim (cases_lt p.x q.x) [
      | inr high ↦ in-cover scene p.x x y (omega (arith, high, w.from, w.to))
          (column-in list scene of h.slot h.next p q h.sample h.next_sample (omega (arith, high, order)) y (min-cases p.y q.y y w.above)
          (max-cases p.y q.y y w.below))
      | inl apart ↦ gap-in list scene of h.slot h.next p q h.sample h.next_sample
          (record {
            order = h.order;
            none = h.none_between;
            left = anchored of.by of.sums list scene of.tells of.few p.x h.slot h.sample.value h.sample.stored h.sample.column
                (last-end list scene h.slot h.next p q h.sample h.next_sample h.order h.none_between apart);
            right = anchored of.by of.sums list scene of.tells of.few q.x h.next h.next_sample.value h.next_sample.stored
                h.next_sample.column
                (first-end list scene h.slot h.next p q h.sample h.next_sample h.order h.none_between apart);
            apart = apart;
          })
          x y w
    ]

columns-rise : ((g : Grid) (s t : ℤ) → InWindow g s → InWindow g t → s ≤ℤ t → column g s ≤ column g t) → (scene : Scene) (c d i j : ℕ)
    → i ≤ j
    → IsInColumn scene.axis scene.grid c i → IsInColumn scene.axis scene.grid d j → c ≤ d
columns-rise rise scene c d i j low a b =
    omega (
      arith,
      a.place,
      b.place,
      rise scene.grid (slot_time scene.axis i) (slot_time scene.axis j) a.shown b.shown
          (times-between scene.axis.start scene.axis.step i j low),
    )

-- what is known of each key is proper where the root is
abbrev pub AreProper : Type 0
AreProper = (root : Option Span) (told : Key → Option Coef) (n : ℕ) (k : Key) → IsProperIfAny root
    → IfSome (known root told n k) IsProperIfAny

told-all : Basis → Sums → AreProper → (list : List (Option ℤ)) (scene : Scene) → IsToldOf list scene → length list ≤ 2 ^ 35
    → Told list (with_told scene (filled list scene.told))
told-all by sums proper list scene of few =
    let full : Scene = with_told scene (filled list scene.told) in
    let n : ℕ = length list in
    let root : IsProperIfAny scene.root = subst (λ (o : Option Span). IsProperIfAny o) (sym of.root)
    (sums.proper list (first_slot (top_key n)) (end_slot (top_key n)) of.values) in
    record {
      by = by;
      sums = sums;
      tells = filled-tells list scene of;
      few = omega (arith, few, of.slots);
      ordered = λ k s seen. reached-order proper full k s root (seen-reached full k s seen);
    }

pub holds-chart : Basis → Sums → AreProper → ((g : Grid) (s t : ℤ) → InWindow g s → InWindow g t → s ≤ℤ t → column g s ≤ column g t)
    → (list : List (Option ℤ)) (scene : Scene) (x : ℕ) (y : ℤ) → IsToldOf list scene → length list ≤ 2 ^ 35 → InChart list scene x y
    → InCover scene x y
holds-chart by sums proper rise list scene x y of few h =
    let more = filled list scene.told in
    let full : Scene = with_told scene more in
    let all = told-all by sums proper list scene of few in
    shrinks by scene more x y (filled-more list scene.told)
    (elim (charted list full of.slots x y h) [
      | inl sample ↦ sample-in list full all x y sample
      | inr segment ↦ segment-in list full all (λ c d i j low a b. columns-rise rise full c d i j low a b) x y segment
    ])
