-- The keys of which what is told is a list's, from the top down.
use Rattle.std.proofs.Common.{ℕ, ℤ, zero, suc, ◌≡◌, ◌-◌, ◌%◌, ◌^◌, ◌<◌, ◌≤◌, ◌≤ℤ◌, ◌<ℤ◌, ◌⊎◌, inl, inr, List, length, Option, None, Some}
use Rattle.std.proofs.Common.{IsSome, refl, sym, ap, ◌∙◌, subst, arith}
use Rattle.std.specs.Option.{option_map, is_some}
use Rattle.std.proofs.lemmas.Bool.{cases_lt, cases_eq}
use Rattle.std.proofs.lemmas.Int.{ints, by_lt_z}
use Rattle.chart_grid.specs.declared.axis.Axis.{Axis}
use Rattle.chart_grid.specs.declared.grid.Grid.{Grid}
use Rattle.chart_grid.specs.Projection.{column, InWindow}
use Rattle.chart_grid.specs.Slots.{IsInColumn, slot_time}
use Rattle.chart_grid.proofs.Rising.{column-rising, column-below}
use Rattle.om3_coeff.specs.declared.key.Key.{Key}
use Rattle.om3_coeff.specs.declared.span.Span.{Span}
use Rattle.om3_coeff.specs.declared.coef.Coef.{Coef}
use Rattle.om3_coeff.specs.Keys.{first_slot, end_slot, left_of, right_of, parent_of, top_key, height as height_of, IsKey, IsNode}
use Rattle.om3_coeff.specs.Keys.{IsAtOrAbove}
use Rattle.om3_coeff.specs.Spans.{AreSlots, IsProperIfAny, IsSpanOf, AreExtremes, Holds, hull, span, span_over}
use Rattle.om3_coeff.specs.Coefs.{parts, coef, coef_of}
use Rattle.om3_coeff.specs.Known.{half, known_below}
use Rattle.om3_coeff.proofs.KeyLemmas.{even_half, odd_half, slot_first, slot_end, left_first, right_end, height_covers}
use Rattle.view_keys.specs.Ranges.{IsInRange, IsWithin}
use Rattle.view_keys.specs.Flat.{IsFlat}
use Rattle.view_keys.specs.Needed.{IsFirstStored, IsLastStored, IsNeeded}
use Rattle.view_keys.proofs.Ranging.{shared-above, key-same, power-some, first-in_range, last-in_range}
use Rattle.view_cover.specs.Scene.{Scene, with_told, IsToldBy, IsSeen}
use Rattle.view_cover.specs.Across.{IsAcross}
use Rattle.view_cover.specs.Chart.{IsToldOf}
use Rattle.view_cover.proofs.Spans.{Basis, known-top, inner, left-half, right-half}
use Rattle.view_cover.proofs.Trees.{peak, above-both, level-same, known-under, left-parent, right-parent}
use Rattle.view_cover.proofs.Fronts.{seen-left, seen-right}
use Rattle.view_cover.proofs.Shrinking.{times-between}

-- what the spans of a list are
pub record Sums : Type 0 where
  pub extremes : (list : List (Option ℤ)) (a b : ℕ) → IsSpanOf list a b (span_over list a b)
  pub halves : (list : List (Option ℤ)) (k : Key) → 1 ≤ k.level → span list k ≡ hull (span list (left_of k)) (span list (right_of k))
  pub proper : (list : List (Option ℤ)) (a b : ℕ) → AreSlots list → IsProperIfAny (span_over list a b)
  pub split : (left right : Option Span) (s : Span) → IsProperIfAny left → IsProperIfAny right → hull left right ≡ Some s
      → parts s (coef_of left right) ≡ Some (left, right)

split-of : Sums → (list : List (Option ℤ)) (k : Key) (s : Span) → AreSlots list → 1 ≤ k.level → span list k ≡ Some s
    → parts s (coef list k) ≡ Some (span list (left_of k), span list (right_of k))
split-of sums list k s values low is =
    sums.split (span list (left_of k)) (span list (right_of k)) s
    (sums.proper list (first_slot (left_of k)) (end_slot (left_of k)) values)
    (sums.proper list (first_slot (right_of k)) (end_slot (right_of k)) values)
    (sym (sums.halves list k low) ∙ is)

-- a range with a stored slot has a span
some-span-by : (list : List (Option ℤ)) (a b i : ℕ) (v : ℤ) (o : Option Span) → IsSpanOf list a b o → a ≤ i → i < b → Holds list i v
    → (s : Span) × (o ≡ Some s)
some-span-by list a b i v None is low high holds = absurd (is i v low high holds)
some-span-by list a b i v (Some s) is low high holds = (s, refl)

some-span : Sums → (list : List (Option ℤ)) (k : Key) (i : ℕ) (v : ℤ) → IsInRange k i → Holds list i v → (s : Span) × (span list k ≡ Some s)
some-span sums list k i v r holds = some-span-by list (first_slot k) (end_slot k) i v (span list k)
    (sums.extremes list (first_slot k) (end_slot k)) r.from r.to holds

pub extremes-of : Sums → (list : List (Option ℤ)) (k : Key) (s : Span) → span list k ≡ Some s
    → AreExtremes list (first_slot k) (end_slot k) s
extremes-of sums list k s is = subst (λ (o : Option Span). IsSpanOf list (first_slot k) (end_slot k) o) is
    (sums.extremes list (first_slot k) (end_slot k))

-- the span of a slot is its value
one-value : {u v : ℤ} → ◌≡◌ {A = Option (Option ℤ)} (Some (Some u)) (Some (Some v)) → u ≡ v
one-value h = cc

slot-flat : Sums → (list : List (Option ℤ)) (k : Key) (s : Span) → k.level ≡ 0 → span list k ≡ Some s → s.min ≡ s.max
slot-flat sums list k s level is =
    let ends = extremes-of sums list k s is in
    let same : ends.least.slot ≡ ends.greatest.slot = omega (
      arith,
      slot_first k level,
      slot_end k level,
      ends.least.low,
      ends.least.high,
      ends.greatest.low,
      ends.greatest.high,
    ) in
    one-value (sym ends.least.holds ∙ subst (λ (i : ℕ). Holds list i s.max) (sym same) ends.greatest.holds)

-- a slot is one of the column, or isn't
column-cases : (axis : Axis) (grid : Grid) (c i : ℕ) → IsInColumn axis grid c i ⊎ (IsInColumn axis grid c i → ⊥)
column-cases axis grid c i =
    elim (cases_lt i axis.slots) [
      | inr past ↦ inr (λ (h : IsInColumn axis grid c i). absurd (omega (arith, past, h.slot)))
      | inl slot ↦ elim (int-cases grid.t0 (slot_time axis i)) [
        | inr early ↦ inr (λ (h : IsInColumn axis grid c i). absurd (omega (arith, ints, early, h.shown.from)))
        | inl from ↦ elim (int-cases grid.t1 (slot_time axis i)) [
          | inl late ↦ inr (λ (h : IsInColumn axis grid c i). absurd (omega (arith, ints, late, h.shown.to)))
          | inr to ↦ elim (cases_eq (column grid (slot_time axis i)) c) [
            | inl place ↦ inl (record { slot = slot; shown = record { from = from; to = to }; place = place })
            | inr other ↦ inr (λ (h : IsInColumn axis grid c i). other h.place)
          ]
        ]
      ]
    ]
  where
    int-cases : (a b : ℤ) → (a ≤ℤ b) ⊎ (b <ℤ a)
    int-cases a b = by_lt_z b a inr inl

pub column-between : (axis : Axis) (grid : Grid) (c a i b : ℕ) → a ≤ i → i ≤ b → IsInColumn axis grid c a → IsInColumn axis grid c b
    → IsInColumn axis grid c i
column-between axis grid c a i b low high from to =
    let early : slot_time axis a ≤ℤ slot_time axis i = times-between axis.start axis.step a i low in
    let late : slot_time axis i ≤ℤ slot_time axis b = times-between axis.start axis.step i b high in
    let shown : InWindow grid (slot_time axis i) = record {
      from = omega (arith, ints, early, from.shown.from);
      to = omega (arith, ints, late, to.shown.to);
    } in
    record {
      slot = omega (arith, high, to.slot);
      shown = shown;
      place = omega (
        arith,
        column-rising grid (slot_time axis a) (slot_time axis i) from.shown shown early,
        column-rising grid (slot_time axis i) (slot_time axis b) shown to.shown late,
        from.place,
        to.place,
      );
    }

-- a key that meets the slots of a column is within them, or lies across an end of them
within-or-across : (axis : Axis) (grid : Grid) (c : ℕ) (k : Key) (i : ℕ) → IsInRange k i → IsInColumn axis grid c i
    → IsWithin axis grid c k ⊎ IsAcross axis grid k
within-or-across axis grid c k i r here =
    elim (column-cases axis grid c (first_slot k)) [
      | inr out ↦ inr (record {
        column = c;
        cut = record {
          slot = i;
          in_range = r;
          in_column = here;
          other = first_slot k;
          other_in_range = first-in_range k;
          outside = out;
        };
      })
      | inl from ↦ elim (column-cases axis grid c (end_slot k - 1)) [
        | inr out ↦ inr (record {
          column = c;
          cut = record {
            slot = i;
            in_range = r;
            in_column = here;
            other = end_slot k - 1;
            other_in_range = last-in_range k;
            outside = out;
          };
        })
        | inl to ↦ inl (λ j h. column-between axis grid c (first_slot k) j (end_slot k - 1) h.from (omega (arith, h.to)) from to)
      ]
    ]

across-low : (axis : Axis) (grid : Grid) (k : Key) → IsAcross axis grid k → 1 ≤ k.level
across-low axis grid k across =
    elim (cases_lt k.level 1) [
      | inr low ↦ low
      | inl none ↦
          (let level : k.level ≡ 0 = omega (arith, none) in
          let same : across.cut.other ≡ across.cut.slot = omega (
            arith,
            slot_first k level,
            slot_end k level,
            across.cut.in_range.from,
            across.cut.in_range.to,
            across.cut.other_in_range.from,
            across.cut.other_in_range.to,
          ) in
          absurd (across.cut.outside (subst (λ (n : ℕ). IsInColumn axis grid across.column n) (sym same) across.cut.in_column)))
    ]

-- the view needs the key
abbrev Needs : List (Option ℤ) → Scene → Key → Type 0
Needs list scene k = IsNeeded list scene.axis scene.grid scene.lo scene.hi k

-- all needed keys are told with the list's coefficients
pub record Tells (list : List (Option ℤ)) (scene : Scene) : Type 0 where
  pub values : AreSlots list
  pub slots : scene.axis.slots ≡ length list
  pub root : scene.root ≡ span list (top_key (length list))
  pub told : (k : Key) → Needs list scene k → scene.told k ≡ Some (coef list k)

-- the keys of which nothing is told, told with the list's coefficients
abbrev told_or : Option Coef → Coef → Option Coef
told_or None c = Some c
told_or (Some d) c = Some d

abbrev pub filled : List (Option ℤ) → (Key → Option Coef) → Key → Option Coef
filled list told k = told_or (told k) (coef list k)

pub filled-more : (list : List (Option ℤ)) (told : Key → Option Coef) → IsToldBy told (filled list told)
filled-more list told k c is = ap (λ (o : Option Coef). told_or o (coef list k)) is

filled-is : (list : List (Option ℤ)) (k : Key) (o : Option Coef) → ((c : Coef) → o ≡ Some c → c ≡ coef list k)
    → told_or o (coef list k) ≡ Some (coef list k)
filled-is list k None right = refl
filled-is list k (Some c) right = ap (λ (d : Coef). Some d) (right c refl)

pub filled-tells : (list : List (Option ℤ)) (scene : Scene) → IsToldOf list scene → Tells list (with_told scene (filled list scene.told))
filled-tells list scene of = record {
  values = of.values;
  slots = of.slots;
  root = of.root;
  told = λ k needs. filled-is list k (scene.told k) (λ c is. of.told k c needs is);
}

-- a key that is seen with the list's span
pub record Listed (list : List (Option ℤ)) (scene : Scene) (k : Key) : Type 0 where
  pub span : Span
  pub seen : IsSeen scene k span
  pub is : Rattle.om3_coeff.specs.Spans.span list k ≡ Some span

top-is : (n : ℕ) (m : Key) → IsKey (height_of n) m → height_of n ≤ m.level → m ≡ top_key n
top-is n m key high =
    let none : height_of n - m.level ≡ 0 = omega (arith, high) in
    let small : m.index < 2 ^ 0 = subst (λ (e : ℕ). m.index < 2 ^ e) none key.within in
    key-same m (top_key n) (omega (arith, high, key.high)) (omega (arith, small))

pub top-listed : (list : List (Option ℤ)) (scene : Scene) → Tells list scene → (m : Key) (u : Span) → peak scene ≤ m.level
    → IsSeen scene m u → Listed list scene m
top-listed list scene of m u high seen =
    let at : m ≡ top_key scene.axis.slots = top-is scene.axis.slots m seen.key high in
    record {
      span = u;
      seen = seen;
      is = ap (λ (k : Key). span list k) (at ∙ ap top_key of.slots) ∙ sym of.root
          ∙ inner (sym (known-top scene.root scene.told (peak scene) m high) ∙ seen.span);
    }

half-span : (list : List (Option ℤ)) (m : Key) → half m.index (
  span list (left_of (parent_of m)),
  span list (right_of (parent_of m)),
) ≡ span list m
half-span list m =
    elim (cases_eq (m.index % 2) 0) [
      | inl even ↦ left-half m.index (span list (left_of (parent_of m))) (span list (right_of (parent_of m))) even
          ∙ ap (λ (k : Key). span list k) (even_half m even)
      | inr odd ↦
          (let one : m.index % 2 ≡ 1 = omega (arith, odd) in
          right-half m.index (span list (left_of (parent_of m))) (span list (right_of (parent_of m))) one
          ∙ ap (λ (k : Key). span list k) (odd_half m one))
    ]

-- a seen half of a listed key with the list's coefficient is listed
pub half-listed : Basis → Sums → (list : List (Option ℤ)) (scene : Scene) → Tells list scene → (h : Key) (u : Span)
    → Listed list scene (parent_of h)
    → scene.told (parent_of h) ≡ Some (coef list (parent_of h)) → IsSeen scene h u → Listed list scene h
half-listed by sums list scene of h u p told seen =
    let split = split-of sums list (parent_of h) p.span of.values (omega arith) p.is in
    let known_so = known-under by scene h (parent_of h) (Some (Some p.span)) refl p.seen.key.high p.seen.span
    ∙ ap (λ (e : Option Coef). known_below h.index (Some (Some p.span)) e) told
    ∙ ap (option_map (half h.index)) split ∙ ap (λ (o : Option Span). Some o) (half-span list h) in
    record { span = u; seen = seen; is = inner (sym known_so ∙ seen.span) }

halves-hold : (k : Key) (i : ℕ) → 1 ≤ k.level → IsInRange k i → IsInRange (left_of k) i ⊎ IsInRange (right_of k) i
halves-hold k i low r =
    elim (cases_lt i (end_slot (left_of k))) [
      | inl left ↦ inl (record { from = omega (arith, r.from, left_first k low); to = left })
      | inr right ↦ inr (record { from = right; to = omega (arith, r.to, right_end k low) })
    ]

-- the half of a listed key with the list's coefficient that holds a stored slot is listed
stored-half : Basis → Sums → (list : List (Option ℤ)) (scene : Scene) → Tells list scene → (k : Key) (i : ℕ) (v : ℤ) → 1 ≤ k.level
    → Listed list scene k → scene.told k ≡ Some (coef list k)
    → Holds list i v → IsInRange k i → (h : Key) × (parent_of h ≡ k) × IsInRange h i × Listed list scene h
stored-half by sums list scene of k i v low p told holds r =
    let split : parts p.span (coef list k) ≡ Some (
      span list (left_of k),
      span list (right_of k),
    ) = split-of sums list k p.span of.values low p.is in
    elim (halves-hold k i low r) [
      | inl left ↦
          (let a = some-span sums list (left_of k) i v left holds in (
            left_of k,
            left-parent k low,
            left,
            record {
              span = a.0;
              seen = seen-left by scene k p.span (coef list k) (span list (left_of k))
                  (span list (right_of k)) a.0 low p.seen told split a.1;
              is = a.1;
            },
          ))
      | inr right ↦
          (let b = some-span sums list (right_of k) i v right holds in (
            right_of k,
            right-parent k low,
            right,
            record {
              span = b.0;
              seen = seen-right by scene k p.span (coef list k) (span list (left_of k))
                  (span list (right_of k)) b.0 low p.seen told split b.1;
              is = b.1;
            },
          ))
    ]

-- all keys above this one are told with the list's coefficients
abbrev pub IsUnderTold : List (Option ℤ) → Scene → Key → Type 0
IsUnderTold list scene k = (w : Key) → w.level ≤ peak scene → IsAtOrAbove w k → k.level < w.level → scene.told w ≡ Some (coef list w)

-- a listed key that holds slot i, with nothing but the list's coefficients above it
pub record Found (list : List (Option ℤ)) (scene : Scene) (i : ℕ) (IsSought : Key → Span → Type 0) : Type 0 where
  pub key : Key
  pub listed : Listed list scene key
  pub in_range : IsInRange key i
  pub under : IsUnderTold list scene key
  pub sought : IsSought key listed.span

-- each listed key that holds slot i is sought or needed
abbrev IsDecided : List (Option ℤ) → Scene → ℕ → (Key → Span → Type 0) → Type 0
IsDecided list scene i IsSought = (k : Key) (p : Listed list scene k) → IsInRange k i → IsSought k p.span ⊎ Needs list scene k

under-half : (list : List (Option ℤ)) (scene : Scene) (h k : Key) → parent_of h ≡ k → IsAtOrAbove k h → scene.told k ≡ Some (coef list k)
    → IsUnderTold list scene k → IsUnderTold list scene h
under-half list scene h k up over told under w high above strict =
    let level : k.level ≡ suc h.level = ap (λ (b : Key). b.level) (sym up) in
    let on : IsAtOrAbove w k = above-both w k h above over (omega (arith, level, strict)) in
    elim (cases_lt k.level w.level) [
      | inl higher ↦ under w high on higher
      | inr same ↦ subst (λ (b : Key). scene.told b ≡ Some (coef list b)) (sym (level-same w k on same)) told
    ]

descend : Basis → Sums → (list : List (Option ℤ)) (scene : Scene) → Tells list scene → (i : ℕ) (v : ℤ) → Holds list i v
    → (IsSought : Key → Span → Type 0) → IsDecided list scene i IsSought
    → (n : ℕ) (k : Key) → k.level ≤ n → Listed list scene k → IsInRange k i → IsUnderTold list scene k → Found list scene i IsSought
descend by sums list scene of i v holds IsSought decide zero k few p r under =
    elim (decide k p r) [
      | inl sought ↦ record { key = k; listed = p; in_range = r; under = under; sought = sought }
      | inr needs ↦ absurd (omega (arith, few, needs.node.low))
    ]
descend by sums list scene of i v holds IsSought decide (suc n) k few p r under =
    elim (decide k p r) [
      | inl sought ↦ record { key = k; listed = p; in_range = r; under = under; sought = sought }
      | inr needs ↦
          (let told = of.told k needs in
          let h = stored-half by sums list scene of k i v needs.node.low p told holds r in
          let level : k.level ≡ suc h.0.level = ap (λ (b : Key). b.level) (sym h.1) in
          let over : IsAtOrAbove k h.0 = shared-above k h.0 i (omega (arith, level)) r h.2 in
          descend by sums list scene of i v holds IsSought decide n h.0 (omega (arith, few, level)) h.3 h.2
          (under-half list scene h.0 k h.1 over told under))
    ]

found : Basis → Sums → (list : List (Option ℤ)) (scene : Scene) → Tells list scene → scene.axis.slots ≤ 2 ^ 35 → (i : ℕ) (v : ℤ)
    → Holds list i v → i < scene.axis.slots
    → (IsSought : Key → Span → Type 0) → IsDecided list scene i IsSought → Found list scene i IsSought
found by sums list scene of few i v holds inside IsSought decide =
    let n : ℕ = scene.axis.slots in
    let r : IsInRange (top_key n) i = record { from = omega arith; to = omega (arith, inside, height_covers n few) } in
    let s = some-span sums list (top_key n) i v r holds in
    let root : scene.root ≡ Some s.0 = of.root ∙ ap (λ (e : ℕ). span list (top_key e)) (sym of.slots) ∙ s.1 in
    let seen : IsSeen scene (top_key n) s.0 = record {
      key = record { high = omega arith; within = power-some (peak scene - peak scene) };
      span = known-top scene.root scene.told (peak scene) (top_key n) (omega arith) ∙ ap (λ (o : Option Span). Some o) root;
    } in
    descend by sums list scene of i v holds IsSought decide (peak scene) (top_key n) (omega arith)
    (record { span = s.0; seen = seen; is = s.1 }) r
    (λ w high above strict. absurd (omega (arith, high, strict)))

some-of : {s : Span} → (o : Option Span) → o ≡ Some s → IsSome o
some-of o is = ap (λ (p : Option Span). is_some p) is

node-of : (list : List (Option ℤ)) (scene : Scene) → scene.axis.slots ≡ length list → (k : Key) → 1 ≤ k.level → IsKey (peak scene) k
    → IsNode (height_of (length list)) k
node-of list scene same k low key =
    let node : IsNode (peak scene) k = record { low = low; high = key.high; within = key.within } in
    subst (λ (n : ℕ). IsNode (height_of n) k) same node

across-needed : (list : List (Option ℤ)) (scene : Scene) → Tells list scene → (k : Key) → Listed list scene k
    → IsAcross scene.axis scene.grid k → Needs list scene k
across-needed list scene of k p across = record {
  node = node-of list scene of.slots k (across-low scene.axis scene.grid k across) p.seen.key;
  stored = some-of (span list k) p.is;
  column = across.column;
  shown = omega (
    arith,
    across.cut.in_column.place,
    column-below scene.grid (slot_time scene.axis across.cut.slot) across.cut.in_column.shown,
  );
  reason = inl across.cut;
}

-- a stored slot lies in a listed key that is within its column
pub blocked : Basis → Sums → (list : List (Option ℤ)) (scene : Scene) → Tells list scene → scene.axis.slots ≤ 2 ^ 35 → (c i : ℕ) (v : ℤ)
    → Holds list i v → IsInColumn scene.axis scene.grid c i
    → Found list scene i (λ k s. IsWithin scene.axis scene.grid c k)
blocked by sums list scene of few c i v holds here =
    found by sums list scene of few i v holds here.slot (λ k s. IsWithin scene.axis scene.grid c k)
    (λ k p r. elim (within-or-across scene.axis scene.grid c k i r here) [
      | inl within ↦ inl within
      | inr across ↦ inr (across-needed list scene of k p across)
    ])

-- the key is within the column, and its span has one height
pub record IsLevel (scene : Scene) (c : ℕ) (k : Key) (s : Span) : Type 0 where
  pub within : IsWithin scene.axis scene.grid c k
  pub flat : IsFlat scene.lo scene.hi scene.grid.h s

-- slot i is the first or the last stored slot of column c
abbrev pub IsEnd : List (Option ℤ) → Scene → ℕ → ℕ → Type 0
IsEnd list scene c i = IsFirstStored list scene.axis scene.grid c i ⊎ IsLastStored list scene.axis scene.grid c i

flat-cases : (lo hi : ℤ) (h : ℕ) (s : Span) → IsFlat lo hi h s ⊎ (IsFlat lo hi h s → ⊥)
flat-cases lo hi h s = equal-cases (Rattle.chart_grid.specs.Projection.height s.min lo hi h)
    (Rattle.chart_grid.specs.Projection.height s.max lo hi h)
  where
    equal-cases : (a b : ℤ) → (a ≡ b) ⊎ (a ≡ b → ⊥)
    equal-cases a b = by_lt_z a b (λ less. inr (λ same. absurd (omega (arith, ints, less, same))))
        (λ more. by_lt_z b a (λ less. inr (λ same. absurd (omega (arith, ints, less, same))))
        (λ same. inl (omega (arith, ints, more, same))))

one-span-of : {s t : Span} → ◌≡◌ {A = Option Span} (Some s) (Some t) → s ≡ t
one-span-of h = cc

uneven-needed : Sums → (list : List (Option ℤ)) (scene : Scene) → Tells list scene → (c i : ℕ) → IsInColumn scene.axis scene.grid c i
    → IsEnd list scene c i
    → (k : Key) (p : Listed list scene k) → IsInRange k i → IsWithin scene.axis scene.grid c k
    → (IsFlat scene.lo scene.hi scene.grid.h p.span → ⊥) → Needs list scene k
uneven-needed sums list scene of c i here end k p r within uneven = record {
  node = node-of list scene of.slots k
      (elim (cases_lt k.level 1) [
        | inr low ↦ low
        | inl none ↦ absurd (uneven (ap (λ (v : ℤ). Rattle.chart_grid.specs.Projection.height v scene.lo scene.hi scene.grid.h)
            (slot-flat sums list k p.span (omega (arith, none)) p.is)))
      ]) p.seen.key;
  stored = some-of (span list k) p.is;
  column = c;
  shown = omega (arith, here.place, column-below scene.grid (slot_time scene.axis i) here.shown);
  reason = inr (
    within,
    λ s is flat. uneven (subst (λ (t : Span). IsFlat scene.lo scene.hi scene.grid.h t)
        (one-span-of (sym is ∙ p.is)) flat),
    record { slot = i; in_range = r; end = end },
  );
}

-- the first and the last stored slot of a column lie in listed keys that are within it and of one height
pub anchored : Basis → Sums → (list : List (Option ℤ)) (scene : Scene) → Tells list scene → scene.axis.slots ≤ 2 ^ 35 → (c i : ℕ) (v : ℤ)
    → Holds list i v → IsInColumn scene.axis scene.grid c i
    → IsEnd list scene c i → Found list scene i (λ k s. IsLevel scene c k s)
anchored by sums list scene of few c i v holds here end =
    found by sums list scene of few i v holds here.slot (λ k s. IsLevel scene c k s)
    (λ k p r. elim (within-or-across scene.axis scene.grid c k i r here) [
      | inr across ↦ inr (across-needed list scene of k p across)
      | inl within ↦ elim (flat-cases scene.lo scene.hi scene.grid.h p.span) [
        | inl flat ↦ inl (record { within = within; flat = flat })
        | inr uneven ↦ inr (uneven-needed sums list scene of c i here end k p r within uneven)
      ]
    ])
