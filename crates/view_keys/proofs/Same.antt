-- The wanted keys are the needed ones.
use Rattle.std.proofs.Common.{ℕ, ℤ, zero, suc, ◌≡◌, ◌+◌, ◌-◌, ◌*◌, ◌/◌, ◌^◌, ◌<◌, ◌≤◌, ◌⊎◌, inl, inr, List, length, Option, None, Some}
use Rattle.std.proofs.Common.{IsSome, refl, sym, ap, ◌∙◌, subst, arith}
use Rattle.std.specs.Option.{is_some}
use Rattle.std.proofs.lemmas.Bool.{cases_lt}
use Rattle.std.proofs.lemmas.Nat.{pow-add}
use Rattle.std.proofs.Math.Nat.{le-div_iff_mul-le}
use Rattle.chart_grid.specs.declared.axis.Axis.{Axis}
use Rattle.chart_grid.specs.declared.grid.Grid.{Grid}
use Rattle.chart_grid.specs.Slots.{IsInColumn}
use Rattle.om3_coeff.specs.declared.key.Key.{Key}
use Rattle.om3_coeff.specs.declared.span.Span.{Span}
use Rattle.om3_coeff.specs.Keys.{first_slot, end_slot, parent_of, height, IsKey, IsNode, IsAtOrAbove}
use Rattle.om3_coeff.specs.Spans.{span}
use Rattle.om3_coeff.specs.Coefs.{coef}
use Rattle.om3_coeff.specs.Known.{known, known_below, IsKnownClear}
use Rattle.view_keys.specs.Ranges.{IsInRange, IsWithin, IsCut}
use Rattle.view_keys.specs.Flat.{IsFlat}
use Rattle.view_keys.specs.Needed.{IsFirstStored, IsLastStored, HoldsEnd, IsUneven, IsNeeded}
use Rattle.view_keys.specs.Wanted.{Seen, IsClearBefore, IsClearBehind, IsWanted}
use Rattle.view_keys.proofs.Ranging.{power-some, in_range-index, above-in_range, shared-above, key_at, key_at-in_range, slot_key}
use Rattle.view_keys.proofs.Ranging.{slot_key-in_range, slot_key-is, make_key, key-same, parent-above, first-in_range, last-in_range}
use Rattle.view_keys.proofs.Columns.{Rise, in_column-cases, within-or-cut}
use Rattle.view_keys.proofs.Flatness.{HeightsRise, PartsJoin, PartsProper, IsInside, inside-flat, uneven-above, parent-seen, IsFlatKey}
use Rattle.view_keys.proofs.Flatness.{flat-cases}
use Rattle.view_keys.proofs.Clearing.{slots-clear}
use Rattle.view_keys.proofs.Ends.{IsStoredAt, stored-cases, Extremes, stored-some, some-stored, least, greatest, stored-within}

-- the stored nodes above a key are told with the list's coefficients
abbrev pub AreRightAbove : List (Option ℤ) → Seen → Key → Type 0
AreRightAbove list seen k =
    (w : Key) → IsNode (height (length list)) w → k.level < w.level → IsAtOrAbove w k → IsSome (span list w)
    → seen.told w ≡ Some (coef list w)

-- what the law rests on
pub record Ground (list : List (Option ℤ)) (axis : Axis) (grid : Grid) (lo hi : ℤ) (seen : Seen) : Type 0 where
  pub rise : Rise
  pub heights : HeightsRise
  pub join : PartsJoin
  pub proper : PartsProper
  pub extremes : Extremes list
  pub deep : length list ≤ 2 ^ height (length list)
  pub slots : axis.slots ≡ length list
  pub shown : (k : Key) → IsKey (height (length list)) k → AreRightAbove list seen k
      → known seen.root seen.told (height (length list)) k ≡ Some (span list k)
  pub below : (k : Key) → k.level < height (length list)
      → known seen.root seen.told (height (length list)) k
      ≡ known_below k.index (known seen.root seen.told (height (length list)) (parent_of k)) (seen.told (parent_of k))
  pub right : (k : Key) → IsNeeded list axis grid lo hi k → IsWanted seen axis grid lo hi k → seen.told k ≡ Some (coef list k)

-- the height of the axis is that of the list
axis-height : {list : List (Option ℤ)} {axis : Axis} {grid : Grid} {seen : Seen} {lo hi : ℤ} → Ground list axis grid lo hi seen
    → height axis.slots ≡ height (length list)
axis-height g = ap height g.slots

as_key : {top : ℕ} {k : Key} → IsNode top k → IsKey top k
as_key n = record { high = n.high; within = n.within }

some-is : {X : Type 0} → (o : Option X) → IsSome o → (x : X) × (o ≡ Some x)
some-is (Some x) some = (x, refl)
some-is None some = absurd (grind (arith, some))

-- a wanted key, where its span is known to be the list's
make-wanted : {list : List (Option ℤ)} {axis : Axis} {grid : Grid} {seen : Seen} {lo hi : ℤ} → Ground list axis grid lo hi seen
    → (c : ℕ) (k : Key)
    → IsNode (height (length list)) k → IsSome (span list k)
    → known seen.root seen.told (height (length list)) k ≡ Some (span list k) → c < grid.w
    → IsCut axis grid c k ⊎ (IsWithin axis grid c k × IsUneven list lo hi grid.h k
    × (IsClearBefore seen axis grid c k ⊎ IsClearBehind seen axis grid c k))
    → IsWanted seen axis grid lo hi k
make-wanted {list} {axis} {grid} {seen} g c k node some is shown reason =
    let s = some-is (span list k) some in record {
      node = subst (λ (h : ℕ). IsNode h k) (sym (axis-height g)) node;
      span = s.0;
      known_so = subst (λ (h : ℕ). known seen.root seen.told h k ≡ Some (Some s.0)) (sym (axis-height g)) (is ∙ ap Some s.1);
      column = c;
      shown = shown;
      reason = elim reason [
        | inl cut ↦ inl cut
        | inr h ↦ inr (h.0, h.1 s.0 s.1, h.2)
      ];
    }

-- what lies above a cut key is cut
cut-above : {axis : Axis} {grid : Grid} → (c : ℕ) (w k : Key) → IsAtOrAbove w k → IsCut axis grid c k → IsCut axis grid c w
cut-above c w k above cut = record {
  slot = cut.slot;
  in_range = above-in_range w k cut.slot above cut.in_range;
  in_column = cut.in_column;
  other = cut.other;
  other_in_range = above-in_range w k cut.other above cut.other_in_range;
  outside = cut.outside;
}

-- a stored key that is cut is wanted
cut-wanted : {list : List (Option ℤ)} {axis : Axis} {grid : Grid} {seen : Seen} {lo hi : ℤ} → Ground list axis grid lo hi seen → (c : ℕ)
    → c < grid.w
    → (fuel : ℕ) (k : Key) → height (length list) ≤ k.level + fuel → IsNode (height (length list)) k → IsSome (span list k)
    → IsCut axis grid c k → IsWanted seen axis grid lo hi k
cut-wanted {list} g c shown zero k deep node some cut =
    make-wanted g c k node some
    (g.shown k (as_key node) (λ w is lower above full. absurd (omega (arith, deep, lower, is.high))))
    shown (inl cut)
cut-wanted {list} g c shown (suc fuel) k deep node some cut =
    make-wanted g c k node some
    (g.shown k (as_key node) (λ w is lower above full.
    g.right w
    (record { node = is; stored = full; column = c; shown = shown; reason = inl (cut-above c w k above cut) })
    (cut-wanted g c shown fuel w (omega (arith, deep, lower)) is full (cut-above c w k above cut))))
    shown (inl cut)

cut-right : {list : List (Option ℤ)} {axis : Axis} {grid : Grid} {seen : Seen} {lo hi : ℤ} → Ground list axis grid lo hi seen → (c : ℕ)
    → c < grid.w
    → (w : Key) → IsNode (height (length list)) w → IsSome (span list w) → IsCut axis grid c w → seen.told w ≡ Some (coef list w)
cut-right {list} g c shown w node some cut =
    g.right w
    (record { node = node; stored = some; column = c; shown = shown; reason = inl cut })
    (cut-wanted g c shown (height (length list)) w (omega arith) node some cut)

-- a slot is the first or the last stored one of a column
abbrev IsEnd : List (Option ℤ) → Axis → Grid → ℕ → ℕ → Type 0
IsEnd list axis grid c i = IsFirstStored list axis grid c i ⊎ IsLastStored list axis grid c i

end-column : {list : List (Option ℤ)} {axis : Axis} {grid : Grid} → (c i : ℕ) → IsEnd list axis grid c i → IsInColumn axis grid c i
end-column c i (inl e) = e.in_column
end-column c i (inr e) = e.in_column

end-stored : {list : List (Option ℤ)} {axis : Axis} {grid : Grid} → (c i : ℕ) → IsEnd list axis grid c i → IsStoredAt list i
end-stored c i (inl e) = (e.value, e.stored)
end-stored c i (inr e) = (e.value, e.stored)

-- a slot that holds nothing has no span
clear-span-by : (list : List (Option ℤ)) (j : ℕ) → Extremes list → (IsStoredAt list j → ⊥) → (o : Option Span) → span list (slot_key j) ≡ o
    → o ≡ None
clear-span-by list j extremes empty None is = refl
clear-span-by list j extremes empty (Some s) is =
    let found = some-stored list (slot_key j) extremes (ap is_some is) in
    absurd (empty (subst (λ (i : ℕ). IsStoredAt list i) (slot_key-is j found.0 found.1) found.2))

clear-span : (list : List (Option ℤ)) (j : ℕ) → Extremes list → (IsStoredAt list j → ⊥) → span list (slot_key j) ≡ None
clear-span list j extremes empty = clear-span-by list j extremes empty (span list (slot_key j)) refl

slot-is-key : {list : List (Option ℤ)} {axis : Axis} {grid : Grid} {seen : Seen} {lo hi : ℤ} → Ground list axis grid lo hi seen → (c j : ℕ)
    → IsInColumn axis grid c j → IsKey (height (length list)) (slot_key j)
slot-is-key {list} g c j here =
    let e : height (length list) ≡ height (length list) - 0 = omega arith in
    record {
      high = omega arith;
      within = subst (λ (n : ℕ). j < 2 ^ n) e (omega (arith, here.slot, g.slots, g.deep));
    }

-- an end of a column lies between a slot and each stored slot of the column
abbrev LiesBetween : List (Option ℤ) → Axis → Grid → ℕ → ℕ → ℕ → Type 0
LiesBetween list axis grid c i j =
    (t : ℕ) → IsInColumn axis grid c t → IsStoredAt list t → ((j ≤ i) × (i ≤ t)) ⊎ ((t ≤ i) × (i ≤ j))

in-between : (w : Key) (i j t : ℕ) → IsInRange w j → IsInRange w t → ((j ≤ i) × (i ≤ t)) ⊎ ((t ≤ i) × (i ≤ j)) → IsInRange w i
in-between w i j t a b (inl h) = record { from = omega (arith, a.from, h.0); to = omega (arith, b.to, h.1) }
in-between w i j t a b (inr h) = record { from = omega (arith, b.from, h.0); to = omega (arith, a.to, h.1) }

-- keys above that hold an end of the column are wanted
abbrev WantsAbove : List (Option ℤ) → Axis → Grid → ℤ → ℤ → Seen → ℕ → ℕ → ℕ → Type 0
WantsAbove list axis grid lo hi seen c i level =
    (w : Key) → IsNode (height (length list)) w → level < w.level → IsWithin axis grid c w → IsInRange w i → IsUneven list lo hi grid.h w
    → IsWanted seen axis grid lo hi w

needs-end : {list : List (Option ℤ)} {axis : Axis} {grid : Grid} {seen : Seen} {lo hi : ℤ} → Ground list axis grid lo hi seen → (c i : ℕ)
    → c < grid.w
    → IsEnd list axis grid c i → (w : Key) → IsNode (height (length list)) w → IsWithin axis grid c w → IsInRange w i
    → IsUneven list lo hi grid.h w → IsNeeded list axis grid lo hi w
needs-end {list} g c i shown end w node within r uneven = record {
  node = node;
  stored = stored-some list w i g.extremes r (end-stored c i end);
  column = c;
  shown = shown;
  reason = inr (within, uneven, record { slot = i; in_range = r; end = end });
}

-- a key above one that holds an end and isn't flat isn't
end-uneven : {list : List (Option ℤ)} {axis : Axis} {grid : Grid} {seen : Seen} {lo hi : ℤ} → Ground list axis grid lo hi seen → (c i : ℕ)
    → IsEnd list axis grid c i → (w k : Key) → IsAtOrAbove w k → IsInRange k i → IsUneven list lo hi grid.h k → IsUneven list lo hi grid.h w
end-uneven {list} {axis} {grid} {seen} {lo} {hi} g c i end w k above r uneven =
    uneven-above list lo hi grid.h w k g.heights g.extremes above (stored-some list k i g.extremes r (end-stored c i end)) uneven

-- the keys above an end are right where those within the column are wanted
end-right : {list : List (Option ℤ)} {axis : Axis} {grid : Grid} {seen : Seen} {lo hi : ℤ} → Ground list axis grid lo hi seen → (c i : ℕ)
    → c < grid.w
    → IsEnd list axis grid c i → (level : ℕ) → WantsAbove list axis grid lo hi seen c i level
    → (w : Key) → IsNode (height (length list)) w → level < w.level → IsInRange w i → IsSome (span list w) → IsUneven list lo hi grid.h w
    → seen.told w ≡ Some (coef list w)
end-right {axis = axis} {grid = grid} g c i shown end level up w node lower r full uneven =
    elim (within-or-cut g.rise axis grid c w i r (end-column c i end)) [
      | inr cut ↦ cut-right g c shown w node full cut
      | inl within ↦ g.right w (needs-end g c i shown end w node within r uneven) (up w node lower within r uneven)
    ]

-- so are those above a slot that lies beyond the end and outside a key within the column that holds it
beyond-right : {list : List (Option ℤ)} {axis : Axis} {grid : Grid} {seen : Seen} {lo hi : ℤ} → Ground list axis grid lo hi seen → (c i : ℕ)
    → c < grid.w
    → IsEnd list axis grid c i → (k : Key) → WantsAbove list axis grid lo hi seen c i k.level → IsInRange k i → IsUneven list lo hi grid.h k
    → (j : ℕ) → IsInColumn axis grid c j → (IsInRange k j → ⊥) → LiesBetween list axis grid c i j
    → AreRightAbove list seen (slot_key j)
beyond-right {list} {axis} {grid} {seen} {lo} {hi} g c i shown end k up in_k uneven j here out between w node lower above full =
    let in_w : IsInRange w j = above-in_range w (slot_key j) j above (slot_key-in_range j) in
    elim (within-or-cut g.rise axis grid c w j in_w here) [
      | inr cut ↦ cut-right g c shown w node full cut
      | inl within ↦
          (let found = some-stored list w g.extremes full in
          let in_wi : IsInRange w i = in-between w i j found.0 in_w found.1 (between found.0 (within found.0 found.1) found.2) in
          elim (cases_lt k.level w.level) [
            | inl higher ↦
                (let w_uneven = end-uneven g c i end w k (shared-above w k i (omega (arith, higher)) in_wi in_k) in_k uneven in
                g.right w (needs-end g c i shown end w node within in_wi w_uneven) (up w node higher within in_wi w_uneven))
            | inr low ↦ absurd (out (above-in_range k w j (shared-above k w i low in_k in_wi) in_w))
          ])
    ]

-- a slot that lies beyond the end is known to hold nothing
beyond-clear : {list : List (Option ℤ)} {axis : Axis} {grid : Grid} {seen : Seen} {lo hi : ℤ} → Ground list axis grid lo hi seen → (c i : ℕ)
    → c < grid.w
    → IsEnd list axis grid c i → (k : Key) → WantsAbove list axis grid lo hi seen c i k.level → IsInRange k i → IsUneven list lo hi grid.h k
    → (j : ℕ) → IsInColumn axis grid c j → (IsInRange k j → ⊥) → LiesBetween list axis grid c i j → (IsStoredAt list j → ⊥)
    → IsKnownClear seen.root seen.told (height axis.slots) j
beyond-clear {list} {axis} {grid} {seen} g c i shown end k up in_k uneven j here out between empty =
    subst (λ (h : ℕ). known seen.root seen.told h (slot_key j) ≡ Some None) (sym (axis-height g))
    (g.shown (slot_key j) (slot-is-key g c j here) (beyond-right g c i shown end k up in_k uneven j here out between)
    ∙ ap Some (clear-span list j g.extremes empty))

not-before : (list : List (Option ℤ)) (axis : Axis) (grid : Grid) (c i t : ℕ) → IsFirstStored list axis grid c i
    → IsInColumn axis grid c t → IsStoredAt list t → i ≤ t
not-before list axis grid c i t e inside full = elim (cases_lt t i) [
  | inl low ↦ absurd (e.none_before t full.0 low inside full.1)
  | inr high ↦ high
]

not-behind : (list : List (Option ℤ)) (axis : Axis) (grid : Grid) (c i t : ℕ) → IsLastStored list axis grid c i
    → IsInColumn axis grid c t → IsStoredAt list t → t ≤ i
not-behind list axis grid c i t e inside full = elim (cases_lt i t) [
  | inl high ↦ absurd (e.none_behind t full.0 high inside full.1)
  | inr low ↦ low
]

-- all slots of the column beyond the end are
end-clear : {list : List (Option ℤ)} {axis : Axis} {grid : Grid} {seen : Seen} {lo hi : ℤ} → Ground list axis grid lo hi seen → (c i : ℕ)
    → c < grid.w
    → (k : Key) → WantsAbove list axis grid lo hi seen c i k.level → IsInRange k i → IsUneven list lo hi grid.h k → IsEnd list axis grid c i
    → IsClearBefore seen axis grid c k ⊎ IsClearBehind seen axis grid c k
end-clear {list} {axis} {grid} g c i shown k up in_k uneven (inl e) =
    inl (λ j here low. beyond-clear g c i shown (inl e) k up in_k uneven j here
    (λ r. absurd (omega (arith, low, r.from)))
    (λ t inside full. inl (omega (arith, low, in_k.from), not-before list axis grid c i t e inside full))
    (λ full. e.none_before j full.0 (omega (arith, low, in_k.from)) here full.1))
end-clear {list} {axis} {grid} g c i shown k up in_k uneven (inr e) =
    inr (λ j here high. beyond-clear g c i shown (inr e) k up in_k uneven j here
    (λ r. absurd (omega (arith, high, r.to)))
    (λ t inside full. inr (not-behind list axis grid c i t e inside full, omega (arith, high, in_k.to)))
    (λ full. e.none_behind j full.0 (omega (arith, high, in_k.to)) here full.1))

within-by : {list : List (Option ℤ)} {axis : Axis} {grid : Grid} {seen : Seen} {lo hi : ℤ} → Ground list axis grid lo hi seen → (c i : ℕ)
    → c < grid.w
    → IsEnd list axis grid c i → (k : Key) → WantsAbove list axis grid lo hi seen c i k.level → IsNode (height (length list)) k
    → IsWithin axis grid c k → IsInRange k i → IsUneven list lo hi grid.h k → IsWanted seen axis grid lo hi k
within-by {list} g c i shown end k up node within r uneven =
    make-wanted g c k node (stored-some list k i g.extremes r (end-stored c i end))
    (g.shown k (as_key node) (λ w is lower above full.
    end-right g c i shown end k.level up w is lower (above-in_range w k i above r) full (end-uneven g c i end w k above r uneven)))
    shown (inr (within, uneven, end-clear g c i shown k up r uneven end))

-- a key within a column that holds one of its ends is wanted
within-wanted : {list : List (Option ℤ)} {axis : Axis} {grid : Grid} {seen : Seen} {lo hi : ℤ} → Ground list axis grid lo hi seen
    → (c i : ℕ) → c < grid.w
    → IsEnd list axis grid c i → (fuel : ℕ) (k : Key) → height (length list) ≤ k.level + fuel → IsNode (height (length list)) k
    → IsWithin axis grid c k → IsInRange k i → IsUneven list lo hi grid.h k → IsWanted seen axis grid lo hi k
within-wanted {list} g c i shown end zero k deep node within r uneven =
    within-by g c i shown end k (λ w is lower inside holds other. absurd (omega (arith, deep, lower, is.high))) node within r uneven
within-wanted {list} g c i shown end (suc fuel) k deep node within r uneven =
    within-by g c i shown end k
    (λ w is lower inside holds other. within-wanted g c i shown end fuel w (omega (arith, deep, lower)) is inside holds other) node within r
    uneven

-- a needed key is wanted
by-reason : {list : List (Option ℤ)} {axis : Axis} {grid : Grid} {seen : Seen} {lo hi : ℤ} → Ground list axis grid lo hi seen → (c : ℕ)
    → c < grid.w
    → (k : Key) → IsNode (height (length list)) k → IsSome (span list k)
    → IsCut axis grid c k ⊎ (IsWithin axis grid c k × IsUneven list lo hi grid.h k × HoldsEnd list axis grid c k)
    → IsWanted seen axis grid lo hi k
by-reason {list} g c shown k node some (inl cut) = cut-wanted g c shown (height (length list)) k (omega arith) node some cut
by-reason {list} g c shown k node some (inr h) =
    within-wanted g c h.2.slot shown h.2.end (height (length list)) k (omega arith) node h.0 h.2.in_range h.1

pub needed-wanted : {list : List (Option ℤ)} {axis : Axis} {grid : Grid} {seen : Seen} {lo hi : ℤ} → Ground list axis grid lo hi seen
    → (k : Key)
    → IsNeeded list axis grid lo hi k → IsWanted seen axis grid lo hi k
needed-wanted g k n = by-reason g n.column n.shown k n.node n.stored n.reason

at-most : (a b : ℕ) → (b < a → ⊥) → a ≤ b
at-most a b not = elim (cases_lt b a) [
  | inl low ↦ absurd (not low)
  | inr high ↦ high
]

below-end : (a b : ℕ) → (b ≤ a → ⊥) → a < b
below-end a b not = elim (cases_lt a b) [
  | inl low ↦ low
  | inr high ↦ absurd (not high)
]

apart : {s : Span} → ◌≡◌ {A = Option (Option Span)} (Some None) (Some (Some s)) → ⊥
apart h = cc

no-none : {s : Span} → ◌≡◌ {A = Option (Option Span)} None (Some (Some s)) → ⊥
no-none h = cc

inner : {X : Type 0} {a b : X} → ◌≡◌ {A = Option X} (Some a) (Some b) → a ≡ b
inner h = cc

-- the first and the last stored slot of a column below and behind a stored one
kind-cases : (list : List (Option ℤ)) (axis : Axis) (grid : Grid) (c i : ℕ)
    → (IsInColumn axis grid c i × IsStoredAt list i) ⊎ (IsInColumn axis grid c i × IsStoredAt list i → ⊥)
kind-cases list axis grid c i = elim (in_column-cases axis grid c i) [
  | inr out ↦ inr (λ (h : IsInColumn axis grid c i × IsStoredAt list i). out h.0)
  | inl here ↦ elim (stored-cases list i) [
    | inr empty ↦ inr (λ (h : IsInColumn axis grid c i × IsStoredAt list i). empty h.1)
    | inl full ↦ inl (here, full)
  ]
]

abbrev IsKind : List (Option ℤ) → Axis → Grid → ℕ → ℕ → Type 0
IsKind list axis grid c i = IsInColumn axis grid c i × IsStoredAt list i

first-of : (list : List (Option ℤ)) (axis : Axis) (grid : Grid) (c i : ℕ) → IsInColumn axis grid c i → IsStoredAt list i
    → (j : ℕ) × (j ≤ i) × IsFirstStored list axis grid c j
first-of list axis grid c i here full =
    elim (least (IsKind list axis grid c) (kind-cases list axis grid c) (suc i)) [
      | inr none ↦ absurd (none i (omega arith) (here, full))
      | inl found ↦ (
        found.0,
        omega (arith, found.1),
        record {
          in_column = found.2.0.0;
          value = found.2.0.1.0;
          stored = found.2.0.1.1;
          none_before = λ j v low inside holds. found.2.1 j low (inside, (v, holds));
        },
      )
    ]

last-of : (list : List (Option ℤ)) (axis : Axis) (grid : Grid) (c i : ℕ) → IsInColumn axis grid c i → IsStoredAt list i
    → (j : ℕ) × (i ≤ j) × IsLastStored list axis grid c j
last-of list axis grid c i here full =
    elim (greatest (IsKind list axis grid c) (kind-cases list axis grid c) (length list)) [
      | inr none ↦ absurd (none i (stored-within list i full) (here, full))
      | inl found ↦ (
        found.0,
        at-most i found.0 (λ low. found.2.1 i low (stored-within list i full) (here, full)),
        record {
          in_column = found.2.0.0;
          value = found.2.0.1.0;
          stored = found.2.0.1.1;
          none_behind = λ j v high inside holds.
              found.2.1 j high (stored-within list j (v, holds)) (inside, (v, holds));
        },
      )
    ]

-- the keys above a key are right where they are needed
abbrev NeedsAbove : List (Option ℤ) → Axis → Grid → ℤ → ℤ → Key → Type 0
NeedsAbove list axis grid lo hi k =
    (w : Key) → IsNode (height (length list)) w → k.level < w.level → IsAtOrAbove w k → IsNeeded list axis grid lo hi w

above-right : {list : List (Option ℤ)} {axis : Axis} {grid : Grid} {seen : Seen} {lo hi : ℤ} → Ground list axis grid lo hi seen → (k : Key)
    → NeedsAbove list axis grid lo hi k → AreRightAbove list seen k
above-right g k up w node lower above full =
    let n = up w node lower above in g.right w n (needed-wanted g w n)

-- the key of this level over slot i is within the column and flat
abbrev IsStop : List (Option ℤ) → Axis → Grid → ℤ → ℤ → ℕ → Key → Type 0
IsStop list axis grid lo hi c k = (1 ≤ k.level) × IsWithin axis grid c k × IsFlatKey list lo hi grid.h k

stop-cases : Rise → (list : List (Option ℤ)) (axis : Axis) (grid : Grid) (lo hi : ℤ) (c i : ℕ) → IsInColumn axis grid c i → (level : ℕ)
    → IsStop list axis grid lo hi c (key_at level i) ⊎ (IsStop list axis grid lo hi c (key_at level i) → ⊥)
stop-cases rise list axis grid lo hi c i here level =
    elim (cases_lt 0 level) [
      | inr none ↦ inr (λ (h : IsStop list axis grid lo hi c (key_at level i)). absurd (omega (arith, none, h.0)))
      | inl some ↦ elim (within-or-cut rise axis grid c (key_at level i) i (key_at-in_range level i) here) [
        | inr cut ↦ inr (λ (h : IsStop list axis grid lo hi c (key_at level i)). cut.outside (h.1 cut.other cut.other_in_range))
        | inl within ↦ elim (flat-cases list lo hi grid.h (key_at level i)) [
          | inr not ↦ inr (λ (h : IsStop list axis grid lo hi c (key_at level i)). not h.2)
          | inl flat ↦ inl (omega (arith, some), within, flat)
        ]
      ]
    ]

-- a key that holds slot i is that of its level over it
key_at-is : (w : Key) (i : ℕ) → IsInRange w i → key_at w.level i ≡ w
key_at-is w i r = ap (λ q. make_key w.level q) (in_range-index w i r)

-- the keys above an end are right down to the highest one that is within the column and flat
chain-right : {list : List (Option ℤ)} {axis : Axis} {grid : Grid} {seen : Seen} {lo hi : ℤ} → Ground list axis grid lo hi seen → (c i : ℕ)
    → c < grid.w
    → IsEnd list axis grid c i → (level : ℕ)
    → ((l : ℕ) → level < l → l < suc (height (length list)) → IsStop list axis grid lo hi c (key_at l i) → ⊥)
    → AreRightAbove list seen (key_at level i)
chain-right {list} {axis} {grid} {seen} {lo} {hi} g c i shown end level none w node lower above full =
    let r : IsInRange w i = above-in_range w (key_at level i) i above (key_at-in_range level i) in
    elim (within-or-cut g.rise axis grid c w i r (end-column c i end)) [
      | inr cut ↦ cut-right g c shown w node full cut
      | inl within ↦
          (let uneven : IsUneven list lo hi grid.h w = λ s is flat. none w.level lower (omega (arith, node.high))
          (subst (λ (k : Key). IsStop list axis grid lo hi c k) (sym (key_at-is w i r)) (node.low, within, (s, is, flat))) in
          g.right w (needs-end g c i shown end w node within r uneven)
          (within-wanted g c i shown end (height (length list)) w (omega arith) node within r uneven))
    ]

-- where what is known below an end of a column stops: at the end's own slot, or at a flat key over it
record Stop (list : List (Option ℤ)) (axis : Axis) (grid : Grid) (lo hi : ℤ) (seen : Seen) (c i : ℕ) : Type 0 where
  level : ℕ
  high : level ≤ height (length list)
  within : IsWithin axis grid c (key_at level i)
  right : AreRightAbove list seen (key_at level i)
  kind : (level ≡ 0) ⊎ IsFlatKey list lo hi grid.h (key_at level i)

only-slot : (i j : ℕ) → IsInRange (key_at 0 i) j → j ≡ i
only-slot i j r = omega (arith, r.from, r.to)

slot-within : {axis : Axis} {grid : Grid} (c i : ℕ) → IsInColumn axis grid c i → IsWithin axis grid c (key_at 0 i)
slot-within {axis} {grid} c i here j r = subst (λ (n : ℕ). IsInColumn axis grid c n) (sym (only-slot i j r)) here

stop-of : {list : List (Option ℤ)} {axis : Axis} {grid : Grid} {seen : Seen} {lo hi : ℤ} → Ground list axis grid lo hi seen → (c i : ℕ)
    → c < grid.w
    → IsEnd list axis grid c i → Stop list axis grid lo hi seen c i
stop-of {list} {axis} {grid} {seen} {lo} {hi} g c i shown end =
    elim (greatest (λ l. IsStop list axis grid lo hi c (key_at l i)) (stop-cases g.rise list axis grid lo hi c i (end-column c i end))
    (suc (height (length list)))) [
      | inl found ↦ record {
        level = found.0;
        high = omega (arith, found.1);
        within = found.2.0.1;
        right = chain-right g c i shown end found.0 found.2.1;
        kind = inr found.2.0.2;
      }
      | inr none ↦ record {
        level = 0;
        high = omega arith;
        within = slot-within c i (end-column c i end);
        right = chain-right g c i shown end 0 (λ l low high. none l high);
        kind = inl refl;
      }
    ]

part-within : (n P Q i : ℕ) → 0 < P → Q * P ≡ n → i < n → i / P < Q
part-within n P Q i some is low = elim (cases_lt (i / P) Q) [
  | inl below ↦ below
  | inr above ↦ absurd (omega (arith, (le-div_iff_mul-le some).0 above, is, low))
]

key_at-is_key : (top level i : ℕ) → level ≤ top → i < 2 ^ top → IsKey top (key_at level i)
key_at-is_key top level i high low =
    record {
      high = high;
      within = part-within (2 ^ top) (2 ^ level) (2 ^ (top - level)) i (power-some level)
          (sym (pow-add 2 (top - level) level) ∙ ap (λ n. 2 ^ n) (omega (arith, high))) low;
    }

-- not all slots of the key where it stops are known to hold nothing
stop-open : {list : List (Option ℤ)} {axis : Axis} {grid : Grid} {seen : Seen} {lo hi : ℤ} → Ground list axis grid lo hi seen → (c i : ℕ)
    → IsEnd list axis grid c i → (s : Stop list axis grid lo hi seen c i)
    → ((j : ℕ) → IsInRange (key_at s.level i) j → IsKnownClear seen.root seen.told (height axis.slots) j) → ⊥
stop-open {list} {axis} {grid} {seen} g c i end s clear =
    let here = end-column c i end in
    let key : IsKey (height (length list)) (key_at s.level i) =
    key_at-is_key (height (length list)) s.level i s.high (omega (arith, here.slot, g.slots, g.deep)) in
    let full = stored-some list (key_at s.level i) i g.extremes (key_at-in_range s.level i) (end-stored c i end) in
    let found = some-is (span list (key_at s.level i)) full in
    let none : known seen.root seen.told (height (length list)) (key_at s.level i) ≡ Some None =
    slots-clear g.join (known seen.root seen.told (height (length list))) seen.told (height (length list)) g.below (key_at s.level i) s.high
    (λ j r. subst (λ (h : ℕ). known seen.root seen.told h (slot_key j) ≡ Some None) (axis-height g) (clear j r)) in
    apart (sym none ∙ g.shown (key_at s.level i) key s.right ∙ ap Some found.1)

-- the key where it stops shares no slot with one that isn't flat and doesn't hold the end
stop-apart : {list : List (Option ℤ)} {axis : Axis} {grid : Grid} {seen : Seen} {lo hi : ℤ} → Ground list axis grid lo hi seen → (c i : ℕ)
    → (s : Stop list axis grid lo hi seen c i) → (k : Key) → 1 ≤ k.level → IsSome (span list k) → IsUneven list lo hi grid.h k
    → (IsInRange k i → ⊥) → (b : ℕ) → IsInRange k b → IsInRange (key_at s.level i) b → ⊥
stop-apart {list} {axis} {grid} {seen} {lo} {hi} g c i s k node some uneven out b in_k in_s =
    elim (cases_lt s.level k.level) [
      | inl low ↦ out (above-in_range k (key_at s.level i) i (shared-above k (key_at s.level i) b (omega (arith, low)) in_k in_s)
          (key_at-in_range s.level i))
      | inr high ↦ elim s.kind [
        | inl slot ↦ absurd (omega (arith, slot, high, node))
        | inr flat ↦
            uneven-above list lo hi grid.h (key_at s.level i) k g.heights g.extremes
            (shared-above (key_at s.level i) k b high in_s in_k) some uneven
            flat.0 flat.1 flat.2
      ]
    ]

-- a first stored slot before a key that isn't flat leaves a slot before it that isn't known to hold nothing
not-clear-before : {list : List (Option ℤ)} {axis : Axis} {grid : Grid} {seen : Seen} {lo hi : ℤ} → Ground list axis grid lo hi seen
    → (c i : ℕ) → c < grid.w
    → IsEnd list axis grid c i → (k : Key) → 1 ≤ k.level → IsSome (span list k) → IsUneven list lo hi grid.h k → i < first_slot k
    → IsClearBefore seen axis grid c k → ⊥
not-clear-before {list} {axis} {grid} {seen} {lo} {hi} g c i shown end k node some uneven low clear =
    let s = stop-of g c i shown end in
    let at = key_at-in_range s.level i in
    stop-open g c i end s (λ j r. clear j (s.within j r) (below-end j (first_slot k) (λ high.
    stop-apart g c i s k node some uneven (λ in_k. absurd (omega (arith, in_k.from, low))) (first_slot k) (first-in_range k)
    (record { from = omega (arith, at.from, low); to = omega (arith, high, r.to) }))))

-- so does a last one behind it
not-clear-behind : {list : List (Option ℤ)} {axis : Axis} {grid : Grid} {seen : Seen} {lo hi : ℤ} → Ground list axis grid lo hi seen
    → (c i : ℕ) → c < grid.w
    → IsEnd list axis grid c i → (k : Key) → 1 ≤ k.level → IsSome (span list k) → IsUneven list lo hi grid.h k → end_slot k ≤ i
    → IsClearBehind seen axis grid c k → ⊥
not-clear-behind {list} {axis} {grid} {seen} {lo} {hi} g c i shown end k node some uneven high clear =
    let s = stop-of g c i shown end in
    let at = key_at-in_range s.level i in
    let last = last-in_range k in
    stop-open g c i end s (λ j r. clear j (s.within j r) (at-most (end_slot k) j (λ low.
    stop-apart g c i s k node some uneven (λ in_k. absurd (omega (arith, in_k.to, high))) (end_slot k - 1) last
    (record { from = omega (arith, r.from, low); to = omega (arith, at.to, high, last.from) }))))

-- a key that is wanted, whose keys above are needed, is needed
holds-end : {list : List (Option ℤ)} {axis : Axis} {grid : Grid} {seen : Seen} {lo hi : ℤ} → Ground list axis grid lo hi seen → (c : ℕ)
    → c < grid.w
    → (k : Key) → 1 ≤ k.level → IsSome (span list k) → IsUneven list lo hi grid.h k → IsWithin axis grid c k
    → IsClearBefore seen axis grid c k ⊎ IsClearBehind seen axis grid c k → HoldsEnd list axis grid c k
holds-end {list} {axis} {grid} g c shown k node some uneven within (inl clear) =
    let found = some-stored list k g.extremes some in
    let first = first-of list axis grid c found.0 (within found.0 found.1) found.2 in
    record {
      slot = first.0;
      in_range = record {
        from = at-most (first_slot k) first.0 (λ low. not-clear-before g c first.0 shown (inl first.2) k node some uneven low clear);
        to = omega (arith, first.1, found.1.to);
      };
      end = inl first.2;
    }
holds-end {list} {axis} {grid} g c shown k node some uneven within (inr clear) =
    let found = some-stored list k g.extremes some in
    let last = last-of list axis grid c found.0 (within found.0 found.1) found.2 in
    record {
      slot = last.0;
      in_range = record {
        from = omega (arith, last.1, found.1.from);
        to = below-end last.0 (end_slot k) (λ high. not-clear-behind g c last.0 shown (inr last.2) k node some uneven high clear);
      };
      end = inr last.2;
    }

reason-needed : {list : List (Option ℤ)} {axis : Axis} {grid : Grid} {seen : Seen} {lo hi : ℤ} → Ground list axis grid lo hi seen → (c : ℕ)
    → c < grid.w
    → (k : Key) → 1 ≤ k.level → (s : Span) → span list k ≡ Some s
    → IsCut axis grid c k ⊎ (IsWithin axis grid c k × (IsFlat lo hi grid.h s → ⊥)
    × (IsClearBefore seen axis grid c k ⊎ IsClearBehind seen axis grid c k))
    → IsCut axis grid c k ⊎ (IsWithin axis grid c k × IsUneven list lo hi grid.h k × HoldsEnd list axis grid c k)
reason-needed g c shown k node s is (inl cut) = inl cut
reason-needed {list} {axis} {grid} {seen} {lo} {hi} g c shown k node s is (inr h) =
    let uneven : IsUneven list lo hi grid.h k = λ t t_is flat. h.1
    (subst (λ (o : Span). IsFlat lo hi grid.h o) (inner (sym t_is ∙ is)) flat) in
    inr (h.0, uneven, holds-end g c shown k node (ap is_some is) uneven h.0 h.2)

needed-by : {list : List (Option ℤ)} {axis : Axis} {grid : Grid} {seen : Seen} {lo hi : ℤ} → Ground list axis grid lo hi seen → (k : Key)
    → IsWanted seen axis grid lo hi k → NeedsAbove list axis grid lo hi k → IsNeeded list axis grid lo hi k
needed-by {list} {axis} {grid} {seen} g k w up =
    let node : IsNode (height (length list)) k = subst (λ (h : ℕ). IsNode h k) (axis-height g) w.node in
    let k_is : known seen.root seen.told (height (length list)) k ≡ Some (Some w.span) =
    subst (λ (h : ℕ). known seen.root seen.told h k ≡ Some (Some w.span)) (axis-height g) w.known_so in
    let is : span list k ≡ Some w.span = inner (sym (g.shown k (as_key node) (above-right g k up)) ∙ k_is) in
    record {
      node = node;
      stored = ap is_some is;
      column = w.column;
      shown = w.shown;
      reason = reason-needed g w.column w.shown k node.low w.span is w.reason;
    }

-- the key above a wanted one is wanted
parent-reason : {list : List (Option ℤ)} {axis : Axis} {grid : Grid} {seen : Seen} {lo hi : ℤ} → Ground list axis grid lo hi seen
    → (c : ℕ) (k p : Key) (s t : Span)
    → IsAtOrAbove p k → IsInside s t
    → IsCut axis grid c k ⊎ (IsWithin axis grid c k × (IsFlat lo hi grid.h s → ⊥)
    × (IsClearBefore seen axis grid c k ⊎ IsClearBehind seen axis grid c k))
    → IsCut axis grid c p ⊎ (IsWithin axis grid c p × (IsFlat lo hi grid.h t → ⊥)
    × (IsClearBefore seen axis grid c p ⊎ IsClearBehind seen axis grid c p))
parent-reason g c k p s t above inside (inl cut) = inl (cut-above c p k above cut)
parent-reason {list} {axis} {grid} {seen} {lo} {hi} g c k p s t above inside (inr h) =
    let first = first-in_range k in
    let last = last-in_range k in
    let low = above-in_range p k (first_slot k) above first in
    let high = above-in_range p k (end_slot k - 1) above last in
    elim (within-or-cut g.rise axis grid c p (first_slot k) low (h.0 (first_slot k) first)) [
      | inr cut ↦ inl cut
      | inl within ↦ inr (
        within,
        λ flat. h.1 (inside-flat g.heights lo hi grid.h s t inside flat),
        elim h.2 [
          | inl clear ↦ inl (λ j here before. clear j here (omega (arith, before, low.from)))
          | inr clear ↦ inr (λ j here behind. clear j here (omega (arith, behind, high.to)))
        ],
      )
    ]

half-within : (index a b : ℕ) → a ≡ suc b → index < 2 ^ a → index / 2 < 2 ^ b
half-within index a b e within = omega (arith, subst (λ n. index < 2 ^ n) e within)

parent-index : (k : Key) (level index : ℕ) → suc k.level ≡ level → k.index / 2 ^ (level - k.level) ≡ index → k.index / 2 ≡ index
parent-index k level index e holds =
    let one : level - k.level ≡ 1 = omega (arith, e) in
    sym (ap (λ n. k.index / 2 ^ n) one) ∙ holds

parent-node : (top : ℕ) (k : Key) → IsNode top k → k.level < top → IsNode top (parent_of k)
parent-node top k node low = record {
  low = omega arith;
  high = low;
  within = half-within k.index (top - k.level) (top - suc k.level) (omega (arith, low)) node.within;
}

parent-wanted : {list : List (Option ℤ)} {axis : Axis} {grid : Grid} {seen : Seen} {lo hi : ℤ} → Ground list axis grid lo hi seen
    → (k : Key)
    → IsWanted seen axis grid lo hi k → k.level < height (length list) → IsWanted seen axis grid lo hi (parent_of k)
parent-wanted {list} {axis} {grid} {seen} g k w low =
    let node : IsNode (height (length list)) k = subst (λ (h : ℕ). IsNode h k) (axis-height g) w.node in
    let k_is : known seen.root seen.told (height (length list)) k ≡ Some (Some w.span) =
    subst (λ (h : ℕ). known seen.root seen.told h k ≡ Some (Some w.span)) (axis-height g) w.known_so in
    let p = parent-seen g.join g.proper k.index (known seen.root seen.told (height (length list)) (parent_of k))
    (seen.told (parent_of k)) w.span
    (sym (g.below k low) ∙ k_is) in
    record {
      node = subst (λ (h : ℕ). IsNode h (parent_of k)) (sym (axis-height g)) (parent-node (height (length list)) k node low);
      span = p.0;
      known_so = subst (λ (h : ℕ). known seen.root seen.told h (parent_of k) ≡ Some (Some p.0)) (sym (axis-height g)) p.1;
      column = w.column;
      shown = w.shown;
      reason = parent-reason g w.column k (parent_of k) w.span p.0 (parent-above k) p.2 w.reason;
    }

-- the keys above a wanted one are needed
wanted-above : {list : List (Option ℤ)} {axis : Axis} {grid : Grid} {seen : Seen} {lo hi : ℤ} → Ground list axis grid lo hi seen
    → (fuel : ℕ) (k : Key)
    → height (length list) ≤ k.level + fuel → IsWanted seen axis grid lo hi k → NeedsAbove list axis grid lo hi k
wanted-above {list} g zero k deep want w node lower above = absurd (omega (arith, deep, lower, node.high))
wanted-above {list} {axis} {grid} {seen} {lo} {hi} g (suc fuel) k deep want w node lower above =
    let low : k.level < height (length list) = omega (arith, lower, node.high) in
    let p_want = parent-wanted g k want low in
    let p_up = wanted-above g fuel (parent_of k) (omega (arith, deep)) p_want in
    let first = first-in_range k in
    elim (cases_lt (suc k.level) w.level) [
      | inl higher ↦ p_up w node higher
          (shared-above w (parent_of k) (first_slot k) (omega (arith, higher))
          (above-in_range w k (first_slot k) above first)
          (above-in_range (parent_of k) k (first_slot k) (parent-above k) first))
      | inr same ↦
          (let level : suc k.level ≡ w.level = omega (arith, same, lower) in
          subst (λ (v : Key). IsNeeded list axis grid lo hi v)
          (key-same (parent_of k) w level (parent-index k w.level w.index level above.holds))
          (needed-by g (parent_of k) p_want p_up))
    ]

pub wanted-needed : {list : List (Option ℤ)} {axis : Axis} {grid : Grid} {seen : Seen} {lo hi : ℤ} → Ground list axis grid lo hi seen
    → (k : Key)
    → IsWanted seen axis grid lo hi k → IsNeeded list axis grid lo hi k
wanted-needed {list} g k w = needed-by g k w (wanted-above g (height (length list)) k (omega arith) w)

-- what is seen of a wanted key is the list's span
pub wanted-shown : {list : List (Option ℤ)} {axis : Axis} {grid : Grid} {seen : Seen} {lo hi : ℤ} → Ground list axis grid lo hi seen
    → (k : Key)
    → IsWanted seen axis grid lo hi k → known seen.root seen.told (height axis.slots) k ≡ Some (span list k)
wanted-shown {list} {axis} {grid} {seen} g k w =
    let node : IsNode (height (length list)) k = subst (λ (h : ℕ). IsNode h k) (axis-height g) w.node in
    subst (λ (h : ℕ). known seen.root seen.told h k ≡ Some (span list k)) (sym (axis-height g))
    (g.shown k (as_key node) (above-right g k (wanted-above g (height (length list)) k (omega arith) w)))
