-- How many keys a view needs or wants.
use Rattle.std.proofs.Common.{ℕ, ℤ, ◌≡◌, ◌+◌, ◌*◌, ◌<◌, ◌≤◌, ◌⊎◌, inl, inr, List, length, Option, None, Some, refl, sym, ◌∙◌, arith}
use Rattle.std.specs.Prelude.{All}
use Rattle.std.proofs.lemmas.Bool.{cases_lt}
use Rattle.std.proofs.lemmas.List.Elements.{All-weaker}
use Rattle.chart_grid.specs.declared.axis.Axis.{Axis}
use Rattle.chart_grid.specs.declared.grid.Grid.{Grid}
use Rattle.chart_grid.specs.Slots.{IsInColumn}
use Rattle.om3_coeff.specs.declared.key.Key.{Key}
use Rattle.om3_coeff.specs.declared.span.Span.{Span}
use Rattle.om3_coeff.specs.declared.coef.Coef.{Coef}
use Rattle.om3_coeff.specs.Keys.{first_slot, end_slot, parent_of, height}
use Rattle.om3_coeff.specs.Known.{known, known_below, IsKnownClear}
use Rattle.view_keys.specs.Ranges.{IsInRange, IsWithin}
use Rattle.view_keys.specs.Needed.{IsFirstStored, IsLastStored, IsNeeded}
use Rattle.view_keys.specs.Wanted.{Seen, IsClearBefore, IsClearBehind, IsWanted}
use Rattle.view_keys.specs.Listed.{AreInOrder}
use Rattle.view_keys.proofs.Columns.{in_column-cases}
use Rattle.view_keys.proofs.Ends.{IsStoredAt, least, greatest}
use Rattle.view_keys.proofs.Ranging.{slot_key}
use Rattle.view_keys.proofs.Flatness.{PartsJoin}
use Rattle.view_keys.proofs.Clearing.{slots-clear}
use Rattle.view_keys.proofs.Marks.{Borders, IsFirstKind, IsLastKind, Marked, HoldsMark, cut-marked, few}

first-marked : (Kind : ℕ → Type 0) (axis : Axis) (grid : Grid) (c : ℕ) (k : Key) (i : ℕ) → c < grid.w → IsInRange k i
    → IsFirstKind Kind axis grid c i → (tag : ℕ) × Marked Kind axis grid k tag
first-marked Kind axis grid c k i shown r e = (3 * c + 1, record { place = c; slot = i; in_range = r; mark = inr (inl (refl, shown, e)) })

last-marked : (Kind : ℕ → Type 0) (axis : Axis) (grid : Grid) (c : ℕ) (k : Key) (i : ℕ) → c < grid.w → IsInRange k i
    → IsLastKind Kind axis grid c i → (tag : ℕ) × Marked Kind axis grid k tag
last-marked Kind axis grid c k i shown r e = (3 * c + 2, record { place = c; slot = i; in_range = r; mark = inr (inr (refl, shown, e)) })

end-marked : (list : List (Option ℤ)) (axis : Axis) (grid : Grid) (c : ℕ) (k : Key) (i : ℕ) → c < grid.w → IsInRange k i
    → IsFirstStored list axis grid c i ⊎ IsLastStored list axis grid c i → (tag : ℕ) × Marked (IsStoredAt list) axis grid k tag
end-marked list axis grid c k i shown r (inl e) = first-marked (IsStoredAt list) axis grid c k i shown r (record {
  in_column = e.in_column;
  kind = (e.value, e.stored);
  none_before = λ j low here full. e.none_before j full.0 low here full.1;
})
end-marked list axis grid c k i shown r (inr e) = last-marked (IsStoredAt list) axis grid c k i shown r (record {
  in_column = e.in_column;
  kind = (e.value, e.stored);
  none_behind = λ j high here full. e.none_behind j full.0 high here full.1;
})

-- a needed key holds a border, or the first or the last stored slot of a column
needed-marked : Borders → (list : List (Option ℤ)) (axis : Axis) (grid : Grid) (lo hi : ℤ) (k : Key) → IsNeeded list axis grid lo hi k
    → HoldsMark (IsStoredAt list) axis grid (height (length list)) k
needed-marked borders list axis grid lo hi k n = (
  n.node,
  elim n.reason [
    | inl cut ↦ cut-marked borders (IsStoredAt list) axis grid n.column k n.shown cut
    | inr h ↦ end-marked list axis grid n.column k h.2.slot n.shown h.2.in_range h.2.end
  ],
)

pub few-needed : Borders → (list : List (Option ℤ)) (axis : Axis) (grid : Grid) (lo hi : ℤ) (es : List (Key × Coef)) → AreInOrder es
    → All (λ e. IsNeeded list axis grid lo hi e.0) es → length es ≤ (3 * grid.w + 1) * height (length list)
few-needed borders list axis grid lo hi es order needed =
    few (IsStoredAt list) axis grid (height (length list)) es order
    (All-weaker (λ e. IsNeeded list axis grid lo hi e.0) (λ e. HoldsMark (IsStoredAt list) axis grid (height (length list)) e.0)
    (λ e n. needed-marked borders list axis grid lo hi e.0 n) es needed)

-- slot i isn't known to hold nothing
abbrev IsOpen : Seen → Axis → ℕ → Type 0
IsOpen seen axis i = IsKnownClear seen.root seen.told (height axis.slots) i → ⊥

abbrev ClearOr : Option (Option Span) → Type 0
ClearOr o = (o ≡ Some None) ⊎ (o ≡ Some None → ⊥)

clear-by : (o : Option (Option Span)) → ClearOr o
clear-by None = inr (λ (h : ◌≡◌ {A = Option (Option Span)} None (Some None)). cc)
clear-by (Some None) = inl refl
clear-by (Some (Some s)) = inr (λ (h : ◌≡◌ {A = Option (Option Span)} (Some (Some s)) (Some None)). cc)

clear-cases : (seen : Seen) (axis : Axis) (i : ℕ) → IsKnownClear seen.root seen.told (height axis.slots) i ⊎ IsOpen seen axis i
clear-cases seen axis i = clear-by (known seen.root seen.told (height axis.slots) (slot_key i))

abbrev IsOpenIn : Seen → Axis → Grid → ℕ → ℕ → Type 0
IsOpenIn seen axis grid c i = IsInColumn axis grid c i × IsOpen seen axis i

open-cases : (seen : Seen) (axis : Axis) (grid : Grid) (c i : ℕ) → IsOpenIn seen axis grid c i ⊎ (IsOpenIn seen axis grid c i → ⊥)
open-cases seen axis grid c i = elim (in_column-cases axis grid c i) [
  | inr out ↦ inr (λ (h : IsOpenIn seen axis grid c i). out h.0)
  | inl here ↦ elim (clear-cases seen axis i) [
    | inl clear ↦ inr (λ (h : IsOpenIn seen axis grid c i). h.1 clear)
    | inr unclear ↦ inl (here, unclear)
  ]
]

-- what is known of keys by what is seen
abbrev pub Below : Type 0
Below = (root : Option Span) (told : Key → Option Coef) (top : ℕ) (k : Key) → k.level < top
    → known root told top k ≡ known_below k.index (known root told top (parent_of k)) (told (parent_of k))

no-none : {s : Span} → ◌≡◌ {A = Option (Option Span)} (Some None) (Some (Some s)) → ⊥
no-none h = cc

-- not all slots of a seen key are known to hold nothing
all-closed : PartsJoin → Below → (seen : Seen) (axis : Axis) (grid : Grid) (c : ℕ) (k : Key) (s : Span) → k.level ≤ height axis.slots
    → known seen.root seen.told (height axis.slots) k ≡ Some (Some s) → IsWithin axis grid c k
    → ((j : ℕ) → IsInRange k j → IsOpenIn seen axis grid c j → ⊥) → ⊥
all-closed join below seen axis grid c k s high is within none =
    no-none (sym (slots-clear join (known seen.root seen.told (height axis.slots)) seen.told (height axis.slots)
    (λ b low. below seen.root seen.told (height axis.slots) b low) k high
    (λ j r. elim (clear-cases seen axis j) [
      | inl clear ↦ clear
      | inr unclear ↦ absurd (none j r (within j r, unclear))
    ])) ∙ is)

before-marked : PartsJoin → Below → (seen : Seen) (axis : Axis) (grid : Grid) (c : ℕ) (k : Key) (s : Span) → c < grid.w
    → k.level ≤ height axis.slots
    → known seen.root seen.told (height axis.slots) k ≡ Some (Some s) → IsWithin axis grid c k → IsClearBefore seen axis grid c k
    → (tag : ℕ) × Marked (IsOpen seen axis) axis grid k tag
before-marked join below seen axis grid c k s shown high is within clear =
    elim (least (IsOpenIn seen axis grid c) (open-cases seen axis grid c) (end_slot k)) [
      | inr none ↦ absurd (all-closed join below seen axis grid c k s high is within (λ j r unclear. none j r.to unclear))
      | inl found ↦ first-marked (IsOpen seen axis) axis grid c k found.0 shown
          (record {
            from = elim (cases_lt found.0 (first_slot k)) [
              | inl low ↦ absurd (found.2.0.1 (clear found.0 found.2.0.0 low))
              | inr from ↦ from
            ];
            to = found.1;
          })
          (record { in_column = found.2.0.0; kind = found.2.0.1; none_before = λ j low here unclear. found.2.1 j low (here, unclear) })
    ]

behind-marked : PartsJoin → Below → (seen : Seen) (axis : Axis) (grid : Grid) (c : ℕ) (k : Key) (s : Span) → c < grid.w
    → k.level ≤ height axis.slots
    → known seen.root seen.told (height axis.slots) k ≡ Some (Some s) → IsWithin axis grid c k → IsClearBehind seen axis grid c k
    → (tag : ℕ) × Marked (IsOpen seen axis) axis grid k tag
behind-marked join below seen axis grid c k s shown high is within clear =
    elim (greatest (IsOpenIn seen axis grid c) (open-cases seen axis grid c) axis.slots) [
      | inr none ↦ absurd (all-closed join below seen axis grid c k s high is within (λ j r unclear. none j (within j r).slot unclear))
      | inl found ↦ last-marked (IsOpen seen axis) axis grid c k found.0 shown
          (record {
            from = elim (cases_lt found.0 (first_slot k)) [
              | inl low ↦ absurd (all-closed join below seen axis grid c k s high is within
                  (λ j r unclear. found.2.1 j (omega (arith, low, r.from)) (within j r).slot unclear))
              | inr from ↦ from
            ];
            to = elim (cases_lt found.0 (end_slot k)) [
              | inl to ↦ to
              | inr past ↦ absurd (found.2.0.1 (clear found.0 found.2.0.0 past))
            ];
          })
          (record {
            in_column = found.2.0.0;
            kind = found.2.0.1;
            none_behind = λ j low here unclear. found.2.1 j low here.slot (here, unclear);
          })
    ]

-- a wanted key holds a border, or the first or the last slot of a column that isn't known to hold nothing
wanted-marked : Borders → PartsJoin → Below → (seen : Seen) (axis : Axis) (grid : Grid) (lo hi : ℤ) (k : Key)
    → IsWanted seen axis grid lo hi k
    → HoldsMark (IsOpen seen axis) axis grid (height axis.slots) k
wanted-marked borders join below seen axis grid lo hi k w = (
  w.node,
  elim w.reason [
    | inl cut ↦ cut-marked borders (IsOpen seen axis) axis grid w.column k w.shown cut
    | inr h ↦ elim h.2 [
      | inl clear ↦ before-marked join below seen axis grid w.column k w.span w.shown w.node.high w.known_so h.0 clear
      | inr clear ↦ behind-marked join below seen axis grid w.column k w.span w.shown w.node.high w.known_so h.0 clear
    ]
  ],
)

pub few-wanted : Borders → PartsJoin → Below → (seen : Seen) (axis : Axis) (grid : Grid) (lo hi : ℤ) (es : List (Key × Coef))
    → AreInOrder es
    → All (λ e. IsWanted seen axis grid lo hi e.0) es → length es ≤ (3 * grid.w + 1) * height axis.slots
few-wanted borders join below seen axis grid lo hi es order wanted =
    few (IsOpen seen axis) axis grid (height axis.slots) es order
    (All-weaker (λ e. IsWanted seen axis grid lo hi e.0) (λ e. HoldsMark (IsOpen seen axis) axis grid (height axis.slots) e.0)
    (λ e w. wanted-marked borders join below seen axis grid lo hi e.0 w) es wanted)
