-- How many keys hold a mark of a view: on each level one for each border between columns, and two for each column.
use Rattle.std.proofs.Common.{ℕ, ℤ, suc, ◌≡◌, ◌+◌, ◌-◌, ◌*◌, ◌/◌, ◌^◌, ◌<◌, ◌≤◌, ◌≤ℤ◌, ◌<ℤ◌, ◌↔◌, ◌⊎◌, inl, inr, List, [], ◌∷◌, length}
use Rattle.std.proofs.Common.{Bool, true, false, refl, sym, ap, ◌∙◌, subst, arith}
use Rattle.std.specs.Prelude.{All, ◌||◌}
use Rattle.std.specs.List.{list_any, IsDistinct, AllByRecursion}
use Rattle.std.proofs.Math.Dec.{eqb}
use Rattle.std.proofs.Math.Nat.{mul-le-mul_right}
use Rattle.std.proofs.lemmas.Int.{ints, by_lt_z}
use Rattle.std.proofs.lemmas.Bool.{cases_lt, eqb-true, ne_eqb}
use Rattle.std.proofs.lemmas.List.Elements.{All-head, All-tail}
use Rattle.std.proofs.lemmas.Map.Keys.{IsDistinct-cons}
use Rattle.std.proofs.lemmas.Map.Steps.{length-le_from_distinct_below}
use Rattle.chart_grid.specs.declared.axis.Axis.{Axis}
use Rattle.chart_grid.specs.declared.grid.Grid.{Grid}
use Rattle.chart_grid.specs.Projection.{InWindow, column}
use Rattle.chart_grid.specs.Slots.{slot_time, IsInColumn, border}
use Rattle.om3_coeff.specs.declared.key.Key.{Key}
use Rattle.om3_coeff.specs.declared.coef.Coef.{Coef}
use Rattle.om3_coeff.specs.Keys.{first_slot, IsNode}
use Rattle.view_keys.specs.Ranges.{IsInRange, IsCut}
use Rattle.view_keys.specs.Listed.{ComesBefore, AreInOrder}
use Rattle.view_keys.proofs.Ranging.{in_range-index, key-same}
use Rattle.view_keys.proofs.Columns.{time-rises}
use Rattle.view_keys.proofs.Ends.{least}
use Rattle.view_keys.proofs.Distinct.{other_key}

-- what the borders between columns are
pub record Borders : Type 0 where
  pub between : (g : Grid) (c : ℕ) (t : ℤ) → InWindow g t → (column g t ≡ c) ↔ ((border g c ≤ℤ t) × (t <ℤ border g (c + 1)))
  pub first : (g : Grid) → border g 0 ≡ g.t0
  pub last : (g : Grid) → border g g.w ≡ g.t1
  pub rise : (g : Grid) (b c : ℕ) → b ≤ c → border g b ≤ℤ border g c

-- slot i lies behind the border where column d begins
abbrev IsPast : Axis → Grid → ℕ → ℕ → Type 0
IsPast axis grid d i = (axis.slots ≤ i) ⊎ (border grid d ≤ℤ slot_time axis i)

past-cases : (axis : Axis) (grid : Grid) (d i : ℕ) → IsPast axis grid d i ⊎ (IsPast axis grid d i → ⊥)
past-cases axis grid d i =
    elim (cases_lt i axis.slots) [
      | inr end ↦ inl (inl end)
      | inl slot ↦ by_lt_z (slot_time axis i) (border grid d)
          (λ low. inr (λ (p : IsPast axis grid d i). elim p [
            | inl end ↦ absurd (omega (arith, slot, end))
            | inr late ↦ absurd (omega (arith, ints, low, late))
          ]))
          (λ late. inl (inr late))
    ]

past-on : (axis : Axis) (grid : Grid) (d i j : ℕ) → i ≤ j → IsPast axis grid d i → IsPast axis grid d j
past-on axis grid d i j on (inl end) = inl (omega (arith, on, end))
past-on axis grid d i j on (inr late) = inr (omega (arith, ints, late, time-rises axis i j on))

-- slot p is the first one behind the border
abbrev IsFirstPast : Axis → Grid → ℕ → ℕ → Type 0
IsFirstPast axis grid d p = IsPast axis grid d p × ((j : ℕ) → j < p → IsPast axis grid d j → ⊥)

-- slot p is the first slot of column c that is of a kind
pub record IsFirstKind (Kind : ℕ → Type 0) (axis : Axis) (grid : Grid) (c p : ℕ) : Type 0 where
  pub in_column : IsInColumn axis grid c p
  pub kind : Kind p
  pub none_before : (j : ℕ) → j < p → IsInColumn axis grid c j → Kind j → ⊥

-- it is the last one
pub record IsLastKind (Kind : ℕ → Type 0) (axis : Axis) (grid : Grid) (c p : ℕ) : Type 0 where
  pub in_column : IsInColumn axis grid c p
  pub kind : Kind p
  pub none_behind : (j : ℕ) → p < j → IsInColumn axis grid c j → Kind j → ⊥

-- The marks of a view: each border's first slot, and each column's first and last slot of the kind.
abbrev pub IsMark : (ℕ → Type 0) → Axis → Grid → ℕ → ℕ → ℕ → Type 0
IsMark Kind axis grid c tag p =
    ((tag ≡ 3 * c) × (c ≤ grid.w) × IsFirstPast axis grid c p)
    ⊎ (((tag ≡ 3 * c + 1) × (c < grid.w) × IsFirstKind Kind axis grid c p)
    ⊎ ((tag ≡ 3 * c + 2) × (c < grid.w) × IsLastKind Kind axis grid c p))

pub record Marked (Kind : ℕ → Type 0) (axis : Axis) (grid : Grid) (k : Key) (tag : ℕ) : Type 0 where
  pub place : ℕ
  pub slot : ℕ
  pub in_range : IsInRange k slot
  pub mark : IsMark Kind axis grid place tag slot

same-slot : (p q : ℕ) → (p < q → ⊥) → (q < p → ⊥) → p ≡ q
same-slot p q a b = elim (cases_lt p q) [
  | inl low ↦ absurd (a low)
  | inr high ↦ elim (cases_lt q p) [
    | inl above ↦ absurd (b above)
    | inr below ↦ omega (arith, high, below)
  ]
]

first-past-one : (axis : Axis) (grid : Grid) (c p q : ℕ) → IsFirstPast axis grid c p → IsFirstPast axis grid c q → p ≡ q
first-past-one axis grid c p q a b = same-slot p q (λ low. b.1 p low a.0) (λ low. a.1 q low b.0)

first-one : (Kind : ℕ → Type 0) (axis : Axis) (grid : Grid) (c p q : ℕ) → IsFirstKind Kind axis grid c p → IsFirstKind Kind axis grid c q
    → p ≡ q
first-one Kind axis grid c p q a b =
    same-slot p q (λ low. b.none_before p low a.in_column a.kind) (λ low. a.none_before q low b.in_column b.kind)

last-one : (Kind : ℕ → Type 0) (axis : Axis) (grid : Grid) (c p q : ℕ) → IsLastKind Kind axis grid c p → IsLastKind Kind axis grid c q
    → p ≡ q
last-one Kind axis grid c p q a b =
    same-slot p q (λ low. a.none_behind q low b.in_column b.kind) (λ low. b.none_behind p low a.in_column a.kind)

-- a mark is one slot
mark-one : (Kind : ℕ → Type 0) (axis : Axis) (grid : Grid) (c d tag p q : ℕ) → IsMark Kind axis grid c tag p → IsMark Kind axis grid d tag q
    → p ≡ q
mark-one Kind axis grid c d tag p q (inl a) (inl b) =
    let e : d ≡ c = omega (arith, a.0, b.0) in
    first-past-one axis grid c p q a.2 (subst (λ (n : ℕ). IsFirstPast axis grid n q) e b.2)
mark-one Kind axis grid c d tag p q (inl a) (inr (inl b)) = absurd (omega (arith, a.0, b.0))
mark-one Kind axis grid c d tag p q (inl a) (inr (inr b)) = absurd (omega (arith, a.0, b.0))
mark-one Kind axis grid c d tag p q (inr (inl a)) (inl b) = absurd (omega (arith, a.0, b.0))
mark-one Kind axis grid c d tag p q (inr (inl a)) (inr (inl b)) =
    let e : d ≡ c = omega (arith, a.0, b.0) in
    first-one Kind axis grid c p q a.2 (subst (λ (n : ℕ). IsFirstKind Kind axis grid n q) e b.2)
mark-one Kind axis grid c d tag p q (inr (inl a)) (inr (inr b)) = absurd (omega (arith, a.0, b.0))
mark-one Kind axis grid c d tag p q (inr (inr a)) (inl b) = absurd (omega (arith, a.0, b.0))
mark-one Kind axis grid c d tag p q (inr (inr a)) (inr (inl b)) = absurd (omega (arith, a.0, b.0))
mark-one Kind axis grid c d tag p q (inr (inr a)) (inr (inr b)) =
    let e : d ≡ c = omega (arith, a.0, b.0) in
    last-one Kind axis grid c p q a.2 (subst (λ (n : ℕ). IsLastKind Kind axis grid n q) e b.2)

mark-small : (Kind : ℕ → Type 0) (axis : Axis) (grid : Grid) (c tag p : ℕ) → IsMark Kind axis grid c tag p → tag < 3 * grid.w + 1
mark-small Kind axis grid c tag p (inl a) = omega (arith, a.0, a.1)
mark-small Kind axis grid c tag p (inr (inl a)) = omega (arith, a.0, a.1)
mark-small Kind axis grid c tag p (inr (inr a)) = omega (arith, a.0, a.1)

-- a key across a border holds its first slot
across : (Kind : ℕ → Type 0) (axis : Axis) (grid : Grid) (d : ℕ) (k : Key) (i j : ℕ) → d ≤ grid.w → IsInRange k i → IsInRange k j
    → (IsPast axis grid d i → ⊥) → IsPast axis grid d j → (tag : ℕ) × Marked Kind axis grid k tag
across Kind axis grid d k i j shown in_i in_j before behind =
    elim (least (IsPast axis grid d) (past-cases axis grid d) (suc j)) [
      | inr none ↦ absurd (none j (omega arith) behind)
      | inl found ↦ (
        3 * d,
        record {
          place = d;
          slot = found.0;
          in_range = record {
            from = elim (cases_lt found.0 (first_slot k)) [
              | inl low ↦ absurd (before (past-on axis grid d found.0 i (omega (arith, low, in_i.from)) found.2.0))
              | inr high ↦ high
            ];
            to = omega (arith, found.1, in_j.to);
          };
          mark = inl (refl, shown, found.2);
        },
      )
    ]

-- a key that is cut lies across a border
pub cut-marked : Borders → (Kind : ℕ → Type 0) (axis : Axis) (grid : Grid) (c : ℕ) (k : Key) → c < grid.w → IsCut axis grid c k
    → (tag : ℕ) × Marked Kind axis grid k tag
cut-marked borders Kind axis grid c k shown cut =
    let here = cut.in_column in
    let times = (borders.between grid c (slot_time axis cut.slot) here.shown).0 here.place in
    elim (past-cases axis grid c cut.other) [
      | inr before ↦ across Kind axis grid c k cut.other cut.slot (omega (arith, shown)) cut.other_in_range cut.in_range before
          (inr times.0)
      | inl from ↦ elim (past-cases axis grid (c + 1) cut.other) [
        | inl behind ↦ across Kind axis grid (c + 1) k cut.slot cut.other (omega (arith, shown)) cut.in_range cut.other_in_range
            (λ (p : IsPast axis grid (c + 1) cut.slot). elim p [
              | inl end ↦ absurd (omega (arith, end, here.slot))
              | inr late ↦ absurd (omega (arith, ints, late, times.1))
            ]) behind
        | inr to ↦ absurd (cut.outside (inside borders axis grid c cut.other shown from to))
      ]
    ]
  where
    inside : Borders → (axis : Axis) (grid : Grid) (c i : ℕ) → c < grid.w → IsPast axis grid c i → (IsPast axis grid (c + 1) i → ⊥)
        → IsInColumn axis grid c i
    inside borders axis grid c i shown (inl end) to = absurd (to (inl end))
    inside borders axis grid c i shown (inr late) to =
        elim (cases_lt i axis.slots) [
          | inr end ↦ absurd (to (inl end))
          | inl slot ↦ by_lt_z (slot_time axis i) (border grid (c + 1))
              (λ low.
              let in_window : InWindow grid (slot_time axis i) = record {
                from = omega (arith, ints, late, borders.first grid, borders.rise grid 0 c (omega arith));
                to = omega (arith, ints, low, borders.last grid, borders.rise grid (c + 1) grid.w (omega (arith, shown)));
              } in
              record { slot = slot; shown = in_window; place = (borders.between grid c (slot_time axis i) in_window).1 (late, low) })
              (λ high. absurd (to (inr high)))
        ]

-- the number of a key by its level and a mark that it holds
record IsNumber (Kind : ℕ → Type 0) (axis : Axis) (grid : Grid) (top : ℕ) (k : Key) (n : ℕ) : Type 0 where
  node : IsNode top k
  tag : ℕ
  marked : Marked Kind axis grid k tag
  is : n ≡ (k.level - 1) * (3 * grid.w + 1) + tag

level-one : (a b t u m : ℕ) → t < m → u < m → a * m + t ≡ b * m + u → (a < b → ⊥)
level-one a b t u m small other is low =
    let next : a + 1 ≤ b = omega (arith, low) in
    let steps : (a + 1) * m ≤ b * m = mul-le-mul_right m next in
    absurd (omega (arith, small, other, is, steps))

same-level : (a b t u m : ℕ) → t < m → u < m → a * m + t ≡ b * m + u → a ≡ b
same-level a b t u m small other is = same-slot a b (level-one a b t u m small other is) (level-one b a u t m other small (sym is))

same-tag : (a b t u m : ℕ) → a ≡ b → a * m + t ≡ b * m + u → t ≡ u
same-tag a b t u m same is =
    let e : b * m + t ≡ b * m + u = subst (λ (n : ℕ). n * m + t ≡ b * m + u) same is in
    omega (arith, e)

index-same : (a b : Key) (p q : ℕ) → a.level ≡ b.level → p ≡ q → IsInRange a p → IsInRange b q → a.index ≡ b.index
index-same a b p q level slot in_a in_b =
    sym (in_range-index a p in_a) ∙ ap (λ n. n / 2 ^ a.level) slot ∙ ap (λ l. q / 2 ^ l) level ∙ in_range-index b q in_b

-- keys of one number are one
number-one : (Kind : ℕ → Type 0) (axis : Axis) (grid : Grid) (top : ℕ) (a b : Key) (n : ℕ) → IsNumber Kind axis grid top a n
    → IsNumber Kind axis grid top b n → a ≡ b
number-one Kind axis grid top a b n x y =
    let m = 3 * grid.w + 1 in
    let small = mark-small Kind axis grid x.marked.place x.tag x.marked.slot x.marked.mark in
    let other = mark-small Kind axis grid y.marked.place y.tag y.marked.slot y.marked.mark in
    let is = sym x.is ∙ y.is in
    let low : a.level - 1 ≡ b.level - 1 = same-level (a.level - 1) (b.level - 1) x.tag y.tag (3 * grid.w + 1) small other is in
    let level : a.level ≡ b.level = omega (arith, low, x.node.low, y.node.low) in
    let tag : y.tag ≡ x.tag = sym (same-tag (a.level - 1) (b.level - 1) x.tag y.tag (3 * grid.w + 1) low is) in
    let slot : x.marked.slot ≡ y.marked.slot =
    mark-one Kind axis grid x.marked.place y.marked.place x.tag x.marked.slot y.marked.slot x.marked.mark
    (subst (λ (t : ℕ). IsMark Kind axis grid y.marked.place t y.marked.slot) tag y.marked.mark) in
    key-same a b level (index-same a b x.marked.slot y.marked.slot level slot x.marked.in_range y.marked.in_range)

below-all : (l t m h : ℕ) → t < m → 1 ≤ l → l ≤ h → (l - 1) * m + t < m * h
below-all l t m h small low high =
    let part : l - 1 + 1 ≤ h = omega (arith, low, high) in
    let steps : (l - 1 + 1) * m ≤ h * m = mul-le-mul_right m part in
    omega (arith, small, steps)

number-small : (Kind : ℕ → Type 0) (axis : Axis) (grid : Grid) (top : ℕ) (k : Key) (n : ℕ) → IsNumber Kind axis grid top k n
    → n < (3 * grid.w + 1) * top
number-small Kind axis grid top k n x =
    subst (λ (i : ℕ). i < (3 * grid.w + 1) * top) (sym x.is)
    (below-all k.level x.tag (3 * grid.w + 1) (top)
    (mark-small Kind axis grid x.marked.place x.tag x.marked.slot x.marked.mark) x.node.low x.node.high)

-- a node of the tree that holds a mark
abbrev pub HoldsMark : (ℕ → Type 0) → Axis → Grid → ℕ → Key → Type 0
HoldsMark Kind axis grid top k = IsNode top k × ((tag : ℕ) × Marked Kind axis grid k tag)

-- the numbers of the keys of a list
record Numbers (Kind : ℕ → Type 0) (axis : Axis) (grid : Grid) (top : ℕ) (es : List (Key × Coef)) : Type 0 where
  numbers : List ℕ
  many : length numbers ≡ length es
  distinct : IsDistinct eqb numbers
  small : (q : ℕ) → list_any (eqb q) numbers ≡ true → q < (3 * grid.w + 1) * top
  apart : (q : ℕ) (k : Key) → IsNumber Kind axis grid top k q → All (λ later. ComesBefore k later.0) es
      → AllByRecursion (λ y. eqb q y ≡ false) numbers

no-number : (q bound : ℕ) → list_any (eqb q) [] ≡ true → q < bound
no-number q bound h = absurd (cc)

one-more : (q n : ℕ) (ns : List ℕ) (bound : ℕ) → n < bound → (list_any (eqb q) ns ≡ true → q < bound) → (b : Bool) → eqb q n ≡ b
    → list_any (eqb q) (n ∷ ns) ≡ true → q < bound
one-more q n ns bound small rest true is h = subst (λ (i : ℕ). i < bound) (sym (eqb-true q n is)) small
one-more q n ns bound small rest false is h = rest (sym (ap (λ b. b || list_any (eqb q) ns) is) ∙ h)

numbers-of : (Kind : ℕ → Type 0) (axis : Axis) (grid : Grid) (top : ℕ) (es : List (Key × Coef)) → AreInOrder es
    → All (λ e. HoldsMark Kind axis grid top e.0) es → Numbers Kind axis grid top es
unfolding IsDistinct
numbers-of Kind axis grid top [] order needed = record {
  numbers = [];
  many = refl;
  distinct = tt;
  small = λ q h. no-number q ((3 * grid.w + 1) * top) h;
  apart = λ q k x before. tt;
}
numbers-of Kind axis grid top (e ∷ es) (first, rest) needed =
    let more = numbers-of Kind axis grid top es rest (All-tail (λ e. HoldsMark Kind axis grid top e.0) e es needed) in
    let here : HoldsMark Kind axis grid top e.0 = All-head (λ e. HoldsMark Kind axis grid top e.0) e es needed in
    let marked = here.1 in
    let n = (e.0.level - 1) * (3 * grid.w + 1) + marked.0 in
    let number : IsNumber Kind axis grid top e.0 ((e.0.level - 1) * (3 * grid.w + 1) + marked.0) =
    record { node = here.0; tag = marked.0; marked = marked.1; is = refl } in
    record {
      numbers = n ∷ more.numbers;
      many = ap suc more.many;
      distinct = IsDistinct-cons eqb n more.numbers (more.apart n e.0 number first) more.distinct;
      small = λ q h. one-more q n more.numbers ((3 * grid.w + 1) * top) (number-small Kind axis grid top e.0 n number) (more.small q)
          (eqb q n) refl h;
      apart = λ q k x before. (
        ne_eqb q n (λ same. other_key k e.0 (All-head (λ later. ComesBefore k later.0) e es before)
            (number-one Kind axis grid top k e.0 n (subst (λ (i : ℕ). IsNumber Kind axis grid top k i) same x) number)),
        more.apart q k x (All-tail (λ later. ComesBefore k later.0) e es before),
      );
    }

-- a list of keys that hold marks has at most this many
pub few : (Kind : ℕ → Type 0) (axis : Axis) (grid : Grid) (top : ℕ) (es : List (Key × Coef)) → AreInOrder es
    → All (λ e. HoldsMark Kind axis grid top e.0) es → length es ≤ (3 * grid.w + 1) * top
few Kind axis grid top es order needed =
    let found = numbers-of Kind axis grid top es order needed in
    subst (λ (n : ℕ). n ≤ (3 * grid.w + 1) * top) found.many
    (length-le_from_distinct_below found.numbers ((3 * grid.w + 1) * top) found.distinct found.small)
