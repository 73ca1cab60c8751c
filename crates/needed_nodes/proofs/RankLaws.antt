use Rattle.std.proofs.Common.{ℕ, suc, ◌≡◌, ◌-◌, ◌*◌, ◌<◌, ◌≤◌, ◌≤ℤ◌, inl, inr, ◌∙◌, ap, sym, subst, arith, le_refl}
use Rattle.std.proofs.Math.Nat.{mul-le-mul_right}
use Rattle.std.proofs.lemmas.Int.{ints, by_lt_z}
use Rattle.std.proofs.lemmas.Bool.Decides.{nat_tests}
use Rattle.chart_grid.specs.Projection.{InWindow, column}
use Rattle.chart_grid.specs.Slots.{slot_time, IsInColumn}
use Rattle.chart_grid.specs.declared.axis.Axis.{Axis}
use Rattle.chart_grid.proofs.Rising.{column-rising, column-below}
use Rattle.om3_coeff.specs.declared.key.Key.{Key}
use Rattle.om3_coeff.specs.Keys.{first_slot, end_slot, height, IsKey}
use Rattle.om3_coeff.proofs.KeyLemmas.{by_lt}
use Rattle.view_keys.specs.Ranges.{IsInRange, IsWithin, IsCut}
use Rattle.needed_nodes.specs.declared.window.Ranks.{Ranks}
use Rattle.needed_nodes.specs.declared.window.Window.{Window}
use Rattle.needed_nodes.specs.Ranks.{rank, first_rank, last_rank, AreRanksOf, IsCutKey, IsInside, IsOutside, IsBelow, IsTopmost}
use Rattle.needed_nodes.proofs.Nesting.{some_slot, nests}

-- the three cases of a rank
pub rank_before : (w : Window) (i : ℕ) → i < w.from → rank w i ≡ 0
unfolding rank
rank_before w i h = grind (arith, nat_tests)

pub rank_shown : (w : Window) (i : ℕ) → w.from ≤ i → i < w.end → rank w i ≡ suc (column w.grid (slot_time w.axis i))
unfolding rank
rank_shown w i a b = grind (arith, nat_tests)

pub rank_behind : (w : Window) (i : ℕ) → w.end ≤ i → rank w i ≡ suc w.grid.w
unfolding rank
rank_behind w i h =
    let past : w.from ≤ i = omega (arith, w.some) in grind (arith, nat_tests)

-- the slots of the window are those whose times it shows
pub slot_shown : (w : Window) (i : ℕ) → w.from ≤ i → i < w.end → InWindow w.grid (slot_time w.axis i)
slot_shown w i a b =
    let slot : i < w.axis.slots = omega (arith, w.stop.within) in record {
      from = by_lt_z (slot_time w.axis i) w.grid.t0 (λ less. absurd (omega (arith, (w.start.before i slot).1 less))) (λ le. le);
      to = (w.stop.before i slot).0 b;
    }

pub shown_slot : (w : Window) (i : ℕ) → i < w.axis.slots → InWindow w.grid (slot_time w.axis i) → (w.from ≤ i) × (i < w.end)
shown_slot w i slot shown = (
  by_lt i w.from (λ less. absurd (omega (arith, ints, shown.from, (w.start.before i slot).0 less))) (λ le. le),
  (w.stop.before i slot).1 shown.to,
)

pub column_rank : (w : Window) (c i : ℕ) → IsInColumn w.axis w.grid c i → rank w i ≡ suc c
column_rank w c i own =
    let place : (w.from ≤ i) × (i < w.end) = shown_slot w i own.slot own.shown in
    rank_shown w i place.0 place.1 ∙ ap suc own.place

pub column_drawn : (w : Window) (c i : ℕ) → IsInColumn w.axis w.grid c i → c < w.grid.w
column_drawn w c i own = omega (arith, own.place, column-below w.grid (slot_time w.axis i) own.shown)

pub rank_column : (w : Window) (c i : ℕ) → rank w i ≡ suc c → c < w.grid.w → IsInColumn w.axis w.grid c i
rank_column w c i is drawn =
    by_lt i w.from
    (λ less. absurd (omega (arith, rank_before w i less)))
    (λ from.
    by_lt i w.end
    (λ to. record {
      slot = omega (arith, w.stop.within);
      shown = slot_shown w i from to;
      place = omega (arith, rank_shown w i from to);
    })
    (λ past. absurd (omega (arith, rank_behind w i past))))

time_rises : (a : Axis) (i j : ℕ) → i ≤ j → slot_time a i ≤ℤ slot_time a j
time_rises a i j le =
    let steps : i * a.step ≤ j * a.step = mul-le-mul_right {m = i} {n = j} a.step le in omega (arith, ints)

-- ranks don't fall
pub rank_rises : (w : Window) (i j : ℕ) → i ≤ j → rank w i ≤ rank w j
rank_rises w i j le =
    by_lt i w.from
    (λ less. omega (arith, rank_before w i less))
    (λ from.
    by_lt j w.end
    (λ to. omega (
      arith,
      rank_shown w i from (omega arith),
      rank_shown w j (omega arith) to,
      column-rising w.grid (slot_time w.axis i) (slot_time w.axis j) (slot_shown w i from (omega arith)) (slot_shown w j (omega arith) to)
          (time_rises w.axis i j le),
    ))
    (λ past.
    by_lt i w.end
    (λ in'. omega (
      arith,
      rank_shown w i from in',
      rank_behind w j past,
      column-below w.grid (slot_time w.axis i) (slot_shown w i from in'),
    ))
    (λ both. omega (arith, rank_behind w i both, rank_behind w j past))))

pub rank_most : (w : Window) (i : ℕ) → rank w i ≤ suc w.grid.w
rank_most w i =
    by_lt i w.end (λ in'. omega (arith, rank_rises w i w.end (omega arith), rank_behind w w.end (le_refl w.end)))
    (λ past. omega (arith, rank_behind w i past))

-- the ranks of a key's slots
pub rank_from : (w : Window) (k : Key) (i : ℕ) → first_slot k ≤ i → first_rank w k ≤ rank w i
rank_from w k i le = rank_rises w (first_slot k) i le

pub rank_to : (w : Window) (k : Key) (i : ℕ) → i < end_slot k → rank w i ≤ last_rank w k
rank_to w k i less = rank_rises w i (end_slot k - 1) (omega arith)

pub rank_order : (w : Window) (k : Key) → first_rank w k ≤ last_rank w k
rank_order w k = rank_from w k (end_slot k - 1) (omega (arith, some_slot k))

pub ranks_at : (w : Window) (k half : Key) (r : Ranks) → half ≡ k → AreRanksOf w k r → AreRanksOf w half r
ranks_at w k half r is ranks = let P : Key → Type 0 = λ k. AreRanksOf w k r in subst P (sym is) ranks

pub below_from : (w : Window) (k b : Key) → IsBelow k b → first_rank w k ≤ first_rank w b
below_from w k b h = rank_from w k (first_slot b) h.from

pub below_to : (w : Window) (k b : Key) → IsBelow k b → last_rank w b ≤ last_rank w k
below_to w k b h = rank_rises w (end_slot b - 1) (end_slot k - 1) (omega (arith, h.to))

pub cut_above : (w : Window) (k b : Key) → IsBelow k b → IsCutKey w b → IsCutKey w k
cut_above w k b h cut = omega (arith, cut, below_from w k b h, below_to w k b h)

pub inside_below : (w : Window) (c : ℕ) (k b : Key) → IsBelow k b → IsInside w c k → IsInside w c b
inside_below w c k b h own = record {
  first = omega (arith, own.first, own.last, below_from w k b h, below_to w k b h, rank_order w b);
  last = omega (arith, own.first, own.last, below_from w k b h, below_to w k b h, rank_order w b);
  shown = own.shown;
}

pub outside_below : (w : Window) (k b : Key) → IsBelow k b → IsOutside w k → IsOutside w b
outside_below w k b h out =
    let same : first_rank w b ≡ first_rank w k = omega (arith, out.even, below_from w k b h, below_to w k b h, rank_order w b) in record {
      even = omega (arith, out.even, below_from w k b h, below_to w k b h, rank_order w b);
      beyond = elim out.beyond [ inl none ↦ inl (omega arith) | inr past ↦ inr (omega arith) ];
    }

-- a key within a column, and a key cut by one
pub inside_rank : (w : Window) (c : ℕ) (k : Key) (i : ℕ) → IsInside w c k → first_slot k ≤ i → i < end_slot k → rank w i ≡ suc c
inside_rank w c k i own from to = omega (arith, own.first, own.last, rank_from w k i from, rank_to w k i to)

pub inside_within : (w : Window) (c : ℕ) (k : Key) → IsInside w c k → IsWithin w.axis w.grid c k
inside_within w c k own i range = rank_column w c i (inside_rank w c k i own range.from range.to) own.shown

pub within_inside : (w : Window) (c : ℕ) (k : Key) → IsWithin w.axis w.grid c k → IsInside w c k
within_inside w c k own =
    let first : IsInColumn w.axis w.grid c (first_slot k) = own (first_slot k)
    (record { from = le_refl (first_slot k); to = some_slot k }) in
    let last : IsInColumn w.axis w.grid c (end_slot k - 1) =
    own (end_slot k - 1) (record { from = omega (arith, some_slot k); to = omega (arith, some_slot k) }) in
    record {
      first = column_rank w c (first_slot k) first;
      last = column_rank w c (end_slot k - 1) last;
      shown = column_drawn w c (first_slot k) first;
    }

pub is_cut : (w : Window) (c : ℕ) (k : Key) → IsCut w.axis w.grid c k → IsCutKey w k
is_cut w c k cut =
    by_lt (first_rank w k) (last_rank w k) (λ less. less)
    (λ more. absurd (cut.outside (rank_column w c cut.other
    (omega (
      arith,
      column_rank w c cut.slot cut.in_column,
      rank_from w k cut.slot cut.in_range.from,
      rank_to w k cut.slot cut.in_range.to,
      rank_from w k cut.other cut.other_in_range.from,
      rank_to w k cut.other cut.other_in_range.to,
    ))
    (column_drawn w c cut.slot cut.in_column))))

-- the column that cuts a key
pub record CutBy (w : Window) (k : Key) : Type 0 where
  pub column : ℕ
  pub shown : column < w.grid.w
  pub cut : IsCut w.axis w.grid column k

-- two slots of a key's range, one of which lies in a column where the other doesn't
cut_at : (w : Window) (k : Key) (c i j : ℕ) → rank w i ≡ suc c → c < w.grid.w → (rank w j ≡ suc c → ⊥) → IsInRange k i → IsInRange k j
    → CutBy w k
cut_at w k c i j is drawn other here there = record {
  column = c;
  shown = drawn;
  cut = record {
    slot = i;
    in_range = here;
    in_column = rank_column w c i is drawn;
    other = j;
    other_in_range = there;
    outside = λ own. other (column_rank w c j own);
  };
}

by_rank : {P : Type 0} (w : Window) (i : ℕ) → (i < w.from → P) → ((c : ℕ) → rank w i ≡ suc c → c < w.grid.w → P) → (w.end ≤ i → P) → P
by_rank w i early own late =
    by_lt i w.from early
    (λ from.
    by_lt i w.end
    (λ to. own (column w.grid (slot_time w.axis i)) (rank_shown w i from to)
    (column-below w.grid (slot_time w.axis i) (slot_shown w i from to)))
    late)

pub cut_by : (w : Window) (k : Key) → IsCutKey w k → CutBy w k
cut_by w k cut =
    let first : ℕ = first_slot k in
    let last : ℕ = end_slot k - 1 in
    let first_in : IsInRange k first = record { from = le_refl first; to = some_slot k } in
    let last_in : IsInRange k last = record { from = omega (arith, some_slot k); to = omega (arith, some_slot k) } in
    by_rank w first
    (λ early.
    by_rank w last
    (λ both. absurd (omega (arith, cut, rank_before w first early, rank_before w last both)))
    (λ c is drawn. cut_at w k c last first is drawn (λ other. omega (arith, other, rank_before w first early)) last_in first_in)
    (λ late.
    let from_in : IsInRange k w.from = record { from = omega arith; to = omega (arith, w.some, some_slot k) } in
    let place : rank w w.from ≡ suc (column w.grid (slot_time w.axis w.from)) = rank_shown w w.from (le_refl w.from) w.some in
    cut_at w k (column w.grid (slot_time w.axis w.from)) w.from first place
    (column-below w.grid (slot_time w.axis w.from) (slot_shown w w.from (le_refl w.from) w.some))
    (λ other. omega (arith, other, rank_before w first early)) from_in first_in))
    (λ c is drawn. cut_at w k c first last is drawn (λ other. omega (arith, cut, is, other)) first_in last_in)
    (λ late. absurd (omega (arith, cut, rank_behind w first late, rank_most w last)))

-- no slot of a key outside the columns lies in one
pub outside_rank : (w : Window) (k : Key) (c i : ℕ) → IsOutside w k → first_slot k ≤ i → i < end_slot k → c < w.grid.w → rank w i ≡ suc c
    → ⊥
outside_rank w k c i out from to drawn is =
    elim out.beyond [
      | inl none ↦ omega (arith, out.even, rank_from w k i from, rank_to w k i to)
      | inr past ↦ omega (arith, out.even, rank_from w k i from, rank_to w k i to)
    ]

-- a key within a column that shares a slot with a largest one lies within that one
pub block_holds : (w : Window) (c : ℕ) (b k : Key) (i : ℕ) → IsTopmost w b → IsKey (height w.axis.slots) k → IsInside w c k
    → first_slot b ≤ i → i < end_slot b → first_slot k ≤ i → i < end_slot k → IsBelow b k
block_holds w c b k i top key own p q r s =
    by_lt b.level k.level
    (λ lower. elim top [
      | inl highest ↦ absurd (omega (arith, key.high))
      | inr under ↦
          let below : IsBelow k under.above =
          nests k under.above i (omega (arith, under.level)) r s (omega (arith, under.below.from)) (omega (arith, under.below.to)) in
          absurd (omega (arith, own.first, own.last, cut_above w k under.above below under.cut))
    ])
    (λ higher. nests b k i higher p q r s)

pub inside_not_cut : (w : Window) (c : ℕ) (k : Key) → IsInside w c k → IsCutKey w k → ⊥
inside_not_cut w c k own cut = omega (arith, own.first, own.last, cut)
