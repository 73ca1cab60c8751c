-- The keys that fail in one column: those at which the searches from its two sides get stuck.
use Rattle.std.proofs.Common.{ℕ, ◌≡◌, ◌+◌, ◌-◌, ◌*◌, ◌^◌, ◌<◌, ◌≤◌, ◌⊎◌, inl, inr, ℤ, refl, sym, ◌∙◌, subst, arith, pow_pos}
use Rattle.std.proofs.lemmas.Bool.{cases_lt}
use Rattle.std.specs.Prelude.{Option, Some, None}
use Rattle.om3_coeff.specs.declared.key.Key.{Key}
use Rattle.om3_coeff.specs.declared.span.Span.{Span}
use Rattle.om3_coeff.specs.Keys.{first_slot, end_slot, height, IsAtOrAbove}
use Rattle.chart_grid.specs.declared.axis.Axis.{Axis}
use Rattle.chart_grid.specs.declared.grid.Grid.{Grid}
use Rattle.chart_grid.specs.Slots.{IsInColumn}
use Rattle.view_keys.specs.Ranges.{IsInRange, IsWithin, IsCut}
use Rattle.view_keys.specs.Flat.{IsFlat}
use Rattle.view_keys.proofs.Ranging.{shared-above, above-in_range}
use Rattle.view_keys.specs.Wanted.{Seen, IsClearBefore, IsClearBehind}
use Rattle.needed_nodes.proofs.EndLaws.{FlatBelow}
use Rattle.chart_client.specs.Searching.{IsSettled, IsNearer, IsEnd, IsFailing, FailsAs, Finds, IsWantedIn, failure_of}
use Rattle.chart_client.specs.declared.failure.Failure.{Failure}
use Rattle.chart_client.specs.declared.search.Side.{Side}
use Rattle.chart_client.specs.declared.search.Side.TheVariants.{First, Last}
use Rattle.chart_client.specs.declared.search.End.{End}
use Rattle.chart_client.specs.declared.search.End.TheVariants.{Nowhere, Value, Stuck}
use Rattle.chart_client.proofs.Unknown.{unknown_below, not_clear, not_known, same_failing}

-- the slots of column c are those from a on and below b
pub record IsColumn (axis : Axis) (grid : Grid) (c a b : ℕ) : Type 0 where
  pub into : (i : ℕ) → IsInColumn axis grid c i → (a ≤ i) × (i < b)
  pub out : (i : ℕ) → a ≤ i → i < b → IsInColumn axis grid c i

-- a search among the same slots
settled_same : (seen : Seen) (slots : ℕ) (Flat : Span → Type 0) (X Y : ℕ → Type 0) → ((i : ℕ) → X i → Y i) → (k : Key)
    → IsSettled seen slots Flat X k → IsSettled seen slots Flat Y k
settled_same seen slots Flat X Y to k h = record {
  high = h.high;
  span = h.span;
  known_so = h.known_so;
  flat = h.flat;
  within = λ i r. to i (h.within i r);
}

pub finds_same : (seen : Seen) (slots : ℕ) (Flat : Span → Type 0) (X Y A B : ℕ → Type 0) → ((i : ℕ) → X i → Y i) → ((i : ℕ) → Y i → X i)
    → ((i : ℕ) → A i → B i) → ((i : ℕ) → B i → A i) → (side : Side) (e : End)
    → Finds seen slots Flat X A side e → Finds seen slots Flat Y B side e
finds_same seen slots Flat X Y A B own back to from side Nowhere found = λ i among. found i (from i among)
finds_same seen slots Flat X Y A B own back to from side Value found = (
  found.0,
  record { among = to found.0 found.1.among; unclear = found.1.unclear; nearer = λ j among near. found.1.nearer j (from j among) near },
  elim found.2 [ inl value ↦ inl value | inr k ↦ inr (k.0, k.1, settled_same seen slots Flat X Y own k.0 k.2) ],
)
finds_same seen slots Flat X Y A B own back to from side (Stuck f) found = (
  found.0,
  record { among = to found.0 found.1.among; unclear = found.1.unclear; nearer = λ j among near. found.1.nearer j (from j among) near },
  found.2,
  found.3,
  λ settled. found.4 (settled_same seen slots Flat Y X back f.key settled),
)

some_width : (q p : ℕ) → 0 < p → q * p < (q + 1) * p
some_width q p some = let e : (q + 1) * p ≡ q * p + p = omega arith in omega (arith, e, some)

width : (k : Key) → first_slot k < end_slot k
width k = some_width k.index (2 ^ k.level) (pow_pos k.level)

first_in : (k : Key) → IsInRange k (first_slot k)
first_in k = record { from = omega arith; to = width k }

last_in : (k : Key) → IsInRange k (end_slot k - 1)
last_in k = let some : first_slot k < end_slot k = width k in record { from = omega (arith, some); to = omega (arith, some) }

-- a key whose range has a slot of the column is within its slots, or cut
within_or_cut : (axis : Axis) (grid : Grid) (c a b : ℕ) (k : Key) (i : ℕ) → IsColumn axis grid c a b → IsInRange k i
    → IsInColumn axis grid c i
    → IsCut axis grid c k ⊎ IsWithin axis grid c k
within_or_cut axis grid c a b k i column r here =
    let some : first_slot k < end_slot k = width k in
    elim (cases_lt (first_slot k) a) [
      | inl before ↦ inl (record {
        slot = i;
        in_range = r;
        in_column = here;
        other = first_slot k;
        other_in_range = first_in k;
        outside = λ h. omega (arith, before, (column.into (first_slot k) h).0);
      })
      | inr from ↦ elim (cases_lt b (end_slot k)) [
        | inl behind ↦ inl (record {
          slot = i;
          in_range = r;
          in_column = here;
          other = end_slot k - 1;
          other_in_range = last_in k;
          outside = λ h. omega (arith, behind, (column.into (end_slot k - 1) h).1);
        })
        | inr to ↦ inr (λ j q. column.out j (omega (arith, from, q.from)) (omega (arith, to, q.to)))
      ]
    ]

reason_by : (seen : Seen) (axis : Axis) (grid : Grid) (c i : ℕ) (side : Side) (k : Key)
    → IsEnd seen axis.slots (IsInColumn axis grid c) side i
    → IsInRange k i → IsClearBefore seen axis grid c k ⊎ IsClearBehind seen axis grid c k
reason_by seen axis grid c i First k end r = inl (λ j here before. end.nearer j here (omega (arith, before, r.from)))
reason_by seen axis grid c i Last k end r = inr (λ j here behind. end.nearer j here (omega (arith, behind, r.to)))

reason_of : (seen : Seen) (axis : Axis) (grid : Grid) (lo hi : ℤ) (c i : ℕ) (side : Side) (k : Key) (s : Span)
    → IsEnd seen axis.slots (IsInColumn axis grid c) side i
    → IsInRange k i → (IsWithin axis grid c k → IsFlat lo hi grid.h s → ⊥) → IsCut axis grid c k ⊎ IsWithin axis grid c k
    → IsCut axis grid c k ⊎ (IsWithin axis grid c k × (IsFlat lo hi grid.h s → ⊥)
    × (IsClearBefore seen axis grid c k ⊎ IsClearBehind seen axis grid c k))
reason_of seen axis grid lo hi c i side k s end r uneven (inl cut) = inl cut
reason_of seen axis grid lo hi c i side k s end r uneven (inr within) = inr (
  within,
  uneven within,
  reason_by seen axis grid c i side k end r,
)

-- a key that fails above the end of a search is wanted
pub stuck_wanted : (seen : Seen) (axis : Axis) (grid : Grid) (lo hi : ℤ) (c a b i : ℕ) (side : Side) (k : Key) → IsColumn axis grid c a b
    → IsEnd seen axis.slots (IsInColumn axis grid c) side i → IsInRange k i → IsFailing seen axis.slots k
    → (IsSettled seen axis.slots (IsFlat lo hi grid.h) (IsInColumn axis grid c) k → ⊥) → IsWantedIn seen axis grid lo hi c k
stuck_wanted seen axis grid lo hi c a b i side k column end r failing unsettled = record {
  node = failing.node;
  span = failing.span;
  known_so = failing.known_so;
  reason = reason_of seen axis grid lo hi c i side k failing.span end r
      (λ within flat. unsettled (record {
        high = failing.node.high;
        span = failing.span;
        known_so = failing.known_so;
        flat = flat;
        within = within;
      }))
      (within_or_cut axis grid c a b k i column r end.among);
}

-- The search from this side ends within the key's range, which has a slot of the column.
pub record Ends (seen : Seen) (axis : Axis) (grid : Grid) (c : ℕ) (k : Key) (side : Side) : Type 0 where
  pub slot : ℕ
  pub in_range : IsInRange k slot
  pub in_column : IsInColumn axis grid c slot
  pub ends : (i : ℕ) → IsEnd seen axis.slots (IsInColumn axis grid c) side i → IsInRange k i

not_past : (seen : Seen) (axis : Axis) (grid : Grid) (c s i : ℕ) (side : Side) (k : Key) → IsFailing seen axis.slots k → IsInRange k s
    → IsInColumn axis grid c s
    → IsEnd seen axis.slots (IsInColumn axis grid c) side i → IsNearer side s i → ⊥
not_past seen axis grid c s i side k failing r here end near = not_clear seen axis.slots k s failing r (end.nearer s here near)

at_most : (a b : ℕ) → (b < a → ⊥) → a ≤ b
at_most a b not = elim (cases_lt b a) [ inl less ↦ absurd (not less) | inr same ↦ same ]

below : (a b : ℕ) → (b ≤ a → ⊥) → a < b
below a b not = elim (cases_lt a b) [ inl less ↦ less | inr same ↦ absurd (not same) ]

-- a cut key: the end lies between a slot of the column in its range and one that isn't of the column
cut_ends : (seen : Seen) (axis : Axis) (grid : Grid) (c a b : ℕ) (k : Key) → IsColumn axis grid c a b → IsFailing seen axis.slots k
    → IsCut axis grid c k → Ends seen axis grid c k First ⊎ Ends seen axis grid c k Last
cut_ends seen axis grid c a b k column failing cut =
    let at : (a ≤ cut.slot) × (cut.slot < b) = column.into cut.slot cut.in_column in
    elim (cases_lt cut.other cut.slot) [
      | inl before ↦ inl (record {
        slot = cut.slot;
        in_range = cut.in_range;
        in_column = cut.in_column;
        ends = λ i end.
            let here : (a ≤ i) × (i < b) = column.into i end.among in
            let high : i ≤ cut.slot = at_most i cut.slot
            (λ less. not_past seen axis grid c cut.slot i First k failing cut.in_range cut.in_column end less) in
            let low : cut.other < i = below cut.other i
            (λ less. cut.outside (column.out cut.other (omega (arith, here.0, less)) (omega (arith, before, at.1)))) in
            record { from = omega (arith, low, cut.other_in_range.from); to = omega (arith, high, cut.in_range.to) };
      })
      | inr behind ↦ inr (record {
        slot = cut.slot;
        in_range = cut.in_range;
        in_column = cut.in_column;
        ends = λ i end.
            let here : (a ≤ i) × (i < b) = column.into i end.among in
            let low : cut.slot ≤ i = at_most cut.slot i
            (λ less. not_past seen axis grid c cut.slot i Last k failing cut.in_range cut.in_column end less) in
            let high : i < cut.other = below i cut.other
            (λ less. cut.outside (column.out cut.other (omega (arith, behind, at.0)) (omega (arith, here.1, less)))) in
            record { from = omega (arith, low, cut.in_range.from); to = omega (arith, high, cut.other_in_range.to) };
      })
    ]

-- a key within the column before which all slots are clear
before_ends : (seen : Seen) (axis : Axis) (grid : Grid) (c : ℕ) (k : Key) → IsFailing seen axis.slots k → IsWithin axis grid c k
    → IsClearBefore seen axis grid c k → Ends seen axis grid c k First
before_ends seen axis grid c k failing within clear = record {
  slot = first_slot k;
  in_range = first_in k;
  in_column = within (first_slot k) (first_in k);
  ends = λ i end.
      let high : i ≤ first_slot k = at_most i (first_slot k)
      (λ less. not_past seen axis grid c (first_slot k) i First k failing (first_in k) (within (first_slot k) (first_in k)) end less) in
      let low : first_slot k ≤ i = at_most (first_slot k) i (λ less. end.unclear (clear i end.among less)) in
      record { from = low; to = omega (arith, high, width k) };
}

behind_ends : (seen : Seen) (axis : Axis) (grid : Grid) (c : ℕ) (k : Key) → IsFailing seen axis.slots k → IsWithin axis grid c k
    → IsClearBehind seen axis grid c k → Ends seen axis grid c k Last
behind_ends seen axis grid c k failing within clear = record {
  slot = end_slot k - 1;
  in_range = last_in k;
  in_column = within (end_slot k - 1) (last_in k);
  ends = λ i end.
      let low : end_slot k - 1 ≤ i = at_most (end_slot k - 1) i
      (λ less. not_past seen axis grid c (end_slot k - 1) i Last k failing (last_in k) (within (end_slot k - 1) (last_in k)) end less)
      in
      let high : i < end_slot k = below i (end_slot k) (λ less. end.unclear (clear i end.among less)) in
      record { from = omega (arith, low, width k); to = high };
}

-- from one of the sides the search ends in the range of a wanted key that fails
pub wanted_ends : (seen : Seen) (axis : Axis) (grid : Grid) (lo hi : ℤ) (c a b : ℕ) (k : Key) → IsColumn axis grid c a b
    → IsFailing seen axis.slots k
    → IsWantedIn seen axis grid lo hi c k → Ends seen axis grid c k First ⊎ Ends seen axis grid c k Last
wanted_ends seen axis grid lo hi c a b k column failing wanted = elim wanted.reason [
  | inl cut ↦ cut_ends seen axis grid c a b k column failing cut
  | inr own ↦ elim own.2 [
    | inl clear ↦ inl (before_ends seen axis grid c k failing own.0 clear)
    | inr clear ↦ inr (behind_ends seen axis grid c k failing own.0 clear)
  ]
]

-- the failure at which a search got stuck is that of k
pub record IsOf (x : Option Failure) (k : Key) : Type 0 where
  pub failure : Failure
  pub is : x ≡ Some failure
  pub key : failure.key ≡ k

unseen : (s : Span) → ◌≡◌ {A = Option (Option Span)} None (Some (Some s)) → ⊥
unseen s e = cc

-- no wanted key that fails shares a slot with a settled one
wanted_apart : FlatBelow → (seen : Seen) (axis : Axis) (grid : Grid) (lo hi : ℤ) (c i : ℕ) (k w : Key) → IsFailing seen axis.slots k
    → IsWantedIn seen axis grid lo hi c k
    → IsSettled seen axis.slots (IsFlat lo hi grid.h) (IsInColumn axis grid c) w → IsInRange k i → IsInRange w i → ⊥
wanted_apart below_flat seen axis grid lo hi c i k w failing wanted h rk rw = elim (cases_lt w.level k.level) [
  | inl lower ↦
      unseen h.span (sym (unknown_below seen axis.slots k w failing lower (shared-above k w i (omega (arith, lower)) rk rw)) ∙ h.known_so)
  | inr above ↦
      (let over : IsAtOrAbove w k = shared-above w k i above rw rk in
      let within : IsWithin axis grid c k = λ j r. h.within j (above-in_range w k j over r) in
      elim wanted.reason [
        | inl cut ↦ cut.outside (within cut.other cut.other_in_range)
        | inr own ↦ own.1 (below_flat seen.root seen.told
            (height axis.slots) w k lo hi grid.h wanted.span h.span h.high over h.known_so wanted.known_so h.flat)
      ])
]

-- so the search gets stuck at that key
pub ends_at : FlatBelow → (seen : Seen) (axis : Axis) (grid : Grid) (lo hi : ℤ) (c : ℕ) (k : Key) (side : Side) (e : End)
    → IsFailing seen axis.slots k
    → IsWantedIn seen axis grid lo hi c k → Ends seen axis grid c k side
    → Finds seen axis.slots (IsFlat lo hi grid.h) (IsInColumn axis grid c) (IsInColumn axis grid c) side e → IsOf (failure_of e) k
ends_at below_flat seen axis grid lo hi c k side Nowhere failing wanted h found = absurd
    (not_clear seen axis.slots k h.slot failing h.in_range (found h.slot h.in_column))
ends_at below_flat seen axis grid lo hi c k side Value failing wanted h found = elim found.2 [
  | inl value ↦ absurd (not_known seen axis.slots k found.0 value.0 failing (h.ends found.0 found.1) value.1)
  | inr w ↦ absurd (wanted_apart below_flat seen axis grid lo hi c found.0 k w.0 failing wanted w.2 (h.ends found.0 found.1) w.1)
]
ends_at below_flat seen axis grid lo hi c k side (Stuck f) failing wanted h found = record {
  failure = f;
  is = refl;
  key = same_failing seen axis.slots f.key k found.0 found.3.failing failing found.2 (h.ends found.0 found.1);
}

-- and what it gets stuck at is wanted and fails
pub record IsGood (seen : Seen) (axis : Axis) (grid : Grid) (lo hi : ℤ) (c : ℕ) (f : Failure) : Type 0 where
  pub wanted : IsWantedIn seen axis grid lo hi c f.key
  pub how : FailsAs seen axis.slots f.key f.is_missing

some_is : (f g : Failure) → ◌≡◌ {A = Option Failure} (Some f) (Some g) → f ≡ g
some_is f g e = cc

none_is : (f : Failure) → ◌≡◌ {A = Option Failure} None (Some f) → ⊥
none_is f e = cc

pub stuck_good : (seen : Seen) (axis : Axis) (grid : Grid) (lo hi : ℤ) (c a b : ℕ) (side : Side) (e : End) (f : Failure)
    → IsColumn axis grid c a b
    → Finds seen axis.slots (IsFlat lo hi grid.h) (IsInColumn axis grid c) (IsInColumn axis grid c) side e → failure_of e ≡ Some f
    → IsGood seen axis grid lo hi c f
stuck_good seen axis grid lo hi c a b side Nowhere f column found is = absurd (none_is f is)
stuck_good seen axis grid lo hi c a b side Value f column found is = absurd (none_is f is)
stuck_good seen axis grid lo hi c a b side (Stuck g) f column found is =
    subst (λ (x : Failure). IsGood seen axis grid lo hi c x) (some_is g f is) (record {
      wanted = stuck_wanted seen axis grid lo hi c a b found.0 side g.key column found.1 found.2 found.3.failing found.4;
      how = found.3.how;
    })
