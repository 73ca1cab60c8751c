-- What a search finds over a key's range, from what it finds over the two halves.
use Rattle.std.proofs.Common.{ℕ, ◌≡◌, ◌+◌, ◌-◌, ◌*◌, ◌^◌, ◌<◌, ◌≤◌, max, min, ◌⊎◌, inl, inr, refl, sym, ◌∙◌, ap, subst, arith, pow_pos}
use Rattle.std.proofs.lemmas.Bool.{cases_lt}
use Rattle.std.specs.Prelude.{Option, Some, None}
use Rattle.om3_coeff.specs.declared.key.Key.{Key}
use Rattle.om3_coeff.specs.declared.span.Span.{Span}
use Rattle.om3_coeff.specs.Keys.{first_slot, end_slot, left_of, right_of, height}
use Rattle.om3_coeff.specs.declared.coef.Coef.{Coef}
use Rattle.om3_coeff.specs.Known.{known, IsKnownClear}
use Rattle.om3_coeff.specs.View.{NodesView}
use Rattle.om3_coeff.specs.Walks.{IsReached}
use Rattle.om3_coeff.proofs.KeyLemmas.{left_first, right_end, left_some, right_some, same_key}
use Rattle.om3_coeff.proofs.KnownLemmas.{known_clear}
use Rattle.view_keys.specs.Ranges.{IsInRange}
use Rattle.view_keys.specs.Wanted.{Seen}
use Rattle.view_keys.proofs.Ranging.{slot_key, slot_key-in_range, shared-above, first-in_range, last-in_range}
use Rattle.view_keys.proofs.Ends.{least, greatest}
use Rattle.chart_client.specs.Searching.{IsClearAt, IsBetween, IsSettled, IsAmong, IsNearer, IsEnd, IsFailure, Finds, near_of, far_of}
use Rattle.chart_client.specs.declared.failure.Failure.{Failure}
use Rattle.chart_client.specs.declared.search.Half.{Half}
use Rattle.chart_client.specs.declared.search.Side.{Side}
use Rattle.chart_client.specs.declared.search.Side.TheVariants.{First, Last}
use Rattle.chart_client.specs.declared.search.End.{End}
use Rattle.chart_client.specs.declared.search.End.TheVariants.{Nowhere, Value, Stuck}
use Rattle.chart_client.proofs.Unknown.{shown, not_clear}

-- ---- no search below

-- a key that has no span has clear slots
pub none_found : (seen : Seen) (slots : ℕ) (Flat : Span → Type 0) (side : Side) (a b : ℕ) (k : Key) → k.level ≤ height slots
    → shown seen slots k ≡ Some None
    → Finds seen slots Flat (IsBetween a b) (IsAmong k a b) side Nowhere
none_found seen slots Flat side a b k high none i among =
    known_clear seen.root seen.told (height slots) k (slot_key i) high
    (shared-above k (slot_key i) i (omega arith) among.in_range (slot_key-in_range i)) none

some_width : (q p : ℕ) → 0 < p → q * p < (q + 1) * p
some_width q p some = let e : (q + 1) * p ≡ q * p + p = omega arith in omega (arith, e, some)

-- the key's coefficient can't be used: none of its slots is known to hold nothing
pub stuck_found : (seen : Seen) (slots : ℕ) (Flat : Span → Type 0) (side : Side) (a b : ℕ) (f : Failure) → IsFailure seen slots f
    → (IsSettled seen slots Flat (IsBetween a b) f.key → ⊥) → a < b
    → a < end_slot f.key → first_slot f.key < b → Finds seen slots Flat (IsBetween a b) (IsAmong f.key a b) side (Stuck f)
stuck_found seen slots Flat First a b f h unsettled some low high =
    let width : first_slot f.key < end_slot f.key = some_width f.key.index (2 ^ f.key.level) (pow_pos f.key.level) in
    let i : ℕ = max a (first_slot f.key) in
    let r : IsInRange f.key i = record { from = omega arith; to = omega (arith, low, width) } in (
      i,
      record {
        among = record { in_range = r; from = omega arith; to = omega (arith, some, high) };
        unclear = not_clear seen slots f.key i h.failing r;
        nearer = λ j among near. absurd (omega (arith, near, among.from, among.in_range.from));
      },
      r,
      h,
      unsettled,
    )
stuck_found seen slots Flat Last a b f h unsettled some low high =
    let width : first_slot f.key < end_slot f.key = some_width f.key.index (2 ^ f.key.level) (pow_pos f.key.level) in
    let i : ℕ = min b (end_slot f.key) - 1 in
    let r : IsInRange f.key i = record { from = omega (arith, high, width); to = omega (arith, width) } in (
      i,
      record {
        among = record { in_range = r; from = omega (arith, some, low); to = omega (arith, some) };
        unclear = not_clear seen slots f.key i h.failing r;
        nearer = λ j among near. absurd (omega (arith, near, among.to, among.in_range.to));
      },
      r,
      h,
      unsettled,
    )

-- ---- a key with a value

-- a slot that has a span
pub slot_found : (seen : Seen) (slots : ℕ) (Flat : Span → Type 0) (side : Side) (a b : ℕ) (k : Key) (s : Span) → k.level ≡ 0
    → shown seen slots k ≡ Some (Some s)
    → a < end_slot k → first_slot k < b → Finds seen slots Flat (IsBetween a b) (IsAmong k a b) side Value
slot_found seen slots Flat side a b k s none known_so low high =
    let one : 2 ^ k.level ≡ 1 = ap (λ n. 2 ^ n) none in
    let first : first_slot k ≡ k.index = omega (arith, ap (λ n. k.index * n) one) in
    let end : end_slot k ≡ k.index + 1 = omega (arith, ap (λ n. (k.index + 1) * n) one) in
    let r : IsInRange k k.index = record { from = omega (arith, first); to = omega (arith, end) } in
    let same : slot_key k.index ≡ k = same_key (slot_key k.index) k (sym none) refl in
    let here : shown seen slots (slot_key k.index) ≡ Some (Some s) = ap (λ x. shown seen slots x) same ∙ known_so in (
      k.index,
      record {
        among = record { in_range = r; from = omega (arith, low, end); to = omega (arith, high, first) };
        unclear = λ clear. seen_clear s (sym here ∙ clear);
        nearer = λ j among near. absurd (not_near side j k.index near (omega (arith, among.in_range.from, among.in_range.to, first, end)));
      },
      inl (s, here),
    )
  where
    seen_clear : (s : Span) → ◌≡◌ {A = Option (Option Span)} (Some (Some s)) (Some None) → ⊥
    seen_clear s e = cc

    not_near : (side : Side) (j i : ℕ) → IsNearer side j i → j ≡ i → ⊥
    not_near First j i near e = omega (arith, near, e)
    not_near Last j i near e = omega (arith, near, e)

-- a key that is seen has a slot that isn't known to hold nothing
abbrev pub OpenSlots : Type 0
OpenSlots =
    (root : Option Span) (told : Key → Option Coef) (top : ℕ) (k : Key) (s : Span) → k.level ≤ top
    → known root told top k ≡ Some (Some s) → ((i : ℕ) → IsInRange k i → IsKnownClear root told top i) → ⊥

clear_or_not : (o : Option (Option Span)) → (o ≡ Some None) ⊎ (o ≡ Some None → ⊥)
clear_or_not None = inr (λ e. absurd (cc))
clear_or_not (Some None) = inl refl
clear_or_not (Some (Some s)) = inr (λ e. absurd (cc))

-- slot i lies in the key's range, and isn't known to hold nothing
record IsOpenIn (seen : Seen) (slots : ℕ) (k : Key) (i : ℕ) : Type 0 where
  in_range : IsInRange k i
  unclear : IsClearAt seen slots i → ⊥

open_cases : (seen : Seen) (slots : ℕ) (k : Key) (i : ℕ) → IsOpenIn seen slots k i ⊎ (IsOpenIn seen slots k i → ⊥)
open_cases seen slots k i = elim (cases_lt i (first_slot k)) [
  | inl before ↦ inr (λ h. omega (arith, before, h.in_range.from))
  | inr from ↦ elim (cases_lt i (end_slot k)) [
    | inl to ↦ elim (clear_or_not (shown seen slots (slot_key i))) [
      | inl clear ↦ inr (λ h. h.unclear clear)
      | inr unclear ↦ inl (record { in_range = record { from = from; to = to }; unclear = unclear })
    ]
    | inr behind ↦ inr (λ h. omega (arith, behind, h.in_range.to))
  ]
]

clear_by : (seen : Seen) (slots : ℕ) (k : Key) (i : ℕ) → IsInRange k i → (IsOpenIn seen slots k i → ⊥) → IsClearAt seen slots i
clear_by seen slots k i r none = elim (clear_or_not (shown seen slots (slot_key i))) [
  | inl clear ↦ clear
  | inr unclear ↦ absurd (none (record { in_range = r; unclear = unclear }))
]

-- a settled key
pub settled_found : OpenSlots → (seen : Seen) (slots : ℕ) (Flat : Span → Type 0) (side : Side) (a b : ℕ) (k : Key)
    → IsSettled seen slots Flat (IsBetween a b) k → Finds seen slots Flat (IsBetween a b) (IsAmong k a b) side Value
settled_found law seen slots Flat First a b k h =
    elim (least (IsOpenIn seen slots k) (open_cases seen slots k) (end_slot k)) [
      | inl found ↦
          (let r : IsInRange k found.0 = found.2.0.in_range in
          let at : IsBetween a b found.0 = h.within found.0 r in (
            found.0,
            record {
              among = record { in_range = r; from = at.0; to = at.1 };
              unclear = found.2.0.unclear;
              nearer = λ j among near. clear_by seen slots k j among.in_range (found.2.1 j near);
            },
            inr (k, r, h),
          ))
      | inr none ↦ absurd (law seen.root seen.told (height slots) k h.span h.high h.known_so
          (λ i r. clear_by seen slots k i r (none i r.to)))
    ]
settled_found law seen slots Flat Last a b k h =
    elim (greatest (IsOpenIn seen slots k) (open_cases seen slots k) (end_slot k)) [
      | inl found ↦
          (let r : IsInRange k found.0 = found.2.0.in_range in
          let at : IsBetween a b found.0 = h.within found.0 r in (
            found.0,
            record {
              among = record { in_range = r; from = at.0; to = at.1 };
              unclear = found.2.0.unclear;
              nearer = λ j among near. clear_by seen slots k j among.in_range (found.2.1 j near among.in_range.to);
            },
            inr (k, r, h),
          ))
      | inr none ↦ absurd (law seen.root seen.told (height slots) k h.span h.high h.known_so
          (λ i r. clear_by seen slots k i r (none i r.to)))
    ]

-- a key is settled where it lies among the slots from a on and below b, and is flat
pub settled_by : (seen : Seen) (slots : ℕ) (Flat : Span → Type 0) (a b : ℕ) (k : Key) (s : Span) → k.level ≤ height slots
    → shown seen slots k ≡ Some (Some s)
    → (a ≤ first_slot k) × (end_slot k ≤ b) × Flat s → IsSettled seen slots Flat (IsBetween a b) k
settled_by seen slots Flat a b k s high known_so h = record {
  high = high;
  span = s;
  known_so = known_so;
  flat = h.2;
  within = λ i r. (omega (arith, h.0, r.from), omega (arith, h.1, r.to));
}

same_span : (s t : Span) → ◌≡◌ {A = Option (Option Span)} (Some (Some s)) (Some (Some t)) → s ≡ t
same_span s t e = cc

pub settled_is : (seen : Seen) (slots : ℕ) (Flat : Span → Type 0) (a b : ℕ) (k : Key) (s : Span) → shown seen slots k ≡ Some (Some s)
    → IsSettled seen slots Flat (IsBetween a b) k → (a ≤ first_slot k) × (end_slot k ≤ b) × Flat s
settled_is seen slots Flat a b k s known_so h =
    let low : IsBetween a b (first_slot k) = h.within (first_slot k) (first-in_range k) in
    let high : IsBetween a b (end_slot k - 1) = h.within (end_slot k - 1) (last-in_range k) in (
      low.0,
      omega (arith, high.1, (last-in_range k).to),
      subst (λ x. Flat x) (same_span h.span s (sym h.known_so ∙ known_so)) h.flat,
    )

-- ---- the two halves

-- the ranges of the keys near and far make up that of k, and that of near comes first from a side
pub record AreHalves (side : Side) (k near far : Key) : Type 0 where
  pub either : (i : ℕ) → IsInRange k i → IsInRange near i ⊎ IsInRange far i
  pub near_in : (i : ℕ) → IsInRange near i → IsInRange k i
  pub far_in : (i : ℕ) → IsInRange far i → IsInRange k i
  pub order : (i j : ℕ) → IsInRange near i → IsInRange far j → IsNearer side i j

pub halves : (side : Side) (k : Key) → 1 ≤ k.level → AreHalves side k (near_of side (left_of k) (right_of k))
    (far_of side (left_of k) (right_of k))
halves First k low =
    let from : first_slot (left_of k) ≡ first_slot k = left_first k low in
    let to : end_slot (right_of k) ≡ end_slot k = right_end k low in
    let left : first_slot k < end_slot (left_of k) = left_some k low in
    let right : end_slot (left_of k) < end_slot k = right_some k low in
    record {
      either = λ i r. elim (cases_lt i (end_slot (left_of k))) [
        | inl before ↦ inl (record { from = omega (arith, r.from, from); to = before })
        | inr behind ↦ inr (record { from = behind; to = omega (arith, r.to, to) })
      ];
      near_in = λ i r. record { from = omega (arith, r.from, from); to = omega (arith, r.to, right) };
      far_in = λ i r. record { from = omega (arith, r.from, left); to = omega (arith, r.to, to) };
      order = λ i j r q. omega (arith, r.to, q.from);
    }
halves Last k low =
    let from : first_slot (left_of k) ≡ first_slot k = left_first k low in
    let to : end_slot (right_of k) ≡ end_slot k = right_end k low in
    let left : first_slot k < end_slot (left_of k) = left_some k low in
    let right : end_slot (left_of k) < end_slot k = right_some k low in
    record {
      either = λ i r. elim (cases_lt i (end_slot (left_of k))) [
        | inl before ↦ inr (record { from = omega (arith, r.from, from); to = before })
        | inr behind ↦ inl (record { from = behind; to = omega (arith, r.to, to) })
      ];
      near_in = λ i r. record { from = omega (arith, r.from, left); to = omega (arith, r.to, to) };
      far_in = λ i r. record { from = omega (arith, r.from, from); to = omega (arith, r.to, right) };
      order = λ i j r q. omega (arith, r.from, q.to);
    }

crossed : (side : Side) (i j : ℕ) → IsNearer side i j → IsNearer side j i → ⊥
crossed First i j near far = omega (arith, near, far)
crossed Last i j near far = omega (arith, near, far)

near_end : (seen : Seen) (slots : ℕ) (side : Side) (a b : ℕ) (k near far : Key) (i : ℕ) → AreHalves side k near far
    → IsEnd seen slots (IsAmong near a b) side i → IsEnd seen slots (IsAmong k a b) side i
near_end seen slots side a b k near far i h end = record {
  among = record { in_range = h.near_in i end.among.in_range; from = end.among.from; to = end.among.to };
  unclear = end.unclear;
  nearer = λ j among less. elim (h.either j among.in_range) [
    | inl r ↦ end.nearer j (record { in_range = r; from = among.from; to = among.to }) less
    | inr r ↦ absurd (crossed side i j (h.order i j end.among.in_range r) less)
  ];
}

far_end : (seen : Seen) (slots : ℕ) (Flat : Span → Type 0) (side : Side) (a b : ℕ) (k near far : Key) (i : ℕ) → AreHalves side k near far
    → Finds seen slots Flat (IsBetween a b) (IsAmong near a b) side Nowhere
    → IsEnd seen slots (IsAmong far a b) side i → IsEnd seen slots (IsAmong k a b) side i
far_end seen slots Flat side a b k near far i h none end = record {
  among = record { in_range = h.far_in i end.among.in_range; from = end.among.from; to = end.among.to };
  unclear = end.unclear;
  nearer = λ j among less. elim (h.either j among.in_range) [
    | inl r ↦ none j (record { in_range = r; from = among.from; to = among.to })
    | inr r ↦ end.nearer j (record { in_range = r; from = among.from; to = among.to }) less
  ];
}

-- the nearer half has no clear end: the search ends there
pub near_found : (seen : Seen) (slots : ℕ) (Flat : Span → Type 0) (side : Side) (a b : ℕ) (k near far : Key) (e : End)
    → AreHalves side k near far
    → Finds seen slots Flat (IsBetween a b) (IsAmong near a b) side e → (e ≡ Nowhere → ⊥)
    → Finds seen slots Flat (IsBetween a b) (IsAmong k a b) side e
near_found seen slots Flat side a b k near far Nowhere h found some = absurd (some refl)
near_found seen slots Flat side a b k near far Value h found some = (
  found.0,
  near_end seen slots side a b k near far found.0 h found.1,
  found.2,
)
near_found seen slots Flat side a b k near far (Stuck f) h found some =
    (found.0, near_end seen slots side a b k near far found.0 h found.1, found.2, found.3, found.4)

-- all slots of the nearer half are clear: the search goes on in the other one
pub far_found : (seen : Seen) (slots : ℕ) (Flat : Span → Type 0) (side : Side) (a b : ℕ) (k near far : Key) (e : End)
    → AreHalves side k near far
    → Finds seen slots Flat (IsBetween a b) (IsAmong near a b) side Nowhere → Finds seen slots Flat (IsBetween a b) (IsAmong far a b) side e
    → Finds seen slots Flat (IsBetween a b) (IsAmong k a b) side e
far_found seen slots Flat side a b k near far Nowhere h none found = λ i among. elim (h.either i among.in_range) [
  | inl r ↦ none i (record { in_range = r; from = among.from; to = among.to })
  | inr r ↦ found i (record { in_range = r; from = among.from; to = among.to })
]
far_found seen slots Flat side a b k near far Value h none found = (
  found.0,
  far_end seen slots Flat side a b k near far found.0 h none found.1,
  found.2,
)
far_found seen slots Flat side a b k near far (Stuck f) h none found =
    (found.0, far_end seen slots Flat side a b k near far found.0 h none found.1, found.2, found.3, found.4)

-- ---- halves with their spans

-- what a search needs of the half to which it goes first, and of the other one
pub record AreWays (view : NodesView) (side : Side) (k : Key) (x y : Half) : Type 0 where
  pub halves : AreHalves side k x.key y.key
  pub near : IsReached view x.key x.span
  pub far : IsReached view y.key y.span
  pub near_lower : x.key.level < k.level
  pub far_lower : y.key.level < k.level

ways_of : (view : NodesView) (side : Side) (k : Key) (left right : Option Span) → 1 ≤ k.level → IsReached view (left_of k) left
    → IsReached view (right_of k) right
    → AreWays view side k (near_of side (record { key = left_of k; span = left }) (record { key = right_of k; span = right }))
    (far_of side (record { key = left_of k; span = left }) (record { key = right_of k; span = right }))
ways_of view First k left right low in_left in_right =
    record { halves = halves First k low; near = in_left; far = in_right; near_lower = omega (arith, low); far_lower = omega (arith, low) }
ways_of view Last k left right low in_left in_right =
    record { halves = halves Last k low; near = in_right; far = in_left; near_lower = omega (arith, low); far_lower = omega (arith, low) }

pub are_ways : (view : NodesView) (side : Side) (k : Key) (left right : Option Span) (x y : Half) → 1 ≤ k.level
    → x ≡ near_of side (record { key = left_of k; span = left }) (record { key = right_of k; span = right })
    → y ≡ far_of side (record { key = left_of k; span = left }) (record { key = right_of k; span = right })
    → IsReached view (left_of k) left → IsReached view (right_of k) right → AreWays view side k x y
are_ways view side k left right x y low near far in_left in_right =
    let l : Half = record { key = left_of k; span = left } in
    let r : Half = record { key = right_of k; span = right } in
    let P : Half → Type 0 = λ n. AreWays view side k n (far_of side l r) in
    let Q : Half → Type 0 = λ f. AreWays view side k x f in
    subst Q (sym far) (subst P (sym near) (ways_of view side k left right low in_left in_right))
