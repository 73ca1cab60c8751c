-- How many keys a scan asks.
use Rattle.std.proofs.Common.{ℕ, zero, suc, ◌≡◌, ◌+◌, ◌-◌, ◌*◌, ◌^◌, ◌<◌, ◌≤◌, ◌⊎◌, inl, inr, max, min, arith, refl, ◌∙◌, ap, subst}
use Rattle.std.proofs.lemmas.Bool.{cases_lt}
use Rattle.std.proofs.Math.Nat.{pow-succ'}
use Rattle.om3_coeff.proofs.EndLemmas.{no_cuts}
use Rattle.om3_coeff.specs.declared.key.Key.{Key}
use Rattle.om3_coeff.specs.Keys.{first_slot, end_slot, left_of, right_of, height, top_key}
use Rattle.om3_coeff.specs.Walks.{most_cut}
use Rattle.om3_coeff.proofs.KeyLemmas.{left_first, right_end, left_some, right_some}
use Rattle.om3_coeff.proofs.WalkLemmas.{cut_counts, top_reads}
use Rattle.filter_scan.specs.declared.scans.Scan.{Scan}
use Rattle.filter_scan.specs.Asks.{asks_of, most_asks}
use Rattle.filter_scan.specs.Shares.{Meets, IsInside}

-- the asks of two halves and one more
sum_cut : (n1 n2 n c1 c2 c : ℕ) → n ≡ n1 + n2 → 1 ≤ n → 1 + c1 + c2 ≤ c → 1 + asks_of n1 c1 + asks_of n2 c2 ≤ asks_of n c
sum_cut n1 n2 zero c1 c2 c e some h = absurd (omega (arith, some))
sum_cut zero zero (suc n) c1 c2 c e some h = absurd (omega (arith, e))
sum_cut zero (suc n2) (suc n) c1 c2 c e some h = omega (arith, e, h)
sum_cut (suc n1) zero (suc n) c1 c2 c e some h = omega (arith, e, h)
sum_cut (suc n1) (suc n2) (suc n) c1 c2 c e some h = omega (arith, e, h)

sum_whole : (n1 n2 n c1 c2 c : ℕ) → n ≡ n1 + n2 → 1 ≤ n1 → 1 ≤ n2 → c1 ≡ 0 → c2 ≡ 0 → 1 + asks_of n1 c1 + asks_of n2 c2 ≤ asks_of n c
sum_whole zero n2 n c1 c2 c e p q z1 z2 = absurd (omega (arith, p))
sum_whole (suc n1) zero n c1 c2 c e p q z1 z2 = absurd (omega (arith, q))
sum_whole (suc n1) (suc n2) zero c1 c2 c e p q z1 z2 = absurd (omega (arith, e))
sum_whole (suc n1) (suc n2) (suc n) c1 c2 c e p q z1 z2 = omega (arith, e, z1, z2)

-- a range that meets the slots is cut by an end of them, or lies within
cut_or_within : (a b first end : ℕ) → (first < a) ⊎ (b < end) ⊎ ((a ≤ first) × (end ≤ b))
cut_or_within a b first end =
    elim (cases_lt first a) [
      | inl less ↦ inl less
      | inr from ↦ elim (cases_lt b end) [
        | inl less ↦ inr (inl less)
        | inr to ↦ inr (inr (from, to))
      ]
    ]

-- the asks below the two halves of a key, and the ask of the key
halves_of : (s : Scan) (k : Key) → 1 ≤ k.level → Meets s k → 1 + most_asks s (left_of k) + most_asks s (right_of k) ≤ most_asks s k
unfolding most_asks
halves_of s k low meets =
    let first : ℕ = first_slot k in
    let middle : ℕ = end_slot (left_of k) in
    let end : ℕ = end_slot k in
    let n1 : ℕ = min s.end (end_slot (left_of k)) - max s.from (first_slot (left_of k)) in
    let n2 : ℕ = min s.end (end_slot (right_of k)) - max s.from (first_slot (right_of k)) in
    let n : ℕ = min s.end (end_slot k) - max s.from (first_slot k) in
    let l : first_slot (left_of k) ≡ first_slot k = left_first k low in
    let r : end_slot (right_of k) ≡ end_slot k = right_end k low in
    let same : first_slot (right_of k) ≡ end_slot (left_of k) = refl in
    let more : first_slot k < end_slot (left_of k) = left_some k low in
    let less : end_slot (left_of k) < end_slot k = right_some k low in
    let sum : n ≡ n1 + n2 = slots_sum s.from s.end (first_slot k) (end_slot (left_of k)) (end_slot k) (first_slot (left_of k))
    (end_slot (right_of k)) l r more less in
    let some : 1 ≤ n = omega (arith, meets.some) in
    elim (cut_or_within s.from s.end (first_slot k) (end_slot k)) [
      | inl before ↦ sum_cut n1 n2 n (most_cut s.from s.end (left_of k)) (most_cut s.from s.end (right_of k))
          (most_cut s.from s.end k) sum some
          (cut_counts s.from s.end k (omega (arith, meets.some), omega (arith, meets.some), inl before))
      | inr other ↦ elim other [
        | inl behind ↦ sum_cut n1 n2 n (most_cut s.from s.end (left_of k)) (most_cut s.from s.end (right_of k))
            (most_cut s.from s.end k) sum some
            (cut_counts s.from s.end k (omega (arith, meets.some), omega (arith, meets.some), inr behind))
        | inr within ↦ sum_whole n1 n2 n (most_cut s.from s.end (left_of k)) (most_cut s.from s.end (right_of k))
            (most_cut s.from s.end k) sum
            (some_slots s.from s.end (first_slot (left_of k)) (end_slot (left_of k)) (omega (arith, within.0, l))
            (omega (arith, within.1, less)) (omega (arith, more, l)))
            (some_slots s.from s.end (first_slot (right_of k)) (end_slot (right_of k)) (omega (arith, within.0, same, more))
            (omega (arith, within.1, r)) (omega (arith, less, same, r)))
            (no_cuts s.from s.end (first_slot (left_of k)) (end_slot (left_of k)) (left_of k).level (omega (arith, within.0, l))
            (omega (arith, within.1, less)))
            (no_cuts s.from s.end (first_slot (right_of k)) (end_slot (right_of k)) (right_of k).level (omega (arith, within.0, same, more))
            (omega (arith, within.1, r)))
      ]
    ]
  where
    slots_sum : (a b first middle end f e : ℕ) → f ≡ first → e ≡ end → first < middle → middle < end
        → min b end - max a first ≡ (min b middle - max a f) + (min b e - max a middle)
    slots_sum a b first middle end f e p q more less = omega (arith, p, q)

    some_slots : (a b first end : ℕ) → a ≤ first → end ≤ b → first < end → 1 ≤ min b end - max a first
    some_slots a b first end from to some = omega arith

pub halves_asks : (s : Scan) (k left right : Key) → 1 ≤ k.level → Meets s k → left ≡ left_of k → right ≡ right_of k
    → 1 + most_asks s left + most_asks s right ≤ most_asks s k
halves_asks s k left right low meets l r = omega (arith, halves_of s k low meets, ap (most_asks s) l, ap (most_asks s) r)

-- the reads of a walk below the halves
pub reads_once : (s : Scan) (k left right : Key) (before asked : ℕ) → 1 ≤ k.level → Meets s k → left ≡ left_of k → right ≡ right_of k
    → asked ≤ before + 1 → asked ≤ before + most_asks s k
reads_once s k left right before asked low meets l r one = omega (arith, halves_asks s k left right low meets l r, one)

pub reads_first : (s : Scan) (k left right : Key) (before asked first : ℕ) → 1 ≤ k.level → Meets s k → left ≡ left_of k → right ≡ right_of k
    → asked ≤ before + 1
    → first ≤ asked + most_asks s left → first ≤ before + most_asks s k
reads_first s k left right before asked first low meets l r one p = omega (arith, halves_asks s k left right low meets l r, one, p)

pub reads_both : (s : Scan) (k left right : Key) (before asked first second : ℕ) → 1 ≤ k.level → Meets s k → left ≡ left_of k
    → right ≡ right_of k → asked ≤ before + 1
    → first ≤ asked + most_asks s left → second ≤ first + most_asks s right → second ≤ before + most_asks s k
reads_both s k left right before asked first second low meets l r one p q = omega (
  arith,
  halves_asks s k left right low meets l r,
  one,
  p,
  q,
)

-- the two ways down below a key that is taken as a whole have no more keys than it has slots
far_up : (d : ℕ) → 2 * (3 + d) + 1 ≤ 2 ^ (3 + d)
far_up zero = omega arith
far_up (suc d) =
    let double : 2 ^ (3 + suc d) ≡ 2 * 2 ^ (3 + d) = (let e : 3 + suc d ≡ suc (3 + d) = omega arith in
    ap (λ n. 2 ^ n) e ∙ pow-succ' 2 (3 + d)) in
    omega (arith, double, far_up d)

slots_up : (l : ℕ) → 3 ≤ l → 2 * l + 1 ≤ 2 ^ l
slots_up l high =
    let e : 3 + (l - 3) ≡ l = omega arith in
    let P : ℕ → Type 0 = λ n. 2 * n + 1 ≤ 2 ^ n in
    subst P e (far_up (l - 3))

asks_least : (n c m : ℕ) → m + 1 ≤ n → m ≤ asks_of n c
asks_least zero c m h = absurd (omega (arith, h))
asks_least (suc n) c m h = omega (arith, h)

pub whole_asks : (s : Scan) (k : Key) (c before after : ℕ) → IsInside s k c → after ≤ before + 2 * k.level → after ≤ before + most_asks s k
unfolding most_asks
whole_asks s k c before after inside h =
    let width : end_slot k ≡ first_slot k + 2 ^ k.level = omega arith in
    let slots : 2 * k.level + 1 ≤ min s.end (end_slot k) - max s.from (first_slot k) =
    omega (arith, slots_up k.level inside.level, width, inside.from, inside.to) in
    omega (arith, h, asks_least (min s.end (end_slot k) - max s.from (first_slot k)) (most_cut s.from s.end k) (2 * k.level) slots)

-- the asks of a walk from the top
asks_most : (n c : ℕ) → asks_of n c ≤ n + c
asks_most zero c = omega arith
asks_most (suc n) c = omega arith

pub top_asks : (s : Scan) (n m before after : ℕ) (top : Key) → n ≡ m → top ≡ top_key n → after ≤ before + most_asks s top
    → after ≤ before + ((s.end - s.from) + 2 * height m)
unfolding most_asks
top_asks s n m before after top same is h =
    omega (
      arith,
      h,
      asks_most (min s.end (end_slot top) - max s.from (first_slot top)) (most_cut s.from s.end top),
      top_reads s.from s.end n m top same is,
    )
