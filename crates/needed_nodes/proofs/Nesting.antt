use Rattle.std.proofs.Common.{ℕ, ◌≡◌, ◌+◌, ◌-◌, ◌*◌, ◌/◌, ◌^◌, ◌<◌, ◌≤◌, Option, None, Some, sym, ◌∙◌, ap, arith, le_refl}
use Rattle.std.proofs.Math.Nat.{mul-le-mul_right, mul_assoc}
use Rattle.std.proofs.lemmas.Nat.{pow_pos, pow-add, div-mul-add}
use Rattle.om3_coeff.specs.declared.key.Key.{Key}
use Rattle.om3_coeff.specs.Keys.{first_slot, end_slot, left_of, right_of, IsAtOrAbove, IsOver}
use Rattle.om3_coeff.proofs.KeyLemmas.{by_lt, left_first, right_end, left_some, right_some, above_on, same_key}
use Rattle.needed_nodes.specs.Ranks.{IsBelow}

-- of two products with one factor the lesser one has the lesser other factor
lesser_factor : (a b p : ℕ) → a * p < b * p → a < b
lesser_factor a b p h = by_lt a b (λ less. less) (λ more. absurd (omega (arith, mul-le-mul_right {m = b} {n = a} p more)))

-- the range of a key has a slot
pub some_slot : (k : Key) → first_slot k < end_slot k
some_slot k = omega (arith, pow_pos k.level)

nest_numbers : (q d p r i : ℕ) → (q * d) * p ≤ i → i < ((q + 1) * d) * p → r * p ≤ i → i < (r + 1) * p → (q * d ≤ r) × (r + 1 ≤ (q + 1) * d)
nest_numbers q d p r i a b c e =
    let low : q * d < r + 1 = lesser_factor (q * d) (r + 1) p (omega arith) in
    let high : r < (q + 1) * d = lesser_factor r ((q + 1) * d) p (omega arith) in
    (omega arith, omega arith)

-- the width of a higher level by that of a lower one
widths : (j l : ℕ) → l ≤ j → 2 ^ j ≡ 2 ^ (j - l) * 2 ^ l
widths j l low = ap (λ n. 2 ^ n) (let e : j ≡ (j - l) + l = omega arith in e) ∙ pow-add 2 (j - l) l

wide_first : (q v d p : ℕ) → v ≡ d * p → q * v ≡ (q * d) * p
wide_first q v d p e = ap (λ n. q * n) e ∙ sym (mul_assoc q d p)

-- two keys whose ranges share a slot: the range of the lower one lies within that of the higher one
pub nests : (w k : Key) (i : ℕ) → k.level ≤ w.level → first_slot w ≤ i → i < end_slot w → first_slot k ≤ i → i < end_slot k → IsBelow w k
nests w k i lower a b c e =
    let d : ℕ = 2 ^ (w.level - k.level) in
    let p : ℕ = 2 ^ k.level in
    let width : 2 ^ w.level ≡ d * p = widths w.level k.level lower in
    let from : first_slot w ≡ (w.index * d) * p = wide_first w.index (2 ^ w.level) d p width in
    let to : end_slot w ≡ ((w.index + 1) * d) * p = wide_first (w.index + 1) (2 ^ w.level) d p width in
    let parts : (w.index * d ≤ k.index) × (k.index + 1 ≤ (w.index + 1) * d) =
    nest_numbers w.index d p k.index i (omega (arith, from)) (omega (arith, to)) c e in
    record {
      lower = lower;
      from = omega (arith, from, mul-le-mul_right {m = w.index * d} {n = k.index} p parts.0);
      to = omega (arith, to, mul-le-mul_right {m = k.index + 1} {n = (w.index + 1) * d} p parts.1);
    }

pub below_itself : (k : Key) → IsBelow k k
below_itself k = record { lower = le_refl k.level; from = le_refl (first_slot k); to = le_refl (end_slot k) }

pub below_on : (u w k : Key) → IsBelow u w → IsBelow w k → IsBelow u k
below_on u w k h g = record {
  lower = omega (arith, h.lower, g.lower);
  from = omega (arith, h.from, g.from);
  to = omega (arith, h.to, g.to);
}

-- the ranges of the halves
pub left_below : (k : Key) → 1 ≤ k.level → IsBelow k (left_of k)
left_below k low = record {
  lower = omega arith;
  from = omega (arith, left_first k low);
  to = omega (arith, right_some k low);
}

pub right_below : (k : Key) → 1 ≤ k.level → IsBelow k (right_of k)
right_below k low = record {
  lower = omega arith;
  from = omega (arith, left_some k low);
  to = omega (arith, right_end k low);
}

-- two keys of one level with a common slot are one
pub one_level : (w k : Key) (i : ℕ) → k.level ≡ w.level → first_slot w ≤ i → i < end_slot w → first_slot k ≤ i → i < end_slot k → k ≡ w
one_level w k i level a b c e =
    let p : ℕ = 2 ^ w.level in
    let power : 2 ^ k.level ≡ p = ap (λ n. 2 ^ n) level in
    let first : first_slot k ≡ k.index * p = ap (λ n. k.index * n) power in
    let end : end_slot k ≡ (k.index + 1) * p = ap (λ n. (k.index + 1) * n) power in
    let low : k.index < w.index + 1 = lesser_factor k.index (w.index + 1) p (omega (arith, first)) in
    let high : w.index < k.index + 1 = lesser_factor w.index (k.index + 1) p (omega (arith, end)) in
    same_key k w level (omega arith)

-- what lies below a key is the key, or lies below one of its halves
pub data BelowCase (w k : Key) : Type 0 where
  at_key : k ≡ w → BelowCase w k
  in_left : IsBelow (left_of w) k → BelowCase w k
  in_right : IsBelow (right_of w) k → BelowCase w k

pub below_cases : (w k : Key) → 1 ≤ w.level → IsBelow w k → BelowCase w k
below_cases w k low h =
    by_lt k.level w.level
    (λ less.
    by_lt (first_slot k) (end_slot (left_of w))
    (λ first. in_left (nests (left_of w) k (first_slot k) (omega arith) (omega (arith, h.from, left_first w low)) first
    (le_refl (first_slot k)) (some_slot k)))
    (λ second. in_right (nests (right_of w) k (first_slot k) (omega arith) second (omega (arith, right_end w low, h.to, some_slot k))
    (le_refl (first_slot k)) (some_slot k))))
    (λ more. at_key (one_level w k (first_slot k) (omega (arith, h.lower)) h.from (omega (arith, h.to, some_slot k))
    (le_refl (first_slot k)) (some_slot k)))

-- a key that lies below another one has it above it in the tree
quotient : (q d r : ℕ) → q * d ≤ r → r + 1 ≤ (q + 1) * d → r / d ≡ q
quotient q d r low high =
    ap (λ n. n / d) (let e : r ≡ q * d + (r - q * d) = omega arith in e) ∙ div-mul-add q d (r - q * d) (omega arith)

pub at_or_above : (w k : Key) → IsBelow w k → IsAtOrAbove w k
at_or_above w k h =
    let d : ℕ = 2 ^ (w.level - k.level) in
    let p : ℕ = 2 ^ k.level in
    let width : 2 ^ w.level ≡ d * p = widths w.level k.level h.lower in
    let from : first_slot w ≡ (w.index * d) * p = wide_first w.index (2 ^ w.level) d p width in
    let to : end_slot w ≡ ((w.index + 1) * d) * p = wide_first (w.index + 1) (2 ^ w.level) d p width in
    let parts : (w.index * d ≤ k.index) × (k.index + 1 ≤ (w.index + 1) * d) =
    nest_numbers w.index d p k.index (first_slot k) (omega (arith, from, h.from)) (omega (arith, to, h.to, some_slot k))
    (le_refl (first_slot k)) (some_slot k) in
    record { higher = h.lower; holds = quotient w.index d k.index parts.0 parts.1 }

-- a slot of a key's range, as a key
abbrev pub slot_key : ℕ → Key
slot_key i = record { level = 0; index = i }

pub slot_below : (w : Key) (i : ℕ) → first_slot w ≤ i → i < end_slot w → IsBelow w (slot_key i)
slot_below w i a b = record { lower = omega arith; from = omega arith; to = omega arith }

-- what was asked below a half was asked below the key
pub over_half : (k : Key) (asked : Option Key) → 1 ≤ k.level → IsOver (left_of k) asked → IsOver k asked
over_half k None low h = h
over_half k (Some a) low h = above_on k (left_of k) a (at_or_above k (left_of k) (left_below k low)) h

pub over_right : (k : Key) (asked : Option Key) → 1 ≤ k.level → IsOver (right_of k) asked → IsOver k asked
over_right k None low h = h
over_right k (Some a) low h = above_on k (right_of k) a (at_or_above k (right_of k) (right_below k low)) h
