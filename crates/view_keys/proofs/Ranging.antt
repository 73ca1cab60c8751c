-- Keys and the slots of their ranges.
use Rattle.std.proofs.Common.{pow_pos, ℕ, suc, ◌≡◌, ◌+◌, ◌-◌, ◌*◌, ◌/◌, ◌^◌, ◌<◌, ◌≤◌, refl, sym, ap, ◌∙◌, arith, subst}
use Rattle.std.proofs.Math.Nat.{div-mul-le_self, lt-div-mul-add, le-div_iff_mul-le, lt_of_mul-lt-mul_right, div-div-eq-div-mul}
use Rattle.std.proofs.lemmas.Nat.{pow-add}
use Rattle.om3_coeff.specs.declared.key.Key.{Key}
use Rattle.om3_coeff.specs.Keys.{first_slot, end_slot, parent_of, IsAtOrAbove}
use Rattle.view_keys.specs.Ranges.{IsInRange}

-- a power of two isn't 0
pub power-some : (n : ℕ) → 0 < 2 ^ n
power-some n = pow_pos n

more : (n P i : ℕ) → i < n * P + P → i < (n + 1) * P
more n P i h = omega (arith, h)

-- the number of the range that holds i, of ranges of this size
pub index-of : (q P i : ℕ) → 0 < P → q * P ≤ i → i < (q + 1) * P → i / P ≡ q
index-of q P i some low high =
    let a : q ≤ i / P = (le-div_iff_mul-le some).1 low in
    let b : i / P * P ≤ i = div-mul-le_self i P in
    let c : i / P < q + 1 = lt_of_mul-lt-mul_right P (omega (arith, b, high)) in
    omega (arith, a, c)

pub range-of : (q P i : ℕ) → 0 < P → i / P ≡ q → (q * P ≤ i) × (i < (q + 1) * P)
range-of q P i some is = subst (λ (n : ℕ). (n * P ≤ i) × (i < (n + 1) * P)) is
    (div-mul-le_self i P, more (i / P) P i (lt-div-mul-add some))

-- a slot of a key's range has the key's index
pub in_range-index : (k : Key) (i : ℕ) → IsInRange k i → i / 2 ^ k.level ≡ k.index
in_range-index k i r = index-of k.index (2 ^ k.level) i (power-some k.level) r.from r.to

pub index-in_range : (k : Key) (i : ℕ) → i / 2 ^ k.level ≡ k.index → IsInRange k i
index-in_range k i is =
    let b = range-of k.index (2 ^ k.level) i (power-some k.level) is in
    record { from = b.0; to = b.1 }

-- dividing by a power and then by another
pub powers-divide : (i a b : ℕ) → a ≤ b → i / 2 ^ a / 2 ^ (b - a) ≡ i / 2 ^ b
powers-divide i a b low =
    div-div-eq-div-mul i (2 ^ a) (2 ^ (b - a))
    ∙ ap (λ p. i / p) (sym (pow-add 2 a (b - a)) ∙ ap (λ n. 2 ^ n) (omega (arith, low)))

-- a key above another one has its slots
pub above-in_range : (w k : Key) (i : ℕ) → IsAtOrAbove w k → IsInRange k i → IsInRange w i
above-in_range w k i above r =
    index-in_range w i (sym (powers-divide i k.level w.level above.higher) ∙ ap (λ q. q / 2 ^ (w.level - k.level)) (in_range-index k i r)
    ∙ above.holds)

-- of two keys that share a slot the one of the higher level lies above
pub shared-above : (w k : Key) (i : ℕ) → k.level ≤ w.level → IsInRange w i → IsInRange k i → IsAtOrAbove w k
shared-above w k i low in_w in_k = record {
  higher = low;
  holds =
      ap (λ q. q / 2 ^ (w.level - k.level)) (sym (in_range-index k i in_k))
      ∙ powers-divide i k.level w.level low ∙ in_range-index w i in_w;
}

-- the key of a level that holds slot i, and that of the slot itself
abbrev pub key_at : ℕ → ℕ → Key
key_at level i = record { level = level; index = i / 2 ^ level }

pub key_at-in_range : (level i : ℕ) → IsInRange (key_at level i) i
key_at-in_range level i = index-in_range (key_at level i) i refl

abbrev pub slot_key : ℕ → Key
slot_key i = record { level = 0; index = i }

pub slot_key-in_range : (i : ℕ) → IsInRange (slot_key i) i
slot_key-in_range i = record { from = omega arith; to = omega arith }

pub slot_key-is : (i j : ℕ) → IsInRange (slot_key i) j → j ≡ i
slot_key-is i j r = omega (arith, r.from, r.to)

-- a key by its level and index
abbrev pub make_key : ℕ → ℕ → Key
make_key level index = record { level = level; index = index }

pub key-same : (a b : Key) → a.level ≡ b.level → a.index ≡ b.index → a ≡ b
key-same a b level index = ap (λ l. make_key l a.index) level ∙ ap (λ i. make_key b.level i) index

-- the key above another one
pub half-index : (k : Key) → k.index / 2 ^ (suc k.level - k.level) ≡ k.index / 2
half-index k =
    let e : suc k.level - k.level ≡ 1 = omega arith in
    ap (λ n. k.index / 2 ^ n) e

pub parent-above : (k : Key) → IsAtOrAbove (parent_of k) k
parent-above k = record { higher = omega arith; holds = half-index k }

-- the first and the last slot of a key's range lie in it
pub first-in_range : (k : Key) → IsInRange k (first_slot k)
first-in_range k = record { from = omega arith; to = omega (arith, power-some k.level) }

pub last-in_range : (k : Key) → IsInRange k (end_slot k - 1)
last-in_range k = record { from = omega (arith, power-some k.level); to = omega (arith, power-some k.level) }
