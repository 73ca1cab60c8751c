use Rattle.std.proofs.Common.{ℕ, suc, ℤ, ◌≡◌, ◌+◌, ◌-◌, ◌*◌, ◌/◌, ◌%◌, ◌^◌, ◌<◌, ◌≤◌, inl, inr, List, sym, ◌∙◌, ap, ap₂, arith, lit<}
use Rattle.std.proofs.Math.Nat.{pow-succ', div-one, div-mul-le_self, mul_assoc, mul-le-mul_right, pow-le-pow_right}
use Rattle.std.proofs.lemmas.Nat.{pow_pos, pow-add, shr-shr, shr_below, shr_split, mod_below}
use Rattle.std.proofs.lemmas.Bool.{cases_lt}
use Rattle.std.proofs.lemmas.Bool.Decides.{nat_tests}
use Rattle.std.specs.Prelude.{Option}
use Rattle.om3_coeff.specs.declared.key.Key.{Key}
use Rattle.om3_coeff.specs.Keys.{first_slot, end_slot, left_of, right_of, parent_of, page_levels, height, IsKey, IsNode, IsAtOrAbove}
use Rattle.om3_coeff.specs.Spans.{hull, span, span_over}
use Rattle.om3_coeff.proofs.SpanLemmas.{span_over-both}

-- two cases of two numbers
pub by_lt : {P : Type 0} (a b : ℕ) → (a < b → P) → (b ≤ a → P) → P
by_lt a b less more = elim (cases_lt a b) [ inl h ↦ less h | inr h ↦ more h ]

-- twice the width of a level is that of the next
pub double : (l : ℕ) → 1 ≤ l → 2 ^ l ≡ 2 * 2 ^ (l - 1)
double l low =
    let up : l ≡ suc (l - 1) = omega arith in ap (λ n. 2 ^ n) up ∙ pow-succ' 2 (l - 1)

halves_first : (q p w : ℕ) → w ≡ 2 * p → (2 * q) * p ≡ q * w
halves_first q p w e = ap (λ n. (2 * q) * p) e ∙ omega (arith, ap (λ n. q * n) e)

halves_end : (q p w : ℕ) → w ≡ 2 * p → (2 * q + 1 + 1) * p ≡ (q + 1) * w
halves_end q p w e = omega (arith, ap (λ n. (q + 1) * n) e)

-- the ranges of a key's halves make up its own
pub left_first : (k : Key) → 1 ≤ k.level → first_slot (left_of k) ≡ first_slot k
left_first k low = halves_first k.index (2 ^ (k.level - 1)) (2 ^ k.level) (double k.level low)

pub right_end : (k : Key) → 1 ≤ k.level → end_slot (right_of k) ≡ end_slot k
right_end k low = halves_end k.index (2 ^ (k.level - 1)) (2 ^ k.level) (double k.level low)

middle_above : (q p w : ℕ) → w ≡ 2 * p → 0 < p → q * w < (2 * q + 1) * p
middle_above q p w e some = omega (arith, ap (λ n. q * n) e)

middle_below : (q p w : ℕ) → w ≡ 2 * p → 0 < p → (2 * q + 1) * p < (q + 1) * w
middle_below q p w e some = omega (arith, ap (λ n. (q + 1) * n) e)

-- both halves have slots
pub left_some : (k : Key) → 1 ≤ k.level → first_slot k < end_slot (left_of k)
left_some k low = middle_above k.index (2 ^ (k.level - 1)) (2 ^ k.level) (double k.level low) (pow_pos (k.level - 1))

pub right_some : (k : Key) → 1 ≤ k.level → end_slot (left_of k) < end_slot k
right_some k low = middle_below k.index (2 ^ (k.level - 1)) (2 ^ k.level) (double k.level low) (pow_pos (k.level - 1))

-- the spans of the halves make that of the key
pub span_halves : (list : List (Option ℤ)) (k : Key) → 1 ≤ k.level → span list k ≡ hull (span list (left_of k)) (span list (right_of k))
span_halves list k low =
    let from : first_slot k ≤ end_slot (left_of k) = omega (arith, left_some k low) in
    let to : end_slot (left_of k) ≤ end_slot k = omega (arith, right_some k low) in
    span_over-both list (first_slot k) (end_slot (left_of k)) (end_slot k) from to
    ∙ ap₂ (λ (a b : ℕ). hull (span_over list a (end_slot (left_of k))) (span_over list (end_slot (left_of k)) b))
    (sym (left_first k low)) (sym (right_end k low))

-- a tree has at most 35 levels
pub height_few : (n : ℕ) → height n ≤ 35
unfolding page_levels
height_few n = grind (arith, nat_tests)

pub height_some : (n : ℕ) → 7 ≤ height n
unfolding page_levels
height_some n = grind (arith, nat_tests)

-- the page levels, by the number of slots
pub levels_1 : (n : ℕ) → n ≤ 128 → page_levels n ≡ 1
unfolding page_levels
levels_1 n to = grind (arith, nat_tests)

pub levels_2 : (n : ℕ) → 128 < n → n ≤ 16384 → page_levels n ≡ 2
unfolding page_levels
levels_2 n from to = grind (arith, nat_tests)

pub levels_3 : (n : ℕ) → 16384 < n → n ≤ 2097152 → page_levels n ≡ 3
unfolding page_levels
levels_3 n from to = grind (arith, nat_tests)

pub levels_4 : (n : ℕ) → 2097152 < n → n ≤ 268435456 → page_levels n ≡ 4
unfolding page_levels
levels_4 n from to = grind (arith, nat_tests)

pub levels_5 : (n : ℕ) → 268435456 < n → page_levels n ≡ 5
unfolding page_levels
levels_5 n from = grind (arith, nat_tests)

-- a page more is needed past what fewer hold
pub levels_least : (n j k : ℕ) → 128 ^ j < n → n ≤ 128 ^ k → j < k
levels_least n j k past covered =
    by_lt j k (λ less. less) (λ more. absurd (omega (arith, pow-le-pow_right {n = 128} (lit< tt) {i = k} {j = j} more)))

covers_by : (n k : ℕ) → page_levels n ≡ k → n ≤ 2 ^ (7 * k) → n ≤ 2 ^ height n
covers_by n k e h = omega (arith, ap (λ j. 2 ^ (7 * j)) e)

pub height_covers : (n : ℕ) → n ≤ 2 ^ 35 → n ≤ 2 ^ height n
height_covers n few =
    by_lt 128 n
    (λ past.
    by_lt 16384 n
    (λ past.
    by_lt 2097152 n
    (λ past. by_lt 268435456 n (λ past. covers_by n 5 (levels_5 n past) few) (λ to. covers_by n 4 (levels_4 n past to) to))
    (λ to. covers_by n 3 (levels_3 n past to) to))
    (λ to. covers_by n 2 (levels_2 n past to) to))
    (λ to. covers_by n 1 (levels_1 n to) to)

-- a key's range ends within the width of the tree
pub end_within : (top : ℕ) (k : Key) → k.level ≤ top → k.index < 2 ^ (top - k.level) → end_slot k ≤ 2 ^ top
end_within top k high within =
    let parts : 2 ^ (top - k.level) * 2 ^ k.level ≡ 2 ^ top =
    sym (pow-add 2 (top - k.level) k.level) ∙ ap (λ n. 2 ^ n) (omega arith) in
    omega (arith, mul-le-mul_right {m = k.index + 1} {n = 2 ^ (top - k.level)} (2 ^ k.level) (omega arith), parts)

-- a range that ends below 2^63 is of a low level
pub level_small : (q l : ℕ) → (q + 1) * 2 ^ l < 2 ^ 63 → l < 63
level_small q l h =
    by_lt l 63 (λ low. low)
    (λ high. absurd (omega (
      arith,
      h,
      pow-le-pow_right {n = 2} (lit< tt) {i = 63} {j = l} high,
      mul-le-mul_right {m = 1} {n = q + 1} (2 ^ l) (omega arith),
    )))

-- a key's halves have it as their parent
pub left_parent : (k : Key) → 1 ≤ k.level → parent_of (left_of k) ≡ k
left_parent k low =
    ap₂ (λ (level index : ℕ). let p : Key = record { level = level; index = index } in p) (omega arith) (omega arith)

pub right_parent : (k : Key) → 1 ≤ k.level → parent_of (right_of k) ≡ k
right_parent k low =
    ap₂ (λ (level index : ℕ). let p : Key = record { level = level; index = index } in p) (omega arith) (omega arith)

-- a key is one of its parent's halves
pub even_half : (k : Key) → k.index % 2 ≡ 0 → left_of (parent_of k) ≡ k
even_half k even =
    ap₂ (λ (level index : ℕ). let p : Key = record { level = level; index = index } in p) (omega arith) (omega arith)

pub odd_half : (k : Key) → k.index % 2 ≡ 1 → right_of (parent_of k) ≡ k
odd_half k odd =
    ap₂ (λ (level index : ℕ). let p : Key = record { level = level; index = index } in p) (omega arith) (omega arith)

-- each key lies at or below itself and below its parent, and what lies above lies above what is below
pub above_itself : (k : Key) → IsAtOrAbove k k
above_itself k = record {
  higher = omega arith;
  holds = let none : k.level - k.level ≡ 0 = omega arith in ap (λ n. k.index / 2 ^ n) none ∙ div-one k.index;
}

pub parent_above : (k : Key) → IsAtOrAbove (parent_of k) k
parent_above k = record {
  higher = omega arith;
  holds = let one : suc k.level - k.level ≡ 1 = omega arith in ap (λ n. k.index / 2 ^ n) one;
}

pub above_on : (u w k : Key) → IsAtOrAbove u w → IsAtOrAbove w k → IsAtOrAbove u k
above_on u w k h g = record {
  higher = omega (arith, h.higher, g.higher);
  holds =
      let steps : (w.level - k.level) + (u.level - w.level) ≡ u.level - k.level = omega (arith, h.higher, g.higher) in
      ap (λ n. k.index / 2 ^ n) (sym steps)
      ∙ sym (shr-shr k.index (w.level - k.level) (u.level - w.level))
      ∙ ap (λ n. n / 2 ^ (u.level - w.level)) g.holds
      ∙ h.holds;
}

-- the parent of a key of the tree is a node of it
pub parent_within : (top : ℕ) (k : Key) → k.level < top → k.index < 2 ^ (top - k.level) → k.index / 2 < 2 ^ (top - suc k.level)
parent_within top k low within =
    let widths : 2 ^ ((top - suc k.level) + 1) ≡ 2 ^ (top - k.level) = ap (λ n. 2 ^ n) (omega arith) in
    shr_below k.index (top - suc k.level) 1 (omega (arith, widths, within))

half_widths : (q w v : ℕ) → v ≡ 2 * w → q < w → 2 * q + 1 < v
half_widths q w v e h = omega arith

-- the halves of a node are keys of the tree
pub half_within : (top : ℕ) (k : Key) → IsNode top k → 2 * k.index + 1 < 2 ^ (top - (k.level - 1))
half_within top k node =
    let up : top - (k.level - 1) ≡ suc (top - k.level) = omega (arith, node.low, node.high) in
    half_widths k.index (2 ^ (top - k.level)) (2 ^ (top - (k.level - 1))) (ap (λ n. 2 ^ n) up ∙ pow-succ' 2 (top - k.level)) node.within

pub left_key : (top : ℕ) (k : Key) → IsNode top k → IsKey top (left_of k)
left_key top k node = record { high = omega (arith, node.high); within = omega (arith, half_within top k node) }

pub right_key : (top : ℕ) (k : Key) → IsNode top k → IsKey top (right_of k)
right_key top k node = record { high = omega (arith, node.high); within = half_within top k node }

-- two keys of one level and one index
pub same_key : (w k : Key) → w.level ≡ k.level → w.index ≡ k.index → w ≡ k
same_key w k e f = ap₂ (λ (level index : ℕ). let p : Key = record { level = level; index = index } in p) e f

-- a range holds those of the keys below
range_from : (q g l : ℕ) → (q / 2 ^ g) * 2 ^ (g + l) ≤ q * 2 ^ l
range_from q g l =
    let parts : (q / 2 ^ g) * 2 ^ (g + l) ≡ (q / 2 ^ g) * 2 ^ g * 2 ^ l =
    ap (λ n. (q / 2 ^ g) * n) (pow-add 2 g l) ∙ sym (mul_assoc (q / 2 ^ g) (2 ^ g) (2 ^ l)) in
    omega (arith, parts, mul-le-mul_right {m = (q / 2 ^ g) * 2 ^ g} {n = q} (2 ^ l) (div-mul-le_self q (2 ^ g)))

range_to : (q g l : ℕ) → (q + 1) * 2 ^ l ≤ (q / 2 ^ g + 1) * 2 ^ (g + l)
range_to q g l =
    let parts : (q / 2 ^ g + 1) * 2 ^ (g + l) ≡ (q / 2 ^ g + 1) * 2 ^ g * 2 ^ l =
    ap (λ n. (q / 2 ^ g + 1) * n) (pow-add 2 g l) ∙ sym (mul_assoc (q / 2 ^ g + 1) (2 ^ g) (2 ^ l)) in
    let more : q + 1 ≤ (q / 2 ^ g + 1) * 2 ^ g = omega (arith, shr_split q g, mod_below q (2 ^ g) (pow_pos g)) in
    omega (arith, parts, mul-le-mul_right {m = q + 1} {n = (q / 2 ^ g + 1) * 2 ^ g} (2 ^ l) more)

above_levels : (w k : Key) → IsAtOrAbove w k → (w.level - k.level) + k.level ≡ w.level
above_levels w k h = omega (arith, h.higher)

pub first_above : (w k : Key) → IsAtOrAbove w k → first_slot w ≤ first_slot k
first_above w k h =
    let e : (k.index / 2 ^ (w.level - k.level)) * 2 ^ ((w.level - k.level) + k.level) ≡ first_slot w =
    ap₂ (λ q l. q * 2 ^ l) h.holds (above_levels w k h) in
    omega (arith, e, range_from k.index (w.level - k.level) k.level)

pub end_above : (w k : Key) → IsAtOrAbove w k → end_slot k ≤ end_slot w
end_above w k h =
    let e : (k.index / 2 ^ (w.level - k.level) + 1) * 2 ^ ((w.level - k.level) + k.level) ≡ end_slot w =
    ap₂ (λ q l. (q + 1) * 2 ^ l) h.holds (above_levels w k h) in
    omega (arith, e, range_to k.index (w.level - k.level) k.level)

pub slot_first : (k : Key) → k.level ≡ 0 → first_slot k ≡ k.index
slot_first k at_zero = let width : 2 ^ k.level ≡ 1 = ap (λ n. 2 ^ n) at_zero in omega (arith, ap (λ n. k.index * n) width)

pub slot_end : (k : Key) → k.level ≡ 0 → end_slot k ≡ k.index + 1
slot_end k at_zero = let width : 2 ^ k.level ≡ 1 = ap (λ n. 2 ^ n) at_zero in omega (arith, ap (λ n. (k.index + 1) * n) width)
