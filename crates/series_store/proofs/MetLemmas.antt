-- How many pages meet a piece of a window.
use Rattle.std.proofs.Common.{◌≡◌, ◌≢◌, ℕ, zero, suc, ◌+◌, ◌-◌, ◌*◌, ◌/◌, ◌^◌, ◌<◌, ◌≤◌, min, Bool, true, refl, ap, subst, arith, inl, inr}
use Rattle.std.proofs.Common.{◌∙◌}
use Rattle.std.proofs.lemmas.Bool.{cases_lt, cases_Bool, cases_eq}
use Rattle.std.proofs.lemmas.Nat.{pow-add}
use Rattle.std.proofs.Math.Nat.{mul-le-mul_right}
use Rattle.path_repair.specs.Sums.{sum_below}
use Rattle.path_repair.specs.TreePages.{count_where}
use Rattle.path_repair.proofs.CountLemmas.{count_one, count_no, count_slots}
use Rattle.path_repair.proofs.SumLemmas.{sum_suc, sum_none}
use Rattle.stored_book.proofs.PageCounts.{sum_zero}
use Rattle.series_store.specs.Windows.{IsPiece, meets, pages_met}
use Rattle.series_store.proofs.WindowLemmas.{Meets, is_met}

-- a sum of which one term at most isn't 0
sum_one : (f : ℕ → ℕ) (n most : ℕ) → ((a b : ℕ) → f a ≢ 0 → f b ≢ 0 → a ≡ b) → ((a : ℕ) → f a ≤ most) → sum_below f n ≤ most
sum_one f zero most one few = omega (arith, sum_none f)
sum_one f (suc n) most one few = elim (cases_eq (f n) 0) [
  | inl none ↦ omega (arith, sum_suc f n, none, sum_one f n most one few)
  | inr some ↦
      let others : sum_below f n ≡ 0 = sum_zero f n (λ a low. elim (cases_eq (f a) 0) [
        | inl none ↦ none
        | inr more ↦ absurd (omega (arith, low, one a n more some))
      ]) in
      omega (arith, sum_suc f n, others, few n)
]

-- a sum of which 32 terms at most, one behind the other, aren't 0, and are 1
sum_some : (f : ℕ → ℕ) (base low n : ℕ) → ((a : ℕ) → f a ≤ 1) → ((a : ℕ) → f a ≢ 0 → (low ≤ base + a) × (base + a < low + 32))
    → sum_below f n ≤ min (base + n) (low + 32) - low
sum_some f base low zero few within = omega (arith, sum_none f)
sum_some f base low (suc n) few within = elim (cases_eq (f n) 0) [
  | inl none ↦ omega (arith, sum_suc f n, none, sum_some f base low n few within)
  | inr some ↦
      let here = within n some in
      omega (arith, sum_suc f n, few n, sum_some f base low n few within, here.0, here.1)
]

-- where a range has a page it is so
counted : (has : ℕ → ℕ → Bool) (level index : ℕ) → count_where has (suc level) index ≢ 0 → has (suc level) index ≡ true
counted has level index some = elim (cases_Bool (has (suc level) index)) [
  | inl is ↦ is
  | inr none ↦ absurd (some (count_no has level index none))
]

-- what its children have
below_most : (has : ℕ → ℕ → Bool) (level index most : ℕ) → sum_below (λ child. count_where has level (128 * index + child)) 128 ≤ most
    → count_where has (suc level) index ≤ suc most
below_most has level index most few = elim (cases_Bool (has (suc level) index)) [
  | inl is ↦ omega (arith, count_one has level index is, few)
  | inr none ↦ omega (arith, count_no has level index none)
]

lowest_one : (has : ℕ → ℕ → Bool) (index : ℕ) → count_where has 1 index ≤ 1
lowest_one has index = below_most has 0 index 0 (omega (
  arith,
  sum_zero (λ child. count_where has 0 (128 * index + child)) 128 (λ child low. count_slots has (128 * index + child)),
))

-- a page of 128 slots that meets a piece
slots_met : (from to index : ℕ) → IsPiece from to → Meets from to 1 index → (32 * (from / 4096) ≤ index) × (index < 32 * (from / 4096) + 32)
slots_met from to index piece met =
    let wide : 2 ^ (7 * 1) ≡ 128 = refl in
    let first : index * 128 < to = subst (λ (p : ℕ). index * p < to) wide met.first in
    let end : from < (index + 1) * 128 = subst (λ (p : ℕ). from < (index + 1) * p) wide met.end in
    (omega (arith, end), omega (arith, first, piece))

second_most : (from to index : ℕ) → IsPiece from to → pages_met from to 2 index ≤ 33
second_most from to index piece =
    let f : ℕ → ℕ = λ child. count_where (meets from to) 1 (128 * index + child) in
    let few = sum_some f (128 * index) (32 * (from / 4096)) 128 (λ a. lowest_one (meets from to) (128 * index + a))
    (λ a some. slots_met from to (128 * index + a) piece
    (is_met from to 1 (128 * index + a) (counted (meets from to) 0 (128 * index + a) some))) in
    below_most (meets from to) 1 index 32 (omega (arith, few))

-- one page at most of a level above that meets a piece
wide_page : (level : ℕ) → 2 ^ (7 * suc (suc level)) ≡ 16384 * 2 ^ (7 * level)
wide_page level =
    let sum : 7 * suc (suc level) ≡ 14 + 7 * level = omega arith in
    let front : 2 ^ 14 ≡ 16384 = refl in
    ap (λ n. 2 ^ n) sum ∙ pow-add 2 14 (7 * level) ∙ ap (λ n. n * 2 ^ (7 * level)) front

apart : (i j r c from to : ℕ) → suc i ≤ j → 4096 * c ≤ from → to ≤ 4096 * c + 4096 → from < (i + 1) * (16384 * r) → j * (16384 * r) < to → ⊥
apart i j r c from to order low high end first = omega (arith, low, high, end, first, mul-le-mul_right r order)

one_page : (from to level i j : ℕ) → IsPiece from to → Meets from to (suc (suc level)) i → Meets from to (suc (suc level)) j → i ≡ j
one_page from to level i j piece here there =
    let r = 2 ^ (7 * level) in
    let wide = wide_page level in
    let low : 4096 * (from / 4096) ≤ from = omega arith in
    let first : (k : ℕ) → Meets from to (suc (suc level)) k
    → k * (16384 * r) < to = λ k met. subst (λ (p : ℕ). k * p < to) wide met.first in
    let end : (k : ℕ) → Meets from to (suc (suc level)) k
    → from < (k + 1) * (16384 * r) = λ k met. subst (λ (p : ℕ). from < (k + 1) * p) wide met.end in
    elim (cases_lt i j) [
      | inl less ↦ absurd (apart i j r (from / 4096) from to (omega (arith, less)) low piece (end i here) (first j there))
      | inr more ↦
          elim (cases_lt j i) [
            | inl less ↦ absurd (apart j i r (from / 4096) from to (omega (arith, less)) low piece (end j there) (first i here))
            | inr same ↦ omega (arith, more, same)
          ]
    ]

higher_most : (from to level index : ℕ) → IsPiece from to → pages_met from to (suc (suc level)) index ≤ 33 + level
higher_most from to zero index piece = omega (arith, second_most from to index piece)
higher_most from to (suc level) index piece =
    let f : ℕ → ℕ = λ child. count_where (meets from to) (suc (suc level)) (128 * index + child) in
    let met : (a : ℕ) → f a ≢ 0 → Meets from to (suc (suc level)) (128 * index + a) = λ a some. is_met from to (suc (suc level))
    (128 * index + a) (counted (meets from to) (suc level) (128 * index + a) some) in
    let few = sum_one f 128 (33 + level) (λ a b some more. omega (
      arith,
      one_page from to level (128 * index + a) (128 * index + b) piece (met a some) (met b more),
    ))
    (λ a. higher_most from to level (128 * index + a) piece) in
    omega (arith, below_most (meets from to) (suc (suc level)) index (33 + level) few)

-- a piece of a window meets 36 pages of a tree at most: 32 that hold slots, and 4 above them
pub most_met : (from to level index : ℕ) → level ≤ 5 → IsPiece from to → pages_met from to level index ≤ 36
most_met from to zero index low piece = omega (arith, count_slots (meets from to) index)
most_met from to (suc zero) index low piece = omega (arith, lowest_one (meets from to) index)
most_met from to (suc (suc level)) index low piece = omega (arith, low, higher_most from to level index piece)
