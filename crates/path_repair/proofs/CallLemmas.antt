-- How many pages the calls read and put.
use Rattle.std.proofs.Common.{◌≡◌, ℕ, ◌+◌, ◌*◌, ◌^◌, ◌<◌, ◌≤◌, max, refl, ap, arith, inl, inr, ◌∙◌}
use Rattle.std.proofs.lemmas.Bool.{cases_lt}
use Rattle.std.proofs.Math.Nat.{pow-le-pow_right}
use Rattle.om3_coeff.specs.Keys.{page_levels, end_slot}
use Rattle.om3_coeff.proofs.KeyLemmas.{levels_1, levels_2, levels_3, levels_4, levels_5}
use Rattle.tree_walk.specs.Trees.{top_of_page}
use Rattle.path_repair.specs.Costs.{touch}
use Rattle.path_repair.specs.Keeping.{count_most}
use Rattle.path_repair.proofs.EditLemmas.{levels_more, levels_few, levels_some}
use Rattle.path_repair.proofs.DamageLemmas.{root_top}
use Rattle.path_repair.proofs.ReadLemmas.{count_less}
use Rattle.path_repair.proofs.TouchLemmas.{touch_one, touch_wide, touch_lower, touch_behind}

pub same_touch : (first end height level height' level' : ℕ) → height' ≡ height → level' ≡ level
    → touch first end height' level' 0 ≡ touch first end height level 0
same_touch first end height level height' level' is_height is_level = ap (λ h. touch first end h level' 0) is_height
    ∙ ap (λ l. touch first end height l 0) is_level

-- the first pass reads at most the touched pages of the old tree
pub first_reads : (page first end height level height' level' : ℕ) → height' ≡ height → level' ≡ level → height ≤ level
    → count_most page first end height' level' 0 ≤ touch first end height height 0
first_reads page first end height level height' level' is_height is_level less =
    omega (
      arith,
      count_less page first end height' level' 0,
      ap (λ l. touch first end height' l 0) (root_top height' level' (omega (arith, is_height, is_level, less))),
      same_touch first end height height height' height' is_height is_height,
    )

pub max_first : (a b : ℕ) → a ≤ max a b
max_first a b = grind arith

max_past : (a b n : ℕ) → max a b ≡ n → a < n → n ≡ b
max_past a b n is past = grind (arith, is, past)

-- both passes read at most twice what the change touches
pub twice : (first end slots len : ℕ) → slots ≤ len
    → touch first end (page_levels slots) (page_levels slots) 0 + touch first end (page_levels slots)
    (page_levels len) 0 ≤ 2 * touch first end (page_levels slots) (page_levels len) 0
twice first end slots len more = omega (arith, touch_lower first end (page_levels slots) (page_levels len) (levels_more slots len more))

-- fewer page levels don't hold more slots
at_least : (n j k : ℕ) → 2 ^ (7 * j) < n → n ≤ 2 ^ (7 * k) → j < k
at_least n j k past within = elim (cases_lt j k) [
  | inl less ↦ less
  | inr more ↦ absurd (omega (arith, past, within, pow-le-pow_right {n = 2} (omega arith) {i = 7 * k} {j = 7 * j} (omega (arith, more))))
]

levels_fit : (n k : ℕ) → 1 ≤ k → n ≤ 2 ^ (7 * k) → page_levels n ≤ k
levels_fit n k some within = elim (cases_lt 128 n) [
  | inr one ↦ omega (arith, levels_1 n one, some)
  | inl past ↦ elim (cases_lt 16384 n) [
    | inr two ↦ omega (arith, levels_2 n past two, at_least n 1 k past within)
    | inl past ↦ elim (cases_lt 2097152 n) [
      | inr three ↦ omega (arith, levels_3 n past three, at_least n 2 k past within)
      | inl past ↦ elim (cases_lt 268435456 n) [
        | inr four ↦ omega (arith, levels_4 n past four, at_least n 3 k past within)
        | inl past ↦ omega (arith, levels_5 n past, at_least n 4 k past within)
      ]
    ]
  ]
]

levels_past : (n k : ℕ) → 1 ≤ k → k < page_levels n → 2 ^ (7 * k) < n
levels_past n k some more = elim (cases_lt (2 ^ (7 * k)) n) [
  | inl past ↦ past
  | inr within ↦ absurd (omega (arith, more, levels_fit n k some within))
]

-- a slot that a tree grows for lies behind the old one
behind : (slots slot : ℕ) → page_levels slots < page_levels (max slots (slot + 1)) → end_slot (top_of_page (page_levels slots) 0) ≤ slot
behind slots slot more = elim (cases_lt slots (max slots (slot + 1))) [
  | inl past ↦
      let is : max slots (slot + 1) ≡ slot + 1 = max_past slots (slot + 1) (max slots (slot + 1)) refl past in
      let beyond : 2 ^ (7 * page_levels slots) < slot + 1 = levels_past (slot + 1) (page_levels slots) (levels_some slots)
      (omega (arith, more, ap (λ n. page_levels n) is)) in
      omega (arith, beyond)
  | inr same ↦ absurd (omega (arith, more, levels_more (max slots (slot + 1)) slots same))
]

-- one slot: a read a page level in each pass
pub slot_reads : (slots slot : ℕ) → touch slot (slot + 1) (page_levels slots) (page_levels slots) 0 + touch slot (slot + 1)
    (page_levels slots) (page_levels (max slots (slot + 1))) 0 ≤ 2 * page_levels (max slots (slot + 1))
slot_reads slots slot =
    let h = page_levels slots in
    let k = page_levels (max slots (slot + 1)) in
    elim (cases_lt h k) [
      | inl more ↦ omega (arith, touch_behind slot (slot + 1) h (behind slots slot more), touch_one slot h k)
      | inr same ↦ omega (
        arith,
        touch_one slot h h,
        touch_one slot h k,
        levels_more slots (max slots (slot + 1)) (max_first slots (slot + 1)),
        same,
      )
    ]

pub slot_puts : (slots slot : ℕ) → touch slot (slot + 1) (page_levels slots) (page_levels (max slots (slot + 1))) 0 ≤ 2 * page_levels
    (max slots (slot + 1))
slot_puts slots slot = omega (arith, touch_one slot (page_levels slots) (page_levels (max slots (slot + 1))))

pub run_puts : (first n slots len : ℕ) → n ≤ 256 → touch first (first + n) (page_levels slots)
    (page_levels len) 0 ≤ 30 + 2 * page_levels len
run_puts first n slots len few =
    omega (
      arith,
      touch_wide 3 first (first + n) n (page_levels slots) (page_levels len) (omega arith) (omega arith) (omega (arith, few))
          (omega (arith, few)),
      levels_few len,
    )

pub clear_puts : (first n slots : ℕ) → n ≤ 4096 → touch first (first + n) (page_levels slots)
    (page_levels slots) 0 ≤ 30 + 2 * page_levels slots
clear_puts first n slots few =
    omega (
      arith,
      touch_wide 33 first (first + n) n (page_levels slots) (page_levels slots) (omega arith) (omega arith) few
          (omega (arith, few)),
    )
