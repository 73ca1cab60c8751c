-- How many pages a change passes at most: on each page level those ranges are counted that it touches, which stand
-- in a row, and the new root.
use Rattle.std.proofs.Common.{◌≡◌, ℕ, zero, suc, ◌+◌, ◌-◌, ◌*◌, ◌/◌, ◌%◌, ◌^◌, ◌<◌, ◌≤◌, ◌||◌, ◌&&◌, ◌==◌, nat_le, nat_lt, if◌then◌else◌}
use Rattle.std.proofs.Common.{true, false, cond, refl, sym, ap, subst, arith, inl, inr, ◌∙◌}
use Rattle.std.proofs.lemmas.Bool.{cases_lt, and_parts, or_cases, ltb-true, eqb-true, le-leb, lt-leb, lt-ltb, le-ltb}
use Rattle.std.proofs.lemmas.Nat.{pow_pos, shr_split, div_below}
use Rattle.std.proofs.Math.Nat.{pow-le-pow_right}
use Rattle.om3_coeff.specs.Keys.{first_slot, end_slot}
use Rattle.tree_walk.specs.Trees.{top_of_page}
use Rattle.path_repair.specs.Sums.{sum_below}
use Rattle.path_repair.specs.Costs.{is_touched, is_new_root, touch}
use Rattle.path_repair.proofs.SumLemmas.{sum_upto}
use Rattle.path_repair.proofs.CountLemmas.{truth}
use Rattle.path_repair.proofs.MoveLemmas.{touch_suc}

pub touch_slots : (first end height index : ℕ) → touch first end height 0 index ≡ 0
unfolding touch
touch_slots first end height index = refl

pub touch_none : (first end height level index : ℕ)
    → (is_touched first end (suc level) index || is_new_root height (suc level) index) ≡ false
    → touch first end height (suc level) index ≡ 0
unfolding touch
touch_none first end height level index none = ap (λ b. cond b
    (suc (sum_below (λ child. touch first end height level (128 * index + child)) 128)) 0) none

-- a number, or the most that it may be
abbrev cap : ℕ → ℕ → ℕ
cap most n = if nat_le n most then n else most

cap_low : (most n : ℕ) → n ≤ most → cap most n ≡ n
cap_low most n low = ap (λ b. cond b n most) (le-leb n most low)

cap_high : (most n : ℕ) → most < n → cap most n ≡ most
cap_high most n high = ap (λ b. cond b n most) (lt-leb n most high)

cap_most : (most n : ℕ) → cap most n ≤ most
cap_most most n = elim (cases_lt most n) [
  | inl high ↦ omega (arith, cap_high most n high)
  | inr low ↦ omega (arith, cap_low most n low, low)
]

cap_more : (most a b : ℕ) → a ≤ b → cap most a ≤ cap most b
cap_more most a b less = elim (cases_lt most b) [
  | inl high ↦ omega (arith, cap_high most b high, cap_most most a)
  | inr low ↦ omega (arith, cap_low most b low, cap_low most a (omega (arith, less, low)), less)
]

cap_step : (most n : ℕ) → n < most → cap most n + 1 ≤ cap most (n + 1)
cap_step most n low = omega (arith, cap_low most n (omega (arith, low)), cap_low most (n + 1) (omega (arith, low)))

cap_one : (most a b : ℕ) → b ≤ a + 1 → cap most b ≤ cap most a + 1
cap_one most a b less = elim (cases_lt most a) [
  | inl high ↦ omega (arith, cap_high most a high, cap_most most b)
  | inr low ↦ elim (cases_lt most b) [
    | inl past ↦ omega (arith, cap_low most a low, cap_high most b past, past, less)
    | inr under ↦ omega (arith, cap_low most a low, cap_low most b under, less)
  ]
]

-- the new root of a page level
abbrev root : ℕ → ℕ → ℕ
root height level = if nat_lt height level then 1 else 0

root_one : (height level : ℕ) → height < level → root height level ≡ 1
root_one height level above = ap (λ b. cond b 1 0) (lt-ltb height level above)

root_none : (height level : ℕ) → level ≤ height → root height level ≡ 0
root_none height level below = ap (λ b. cond b 1 0) (le-ltb height level below)

roots : (height level : ℕ) → root height (suc level) + (level - height) ≤ suc level - height
roots height level = elim (cases_lt height (suc level)) [
  | inl above ↦ omega (arith, root_one height (suc level) above, above)
  | inr below ↦ omega (arith, root_none height (suc level) below, below)
]

-- So many ranges of a page level are counted below an index at most: each one that is passed is.
record IsRank (rank : ℕ → ℕ → ℕ) (first end height : ℕ) : Type 0 where
  more : (level a b : ℕ) → a ≤ b → rank level a ≤ rank level b
  step : (level index : ℕ) → (is_touched first end (suc level) index || is_new_root height (suc level) index) ≡ true
      → rank (suc level) index + 1 ≤ rank (suc level) (index + 1)

-- so many of a page level and of those below it
abbrev ranks : (ℕ → ℕ → ℕ) → ℕ → ℕ → ℕ
ranks rank zero index = 0
ranks rank (suc level) index = rank (suc level) index + ranks rank level (128 * index)

ranks_more : (rank : ℕ → ℕ → ℕ) (first end height level a b : ℕ) → IsRank rank first end height → a ≤ b
    → ranks rank level a ≤ ranks rank level b
ranks_more rank first end height zero a b is less = omega arith
ranks_more rank first end height (suc level) a b is less = omega (
  arith,
  is.more (suc level) a b less,
  ranks_more rank first end height level (128 * a) (128 * b) is (omega (arith, less)),
)

sum_ranks : (f g : ℕ → ℕ) (base n : ℕ) → ((q : ℕ) → f q + g q ≤ g (q + 1)) → sum_below (λ c. f (base + c)) n + g base ≤ g (base + n)
unfolding sum_below
sum_ranks f g base zero each = omega (arith, ap g (none base))
  where
    none : (b : ℕ) → b + 0 ≡ b
    none b = omega arith
sum_ranks f g base (suc n) each = omega (arith, sum_ranks f g base n each, each (base + n), ap g (next base n))
  where
    next : (b n : ℕ) → b + n + 1 ≡ b + suc n
    next b n = omega arith

touch_ranks : (rank : ℕ → ℕ → ℕ) (first end height level index : ℕ) → IsRank rank first end height
    → touch first end height level index + ranks rank level index ≤ ranks rank level (index + 1)
touch_ranks rank first end height zero index is = omega (arith, touch_slots first end height index)
touch_ranks rank first end height (suc level) index
    is = elim (truth (is_touched first end (suc level) index || is_new_root height (suc level) index)) [
      | inl passed ↦
          let children = sum_ranks (λ q. touch first end height level q) (λ q. ranks rank level q) (128 * index) 128
          (λ q. touch_ranks rank first end height level q is) in
          omega (
            arith,
            touch_suc first end height level index passed,
            children,
            is.step level index passed,
            ap (λ q. ranks rank level q) (next index),
          )
      | inr none ↦ omega (
        arith,
        touch_none first end height level index none,
        ranks_more rank first end height (suc level) index (index + 1) is (omega arith),
      )
    ]
  where
    next : (i : ℕ) → 128 * i + 128 ≡ 128 * (i + 1)
    next i = omega arith

-- so many on the page levels up to this one
abbrev total : (ℕ → ℕ) → ℕ → ℕ
total width zero = 0
total width (suc level) = width (suc level) + total width level

ranks_most : (rank : ℕ → ℕ → ℕ) (width : ℕ → ℕ) (level index : ℕ) → ((l i : ℕ) → rank l i ≤ rank l 0 + width l)
    → ranks rank level index ≤ ranks rank level 0 + total width level
ranks_most rank width zero index high = omega arith
ranks_most rank width (suc level) index high = omega (arith, high (suc level) index, ranks_most rank width level (128 * index) high)

touch_top : (rank : ℕ → ℕ → ℕ) (width : ℕ → ℕ) (first end height level top : ℕ) → IsRank rank first end height
    → ((l i : ℕ) → rank l i ≤ rank l 0 + width l) → rank (suc level) 1 ≤ rank (suc level) 0 + top
    → touch first end height (suc level) 0 ≤ top + total width level
touch_top rank width first end height level top is high one =
    omega (arith, touch_ranks rank first end height (suc level) 0 is, one, ranks_most rank width level 128 high)

-- growth alone

abbrev roots_rank : ℕ → ℕ → ℕ → ℕ
roots_rank height level index = root height level * cap 1 index

roots_step : (height level index : ℕ) → is_new_root height (suc level) index ≡ true → (index ≡ 0) × (height < suc level)
unfolding is_new_root
roots_step height level index new =
    let parts = and_parts (index == 0) (nat_lt height (suc level)) new in
    (eqb-true index 0 parts.0, ltb-true height (suc level) parts.1)

roots_more : (height level a b : ℕ) → a ≤ b → roots_rank height level a ≤ roots_rank height level b
roots_more height level a b less = elim (cases_lt height level) [
  | inl above ↦ omega (
    arith,
    ap (λ n. n * cap 1 a) (root_one height level above),
    ap (λ n. n * cap 1 b) (root_one height level above),
    cap_more 1 a b less,
  )
  | inr below ↦ omega (arith, ap (λ n. n * cap 1 a) (root_none height level below))
]

roots_one : (height level index : ℕ) → is_new_root height (suc level) index ≡ true
    → roots_rank height (suc level) index + 1 ≤ roots_rank height (suc level) (index + 1)
roots_one height level index new =
    let is = roots_step height level index new in
    let one = root_one height (suc level) is.1 in
    let P : ℕ → Type 0 = λ i. roots_rank height (suc level) i + 1 ≤ roots_rank height (suc level) (i + 1) in
    subst P (sym is.0) (omega (arith, ap (λ n. n * cap 1 0) one, ap (λ n. n * cap 1 1) one))

roots_high : (height level index : ℕ) → roots_rank height level index ≤ root height level
roots_high height level index = elim (cases_lt height level) [
  | inl above ↦ omega (arith, ap (λ n. n * cap 1 index) (root_one height level above), root_one height level above, cap_most 1 index)
  | inr below ↦ omega (arith, ap (λ n. n * cap 1 index) (root_none height level below))
]

not_touched : (level index : ℕ) → is_touched 0 0 level index ≡ false
unfolding is_touched
not_touched level index = refl

growth_rank : (height : ℕ) → IsRank (roots_rank height) 0 0 height
growth_rank height = record {
  more = λ level a b less. roots_more height level a b less;
  step = λ level index passed. roots_one height level index
      (ap (λ b. b || is_new_root height (suc level) index) (sym (not_touched (suc level) index)) ∙ passed);
}

total_roots : (height level : ℕ) → total (root height) level ≤ level - height
total_roots height zero = omega arith
total_roots height (suc level) = omega (arith, total_roots height level, roots height level)

pub touch_growth : (height level : ℕ) → touch 0 0 height level 0 ≤ level - height
touch_growth height zero = omega (arith, touch_slots 0 0 height 0)
touch_growth height (suc level) =
    omega (
      arith,
      touch_top (roots_rank height) (root height) 0 0 height level (root height (suc level)) (growth_rank height)
          (λ l i. omega (arith, roots_high height l i)) (omega (arith, roots_high height (suc level) 1)),
      total_roots height level,
      roots height level,
    )

-- slots in a row

-- of a page level, the first range that is touched, and at most so many behind it
abbrev run_rank : (ℕ → ℕ) → ℕ → ℕ → ℕ → ℕ → ℕ
run_rank width first height level index = cap (width level) (index - first / 2 ^ (7 * level)) + roots_rank height level index

touched_parts : (first end level index : ℕ) → is_touched first end level index ≡ true
    → (first < end) × (first < end_slot (top_of_page level index)) × (first_slot (top_of_page level index) < end)
unfolding is_touched
touched_parts first end level index touched =
    let outer = and_parts (nat_lt first end) (nat_lt first (end_slot (top_of_page level index))
    && nat_lt (first_slot (top_of_page level index)) end) touched in
    let inner = and_parts (nat_lt first (end_slot (top_of_page level index))) (nat_lt (first_slot (top_of_page level index)) end) outer.1 in (
      ltb-true first end outer.0,
      ltb-true first (end_slot (top_of_page level index)) inner.0,
      ltb-true (first_slot (top_of_page level index)) end inner.1,
    )

le_times : (a b w : ℕ) → a ≤ b → a * w ≤ b * w
le_times a b w less =
    let whole : a + (b - a) ≡ b = omega (arith, less) in
    let sum : (a + (b - a)) * w ≡ a * w + (b - a) * w = omega arith in
    omega (arith, sum, ap (λ n. n * w) whole)

-- a range so many behind the first touched one begins behind the slots
run_within : (first end n most from d w : ℕ) → end ≤ first + n → n + w ≤ most * w + 1 → first < (from + 1) * w → (from + d) * w < end
    → d < most
run_within first end n most from d w run wide low high = elim (cases_lt d most) [
  | inl is ↦ is
  | inr past ↦
      let up : most * w ≤ d * w = le_times most d w past in
      let sum : (from + d) * w ≡ from * w + d * w = omega arith in
      let one : (from + 1) * w ≡ from * w + w = omega arith in
      absurd (omega (arith, run, wide, low, high, up, sum, one))
]

-- the ranges of each page level from the first touched one on that begin before the end are no more than so many
abbrev IsWide : (ℕ → ℕ) → ℕ → ℕ → Type 0
IsWide width first end = (level d : ℕ) → (first / 2 ^ (7 * suc level) + d) * 2 ^ (7 * suc level) < end → d < width (suc level)

above_first : (first k : ℕ) → first < (first / 2 ^ k + 1) * 2 ^ k
above_first first k =
    let sum : (first / 2 ^ k + 1) * 2 ^ k ≡ first / 2 ^ k * 2 ^ k + 2 ^ k = omega arith in
    omega (arith, sum, shr_split first k, mod_small first k)
  where
    mod_small : (n k : ℕ) → n % 2 ^ k < 2 ^ k
    mod_small n k = omega (arith, pow_pos k)

run_step : (width : ℕ → ℕ) (first end height level index : ℕ) → IsWide width first end → is_touched first end (suc level) index ≡ true
    → run_rank width first height (suc level) index + 1 ≤ run_rank width first height (suc level) (index + 1)
run_step width first end height level index wide touched =
    let w = 2 ^ (7 * suc level) in
    let from = first / w in
    let parts = touched_parts first end (suc level) index touched in
    let low : from < index + 1 = div_below first w (index + 1) (pow_pos (7 * suc level)) parts.1 in
    let at : from + (index - from) ≡ index = omega (arith, low) in
    let ends : (from + (index - from)) * w < end = omega (arith, ap (λ i. i * w) at, parts.2) in
    let few : index - from < width (suc level) = wide level (index - from) ends in
    let next : index + 1 - from ≡ index - from + 1 = omega (arith, low) in
    omega (
      arith,
      cap_step (width (suc level)) (index - from) few,
      ap (λ d. cap (width (suc level)) d) next,
      roots_more height (suc level) index (index + 1) (omega arith),
    )

run_is : (width : ℕ → ℕ) (first end height : ℕ) → IsWide width first end → IsRank (run_rank width first height) first end height
run_is width first end height wide = record {
  more = λ level a b less. omega (
    arith,
    cap_more (width level) (a - first / 2 ^ (7 * level)) (b - first / 2 ^ (7 * level))
        (omega (arith, less)),
    roots_more height level a b less,
  );
  step = λ level index passed. elim (or_cases (is_touched first end (suc level) index) (is_new_root height (suc level) index) passed) [
    | inl touched ↦ run_step width first end height level index wide touched
    | inr new ↦ omega (
      arith,
      roots_one height level index new,
      cap_more (width (suc level)) (index - first / 2 ^ (7 * suc level)) (index + 1 - first / 2 ^ (7 * suc level)) (omega arith),
    )
  ];
}

run_high : (width : ℕ → ℕ) (first height level index : ℕ)
    → run_rank width first height level index ≤ run_rank width first height level 0 + (width level + root height level)
run_high width first height level index = omega (
  arith,
  cap_most (width level) (index - first / 2 ^ (7 * level)),
  roots_high height level index,
)

run_top : (width : ℕ → ℕ) (first height level : ℕ) → run_rank width first height level 1 ≤ run_rank width first height level
    0 + (1 + root height level)
run_top width first height level = omega (
  arith,
  cap_one (width level) (0 - first / 2 ^ (7 * level)) (1 - first / 2 ^ (7 * level))
      (omega arith),
  roots_high height level 1,
)

touch_rows : (width : ℕ → ℕ) (first end height level : ℕ) → IsWide width first end
    → touch first end height (suc level) 0 ≤ 1 + root height (suc level) + total (λ l. width l + root height l) level
touch_rows width first end height level wide =
    touch_top (run_rank width first height) (λ l. width l + root height l) first end height level (1 + root height (suc level))
    (run_is width first end height wide) (λ l i. run_high width first height l i) (run_top width first height (suc level))

-- so many slots in a row
touch_run : (width : ℕ → ℕ) (first end n height level : ℕ) → end ≤ first + n
    → ((level : ℕ) → n + 2 ^ (7 * suc level) ≤ width (suc level) * 2 ^ (7 * suc level) + 1)
    → touch first end height (suc level) 0 ≤ 1 + root height (suc level) + total (λ l. width l + root height l) level
touch_run width first end n height level run wide =
    touch_rows width first end height level
    (λ l d low. run_within first end n (width (suc l)) (first / 2 ^ (7 * suc l)) d (2 ^ (7 * suc l)) run (wide l)
    (above_first first (7 * suc l)) low)

-- one slot lies in one range of a page level
total_one : (height level : ℕ) → total (λ l. 1 + root height l) level ≤ level + (level - height)
total_one height zero = omega arith
total_one height (suc level) = omega (arith, total_one height level, roots height level)

pub touch_one : (first height level : ℕ) → touch first (first + 1) height level 0 ≤ level + (level - height)
touch_one first height zero = omega (arith, touch_slots first (first + 1) height 0)
touch_one first height (suc level) =
    omega (
      arith,
      touch_run (λ l. 1) first (first + 1) 1 height level (omega arith) (λ l. omega arith),
      total_one height level,
      roots height level,
    )

-- slots that lie in at most so many ranges of page level 1, and in two of each above it
abbrev wide_at : ℕ → ℕ → ℕ
wide_at most level = if nat_le level 1 then most else 2

wide_first : (most : ℕ) → wide_at most 1 ≡ most
wide_first most = refl

wide_later : (most level : ℕ) → wide_at most (suc (suc level)) ≡ 2
wide_later most level = ap (λ b. cond b most 2) (lt-leb (suc (suc level)) 1 (omega arith))

total_wide : (most height level : ℕ) → 2 ≤ most → total (λ l. wide_at most l + root height l)
    (suc level) ≤ most + 2 * level + (suc level - height)
total_wide most height zero some = omega (arith, roots height 0, wide_first most)
total_wide most height (suc level) some = omega (arith, total_wide most height level some, wide_later most level, roots height (suc level))

two_wide : (n level : ℕ) → n ≤ 4096 → n + 2 ^ (7 * suc (suc level)) ≤ 2 * 2 ^ (7 * suc (suc level)) + 1
two_wide n level few =
    let small : 2 ^ 14 ≤ 2 ^ (7 * suc (suc level)) = pow-le-pow_right {n = 2} (omega arith) {i = 14} {j = 7 * suc (suc level)}
    (omega arith) in
    omega (arith, few, small)

wide_is : (most n level : ℕ) → n ≤ 4096 → n + 128 ≤ most * 128 + 1
    → n + 2 ^ (7 * suc level) ≤ wide_at most (suc level) * 2 ^ (7 * suc level) + 1
wide_is most n zero few fits = fits
wide_is most n (suc level) few fits = omega (arith, two_wide n level few, ap (λ c. c * 2 ^ (7 * suc (suc level))) (wide_later most level))

pub touch_wide : (most first end n height level : ℕ) → 3 ≤ most → end ≤ first + n → n ≤ 4096 → n + 128 ≤ most * 128 + 1
    → touch first end height level 0 + 3 ≤ most + 2 * level + (level - height)
touch_wide most first end n height zero some run few fits = omega (arith, touch_slots first end height 0, some)
touch_wide most first end n height (suc zero) some run few fits =
    omega (arith, touch_run (wide_at most) first end n height 0 run (λ l. wide_is most n l few fits), roots height 0, some)
touch_wide most first end n height (suc (suc level)) some run few fits =
    omega (
      arith,
      touch_run (wide_at most) first end n height (suc level) run (λ l. wide_is most n l few fits),
      total_wide most height level (omega (arith, some)),
      roots height (suc level),
    )

-- slots from a first to a last one: how many ranges of a page level they lie in, but one
abbrev spread : ℕ → ℕ → ℕ → ℕ
spread first last level = last / 2 ^ (7 * level) - first / 2 ^ (7 * level)

spread_wide : (first last : ℕ) → IsWide (λ l. 1 + spread first last l) first (last + 1)
spread_wide first last level d low =
    let w = 2 ^ (7 * suc level) in
    elim (cases_lt (last / w) (first / w + d)) [
      | inl past ↦ absurd (omega (
        arith,
        low,
        le_times (last / w + 1) (first / w + d) w (omega (arith, past)),
        above_first last (7 * suc level),
      ))
      | inr within ↦ omega (arith, within)
    ]

total_spread : (first last height level : ℕ) → total (λ l. 1 + spread first last l + root height l) level ≤ level + total
    (spread first last) level + (level - height)
total_spread first last height zero = omega arith
total_spread first last height (suc level) = omega (arith, total_spread first last height level, roots height level)

touch_spread : (first last height level : ℕ) → touch first (last + 1) height level 0 ≤ level + total
    (spread first last) level + (level - height)
touch_spread first last height zero = omega (arith, touch_slots first (last + 1) height 0)
touch_spread first last height (suc level) =
    omega (
      arith,
      touch_rows (λ l. 1 + spread first last l) first (last + 1) height level (spread_wide first last),
      total_spread first last height level,
      roots height level,
    )

total_more : (width : ℕ → ℕ) (level n : ℕ) → total width level ≤ total width (n + level)
total_more width level zero = omega (arith, ap (λ k. total width k) (same level))
  where
    same : (k : ℕ) → k ≡ 0 + k
    same k = omega arith
total_more width level (suc n) = omega (arith, total_more width level n, ap (λ k. total width k) (next n level))
  where
    next : (n k : ℕ) → suc (n + k) ≡ suc n + k
    next n k = omega arith

-- on each of five page levels, in so many ranges more than one
pub touch_five : (first last height level : ℕ) → level ≤ 5
    → touch first (last + 1) height level 0
    ≤ level + (level - height) + ((last / 2 ^ 7 - first / 2 ^ 7) + (last / 2 ^ 14 - first / 2 ^ 14) + (last / 2 ^ 21 - first / 2 ^
    21) + (last / 2 ^ 28 - first / 2 ^ 28) + (last / 2 ^ 35 - first / 2 ^ 35))
touch_five first last height level few =
    let all : (5 - level) + level ≡ 5 = omega (arith, few) in
    omega (
      arith,
      touch_spread first last height level,
      total_more (spread first last) level (5 - level),
      ap (λ n. total (spread first last) n) all,
    )

-- a tree that grows is passed in more pages

new_root : (height level : ℕ) → height < level → is_new_root height level 0 ≡ true
unfolding is_new_root
new_root height level above = lt-ltb height level above

passed_root : (first end height level : ℕ) → height < suc level
    → (is_touched first end (suc level) 0 || is_new_root height (suc level) 0) ≡ true
passed_root first end height level above = grind (arith, new_root height (suc level) above)

pub touch_lower : (first end height level : ℕ) → height ≤ level → touch first end height height 0 ≤ touch first end height level 0
touch_lower first end height zero less =
    let same : height ≡ 0 = omega (arith, less) in
    omega (arith, ap (λ l. touch first end height l 0) same)
touch_lower first end height (suc level) less = elim (cases_lt height (suc level)) [
  | inl above ↦
      omega (
        arith,
        touch_lower first end height level (omega (arith, above)),
        touch_suc first end height level 0 (passed_root first end height level above),
        sum_upto (λ child. touch first end height level (128 * 0 + child)) 0 128 (omega arith),
      )
  | inr at ↦
      let same : height ≡ suc level = omega (arith, less, at) in
      omega (arith, ap (λ l. touch first end height l 0) same)
]

-- no page of a tree is passed for a slot behind its range

untouched_root : (first end height level : ℕ) → end_slot (top_of_page level 0) ≤ first → is_touched first end level 0 ≡ false
unfolding is_touched
untouched_root first end height level past = elim (truth (is_touched first end level 0)) [
  | inl touched ↦ absurd (omega (arith, (touched_parts first end level 0 touched).1, past))
  | inr none ↦ none
]

old_root : (level : ℕ) → is_new_root level level 0 ≡ false
unfolding is_new_root
old_root level = le-ltb level level (omega arith)

pub touch_behind : (first end height : ℕ) → end_slot (top_of_page height 0) ≤ first → touch first end height height 0 ≡ 0
touch_behind first end zero past = touch_slots first end 0 0
touch_behind first end (suc level) past = touch_none first end (suc level) level 0
    (grind (arith, untouched_root first end (suc level) (suc level) past, old_root (suc level)))
