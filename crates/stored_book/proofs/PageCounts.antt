-- A book counts the pages of a list level by level, a tree from its root down: both count the same.
use Rattle.std.proofs.Common.{◌≡◌, ℕ, ℤ, zero, suc, ◌+◌, ◌-◌, ◌*◌, ◌^◌, ◌<◌, ◌≤◌, Bool, false, cond, ◌||◌, is_some, List, [], ◌∷◌, length}
use Rattle.std.proofs.Common.{take, drop, Option, None, Some, refl, sym, ap, subst, arith, inl, inr, ◌∙◌}
use Rattle.std.specs.List.{list_any}
use Rattle.std.proofs.lemmas.Bool.{cases_lt}
use Rattle.std.proofs.lemmas.Bool.Decides.{nat_tests}
use Rattle.std.proofs.lemmas.Nat.{pow-add}
use Rattle.std.proofs.Math.Nat.{one-le-pow}
use Rattle.std.proofs.lemmas.List.{drop_all}
use Rattle.om3_coeff.specs.declared.span.Span.{Span}
use Rattle.om3_coeff.specs.Keys.{first_slot, end_slot, page_levels}
use Rattle.om3_coeff.specs.Spans.{hull, span_of_slot, span_of, span_over, span}
use Rattle.series_book.specs.declared.limits.TheConstants.{MOST_SLOTS}
use Rattle.series_book.specs.Pages as pages
use Rattle.series_book.specs.Pages.{count_below, range_has_value, ranges_with_value, level_pages, series_pages}
use Rattle.series_book.proofs.PageLemmas.{count_below-past, count_below-same, range_has_value-past, page_levels_is}
use Rattle.path_repair.specs.Sums.{sum_below}
use Rattle.tree_walk.specs.Trees.{top_of_page}
use Rattle.path_repair.specs.TreePages.{is_stored, page_count}
use Rattle.path_repair.proofs.SumLemmas.{sum_suc, sum_none}
use Rattle.path_repair.proofs.CountLemmas.{count_one, count_no, count_slots, truth, none_is, none_of}
use Rattle.path_repair.proofs.ListLemmas.{width, child_first, child_end, part_none}

-- both name the same number of page levels
one_level : (n : ℕ) → n ≤ 128 ^ 1 → page_levels n ≡ 1
unfolding page_levels
one_level n high = grind (arith, nat_tests)

two_levels : (n : ℕ) → 128 ^ 1 < n → n ≤ 128 ^ 2 → page_levels n ≡ 2
unfolding page_levels
two_levels n low high = grind (arith, nat_tests)

three_levels : (n : ℕ) → 128 ^ 2 < n → n ≤ 128 ^ 3 → page_levels n ≡ 3
unfolding page_levels
three_levels n low high = grind (arith, nat_tests)

four_levels : (n : ℕ) → 128 ^ 3 < n → n ≤ 128 ^ 4 → page_levels n ≡ 4
unfolding page_levels
four_levels n low high = grind (arith, nat_tests)

five_levels : (n : ℕ) → 128 ^ 4 < n → page_levels n ≡ 5
unfolding page_levels
five_levels n low = grind (arith, nat_tests)

one_below : (n i : ℕ) → i < 2 → 128 ^ 1 < n → 128 ^ i < n
one_below n zero few low = omega (arith, low)
one_below n (suc zero) few low = low
one_below n (suc (suc i)) few low = absurd (omega (arith, few))

two_below : (n i : ℕ) → i < 3 → 128 ^ 2 < n → 128 ^ i < n
two_below n zero few low = omega (arith, low)
two_below n (suc zero) few low = omega (arith, low)
two_below n (suc (suc zero)) few low = low
two_below n (suc (suc (suc i))) few low = absurd (omega (arith, few))

three_below : (n i : ℕ) → i < 4 → 128 ^ 3 < n → 128 ^ i < n
three_below n zero few low = omega (arith, low)
three_below n (suc zero) few low = omega (arith, low)
three_below n (suc (suc zero)) few low = omega (arith, low)
three_below n (suc (suc (suc zero))) few low = low
three_below n (suc (suc (suc (suc i)))) few low = absurd (omega (arith, few))

four_below : (n i : ℕ) → i < 5 → 128 ^ 4 < n → 128 ^ i < n
four_below n zero few low = omega (arith, low)
four_below n (suc zero) few low = omega (arith, low)
four_below n (suc (suc zero)) few low = omega (arith, low)
four_below n (suc (suc (suc zero))) few low = omega (arith, low)
four_below n (suc (suc (suc (suc zero)))) few low = low
four_below n (suc (suc (suc (suc (suc i))))) few low = absurd (omega (arith, few))

pub levels_same : (n : ℕ) → n ≤ MOST_SLOTS → pages.page_levels n ≡ page_levels n
levels_same n few = elim (cases_lt (128 ^ 1) n) [
  | inr one ↦ page_levels_is n 1 (omega arith) (omega arith) one (λ i from to. absurd (omega (arith, from, to))) ∙ sym (one_level n one)
  | inl past ↦ elim (cases_lt (128 ^ 2) n) [
    | inr two ↦ page_levels_is n 2 (omega arith) (omega arith) two (λ i from to. one_below n i to past) ∙ sym (two_levels n past two)
    | inl past' ↦ elim (cases_lt (128 ^ 3) n) [
      | inr three ↦ page_levels_is n 3 (omega arith) (omega arith) three (λ i from to. two_below n i to past')
          ∙ sym (three_levels n past' three)
      | inl past'' ↦ elim (cases_lt (128 ^ 4) n) [
        | inr four ↦ page_levels_is n 4 (omega arith) (omega arith) four (λ i from to. three_below n i to past'')
            ∙ sym (four_levels n past'' four)
        | inl past''' ↦ page_levels_is n 5 (omega arith) (omega arith) (omega (arith, few)) (λ i from to. four_below n i to past''')
            ∙ sym (five_levels n past''')
      ]
    ]
  ]
]

-- the slots of a list's levels are covered by one page of its highest
pub levels_cover : (n : ℕ) → n ≤ MOST_SLOTS → n ≤ 128 ^ page_levels n
levels_cover n few =
    let P : ℕ → Type 0 = λ k. n ≤ 128 ^ k in
    elim (cases_lt (128 ^ 1) n) [
      | inr one ↦ subst P (sym (one_level n one)) one
      | inl past ↦ elim (cases_lt (128 ^ 2) n) [
        | inr two ↦ subst P (sym (two_levels n past two)) two
        | inl past' ↦ elim (cases_lt (128 ^ 3) n) [
          | inr three ↦ subst P (sym (three_levels n past' three)) three
          | inl past'' ↦ elim (cases_lt (128 ^ 4) n) [
            | inr four ↦ subst P (sym (four_levels n past'' four)) four
            | inl past''' ↦ subst P (sym (five_levels n past''')) (omega (arith, few))
          ]
        ]
      ]
    ]

-- a list has a span where it stores something
some_hull : (a b : Option Span) → is_some (hull a b) ≡ (is_some a || is_some b)
some_hull None b = refl
some_hull (Some a) None = refl
some_hull (Some a) (Some b) = refl

pub some_slot : (slot : Option ℤ) → is_some (span_of_slot slot) ≡ is_some slot
some_slot None = refl
some_slot (Some v) = refl

some_any : (slots : List (Option ℤ)) → is_some (span_of slots) ≡ list_any is_some slots
some_any [] = refl
some_any (slot ∷ slots) =
    some_hull (span_of_slot slot) (span_of slots)
    ∙ ap (λ b. b || is_some (span_of slots)) (some_slot slot)
    ∙ ap (λ b. is_some slot || b) (some_any slots)

-- a page of a page level has so many slots
pub widths : (level : ℕ) → 2 ^ (7 * level) ≡ 128 ^ level
widths zero = refl
widths (suc level) =
    let one : suc level ≡ 1 + level = omega arith in
    width level ∙ ap (λ n. 128 * n) (widths level) ∙ sym (ap (λ n. 128 ^ n) one ∙ pow-add 128 1 level)

range_width : (q w : ℕ) → (q + 1) * w - q * w ≡ w
range_width q w = omega arith

-- the range of a page stores something for a tree where it does for a book
stored_range : (list : List (Option ℤ)) (level q : ℕ) → is_stored list level q ≡ range_has_value (128 ^ level) list q
unfolding range_has_value span_over
stored_range list level q =
    ap (λ w. is_some (span_of (take ((q + 1) * w - q * w) (drop (q * w) list)))) (widths level)
    ∙ ap (λ w. is_some (span_of (take w (drop (q * 128 ^ level) list)))) (range_width q (128 ^ level))
    ∙ some_any (take (128 ^ level) (drop (q * 128 ^ level) list))

-- where nothing is stored in a range there is nothing in its parts
part_not_stored : (list : List (Option ℤ)) (level q c : ℕ) → c < 128 → is_stored list (suc level) q ≡ false
    → is_stored list level (128 * q + c) ≡ false
part_not_stored list level q c within none =
    none_is (span list (top_of_page level (128 * q + c)))
    (part_none list (first_slot (top_of_page (suc level) q)) (end_slot (top_of_page (suc level) q))
    (first_slot (top_of_page level (128 * q + c))) (end_slot (top_of_page level (128 * q + c)))
    (child_first level q c) (child_end level q c within) (none_of (span list (top_of_page (suc level) q)) none))

pub sum_zero : (f : ℕ → ℕ) (n : ℕ) → ((c : ℕ) → c < n → f c ≡ 0) → sum_below f n ≡ 0
sum_zero f zero none = sum_none f
sum_zero f (suc n) none = omega (arith, sum_suc f n, sum_zero f n (λ c low. none c (omega (arith, low))), none n (omega arith))

not_stored_none : (list : List (Option ℤ)) (level q : ℕ) → is_stored list level q ≡ false → page_count list level q ≡ 0
not_stored_none list zero q none = count_slots (is_stored list) q
not_stored_none list (suc level) q none = count_no (is_stored list) level q none

-- a range has a page where something is stored, and those of its parts
count_step : (list : List (Option ℤ)) (level q : ℕ)
    → page_count list (suc level) q ≡ cond (is_stored list (suc level) q) 1 0 + sum_below (λ c. page_count list level (128 * q + c)) 128
count_step list level q = elim (truth (is_stored list (suc level) q)) [
  | inl is ↦ omega (arith, count_one (is_stored list) level q is, ap (λ b. cond {A = ℕ} b 1 0) is)
  | inr none ↦ omega (
    arith,
    count_no (is_stored list) level q none,
    ap (λ b. cond {A = ℕ} b 1 0) none,
    sum_zero (λ c. page_count list level (128 * q + c)) 128
        (λ c low. not_stored_none list level (128 * q + c) (part_not_stored list level q c low none)),
  )
]

-- the sum over the parts of some ranges is that over all parts
pub sum_add : (f : ℕ → ℕ) (m n : ℕ) → sum_below f (m + n) ≡ sum_below f m + sum_below (λ c. f (m + c)) n
sum_add f m zero =
    let none : m + 0 ≡ m = omega arith in
    omega (arith, ap (λ k. sum_below f k) none, sum_none (λ c. f (m + c)))
sum_add f m (suc n) =
    let next : m + suc n ≡ suc (m + n) = omega arith in
    omega (arith, ap (λ k. sum_below f k) next, sum_suc f (m + n), sum_suc (λ c. f (m + c)) n, sum_add f m n)

pub sum_parts : (f : ℕ → ℕ) (n : ℕ) → sum_below (λ q. sum_below (λ c. f (128 * q + c)) 128) n ≡ sum_below f (128 * n)
sum_parts f zero = sum_none (λ q. sum_below (λ c. f (128 * q + c)) 128) ∙ sym (sum_none f)
sum_parts f (suc n) =
    let next : 128 * suc n ≡ 128 * n + 128 = omega arith in
    omega (
      arith,
      sum_suc (λ q. sum_below (λ c. f (128 * q + c)) 128) n,
      sum_parts f n,
      sum_add f (128 * n) 128,
      ap (λ k. sum_below f k) next,
    )

-- the pages of the first ranges of a page level: those of the level itself, and those of their parts
rows_step : (list : List (Option ℤ)) (level n : ℕ)
    → sum_below (λ q. page_count list (suc level) q) n ≡ count_below (is_stored list (suc level)) n + sum_below
    (λ q. page_count list level q) (128 * n)
unfolding count_below
rows_step list level zero =
    let none : 128 * 0 ≡ 0 = refl in
    omega (
      arith,
      sum_none (λ q. page_count list (suc level) q),
      sum_none (λ q. page_count list level q),
      ap (λ k. sum_below (λ q. page_count list level q) k) none,
    )
rows_step list level (suc n) =
    omega (
      arith,
      rows_step list level n,
      sum_suc (λ q. page_count list (suc level) q) n,
      count_step list level n,
      sum_parts (λ q. page_count list level q) (suc n),
      sum_parts (λ q. page_count list level q) n,
      sum_suc (λ q. sum_below (λ c. page_count list level (128 * q + c)) 128) n,
    )

-- a count depends on the numbers that pass alone
count_upto : (p : ℕ → Bool) (a b : ℕ) → a ≤ b → ((q : ℕ) → a ≤ q → p q ≡ false) → count_below p b ≡ count_below p a
count_upto p a b fits past =
    let sum : (b - a) + a ≡ b = omega (arith, fits) in
    ap (λ n. count_below p n) (sym sum) ∙ count_below-past p a (b - a) past

count_stable : (p : ℕ → Bool) (a b : ℕ) → ((q : ℕ) → a ≤ q → p q ≡ false) → ((q : ℕ) → b ≤ q → p q ≡ false)
    → count_below p a ≡ count_below p b
count_stable p a b past past' = elim (cases_lt a b) [
  | inl less ↦ sym (count_upto p a b (omega (arith, less)) past)
  | inr more ↦ count_upto p b a more past'
]

no_slots : (size : ℕ) → list_any is_some (take size (let none : List (Option ℤ) = [] in none)) ≡ false
no_slots zero = refl
no_slots (suc size) = refl

-- no range behind those that hold the list has a value
range_far : (size : ℕ) (list : List (Option ℤ)) (n q : ℕ) → length list ≤ n * size → n ≤ q → range_has_value size list q ≡ false
unfolding range_has_value
range_far size list n q holds past =
    ap (λ xs. list_any is_some (take size xs)) (drop_all (q * size) list (far size n q (length list) holds past)) ∙ no_slots size
  where
    far : (size n q l : ℕ) → l ≤ n * size → n ≤ q → l ≤ q * size
    far size n q l holds past =
        let sum : n + (q - n) ≡ q = omega (arith, past) in
        omega (arith, holds, ap (λ k. k * size) sum)

-- the ranges of a page level with a stored value
ranges_same : (list : List (Option ℤ)) (level n : ℕ) → length list ≤ n * 128 ^ level
    → count_below (is_stored list level) n ≡ ranges_with_value (128 ^ level) list
unfolding ranges_with_value
ranges_same list level n holds =
    count_below-same (is_stored list level) (range_has_value (128 ^ level) list) n (λ q low. stored_range list level q)
    ∙ count_stable (range_has_value (128 ^ level) list) n (length list)
    (λ q past. range_far (128 ^ level) list n q holds past)
    (λ q past. range_has_value-past (128 ^ level) list q (omega (arith, one-le-pow level 128 (omega arith))) past)

part_sizes : (n level : ℕ) → n * 128 ^ suc level ≡ (128 * n) * 128 ^ level
part_sizes n level =
    let one : suc level ≡ 1 + level = omega arith in
    ap (λ p. n * p) (ap (λ k. 128 ^ k) one ∙ pow-add 128 1 level) ∙ product n (128 ^ level)
  where
    product : (n p : ℕ) → n * (128 ^ 1 * p) ≡ (128 * n) * p
    product n p = omega arith

-- the pages of ranges that hold the list are those of its levels
rows_are_levels : (list : List (Option ℤ)) (level n : ℕ) → length list ≤ n * 128 ^ level
    → sum_below (λ q. page_count list level q) n ≡ level_pages level list
unfolding level_pages
rows_are_levels list zero n holds = sum_zero (λ q. page_count list 0 q) n (λ q low. count_slots (is_stored list) q)
rows_are_levels list (suc level) n holds =
    omega (
      arith,
      rows_step list level n,
      ranges_same list (suc level) n holds,
      rows_are_levels list level (128 * n) (omega (arith, holds, part_sizes n level)),
    )

-- a list needs as many pages for its tree as for its book
pub counts_same : (list : List (Option ℤ)) → length list ≤ MOST_SLOTS → page_count list (page_levels (length list)) 0 ≡ series_pages list
unfolding series_pages
counts_same list few =
    let top = page_levels (length list) in
    omega (
      arith,
      rows_are_levels list top 1 (omega (arith, levels_cover (length list) few)),
      sum_suc (λ q. page_count list top q) 0,
      sum_none (λ q. page_count list top q),
      ap (λ k. level_pages k list) (levels_same (length list) few),
    )
