-- A series whose slots are the first of another's has no more pages.
use Rattle.std.proofs.Common.{◌≡◌, ℕ, ℤ, zero, suc, ◌+◌, ◌-◌, ◌*◌, ◌^◌, ◌≤◌, Bool, true, false, cond, List, [], ◌∷◌, ◌++◌, length, take}
use Rattle.std.proofs.Common.{drop, Option, None, Some, refl, ap, arith, length-append}
use Rattle.std.specs.Option.{is_some}
use Rattle.std.specs.List.{list_any}
use Rattle.series_book.specs.declared.limits.TheConstants.{PAGE_SLOTS, MOST_SLOTS}
use Rattle.series_book.specs.Pages.{count_below, range_has_value, ranges_with_value, level_pages, page_levels, series_pages}
use Rattle.path_repair.proofs.EditLemmas.{levels_more}
use Rattle.stored_book.proofs.PageCounts.{levels_same}

-- a stored value among the first slots stays there with more slots behind
any_more : (n : ℕ) (xs ys : List (Option ℤ)) → list_any is_some (take n xs) ≡ true → list_any is_some (take n (xs ++ ys)) ≡ true
any_more zero [] ys is = absurd (cc)
any_more zero (x ∷ xs) ys is = absurd (cc)
any_more (suc n) [] ys is = absurd (cc)
any_more (suc n) (None ∷ xs) ys is = any_more n xs ys is
any_more (suc n) (Some v ∷ xs) ys is = refl

nothing : (n : ℕ) → list_any is_some (take n (let none : List (Option ℤ) = [] in none)) ≡ false
nothing zero = refl
nothing (suc n) = refl

range_more : (m n : ℕ) (xs ys : List (Option ℤ)) → list_any is_some (take n (drop m xs)) ≡ true
    → list_any is_some (take n (drop m (xs ++ ys))) ≡ true
range_more zero n [] ys is = let none = nothing n in absurd (cc)
range_more (suc m) n [] ys is = let none = nothing n in absurd (cc)
range_more zero n (x ∷ xs) ys is = any_more n (x ∷ xs) ys is
range_more (suc m) n (x ∷ xs) ys is = range_more m n xs ys is

has_more : (size : ℕ) (xs ys : List (Option ℤ)) (q : ℕ) → range_has_value size xs q ≡ true → range_has_value size (xs ++ ys) q ≡ true
unfolding range_has_value
has_more size xs ys q is = range_more (q * size) size xs ys is

one_more : (a b : Bool) → (a ≡ true → b ≡ true) → cond a 1 0 ≤ cond b 1 0
one_more true true also = omega arith
one_more true false also = let is : false ≡ true = also refl in absurd (cc)
one_more false true also = omega arith
one_more false false also = omega arith

count_suc : (p : ℕ → Bool) (n : ℕ) → count_below p (suc n) ≡ count_below p n + cond (p n) 1 0
unfolding count_below
count_suc p n = refl

-- a count grows with what is counted, and with the numbers
count_more : (p r : ℕ → Bool) (n : ℕ) → ((q : ℕ) → p q ≡ true → r q ≡ true) → count_below p n ≤ count_below r n
unfolding count_below
count_more p r zero also = omega arith
count_more p r (suc n) also = omega (arith, count_more p r n also, one_more (p n) (r n) (also n))

count_on : (p : ℕ → Bool) (n more : ℕ) → count_below p n ≤ count_below p (more + n)
count_on p n zero = let none : 0 + n ≡ n = omega arith in omega (arith, ap (λ k. count_below p k) none)
count_on p n (suc more) =
    let next : suc more + n ≡ suc (more + n) = omega arith in
    omega (arith, ap (λ k. count_below p k) next, count_suc p (more + n), count_on p n more)

ranges_more : (size : ℕ) (xs ys : List (Option ℤ)) → ranges_with_value size xs ≤ ranges_with_value size (xs ++ ys)
unfolding ranges_with_value
ranges_more size xs ys =
    let sum : length ys + length xs ≡ length (xs ++ ys) = omega (arith, length-append xs ys) in
    omega (
      arith,
      count_more (range_has_value size xs) (range_has_value size (xs ++ ys)) (length xs) (has_more size xs ys),
      count_on (range_has_value size (xs ++ ys)) (length xs) (length ys),
      ap (λ n. count_below (range_has_value size (xs ++ ys)) n) sum,
    )

pages_of_levels : (k : ℕ) (xs ys : List (Option ℤ)) → level_pages k xs ≤ level_pages k (xs ++ ys)
unfolding level_pages
pages_of_levels zero xs ys = omega arith
pages_of_levels (suc k) xs ys = omega (arith, pages_of_levels k xs ys, ranges_more (PAGE_SLOTS ^ suc k) xs ys)

level_suc : (k : ℕ) (slots : List (Option ℤ)) → level_pages (suc k) slots ≡ level_pages k slots + ranges_with_value
    (PAGE_SLOTS ^ suc k) slots
unfolding level_pages
level_suc k slots = refl

pages_on : (k more : ℕ) (slots : List (Option ℤ)) → level_pages k slots ≤ level_pages (more + k) slots
pages_on k zero slots = let none : 0 + k ≡ k = omega arith in omega (arith, ap (λ j. level_pages j slots) none)
pages_on k (suc more) slots =
    let next : suc more + k ≡ suc (more + k) = omega arith in
    omega (arith, ap (λ j. level_pages j slots) next, level_suc (more + k) slots, pages_on k more slots)

pub series_pages_more : (xs ys : List (Option ℤ)) → length (xs ++ ys) ≤ MOST_SLOTS → series_pages xs ≤ series_pages (xs ++ ys)
unfolding series_pages
series_pages_more xs ys short =
    let few : length xs ≤ MOST_SLOTS = omega (arith, length-append xs ys, short) in
    let low = page_levels (length xs) in
    let high = page_levels (length (xs ++ ys)) in
    let up : low ≤ high = omega (
      arith,
      levels_same (length xs) few,
      levels_same (length (xs ++ ys)) short,
      levels_more (length xs) (length (xs ++ ys)) (omega (arith, length-append xs ys)),
    ) in
    let sum : (high - low) + low ≡ high = omega (arith, up) in
    omega (arith, pages_of_levels low xs ys, pages_on low (high - low) (xs ++ ys), ap (λ k. level_pages k (xs ++ ys)) sum)
