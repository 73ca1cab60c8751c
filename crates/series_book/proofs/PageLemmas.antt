use Rattle.std.proofs.Common.{◌≡◌, ℕ, zero, suc, ◌+◌, ◌*◌, ◌^◌, ◌<◌, ◌≤◌, Bool, true, false, cond, leb, List, [], ◌∷◌, length, take, drop}
use Rattle.std.proofs.Common.{min, Option, ℤ, ◌-◌, zero-add, refl, sym, ap, ◌∙◌, arith, lit<, lit≤}
use Rattle.std.specs.Option.{is_some}
use Rattle.std.specs.List.{list_any}
use Rattle.std.proofs.Math.Nat.{mul-le-mul_left, mul-le-mul_right}
use Rattle.std.proofs.lemmas.Nat.{pow-add}
use Rattle.std.proofs.lemmas.Bool.Decides.{nat_tests}
use Rattle.std.proofs.lemmas.List.{drop-drop, drop_all, length-drop, take_min, drop_min}
use Rattle.series_book.specs.declared.limits.TheConstants.{PAGE_SLOTS, MOST_SLOTS}
use Rattle.series_book.specs.Pages.{count_below, range_has_value, ranges_with_value, level_pages, first_covering, page_levels, series_pages}

-- a count splits off its first number
pub count_below-shift : (p : ℕ → Bool) (n : ℕ) → count_below p (suc n) ≡ cond (p 0) 1 0 + count_below (λ q. p (suc q)) n
unfolding count_below
count_below-shift p zero = omega arith
count_below-shift p (suc n) = omega (arith, count_below-shift p n)

-- a count depends on the test below n alone
pub count_below-same : (p r : ℕ → Bool) (n : ℕ) → ((q : ℕ) → q < n → p q ≡ r q) → count_below p n ≡ count_below r n
unfolding count_below
count_below-same p r zero same = refl
count_below-same p r (suc n) same =
    let rest : count_below p n ≡ count_below r n = count_below-same p r n (λ q h. same q (omega arith)) in
    let here : p n ≡ r n = same n (omega arith) in
    rw (rest, here) refl

-- numbers that fail add nothing
pub count_below-past : (p : ℕ → Bool) (n more : ℕ) → ((q : ℕ) → n ≤ q → p q ≡ false) → count_below p (more + n) ≡ count_below p n
unfolding count_below
count_below-past p n zero fails = rw zero-add refl
count_below-past p n (suc more) fails =
    let rest : count_below p (more + n) ≡ count_below p n = count_below-past p n more fails in
    let here : p (more + n) ≡ false = fails (more + n) (omega arith) in
    let one_more : suc more + n ≡ suc (more + n) = omega arith in
    rw (one_more, here, rest) (omega arith)

-- a count is no more than the numbers
pub count_below-le : (p : ℕ → Bool) (n : ℕ) → count_below p n ≤ n
unfolding count_below
count_below-le p zero = omega arith
count_below-le p (suc n) = elim (p n) as (λ b. count_below p n + cond b 1 0 ≤ suc n)
    [ true ↦ omega (arith, count_below-le p n) | false ↦ omega (arith, count_below-le p n) ]

-- a product with a factor above zero is no smaller than the other factor
mul-ge : (q size : ℕ) → 0 < size → q ≤ q * size
mul-ge q size positive = omega (arith, mul-le-mul_left q positive)

-- no slot holds no value
no_value : (size : ℕ) → list_any is_some (take size (let none : List (Option ℤ) = [] in none)) ≡ false
no_value zero = refl
no_value (suc size) = refl

-- no range past the slots has a value
pub range_has_value-past : (size : ℕ) (slots : List (Option ℤ)) (q : ℕ) → 0 < size → length slots ≤ q → range_has_value size slots q ≡ false
unfolding range_has_value
range_has_value-past size slots q positive past =
    let far : length slots ≤ q * size = omega (arith, mul-ge q size positive) in
    let none : drop (q * size) slots ≡ [] = drop_all (q * size) slots far in
    rw none (no_value size)

-- the ranges after the first are those of the slots after it
pub range_has_value-suc : (size : ℕ) (slots : List (Option ℤ)) (q : ℕ)
    → range_has_value size slots (suc q) ≡ range_has_value size (drop size slots) q
unfolding range_has_value
range_has_value-suc size slots q =
    let same : drop (q * size) (drop size slots) ≡ drop (size + q * size) slots = drop-drop (q * size) size slots in
    let place : suc q * size ≡ size + q * size = omega arith in
    rw (place, same) refl

-- the first range begins with the slots
range_has_value-zero : (size : ℕ) (slots : List (Option ℤ)) → range_has_value size slots 0 ≡ list_any is_some (take size slots)
unfolding range_has_value
range_has_value-zero size slots = let place : 0 * size ≡ 0 = omega arith in rw place refl

-- the ranges of slots are the first and those of the slots after it
pub ranges_with_value-step : (size : ℕ) (slots : List (Option ℤ)) → 0 < size → 0 < length slots
    → ranges_with_value size slots ≡ cond (list_any is_some (take size slots)) 1 0 + ranges_with_value size (drop size slots)
unfolding ranges_with_value
ranges_with_value-step size [] positive some = absurd (omega arith)
ranges_with_value-step size (slot ∷ slots) positive some =
    let all : List (Option ℤ) = slot ∷ slots in
    let split : count_below (range_has_value size all) (suc (length slots))
    ≡ cond (range_has_value size all 0) 1 0 + count_below (λ q. range_has_value size all (suc q)) (length slots) =
    count_below-shift (range_has_value size all) (length slots) in
    let moved : count_below (λ q. range_has_value size all (suc q)) (length slots)
    ≡ count_below (range_has_value size (drop size all)) (length slots) =
    count_below-same _ _ (length slots) (λ q _. range_has_value-suc size all q) in
    let shorter : length (drop size all) ≤ length slots = omega (arith, length-drop size all) in
    let cut : count_below (range_has_value size (drop size all)) (length slots - length (drop size all) + length (drop size all))
    ≡ count_below (range_has_value size (drop size all)) (length (drop size all)) =
    count_below-past _ (length (drop size all)) _ (λ q past. range_has_value-past size (drop size all) q positive past) in
    let length_is : length slots - length (drop size all) + length (drop size all) ≡ length slots = omega arith in
    let cut' = rw length_is at cut in
    rw (← range_has_value-zero size all) (omega (arith, split, moved, cut'))

-- no slots have no range with a value
pub ranges_with_value-nil : (size : ℕ) (slots : List (Option ℤ)) → length slots ≡ 0 → ranges_with_value size slots ≡ 0
unfolding ranges_with_value count_below
ranges_with_value-nil size [] none = refl
ranges_with_value-nil size (slot ∷ slots) none = absurd (omega arith)

-- the step of a count of ranges, as the code takes it
pub ranges_with_value-more : (size n ranges total : ℕ) (slots front back : List (Option ℤ)) → 0 < size → 0 < length slots
    → n ≡ min size (length slots) → front ≡ take n slots → back ≡ drop n slots
    → ranges + ranges_with_value size slots ≡ total
    → ranges + cond (list_any is_some front) 1 0 + ranges_with_value size back ≡ total
ranges_with_value-more size n ranges total slots front back positive some n_is front_is back_is so_far =
    let front_is' : front ≡ take size slots = front_is ∙ ap (λ m. take m slots) n_is ∙ take_min size slots in
    let back_is' : back ≡ drop size slots = back_is ∙ ap (λ m. drop m slots) n_is ∙ drop_min size slots in
    rw (front_is', back_is') (omega (arith, ranges_with_value-step size slots positive some))

-- where n slots are covered and no level before k covers them, this is level k
covered_here : (n j k : ℕ) → leb n (PAGE_SLOTS ^ j) ≡ true → j ≤ k → (j < k → PAGE_SLOTS ^ j < n) → j ≡ k
covered_here n j k covered from least = grind (arith, nat_tests)

-- where n slots aren't covered, this is before the level k that covers them
covered_later : (n j k : ℕ) → leb n (PAGE_SLOTS ^ j) ≡ false → j ≤ k → n ≤ PAGE_SLOTS ^ k → j < k
covered_later n j k uncovered from covers = grind (arith, nat_tests)

-- the search for the first level that covers n slots finds k
first_covering_is : (tries j n k : ℕ) → j ≤ k → k ≤ j + tries → n ≤ PAGE_SLOTS ^ k
    → ((i : ℕ) → j ≤ i → i < k → PAGE_SLOTS ^ i < n) → first_covering tries j n ≡ k
unfolding first_covering
first_covering_is zero j n k from to covers least = omega arith
first_covering_is (suc tries) j n k from to covers least =
    let here : (b : Bool) → leb n (PAGE_SLOTS ^ j) ≡ b → cond b j (first_covering tries (j + 1) n) ≡ k =
    λ b. elim b as (λ b. leb n (PAGE_SLOTS ^ j) ≡ b → cond b j (first_covering tries (j + 1) n) ≡ k) [
      | true ↦ λ covered. covered_here n j k covered from (least j (omega arith))
      | false ↦ λ uncovered.
          let later : j < k = covered_later n j k uncovered from covers in
          first_covering_is tries (j + 1) n k (omega arith) (omega arith) covers (λ i from' to'. least i (omega arith) to')
    ] in
    here (leb n (PAGE_SLOTS ^ j)) refl

-- a series of more than one level has more slots than levels
levels_few : (n k : ℕ) → k ≤ 5 → (1 < k → PAGE_SLOTS ^ 1 < n) → k ≤ 1 + n
levels_few n k few least = grind arith

-- the least number of at least 1 of which the power covers n slots is the number of page levels
pub page_levels_is : (n k : ℕ) → 1 ≤ k → k ≤ 5 → n ≤ PAGE_SLOTS ^ k
    → ((i : ℕ) → 1 ≤ i → i < k → PAGE_SLOTS ^ i < n) → page_levels n ≡ k
unfolding page_levels
page_levels_is n k above_zero few covers least =
    first_covering_is n 1 n k above_zero (levels_few n k few (least 1 (omega arith))) covers least

-- the slots of a page of a level
pub page_slots-suc : (k : ℕ) → PAGE_SLOTS ^ (k + 1) ≡ PAGE_SLOTS ^ k * PAGE_SLOTS
page_slots-suc k = pow-add PAGE_SLOTS k 1

-- a page of a level below the highest is small
pub page_slots_small : (k : ℕ) → k < 5 → (0 < PAGE_SLOTS ^ k) × (PAGE_SLOTS ^ k ≤ 268435456)
page_slots_small zero few = (lit< tt, lit≤ tt)
page_slots_small (suc zero) few = (lit< tt, lit≤ tt)
page_slots_small (suc (suc zero)) few = (lit< tt, lit≤ tt)
page_slots_small (suc (suc (suc zero))) few = (lit< tt, lit≤ tt)
page_slots_small (suc (suc (suc (suc zero)))) few = (lit< tt, lit≤ tt)
page_slots_small (suc (suc (suc (suc (suc k))))) few = absurd (omega arith)

-- one more level
pub level_pages-suc : (k : ℕ) (slots : List (Option ℤ))
    → level_pages (k + 1) slots ≡ level_pages k slots + ranges_with_value (PAGE_SLOTS ^ k * PAGE_SLOTS) slots
unfolding level_pages
level_pages-suc k slots = let one_more : k + 1 ≡ suc k = omega arith in
    rw one_more (ap (λ size. level_pages k slots + ranges_with_value size slots) (ap (λ j. PAGE_SLOTS ^ j) (sym one_more)
    ∙ page_slots-suc k))

-- no level has no pages
pub level_pages-zero : (slots : List (Option ℤ)) → level_pages 0 slots ≡ 0
unfolding level_pages
level_pages-zero slots = refl

-- the pages of a series are those of its levels
pub series_pages_is : (slots : List (Option ℤ)) (k pages : ℕ) → k ≡ page_levels (length slots) → pages ≡ level_pages k slots
    → pages ≡ series_pages slots
unfolding series_pages
series_pages_is slots k pages levels is = is ∙ ap (λ j. level_pages j slots) levels

-- the search finds no level above one that covers n slots
first_covering-le : (tries j n k : ℕ) → j ≤ k → n ≤ PAGE_SLOTS ^ k → first_covering tries j n ≤ k
unfolding first_covering
first_covering-le zero j n k from covers = from
first_covering-le (suc tries) j n k from covers =
    let here : (b : Bool) → leb n (PAGE_SLOTS ^ j) ≡ b → cond b j (first_covering tries (j + 1) n) ≤ k =
    λ b. elim b as (λ b. leb n (PAGE_SLOTS ^ j) ≡ b → cond b j (first_covering tries (j + 1) n) ≤ k) [
      | true ↦ λ covered. from
      | false ↦ λ uncovered.
          let later : j < k = covered_later n j k uncovered from covers in
          first_covering-le tries (j + 1) n k (omega arith) covers
    ] in
    here (leb n (PAGE_SLOTS ^ j)) refl

-- the pages of k levels are no more than k times the slots
level_pages-le : (k : ℕ) (slots : List (Option ℤ)) → level_pages k slots ≤ k * length slots
unfolding level_pages ranges_with_value
level_pages-le zero slots = omega arith
level_pages-le (suc k) slots =
    omega (arith, level_pages-le k slots, count_below-le (range_has_value (PAGE_SLOTS ^ suc k) slots) (length slots))

-- a series has at most five pages for each slot
pub series_pages_few : (slots : List (Option ℤ)) → length slots ≤ MOST_SLOTS → series_pages slots ≤ 5 * length slots
unfolding series_pages page_levels
series_pages_few slots short =
    let few : first_covering (length slots) 1 (length slots) ≤ 5 = first_covering-le (length slots) 1 (length slots) 5 (lit≤ tt) short in
    omega (arith, level_pages-le (first_covering (length slots) 1 (length slots)) slots, mul-le-mul_right (length slots) few)
