use Rattle.std.proofs.Common.{◌≡◌, ℕ, zero, suc, ◌+◌, ◌-◌, max, min, Bool, true, false, List, [], ◌∷◌, ◌++◌, length, take, drop, replicate}
use Rattle.std.proofs.Common.{get_or, Option, None, ℤ, All, refl, ap, ◌∙◌, arith, rules}
use Rattle.std.specs.List.{list_any}
use Rattle.std.proofs.lemmas.List.Folds.{list_any_at}
use Rattle.std.proofs.lemmas.List.{same_lists, places, take_all, drop_all, append-nil, length-append, length-replicate, length-take}
use Rattle.std.proofs.lemmas.List.{length-drop, take-replicate, drop-replicate}
use Rattle.series_book.specs.Edits.{overwritten, cleared, is_too_large}

-- a front of two lists
take_append : {X : Type 0} (n : ℕ) (xs ys : List X) → take n (xs ++ ys) ≡ take n xs ++ take (n - length xs) ys
take_append zero [] ys = refl
take_append (suc n) [] ys = let all : suc n - 0 ≡ suc n = omega arith in rw all refl
take_append zero (x ∷ xs) ys = let none : 0 - suc (length xs) ≡ 0 = omega arith in rw none refl
take_append (suc n) (x ∷ xs) ys = let less : suc n - suc (length xs) ≡ n - length xs = omega arith in
    rw less (ap (λ zs. x ∷ zs) (take_append n xs ys))

-- the rest of two lists
drop_append : {X : Type 0} (n : ℕ) (xs ys : List X) → drop n (xs ++ ys) ≡ drop n xs ++ drop (n - length xs) ys
drop_append zero [] ys = refl
drop_append (suc n) [] ys = let all : suc n - 0 ≡ suc n = omega arith in rw all refl
drop_append zero (x ∷ xs) ys = let none : 0 - suc (length xs) ≡ 0 = omega arith in rw none refl
drop_append (suc n) (x ∷ xs) ys = let less : suc n - suc (length xs) ≡ n - length xs = omega arith in rw less (drop_append n xs ys)

-- a run over slots that were lengthened for it
pub overwritten_from_resized : (slots run filled : List (Option ℤ)) (place n : ℕ)
    → n ≡ max (length slots) (place + length run)
    → filled ≡ take n slots ++ replicate (n - length slots) None
    → take place filled ++ run ++ drop (place + length run) filled ≡ overwritten slots place run
unfolding overwritten
overwritten_from_resized slots run filled place n n_is filled_is =
    let whole : take n slots ≡ slots = take_all n slots (omega arith) in
    let filled' : filled ≡ slots ++ replicate (n - length slots) None = filled_is
    ∙ ap (λ xs. xs ++ replicate (n - length slots) None) whole in
    let front : take place filled ≡ take place slots ++ replicate (place - length slots) None =
    ap (take place) filled' ∙ take_append place slots _
    ∙ ap (λ xs. take place slots ++ xs) (take-replicate (place - length slots) (n - length slots) None (omega arith)) in
    let past : n - length slots - (place + length run - length slots) ≡ 0 = omega arith in
    let back : drop (place + length run) filled ≡ drop (place + length run) slots =
    ap (drop (place + length run)) filled' ∙ drop_append (place + length run) slots _
    ∙ ap (λ xs. drop (place + length run) slots ++ xs) (drop-replicate (place + length run - length slots) (n - length slots) None
    ∙ ap (λ k. replicate k None) past)
    ∙ append-nil _ in
    rw (front, back) refl

-- what was put is taken back
pub undone : (slots run : List (Option ℤ)) (place : ℕ) (old displaced cut : List (Option ℤ)) (before from : ℕ)
    → slots ≡ overwritten old place run
    → displaced ≡ take (length run) (drop place old)
    → before ≡ length old
    → from ≡ min place before
    → cut ≡ take before slots
    → take from cut ++ displaced ++ drop (from + length displaced) cut ≡ old
unfolding overwritten
undone slots run place old displaced cut before from put displaced_is before_is from_is cut_is =
    same_lists _ _ (search (rules, places)) (λ k d h. grind (arith, places))

-- all that a vector of this length holds after a write over all of it
pub whole_written : {X : Type 0} (written items : List X) (n : ℕ) → n ≡ length items → length written ≡ length items
    → take n (written ++ drop (length written) items) ≡ written
whole_written written items n n_is same =
    let none : drop (length written) items ≡ [] = drop_all (length written) items (omega arith) in
    ap (λ xs. take n (written ++ xs)) none ∙ ap (take n) (append-nil written) ∙ take_all n written (omega arith)

-- a vector's length is that of the list that it is seen as
pub resized_same : (n m : ℕ) (items seen : List (Option ℤ)) → items ≡ seen → m ≡ length seen
    → take n items ++ replicate (n - m) None ≡ take n seen ++ replicate (n - length seen) None
resized_same n m items seen same m_is = rw (same, m_is) refl

-- a run over equal slots at an equal place
pub written_same : (slots slots' run : List (Option ℤ)) (place place' : ℕ) → slots ≡ slots' → place ≡ place'
    → take place slots ++ run ++ drop (place + length run) slots ≡ take place' slots' ++ run ++ drop (place' + length run) slots'
written_same slots slots' run place place' same place_is = rw (same, place_is) refl

-- a run right after the slots
pub overwritten-end : (slots run : List (Option ℤ)) → overwritten slots (length slots) run ≡ slots ++ run
unfolding overwritten
overwritten-end slots run =
    let whole : take (length slots) slots ≡ slots = take_all (length slots) slots (omega arith) in
    let none : length slots - length slots ≡ 0 = omega arith in
    let rest : drop (length slots + length run) slots ≡ [] = drop_all (length slots + length run) slots (omega arith) in
    rw (whole, none, rest, append-nil) (ap (λ xs. xs ++ run) (append-nil slots))

-- the length of slots after a run was written
pub length-overwritten : (slots run : List (Option ℤ)) (place : ℕ)
    → length (overwritten slots place run) ≡ max (length slots) (place + length run)
unfolding overwritten
length-overwritten slots run place =
    omega (arith, length-append {A = Option ℤ}, length-take {A = Option ℤ}, length-drop {A = Option ℤ}, length-replicate {A = Option ℤ})

-- missing slots over what is cleared
pub overwritten-cleared : (slots run : List (Option ℤ)) (place count from n : ℕ) → from ≡ min place (length slots)
    → n ≡ min (from + count) (length slots) - from → run ≡ replicate n None
    → overwritten slots from run ≡ cleared slots place count
unfolding overwritten cleared
overwritten-cleared slots run place count from n from_is n_is run_is =
    same_lists _ _ (search (rules, places)) (λ k d h. grind (arith, places))

-- no value is too large where none was found
pub none_too_large : (values : List (Option ℤ)) → list_any is_too_large values ≡ false → All (λ value. is_too_large value ≡ false) values
none_too_large values none k d within =
    let here : (b : Bool) → is_too_large (get_or values k d) ≡ b → b ≡ false =
    λ b. elim b as (λ b. is_too_large (get_or values k d) ≡ b → b ≡ false) [
      | true ↦ λ large. let found : list_any is_too_large values ≡ true = list_any_at is_too_large values k d within large in cc
      | false ↦ λ _. refl
    ] in
    here (is_too_large (get_or values k d)) refl
