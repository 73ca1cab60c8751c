-- The values below a page, and those of a list.
use Rattle.std.proofs.Common.{◌≡◌, ℕ, ℤ, zero, suc, ◌+◌, ◌*◌, ◌^◌, ◌<◌, ◌≤◌, cond, is_some, List, [], ◌∷◌, length, Option, None, Some, refl}
use Rattle.std.proofs.Common.{sym, ap, subst, arith, ◌∙◌}
use Rattle.std.proofs.lemmas.List.Sums.{sum_by-cons}
use Rattle.std.proofs.lemmas.Nat.{pow-add}
use Rattle.std.proofs.lemmas.Option.{slice_get_past}
use Rattle.std.proofs.Math.Nat.{mul-le-mul_right, pow-le-pow_right}
use Rattle.om3_coeff.specs.declared.span.Span.{Span}
use Rattle.om3_coeff.specs.Keys.{first_slot, end_slot}
use Rattle.om3_coeff.specs.Spans.{span}
use Rattle.path_repair.specs.Changes.{value_of, slot_at}
use Rattle.path_repair.specs.Sums.{sum_below}
use Rattle.path_repair.proofs.ListLemmas.{part_none, child_first, child_end}
use Rattle.path_repair.proofs.SumLemmas.{sum_suc, sum_none, sum_same}
use Rattle.stored_book.proofs.OneBook.{slot_key_span}
use Rattle.stored_book.proofs.PageCounts.{sum_zero, sum_parts, some_slot}
use Rattle.tree_walk.specs.Trees.{top_of_page}
use Rattle.series_store.specs.Counting.{values_in, values_below}

sum_front : (f : ℕ → ℕ) (n : ℕ) → sum_below f (suc n) ≡ f 0 + sum_below (λ i. f (suc i)) n
sum_front f zero = omega (arith, sum_suc f 0, sum_none f, sum_none (λ i. f (suc i)))
sum_front f (suc n) = omega (arith, sum_suc f (suc n), sum_front f n, sum_suc (λ i. f (suc i)) n)

-- whether a slot holds a value, as a number
one : List (Option ℤ) → ℕ → ℕ
one list i = cond (is_some (slot_at list i)) 1 0

one_past : (list : List (Option ℤ)) (i : ℕ) → length list ≤ i → one list i ≡ 0
unfolding one slot_at
one_past list i past = ap (λ x. cond (is_some (value_of x)) 1 0) (slice_get_past list i past)

one_first : (slot : Option ℤ) (list : List (Option ℤ)) → one (slot ∷ list) 0 ≡ cond (is_some slot) 1 0
unfolding one slot_at
one_first slot list = refl

one_next : (slot : Option ℤ) (list : List (Option ℤ)) (i : ℕ) → one (slot ∷ list) (suc i) ≡ one list i
unfolding one slot_at
one_next slot list i = refl

-- the values of a list, slot by slot
slots_sum : (list : List (Option ℤ)) (n : ℕ) → length list ≤ n → sum_below (one list) n ≡ values_in list
slots_sum [] n few = sum_zero (one []) n (λ i low. one_past [] i (omega arith))
slots_sum (slot ∷ list) zero few = absurd (omega (arith, few))
slots_sum (slot ∷ list) (suc n) few =
    omega (
      arith,
      sum_front (one (slot ∷ list)) n,
      one_first slot list,
      sum_same (λ i. one (slot ∷ list) (suc i)) (one list) n (λ i low. one_next slot list i),
      slots_sum list n (omega (arith, few)),
      sum_by-cons (λ (x : Option ℤ). cond (is_some x) 1 0) slot list,
    )

one_slot : (list : List (Option ℤ)) (i : ℕ) → values_below list 0 i ≡ one list i
unfolding values_below one
one_slot list i = refl

parts_of : (list : List (Option ℤ)) (level q : ℕ) → values_below list (suc level) q ≡ sum_below
    (λ c. values_below list level (128 * q + c)) 128
unfolding values_below
parts_of list level q = refl

part_sizes : (n level : ℕ) → n * 128 ^ suc level ≡ (128 * n) * 128 ^ level
part_sizes n level =
    let next : suc level ≡ 1 + level = omega arith in
    ap (λ p. n * p) (ap (λ k. 128 ^ k) next ∙ pow-add 128 1 level) ∙ product n (128 ^ level)
  where
    product : (n p : ℕ) → n * (128 ^ 1 * p) ≡ (128 * n) * p
    product n p = omega arith

-- the values below the first pages of a page level are those of the first slots
rows : (list : List (Option ℤ)) (level n : ℕ) → sum_below (λ q. values_below list level q) n ≡ sum_below (one list) (n * 128 ^ level)
rows list zero n =
    let whole : n * 128 ^ 0 ≡ n = omega arith in
    sum_same (λ q. values_below list 0 q) (one list) n (λ q low. one_slot list q) ∙ ap (λ k. sum_below (one list) k) (sym whole)
rows list (suc level) n =
    sum_same (λ q. values_below list (suc level) q) (λ q. sum_below (λ c. values_below list level (128 * q + c)) 128) n
    (λ q low. parts_of list level q)
    ∙ sum_parts (λ q. values_below list level q) n
    ∙ rows list level (128 * n)
    ∙ ap (λ k. sum_below (one list) k) (sym (part_sizes n level))

-- those below the root of a list's tree are all
pub values_all : (list : List (Option ℤ)) (level : ℕ) → length list ≤ 128 ^ level → values_below list level 0 ≡ values_in list
values_all list level covers =
    omega (
      arith,
      sum_suc (λ q. values_below list level q) 0,
      sum_none (λ q. values_below list level q),
      rows list level 1,
      slots_sum list (1 * 128 ^ level) (omega (arith, covers)),
    )

-- a slot has a span where it holds a value
one_span : (list : List (Option ℤ)) (i : ℕ) → cond (is_some (span list (top_of_page 0 i))) 1 0 ≡ values_below list 0 i
unfolding one
one_span list i = ap (λ s. cond (is_some s) 1 0) (slot_key_span list i) ∙ ap (λ b. cond b 1 0) (some_slot (slot_at list i))
    ∙ sym (one_slot list i)

-- where a range has no span, nothing is stored below its page
pub no_values : (list : List (Option ℤ)) (level index : ℕ) → span list (top_of_page level index) ≡ None → values_below list level index ≡ 0
no_values list zero index none = sym (one_span list index) ∙ ap (λ s. cond (is_some s) 1 0) none
no_values list (suc level) index none =
    parts_of list level index
    ∙ sum_zero (λ c. values_below list level (128 * index + c)) 128
    (λ c low. no_values list level (128 * index + c)
    (part_none list (first_slot (top_of_page (suc level) index)) (end_slot (top_of_page (suc level) index))
    (first_slot (top_of_page level (128 * index + c))) (end_slot (top_of_page level (128 * index + c)))
    (child_first level index c) (child_end level index c low) none))

-- a slot with a span holds one
pub one_value : (list : List (Option ℤ)) (level index : ℕ) (top : Span) → level ≡ 0 → Some top ≡ span list (top_of_page level index)
    → 1 ≡ values_below list level index
one_value list level index top is there =
    let P : ℕ → Type 0 = λ l. 1 ≡ values_below list l index in
    let S : ℕ → Type 0 = λ l. Some top ≡ span list (top_of_page l index) in
    subst P (sym is) (ap (λ (s : Option Span). cond (is_some s) 1 0) (subst S is there) ∙ one_span list index)

-- the children of a page together
pub all_parts : (list : List (Option ℤ)) (level below index values child : ℕ) → level ≡ suc below → child ≡ 128
    → values ≡ sum_below (λ c. values_below list below (128 * index + c)) child → values ≡ values_below list level index
all_parts list level below index values child is end sum =
    let P : ℕ → Type 0 = λ l. values ≡ values_below list l index in
    let S : ℕ → Type 0 = λ n. values ≡ sum_below (λ c. values_below list below (128 * index + c)) n in
    subst P (sym is) (subst S end sum ∙ sym (parts_of list below index))

pub part_more : (list : List (Option ℤ)) (below index values more child : ℕ)
    → values ≡ sum_below (λ c. values_below list below (128 * index + c)) child → more ≡ values_below list below (128 * index + child)
    → values + more ≡ sum_below (λ c. values_below list below (128 * index + c)) (child + 1)
part_more list below index values more child sum here =
    let next : suc child ≡ child + 1 = omega arith in
    let P : ℕ → Type 0 = λ n. values + more ≡ sum_below (λ c. values_below list below (128 * index + c)) n in
    subst P next (omega (arith, sum, here, sum_suc (λ c. values_below list below (128 * index + c)) child))

pub no_parts : (list : List (Option ℤ)) (below index : ℕ) → 0 ≡ sum_below (λ c. values_below list below (128 * index + c)) 0
no_parts list below index = sym (sum_none (λ c. values_below list below (128 * index + c)))

-- the values of a page's children are few
pub values_fit : (values more child below : ℕ) → child < 128 → below ≤ 4 → values ≤ child * 128 ^ below → more ≤ 128 ^ below
    → values + more < 2 ^ 64
values_fit values more child below within low few less =
    let some : 0 < 128 = omega arith in
    let most : 128 ^ below ≤ 128 ^ 4 = pow-le-pow_right some low in
    sums values more child (128 ^ below) within few less most
  where
    sums : (values more child p : ℕ) → child < 128 → values ≤ child * p → more ≤ p → p ≤ 128 ^ 4 → values + more < 2 ^ 64
    sums values more child p within few less most = omega (
      arith,
      few,
      less,
      most,
      mul-le-mul_right p (let high : child ≤ 127 = omega (arith, within) in high),
    )
