use Rattle.std.proofs.Common.{ℕ, zero, suc, ◌≡◌, ◌≢◌, ◌+◌, ◌<◌, ◌≤◌, inl, inr, Bool, true, false, cond, List, [], ◌∷◌, get_or, refl, sym}
use Rattle.std.proofs.Common.{◌∙◌, ap, arith}
use Rattle.std.proofs.lemmas.Bool.{cases_eq}
use Rattle.std.proofs.lemmas.Bool.Decides.{nat_tests}
use Rattle.std.proofs.lemmas.List.Elements.{All-head, All-tail}
use Rattle.std.proofs.lemmas.List.Sums.{sum_by-cons}
use Rattle.std.proofs.lemmas.List.Sorted.{sum_by-IsPermutation, All-permutation}
use Rattle.std.specs.Prelude.{All, IsPermutation, count_by, ◌==◌}
use Rattle.std.specs.List.Sorted.{IsNonDecreasingBy}
use Rattle.om3_coeff.specs.declared.key.Key.{Key}
use Rattle.om3_coeff.specs.declared.coef.Coef.{Coef}
use Rattle.om3_coeff.proofs.KeyLemmas.{by_lt, same_key}
use Rattle.view_keys.specs.Listed.{ComesBefore, AreInOrder}
use Rattle.needed_nodes.specs.Gathering.{AreApart}
use Rattle.needed_nodes.specs.Ordering.{order_number, IsSmallKey, AreSmallKeys}

-- keys with one number are one, and one with a lesser number comes before
number_one : (a b : Key) → IsSmallKey a → IsSmallKey b → order_number a ≡ order_number b → a ≡ b
number_one a b p q same =
    let level : a.level ≡ b.level = omega (arith, p.level, p.index, q.level, q.index, same) in
    same_key a b level (omega (arith, p.level, p.index, q.level, q.index, same, level))

number_before : (a b : Key) → IsSmallKey a → IsSmallKey b → order_number a < order_number b → ComesBefore a b
number_before a b p q less =
    by_lt b.level a.level
    (λ lower. inl lower)
    (λ higher.
    let level : a.level ≡ b.level = omega (arith, p.level, p.index, q.level, q.index, less, higher) in
    inr (level, omega (arith, p.level, p.index, q.level, q.index, less, level)))

-- how many entries have a number
abbrev has_number : ℕ → Key × Coef → Bool
has_number m e = order_number e.0 == m

abbrev count_of : ℕ → List (Key × Coef) → ℕ
count_of m es = count_by (has_number m) es

test_true : (m n : ℕ) → m ≡ n → (m == n) ≡ true
test_true m n e = grind (arith, nat_tests)

test_false : (m n : ℕ) → m ≢ n → (m == n) ≡ false
test_false m n e = grind (arith, nat_tests)

count_yes : (m : ℕ) (e : Key × Coef) (es : List (Key × Coef)) → order_number e.0 ≡ m → count_of m (e ∷ es) ≡ 1 + count_of m es
count_yes m e es is =
    sum_by-cons (λ e. cond (has_number m e) 1 0) e es ∙ ap (λ b. cond b 1 0 + count_of m es) (test_true (order_number e.0) m is)

count_no : (m : ℕ) (e : Key × Coef) (es : List (Key × Coef)) → order_number e.0 ≢ m → count_of m (e ∷ es) ≡ count_of m es
count_no m e es other =
    let none : 0 + count_of m es ≡ count_of m es = omega arith in
    sum_by-cons (λ e. cond (has_number m e) 1 0) e es ∙ ap (λ b. cond b 1 0 + count_of m es) (test_false (order_number e.0) m other) ∙ none

none_counted : (m : ℕ) (es : List (Key × Coef)) → All (λ e. order_number e.0 ≢ m) es → count_of m es ≡ 0
none_counted m [] all = refl
none_counted m (e ∷ es) all =
    count_no m e es (All-head (λ e. order_number e.0 ≢ m) e es all) ∙ none_counted m es (All-tail (λ e. order_number e.0 ≢ m) e es all)

counted_none : (m : ℕ) (es : List (Key × Coef)) → count_of m es ≡ 0 → All (λ e. order_number e.0 ≢ m) es
counted_none m [] none = λ k d less. absurd (omega arith)
counted_none m (e ∷ es) none = elim (cases_eq (order_number e.0) m) [
  | inl is ↦ absurd (omega (arith, count_yes m e es is, none))
  | inr other ↦
      let rest : All (λ e. order_number e.0 ≢ m) es = counted_none m es (sym (count_no m e es other) ∙ none) in
      at other rest
]
  where
    at : order_number e.0 ≢ m → All (λ e. order_number e.0 ≢ m) es → All (λ e. order_number e.0 ≢ m) (e ∷ es)
    at here rest zero d less = here
    at here rest (suc k) d less = rest k d (omega arith)

-- distinct keys are counted once at most
apart_count : (m : ℕ) (es : List (Key × Coef)) → AreSmallKeys es → AreApart es → count_of m es ≤ 1
apart_count m [] small apart = omega arith
apart_count m (e ∷ es) small apart =
    let first : IsSmallKey e.0 = All-head (λ e. IsSmallKey e.0) e es small in
    let rest : AreSmallKeys es = All-tail (λ e. IsSmallKey e.0) e es small in
    elim (cases_eq (order_number e.0) m) [
      | inl is ↦
          let others : All (λ f. order_number f.0 ≢ m) es =
          λ k d less same. apart.0 k d less (number_one e.0 (get_or es k d).0 first (rest k d less) (is ∙ sym same)) in
          omega (arith, count_yes m e es is, none_counted m es others)
      | inr other ↦ omega (arith, count_no m e es other, apart_count m es rest apart.1)
    ]

-- a list of keys that are counted once at most and whose numbers don't fall is in order
rises_on : (e : Key × Coef) (es : List (Key × Coef)) → IsNonDecreasingBy (λ e. order_number e.0) (e ∷ es)
    → IsNonDecreasingBy (λ e. order_number e.0) es
rises_on e es rises i j d le less = rises (suc i) (suc j) d (omega arith) (omega arith)

count_rest : (m : ℕ) (e : Key × Coef) (es : List (Key × Coef)) → count_of m (e ∷ es) ≤ 1 → count_of m es ≤ 1
count_rest m e es few = elim (cases_eq (order_number e.0) m) [
  | inl is ↦ omega (arith, few, count_yes m e es is)
  | inr other ↦ omega (arith, few, count_no m e es other)
]

ordered : (es : List (Key × Coef)) → AreSmallKeys es → IsNonDecreasingBy (λ e. order_number e.0) es → ((m : ℕ) → count_of m es ≤ 1)
    → AreInOrder es
ordered [] small rises once = tt
ordered (e ∷ es) small rises once =
    let first : IsSmallKey e.0 = All-head (λ e. IsSmallKey e.0) e es small in
    let rest : AreSmallKeys es = All-tail (λ e. IsSmallKey e.0) e es small in
    let none : count_of (order_number e.0) es ≡ 0 = omega (arith, once (order_number e.0), count_yes (order_number e.0) e es refl) in
    let others : All (λ f. order_number f.0 ≢ order_number e.0) es = counted_none (order_number e.0) es none in (
      λ k d less.
          let later : order_number e.0 ≤ order_number (get_or es k d).0 = rises 0 (suc k) d (omega arith) (omega arith) in
          let other : order_number (get_or es k d).0 ≢ order_number e.0 = others k d less in
          number_before e.0 (get_or es k d).0 first (rest k d less) (omega arith),
      ordered es rest (rises_on e es rises) (λ m. count_rest m e es (once m)),
    )

pub sorted_in_order : (es sorted : List (Key × Coef)) → AreSmallKeys es → AreApart es → IsPermutation es sorted
    → IsNonDecreasingBy (λ e. order_number e.0) sorted → AreInOrder sorted
sorted_in_order es sorted small apart moved rises =
    ordered sorted (All-permutation (λ e. IsSmallKey e.0) es sorted moved small) rises
    (λ m. omega (arith, apart_count m es small apart, sum_by-IsPermutation (λ e. cond (has_number m e) 1 0) es sorted moved))
