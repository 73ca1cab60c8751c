-- Ranges as tokens.
use Rattle.std.proofs.Common.{◌≡◌, ℕ, zero, suc, ℤ, pos, negsuc, ◌+◌, ◌-◌, ◌^◌, ◌<◌, ◌≤◌, Bool, true, false, cond, ◌&&◌, ◌||◌, List, []}
use Rattle.std.proofs.Common.{◌∷◌, ◌++◌, length, take, drop, get_or, refl, sym, ap, subst, ◌∙◌, arith, inl, inr, length-append, length-take}
use Rattle.std.proofs.Common.{length-drop}
use Rattle.std.specs.Prelude.{nat_le, ◌==◌, slice_index}
use Rattle.std.specs.Str.{bytes_eq}
use Rattle.std.specs.Fmt.{decimal, signed_decimal}
use Rattle.std.specs.List.{position_or_len}
use lib.Chars.{codes}
use Rattle.std.proofs.lemmas.Bool.{and_parts, and_from, cases_lt}
use Rattle.std.proofs.lemmas.Bool.Decides.{nat_tests}
use Rattle.std.proofs.lemmas.List.{take_all, take_at, take-append-drop, get_or_append_left, get_or-append-add}
use Rattle.std.proofs.lemmas.List.Sums.{position_or_len_is}
use Rattle.std.proofs.lemmas.Slice.Eq.{bytes_eq-Decides}
use Rattle.std.proofs.lemmas.Str.Parse.{digit_at}
use Rattle.whole_number.specs.Numbers.{is_integer, integer_value}
use Rattle.whole_number.specs.Spelling.{SpellsInteger}
use Rattle.whole_number.proofs.Digits.{spelling_digits}
use Rattle.whole_number.proofs.Tests.{integer_spelt, spelt_integer}
use Rattle.request_lines.specs.declared.ranges.RangeWord.{RangeWord}
use Rattle.request_lines.specs.declared.ranges.RangeWord.TheVariants.{Auto, Fixed}
use Rattle.request_lines.specs.Ranges.{low_end, after_low, is_fixed, is_range, range_of}
use Rattle.request_lines.specs.Spelling.{SpellsRange}
use Rattle.request_lines.proofs.Spelt.{integer_back}

-- the bytes before the first point, and those from there on, are the token
low_whole : (token : List ℕ) → 2 ≤ length (after_low token) → low_end token ++ after_low token ≡ token
low_whole token some =
    let n : ℕ = position_or_len (λ byte. byte == 46) token in
    elim (cases_lt n (length token)) [
      | inl less ↦
          let size : length (take n token) ≡ n = omega (arith, length-take n token, less) in
          ap (λ m. take n token ++ drop m token) size ∙ take-append-drop n token
      | inr more ↦
          let all : take n token ≡ token = take_all n token more in
          absurd (omega (arith, some, length-drop (length (take n token)) token, ap length all))
    ]

two_points : (xs : List ℕ) → 2 ≤ length xs → get_or xs 0 0 ≡ 46 → get_or xs 1 0 ≡ 46 → xs ≡ 46 ∷ (46 ∷ drop 2 xs)
two_points [] some first second = absurd (omega (arith, some))
two_points (a ∷ []) some first second = absurd (omega (arith, some))
two_points (a ∷ (b ∷ xs)) some first second = λ i. first i ∷ (second i ∷ xs)

fixed_words : (token : List ℕ) → is_fixed token ≡ true
    → SpellsRange (Fixed (integer_value (low_end token)) (integer_value (drop 2 (after_low token)))) token
unfolding is_fixed
fixed_words token fixed =
    let after = after_low token in
    let k5 = and_parts (nat_le 2 (length after) && slice_index after 0 == 46 && slice_index after 1 == 46
    && is_integer (low_end token)) (is_integer (drop 2 after)) fixed in
    let k4 = and_parts (nat_le 2 (length after) && slice_index after 0 == 46
    && slice_index after 1 == 46) (is_integer (low_end token)) k5.0 in
    let k3 = and_parts (nat_le 2 (length after) && slice_index after 0 == 46) (slice_index after 1 == 46) k4.0 in
    let k2 = and_parts (nat_le 2 (length after)) (slice_index after 0 == 46) k3.0 in
    let some : 2 ≤ length after = grind (arith, nat_tests, k2.0) in
    let first : get_or after 0 0 ≡ 46 = grind (arith, nat_tests, k2.1) in
    let second : get_or after 1 0 ≡ 46 = grind (arith, nat_tests, k3.1) in
    let low = integer_spelt (low_end token) k4.1 in
    let high = integer_spelt (drop 2 after) k5.1 in
    let points : after ≡ 46 ∷ (46 ∷ signed_decimal (integer_value (drop 2 after))) = two_points after some first second
    ∙ ap (λ h. 46 ∷ (46 ∷ h)) high.0 in
    (sym (low_whole token some) ∙ (λ i. low.0 i ++ points i), low.1, high.1)

pub range_words : (token : List ℕ) → is_range token ≡ true → SpellsRange (range_of token) token
unfolding range_of
range_words token h =
    elim (bytes_eq token (codes "auto")) as (λ b. bytes_eq token (codes "auto") ≡ b → (b || is_fixed token) ≡ true
    → SpellsRange (cond b Auto (Fixed (integer_value (low_end token)) (integer_value (drop 2 (after_low token))))) token) [
      | true ↦ λ same _. (bytes_eq-Decides token (codes "auto")).0 same
      | false ↦ λ _ fixed. fixed_words token fixed
    ] refl h

-- no byte of a number is a point
behind_hyphen : (n : ℕ) → suc n < 10 ^ 19 → (k : ℕ) → k < length (45 ∷ decimal (suc n)) → (get_or (45 ∷ decimal (suc n)) k 0 == 46) ≡ false
behind_hyphen n small zero within = refl
behind_hyphen n small (suc k) within =
    let here = digit_at (decimal (suc n)) k (spelling_digits (decimal (suc n)) (suc n) (refl, small)) (omega (arith, within)) in
    grind (arith, nat_tests, here.0)

no_point : (text : List ℕ) (z : ℤ) → SpellsInteger text z → (k : ℕ) → k < length text → (get_or text k 0 == 46) ≡ false
no_point text (pos n) spells k within = let here = digit_at text k (spelling_digits text n spells) within in
    grind (arith, nat_tests, here.0)
no_point text (negsuc n) spells k within =
    let P : List ℕ → Type 0 = λ l. (k : ℕ) → k < length l → (get_or l k 0 == 46) ≡ false in
    subst P (sym spells.0) (behind_hyphen n spells.1) k within

low_is : (low rest : List ℕ) (z : ℤ) → SpellsInteger low z → low_end (low ++ 46 ∷ rest) ≡ low
low_is low rest z spells =
    let token : List ℕ = low ++ 46 ∷ rest in
    let here : get_or token (length low) 0 ≡ 46 = ap (λ m. get_or token m 0) (omega arith) ∙ get_or-append-add low (46 ∷ rest) 0 0 in
    let at : position_or_len (λ byte. byte == 46) token ≡ length low =
    position_or_len_is (λ byte. byte == 46) token (length low) 0 (omega (arith, length-append low (46 ∷ rest)))
    (λ k less. ap (λ b. b == 46) (get_or_append_left low (46 ∷ rest) 0 k less) ∙ no_point low z spells k less)
    (λ _. ap (λ b. b == 46) here) in
    ap (λ n. take n token) at ∙ take_at low (46 ∷ rest) _ refl

drop_front : (low rest : List ℕ) → drop (length low) (low ++ rest) ≡ rest
drop_front [] rest = refl
drop_front (x ∷ low) rest = drop_front low rest

abbrev fixed_by : List ℕ → List ℕ → Bool
fixed_by low after = nat_le 2 (length after) && slice_index after 0 == 46 && slice_index after 1 == 46 && is_integer low
    && is_integer (drop 2 after)

fixed_true : (lo hi : ℤ) → SpellsInteger (signed_decimal lo) lo → SpellsInteger (signed_decimal hi) hi
    → fixed_by (signed_decimal lo) (46 ∷ (46 ∷ signed_decimal hi)) ≡ true
fixed_true lo hi low high =
    let after : List ℕ = 46 ∷ (46 ∷ signed_decimal hi) in
    let some : nat_le 2 (length (46 ∷ (46 ∷ signed_decimal hi))) ≡ true = grind (arith, nat_tests) in
    and_from (nat_le 2 (length after) && slice_index after 0 == 46 && slice_index after 1 == 46
    && is_integer (signed_decimal lo)) (is_integer (signed_decimal hi))
    (and_from (nat_le 2 (length after) && slice_index after 0 == 46 && slice_index after 1 == 46) (is_integer (signed_decimal lo))
    (and_from (nat_le 2 (length after) && slice_index after 0 == 46) (slice_index after 1 == 46)
    (and_from (nat_le 2 (length after)) (slice_index after 0 == 46) some refl) refl)
    (spelt_integer (signed_decimal lo) lo low))
    (spelt_integer (signed_decimal hi) hi high)

pub range_fit : (range : RangeWord) (token : List ℕ) → SpellsRange range token → (is_range token ≡ true) × (range_of token ≡ range)
unfolding range_of is_fixed
range_fit Auto token h =
    let P : List ℕ → Type 0 = λ t. (is_range t ≡ true) × (range_of t ≡ Auto) in
    subst P (sym h) (refl, refl)
range_fit (Fixed lo hi) token h =
    let low : SpellsInteger (signed_decimal lo) lo = (refl, h.1) in
    let high : SpellsInteger (signed_decimal hi) hi = (refl, h.2) in
    let line : List ℕ = signed_decimal lo ++ 46 ∷ (46 ∷ signed_decimal hi) in
    let front : low_end line ≡ signed_decimal lo = low_is (signed_decimal lo) (46 ∷ signed_decimal hi) lo low in
    let after : after_low line ≡ 46 ∷ (46 ∷ signed_decimal hi) = ap (λ l. drop (length l) line) front
    ∙ drop_front (signed_decimal lo) (46 ∷ (46 ∷ signed_decimal hi)) in
    let fixed : is_fixed line ≡ true = (λ i. fixed_by (front i) (after i)) ∙ fixed_true lo hi low high in
    let named : Fixed (integer_value (low_end line)) (integer_value (drop 2 (after_low line))) ≡ Fixed lo hi =
    (λ i. Fixed (integer_value (front i)) (integer_value (drop 2 (after i))))
    ∙ (λ i. Fixed (integer_back lo low i) (integer_back hi high i)) in
    let P : List ℕ → Type 0 = λ t. (is_range t ≡ true) × (range_of t ≡ Fixed lo hi) in
    subst P (sym h.0) (decided line lo hi after fixed named)
  where
    nothing_behind : (xs : List ℕ) → ◌≡◌ {A = List ℕ} [] (46 ∷ xs) → ⊥
    nothing_behind xs e = cc

    decided : (line : List ℕ) (lo hi : ℤ) → after_low line ≡ 46 ∷ (46 ∷ signed_decimal hi) → is_fixed line ≡ true
        → Fixed (integer_value (low_end line)) (integer_value (drop 2 (after_low line))) ≡ Fixed lo hi
        → (is_range line ≡ true) × (range_of line ≡ Fixed lo hi)
    decided line lo hi after fixed named =
        elim (bytes_eq line (codes "auto")) as (λ b. bytes_eq line (codes "auto") ≡ b
        → ((b || is_fixed line) ≡ true) × (cond b Auto
        (Fixed (integer_value (low_end line)) (integer_value (drop 2 (after_low line)))) ≡ Fixed lo hi)) [
          | true ↦ λ same. absurd (nothing_behind _ (ap after_low (sym ((bytes_eq-Decides line (codes "auto")).0 same)) ∙ after))
          | false ↦ λ _. (fixed, named)
        ] refl
