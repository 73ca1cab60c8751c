-- A text's digits before its first point and behind it.
use Rattle.std.proofs.Common.{◌≡◌, ℕ, ℤ, pos, ◌-ℤ◌, unsigned_abs, ◌+◌, ◌*◌, ◌-◌, ◌^◌, ◌<◌, ◌≤◌, suc, false, not, List, [], ◌∷◌, ◌++◌}
use Rattle.std.proofs.Common.{length, take, drop, get_or, Option, None, Some, IfSome, IfNone, refl, ap, sym, subst, ◌∙◌, arith, add-one}
use Rattle.std.proofs.Common.{length-append, length-drop, inl, inr}
use Rattle.std.specs.List.{before_first, after_first, position_or_len}
use Rattle.std.specs.Int.{IsInRange}
use Rattle.std.specs.Str.Parse.{AllDigits, IsNumeral, digits_value, digits_value_after}
use Rattle.std.proofs.Math.Nat.{mul_assoc, add-mul, one-le-pow, le-mul_of_pos_right}
use Rattle.std.proofs.Math.Seq.{take-append_seam, drop-append-add, drop-cons}
use Rattle.std.proofs.lemmas.Nat.{pow-add}
use Rattle.std.proofs.lemmas.Int.{ints}
use Rattle.std.proofs.lemmas.Bool.{cases_lt}
use Rattle.std.proofs.lemmas.Bool.Decides.{nat_tests}
use Rattle.std.proofs.lemmas.List.{take_all, drop_all, take-append-drop, append-nil}
use Rattle.std.proofs.lemmas.List.Sums.{prefix_len_stops}
use Rattle.std.proofs.lemmas.Str.Parse.{digit_at}
use Rattle.csv_load.specs.Decimals.{SpellsDecimal, SpellsScaled, is_point, EndsInPoint, point_and}
use Rattle.csv_load.proofs.DigitLemmas.{after_is, after-ge}

-- a byte in the range of digits is no point
digit_no_point : (c : ℕ) → IsInRange 48 57 c → is_point c ≡ false
digit_no_point c digit = grind (arith, nat_tests, digit)

-- a point and digits, if there are any, begin with a point, if with anything
front : (ps : List ℕ) → position_or_len is_point (point_and ps) ≡ 0
front [] = refl
front (p ∷ ps) = refl

-- the first point of digits, a point and more digits
point_place : (w p : List ℕ) → AllDigits 10 w → position_or_len is_point (w ++ point_and p) ≡ length w
point_place [] p digits = front p
point_place (c ∷ cs) p digits =
    let here : IsInRange 48 57 c = digit_at (c ∷ cs) 0 digits (omega arith) in
    rw (digit_no_point c here) (omega (arith, point_place cs p digits.1))

pub before_is : (w p : List ℕ) → AllDigits 10 w → before_first is_point (w ++ point_and p) ≡ w
before_is w p digits = ap (λ n. take n (w ++ point_and p)) (point_place w p digits) ∙ take-append_seam w (point_and p)

behind_point : (p : List ℕ) → drop 1 (point_and p) ≡ p
behind_point [] = refl
behind_point (q ∷ qs) = refl

pub after_first_is : (w p : List ℕ) → AllDigits 10 w → after_first is_point (w ++ point_and p) ≡ p
after_first_is w p digits =
    ap (λ n. drop (n + 1) (w ++ point_and p)) (point_place w p digits) ∙ drop-append-add w (point_and p) 1 ∙ behind_point p

no_lone_point : (p : List ℕ) → length (point_and p) ≡ 1 → ⊥
no_lone_point [] one = cc
no_lone_point (q ∷ qs) one = omega (arith, one)

pub ends_no_point : (w p : List ℕ) → AllDigits 10 w → EndsInPoint (w ++ point_and p) → ⊥
ends_no_point w p digits ends =
    no_lone_point p (omega (arith, ends, point_place w p digits, length-append w (point_and p)))

-- the parts of a text that doesn't end in its first point
point_more : (ps : List ℕ) → 0 < length ps → point_and ps ≡ 46 ∷ ps
point_more [] some = absurd (omega (arith, some))
point_more (p ∷ ps) some = refl

is_a_point : (c : ℕ) → not (is_point c) ≡ false → c ≡ 46
is_a_point c point = grind (arith, nat_tests, point)

with_a_point : (text : List ℕ) (k : ℕ) → k ≡ position_or_len is_point text → k < length text → (k + 1 ≡ length text → ⊥)
    → text ≡ take k text ++ point_and (drop (k + 1) text)
with_a_point text k is less more =
    let stops : not (is_point (get_or text (position_or_len is_point text) 0)) ≡ false =
    prefix_len_stops (λ x. not (is_point x)) text 0 (omega (arith, is, less)) in
    let point : get_or text k 0 ≡ 46 = ap (λ n. get_or text n 0) is ∙ is_a_point _ stops in
    let some : 0 < length (drop (k + 1) text) = grind (arith, length-drop (k + 1) text, less, more) in
    let here : drop k text ≡ 46 ∷ drop (k + 1) text =
    drop-cons text k 0 less ∙ ap (λ c. c ∷ drop (suc k) text) point ∙ ap (λ n. 46 ∷ drop n text) (sym (add-one k)) in
    sym (take-append-drop k text) ∙ ap (λ ys. take k text ++ ys) (here ∙ sym (point_more (drop (k + 1) text) some))

without_point : (text : List ℕ) (k : ℕ) → length text ≤ k → text ≡ take k text ++ point_and (drop (k + 1) text)
without_point text k all =
    sym (take_all k text all) ∙ sym (append-nil (take k text))
    ∙ ap (λ ys. take k text ++ point_and ys) (sym (drop_all (k + 1) text (omega (arith, all))))

text_is : (text : List ℕ) → (EndsInPoint text → ⊥) → text ≡ before_first is_point text ++ point_and (after_first is_point text)
text_is text more =
    elim (cases_lt (position_or_len is_point text) (length text)) [
      | inl less ↦ with_a_point text (position_or_len is_point text) refl less more
      | inr all ↦ without_point text (position_or_len is_point text) all
    ]

-- these digits before and behind the point are the number, once scaled
pub record IsParted (scale : ℕ) (w p : List ℕ) (n : ℕ) : Type 0 where
  pub whole : IsNumeral 10 w
  pub places : AllDigits 10 p
  pub few : length p ≤ scale
  pub value : n ≡ digits_value 10 w * 10 ^ scale + digits_value 10 p * 10 ^ (scale - length p)
  pub short : n < 10 ^ 19

pub of_spelling : (scale : ℕ) (text : List ℕ) (n : ℕ) (w p : List ℕ) → w ≡ before_first is_point text → p ≡ after_first is_point text
    → SpellsScaled scale text n
    → IsParted scale w p n
of_spelling scale text n w p w_is p_is s =
    let same_w : s.whole ≡ w = sym (w_is ∙ ap (before_first is_point) s.parts ∙ before_is s.whole s.places s.whole_digits.1) in
    let same_p : s.places ≡ p = sym (p_is ∙ ap (after_first is_point) s.parts ∙ after_first_is s.whole s.places s.whole_digits.1) in
    let P : List ℕ → Type 0 = λ x. IsParted scale x s.places n in
    let Q : List ℕ → Type 0 = λ x. IsParted scale w x n in
    subst Q same_p (subst P same_w (record {
      whole = s.whole_digits;
      places = s.place_digits;
      few = s.few;
      value = s.value;
      short = s.short;
    }))

pub to_spelling : (scale : ℕ) (text : List ℕ) (n : ℕ) (w p : List ℕ) → w ≡ before_first is_point text → p ≡ after_first is_point text
    → (EndsInPoint text → ⊥) → IsParted scale w p n
    → SpellsScaled scale text n
to_spelling scale text n w p w_is p_is more parted = record {
  whole = w;
  places = p;
  parts = text_is text more ∙ ap (λ x. x ++ point_and (after_first is_point text)) (sym w_is) ∙ ap (λ x. w ++ point_and x) (sym p_is);
  whole_digits = parted.whole;
  place_digits = parted.places;
  few = parted.few;
  value = parted.value;
  short = parted.short;
}

pub never_ends_in_point : (scale : ℕ) (text : List ℕ) (n : ℕ) → SpellsScaled scale text n → EndsInPoint text → ⊥
never_ends_in_point scale text n s ends =
    let P : List ℕ → Type 0 = λ x. EndsInPoint x in
    ends_no_point s.whole s.places s.whole_digits.1 (subst P s.parts ends)

-- all digits as one number, and zeros for the places that are missing
pub one_number : (w p : List ℕ) (scale : ℕ) → length p ≤ scale
    → digits_value_after 10 (digits_value 10 w) p * 10 ^ (scale - length p) ≡ digits_value 10 w * 10 ^ scale + digits_value 10 p * 10 ^
    (scale - length p)
one_number w p scale few =
    let front = digits_value 10 w in
    let k : ℕ = scale - length p in
    let whole : length p + k ≡ scale = omega (arith, few) in
    let power : 10 ^ length p * 10 ^ k ≡ 10 ^ scale = sym (pow-add 10 (length p) k) ∙ ap (λ x. 10 ^ x) whole in
    ap (λ x. x * 10 ^ k) (after_is front p)
    ∙ add-mul (front * 10 ^ length p) (digits_value 10 p) (10 ^ k)
    ∙ ap (λ x. x + digits_value 10 p * 10 ^ k) (mul_assoc front (10 ^ length p) (10 ^ k) ∙ ap (λ x. front * x) power)

-- a number is no greater than the same with zeros behind it
grown : (n k : ℕ) → n ≤ n * 10 ^ k
grown n k =
    let some : 0 < 10 = omega arith in
    le-mul_of_pos_right n (one-le-pow k 10 some)

pub digits_short : (scale : ℕ) (w p : List ℕ) (n : ℕ) → IsParted scale w p n → digits_value_after 10 (digits_value 10 w) p < 10 ^ 19
digits_short scale w p n parted =
    omega (
      arith,
      parted.value,
      parted.short,
      one_number w p scale parted.few,
      grown (digits_value_after 10 (digits_value 10 w) p) (scale - length p),
    )

pub whole_short : (scale : ℕ) (w p : List ℕ) (n : ℕ) → IsParted scale w p n → digits_value 10 w < 10 ^ 19
whole_short scale w p n parted = omega (arith, digits_short scale w p n parted, after-ge (digits_value 10 w) p)

pub scaled_short : (scale count value : ℕ) (w p : List ℕ) (n : ℕ) → IsParted scale w p n → count ≡ scale - length p
    → value ≡ digits_value_after 10 (digits_value 10 w) p
    → value * 10 ^ count < 10 ^ 19
scaled_short scale count value w p n parted count_is value_is =
    let same : value * 10 ^ count ≡ digits_value_after 10 (digits_value 10 w) p * 10 ^ (scale - length p) =
    ap (λ z. value * 10 ^ z) count_is ∙ ap (λ v. v * 10 ^ (scale - length p)) value_is in
    omega (arith, same, parted.value, parted.short, one_number w p scale parted.few)

pub parted_value : (scale count value : ℕ) (w p : List ℕ) (n : ℕ) → length p ≤ scale → count ≡ scale - length p
    → value ≡ digits_value_after 10 (digits_value 10 w) p
    → n ≡ value * 10 ^ count → n ≡ digits_value 10 w * 10 ^ scale + digits_value 10 p * 10 ^ (scale - length p)
parted_value scale count value w p n few count_is value_is is =
    is ∙ ap (λ z. value * 10 ^ z) count_is ∙ ap (λ v. v * 10 ^ (scale - length p)) value_is ∙ one_number w p scale few

-- what is found, and what isn't, in the words of a spelling
pub found_scaled : (scale : ℕ) (text w p : List ℕ) (value count : ℕ) (r : Option ℕ) → w ≡ before_first is_point text
    → p ≡ after_first is_point text → (EndsInPoint text → ⊥)
    → IsNumeral 10 w → AllDigits 10 p → length p ≤ scale → count ≡ scale - length p → value ≡ digits_value_after 10 (digits_value 10 w) p
    → IfSome r (λ n. (n ≡ value * 10 ^ count) × (n < 10 ^ 19)) → IfSome r (λ n. SpellsScaled scale text n)
found_scaled scale text w p value count None w_is p_is more whole places few count_is value_is found = tt
found_scaled scale text w p value count (Some n) w_is p_is more whole places few count_is value_is found =
    to_spelling scale text n w p w_is p_is more
    (record {
      whole = whole;
      places = places;
      few = few;
      value = parted_value scale count value w p n few count_is value_is found.0;
      short = found.1;
    })

pub none_scaled : (scale : ℕ) (text w p : List ℕ) (value count : ℕ) (r : Option ℕ) → w ≡ before_first is_point text
    → p ≡ after_first is_point text
    → count ≡ scale - length p → value ≡ digits_value_after 10 (digits_value 10 w) p
    → IfNone r (10 ^ 19 ≤ value * 10 ^ count) → IfNone r ((n : ℕ) → SpellsScaled scale text n → ⊥)
none_scaled scale text w p value count None w_is p_is count_is value_is none = λ n s.
    omega (arith, none, scaled_short scale count value w p n (of_spelling scale text n w p w_is p_is s) count_is value_is)
none_scaled scale text w p value count (Some n) w_is p_is count_is value_is none = tt

-- no number without a sign begins with `-`
pub no_minus : (scale : ℕ) (rest : List ℕ) (n : ℕ) → SpellsScaled scale (45 ∷ rest) n → ⊥
no_minus scale rest n s = first_byte s.whole s.places rest s.whole_digits s.parts where
  first_byte : (w p rest : List ℕ) → IsNumeral 10 w → 45 ∷ rest ≡ w ++ point_and p → ⊥
  first_byte [] p rest numeral parts = omega (arith, numeral.0)
  first_byte (c ∷ cs) p rest numeral parts =
      omega (arith, digit_at (c ∷ cs) 0 numeral.1 (omega arith), ap (λ xs. get_or xs 0 0) parts)

-- what spells no number, where a `-` stands in front and where none does
pub none_negative : (scale : ℕ) (text rest : List ℕ) → text ≡ 45 ∷ rest → ((n : ℕ) → SpellsScaled scale rest n → ⊥) → (z : ℤ)
    → SpellsDecimal scale text z → ⊥
none_negative scale text rest begins none z (inl (n, s, is)) =
    let P : List ℕ → Type 0 = λ x. SpellsScaled scale x n in
    no_minus scale rest n (subst P begins s)
none_negative scale text rest begins none z (inr (n, other, other_begins, s, is)) =
    let P : List ℕ → Type 0 = λ x. SpellsScaled scale x n in
    let same : other ≡ rest = ap (drop 1) (sym other_begins ∙ begins) in
    none n (subst P same s)

pub none_positive : (scale : ℕ) (text : List ℕ) → ((rest : List ℕ) → text ≡ 45 ∷ rest → ⊥) → ((n : ℕ) → SpellsScaled scale text n → ⊥)
    → (z : ℤ) → SpellsDecimal scale text z → ⊥
none_positive scale text unsigned none z (inl (n, s, is)) = none n s
none_positive scale text unsigned none z (inr (n, rest, begins, s, is)) = unsigned rest begins

size_of : (n : ℕ) → unsigned_abs (pos 0 -ℤ pos n) ≡ n
size_of n = omega (arith, ints)

-- a decimal has at most 19 digits
pub decimal_short : (scale : ℕ) (text : List ℕ) (z : ℤ) → SpellsDecimal scale text z → unsigned_abs z < 10 ^ 19
decimal_short scale text z (inl (n, s, is)) = omega (arith, s.short, ap unsigned_abs is)
decimal_short scale text z (inr (n, rest, begins, s, is)) = omega (arith, s.short, ap unsigned_abs is, size_of n)

-- a text spells one number at the most
pub one_scaled : (scale : ℕ) (text : List ℕ) (m n : ℕ) → SpellsScaled scale text m → SpellsScaled scale text n → m ≡ n
one_scaled scale text m n first second =
    let w = before_first is_point text in
    let p = after_first is_point text in
    let one = of_spelling scale text m w p refl refl first in
    let other = of_spelling scale text n w p refl refl second in
    one.value ∙ sym other.value

pub one_decimal : (scale : ℕ) (text : List ℕ) (y z : ℤ) → SpellsDecimal scale text y → SpellsDecimal scale text z → y ≡ z
one_decimal scale text y z (inl (m, s, y_is)) (inl (n, t, z_is)) = y_is ∙ ap pos (one_scaled scale text m n s t) ∙ sym z_is
one_decimal scale text y z (inl (m, s, y_is)) (inr (n, rest, begins, t, z_is)) =
    let P : List ℕ → Type 0 = λ x. SpellsScaled scale x m in
    absurd (no_minus scale rest m (subst P begins s))
one_decimal scale text y z (inr (m, rest, begins, s, y_is)) (inl (n, t, z_is)) =
    let P : List ℕ → Type 0 = λ x. SpellsScaled scale x n in
    absurd (no_minus scale rest n (subst P begins t))
one_decimal scale text y z (inr (m, rest, begins, s, y_is)) (inr (n, other, other_begins, t, z_is)) =
    let P : List ℕ → Type 0 = λ x. SpellsScaled scale x n in
    let same : other ≡ rest = ap (drop 1) (sym other_begins ∙ begins) in
    y_is ∙ ap (λ k. pos 0 -ℤ pos k) (one_scaled scale rest m n s (subst P same t)) ∙ sym z_is

-- a text of no bytes spells nothing, nor does `-` alone
nothing_scaled : (scale n : ℕ) → SpellsScaled scale [] n → ⊥
nothing_scaled scale n s =
    omega (arith, s.whole_digits.0, ap length s.parts, length-append s.whole (point_and s.places))

pub nothing_decimal : (scale : ℕ) (z : ℤ) → SpellsDecimal scale [] z → ⊥
nothing_decimal scale z (inl (n, s, is)) = nothing_scaled scale n s
nothing_decimal scale z (inr (n, rest, begins, s, is)) = cc

pub hyphen_decimal : (scale : ℕ) (z : ℤ) → SpellsDecimal scale (45 ∷ []) z → ⊥
hyphen_decimal scale z (inl (n, s, is)) = no_minus scale [] n s
hyphen_decimal scale z (inr (n, rest, begins, s, is)) =
    let P : List ℕ → Type 0 = λ x. SpellsScaled scale x n in
    let same : rest ≡ [] = sym (ap (drop 1) begins) in
    nothing_scaled scale n (subst P same s)
