-- Digits, and digits that follow a number.
use Rattle.std.proofs.Common.{◌≡◌, ℕ, ◌+◌, ◌*◌, ◌^◌, ◌<◌, ◌≤◌, List, [], ◌∷◌, length, ap, sym, ◌∙◌, arith, add-one, take, drop, get_or, ◌-◌}
use Rattle.std.specs.Char.{digit_value}
use Rattle.std.specs.Str.Parse.{AllDigits, digits_value, digits_value_after}
use Rattle.std.proofs.Math.Nat.{pow-suc, pow-le-pow_right, mul_assoc, add-mul, mul-le-mul_left}
use Rattle.std.proofs.Math.Seq.{drop-cons}
use Rattle.std.proofs.lemmas.Str.{digit_value_digit}
use Rattle.std.proofs.lemmas.Int.Digits.{digits_more}
use Rattle.std.specs.Int.{IsInRange}

-- a number only grows by digits behind it
pub after-ge : (n : ℕ) (ds : List ℕ) → n ≤ digits_value_after 10 n ds
after-ge n [] = omega arith
after-ge n (c ∷ cs) = omega (arith, after-ge (n * 10 + digit_value c) cs)

moved : (n d p q v l r : ℕ) → q ≡ p * 10 → l ≡ (n * 10 + d) * p + v → r ≡ (0 * 10 + d) * p + v → l ≡ n * q + r
moved n d p q v l r more whole tail =
    let turned : 10 * p ≡ q = omega (arith, more) in
    let front : n * 10 * p ≡ n * q = mul_assoc n 10 p ∙ ap (λ x. n * x) turned in
    let bare : 0 * 10 + d ≡ d = omega arith in
    let digit : (0 * 10 + d) * p ≡ d * p = ap (λ x. x * p) bare in
    omega (arith, whole, tail, front, digit, add-mul (n * 10) d p)

-- the number in front moves up by so many places
pub after_is : (n : ℕ) (ds : List ℕ) → digits_value_after 10 n ds ≡ n * 10 ^ length ds + digits_value 10 ds
after_is n [] = omega arith
after_is n (c ∷ cs) =
    moved n (digit_value c) (10 ^ length cs) (10 ^ length (c ∷ cs)) (digits_value 10 cs) _ _
    (pow-suc 10 (length cs)) (after_is (n * 10 + digit_value c) cs) (after_is (0 * 10 + digit_value c) cs)

-- a zero more
pub more_zeros : (v n i : ℕ) → v ≡ n * 10 ^ i → v * 10 ≡ n * 10 ^ (i + 1)
more_zeros v n i is =
    let more : 10 ^ (i + 1) ≡ 10 ^ i * 10 = ap (λ k. 10 ^ k) (add-one i) ∙ pow-suc 10 i in
    ap (λ x. x * 10) is ∙ mul_assoc n (10 ^ i) 10 ∙ ap (λ x. n * x) (sym more)

-- a number with more zeros behind it is no smaller
times-le : (n i k : ℕ) → i ≤ k → n * 10 ^ i ≤ n * 10 ^ k
times-le n i k le =
    let some : 0 < 10 = omega arith in
    mul-le-mul_left n (pow-le-pow_right some le)

-- with no room for a zero more, the number with all zeros has more than 19 digits
pub zeros_full : (v n i k : ℕ) → v ≡ n * 10 ^ i → i < k → 10 ^ 18 ≤ v → 10 ^ 19 ≤ n * 10 ^ k
zeros_full v n i k is less full =
    let le : i + 1 ≤ k = omega (arith, less) in
    omega (arith, more_zeros v n i is, times-le n (i + 1) k le, full)

-- the digit at a place comes first of those from there on
from_here : (n i : ℕ) (ds : List ℕ) → i < length ds
    → digits_value_after 10 n (drop i ds) ≡ digits_value_after 10 (n * 10 + digit_value (get_or ds i 0)) (drop (i + 1) ds)
from_here n i ds inside =
    ap (digits_value_after 10 n) (drop-cons ds i 0 inside)
    ∙ ap (λ k. digits_value_after 10 (n * 10 + digit_value (get_or ds i 0)) (drop k ds)) (sym (add-one i))

-- a digit more
pub more_value : (n i d whole : ℕ) (ds : List ℕ) → i < length ds → IsInRange 48 57 (get_or ds i 0) → d ≡ get_or ds i 0 - 48
    → digits_value_after 10 n (drop i ds) ≡ whole → digits_value_after 10 (n * 10 + d) (drop (i + 1) ds) ≡ whole
more_value n i d whole ds inside digit d_is is =
    let same : d ≡ digit_value (get_or ds i 0) = omega (arith, digit_value_digit (get_or ds i 0) digit, digit, d_is) in
    ap (λ x. digits_value_after 10 (n * 10 + x) (drop (i + 1) ds)) same ∙ sym (from_here n i ds inside) ∙ is

pub more_digits : (i : ℕ) (ds : List ℕ) → i < length ds → AllDigits 10 (take i ds) → IsInRange 48 57 (get_or ds i 0)
    → AllDigits 10 (take (i + 1) ds)
more_digits i ds inside digits digit =
    let small : digit_value (get_or ds i 0) < 10 = omega (arith, digit_value_digit (get_or ds i 0) digit, digit) in
    digits_more 10 ds i inside digits small

-- with no room for the digit at a place, the number has more than 19 digits
pub value_full : (n i whole : ℕ) (ds : List ℕ) → i < length ds → 10 ^ 18 ≤ n → digits_value_after 10 n (drop i ds) ≡ whole → 10 ^ 19 ≤ whole
value_full n i whole ds inside full is =
    omega (arith, full, is, from_here n i ds inside, after-ge (n * 10 + digit_value (get_or ds i 0)) (drop (i + 1) ds))
