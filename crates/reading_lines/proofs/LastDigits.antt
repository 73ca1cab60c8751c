-- The last digits of a number: what they are worth, and how they come out of `decimal`.
use Rattle.std.proofs.Common.{◌≡◌, ℕ, zero, suc, ◌+◌, ◌*◌, ◌/◌, ◌%◌, ◌^◌, ◌<◌, ◌≤◌, List, [], ◌∷◌, ◌++◌, length, drop, refl, ap, sym, ◌∙◌}
use Rattle.std.proofs.Common.{arith, length-append}
use Rattle.std.specs.Char.{digit_value}
use Rattle.std.specs.Int.{IsInRange}
use Rattle.std.specs.Fmt.{decimal}
use Rattle.std.specs.Str.Parse.{AllDigits, digits_value}
use Rattle.std.proofs.Math.Nat.{pow-suc, one-le-pow}
use Rattle.std.proofs.lemmas.Nat.{div-add-mod', mod_below}
use Rattle.std.proofs.lemmas.Str.{digit_value_digit}
use Rattle.std.proofs.lemmas.Int.Digits.{digits_value_push, digits_push}
use Rattle.std.proofs.lemmas.Fmt.{decimal_digit, decimal_step}
use Rattle.csv_load.specs.Decimals.{point_and}
use Rattle.reading_lines.specs.Lines.{last_digits}

-- a digit's value
one_digit : (d : ℕ) → d < 10 → digit_value (48 + d) ≡ d
one_digit d small =
    let digit : IsInRange 48 57 (48 + d) = (omega arith, omega arith) in
    omega (arith, digit_value_digit (48 + d) digit)

pub last_are_digits : (s n : ℕ) → AllDigits 10 (last_digits s n)
unfolding last_digits
last_are_digits zero n = tt
last_are_digits (suc s) n =
    let small : digit_value (48 + n % 10) < 10 = omega (arith, one_digit (n % 10) (omega arith)) in
    digits_push 10 (last_digits s (n / 10)) (48 + n % 10) (last_are_digits s (n / 10)) small

pub length_last : (s n : ℕ) → length (last_digits s n) ≡ s
unfolding last_digits
length_last zero n = refl
length_last (suc s) n =
    omega (arith, length-append (last_digits s (n / 10)) ((48 + n % 10) ∷ []), length_last s (n / 10))

-- a number of one place more, by its parts
tenth : (n q p r : ℕ) → n ≡ q * (p * 10) + r → n / 10 ≡ q * p + r / 10
tenth n q p r is = omega (arith, is)

unit_of : (n q p r : ℕ) → n ≡ q * (p * 10) + r → n % 10 ≡ r % 10
unit_of n q p r is = omega (arith, is)

-- what the last digits are worth
pub last_value : (s n q r : ℕ) → n ≡ q * 10 ^ s + r → r < 10 ^ s → digits_value 10 (last_digits s n) ≡ r
unfolding last_digits
last_value zero n q r is small = omega (arith, small)
last_value (suc s) n q r is small =
    let power = pow-suc 10 s in
    let parts : n ≡ q * (10 ^ s * 10) + r = is ∙ ap (λ p. q * p + r) power in
    let front = last_value s (n / 10) q (r / 10) (tenth n q (10 ^ s) r parts) (omega (arith, small, power)) in
    omega (
      arith,
      digits_value_push 10 (last_digits s (n / 10)) (48 + n % 10),
      one_digit (n % 10) (omega arith),
      front,
      unit_of n q (10 ^ s) r parts,
    )

-- with a 1 in front the last digits are a number's digits
pub with_one : (s n q r : ℕ) → 10 ^ s ≤ 10 ^ 9 → n ≡ q * 10 ^ s + r → r < 10 ^ s → decimal (10 ^ s + r) ≡ 49 ∷ last_digits s n
unfolding last_digits
with_one zero n q r low is small =
    let none : 10 ^ 0 + r ≡ 1 = omega (arith, small) in
    ap decimal none ∙ decimal_digit 1 (omega arith)
with_one (suc s) n q r low is small =
    let power = pow-suc 10 s in
    let parts : n ≡ q * (10 ^ s * 10) + r = is ∙ ap (λ p. q * p + r) power in
    let some : 1 ≤ 10 ^ s = one-le-pow s 10 (omega arith) in
    let whole : 10 ^ suc s + r ≡ 10 ^ s * 10 + r = ap (λ p. p + r) power in
    let front : (10 ^ s * 10 + r) / 10 ≡ 10 ^ s + r / 10 = omega arith in
    let back : (10 ^ s * 10 + r) % 10 ≡ n % 10 = omega (arith, unit_of n q (10 ^ s) r parts) in
    ap decimal whole
    ∙ decimal_step (10 ^ s * 10 + r) (omega (arith, some)) (omega (arith, low, power, small))
    ∙ ap (λ m. decimal m ++ (48 + (10 ^ s * 10 + r) % 10) ∷ []) front
    ∙ ap (λ d. decimal (10 ^ s + r / 10) ++ (48 + d) ∷ []) back
    ∙ ap (λ ds. ds ++ (48 + n % 10) ∷ []) (with_one s (n / 10) q (r / 10) (omega (arith, low, power)) (tenth n q (10 ^ s) r parts)
    (omega (arith, small, power)))

-- a point in place of that 1
point_some : (ds : List ℕ) → 0 < length ds → 46 ∷ ds ≡ point_and ds
point_some [] some = absurd (omega (arith, some))
point_some (d ∷ ds) some = refl

pub pointed : (s n p : ℕ) (tail : List ℕ) → 0 < s → p ≡ 10 ^ s → 10 ^ s ≤ 10 ^ 9
    → 46 ∷ drop 1 (decimal (p + n % p) ++ tail) ≡ point_and (last_digits s n) ++ tail
pointed s n p tail some is low =
    let unit : 1 ≤ 10 ^ s = one-le-pow s 10 (omega arith) in
    let digits : decimal (10 ^ s + n % 10 ^ s) ≡ 49 ∷ last_digits s n =
    with_one s n (n / 10 ^ s) (n % 10 ^ s) low (sym (div-add-mod' n (10 ^ s))) (mod_below n (10 ^ s) unit) in
    ap (λ u. 46 ∷ drop 1 (decimal (u + n % u) ++ tail)) is
    ∙ ap (λ ds. 46 ∷ drop 1 (ds ++ tail)) digits
    ∙ ap (λ ds. ds ++ tail) (point_some (last_digits s n) (omega (arith, length_last s n, some)))
