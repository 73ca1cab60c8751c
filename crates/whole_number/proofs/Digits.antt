-- Digits, their value, and the one spelling of a number.
use Rattle.std.proofs.Common.{◌≡◌, ℕ, ◌<◌, ◌≤◌, ◌^◌, zero, suc, List, [], ◌∷◌, length, get_or, arith, subst, sym, ap, ◌∙◌, drop, ℤ, pos}
use Rattle.std.proofs.Common.{negsuc}
use Rattle.std.specs.Str.Parse.{AllDigits, digits_value}
use Rattle.std.specs.Fmt.{decimal}
use Rattle.std.proofs.lemmas.Str.Parse.{IsNumeralModel, numerals_by_value, tells_digits, digits_value_short}
use Rattle.std.proofs.lemmas.Fmt.{decimal_is_IsNumeral, length-decimal-le, first_decimal, decimal_digit, decimal-digits_value}
use Rattle.std.proofs.lemmas.Fmt.{decimal_injective}
use Rattle.whole_number.specs.Spelling.{SpellsNatural, SpellsInteger}

pub own : IsNumeralModel (AllDigits 10) (digits_value 10)
own = numerals_by_value (AllDigits 10) tells_digits

-- at most 19 digits are below 10 ^ 19
pub below : (k : ℕ) (ds : List ℕ) → AllDigits 10 ds → length ds ≤ k → digits_value 10 ds < 10 ^ k
below k ds digits short = digits_value_short own ds k digits short

-- a number's spelling has a digit and at most 19 of them
pub spelling_digits : (text : List ℕ) (n : ℕ) → SpellsNatural text n → AllDigits 10 text
spelling_digits text n spells =
    let small : n < 2 ^ 64 = omega (arith, spells.1) in
    subst (AllDigits 10) (sym spells.0) (decimal_is_IsNumeral n small).0.1

pub spelling_some : (text : List ℕ) (n : ℕ) → SpellsNatural text n → 0 < length text
spelling_some text n spells =
    let small : n < 2 ^ 64 = omega (arith, spells.1) in
    omega (arith, (decimal_is_IsNumeral n small).0.0, ap length spells.0)

pub spelling_short : (text : List ℕ) (n : ℕ) → SpellsNatural text n → length text ≤ 19
spelling_short text n spells =
    let small : n < 2 ^ 64 = omega (arith, spells.1) in
    let some : 0 < 19 = omega arith in
    omega (arith, length-decimal-le 19 n some spells.1 small, ap length spells.0)

-- the first digit of a number of two digits or more isn't 0
pub spelling_first : (text : List ℕ) (n : ℕ) → SpellsNatural text n → get_or text 0 0 ≡ 48 → length text ≤ 1
spelling_first text zero spells zero_first =
    let e : decimal 0 ≡ 48 ∷ [] = decimal_digit 0 (omega arith) in
    omega (arith, ap length spells.0, ap length e)
spelling_first text (suc n) spells zero_first =
    let small : suc n < 2 ^ 64 = omega (arith, spells.1) in
    absurd (omega (arith, first_decimal (suc n) (omega arith) small, ap (λ ds. get_or ds 0 0) spells.0))

-- digits with no leading zero are the spelling of their value
pub spells_value : (ds : List ℕ) → AllDigits 10 ds → 0 < length ds → length ds ≤ 19 → (get_or ds 0 0 ≡ 48 → length ds ≡ 1)
    → SpellsNatural ds (digits_value 10 ds)
spells_value ds digits some short first =
    let small : digits_value 10 ds < 10 ^ 19 = below 19 ds digits short in
    (sym (decimal-digits_value own ds digits some first (omega (arith, small))), small)

-- no number's digits begin with `-`
pub no_dash : (n : ℕ) (ds : List ℕ) → SpellsNatural (45 ∷ ds) n → ⊥
no_dash n ds spells = absurd (omega (arith, (spelling_digits (45 ∷ ds) n spells).0))

-- behind a `-` stands the spelling of a number other than 0
pub behind_dash : (ds : List ℕ) (z : ℤ) → SpellsInteger (45 ∷ ds) z → (n : ℕ) × (0 < n) × SpellsNatural ds n
behind_dash ds (pos n) spells = absurd (no_dash n ds spells)
behind_dash ds (negsuc n) spells = (suc n, omega arith, (ap (drop 1) spells.0, spells.1))

pub none_behind : (ds : List ℕ) → ((n : ℕ) → SpellsNatural ds n → ⊥) → (z : ℤ) → SpellsInteger (45 ∷ ds) z → ⊥
none_behind ds none z spells = let b = behind_dash ds z spells in none b.0 b.2

-- a text that begins with `-`, by what stands behind that
pub begins_dash : (text : List ℕ) → 0 < length text → get_or text 0 0 ≡ 45 → text ≡ 45 ∷ drop 1 text
begins_dash [] some first = absurd (omega (arith, some))
begins_dash (c ∷ cs) some first = ap (λ d. d ∷ cs) first

-- a text spells one number at the most
pub one_natural : (text : List ℕ) (m n : ℕ) → SpellsNatural text m → SpellsNatural text n → m ≡ n
one_natural text m n first second =
    let low : m < 2 ^ 64 = omega (arith, first.1) in
    let high : n < 2 ^ 64 = omega (arith, second.1) in
    decimal_injective m n low high (sym first.0 ∙ second.0)

pub one_integer : (text : List ℕ) (y z : ℤ) → SpellsInteger text y → SpellsInteger text z → y ≡ z
one_integer text (pos m) (pos n) first second = ap pos (one_natural text m n first second)
one_integer text (pos m) (negsuc n) first second = absurd (no_dash m (decimal (suc n)) (sym second.0 ∙ first.0, first.1))
one_integer text (negsuc m) (pos n) first second = absurd (no_dash n (decimal (suc m)) (sym first.0 ∙ second.0, second.1))
one_integer text (negsuc m) (negsuc n) first second =
    let same : suc m ≡ suc n = one_natural (drop 1 text) (suc m) (suc n) (ap (drop 1) first.0, first.1) (ap (drop 1) second.0, second.1) in
    ap negsuc (cc)
