-- The tests of a number's text hold exactly where it spells a number, and its reading gives that one.
use Rattle.std.proofs.Common.{◌≡◌, ℕ, zero, suc, ℤ, pos, negsuc, ◌+◌, ◌*◌, ◌-◌, ◌-ℤ◌, ◌^◌, ◌<◌, ◌≤◌, true, false, ◌&&◌, ◌==◌, List, [], ◌∷◌}
use Rattle.std.proofs.Common.{length, take, drop, get_or, inl, inr, refl, sym, subst, ap, ◌∙◌, arith, lit≤}
use Rattle.std.specs.Char.{is_ascii_digit}
use Rattle.std.specs.List.{list_all}
use Rattle.std.specs.Str.{all_ascii_digits}
use Rattle.std.specs.Fmt.{decimal}
use Rattle.std.specs.Str.Parse.{digits_value, AllDigits}
use Rattle.std.proofs.lemmas.Int.{ints}
use Rattle.std.proofs.lemmas.Bool.{and_parts, and_from, cases_Bool, true≢false}
use Rattle.std.proofs.lemmas.Bool.Decides.{nat_tests}
use Rattle.std.specs.Prelude.{not, nat_le, slice_index}
use Rattle.std.proofs.lemmas.Fmt.{first_decimal, decimal_digit}
use Rattle.std.proofs.lemmas.Int.Digits.{digits_value_more}
use Rattle.std.proofs.lemmas.Str.{digit_value_digit}
use Rattle.std.proofs.lemmas.Str.Parse.{IsNumeralModel, numerals_by_value, tells_all_ascii_digits, digits_value-take-le, digits_value_short}
use Rattle.std.proofs.lemmas.Str.Parse.{digit_at}
use Rattle.whole_number.specs.Numbers.{is_natural, natural_value, is_negative, is_integer, integer_value}
use Rattle.whole_number.specs.Spelling.{SpellsNatural, SpellsInteger}
use Rattle.whole_number.proofs.Digits.{spelling_digits, spelling_some, spelling_short, spelling_first, spells_value, no_dash, begins_dash}

-- the two words for a text of digits
same_digits : (bytes : List ℕ) → list_all is_ascii_digit bytes ≡ all_ascii_digits bytes
same_digits [] = refl
same_digits (byte ∷ bytes) = ap (λ b. is_ascii_digit byte && b) (same_digits bytes)

-- a natural number is a text of digits
all_digits : (bytes : List ℕ) → list_all is_ascii_digit bytes ≡ true → AllDigits 10 bytes
all_digits bytes digits =
    (numerals_by_value (λ ds. all_ascii_digits ds ≡ true) tells_all_ascii_digits).to bytes (sym (same_digits bytes) ∙ digits)

-- what a natural number is made of
pub natural_parts : (text : List ℕ) → is_natural text ≡ true
    → (list_all is_ascii_digit text ≡ true) × (1 ≤ length text) × (length text ≤ 19)
unfolding is_natural
natural_parts text natural = grind (arith, nat_tests)

-- a natural number of more than one digit doesn't begin with 0
natural_first : (text : List ℕ) → is_natural text ≡ true → get_or text 0 0 ≡ 48 → length text ≡ 1
unfolding is_natural
natural_first text natural first = grind (arith, nat_tests)

pub natural_digits : (text : List ℕ) → is_natural text ≡ true → AllDigits 10 text
natural_digits text natural = all_digits text (natural_parts text natural).0

-- texts of digits and their number, in std's words
model : IsNumeralModel (λ ds. all_ascii_digits ds ≡ true) (digits_value 10)
model = numerals_by_value (λ ds. all_ascii_digits ds ≡ true) tells_all_ascii_digits

-- a natural number is below 10^19
pub natural_short : (text : List ℕ) → is_natural text ≡ true → digits_value 10 text < 10 ^ 19
natural_short text natural =
    let parts = natural_parts text natural in
    digits_value_short model text 19 (sym (same_digits text) ∙ parts.0) parts.2

-- one digit more
pub record IsStep (text : List ℕ) (i : ℕ) : Type 0 where
  pub least : 48 ≤ get_or text i 0
  pub value : digits_value 10 (take (i + 1) text) ≡ digits_value 10 (take i text) * 10 + (get_or text i 0 - 48)
  pub small : digits_value 10 (take (i + 1) text) < 10 ^ 19

pub natural_step : (text : List ℕ) (i : ℕ) → is_natural text ≡ true → i < length text → IsStep text i
natural_step text i natural within =
    let digits : AllDigits 10 text = natural_digits text natural in
    let here = digit_at text i digits within in
    let more = digits_value_more 10 text i within in
    let less = digits_value-take-le 10 text (i + 1) (lit≤ tt) in
    record {
      least = here.0;
      value = omega (arith, more, digit_value_digit (get_or text i 0) here, here.0);
      small = omega (arith, less, natural_short text natural);
    }

-- a text that passes the test spells its value
pub natural_spelt : (text : List ℕ) → is_natural text ≡ true → SpellsNatural text (natural_value text)
natural_spelt text natural =
    let parts = natural_parts text natural in
    spells_value text (natural_digits text natural) parts.1 parts.2 (natural_first text natural)

-- the parts of the test make it
natural_made : (text : List ℕ) → list_all is_ascii_digit text ≡ true → 1 ≤ length text → length text ≤ 19
    → (get_or text 0 0 ≡ 48 → length text ≤ 1) → is_natural text ≡ true
unfolding is_natural
natural_made text digits some short first = grind (arith, nat_tests)

-- a text that spells a number passes the test
pub spelt_natural : (text : List ℕ) (n : ℕ) → SpellsNatural text n → is_natural text ≡ true
spelt_natural text n spells =
    let digits : list_all is_ascii_digit text ≡ true = same_digits text ∙ model.from text (spelling_digits text n spells) in
    natural_made text digits (spelling_some text n spells) (spelling_short text n spells) (spelling_first text n spells)

-- the first digit of a number above 0 isn't 0
above_zero : (text : List ℕ) (n : ℕ) → SpellsNatural text n → (get_or text 0 0 ≡ 48 → ⊥) → 0 < n
above_zero text zero spells first =
    let e : decimal 0 ≡ 48 ∷ [] = decimal_digit 0 (omega arith) in
    absurd (first (ap (λ ds. get_or ds 0 0) (spells.0 ∙ e)))
above_zero text (suc n) spells first = omega arith

behind_some : (text : List ℕ) (n : ℕ) → SpellsNatural text (suc n) → get_or text 0 0 ≡ 48 → ⊥
behind_some text n spells zero_first =
    let small : suc n < 2 ^ 64 = omega (arith, spells.1) in
    absurd (omega (arith, first_decimal (suc n) (omega arith) small, ap (λ ds. get_or ds 0 0) spells.0, zero_first))

-- the same of a number below 0
below_zero : (text : List ℕ) (n : ℕ) → text ≡ 45 ∷ drop 1 text → SpellsNatural (drop 1 text) n → 0 < n → SpellsInteger text (pos 0 -ℤ pos n)
below_zero text zero dash spells some = absurd (omega (arith, some))
below_zero text (suc n) dash spells some =
    let below : pos 0 -ℤ pos (suc n) ≡ negsuc n = omega (arith, ints) in
    let P : ℤ → Type 0 = λ z. SpellsInteger text z in
    subst P (sym below) (dash ∙ ap (λ ds. 45 ∷ ds) spells.0, spells.1)

-- the two halves of the test of an integer
positive : (text : List ℕ) → is_negative text ≡ false → is_integer text ≡ is_natural text
unfolding is_integer
positive text sign = rw sign refl

positive_value : (text : List ℕ) → is_negative text ≡ false → integer_value text ≡ pos (natural_value text)
unfolding integer_value
positive_value text sign = rw sign refl

negative : (text : List ℕ) → is_negative text ≡ true
    → is_integer text ≡ (nat_le 2 (length text) && not (slice_index text 1 == 48) && is_natural (drop 1 text))
unfolding is_integer
negative text sign = rw sign refl

negative_value : (text : List ℕ) → is_negative text ≡ true → integer_value text ≡ pos 0 -ℤ pos (natural_value (drop 1 text))
unfolding integer_value
negative_value text sign = rw sign refl

-- the byte behind the first
second : (text : List ℕ) → get_or (drop 1 text) 0 0 ≡ get_or text 1 0
second [] = refl
second (c ∷ cs) = refl

record AreParts (text : List ℕ) : Type 0 where
  some : 2 ≤ length text
  first : get_or text 1 0 ≡ 48 → ⊥
  natural : is_natural (drop 1 text) ≡ true

parts_of : (text : List ℕ) → (nat_le 2 (length text) && not (slice_index text 1 == 48) && is_natural (drop 1 text)) ≡ true → AreParts text
parts_of text h =
    let outer = and_parts (nat_le 2 (length text) && not (slice_index text 1 == 48)) (is_natural (drop 1 text)) h in
    let inner = and_parts (nat_le 2 (length text)) (not (slice_index text 1 == 48)) outer.0 in
    record {
      some = grind (arith, nat_tests, inner.0);
      first = λ zero_first. absurd (grind (arith, nat_tests, inner.1, zero_first));
      natural = outer.1;
    }

from_parts : (text : List ℕ) → AreParts text → (nat_le 2 (length text) && not (slice_index text 1 == 48) && is_natural (drop 1 text)) ≡ true
from_parts text h =
    and_from (nat_le 2 (length text) && not (slice_index text 1 == 48)) (is_natural (drop 1 text))
    (and_from (nat_le 2 (length text)) (not (slice_index text 1 == 48)) (grind (arith, nat_tests, h.some))
    (grind (arith, nat_tests, h.first)))
    h.natural

is_dash : (text : List ℕ) → is_negative text ≡ true → get_or text 0 0 ≡ 45
is_dash text sign = grind (arith, nat_tests)

dash_is : (text : List ℕ) → get_or text 0 0 ≡ 45 → is_negative text ≡ true
dash_is text first = grind (arith, nat_tests)

-- a text that passes the test of an integer spells its value
integer_negative : (text : List ℕ) → is_negative text ≡ true → is_integer text ≡ true → SpellsInteger text (integer_value text)
integer_negative text sign integer =
    let parts = parts_of text (sym (negative text sign) ∙ integer) in
    let spells : SpellsNatural (drop 1 text) (natural_value (drop 1 text)) = natural_spelt (drop 1 text) parts.natural in
    let some : 0 < natural_value (drop 1 text) = above_zero (drop 1 text) _ spells (λ e. parts.first (sym (second text) ∙ e)) in
    let dash : text ≡ 45 ∷ drop 1 text = begins_dash text (omega (arith, parts.some)) (is_dash text sign) in
    let P : ℤ → Type 0 = λ z. SpellsInteger text z in
    subst P (sym (negative_value text sign)) (below_zero text (natural_value (drop 1 text)) dash spells some)

integer_positive : (text : List ℕ) → is_negative text ≡ false → is_integer text ≡ true → SpellsInteger text (integer_value text)
integer_positive text sign integer =
    let spells : SpellsNatural text (natural_value text) = natural_spelt text (sym (positive text sign) ∙ integer) in
    let P : ℤ → Type 0 = λ z. SpellsInteger text z in
    subst P (sym (positive_value text sign)) spells

pub integer_spelt : (text : List ℕ) → is_integer text ≡ true → SpellsInteger text (integer_value text)
integer_spelt text integer = elim (cases_Bool (is_negative text)) [
  | inl sign ↦ integer_negative text sign integer
  | inr sign ↦ integer_positive text sign integer
]

-- a text that spells an integer passes the test
pub spelt_integer : (text : List ℕ) (z : ℤ) → SpellsInteger text z → is_integer text ≡ true
spelt_integer text (pos n) spells =
    elim (cases_Bool (is_negative text)) [
      | inl sign ↦
          let dash : text ≡ 45 ∷ drop 1 text = begins_dash text (spelling_some text n spells) (is_dash text sign) in
          absurd (no_dash n (drop 1 text) (sym dash ∙ spells.0, spells.1))
      | inr sign ↦ positive text sign ∙ spelt_natural text n spells
    ]
spelt_integer text (negsuc n) spells =
    let rest : SpellsNatural (drop 1 text) (suc n) = (ap (drop 1) spells.0, spells.1) in
    let dash : get_or text 0 0 ≡ 45 = ap (λ ds. get_or ds 0 0) spells.0 in
    let size : length text ≡ suc (length (decimal (suc n))) = ap length spells.0 in
    let some : 0 < length (drop 1 text) = spelling_some (drop 1 text) (suc n) rest in
    let few : length (drop 1 text) ≡ length (decimal (suc n)) = ap length rest.0 in
    negative text (dash_is text dash) ∙ from_parts text (record {
      some = omega (arith, size, some, few);
      first = λ zero_first. behind_some (drop 1 text) n rest (second text ∙ zero_first);
      natural = spelt_natural (drop 1 text) (suc n) rest;
    })

pub none_natural : (text : List ℕ) → is_natural text ≡ false → (n : ℕ) → SpellsNatural text n → ⊥
none_natural text failed n spells = true≢false (sym (spelt_natural text n spells) ∙ failed)

pub none_integer : (text : List ℕ) → is_integer text ≡ false → (z : ℤ) → SpellsInteger text z → ⊥
none_integer text failed z spells = true≢false (sym (spelt_integer text z spells) ∙ failed)
