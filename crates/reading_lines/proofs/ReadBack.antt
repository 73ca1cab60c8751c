-- The row of a reading is read back as that reading.
use Rattle.std.proofs.Common.{◌≡◌, ◌≢◌, ℕ, zero, suc, ℤ, pos, negsuc, ◌-ℤ◌, unsigned_abs, ◌+◌, ◌-◌, ◌*◌, ◌/◌, ◌%◌, ◌^◌, ◌<◌, ◌≤◌, true}
use Rattle.std.proofs.Common.{false, List, [], ◌∷◌, ◌++◌, length, take, get_or, reverse, Option, Some, refl, ap, sym, subst, ◌∙◌, arith}
use Rattle.std.proofs.Common.{inl, inr, length-append}
use Rattle.std.specs.List.{All, AllPass, AllByRecursion, prefix_len}
use Rattle.std.specs.Int.{IsInRange}
use Rattle.std.specs.Option.{IsSomeAnd}
use Rattle.std.specs.Fmt.{decimal, signed_decimal}
use Rattle.std.specs.Str.Parse.{AllDigits, digits_value}
use Rattle.std.proofs.Math.Nat.{one-le-pow}
use Rattle.std.proofs.Math.Seq.{take-append_seam}
use Rattle.std.proofs.lemmas.Nat.{div-add-mod', mod_below}
use Rattle.std.proofs.lemmas.Int.{ints}
use Rattle.std.proofs.lemmas.Bool.Decides.{nat_tests}
use Rattle.std.proofs.lemmas.Grind.{common_steps, reverse_onto}
use Rattle.std.proofs.lemmas.Str.Parse.{digit_from_value}
use Rattle.std.proofs.lemmas.Fmt.{decimal_is_IsNumeral, length-decimal-le}
use Rattle.csv_load.specs.Decimals.{point_and, SpellsScaled, SpellsDecimal}
use Rattle.csv_load.specs.Fields.{Fields, is_plain, is_space, trimmed, fields_of_line}
use Rattle.csv_load.specs.Rows.{FieldsSay, Says}
use Rattle.csv_load.specs.declared.row.Row.TheVariants.{Point}
use Rattle.reading_lines.specs.Lines.{last_digits, size_text, decimal_text, reading_row}
use Rattle.reading_lines.proofs.LastDigits.{last_are_digits, length_last, last_value}

-- a byte from `-` to `9`, as those of a number's text are
abbrev pub IsMark : ℕ → Type 0
IsMark c = IsInRange 45 57 c

pub marks_digits : (ds : List ℕ) → AllDigits 10 ds → AllByRecursion IsMark ds
marks_digits [] digits = tt
marks_digits (c ∷ cs) digits =
    let here = digit_from_value c digits.0 in
    let mark : IsMark c = (omega (arith, here), omega (arith, here)) in
    (mark, marks_digits cs digits.1)

marks_append : (xs ys : List ℕ) → AllByRecursion IsMark xs → AllByRecursion IsMark ys → AllByRecursion IsMark (xs ++ ys)
marks_append [] ys first second = second
marks_append (x ∷ xs) ys first second = (first.0, marks_append xs ys first.1 second)

marks_reverse : (xs : List ℕ) → AllByRecursion IsMark xs → AllByRecursion IsMark (reverse xs)
marks_reverse [] marks = tt
marks_reverse (x ∷ xs) marks =
    subst (AllByRecursion IsMark) (sym (reverse_onto xs x [])) (marks_append (reverse xs) (x ∷ []) (marks_reverse xs marks.1) (marks.0, tt))

mark_plain : (c : ℕ) → IsMark c → is_plain c ≡ true
mark_plain c mark = grind (arith, nat_tests, mark)

pub mark_no_space : (c : ℕ) → IsMark c → is_space c ≡ false
mark_no_space c mark = grind (arith, nat_tests, mark)

-- such a text has nothing in it that means anything to `csv`
marks_plain : (xs : List ℕ) → AllByRecursion IsMark xs → AllPass is_plain xs
marks_plain [] marks k d inside = absurd (omega (arith, inside))
marks_plain (x ∷ xs) marks zero d inside = mark_plain x marks.0
marks_plain (x ∷ xs) marks (suc k) d inside = marks_plain xs marks.1 k d (omega (arith, inside))

no_front : (xs : List ℕ) → AllByRecursion IsMark xs → prefix_len is_space xs ≡ 0
no_front [] marks = refl
no_front (x ∷ xs) marks = rw (mark_no_space x marks.0) refl

-- nor is it any shorter without the spaces at its ends
same_trimmed : (xs : List ℕ) → AllByRecursion IsMark xs → trimmed xs ≡ xs
unfolding trimmed
same_trimmed xs marks =
    let front = no_front xs marks in
    let behind = no_front (reverse xs) (marks_reverse xs marks) in
    rw (front, behind) (all_taken xs)
  where
    all_taken : (ys : List ℕ) → take (length ys - 0) ys ≡ ys
    all_taken ys = grind (arith, common_steps)

marks_point : (ds : List ℕ) → AllDigits 10 ds → AllByRecursion IsMark (point_and ds)
marks_point [] digits = tt
marks_point (d ∷ ds) digits = ((omega arith, omega arith), marks_digits (d ∷ ds) digits)

quotient_le : (s n : ℕ) → n / 10 ^ s ≤ n
quotient_le s n = less n (10 ^ s) (one-le-pow s 10 (omega arith)) where
  less : (n p : ℕ) → 1 ≤ p → n / p ≤ n
  less n p some = grind (arith, div-add-mod' n p)

quotient_small : (s n : ℕ) → n < 10 ^ 19 → n / 10 ^ s < 2 ^ 64
quotient_small s n small = omega (arith, small, quotient_le s n)

marks_size : (s n : ℕ) → n < 10 ^ 19 → AllByRecursion IsMark (size_text s n)
marks_size s n small =
    marks_append (decimal (n / 10 ^ s)) (point_and (last_digits s n))
    (marks_digits (decimal (n / 10 ^ s)) (decimal_is_IsNumeral (n / 10 ^ s) (quotient_small s n small)).0.1)
    (marks_point (last_digits s n) (last_are_digits s n))

marks_value : (s : ℕ) (z : ℤ) → unsigned_abs z < 10 ^ 19 → AllByRecursion IsMark (decimal_text s z)
marks_value s (pos n) small = marks_size s n small
marks_value s (negsuc n) small = ((omega arith, omega arith), marks_size s (suc n) small)

pub marks_time : (z : ℤ) → unsigned_abs z < 10 ^ 19 → AllByRecursion IsMark (signed_decimal z)
marks_time (pos n) small = marks_digits (decimal n) (decimal_is_IsNumeral n (omega (arith, small))).0.1
marks_time (negsuc n) small = (
  (omega arith, omega arith),
  marks_digits (decimal (suc n)) (decimal_is_IsNumeral (suc n) (omega (arith, small))).0.1,
)

-- the text of a size is that number, scaled
scaled_parts : (w p v s k : ℕ) → k ≡ 0 → v ≡ w * p + s → v ≡ w * p + s * 10 ^ k
scaled_parts w p v s k none is = rw none (omega (arith, is))

spells_size : (s n : ℕ) → n < 10 ^ 19 → SpellsScaled s (size_text s n) n
spells_size s n small =
    let some : 1 ≤ 10 ^ s = one-le-pow s 10 (omega arith) in
    let split : n ≡ n / 10 ^ s * 10 ^ s + n % 10 ^ s = sym (div-add-mod' n (10 ^ s)) in
    let numeral = decimal_is_IsNumeral (n / 10 ^ s) (quotient_small s n small) in
    let behind : digits_value 10 (last_digits s n) ≡ n % 10 ^ s = last_value s n (n / 10 ^ s) (n % 10 ^ s) split
    (mod_below n (10 ^ s) some) in
    let long = length_last s n in
    let both : n ≡ digits_value 10 (decimal (n / 10 ^ s)) * 10 ^ s + digits_value 10 (last_digits s n) =
    split ∙ ap (λ w. w * 10 ^ s + n % 10 ^ s) (sym numeral.1)
    ∙ ap (λ v. digits_value 10 (decimal (n / 10 ^ s)) * 10 ^ s + v) (sym behind) in
    record {
      whole = decimal (n / 10 ^ s);
      places = last_digits s n;
      parts = refl;
      whole_digits = numeral.0;
      place_digits = last_are_digits s n;
      few = omega (arith, long);
      value = scaled_parts (digits_value 10 (decimal (n / 10 ^ s))) (10 ^ s) n (digits_value 10 (last_digits s n))
          (s - length (last_digits s n)) (omega (arith, long)) both;
      short = small;
    }

below_zero : (n : ℕ) → negsuc n ≡ pos 0 -ℤ pos (suc n)
below_zero n = omega (arith, ints)

pub spells_value : (s : ℕ) (z : ℤ) → unsigned_abs z < 10 ^ 19 → SpellsDecimal s (decimal_text s z) z
spells_value s (pos n) small = inl (n, spells_size s n small, refl)
spells_value s (negsuc n) small = inr (suc n, size_text s (suc n), refl, spells_size s (suc n) small, below_zero n)

-- the texts of a time and a value, as csv_load's law of plain lines asks for them
pub plain_time : (z : ℤ) → unsigned_abs z < 10 ^ 19 → AllPass is_plain (signed_decimal z)
plain_time z small = marks_plain (signed_decimal z) (marks_time z small)

pub plain_value : (s : ℕ) (z : ℤ) → unsigned_abs z < 10 ^ 19 → AllPass is_plain (decimal_text s z)
plain_value s z small = marks_plain (decimal_text s z) (marks_value s z small)

pub trimmed_time : (z : ℤ) → unsigned_abs z < 10 ^ 19 → trimmed (signed_decimal z) ≡ signed_decimal z
trimmed_time z small = same_trimmed (signed_decimal z) (marks_time z small)

pub trimmed_value : (s : ℕ) (z : ℤ) → unsigned_abs z < 10 ^ 19 → trimmed (decimal_text s z) ≡ decimal_text s z
trimmed_value s z small = same_trimmed (decimal_text s z) (marks_value s z small)

first_mark : (xs rest : List ℕ) → AllByRecursion IsMark xs → get_or (xs ++ 44 ∷ rest) 0 0 ≢ 0xEF
first_mark [] rest marks = λ e. omega (arith, e)
first_mark (x ∷ xs) rest marks = λ e. omega (arith, e, marks.0)

pub no_mark : (z : ℤ) (rest : List ℕ) → unsigned_abs z < 10 ^ 19 → get_or (signed_decimal z ++ 44 ∷ rest) 0 0 ≢ 0xEF
no_mark z rest small = first_mark (signed_decimal z) rest (marks_time z small)

-- a line that is these two fields says the reading
pub says_of : (scale : ℕ) (time value : ℤ) → unsigned_abs time < 10 ^ 19 → unsigned_abs value < 10 ^ 19
    → fields_of_line (signed_decimal time ++ 44 ∷ decimal_text scale value) ≡ Some
    (record { time = trimmed (signed_decimal time); value = trimmed (decimal_text scale value) })
    → Says scale (reading_row scale time value) (Point time value)
says_of scale time value small_time small_value is =
    let build : List ℕ → List ℕ → Option Fields = λ t v. Some (record { time = t; value = v }) in
    let t = signed_decimal time in
    let v = decimal_text scale value in
    let fields : fields_of_line (reading_row scale time value) ≡ build t v =
    is ∙ ap (λ x. build x (trimmed v)) (trimmed_time time small_time) ∙ ap (build t) (trimmed_value scale value small_value) in
    let P : Option Fields → Type 0 = λ o. IsSomeAnd o (λ f. FieldsSay scale f (Point time value)) in
    subst P (sym fields) ((refl, small_time), spells_value scale value small_value)

-- two rows with the same line are the same
pub without_feed : (one other : List ℕ) → one ++ 10 ∷ [] ≡ other ++ 10 ∷ [] → one ≡ other
without_feed one other same =
    let n : length one ≡ length other = omega (arith, ap length same, length-append one (10 ∷ []), length-append other (10 ∷ [])) in
    sym (take-append_seam one (10 ∷ [])) ∙ ap (λ xs. take (length one) xs) same ∙ ap (λ k. take k (other ++ 10 ∷ [])) n
    ∙ take-append_seam other (10 ∷ [])

pub same_point : (time value later other : ℤ) → Point time value ≡ Point later other → (time ≡ later) × (value ≡ other)
same_point time value later other same = (cc, cc)

-- the bytes of a row, and how many its line has
all_marks : (xs : List ℕ) → AllByRecursion IsMark xs → All (λ c. IsInRange 44 57 c) xs
all_marks [] marks k d inside = absurd (omega (arith, inside))
all_marks (x ∷ xs) marks zero d inside = (omega (arith, marks.0), omega (arith, marks.0))
all_marks (x ∷ xs) marks (suc k) d inside = all_marks xs marks.1 k d (omega (arith, inside))

all_behind : (xs ys : List ℕ) → AllByRecursion IsMark xs → All (λ c. IsInRange 44 57 c) ys → All (λ c. IsInRange 44 57 c) (xs ++ ys)
all_behind [] ys first second k d inside = second k d inside
all_behind (x ∷ xs) ys first second zero d inside = (omega (arith, first.0), omega (arith, first.0))
all_behind (x ∷ xs) ys first second (suc k) d inside = all_behind xs ys first.1 second k d (omega (arith, inside))

all_comma : (ys : List ℕ) → All (λ c. IsInRange 44 57 c) ys → All (λ c. IsInRange 44 57 c) (44 ∷ ys)
all_comma ys all zero d inside = (omega arith, omega arith)
all_comma ys all (suc k) d inside = all k d (omega (arith, inside))

pub row_bytes : (s : ℕ) (time value : ℤ) → unsigned_abs time < 10 ^ 19 → unsigned_abs value < 10 ^ 19
    → All (λ c. IsInRange 44 57 c) (reading_row s time value)
row_bytes s time value small_time small_value =
    all_behind (signed_decimal time) (44 ∷ decimal_text s value) (marks_time time small_time)
    (all_comma (decimal_text s value) (all_marks (decimal_text s value) (marks_value s value small_value)))

short_decimal : (n : ℕ) → n < 10 ^ 19 → length (decimal n) ≤ 19
short_decimal n small = length-decimal-le 19 n (omega arith) small (omega (arith, small))

short_time : (z : ℤ) → unsigned_abs z < 10 ^ 19 → length (signed_decimal z) ≤ 20
short_time (pos n) small = omega (arith, short_decimal n small)
short_time (negsuc n) small = omega (arith, short_decimal (suc n) small)

short_point : (ds : List ℕ) → length (point_and ds) ≤ length ds + 1
short_point [] = omega arith
short_point (d ∷ ds) = omega arith

short_size : (s n : ℕ) → s ≤ 9 → n < 10 ^ 19 → length (size_text s n) ≤ 29
short_size s n few small =
    let less : n / 10 ^ s < 10 ^ 19 = omega (arith, small, quotient_le s n) in
    omega (
      arith,
      length-append (decimal (n / 10 ^ s)) (point_and (last_digits s n)),
      short_point (last_digits s n),
      length_last s n,
      few,
      short_decimal (n / 10 ^ s) less,
    )

short_value : (s : ℕ) (z : ℤ) → s ≤ 9 → unsigned_abs z < 10 ^ 19 → length (decimal_text s z) ≤ 30
short_value s (pos n) few small = omega (arith, short_size s n few small)
short_value s (negsuc n) few small = omega (arith, short_size s (suc n) few small)

pub short_line : (s : ℕ) (time value : ℤ) → s ≤ 9 → unsigned_abs time < 10 ^ 19 → unsigned_abs value < 10 ^ 19
    → length (reading_row s time value ++ 10 ∷ []) ≤ 52
short_line s time value few small_time small_value =
    omega (
      arith,
      length-append (reading_row s time value) (10 ∷ []),
      length-append (signed_decimal time) (44 ∷ decimal_text s value),
      short_time time small_time,
      short_value s value few small_value,
    )
