-- The line of a series, cut at its spaces.
use Rattle.std.proofs.Common.{◌≡◌, ℕ, zero, suc, ℤ, pos, negsuc, ◌^◌, ◌<◌, Bool, true, false, List, [], ◌∷◌, ◌++◌, length, get_or, refl, ap}
use Rattle.std.proofs.Common.{sym, ◌∙◌, arith}
use Rattle.std.specs.Prelude.{nat_le, ◌&&◌}
use Rattle.std.specs.Bool.{IsTrue}
use Rattle.std.specs.List.{All, AllByRecursion, list_all, slice_split}
use Rattle.std.specs.Fmt.{decimal, signed_decimal}
use Rattle.std.proofs.lemmas.Bool.Decides.{nat_tests}
use Rattle.std.proofs.lemmas.List.Splits.{slice_split_at, slice_split_none}
use Rattle.std.proofs.lemmas.List.Sums.{AllPass-from_list_all}
use Rattle.std.proofs.lemmas.Fmt.{decimal_is_IsNumeral, decimal_injective, signed_decimal_injective}
use Rattle.whole_number.specs.Range.{IsValue}
use lib.Signed.{mag}
use Rattle.csv_load.specs.Fields.{is_space}
use Rattle.series_book.specs.declared.axis.Axis.{Axis}
use Rattle.series_book.specs.declared.limits.TheConstants.{MOST_NAME_BYTES}
use Rattle.series_book.specs.Names.{is_name, is_name_byte}
use Rattle.reading_lines.specs.Lines.{axis_row, series_row, series_line, IsTold}
use Rattle.reading_lines.proofs.ReadBack.{IsMark, marks_digits, marks_time, mark_no_space, without_feed}

both_true : (a b : Bool) → (a && b) ≡ true → (a ≡ true) × (b ≡ true)
both_true true true both = (refl, refl)
both_true true false both = absurd (cc)
both_true false b both = absurd (cc)

-- no name has a space
name_byte : (b : ℕ) → is_name_byte b ≡ true → is_space b ≡ false
unfolding is_name_byte
name_byte b named = grind (arith, nat_tests, named)

name_no_space : (name : List ℕ) → IsTrue (is_name name) → All (λ b. is_space b ≡ false) name
unfolding is_name
name_no_space name named =
    let bytes = (both_true (nat_le 1 (length name) && nat_le (length name) MOST_NAME_BYTES) (list_all is_name_byte name) named).1 in
    λ k d inside. name_byte (get_or name k d) (AllPass-from_list_all is_name_byte name bytes k d inside)

-- nor has a number's text
marks_no_space : (xs : List ℕ) → AllByRecursion IsMark xs → All (λ b. is_space b ≡ false) xs
marks_no_space [] marks k d inside = absurd (omega (arith, inside))
marks_no_space (x ∷ xs) marks zero d inside = mark_no_space x marks.0
marks_no_space (x ∷ xs) marks (suc k) d inside = marks_no_space xs marks.1 k d (omega (arith, inside))

natural_no_space : (n : ℕ) → n < 2 ^ 64 → All (λ b. is_space b ≡ false) (decimal n)
natural_no_space n small = marks_no_space (decimal n) (marks_digits (decimal n) (decimal_is_IsNumeral n small).0.1)

pub row_words : (name : List ℕ) (axis : Axis) (scale : ℕ) → IsTold name axis scale
    → slice_split is_space (series_row name axis scale) ≡ name ∷ signed_decimal axis.start ∷ decimal axis.step ∷ decimal scale ∷ decimal
    axis.slots ∷ []
row_words name axis scale told =
    let start = signed_decimal axis.start in
    let step = decimal axis.step in
    let places = decimal scale in
    let slots = decimal axis.slots in
    let last = slice_split_none is_space slots (natural_no_space axis.slots (omega (arith, told.slots_in_range))) in
    let third = slice_split_at is_space places 32 slots (natural_no_space scale (omega (arith, told.scale_in_range))) refl
    ∙ ap (λ ws. places ∷ ws) last in
    let second = slice_split_at is_space step 32 (places ++ 32 ∷ slots)
    (natural_no_space axis.step (omega (arith, told.step_in_range))) refl ∙ ap (λ ws. step ∷ ws) third in
    let first = slice_split_at is_space start 32 (step ++ 32 ∷ (places ++ 32 ∷ slots))
    (marks_no_space start (marks_time axis.start (omega (arith, told.start_in_range)))) refl ∙ ap (λ ws. start ∷ ws) second in
    slice_split_at is_space name 32 (axis_row axis scale) (name_no_space name told.named) refl ∙ ap (λ ws. name ∷ ws) first

-- what stands in equal lists of five
one_of_five : (a b c d e a' b' c' d' e' : List ℕ) → a ∷ b ∷ c ∷ d ∷ e ∷ [] ≡ a' ∷ b' ∷ c' ∷ d' ∷ e' ∷ []
    → (a ≡ a') × (b ≡ b') × (c ≡ c') × (d ≡ d') × (e ≡ e')
one_of_five a b c d e a' b' c' d' e' same = (cc, cc, cc, cc, cc)

small_start : (z : ℤ) → IsValue z → mag z < 2 ^ 63
small_start (pos n) small = omega (arith, small)
small_start (negsuc n) small = omega (arith, small)

one_axis : (axis later : Axis) → axis.start ≡ later.start → axis.step ≡ later.step → axis.slots ≡ later.slots → axis ≡ later
one_axis axis later start step slots =
    let build : ℤ → ℕ → ℕ → Axis = λ a b c. record { start = a; step = b; slots = c } in
    ap (λ a. build a axis.step axis.slots) start ∙ ap (λ b. build later.start b axis.slots) step ∙ ap (build later.start later.step) slots

pub one_series : (name other : List ℕ) (axis later : Axis) (scale places : ℕ) → IsTold name axis scale → IsTold other later places
    → series_line name axis scale ≡ series_line other later places → (name ≡ other) × (axis ≡ later) × (scale ≡ places)
one_series name other axis later scale places told known same =
    let rows = without_feed (series_row name axis scale) (series_row other later places) same in
    let words = sym (row_words name axis scale told) ∙ ap (slice_split is_space) rows ∙ row_words other later places known in
    let each = one_of_five name (signed_decimal axis.start) (decimal axis.step) (decimal scale) (decimal axis.slots) other
    (signed_decimal later.start) (decimal later.step) (decimal places) (decimal later.slots) words in
    let start = signed_decimal_injective axis.start later.start (small_start axis.start told.start_in_range)
    (small_start later.start known.start_in_range) each.1 in
    let step = decimal_injective axis.step later.step (omega (arith, told.step_in_range)) (omega (arith, known.step_in_range)) each.2 in
    let slots = decimal_injective axis.slots later.slots (omega (arith, told.slots_in_range))
    (omega (arith, known.slots_in_range)) each.4 in (
      each.0,
      one_axis axis later start step slots,
      decimal_injective scale places (omega (arith, told.scale_in_range))
          (omega (arith, known.scale_in_range)) each.3,
    )
