-- The lines of an export are read as the series' stored values.
use Rattle.std.proofs.Common.{◌≡◌, ◌≢◌, ℕ, ℤ, pos, ◌+ℤ◌, zero, suc, ◌+◌, ◌-◌, ◌*◌, ◌^◌, ◌<◌, ◌≤◌, ◌≤ℤ◌, ◌==◌, true, false, cond, ltb}
use Rattle.std.proofs.Common.{unsigned_abs, List, [], ◌∷◌, ◌++◌, map, length, take, get_or, Option, None, Some, refl, sym, ap, subst, arith}
use Rattle.std.proofs.Common.{inl, inr, ◌∙◌}
use Rattle.std.specs.Prelude.{codes, slice_index, IsTrue}
use Rattle.std.specs.Int.{IsInRange}
use Rattle.std.specs.Fmt.{signed_decimal}
use Rattle.std.specs.Option.{IsSomeAnd}
use Rattle.std.specs.List.{All, AllPass, AllByRecursion, filter, slice_split}
use Rattle.std.proofs.lemmas.Bool.Decides.{nat_tests}
use Rattle.std.proofs.lemmas.Int.{ints}
use Rattle.std.proofs.lemmas.List.{append_assoc, append-nil, length-append}
use Rattle.std.proofs.lemmas.List.Splits.{slice_split_at, length-slice_split}
use Rattle.chart_world.specs.Fronts.{says, BeginsWith}
use Rattle.chart_world.specs.Lines.{is_line_feed, without_empty_end, without_return, text_of, split_lines, lines}
use Rattle.csv_load.specs.Fields.{Fields, fields_of_line, trimmed, is_plain}
use Rattle.csv_load.specs.Rows.{Says, Fails, FieldsSay}
use Rattle.csv_load.specs.declared.row.Row.{Row}
use Rattle.csv_load.specs.declared.row.RowCause.{RowCause}
use Rattle.csv_load.specs.declared.row.Row.TheVariants.{Point, Skip, Header}
use Rattle.whole_number.specs.declared.limits.TheConstants.{GREATEST_TIME}
use Rattle.whole_number.specs.Range.{IsValue}
use Rattle.whole_number.specs.SlotTimes.{EndsInTime}
use Rattle.whole_number.proofs.SlotTimes.{in_time}
use Rattle.reading_lines.specs.Lines.{reading_row, reading_line, decimal_text}
use Rattle.series_book.specs.declared.one_series.Series.{Series}
use Rattle.series_book.specs.Books.{IsSeries}
use Rattle.series_book.specs.Edits.{is_too_large}
use Rattle.series_load.specs.Fronts.{PlacedLine, placed_from, told}
use Rattle.series_load.specs.Rows.{Reading, IsRow, AreRows, AreTable, IsBad, BadFirst, ReadsRows}
use Rattle.series_load.proofs.Joined.{told_begins}
use Rattle.series_export.specs.Exports.{Stored, stored_from, stored_values, asked, lines_of, header, export_text}
use Rattle.series_export.specs.RoundTrips.{values_of, IsBegunAs, StandsForSame}
use Rattle.series_export.proofs.SetLemmas.{holds_named}
use Rattle.block_disk.specs.View.{Image}
use Rattle.series_load.specs.Ends.{IsLoaded}
use Rattle.series_load.specs.Runs.{AllRuns}
use Rattle.series_load.specs.Sets.{IsNamed}

-- the lines behind a front
abbrev pub behind_lines : List ℕ → List ℕ → List PlacedLine
behind_lines front rest = filter (λ (line : PlacedLine). says line.text) (placed_from (length front) (split_lines rest))

-- what the laws of lines tell
pub record Knows : Type 0 where
  pub bytes : (scale : ℕ) (time value : ℤ) → unsigned_abs time < 10 ^ 19 → unsigned_abs value < 10 ^ 19
      → All (λ byte. IsInRange 44 57 byte) (reading_row scale time value)
  pub short : (scale : ℕ) (time value : ℤ) → scale ≤ 9 → unsigned_abs time < 10 ^ 19 → unsigned_abs value < 10 ^ 19
      → length (reading_line scale time value) ≤ 52
  pub reading : (scale : ℕ) (time value : ℤ) → unsigned_abs time < 10 ^ 19 → unsigned_abs value < 10 ^ 19
      → Says scale (reading_row scale time value) (Point time value)
  pub one : (scale : ℕ) (line : List ℕ) (row other : Row) → Says scale line row → Says scale line other → row ≡ other
  pub either : (scale : ℕ) (line : List ℕ) (row : Row) (cause : RowCause) → Says scale line row → Fails scale line cause → ⊥
  pub fields : (time value : List ℕ) → AllPass is_plain time → AllPass is_plain value → slice_index (time ++ 44 ∷ value) 0 ≢ 0xEF
      → fields_of_line (time ++ 44 ∷ value) ≡ Some (record { time = trimmed time; value = trimmed value })

abbrev row_of : ℕ → Stored → List ℕ
row_of scale one = reading_row scale one.time one.value

abbrev AreNear : List Stored → Type 0
AreNear [] = Unit {0}
AreNear (one ∷ values) = (unsigned_abs one.time < 10 ^ 19) × (unsigned_abs one.value < 10 ^ 19) × AreNear values

not_feed : (c : ℕ) → IsInRange 44 57 c → is_line_feed c ≡ false
not_feed c mark = grind (arith, nat_tests, mark)

not_return : (c : ℕ) → IsInRange 44 57 c → (c == 13) ≡ false
not_return c mark = grind (arith, nat_tests, mark)

not_long : (n : ℕ) → n ≤ 51 → ltb 8192 n ≡ false
not_long n few = grind (arith, nat_tests, few)

end_behind : (part : List ℕ) (parts : List (List ℕ)) → 0 < length parts → without_empty_end (part ∷ parts) ≡ part ∷ without_empty_end parts
end_behind part [] some = absurd (omega arith)
end_behind [] (next ∷ parts) some = refl
end_behind (byte ∷ bytes) (next ∷ parts) some = refl

split_row : (row rest : List ℕ) → All (λ x. is_line_feed x ≡ false) row → split_lines (row ++ 10 ∷ rest) ≡ row ∷ split_lines rest
unfolding split_lines
split_row row rest none = ap without_empty_end (slice_split_at is_line_feed row 10 rest none refl)
    ∙ end_behind row (slice_split is_line_feed rest) (omega (arith, length-slice_split is_line_feed rest))

split_nothing : split_lines [] ≡ []
unfolding split_lines
split_nothing = refl

split_line : (row rest : List ℕ) → All (λ x. is_line_feed x ≡ false) row → split_lines (row ++ 10 ∷ [] ++ rest) ≡ row ∷ split_lines rest
split_line row rest none = ap split_lines (append_assoc row (10 ∷ []) rest) ∙ split_row row rest none

split_values : Knows → (scale : ℕ) (values : List Stored) → AreNear values → split_lines (lines_of scale values) ≡ map (row_of scale) values
split_values knows scale [] near = split_nothing
split_values knows scale (one ∷ values) near =
    let marks = knows.bytes scale one.time one.value near.0 near.1 in
    split_line (row_of scale one) (lines_of scale values) (λ k d low. not_feed (get_or (row_of scale one) k d) (marks k d low))
    ∙ ap (λ l. row_of scale one ∷ l) (split_values knows scale values near.2)

text_row : (row : List ℕ) → All (λ byte. IsInRange 44 57 byte) row → length row ≤ 51 → 0 < length row → text_of row ≡ Some row
text_row row marks few some =
    let long : ltb 8192 (length row) ≡ false = not_long (length row) few in
    let last : (slice_index row (length row - 1) == 13) ≡ false = not_return (slice_index row (length row - 1))
    (marks (length row - 1) 0 (omega (arith, some))) in
    ap (λ b. cond b None (Some (without_return row))) long ∙ ap (λ b. Some (cond b (take (length row - 1) row) row)) last

abbrev placed : ℕ → List ℕ → PlacedLine
placed at row = record { at = at; text = Some row }

filter_row : (at : ℕ) (row : List ℕ) (later : List PlacedLine) → 0 < length row → text_of row ≡ Some row
    → filter (λ (line : PlacedLine). says line.text) (record { at = at; text = text_of row } ∷ later) ≡ placed at row ∷ filter
    (λ (line : PlacedLine). says line.text) later
filter_row at row later some is = ap (λ t. filter (λ (line : PlacedLine). says line.text) (record { at = at; text = t } ∷ later)) is
    ∙ by row some
  where
    by : (bytes : List ℕ) → 0 < length bytes → filter (λ (line : PlacedLine). says line.text)
        (placed at bytes ∷ later) ≡ placed at bytes ∷ filter (λ (line : PlacedLine). says line.text) later
    by [] some = absurd (omega arith)
    by (b ∷ bs) some = refl

abbrev placed_values : ℕ → ℕ → List Stored → List PlacedLine
placed_values scale at [] = []
placed_values scale at (one ∷ values) = placed at (row_of scale one) ∷ placed_values scale (at + length (row_of scale one) + 1) values

told_values : Knows → (scale : ℕ) (values : List Stored) (at : ℕ) → scale ≤ 9 → AreNear values
    → filter (λ (line : PlacedLine). says line.text) (placed_from at (map (row_of scale) values)) ≡ placed_values scale at values
told_values knows scale [] at few near = refl
told_values knows scale (one ∷ values) at few near =
    let row = row_of scale one in
    let short : length row ≤ 51 = omega (arith, knows.short scale one.time one.value few near.0 near.1, length-append row (10 ∷ [])) in
    let some : 0 < length row = comma (signed_part one) (value_part scale one) in
    let is = text_row row (knows.bytes scale one.time one.value near.0 near.1) short some in
    filter_row at row (placed_from (at + length row + 1) (map (row_of scale) values)) some is
    ∙ ap (λ l. placed at row ∷ l) (told_values knows scale values (at + length row + 1) few near.2)
  where
    signed_part : Stored → List ℕ
    signed_part one = signed_decimal one.time

    value_part : ℕ → Stored → List ℕ
    value_part scale one = decimal_text scale one.value

    comma : (a b : List ℕ) → 0 < length (a ++ 44 ∷ b)
    comma a b = omega (arith, length-append a (44 ∷ b))

-- the rows that the lines of the values are
same_stored : (reading : Reading) (one : Stored) → reading.time ≡ one.time → reading.value ≡ one.value
    → record { time = reading.time; value = reading.value } ≡ one
same_stored reading one time value = ap (λ t. record { time = t; value = reading.value }) time
    ∙ ap (λ v. record { time = one.time; value = v }) value

same_point : (time value later other : ℤ) → Point time value ≡ Point later other → (time ≡ later) × (value ≡ other)
same_point time value later other same = (cc, cc)

-- the rows that the first lines are read the first values
pub record ReadsFirst (values : List Stored) (rows : List (Option Reading)) (behind : List PlacedLine) : Type 0 where
  pub later : List Stored
  pub values_are : values ≡ values_of rows ++ later
  pub ended : behind ≡ [] → later ≡ []

no_values : (scale : ℕ) (values : List Stored) (at : ℕ) → placed_values scale at values ≡ [] → values ≡ []
no_values scale [] at none = refl
no_values scale (one ∷ values) at none = absurd (cc)

rows_first : Knows → (scale : ℕ) (values : List Stored) (at : ℕ) (lines : List PlacedLine) (rows : List (Option Reading))
    (behind : List PlacedLine) → AreNear values → placed_values scale at values ≡ lines ++ behind → AreRows scale lines rows
    → ReadsFirst values rows behind
rows_first knows scale values at [] [] behind near is are = record {
  later = values;
  values_are = refl;
  ended = λ none. no_values scale values at (is ∙ none);
}
rows_first knows scale values at [] (row ∷ rows) behind near is are = absurd are
rows_first knows scale values at (line ∷ lines) [] behind near is are = absurd are
rows_first knows scale [] at (line ∷ lines) (row ∷ rows) behind near is are = absurd (cc)
rows_first knows scale (one ∷ values) at (line ∷ lines) (None ∷ rows) behind near is are =
    let P : PlacedLine → Type 0 = λ l. IsRow scale l None in
    let here : line ≡ placed at (row_of scale one) = sym (cc) in
    let skip = subst P here are.0 in
    let never : Point one.time one.value ≡ Skip skip.0 = knows.one scale (row_of scale one) (Point one.time one.value) (Skip skip.0)
    (knows.reading scale one.time one.value near.0 near.1) skip.1 in
    absurd (cc)
rows_first knows scale (one ∷ values) at (line ∷ lines) (Some reading ∷ rows) behind near is are =
    let P : PlacedLine → Type 0 = λ l. IsRow scale l (Some reading) in
    let here : line ≡ placed at (row_of scale one) = sym (cc) in
    let rest : placed_values scale (at + length (row_of scale one) + 1) values ≡ lines ++ behind = cc in
    let both = same_point reading.time reading.value one.time one.value
    (knows.one scale (row_of scale one) (Point reading.time reading.value) (Point one.time one.value) (subst P here are.0).1
    (knows.reading scale one.time one.value near.0 near.1)) in
    let on = rows_first knows scale values (at + length (row_of scale one) + 1) lines rows behind near.2 rest are.1 in
    record {
      later = on.later;
      values_are = ap (λ l. one ∷ l) on.values_are ∙ ap (λ x. x ∷ (values_of rows ++ on.later))
          (sym (same_stored reading one both.0 both.1));
      ended = on.ended;
    }

abbrev rows_at : ℕ → ℕ → List Stored → List (Option Reading)
rows_at scale at [] = []
rows_at scale at (one ∷ values) = Some (record { at = at; time = one.time; value = one.value }) ∷ rows_at scale
    (at + length (row_of scale one) + 1) values

are_rows : Knows → (scale : ℕ) (values : List Stored) (at : ℕ) → AreNear values
    → AreRows scale (placed_values scale at values) (rows_at scale at values)
are_rows knows scale [] at near = tt
are_rows knows scale (one ∷ values) at near = (
  (refl, knows.reading scale one.time one.value near.0 near.1),
  are_rows knows scale values (at + length (row_of scale one) + 1) near.2,
)

-- the names of the columns
abbrev names : List ℕ
names = codes "time" ++ 44 ∷ codes "value"

all_by : (P : ℕ → Type 0) (xs : List ℕ) → AllByRecursion P xs → All P xs
all_by P [] are k d inside = absurd (omega (arith, inside))
all_by P (x ∷ xs) are zero d inside = are.0
all_by P (x ∷ xs) are (suc k) d inside = all_by P xs are.1 k d (omega (arith, inside))

plain_time : AllPass is_plain (codes "time")
plain_time = all_by (λ c. is_plain c ≡ true) (codes "time") (refl, (refl, (refl, (refl, tt))))

plain_value : AllPass is_plain (codes "value")
plain_value = all_by (λ c. is_plain c ≡ true) (codes "value") (refl, (refl, (refl, (refl, (refl, tt)))))

trimmed_names : (trimmed (codes "time") ≡ codes "time") × (trimmed (codes "value") ≡ codes "value")
unfolding trimmed
trimmed_names = (refl, refl)

no_mark : slice_index names 0 ≢ 0xEF
no_mark is = absurd (omega (arith, is))

says_header : Knows → (scale : ℕ) → Says scale names Header
says_header knows scale =
    let is = knows.fields (codes "time") (codes "value") plain_time plain_value no_mark in
    let P : Option Fields → Type 0 = λ o. IsSomeAnd o (λ fields. FieldsSay scale fields Header) in
    subst P (sym is) trimmed_names

names_no_feed : All (λ x. is_line_feed x ≡ false) names
names_no_feed = all_by (λ c. is_line_feed c ≡ false) names (
  refl,
  (refl, (refl, (refl, (refl, (refl, (refl, (refl, (refl, (refl, tt))))))))),
)

names_text : text_of names ≡ Some names
names_text = refl

all_asked : (values : List Stored) → asked None values ≡ values
all_asked [] = refl
all_asked (one ∷ values) = ap (λ l. one ∷ l) (all_asked values)

text_lines : Knows → (series : Series) → series.scale ≤ 9 → AreNear (stored_values series)
    → told (export_text series None) ≡ placed 0 names ∷ placed_values series.scale 11 (stored_values series)
unfolding told export_text
text_lines knows series few near =
    ap (λ l. filter (λ (line : PlacedLine). says line.text) (placed_from 0 (split_lines (header ++ lines_of series.scale l))))
    (all_asked (stored_values series))
    ∙ ap (λ parts. filter (λ (line : PlacedLine). says line.text) (placed_from 0 parts))
    (split_line names (lines_of series.scale (stored_values series)) names_no_feed
    ∙ ap (λ l. names ∷ l) (split_values knows series.scale (stored_values series) near))
    ∙ filter_row 0 names (placed_from 11 (map (row_of series.scale) (stored_values series))) (omega arith) names_text
    ∙ ap (λ l. placed 0 names ∷ l) (told_values knows series.scale (stored_values series) 11 few near)

-- the header's line is no row
header_first : Knows → (scale at : ℕ) (line : PlacedLine) (row : Option Reading) → line ≡ placed at names → IsRow scale line row → ⊥
header_first knows scale at line None here is =
    let P : PlacedLine → Type 0 = λ l. IsRow scale l None in
    let skip = subst P here is in
    let never : Header ≡ Skip skip.0 = knows.one scale names Header (Skip skip.0) (says_header knows scale) skip.1 in
    cc
header_first knows scale at line (Some reading) here is =
    let P : PlacedLine → Type 0 = λ l. IsRow scale l (Some reading) in
    let never : Header ≡ Point reading.time reading.value = knows.one scale names Header (Point reading.time reading.value)
    (says_header knows scale) (subst P here is).1 in
    cc

table_first : Knows → (scale : ℕ) (values : List Stored) (lines : List PlacedLine) (rows : List (Option Reading)) (behind : List PlacedLine)
    → AreNear values → placed 0 names ∷ placed_values scale 11 values ≡ lines ++ behind → AreTable scale lines rows
    → ReadsFirst values rows behind
table_first knows scale values [] [] behind near is (inl are) = record { later = values; values_are = refl; ended = λ none. absurd (cc) }
table_first knows scale values [] (row ∷ rows) behind near is (inl are) = absurd are
table_first knows scale values (line ∷ lines) [] behind near is (inl are) = absurd are
table_first knows scale values (line ∷ lines) (row ∷ rows) behind near is (inl are) =
    let here : line ≡ placed 0 names = sym (cc) in
    absurd (header_first knows scale 0 line row here are.0)
table_first knows scale values lines rows behind near is (inr has) =
    let all : placed 0 names ∷ placed_values scale 11 values ≡ has.header ∷ (has.later ++ behind) = is ∙ ap (λ l. l ++ behind) has.split in
    let rest : placed_values scale 11 values ≡ has.later ++ behind = cc in
    rows_first knows scale values 11 has.later rows behind near rest has.rows_are

-- the stored values of a series are small
more_abs : (z : ℤ) (n : ℕ) → unsigned_abs (z +ℤ pos n) ≤ unsigned_abs z + n
more_abs z n = grind (arith, ints)

small_value : (v : ℤ) → is_too_large (Some v) ≡ false → unsigned_abs v < 10 ^ 19
small_value v fits = grind (arith, nat_tests, fits)

near_from : (step : ℕ) (slots : List (Option ℤ)) (time : ℤ) → unsigned_abs time + length slots * step < 10 ^ 19
    → All (λ value. is_too_large value ≡ false) slots → AreNear (stored_from step time slots)
unfolding stored_from
near_from step [] time few fits = tt
near_from step (None ∷ slots) time few fits = near_from step slots (time +ℤ pos step) (omega (arith, few, more_abs time step))
    (λ k d low. fits (suc k) d (omega (arith, low)))
near_from step (Some v ∷ slots) time few fits = (
  omega (arith, few),
  small_value v (fits 0 None (omega arith)),
  near_from step slots (time +ℤ pos step) (omega (arith, few, more_abs time step)) (λ k d low. fits (suc k) d (omega (arith, low))),
)

near_values : (series : Series) → IsSeries series → AreNear (stored_values series)
near_values series is = near_from series.step series.slots series.start
    (total series.start (length series.slots) series.step is.start_in_range is.last_in_range is.step_in_range) is.values_in_range
  where
    early : (start : ℤ) (n step : ℕ) → IsValue start → (start +ℤ pos n) ≤ℤ pos GREATEST_TIME → step ≤ 2 ^ 31
        → unsigned_abs start + (n + step) < 10 ^ 19
    early start n step few last short = grind (arith, ints, few, last, short)

    total : (start : ℤ) (n step : ℕ) → IsValue start → EndsInTime start step n → step ≤ 2 ^ 31 → unsigned_abs start + n * step < 10 ^ 19
    total start zero step few last short = omega (arith, few)
    total start (suc n) step few last short =
        let all : suc n * step ≡ n * step + step = omega arith in
        omega (arith, all, early start (n * step) step few (in_time start step (suc n) n last (omega arith)) short)

-- the rows of a front of the export read the first stored values
pub first_rows : Knows → (series : Series) (front rest : List ℕ) (rows : List (Option Reading)) → IsSeries series
    → ReadsRows series.scale (export_text series None) front rest rows
    → ReadsFirst (stored_values series) rows (behind_lines front rest)
first_rows knows series front rest rows is reads =
    let near = near_values series is in
    table_first knows series.scale (stored_values series) (told front) rows (behind_lines front rest) near
    (sym (text_lines knows series is.scale_in_range near) ∙ told_begins (export_text series None) front rest reads.begins) reads.table

-- and those of all of it read all
pub rows_are : Knows → (series : Series) (rows : List (Option Reading)) → IsSeries series
    → ReadsRows series.scale (export_text series None) (export_text series None) [] rows → values_of rows ≡ stored_values series
rows_are knows series rows is reads =
    let first = first_rows knows series (export_text series None) [] rows is reads in
    let none : first.later ≡ [] = first.ended (ap (λ parts. filter (λ (line : PlacedLine). says line.text)
    (placed_from (length (export_text series None)) parts)) split_nothing) in
    sym (first.values_are ∙ ap (λ l. values_of rows ++ l) none ∙ append-nil (values_of rows))

-- each line behind the first is a row
record IsLineOf (scale : ℕ) (line : PlacedLine) : Type 0 where
  pub one : Stored
  pub near_time : unsigned_abs one.time < 10 ^ 19
  pub near_value : unsigned_abs one.value < 10 ^ 19
  pub text : line.text ≡ Some (row_of scale one)

line_of : (scale : ℕ) (values : List Stored) (at : ℕ) (before : List PlacedLine) (line : PlacedLine) (behind : List PlacedLine)
    → AreNear values → placed_values scale at values ≡ before ++ line ∷ behind → IsLineOf scale line
line_of scale [] at [] line behind near is = absurd (cc)
line_of scale [] at (b ∷ before) line behind near is = absurd (cc)
line_of scale (one ∷ values) at [] line behind near is =
    let here : line ≡ placed at (row_of scale one) = sym (cc) in
    record { one = one; near_time = near.0; near_value = near.1; text = ap (λ (l : PlacedLine). l.text) here }
line_of scale (one ∷ values) at (b ∷ before) line behind near is =
    let rest : placed_values scale (at + length (row_of scale one) + 1) values ≡ before ++ line ∷ behind = cc in
    line_of scale values (at + length (row_of scale one) + 1) before line behind near.2 rest

row_good : Knows → (scale : ℕ) (before : List PlacedLine) (line : PlacedLine) → IsLineOf scale line → IsBad scale before line.text → ⊥
row_good knows scale before line of bad =
    let P : Option (List ℕ) → Type 0 = λ text. IsBad scale before text in
    let one = of.one in
    let says_so = knows.reading scale one.time one.value of.near_time of.near_value in
    elim (subst P of.text bad) [
      | inl fails ↦ knows.either scale (row_of scale one) (Point one.time one.value) fails.0 says_so fails.1
      | inr late ↦
          let never : Point one.time one.value ≡ Header = knows.one scale (row_of scale one)
          (Point one.time one.value) Header says_so late.1 in
          cc
    ]

header_good : Knows → (scale : ℕ) (text : Option (List ℕ)) → text ≡ Some names → IsBad scale [] text → ⊥
header_good knows scale text is bad =
    let P : Option (List ℕ) → Type 0 = λ text. IsBad scale [] text in
    elim (subst P is bad) [
      | inl fails ↦ knows.either scale names Header fails.0 (says_header knows scale) fails.1
      | inr late ↦ absurd (omega (arith, late.0))
    ]

line_good : Knows → (scale : ℕ) (values : List Stored) (before : List PlacedLine) (line : PlacedLine) (behind : List PlacedLine)
    → AreNear values → placed 0 names ∷ placed_values scale 11 values ≡ before ++ line ∷ behind → IsBad scale before line.text → ⊥
line_good knows scale values [] line behind near is bad =
    let here : line ≡ placed 0 names = sym (cc) in
    header_good knows scale line.text (ap (λ (l : PlacedLine). l.text) here) bad
line_good knows scale values (b ∷ before) line behind near is bad =
    let rest : placed_values scale 11 values ≡ before ++ line ∷ behind = cc in
    row_good knows scale (b ∷ before) line (line_of scale values 11 before line behind near rest) bad

-- the first line that says something stands first among those that do
first_told : (at : ℕ) (line : Option (List ℕ)) (parts : List (List ℕ)) (later : List (Option (List ℕ))) → map text_of parts ≡ line ∷ later
    → IsTrue (says line)
    → (behind : List PlacedLine) × (filter (λ (line : PlacedLine). says line.text) (placed_from at parts) ≡ record {
      at = at;
      text = line;
    } ∷ behind)
first_told at line [] later is some = absurd (cc)
first_told at line (part ∷ parts) later is some =
    let same : text_of part ≡ line = cc in
    let rest = filter (λ (line : PlacedLine). says line.text) (placed_from (at + length part + 1) parts) in (
      rest,
      ap (λ t. filter (λ (line : PlacedLine). says line.text)
          (record { at = at; text = t } ∷ placed_from (at + length part + 1) parts)) same ∙ by line some rest,
    )
  where
    by : (line : Option (List ℕ)) → IsTrue (says line) → (rest : List PlacedLine)
        → cond (says line) (record { at = at; text = line } ∷ rest) rest ≡ record { at = at; text = line } ∷ rest
    by None some rest = refl
    by (Some []) some rest = absurd (cc)
    by (Some (b ∷ bs)) some rest = refl

-- no line of an export is bad
pub none_bad : Knows → (series : Series) (front rest : List ℕ) → IsSeries series → BeginsWith (export_text series None) front rest
    → BadFirst series.scale (told front) rest → ⊥
unfolding lines
none_bad knows series front rest is begins bad =
    let near = near_values series is in
    let first = first_told (length front) bad.line (split_lines rest) bad.later bad.lines_are bad.some in
    line_good knows series.scale (stored_values series) (told front) (record { at = length front; text = bad.line }) first.0 near
    (sym (text_lines knows series is.scale_in_range near) ∙ told_begins (export_text series None) front rest begins
    ∙ ap (λ l. told front ++ l) first.1) bad.bad

pub some_rows : Knows → (series : Series) → IsSeries series
    → (rows : List (Option Reading)) × ReadsRows series.scale (export_text series None) (export_text series None) [] rows
some_rows knows series is =
    let near = near_values series is in
    let values = stored_values series in
    let P : List PlacedLine → Type 0 = λ l. AreTable series.scale l (rows_at series.scale 11 values) in (
      rows_at series.scale 11 values,
      record {
        begins = record { split = sym (append-nil (export_text series None)); whole = inr refl };
        table = subst P (sym (text_lines knows series is.scale_in_range near)) (inr (record {
          header = placed 0 names;
          later = placed_values series.scale 11 values;
          split = refl;
          is_header = says_header knows series.scale;
          rows_are = are_rows knows series.scale values 11 near;
        }));
      },
    )

-- a load of the whole export
pub loaded_back : Knows → (total : ℕ) (name : List ℕ) (book : List Series) (series begun : Series) (count : ℕ) (image : Image)
    → IsSeries series → IsBegunAs series begun → IsNamed book name begun
    → IsLoaded total name book begun (export_text series None) count image → StandsForSame total name series image
loaded_back knows total name book series begun count image is as_begun named loaded =
    let text = export_text series None in
    let P : ℕ → Type 0 = λ n. ReadsRows n text text [] loaded.rows in
    let Q : ℕ → Type 0 = λ n. AllRuns n loaded.rows loaded.runs in
    record {
      book = loaded.after.new;
      stands = loaded.after.stands;
      holds = holds_named series begun loaded.rows loaded.runs total name book loaded.after.new is.step_above_zero as_begun named
          (rows_are knows series loaded.rows is (subst P as_begun.scale loaded.reads))
          (subst Q as_begun.step loaded.all) loaded.after.loads;
    }
