-- The frames, field by field: sizes in bytes, rules, and what decides on what follows.
use Rattle.std.specs.Prelude.{ℕ, zero, suc, ℤ, ◌+◌, ◌-◌, ◌*◌, ◌/◌, ◌%◌, ◌^◌, ◌==◌, Bool, true, false, ◌&&◌, ◌||◌, nat_lt, nat_le, int_lt}
use Rattle.std.specs.Prelude.{int_le, unsigned_abs, if◌then◌else◌, Option, None, Some, List, take, drop}
use Rattle.std.specs.List.{list_all}
use Rattle.std.specs.Int.{w64, cast_signed}
use Rattle.whole_number.specs.Range.{is_time, is_value}
use Rattle.whole_number.specs.SlotTimes.{ends_in_time}
use Rattle.om3_coeff.specs.Keys.{height}
use Rattle.series_book.specs.Names.{is_name}
use Rattle.series_book.specs.declared.refusal_numbers.TheConstants.{BAD_FILTER, BAD_LINE, FULL, LIVE_TOO_LARGE, SUM_TOO_LARGE}
use Rattle.series_book.specs.declared.refusal_numbers.TheConstants.{VIEW_TOO_LARGE}
use Rattle.chart_frames.specs.declared.limits.TheConstants.{MOST_SLOTS}
use Rattle.chart_frames.specs.Format.{Format, stop, field, number_bytes}

-- eight bytes in two's complement
abbrev pub signed : (ℤ → Bool) → (ℤ → Format) → Format
signed ok next = field 8 (λ n. ok (cast_signed w64 n)) (λ n. next (cast_signed w64 n))

abbrev pub within : ℕ → ℕ → ℕ → Bool
within low high n = nat_le low n && nat_le n high

abbrev pub is_zero : ℤ → Bool
is_zero v = unsigned_abs v == 0

-- the length is that of a head and of at most so many items
abbrev pub has_items : ℕ → ℕ → ℕ → ℕ → Bool
has_items head each most length = nat_le head length && ((length - head) % each == 0 && nat_le ((length - head) / each) most)

abbrev pub is_view_length : ℕ → Bool
is_view_length length = has_items 84 25 131072 length

abbrev pub is_rows_length : ℕ → Bool
is_rows_length length = has_items 27 34 4096 length

abbrev pub is_catalog_length : ℕ → Bool
is_catalog_length length = has_items 11 70 512 length

-- a length without values, or one of some runs with values
abbrev pub is_values_length : ℕ → Bool
is_values_length length = length == 16 || (within 40 49176 length && length % 8 == 0)

-- the length is possible for some kind of report
abbrev pub is_report_length : ℕ → Bool
is_report_length length = length == 8 || (is_catalog_length length || is_values_length length)

-- the length is possible for some kind
abbrev pub is_length : ℕ → Bool
is_length length =
    length == 5 || (length == 6 || (length == 9 || (length == 18 || (is_view_length
    length || (is_rows_length length || is_report_length length)))))

-- the kind admits the length
unfoldable pub admits : ℕ → ℕ → Bool
admits length kind =
    if kind == 1 then length == 9
    else (if kind == 2 then length == 18
    else (if kind == 3 then length == 9
    else (if kind == 4 then length == 5
    else (if kind == 5 then is_view_length length
    else (if kind == 6 then is_rows_length length
    else (if kind == 7 then length == 6
    else (if kind == 8 then is_catalog_length length
    else (if kind == 9 then is_values_length length
    else (if kind == 10 then length == 8 else false)))))))))

unfoldable pub session_fields : Format → Format
session_fields next = field 4 (λ session. nat_le 1 session) (λ session. next)

-- a number of pixels
unfoldable pub side_field : (ℕ → Format) → Format
side_field next = field 2 (within 1 4096) next

-- the width and the height; what follows may depend on the width
unfoldable pub side_fields : (ℕ → Format) → Format
side_fields next = side_field (λ w. side_field (λ h. next w))

unfoldable pub series_fields : Format → Format
series_fields next = field 2 (λ series. nat_lt series 512) (λ series. next)

-- the ends of the window
unfoldable pub window_fields : Format → Format
window_fields next = signed is_time (λ t0. signed (λ t1. is_time t1 && int_lt t0 t1) (λ t1. next))

-- the ends of the range of values
unfoldable pub range_fields : Format → Format
range_fields next = signed is_value (λ lo. signed (λ hi. is_value hi && int_le lo hi) (λ hi. next))

-- the number of slots of the series: the last one stands no later than 2 * 10^18
unfoldable pub slots_field : ℤ → ℕ → (ℕ → Format) → Format
slots_field start step next = field 8 (λ slots. nat_le slots MOST_SLOTS && ends_in_time start step slots) next

-- start, step and number of slots of the series; what follows may depend on the slots
unfoldable pub axis_fields : (ℕ → Format) → Format
axis_fields next = signed is_value (λ start. field 4 (within 1 (2 ^ 31)) (λ step. slots_field start step next))

-- whether the series has a stored value; 0 where it has no slots
unfoldable pub has_field : ℕ → (ℕ → Format) → Format
has_field slots next = field 1 (λ has. nat_le has 1 && (has == 0 || nat_le 1 slots)) next

-- the least stored value, or 0 where there is none
unfoldable pub rmin_field : ℕ → (ℤ → Format) → Format
rmin_field has next = signed (λ rmin. is_value rmin && (has == 1 || is_zero rmin)) next

-- the greatest stored value, or 0 where there is none
unfoldable pub rmax_field : ℕ → ℤ → Format → Format
rmax_field has rmin next = signed (λ rmax. is_value rmax && (int_le rmin rmax && (has == 1 || is_zero rmax))) (λ rmax. next)

unfoldable pub stored_fields : ℕ → Format → Format
stored_fields slots next = has_field slots (λ has. rmin_field has (λ rmin. rmax_field has rmin next))

-- the number of coefficients, as the length says
unfoldable pub count_fields : ℕ → (ℕ → Format) → Format
count_fields length next = field 4 (λ count. 84 + 25 * count == length) next

-- the level and the index that a key's number stands for
abbrev pub level_of : ℕ → ℕ
level_of key = key / 2 ^ 40

abbrev pub index_of : ℕ → ℕ
index_of key = key % 2 ^ 40

-- the number is that of a key with a coefficient in the tree over so many slots
abbrev pub is_key : ℕ → ℕ → Bool
is_key slots key = within 1 (height slots) (level_of key) && nat_lt (index_of key) (2 ^ (height slots - level_of key))

-- the key comes behind the one before: its level is lower, or the same and its index is higher
abbrev pub follows : Option ℕ → ℕ → Bool
follows None key = true
follows (Some last) key = nat_lt (level_of key) (level_of last) || (level_of key == level_of last && nat_lt (index_of last) (index_of key))

-- a difference is 0 unless both halves have a value
abbrev pub is_difference : ℕ → ℤ → Bool
is_difference flags d = is_time d && (flags == 3 || is_zero d)

-- the number of a key
unfoldable pub key_field : ℕ → Option ℕ → (ℕ → Format) → Format
key_field slots last next = field 8 (λ key. is_key slots key && follows last key) next

unfoldable pub difference_field : ℕ → Format → Format
difference_field flags next = signed (is_difference flags) (λ d. next)

-- which halves have a value, and the two differences
unfoldable pub coef_fields : Format → Format
coef_fields next = field 1 (within 1 3) (λ flags. difference_field flags (difference_field flags next))

-- so many coefficients
unfoldable pub coefs_fields : ℕ → Option ℕ → ℕ → Format
coefs_fields slots last zero = stop
coefs_fields slots last (suc count) = key_field slots last (λ key. coef_fields (coefs_fields slots (Some key) count))

-- where a view is shown: session, series, canvas and window
unfoldable pub place_fields : Format → Format
place_fields next = session_fields (series_fields (side_fields (λ w. window_fields next)))

-- what is shown of it: the range, the series' slots and values, and the number of coefficients
unfoldable pub source_fields : ℕ → (ℕ → ℕ → Format) → Format
source_fields length next =
    range_fields (axis_fields (λ slots. stored_fields slots (count_fields length (next slots))))

-- what stands before the coefficients of a view
unfoldable pub view_fields : ℕ → (ℕ → ℕ → Format) → Format
view_fields length next = place_fields (source_fields length next)

-- the number of rows, as the length says
unfoldable pub row_count_fields : ℕ → ℕ → (ℕ → Format) → Format
row_count_fields length w next = field 2 (λ count. nat_le count w && 27 + 34 * count == length) next

-- the column comes behind the one before
abbrev pub rises : Option ℕ → ℕ → Bool
rises None column = true
rises (Some last) column = nat_lt last column

-- a column of a canvas
unfoldable pub column_field : ℕ → Option ℕ → (ℕ → Format) → Format
column_field w last next = field 2 (λ column. nat_lt column w && rises last column) next

unfoldable pub value_field : (ℤ → Format) → Format
value_field next = signed is_value next

-- a value of at most so much
unfoldable pub at_most_field : ℤ → (ℤ → Format) → Format
at_most_field most next = signed (λ v. is_value v && int_le v most) next

-- a value of at least so much
unfoldable pub at_least_field : ℤ → (ℤ → Format) → Format
at_least_field least next = signed (λ v. is_value v && int_le least v) next

unfoldable pub between_field : ℤ → ℤ → Format → Format
between_field least greatest next = signed (λ v. is_value v && (int_le least v && int_le v greatest)) (λ v. next)

-- the first, the least, the greatest and the last value of a column
unfoldable pub row_fields : Format → Format
row_fields next =
    value_field (λ first. at_most_field first (λ least. at_least_field first (λ greatest. between_field least greatest next)))

-- so many rows
unfoldable pub rows_fields : ℕ → Option ℕ → ℕ → Format
rows_fields w last zero = stop
rows_fields w last (suc count) = column_field w last (λ column. row_fields (rows_fields w (Some column) count))

-- what stands before the rows
unfoldable pub head_fields : ℕ → (ℕ → ℕ → Format) → Format
head_fields length next =
    session_fields (side_fields (λ w. range_fields (row_count_fields length w (next w))))

unfoldable pub done_fields : Format
done_fields = field 8 (λ slots. nat_le slots MOST_SLOTS) (λ slots. stop)

-- the numbers of refusals that tell a first and a second number more
abbrev pub names_second : ℕ → Bool
names_second number = number == VIEW_TOO_LARGE || (number == FULL || number == LIVE_TOO_LARGE)

abbrev pub names_first : ℕ → Bool
names_first number = number == BAD_LINE || (number == BAD_FILTER || names_second number)

unfoldable pub refused_fields : Format
refused_fields =
    field 1 (within 1 SUM_TOO_LARGE) (λ number.
    field 8 (λ a. names_first number || a == 0) (λ a. field 8 (λ b. names_second number || b == 0) (λ b. stop)))

unfoldable pub opened_fields : Format
opened_fields = session_fields (field 4 (within 1 131072) (λ cache. stop))

-- a number that is 1 or 0
unfoldable pub flag_fields : Format → Format
flag_fields next = field 1 (λ flag. nat_le flag 1) (λ flag. next)

unfoldable pub live_fields : Format
live_fields = session_fields (flag_fields stop)

-- a number of four bytes
unfoldable pub word_field : (ℕ → Format) → Format
word_field next = field 4 (λ n. true) next

abbrev pub is_blank : ℕ → Bool
is_blank byte = byte == 0

-- the first bytes, so many, are a name, and those behind them 0
abbrev pub is_padded : ℕ → List ℕ → Bool
is_padded size bytes = is_name (take size bytes) && list_all is_blank (drop size bytes)

-- a name's length, and the name in 31 bytes
unfoldable pub padded_field : ℕ → Format → Format
padded_field size next = field 31 (λ n. is_padded size (number_bytes 31 n)) (λ n. next)

unfoldable pub name_fields : Format → Format
name_fields next = field 1 (within 1 31) (λ size. padded_field size next)

unfoldable pub scale_field : Format → Format
scale_field next = field 1 (λ scale. nat_le scale 9) (λ scale. next)

-- a series' scale and slots, and its least and greatest stored value
unfoldable pub facts_fields : Format → Format
facts_fields next = scale_field (axis_fields (λ slots. stored_fields slots next))

-- what a catalog says of one series
unfoldable pub listed_fields : Format → Format
listed_fields next = name_fields (facts_fields next)

-- so many series
unfoldable pub series_list : ℕ → Format
series_list zero = stop
series_list (suc count) = listed_fields (series_list count)

-- the number of series, as the length says
unfoldable pub listed_count_fields : ℕ → (ℕ → Format) → Format
listed_count_fields length next = field 2 (λ count. 11 + 70 * count == length) next

-- the pages there are, those in use, and the number of series
unfoldable pub pages_fields : ℕ → (ℕ → Format) → Format
pages_fields length next = word_field (λ total. word_field (λ used. listed_count_fields length next))

unfoldable pub catalog_fields : ℕ → Format
catalog_fields length = pages_fields length series_list

-- whether values are left, and the time from which to ask for them, 0 where none are
unfoldable pub next_time_field : ℕ → Format → Format
next_time_field more next = signed (λ t. is_time t && (more == 1 || is_zero t)) (λ t. next)

unfoldable pub more_field : (ℕ → Format) → Format
more_field next = field 1 (λ more. nat_le more 1) next

unfoldable pub next_fields : Format → Format
next_fields next = more_field (λ more. next_time_field more next)

-- the numbers of runs and of values: each run has a value, and both are as the length says
abbrev pub are_counts : ℕ → ℕ → ℕ → Bool
are_counts length runs values =
    16 + (16 * runs + 8 * values) == length && (nat_le values 4096 && (nat_le runs values && (values == 0 || nat_le 1 runs)))

unfoldable pub counts_fields : ℕ → (ℕ → ℕ → Format) → Format
counts_fields length next = field 2 (λ runs. true) (λ runs. field 2 (are_counts length runs) (next runs))

abbrev pub lesser : ℕ → ℕ → ℕ
lesser a b = if nat_le a b then a else b

-- a run of so many of the values that are left: the last run takes all of them, each other one leaves some
abbrev pub takes_of : ℕ → ℕ → ℕ → Bool
takes_of behind left many = nat_le 1 many && (if behind == 0 then many == left else nat_lt many left)

-- the first slot of a run, and how many it has
unfoldable pub run_fields : ℕ → ℕ → ℕ → ℕ → (ℕ → ℕ → Format) → Format
run_fields from limit left behind next =
    field 8 (λ first. nat_le from first && nat_lt first limit) (λ first.
    field 8 (λ many. takes_of behind left many && nat_le (first + many) limit) (next first))

-- So many runs, over so many values that are left. Each begins at `from` or later and ends at the limit
-- or before; a slot without a value stands between two of them, and no run ends more than 4,096 slots
-- behind the first slot of another one.
unfoldable pub runs_fields : ℕ → ℕ → ℕ → ℕ → Format → Format
runs_fields from limit left zero next = next
runs_fields from limit left (suc behind) next =
    run_fields from limit left behind (λ first many. runs_fields (first + many + 1) (lesser limit (first + 4096)) (left - many) behind next)

-- so many values
unfoldable pub values_list : ℕ → Format
values_list zero = stop
values_list (suc count) = value_field (λ v. values_list count)

-- the series, where more values are, and the numbers of runs and of values
unfoldable pub asked_fields : ℕ → (ℕ → ℕ → Format) → Format
asked_fields length next = series_fields (next_fields (counts_fields length next))

-- the runs of slots, and the values in these slots
unfoldable pub stored_values : ℕ → ℕ → Format
stored_values runs values = runs_fields 0 MOST_SLOTS values runs (values_list values)

unfoldable pub values_fields : ℕ → Format
values_fields length = asked_fields length stored_values

-- the number of clears, the pages in use, and whether clears are left
unfoldable pub swept_fields : Format
swept_fields = field 2 (λ clears. nat_le clears 64) (λ clears. word_field (λ used. flag_fields stop))

-- the fields of a kind, behind it
unfoldable pub kind_fields : ℕ → ℕ → Format
kind_fields length kind =
    if kind == 1 then done_fields
    else (if kind == 2 then refused_fields
    else (if kind == 3 then opened_fields
    else (if kind == 4 then session_fields stop
    else (if kind == 5 then view_fields length (λ slots count. coefs_fields slots None count)
    else (if kind == 6 then head_fields length (λ w count. rows_fields w None count)
    else (if kind == 7 then live_fields
    else (if kind == 8 then catalog_fields length
    else (if kind == 9 then values_fields length
    else swept_fields))))))))

-- the length of what follows it
unfoldable pub length_field : (ℕ → Format) → Format
length_field next = field 4 is_length next

unfoldable pub kind_field : ℕ → (ℕ → Format) → Format
kind_field length next = field 1 (admits length) next

-- a frame: the length, the kind, and the fields of the kind
unfoldable pub frame_fields : Format
frame_fields = length_field (λ length. kind_field length (kind_fields length))
