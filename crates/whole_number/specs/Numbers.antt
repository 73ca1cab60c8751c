-- The tests of a number's text, and the number that it writes.
use Rattle.std.specs.Prelude.{ℕ, ℤ, pos, ◌-ℤ◌, Bool, not, ◌==◌, ◌||◌, ◌&&◌, nat_le, if◌then◌else◌, List, length, drop, slice_index}
use Rattle.std.specs.Char.{is_ascii_digit}
use Rattle.std.specs.List.{list_all}
use Rattle.std.specs.Str.Parse.{digits_value}

-- 1 to 19 digits, the first of which isn't 0 where there are more
unfoldable pub is_natural : List ℕ → Bool
is_natural text =
    list_all is_ascii_digit text && nat_le 1 (length text) && nat_le (length text) 19
    && (length text == 1 || not (slice_index text 0 == 48))

-- the number that digits write
abbrev pub natural_value : List ℕ → ℕ
natural_value text = digits_value 10 text

-- a text that begins with a hyphen
abbrev pub is_negative : List ℕ → Bool
is_negative text = slice_index text 0 == 45

-- a natural number; or a hyphen and a natural number that doesn't begin with 0
unfoldable pub is_integer : List ℕ → Bool
is_integer text =
    if is_negative text then nat_le 2 (length text) && not (slice_index text 1 == 48) && is_natural (drop 1 text)
    else is_natural text

-- the number that an optional hyphen and digits write
unfoldable pub integer_value : List ℕ → ℤ
integer_value text =
    if is_negative text then pos 0 -ℤ pos (natural_value (drop 1 text)) else pos (natural_value text)
