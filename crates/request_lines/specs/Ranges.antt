use Rattle.std.specs.Prelude.{ℕ, Bool, ◌==◌, ◌&&◌, ◌||◌, nat_le, if◌then◌else◌, List, length, drop, slice_index, codes}
use Rattle.std.specs.Str.{bytes_eq}
use Rattle.std.specs.List.{before_first}
use Rattle.request_lines.specs.declared.ranges.RangeWord.{RangeWord}
use Rattle.request_lines.specs.declared.ranges.RangeWord.TheVariants.{Auto, Fixed}
use Rattle.whole_number.specs.Numbers.{is_integer, integer_value}

-- the bytes before the first point
abbrev pub low_end : List ℕ → List ℕ
low_end token = before_first (λ byte. byte == 46) token

-- the bytes from the first point on
abbrev pub after_low : List ℕ → List ℕ
after_low token = drop (length (low_end token)) token

-- an integer, two points and an integer
unfoldable pub is_fixed : List ℕ → Bool
is_fixed token =
    nat_le 2 (length (after_low token)) && slice_index (after_low token) 0 == 46 && slice_index (after_low token) 1 == 46
    && is_integer (low_end token) && is_integer (drop 2 (after_low token))

-- `auto`, or an integer, two points and an integer
abbrev pub is_range : List ℕ → Bool
is_range token = bytes_eq token (codes "auto") || is_fixed token

-- the range that such a token names
unfoldable pub range_of : List ℕ → RangeWord
range_of token =
    if bytes_eq token (codes "auto") then Auto
    else Fixed (integer_value (low_end token)) (integer_value (drop 2 (after_low token)))
