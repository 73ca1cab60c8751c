use Rattle.std.specs.Prelude.{◌≡◌, ℕ, Bool, true, false, ◌||◌, ◌&&◌, ◌==◌, nat_le, List, length}
use Rattle.std.specs.Char.{is_ascii_alphanumeric}
use Rattle.std.specs.List.{list_all}
use Rattle.series_book.specs.declared.limits.TheConstants.{MOST_NAME_BYTES}
use Rattle.series_book.specs.declared.errors.NameError.{NameError}
use Rattle.series_book.specs.declared.errors.NameError.TheVariants.{NotAName, NoMemory}

-- a letter or a digit of ASCII, a low line, a point or a hyphen
unfoldable pub is_name_byte : ℕ → Bool
is_name_byte byte = is_ascii_alphanumeric byte || byte == 95 || byte == 46 || byte == 45

-- a name has 1 to 31 such bytes
unfoldable pub is_name : List ℕ → Bool
is_name bytes = nat_le 1 (length bytes) && nat_le (length bytes) MOST_NAME_BYTES && list_all is_name_byte bytes

-- `NotAName` comes only where the bytes are no name
abbrev pub RefusesName : List ℕ → NameError → Type 0
RefusesName bytes NotAName = is_name bytes ≡ false
RefusesName bytes NoMemory = is_name bytes ≡ true
