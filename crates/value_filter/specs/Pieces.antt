-- How a filter's text is made of tokens.
use Rattle.std.specs.Prelude.{◌≡◌, ℕ, ◌<◌, ◌^◌, Bool, not, ◌==◌, ◌&&◌, ◌||◌, nat_le, if◌then◌else◌, List, [], ◌∷◌, length, drop, take}
use Rattle.std.specs.Prelude.{slice_index, unsigned_abs, codes, Option, Some, None}
use Rattle.std.specs.Str.{bytes_eq}
use Rattle.std.specs.List.{before_first, position_or_len}
use Rattle.std.specs.Fmt.{signed_decimal}
use Rattle.value_filter.specs.declared.atoms.Subject.TheVariants.{Time, Value}
use Rattle.value_filter.specs.declared.atoms.Comparison.TheVariants.{Less, LessOrEqual, Equal, NotEqual, GreaterOrEqual, Greater}
use Rattle.value_filter.specs.declared.tokens.Token.{Token}
use Rattle.value_filter.specs.declared.tokens.Token.TheVariants.{Subject, Sign, Number, AndWord, OrWord, NotWord, Open, Close}

-- the byte that may stand between tokens
abbrev pub is_space : ℕ → Bool
is_space byte = byte == 32

-- the bytes of words and numbers: A to Z, a to z, 0 to 9 and the hyphen
abbrev pub is_word_byte : ℕ → Bool
is_word_byte byte =
    (nat_le 65 byte && nat_le byte 90) || (nat_le 97 byte && nat_le byte 122) || (nat_le 48 byte && nat_le byte 57) || byte == 45

-- a text without the spaces that it begins with
abbrev pub past_spaces : List ℕ → List ℕ
past_spaces text = drop (position_or_len (λ byte. not (is_space byte)) text) text

-- whether a text begins with `<=`, `>=` or `!=`
abbrev pub begins_long_sign : List ℕ → Bool
begins_long_sign text =
    slice_index text 1 == 61 && (slice_index text 0 == 60 || slice_index text 0 == 62 || slice_index text 0 == 33)

-- the piece that a text begins with: the longest run of word bytes, or the longest sign that stands
-- there, or else one byte
unfoldable pub first_piece : List ℕ → List ℕ
first_piece text =
    if is_word_byte (slice_index text 0) then before_first (λ byte. not (is_word_byte byte)) text
    else if begins_long_sign text then take 2 text
    else take 1 text

-- the next piece of a text, behind spaces, and what stands behind that piece; where only spaces are
-- left the piece is empty
abbrev pub next_piece : List ℕ → List ℕ
next_piece text = first_piece (past_spaces text)

abbrev pub past_piece : List ℕ → List ℕ
past_piece text = drop (length (next_piece text)) (past_spaces text)

-- how a token is written
abbrev pub spelling : Token → List ℕ
spelling (Subject Time) = codes "t"
spelling (Subject Value) = codes "v"
spelling (Sign Less) = codes "<"
spelling (Sign LessOrEqual) = codes "<="
spelling (Sign Equal) = codes "="
spelling (Sign NotEqual) = codes "!="
spelling (Sign GreaterOrEqual) = codes ">="
spelling (Sign Greater) = codes ">"
spelling (Number number) = signed_decimal number
spelling AndWord = codes "and"
spelling OrWord = codes "or"
spelling NotWord = codes "not"
spelling Open = codes "("
spelling Close = codes ")"

-- a number has at most 19 digits
abbrev pub IsShort : Token → Type 0
IsShort (Number number) = unsigned_abs number < 10 ^ 19
IsShort _ = Unit {0}

abbrev pub Spells : List ℕ → Token → Type 0
Spells piece token = (piece ≡ spelling token) × IsShort token

-- the token other than a number that a piece spells
unfoldable pub keyword : List ℕ → Option Token
keyword piece =
    if bytes_eq piece (codes "t") then Some (Subject Time)
    else if bytes_eq piece (codes "v") then Some (Subject Value)
    else if bytes_eq piece (codes "<") then Some (Sign Less)
    else if bytes_eq piece (codes "<=") then Some (Sign LessOrEqual)
    else if bytes_eq piece (codes "=") then Some (Sign Equal)
    else if bytes_eq piece (codes "!=") then Some (Sign NotEqual)
    else if bytes_eq piece (codes ">=") then Some (Sign GreaterOrEqual)
    else if bytes_eq piece (codes ">") then Some (Sign Greater)
    else if bytes_eq piece (codes "and") then Some AndWord
    else if bytes_eq piece (codes "or") then Some OrWord
    else if bytes_eq piece (codes "not") then Some NotWord
    else if bytes_eq piece (codes "(") then Some Open
    else if bytes_eq piece (codes ")") then Some Close
    else None

-- a text begins with these tokens, one for each piece, and the rest stands behind them
abbrev pub Begins : List ℕ → List Token → List ℕ → Type 0
Begins text [] rest = text ≡ rest
Begins text (token ∷ tokens) rest = Spells (next_piece text) token × Begins (past_piece text) tokens rest
