use Rattle.std.specs.Prelude.{◌≡◌, ◌⊎◌, ℕ, ◌+◌, ◌<◌, ◌≤◌, Bool, true, false, ◌||◌, ◌&&◌, nat_le, if◌then◌else◌, List, [], ◌∷◌, length}
use Rattle.std.specs.Prelude.{Option, None, Some, unsigned_abs, codes, ⊤}
use Rattle.std.specs.Str.{bytes_eq}
use Rattle.std.specs.Char.{is_ascii_digit}
use Rattle.series_book.specs.Names.{is_name}
use Rattle.series_book.specs.declared.limits.TheConstants.{GREATEST_START, GREATEST_STEP}
use Rattle.request_lines.specs.declared.places.Place.{Place}
use Rattle.request_lines.specs.declared.places.Place.TheVariants.{Name, Start, Step, Scale, Integer, Value, Natural, Session, Range, Where}
use Rattle.request_lines.specs.declared.line_kinds.LineKind.{LineKind}
use Rattle.request_lines.specs.declared.line_kinds.LineKind.TheVariants.{Create, Append, Set, Clear, Open, View, Zoom, Pan, Close}
use Rattle.whole_number.specs.Numbers.{is_natural, natural_value, is_integer, integer_value}
use Rattle.request_lines.specs.Ranges.{is_range}
use Rattle.request_lines.specs.Tokens.{tokens, Cursor, tokens_left, next_token, past_token}
use Rattle.request_lines.specs.declared.line_errors.LineError.{LineError}
use Rattle.request_lines.specs.declared.line_errors.LineError.TheVariants.{BadLine, NoMemory}

-- one digit
abbrev pub is_digit_token : List ℕ → Bool
is_digit_token [] = false
is_digit_token (byte ∷ []) = is_ascii_digit byte
is_digit_token (byte ∷ next ∷ bytes) = false

-- a token is what this place of a line allows
unfoldable pub allows : Place → List ℕ → Bool
allows Name token = is_name token
allows Start token = is_integer token && nat_le (unsigned_abs (integer_value token)) GREATEST_START
allows Step token = is_natural token && nat_le 1 (natural_value token) && nat_le (natural_value token) GREATEST_STEP
allows Scale token = is_digit_token token
allows Integer token = is_integer token
allows Value token = is_integer token || bytes_eq token (codes "-")
allows Natural token = is_natural token
allows Session token = is_natural token && nat_le 1 (natural_value token) && nat_le (natural_value token) 4294967295
allows Range token = is_range token
allows Where token = bytes_eq token (codes "where")

-- what may follow the fixed places of a line; `any_behind` is nothing, or a token with anything behind it
pub data Ending : Type 0 where
  nothing : Ending
  at_most_one : Place → Ending
  one_or_more : Place → Ending
  any_behind : Place → Ending

-- the places after the first word of a line
pub record Form : Type 0 where
  pub places : List Place
  pub ending : Ending

-- the kind of a line by its first word
unfoldable pub kind_of : List ℕ → Option LineKind
kind_of word =
    if bytes_eq word (codes "create") then Some Create
    else if bytes_eq word (codes "append") then Some Append
    else if bytes_eq word (codes "set") then Some Set
    else if bytes_eq word (codes "clear") then Some Clear
    else if bytes_eq word (codes "open") then Some Open
    else if bytes_eq word (codes "view") then Some View
    else if bytes_eq word (codes "zoom") then Some Zoom
    else if bytes_eq word (codes "pan") then Some Pan
    else if bytes_eq word (codes "close") then Some Close
    else None

-- the table of lines: the places after the first word
abbrev pub form_of : LineKind → Form
form_of Create = record { places = Name ∷ Start ∷ Step ∷ Scale ∷ []; ending = nothing }
form_of Append = record { places = Name ∷ []; ending = one_or_more Value }
form_of Set = record { places = Name ∷ Integer ∷ []; ending = one_or_more Integer }
form_of Clear = record { places = Name ∷ Integer ∷ Natural ∷ []; ending = nothing }
form_of Open = record { places = Session ∷ []; ending = at_most_one Natural }
form_of View = record { places = Session ∷ Name ∷ Natural ∷ Natural ∷ Integer ∷ Integer ∷ Range ∷ []; ending = any_behind Where }
form_of Zoom = record { places = Session ∷ Integer ∷ Integer ∷ []; ending = nothing }
form_of Pan = record { places = Session ∷ Integer ∷ []; ending = nothing }
form_of Close = record { places = Session ∷ []; ending = nothing }

-- the offset of the first of these tokens, which begin at an offset, that this place doesn't allow
unfoldable pub first_misfit : Place → List (List ℕ) → ℕ → Option ℕ
first_misfit place [] at = None
first_misfit place (token ∷ others) at =
    if allows place token then first_misfit place others (at + length token + 1) else Some at

-- the same, where these tokens end a line; its end is at fault where a token is missing
unfoldable pub ending_fault : ℕ → Ending → List (List ℕ) → ℕ → Option ℕ
ending_fault end nothing [] at = None
ending_fault end nothing (token ∷ others) at = Some at
ending_fault end (at_most_one place) [] at = None
ending_fault end (at_most_one place) (token ∷ others) at =
    if allows place token then ending_fault end nothing others (at + length token + 1) else Some at
ending_fault end (one_or_more place) [] at = Some end
ending_fault end (one_or_more place) (token ∷ others) at = first_misfit place (token ∷ others) at
ending_fault end (any_behind place) [] at = None
ending_fault end (any_behind place) (token ∷ others) at = if allows place token then None else Some at

-- the offset of the first of these tokens that isn't what its place allows, or the line's end where
-- a token is missing
unfoldable pub fault : ℕ → List Place → Ending → List (List ℕ) → ℕ → Option ℕ
fault end [] ending others at = ending_fault end ending others at
fault end (place ∷ places) ending [] at = Some end
fault end (place ∷ places) ending (token ∷ others) at =
    if allows place token then fault end places ending others (at + length token + 1) else Some at

-- the same after the first word of a line, of this kind
abbrev pub kind_fault : ℕ → Option LineKind → List (List ℕ) → ℕ → Option ℕ
kind_fault end None others at = Some 0
kind_fault end (Some kind) others at = fault end (form_of kind).places (form_of kind).ending others at

-- the same from the first word on
abbrev pub tokens_fault : ℕ → List (List ℕ) → Option ℕ
tokens_fault end [] = Some 0
tokens_fault end (word ∷ others) = kind_fault end (kind_of word) others (length word + 1)

-- the offset of a line's first token that isn't what its place allows
unfoldable pub fault_of : List ℕ → Option ℕ
fault_of line = tokens_fault (length line) (tokens line)

-- a reader took the next token, which its place allows
pub record Takes (place : Place) (old new : Cursor) : Type 0 where
  pub there : old.at ≤ length old.line
  pub allowed : allows place (next_token old) ≡ true
  pub past : new ≡ past_token old

-- the next token is missing or isn't what its place allows, or memory was wanting
abbrev pub Misses : Place → Cursor → LineError → Type 0
Misses place old (BadLine bad) =
    ((length old.line < old.at) × (bad ≡ length old.line))
    ⊎ ((old.at ≤ length old.line) × (allows place (next_token old) ≡ false) × (bad ≡ old.at))
Misses place old NoMemory = ⊤

-- what each value of an append, where values may be missing, or of a set is
abbrev pub value_place : Bool → Place
value_place true = Value
value_place false = Integer

-- the tokens that are left don't end a line so, or memory was wanting
abbrev pub MissesEnd : Ending → Cursor → LineError → Type 0
MissesEnd ending old (BadLine bad) = fault (length old.line) [] ending (tokens_left old) old.at ≡ Some bad
MissesEnd ending old NoMemory = ⊤
