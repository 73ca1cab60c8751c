-- Which lines are requests, request by request.
use Rattle.std.specs.Prelude.{◌≡◌, ℕ, ℤ, ◌<◌, ◌≤◌, ◌^◌, List, [], ◌∷◌, ◌++◌, map, length, All, Option, None, Some, IsTrue, codes}
use Rattle.std.specs.Prelude.{unsigned_abs, ⊤}
use Rattle.std.specs.List.{join_with_byte}
use Rattle.std.specs.Fmt.{decimal, signed_decimal}
use Rattle.whole_number.specs.Range.{IsValue}
use Rattle.series_book.specs.Names.{is_name}
use Rattle.series_book.specs.declared.limits.TheConstants.{GREATEST_STEP}
use Rattle.series_book.specs.declared.edits.Edit.{Edit}
use Rattle.series_book.specs.declared.edits.Edit.TheVariants.{Create, Append, Set, Clear}
use Rattle.request_lines.specs.declared.ranges.RangeWord.{RangeWord}
use Rattle.request_lines.specs.declared.ranges.RangeWord.TheVariants.{Auto, Fixed}
use Rattle.request_lines.specs.declared.requests.Request.{Request}
use Rattle.request_lines.specs.declared.requests.Request.TheVariants.{Edit as EditRequest, Open, View, Zoom, Pan, Close}
use Rattle.request_lines.specs.Tokens.{tokens}

-- a number of at most 19 digits
abbrev pub IsNatural : ℕ → Type 0
IsNatural n = n < 10 ^ 19

-- the same with a sign
abbrev pub IsInteger : ℤ → Type 0
IsInteger z = unsigned_abs z < 10 ^ 19

-- the number of a session
abbrev pub IsSession : ℕ → Type 0
IsSession n = (1 ≤ n) × (n ≤ 4294967295)

-- the value of a slot as it is written: a hyphen is a missing one
abbrev pub value_text : Option ℤ → List ℕ
value_text None = codes "-"
value_text (Some v) = signed_decimal v

-- a value of an append, which may be missing
abbrev pub IsEntry : Option ℤ → Type 0
IsEntry None = ⊤
IsEntry (Some v) = IsInteger v

-- a value of a set
abbrev pub IsThere : Option ℤ → Type 0
IsThere None = ⊥
IsThere (Some v) = IsInteger v

-- the token is `auto`, or two integers with two points between them
abbrev pub SpellsRange : RangeWord → List ℕ → Type 0
SpellsRange Auto token = token ≡ codes "auto"
SpellsRange (Fixed lo hi) token = (token ≡ signed_decimal lo ++ (codes ".." ++ signed_decimal hi)) × IsInteger lo × IsInteger hi

-- nothing, or the word `where` with the text behind it
abbrev pub SpellsFilter : Option (List ℕ) → List (List ℕ) → Type 0
SpellsFilter None others = others ≡ []
SpellsFilter (Some text) others = (rest : List (List ℕ)) × (others ≡ codes "where" ∷ rest) × (text ≡ join_with_byte 32 rest)

-- the tokens are those of the edit's line
abbrev pub SpellsEdit : Edit → List (List ℕ) → Type 0
SpellsEdit (Create name start step scale) words =
    (words ≡ codes "create" ∷ name ∷ signed_decimal start ∷ decimal step ∷ decimal scale ∷ [])
    × IsTrue (is_name name) × IsValue start × (1 ≤ step) × (step ≤ GREATEST_STEP) × (scale ≤ 9)
SpellsEdit (Append name values) words =
    (words ≡ codes "append" ∷ name ∷ map value_text values) × IsTrue (is_name name) × (1 ≤ length values) × All IsEntry values
SpellsEdit (Set name time values) words =
    (words ≡ codes "set" ∷ name ∷ signed_decimal time ∷ map value_text values)
    × IsTrue (is_name name) × IsInteger time × (1 ≤ length values) × All IsThere values
SpellsEdit (Clear name time count) words =
    (words ≡ codes "clear" ∷ name ∷ signed_decimal time ∷ decimal count ∷ []) × IsTrue (is_name name) × IsInteger time × IsNatural count

-- the tokens are those of the request's line
abbrev pub SpellsWords : Request → List (List ℕ) → Type 0
SpellsWords (EditRequest edit) words = SpellsEdit edit words
SpellsWords (Open session None) words = (words ≡ codes "open" ∷ decimal session ∷ []) × IsSession session
SpellsWords (Open session (Some cache)) words =
    (words ≡ codes "open" ∷ decimal session ∷ decimal cache ∷ []) × IsSession session × IsNatural cache
SpellsWords (View session name w h t0 t1 range filter) words =
    (token : List ℕ) × (others : List (List ℕ))
    × (words ≡ codes "view" ∷ decimal session ∷ name ∷ decimal w ∷ decimal h ∷ signed_decimal t0 ∷ signed_decimal t1 ∷ token ∷ others)
    × IsSession session × IsTrue (is_name name) × IsNatural w × IsNatural h × IsInteger t0 × IsInteger t1
    × SpellsRange range token × SpellsFilter filter others
SpellsWords (Zoom session t0 t1) words =
    (words ≡ codes "zoom" ∷ decimal session ∷ signed_decimal t0 ∷ signed_decimal t1 ∷ []) × IsSession session × IsInteger t0 × IsInteger t1
SpellsWords (Pan session by) words = (words ≡ codes "pan" ∷ decimal session ∷ signed_decimal by ∷ []) × IsSession session × IsInteger by
SpellsWords (Close session) words = (words ≡ codes "close" ∷ decimal session ∷ []) × IsSession session

-- a line spells a request: its tokens, which single spaces part, are those of the request's line
abbrev pub Spells : Request → List ℕ → Type 0
Spells request line = SpellsWords request (tokens line)
