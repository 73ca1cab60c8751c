use Rattle.std.specs.Prelude.{◌≡◌, ℕ, ℤ, ◌≤◌, if◌then◌else◌, List, [], ◌∷◌, map, length, Option, None, Some, IfSome, Result, Ok, Err}
use Rattle.std.specs.Prelude.{IsTrue, codes, ⊤}
use Rattle.std.specs.Str.{bytes_eq}
use Rattle.std.specs.List.{join_with_byte}
use Rattle.series_book.specs.declared.edits.Edit.TheVariants.{Create, Append, Set, Clear}
use Rattle.series_book.specs.Names.{is_name}
use Rattle.series_book.specs.Edits.{IsEdit}
use Rattle.request_lines.specs.declared.requests.Request.{Request}
use Rattle.request_lines.specs.declared.requests.Request.TheVariants.{Edit as EditRequest, Open, View, Zoom, Pan, Close}
use Rattle.request_lines.specs.declared.line_errors.LineError.{LineError}
use Rattle.request_lines.specs.declared.line_errors.LineError.TheVariants.{BadLine, NoMemory}
use Rattle.whole_number.specs.Numbers.{natural_value, integer_value}
use Rattle.request_lines.specs.Ranges.{range_of}
use Rattle.request_lines.specs.Tokens.{tokens, Cursor, tokens_left}
use Rattle.request_lines.specs.declared.line_kinds.LineKind.{LineKind}
use Rattle.request_lines.specs.declared.line_kinds.LineKind.TheVariants.{Create as CreateLine, Append as AppendLine, Set as SetLine}
use Rattle.request_lines.specs.declared.line_kinds.LineKind.TheVariants.{Clear as ClearLine, Open as OpenLine, View as ViewLine}
use Rattle.request_lines.specs.declared.line_kinds.LineKind.TheVariants.{Zoom as ZoomLine, Pan as PanLine, Close as CloseLine}
use Rattle.request_lines.specs.Grammar.{kind_of, form_of, fault, fault_of}

-- the value that a token of an append or a set names: a hyphen alone is a missing slot
unfoldable pub value_of : List ℕ → Option ℤ
value_of token = if bytes_eq token (codes "-") then None else Some (integer_value token)

-- the request that the tokens after `create` name
unfoldable pub create_of : List (List ℕ) → Option Request
create_of (name ∷ start ∷ step ∷ scale ∷ []) =
    Some (EditRequest (Create name (integer_value start) (natural_value step) (natural_value scale)))
create_of _ = None

-- the request that the tokens after `append` name
unfoldable pub append_of : List (List ℕ) → Option Request
append_of (name ∷ values) = Some (EditRequest (Append name (map value_of values)))
append_of _ = None

-- the request that the tokens after `set` name
unfoldable pub set_of : List (List ℕ) → Option Request
set_of (name ∷ time ∷ values) = Some (EditRequest (Set name (integer_value time) (map value_of values)))
set_of _ = None

-- the request that the tokens after `clear` name
unfoldable pub clear_of : List (List ℕ) → Option Request
clear_of (name ∷ time ∷ count ∷ []) = Some (EditRequest (Clear name (integer_value time) (natural_value count)))
clear_of _ = None

-- the request that the tokens after `open` name
unfoldable pub open_of : List (List ℕ) → Option Request
open_of (session ∷ []) = Some (Open (natural_value session) None)
open_of (session ∷ cache ∷ []) = Some (Open (natural_value session) (Some (natural_value cache)))
open_of _ = None

-- the filter's text in the tokens after a view's range: all that stands behind the first of them, with the
-- spaces between; there is none where no token is left
unfoldable pub filter_of : List (List ℕ) → Option (List ℕ)
filter_of [] = None
filter_of (word ∷ others) = Some (join_with_byte 32 others)

-- the request that the tokens after `view` name
unfoldable pub view_of : List (List ℕ) → Option Request
view_of (session ∷ name ∷ w ∷ h ∷ t0 ∷ t1 ∷ range ∷ others) =
    Some (View (natural_value session) name (natural_value w) (natural_value h) (integer_value t0) (integer_value t1) (range_of range)
    (filter_of others))
view_of _ = None

-- the request that the tokens after `zoom` name
unfoldable pub zoom_of : List (List ℕ) → Option Request
zoom_of (session ∷ t0 ∷ t1 ∷ []) = Some (Zoom (natural_value session) (integer_value t0) (integer_value t1))
zoom_of _ = None

-- the request that the tokens after `pan` name
unfoldable pub pan_of : List (List ℕ) → Option Request
pan_of (session ∷ by ∷ []) = Some (Pan (natural_value session) (integer_value by))
pan_of _ = None

-- the request that the tokens after `close` name
unfoldable pub close_of : List (List ℕ) → Option Request
close_of (session ∷ []) = Some (Close (natural_value session))
close_of _ = None

-- the request that the tokens after the first word of a line name, by the line's kind
abbrev pub request_of : LineKind → List (List ℕ) → Option Request
request_of CreateLine others = create_of others
request_of AppendLine others = append_of others
request_of SetLine others = set_of others
request_of ClearLine others = clear_of others
request_of OpenLine others = open_of others
request_of ViewLine others = view_of others
request_of ZoomLine others = zoom_of others
request_of PanLine others = pan_of others
request_of CloseLine others = close_of others

-- the same, where there is a line of this kind
abbrev pub kind_request : Option LineKind → List (List ℕ) → Option Request
kind_request None others = None
kind_request (Some kind) others = request_of kind others

-- the request that the tokens of a line name
abbrev pub named : List (List ℕ) → Option Request
named [] = None
named (word ∷ others) = kind_request (kind_of word) others

-- a line spells a request: each of its tokens is what its place allows, and they name the request
pub record IsRequest (line : List ℕ) (request : Request) : Type 0 where
  pub no_fault : fault_of line ≡ None
  pub named_so : named (tokens line) ≡ Some request

-- a line is refused at the first token that isn't what its place allows, or memory was wanting
abbrev pub RefusesLine : List ℕ → LineError → Type 0
RefusesLine line (BadLine at) = fault_of line ≡ Some at
RefusesLine line NoMemory = ⊤

-- a line that is read: its request, or the offset of its fault
abbrev pub read_by : Option ℕ → Option Request → Result Request ℕ
read_by (Some at) request = Err at
read_by None (Some request) = Ok request
read_by None None = Err 0

-- what a line is read as
unfoldable pub read_line : List ℕ → Result Request ℕ
read_line line = read_by (fault_of line) (named (tokens line))

-- an answer is what a line is read as, or memory was wanting
abbrev pub ReadsAs : Result Request ℕ → Result Request LineError → Type 0
ReadsAs reading (Ok request) = reading ≡ Ok request
ReadsAs reading (Err (BadLine at)) = reading ≡ Err at
ReadsAs reading (Err NoMemory) = ⊤

-- what reading the tokens after the first word of a line of this kind answers
abbrev pub Reads : LineKind → Cursor → Result Request LineError → Type 0
Reads kind cursor (Ok request) =
    (fault (length cursor.line) (form_of kind).places (form_of kind).ending (tokens_left cursor) cursor.at ≡ None)
    × (request_of kind (tokens_left cursor) ≡ Some request)
Reads kind cursor (Err (BadLine at)) =
    fault (length cursor.line) (form_of kind).places (form_of kind).ending (tokens_left cursor) cursor.at ≡ Some at
Reads kind cursor (Err NoMemory) = ⊤

-- the fields of a request are in range
abbrev pub IsInRange : Request → Type 0
IsInRange (EditRequest edit) = IsEdit edit
IsInRange (Open session cache) = (1 ≤ session) × (session ≤ 4294967295)
IsInRange (View session name w h t0 t1 range filter) =
    (1 ≤ session) × (session ≤ 4294967295) × IsTrue (is_name name) × IfSome filter (λ text. length text ≤ 8192)
IsInRange (Zoom session t0 t1) = (1 ≤ session) × (session ≤ 4294967295)
IsInRange (Pan session by) = (1 ≤ session) × (session ≤ 4294967295)
IsInRange (Close session) = (1 ≤ session) × (session ≤ 4294967295)
