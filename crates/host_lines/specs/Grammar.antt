-- What the lines ask that only `host` answers.
use Rattle.std.specs.Prelude.{◌≡◌, ℕ, ◌+◌, ◌^◌, ◌≤◌, Bool, true, ◌&&◌, nat_le, nat_lt, if◌then◌else◌, List, [], ◌∷◌, length, Option, None}
use Rattle.std.specs.Prelude.{Some, IsTrue, unsigned_abs, codes, ⊤}
use Rattle.std.specs.Str.{bytes_eq}
use Rattle.whole_number.specs.Numbers.{is_integer, integer_value, natural_value}
use Rattle.series_book.specs.Names.{is_name}
use Rattle.request_lines.specs.declared.places.Place.TheVariants.{Name, Integer, Natural, Session, Range}
use Rattle.request_lines.specs.Grammar.{allows}
use Rattle.request_lines.specs.Ranges.{range_of}
use Rattle.request_lines.specs.Spelling.{IsInteger, IsNatural, IsSession}
use Rattle.request_lines.specs.Tokens.{tokens, tokens_left}
use Rattle.retention.specs.declared.rule.Rule.{Rule}
use Rattle.retention.specs.declared.rule.Rule.TheVariants.{Before, Last, Free}
use Rattle.derive_command.specs.Requests.{IsFactor}
use Rattle.derive_command.specs.declared.request.Request.{Request}
use Rattle.host_lines.specs.declared.places.HostPlace.{HostPlace}
use Rattle.host_lines.specs.declared.places.HostPlace.TheVariants.{Of, Factor}
use Rattle.host_lines.specs.declared.asked.HostLine.{HostLine}
use Rattle.host_lines.specs.declared.asked.HostLine.TheVariants.{List as ListLine, Values, Sum, Sweep, Bad, Other}

-- ---- places

-- a token is what this place of a line allows; a factor is an integer of at most 10^9 in size
unfoldable pub fits : HostPlace → List ℕ → Bool
fits (Of place) token = allows place token
fits Factor token = is_integer token && nat_le (unsigned_abs (integer_value token)) (10 ^ 9)

-- the places behind `values`, and behind `sum`
abbrev pub values_places : List HostPlace
values_places = Of Name ∷ Of Integer ∷ Of Integer ∷ []

abbrev pub sum_places : List HostPlace
sum_places =
    Of Session ∷ Of Name ∷ Of Name ∷ Factor ∷ Factor ∷ Of Natural ∷ Of Natural ∷ Of Integer ∷ Of Integer ∷ Of Range ∷ []

-- and behind `sweep before`, `sweep last` and `sweep free`
abbrev pub before_places : List HostPlace
before_places = Of Name ∷ Of Integer ∷ []

abbrev pub last_places : List HostPlace
last_places = Of Name ∷ Of Natural ∷ []

abbrev pub free_places : List HostPlace
free_places = Of Natural ∷ []

-- each of the tokens is what its place allows, and there are as many
abbrev pub Allow : List HostPlace → List (List ℕ) → Type 0
Allow [] [] = ⊤
Allow [] (token ∷ others) = ⊥
Allow (place ∷ places) [] = ⊥
Allow (place ∷ places) (token ∷ others) = (fits place token ≡ true) × Allow places others

-- The offset of the first of these tokens, which begin at an offset, that isn't what its place allows; the line's end where
-- one is missing.
unfoldable pub places_fault : ℕ → List HostPlace → List (List ℕ) → ℕ → Option ℕ
places_fault end [] [] at = None
places_fault end [] (token ∷ others) at = Some at
places_fault end (place ∷ places) [] at = Some end
places_fault end (place ∷ places) (token ∷ others) at =
    if fits place token then places_fault end places others (at + length token + 1) else Some at

-- the same of the tokens behind `sweep`
unfoldable pub rule_fault : ℕ → List (List ℕ) → ℕ → Option ℕ
rule_fault end [] at = Some end
rule_fault end (word ∷ others) at =
    if bytes_eq word (codes "before") then places_fault end before_places others (at + length word + 1)
    else if bytes_eq word (codes "last") then places_fault end last_places others (at + length word + 1)
    else if bytes_eq word (codes "free") then places_fault end free_places others (at + length word + 1)
    else Some at

-- ---- what tokens name that are what their places allow

-- behind `values`
unfoldable pub values_named : List (List ℕ) → HostLine
values_named (name ∷ t0 ∷ t1 ∷ []) = Values name (integer_value t0) (integer_value t1)
values_named _ = Other

-- the request of a sum
abbrev pub request_named : List ℕ → List ℕ → List ℕ → List ℕ → List ℕ → List ℕ → List ℕ → List ℕ → List ℕ → Request
request_named first second a b w h t0 t1 range = record {
  first = first;
  second = second;
  a = integer_value a;
  b = integer_value b;
  w = natural_value w;
  h = natural_value h;
  t0 = integer_value t0;
  t1 = integer_value t1;
  range = range_of range;
}

-- behind `sum`
unfoldable pub sum_named : List (List ℕ) → HostLine
sum_named (session ∷ first ∷ second ∷ a ∷ b ∷ w ∷ h ∷ t0 ∷ t1 ∷ range ∷ []) =
    Sum (natural_value session) (request_named first second a b w h t0 t1 range)
sum_named _ = Other

-- behind `sweep`
unfoldable pub rule_named : List (List ℕ) → HostLine
rule_named (word ∷ number ∷ []) = Sweep (Free (natural_value number))
rule_named (word ∷ name ∷ number ∷ []) =
    if bytes_eq word (codes "before") then Sweep (Before name (integer_value number)) else Sweep (Last name (natural_value number))
rule_named _ = Other

-- ---- lines

-- what is asked, unless a fault was found
abbrev pub unless : Option ℕ → HostLine → HostLine
unless (Some at) asked = Bad at
unless None asked = asked

-- what these tokens of a line ask
abbrev pub tokens_ask : ℕ → List (List ℕ) → HostLine
tokens_ask end [] = Other
tokens_ask end (word ∷ others) =
    if bytes_eq word (codes "list") then unless (places_fault end [] others (length word + 1)) ListLine
    else if bytes_eq word (codes "values") then unless (places_fault end values_places others (length word + 1)) (values_named others)
    else if bytes_eq word (codes "sum") then unless (places_fault end sum_places others (length word + 1)) (sum_named others)
    else if bytes_eq word (codes "sweep") then unless (rule_fault end others (length word + 1)) (rule_named others)
    else Other

-- what a line asks of the host alone
unfoldable pub host_line : List ℕ → HostLine
host_line line = if nat_lt 8192 (length line) then Other else tokens_ask (length line) (tokens line)

-- the tokens of a line from an offset on
abbrev pub left : List ℕ → ℕ → List (List ℕ)
left line at = tokens_left (record { line = line; at = at })

-- ---- numbers

-- the numbers of a rule are in range
abbrev pub IsRuleInRange : Rule → Type 0
IsRuleInRange (Before name time) = IsTrue (is_name name) × IsInteger time
IsRuleInRange (Last name count) = IsTrue (is_name name) × IsNatural count
IsRuleInRange (Free pages) = IsNatural pages

-- those of a request of a sum
pub record IsRequestInRange (r : Request) : Type 0 where
  pub first : IsTrue (is_name r.first)
  pub second : IsTrue (is_name r.second)
  pub a : IsFactor r.a
  pub b : IsFactor r.b
  pub w : IsNatural r.w
  pub h : IsNatural r.h
  pub t0 : IsInteger r.t0
  pub t1 : IsInteger r.t1

-- the numbers of what is asked are in range, and a fault lies in its line
abbrev pub IsInRange : HostLine → Type 0
IsInRange ListLine = ⊤
IsInRange (Values name t0 t1) = IsTrue (is_name name) × IsInteger t0 × IsInteger t1
IsInRange (Sum session request) = IsSession session × IsRequestInRange request
IsInRange (Sweep rule) = IsRuleInRange rule
IsInRange (Bad at) = at ≤ 8192
IsInRange Other = ⊤
