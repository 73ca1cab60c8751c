-- Which lines ask the host, kind by kind.
use Rattle.std.specs.Prelude.{◌≡◌, ℕ, ℤ, ◌≤◌, List, [], ◌∷◌, length, IsTrue, codes}
use Rattle.std.specs.Fmt.{decimal, signed_decimal}
use Rattle.series_book.specs.Names.{is_name}
use Rattle.request_lines.specs.Spelling.{IsInteger, IsSession}
use Rattle.request_lines.specs.Tokens.{tokens}
use Rattle.retain_command.specs.Rules.{SpellsWords as SpellsRule}
use Rattle.retention.specs.declared.rule.Rule.{Rule}
use Rattle.derive_command.specs.Requests.{SpellsWords as SpellsRequest}
use Rattle.derive_command.specs.declared.request.Request.{Request}

-- a line of at most 8,192 bytes is the word `list`
abbrev pub SpellsList : List ℕ → Type 0
SpellsList line = (length line ≤ 8192) × (tokens line ≡ codes "list" ∷ [])

-- it is `values`, a name and two times
abbrev pub SpellsValues : List ℕ → ℤ → ℤ → List ℕ → Type 0
SpellsValues name t0 t1 line =
    (length line ≤ 8192) × (tokens line ≡ codes "values" ∷ name ∷ signed_decimal t0 ∷ signed_decimal t1 ∷ [])
    × IsTrue (is_name name) × IsInteger t0 × IsInteger t1

-- it is `sum`, the number of a session, and the words of a request of `derive`
pub record SpellsSum (n : ℕ) (request : Request) (line : List ℕ) : Type 0 where
  pub short : length line ≤ 8192
  pub words : List (List ℕ)
  pub tokens_are : tokens line ≡ codes "sum" ∷ decimal n ∷ words
  pub session : IsSession n
  pub spells : SpellsRequest request words

-- it is `sweep` and the words of a rule of `retain`
pub record SpellsSweep (rule : Rule) (line : List ℕ) : Type 0 where
  pub short : length line ≤ 8192
  pub words : List (List ℕ)
  pub tokens_are : tokens line ≡ codes "sweep" ∷ words
  pub spells : SpellsRule rule words
