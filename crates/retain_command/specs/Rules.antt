-- Which lines are rules.
use Rattle.std.specs.Prelude.{◌≡◌, ℕ, List, [], ◌∷◌, Option, None, Some, IsTrue, codes}
use Rattle.whole_number.specs.Spelling.{SpellsNatural, SpellsInteger}
use Rattle.series_book.specs.Names.{is_name}
use Rattle.request_lines.specs.Tokens.{tokens}
use Rattle.retention.specs.declared.rule.Rule.{Rule}
use Rattle.retention.specs.declared.rule.Rule.TheVariants.{Before, Last, Free}

-- the words are `before NAME T`, `last NAME COUNT` or `free PAGES` with what the rule says
abbrev pub SpellsWords : Rule → List (List ℕ) → Type 0
SpellsWords (Before name time) words =
    (number : List ℕ) × (words ≡ codes "before" ∷ name ∷ number ∷ []) × IsTrue (is_name name) × SpellsInteger number time
SpellsWords (Last name count) words =
    (number : List ℕ) × (words ≡ codes "last" ∷ name ∷ number ∷ []) × IsTrue (is_name name) × SpellsNatural number count
SpellsWords (Free pages) words = (number : List ℕ) × (words ≡ codes "free" ∷ number ∷ []) × SpellsNatural number pages

-- a line spells a rule: its tokens, which single spaces part, are the words of the rule
abbrev pub Spells : Rule → List ℕ → Type 0
Spells rule line = SpellsWords rule (tokens line)

-- a line says a rule; one that is too long says none
abbrev pub Says : Option (List ℕ) → Rule → Type 0
Says None rule = ⊥
Says (Some text) rule = Spells rule text

-- a line says no rule
abbrev pub SaysNone : Option (List ℕ) → Type 0
SaysNone line = (rule : Rule) → Says line rule → ⊥
