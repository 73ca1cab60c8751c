-- What rules do to a book, one after the other, and what is said of them.
use Rattle.std.specs.Prelude.{ℕ, List, [], ◌∷◌, ◌++◌, length, Option, codes, ⊤}
use Rattle.std.specs.Fmt.{decimal}
use Rattle.series_book.specs.declared.one_series.Series.{Series}
use Rattle.series_book.specs.Pages.{pages_of}
use Rattle.retention.specs.declared.rule.Rule.{Rule}
use Rattle.retention.specs.Drops.{book_swept}
use Rattle.retention.specs.Sweeps.{NamesNone, sweeps}
use Rattle.retain_command.specs.Rules.{Says}

-- what is said of a sweep: how many clears it made, and how many pages are in use behind them
abbrev pub swept_text : ℕ → ℕ → List ℕ
swept_text clears used = codes "swept " ++ (decimal clears ++ (codes " " ++ (decimal used ++ codes "\n")))

-- a rule that was swept, and what was said of it: how many clears it made, and how many pages were in use behind them
pub record SweptRule : Type 0 where
  pub rule : Rule
  pub clears : ℕ
  pub used : ℕ

-- what was said of these rules, one after the other
abbrev pub said_of : List SweptRule → List ℕ
said_of [] = []
said_of (swept ∷ others) = swept_text swept.clears swept.used ++ said_of others

-- Each line says the rule in its place.
abbrev pub SayRules : List (Option (List ℕ)) → List SweptRule → Type 0
SayRules [] [] = ⊤
SayRules [] (swept ∷ others) = ⊥
SayRules (line ∷ lines) [] = ⊥
SayRules (line ∷ lines) (swept ∷ others) = Says line swept.rule × SayRules lines others

-- the answer to a rule
abbrev pub answer : ℕ → List Series → Rule → List ℕ
answer total book rule = swept_text (length (sweeps total book rule)) (pages_of (book_swept total book rule))

-- the answers to rules, each of which is swept over the book that those before it left
abbrev pub answers : ℕ → List Series → List Rule → List ℕ
answers total book [] = []
answers total book (rule ∷ rules) = answer total book rule ++ answers total (book_swept total book rule) rules

-- the book that they leave
abbrev pub book_behind : ℕ → List Series → List Rule → List Series
book_behind total book [] = book
book_behind total book (rule ∷ rules) = book_behind total (book_swept total book rule) rules

-- Each line says the rule in its place, and a series that a rule names is in the book by then.
abbrev pub AreRules : ℕ → List Series → List (Option (List ℕ)) → List Rule → Type 0
AreRules total book [] [] = ⊤
AreRules total book [] (rule ∷ rules) = ⊥
AreRules total book (line ∷ lines) [] = ⊥
AreRules total book (line ∷ lines) (rule ∷ rules) =
    Says line rule × (NamesNone book rule → ⊥) × AreRules total (book_swept total book rule) lines rules
