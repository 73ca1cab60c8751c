-- Which of the words of a command line are a command and its operands.
use Rattle.std.specs.Prelude.{ℕ, ◌==◌, ◌++◌, Bool, false, if◌then◌else◌, List, [], ◌∷◌, codes}
use Rattle.std.specs.List.{list_any}
use Rattle.std.specs.Str.{bytes_eq}

-- two hyphens: the words behind the first such word stand for themselves
abbrev pub is_lone : List ℕ → Bool
is_lone word = bytes_eq word (codes "--")

-- a hyphen (45) and something behind it
abbrev pub is_flag : List ℕ → Bool
is_flag [] = false
is_flag (byte ∷ []) = false
is_flag (byte ∷ next ∷ rest) = byte == 45

-- the words before the first two hyphens, and those behind them
unfoldable pub before_lone : List (List ℕ) → List (List ℕ)
before_lone [] = []
before_lone (word ∷ words) = if is_lone word then [] else word ∷ before_lone words

unfoldable pub behind_lone : List (List ℕ) → List (List ℕ)
behind_lone [] = []
behind_lone (word ∷ words) = if is_lone word then words else behind_lone words

-- the command and its operands
abbrev pub plain_words : List (List ℕ) → List (List ℕ)
plain_words words = before_lone words ++ behind_lone words

-- a word before the first two hyphens is a flag
abbrev pub has_flag : List (List ℕ) → Bool
has_flag words = list_any is_flag (before_lone words)
