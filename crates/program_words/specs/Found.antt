-- What `clap` finds in the words. Private contracts are stated by these words.
use Rattle.std.specs.Prelude.{◌≡◌, ◌⊎◌, ℕ, true, false, List, [], ◌∷◌, ◌++◌, codes, Option, None, Some, unwrap_or}
use Rattle.clap.specs.Walk.{Row, first_of, all_of}
use Rattle.clap.specs.declared.error.kind.ErrorKind.{ErrorKind}
use Rattle.clap.specs.declared.error.kind.ErrorKind.TheVariants.{OutOfMemory}
use Rattle.program_words.specs.CommandLine.{plain_words, has_flag}

-- the operands that are found; none are found where there is none
abbrev pub found_operands : List (List ℕ) → Option (List (List ℕ))
found_operands [] = None
found_operands (word ∷ words) = Some (word ∷ words)

-- no word is a flag, and the command and its operands are found
pub record IsFound (words : List (List ℕ)) (rows : List Row) : Type 0 where
  pub unflagged : has_flag words ≡ false
  pub command : List ℕ
  pub operands : List (List ℕ)
  pub are : plain_words words ≡ command ∷ operands
  pub command_found : first_of (codes "command") rows ≡ Some command
  pub operands_found : all_of (codes "operand") rows ≡ found_operands operands

-- memory ran out, or the words are refused
abbrev pub Fails : List (List ℕ) → ErrorKind → Type 0
Fails words kind = (kind ≡ OutOfMemory) ⊎ ((has_flag words ≡ true) ⊎ (plain_words words ≡ []))

-- the list of what may be there
abbrev pub listed : {X : Type 0} → Option X → List X
listed None = []
listed (Some x) = x ∷ []

-- the command that is found, and the operands behind it
abbrev pub words_in : List Row → List (List ℕ)
words_in rows = listed (first_of (codes "command") rows) ++ unwrap_or (all_of (codes "operand") rows) []
