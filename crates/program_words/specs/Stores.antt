-- Which commands use no store.
use Rattle.std.specs.Prelude.{ℕ, Bool, true, false, ◌||◌, if◌then◌else◌, List, [], ◌∷◌, codes}
use Rattle.std.specs.Str.{bytes_eq}
use Rattle.program_words.specs.CommandLine.{is_lone}
use Rattle.program_words.specs.declared.words.Command.{Command}
use Rattle.program_words.specs.declared.words.Command.TheVariants.{Plot, Draw, Cover}

-- `plot`, `draw` and `cover` use none
abbrev pub uses_no_store : Command → Bool
uses_no_store (Plot w h) = true
uses_no_store Draw = true
uses_no_store (Cover every) = true
uses_no_store command = false

-- the word is that of such a command
abbrev pub is_storeless : List ℕ → Bool
is_storeless word = bytes_eq word (codes "plot") || (bytes_eq word (codes "draw") || bytes_eq word (codes "cover"))

-- the first word is
abbrev pub begins_storeless : List (List ℕ) → Bool
begins_storeless [] = false
begins_storeless (word ∷ words) = is_storeless word

-- or, where two hyphens come first, the word behind them
abbrev pub names_storeless : List (List ℕ) → Bool
names_storeless [] = false
names_storeless (word ∷ words) = if is_lone word then begins_storeless words else is_storeless word
