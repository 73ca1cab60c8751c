-- The words of the command line.
use Rattle.std.specs.Prelude.{◌≡◌, ◌⊎◌, ℕ, ◌+◌, ◌<◌, ◌≤◌, ◌^◌, true, false, List, [], ◌∷◌, take, map, codes, slice_get, Option, None, Some}
use Rattle.std.specs.Prelude.{Result, Ok, Err, String, string_bytes, IsTrue, ⊤}
use Rattle.std.specs.Fmt.{decimal, signed_decimal}
use Rattle.chart_grid.specs.Limits.{IsSide, IsWindow}
use Rattle.series_book.specs.Names.{is_name}
use Rattle.series_export.specs.declared.window.Window.{Window}
use Rattle.program_words.specs.CommandLine.{plain_words, has_flag}
use Rattle.program_words.specs.declared.words.Command.{Command}
use Rattle.program_words.specs.declared.words.Command.TheVariants.{Plot, Load, Demo, Run, Serve, Draw, Init, Check, ListSeries, Export}
use Rattle.program_words.specs.declared.words.Command.TheVariants.{Retain, Cover, Live, Host, Derive}
use Rattle.program_words.specs.declared.words.WordsEnd.{WordsEnd}
use Rattle.program_words.specs.declared.words.WordsEnd.TheVariants.{Wrong, NoMemory}

-- the first word of a command
abbrev pub word_of : Command → List ℕ
word_of (Plot w h) = codes "plot"
word_of (Load name) = codes "load"
word_of (Demo seed count) = codes "demo"
word_of Run = codes "run"
word_of Serve = codes "serve"
word_of Draw = codes "draw"
word_of Init = codes "init"
word_of Check = codes "check"
word_of ListSeries = codes "list"
word_of (Export name window) = codes "export"
word_of Retain = codes "retain"
word_of (Cover every) = codes "cover"
word_of Live = codes "live"
word_of Host = codes "host"
word_of Derive = codes "derive"

-- a command of one word
abbrev pub IsSingle : Command → Type 0
IsSingle (Plot w h) = ⊥
IsSingle (Load name) = ⊥
IsSingle (Demo seed count) = ⊥
IsSingle Run = ⊤
IsSingle Serve = ⊤
IsSingle Draw = ⊤
IsSingle Init = ⊤
IsSingle Check = ⊤
IsSingle ListSeries = ⊤
IsSingle (Export name window) = ⊥
IsSingle Retain = ⊤
IsSingle (Cover every) = ⊥
IsSingle Live = ⊤
IsSingle Host = ⊤
IsSingle Derive = ⊤

-- the words behind the name of an export: the ends of its window, if there is one
abbrev pub window_words : Option Window → List (List ℕ)
window_words None = []
window_words (Some window) = signed_decimal window.from ∷ signed_decimal window.to ∷ []

-- the window, if there is one, runs from a time to a later one, each at most 2 * 10^18 in size
abbrev pub IsWindowIfAny : Option Window → Type 0
IsWindowIfAny None = ⊤
IsWindowIfAny (Some window) = IsWindow window.from window.to

-- a number of coefficients from one cover of a view to the next
pub record IsEvery (n : ℕ) : Type 0 where
  pub some : 0 < n
  pub most : n ≤ 131072

-- the words spell the command: `plot W H`, two numbers from 1 to 4,096; `load NAME`; `demo SEED N`, a number below 2^64 and
-- one from 1 to 4,096; `export NAME` or `export NAME T0 T1`, two whole numbers; `cover EVERY`, a number from 1 to 131,072;
-- or `run`, `serve`, `draw`, `init`, `check`, `list`, `retain`, `live`, `host` or `derive`
abbrev pub Spells : Command → List (List ℕ) → Type 0
Spells (Plot w h) words = (words ≡ codes "plot" ∷ decimal w ∷ decimal h ∷ []) × IsSide w × IsSide h
Spells (Load name) words = (words ≡ codes "load" ∷ name ∷ []) × IsTrue (is_name name)
Spells (Demo seed count) words = (words ≡ codes "demo" ∷ decimal seed ∷ decimal count ∷ []) × (seed < 2 ^ 64) × IsSide count
Spells Run words = words ≡ codes "run" ∷ []
Spells Serve words = words ≡ codes "serve" ∷ []
Spells Draw words = words ≡ codes "draw" ∷ []
Spells Init words = words ≡ codes "init" ∷ []
Spells Check words = words ≡ codes "check" ∷ []
Spells ListSeries words = words ≡ codes "list" ∷ []
Spells (Export name window) words = (words ≡ codes "export" ∷ name ∷ window_words window) × IsTrue (is_name name) × IsWindowIfAny window
Spells Retain words = words ≡ codes "retain" ∷ []
Spells (Cover every) words = (words ≡ codes "cover" ∷ decimal every ∷ []) × IsEvery every
Spells Live words = words ≡ codes "live" ∷ []
Spells Host words = words ≡ codes "host" ∷ []
Spells Derive words = words ≡ codes "derive" ∷ []

-- the first words, so many of them, are those that some command begins with
pub record Begins (count : ℕ) (words : List (List ℕ)) : Type 0 where
  pub command : Command
  pub spelling : List (List ℕ)
  pub spells : Spells command spelling
  pub same : take count words ≡ take count spelling

-- the first wrong word, or the number of words where one is missing: some command begins with the words
-- before it, and none with these and it
pub record IsWrongAt (place : ℕ) (words : List (List ℕ)) : Type 0 where
  pub before : Begins place words
  pub here : Begins (place + 1) words → ⊥

-- the same where the words are an export's up to its name
abbrev pub IsWrongExport : List (List ℕ) → ℕ → Type 0
IsWrongExport words place = (name : List ℕ) → IsTrue (is_name name) → slice_get words 0 ≡ Some (codes "export")
    → slice_get words 1 ≡ Some name → IsWrongAt place words

-- why words aren't those of a command
abbrev pub IsWrongBy : WordsEnd → List (List ℕ) → Type 0
IsWrongBy (Wrong place) words = IsWrongAt place words
IsWrongBy NoMemory words = ⊤

-- why the word at a place isn't read as a name
abbrev pub HasNoName : ℕ → List (List ℕ) → WordsEnd → Type 0
HasNoName place words (Wrong at) = (at ≡ place) × ((name : List ℕ) → IsTrue (is_name name) → slice_get words place ≡ Some name → ⊥)
HasNoName place words NoMemory = ⊤

-- why the word at a place isn't read as a number below 2^64
abbrev pub HasNoSeed : ℕ → List (List ℕ) → WordsEnd → Type 0
HasNoSeed place words (Wrong at) = (at ≡ place) × ((seed : ℕ) → seed < 2 ^ 64 → slice_get words place ≡ Some (decimal seed) → ⊥)
HasNoSeed place words NoMemory = ⊤

-- the place of the first wrong word, as an end
abbrev pub placed : {T : Type 0} → Result T ℕ → Result T WordsEnd
placed (Ok command) = Ok command
placed (Err place) = Err (Wrong place)

-- a word is a flag, which is wrong at 0; or the command and its operands aren't those of a command
abbrev pub IsWrong : ℕ → List (List ℕ) → Type 0
IsWrong place words = ((has_flag words ≡ true) × (place ≡ 0)) ⊎ ((has_flag words ≡ false) × IsWrongAt place (plain_words words))

-- why words aren't taken
abbrev pub EndsWords : WordsEnd → List (List ℕ) → Type 0
EndsWords (Wrong place) words = IsWrong place words
EndsWords NoMemory words = ⊤

-- the words are those of a command, and this holds of it
pub record OfCommand (words : List (List ℕ)) (P : Command → Type 0) : Type 0 where
  pub command : Command
  pub spells : Spells command words
  pub holds : P command

-- the same of the words that a program is given
abbrev pub ByCommand : {Z : Type 0} → List (String Z) → (Command → Type 0) → Type 0
ByCommand words P = OfCommand (plain_words (map string_bytes words)) P

-- they are those of some command, and none is a flag
abbrev pub AreCommand : {Z : Type 0} → List (String Z) → Type 0
AreCommand words = (has_flag (map string_bytes words) ≡ false) × ByCommand words (λ command. Unit {0})

-- they are those of this command
abbrev pub AreWordsOf : {Z : Type 0} → Command → List (String Z) → Type 0
AreWordsOf command words = (has_flag (map string_bytes words) ≡ false) × Spells command (plain_words (map string_bytes words))
