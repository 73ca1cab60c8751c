-- What the words of a command say of it.
use Rattle.std.proofs.Common.{◌≡◌, ℕ, zero, suc, true, false, inl, inr, List, [], ◌∷◌, Option, IfSome, get_or, refl, ap, sym, arith, subst}
use Rattle.std.proofs.Common.{◌∙◌}
use Rattle.std.specs.Prelude.{Contains, String, map, string_bytes}
use Rattle.block_disk.specs.View.{View}
use Rattle.program_words.specs.declared.words.Command.{Command}
use Rattle.program_words.specs.declared.words.Command.TheVariants.{Plot, Load, Demo, Run, Serve, Draw, Init, Check, ListSeries, Export}
use Rattle.program_words.specs.declared.words.Command.TheVariants.{Retain, Cover, Live, Host, Derive}
use Rattle.program_words.specs.CommandLine.{plain_words, has_flag}
use Rattle.program_words.specs.Words.{OfCommand, Spells, IsWrong, EndsWords}
use Rattle.program_words.specs.declared.words.WordsEnd.{WordsEnd}
use Rattle.program_words.specs.declared.words.WordsEnd.TheVariants.{Wrong}
use Rattle.chart_program.specs.Ran.{HasGoodInput, HasOperands, IsStreaming, IsInput, IsFrames, IsOfReplies, IsCoverOfReplies, BeginStream}

-- the words are those of this command
pub of_command : (words : List (List ℕ)) (command told : Command) (P : Command → Type 0) → told ≡ command → Spells told words → P command
    → OfCommand words P
of_command words command told P is spells holds =
    let S : Command → Type 0 = λ c. Spells c words in
    record { command = command; spells = subst S is spells; holds = holds }

pub with_operands : (command : Command) (words : List (List ℕ)) → Spells command words → HasOperands command
with_operands (Plot w h) words is = (is.1, is.2)
with_operands (Load name) words is = tt
with_operands (Demo seed rounds) words is = is.2
with_operands Run words is = tt
with_operands Serve words is = tt
with_operands Draw words is = tt
with_operands Init words is = tt
with_operands Check words is = tt
with_operands ListSeries words is = tt
with_operands (Export name window) words is = tt
with_operands Retain words is = tt
with_operands (Cover every) words is = is.1
with_operands Live words is = tt
with_operands Host words is = tt
with_operands Derive words is = tt

-- the first word
abbrev first : List (List ℕ) → List ℕ
first words = get_or words 0 []

-- the words of a command that sends when it ends
pub streams : (command : Command) (words : List (List ℕ)) → Spells command words → (BeginStream words → ⊥) → IsStreaming command → ⊥
streams (Plot w h) words is none streaming = streaming
streams (Load name) words is none streaming = streaming
streams (Demo seed rounds) words is none streaming = streaming
streams Run words is none streaming = none (0, omega arith, sym (ap first is))
streams Serve words is none streaming = none (1, omega arith, sym (ap first is))
streams Draw words is none streaming = none (2, omega arith, sym (ap first is))
streams Init words is none streaming = streaming
streams Check words is none streaming = streaming
streams ListSeries words is none streaming = streaming
streams (Export name window) words is none streaming = none (3, omega arith, sym (ap first is.0))
streams Retain words is none streaming = none (4, omega arith, sym (ap first is))
streams (Cover every) words is none streaming = none (5, omega arith, sym (ap first is.0))
streams Live words is none streaming = none (6, omega arith, sym (ap first is))
streams Host words is none streaming = none (7, omega arith, sym (ap first is))
streams Derive words is none streaming = none (8, omega arith, sym (ap first is))

-- the second byte of the first word, which tells `draw` and `init` from all others
abbrev second : List (List ℕ) → ℕ
second words = get_or (get_or words 0 []) 1 0

pub one_draw : (command : Command) (words : List (List ℕ)) → Spells command words → Spells Draw words → command ≡ Draw
one_draw (Plot w h) words is other = let both : 108 ≡ 114 = ap second (sym is.0 ∙ other) in absurd (omega (arith, both))
one_draw (Load name) words is other = let both : 111 ≡ 114 = ap second (sym is.0 ∙ other) in absurd (omega (arith, both))
one_draw (Demo seed rounds) words is other = let both : 101 ≡ 114 = ap second (sym is.0 ∙ other) in absurd (omega (arith, both))
one_draw Run words is other = let both : 117 ≡ 114 = ap second (sym is ∙ other) in absurd (omega (arith, both))
one_draw Serve words is other = let both : 101 ≡ 114 = ap second (sym is ∙ other) in absurd (omega (arith, both))
one_draw Draw words is other = refl
one_draw Init words is other = let both : 110 ≡ 114 = ap second (sym is ∙ other) in absurd (omega (arith, both))
one_draw Check words is other = let both : 104 ≡ 114 = ap second (sym is ∙ other) in absurd (omega (arith, both))
one_draw ListSeries words is other = let both : 105 ≡ 114 = ap second (sym is ∙ other) in absurd (omega (arith, both))
one_draw (Export name window) words is other = let both : 120 ≡ 114 = ap second (sym is.0 ∙ other) in absurd (omega (arith, both))
one_draw Retain words is other = let both : 101 ≡ 114 = ap second (sym is ∙ other) in absurd (omega (arith, both))
one_draw (Cover every) words is other = let both : 111 ≡ 114 = ap second (sym is.0 ∙ other) in absurd (omega (arith, both))
one_draw Live words is other = let both : 105 ≡ 114 = ap second (sym is ∙ other) in absurd (omega (arith, both))
one_draw Host words is other = let both : 111 ≡ 114 = ap second (sym is ∙ other) in absurd (omega (arith, both))
one_draw Derive words is other = let both : 101 ≡ 114 = ap second (sym is ∙ other) in absurd (omega (arith, both))

pub one_init : (command : Command) (words : List (List ℕ)) → Spells command words → Spells Init words → command ≡ Init
one_init (Plot w h) words is other = let both : 108 ≡ 110 = ap second (sym is.0 ∙ other) in absurd (omega (arith, both))
one_init (Load name) words is other = let both : 111 ≡ 110 = ap second (sym is.0 ∙ other) in absurd (omega (arith, both))
one_init (Demo seed rounds) words is other = let both : 101 ≡ 110 = ap second (sym is.0 ∙ other) in absurd (omega (arith, both))
one_init Run words is other = let both : 117 ≡ 110 = ap second (sym is ∙ other) in absurd (omega (arith, both))
one_init Serve words is other = let both : 101 ≡ 110 = ap second (sym is ∙ other) in absurd (omega (arith, both))
one_init Draw words is other = let both : 114 ≡ 110 = ap second (sym is ∙ other) in absurd (omega (arith, both))
one_init Init words is other = refl
one_init Check words is other = let both : 104 ≡ 110 = ap second (sym is ∙ other) in absurd (omega (arith, both))
one_init ListSeries words is other = let both : 105 ≡ 110 = ap second (sym is ∙ other) in absurd (omega (arith, both))
one_init (Export name window) words is other = let both : 120 ≡ 110 = ap second (sym is.0 ∙ other) in absurd (omega (arith, both))
one_init Retain words is other = let both : 101 ≡ 110 = ap second (sym is ∙ other) in absurd (omega (arith, both))
one_init (Cover every) words is other = let both : 111 ≡ 110 = ap second (sym is.0 ∙ other) in absurd (omega (arith, both))
one_init Live words is other = let both : 105 ≡ 110 = ap second (sym is ∙ other) in absurd (omega (arith, both))
one_init Host words is other = let both : 111 ≡ 110 = ap second (sym is ∙ other) in absurd (omega (arith, both))
one_init Derive words is other = let both : 101 ≡ 110 = ap second (sym is ∙ other) in absurd (omega (arith, both))

pub chart_codes : (code : ℕ) → Contains (0 ∷ 3 ∷ 4 ∷ 5 ∷ 6 ∷ 7 ∷ 8 ∷ 9 ∷ 10 ∷ 11 ∷ 12 ∷ 13 ∷ 14 ∷ 15 ∷ 16 ∷ 17 ∷ []) code
    → Contains (0 ∷ 2 ∷ 3 ∷ 4 ∷ 5 ∷ 6 ∷ 7 ∷ 8 ∷ 9 ∷ 10 ∷ 11 ∷ 12 ∷ 13 ∷ 14 ∷ 15 ∷ 16 ∷ 17 ∷ []) code
chart_codes code (zero, inside, is) = (0, omega arith, is)
chart_codes code (suc k, inside, is) = (suc (suc k), omega (arith, inside), is)

-- a command that is done with good input is done with that of its words
pub completes : {Z : Type 0} (words : List (String Z)) (left : Option (List ℕ)) (command : Command) (old new : View) (D : Type 0)
    → Spells command (plain_words (map string_bytes words)) → IfSome left (λ input. IsInput command old new input → D)
    → HasGoodInput words left (λ told. IsInput told old new) → D
completes words left command old new D spells done given =
    let P : Option (List ℕ) → Type 0 = λ o. IfSome o (λ input. IsInput command old new input → D) in
    let there : IsInput command old new given.input → D = subst P given.told done in
    there (given.good command spells)

-- the same where the input is frames that answer lines, for a command that draws covers
cover_completes : (command : Command) (old new : View) (input : List ℕ) (D : Type 0) → ((i : List ℕ) → IsOfReplies i → IsFrames i)
    → (IsInput command old new input → D) → IsCoverOfReplies command input → D
cover_completes (Plot w h) old new input D frames done replies = absurd replies
cover_completes (Load name) old new input D frames done replies = absurd replies
cover_completes (Demo seed rounds) old new input D frames done replies = absurd replies
cover_completes Run old new input D frames done replies = absurd replies
cover_completes Serve old new input D frames done replies = absurd replies
cover_completes Draw old new input D frames done replies = absurd replies
cover_completes Init old new input D frames done replies = absurd replies
cover_completes Check old new input D frames done replies = absurd replies
cover_completes ListSeries old new input D frames done replies = absurd replies
cover_completes (Export name window) old new input D frames done replies = absurd replies
cover_completes Retain old new input D frames done replies = absurd replies
cover_completes Live old new input D frames done replies = absurd replies
cover_completes Host old new input D frames done replies = absurd replies
cover_completes Derive old new input D frames done replies = absurd replies
cover_completes (Cover every) old new input D frames done replies = done (frames input replies)

pub covers_complete : {Z : Type 0} (words : List (String Z)) (left : Option (List ℕ)) (command : Command) (old new : View) (D : Type 0)
    → ((i : List ℕ) → IsOfReplies i → IsFrames i) → Spells command (plain_words (map string_bytes words))
    → IfSome left (λ input. IsInput command old new input → D) → HasGoodInput words left IsCoverOfReplies → D
covers_complete words left command old new D frames spells done given =
    let P : Option (List ℕ) → Type 0 = λ o. IfSome o (λ input. IsInput command old new input → D) in
    cover_completes command old new given.input D frames (subst P given.told done) (given.good command spells)

-- words that are those of a command aren't wrong
pub wrong_end : (end : WordsEnd) (place : ℕ) (words : List (List ℕ)) → end ≡ Wrong place → EndsWords end words → IsWrong place words
wrong_end end place words is ends = let E : WordsEnd → Type 0 = λ e. EndsWords e words in subst E is ends

pub wrong_never : (place : ℕ) (words : List (List ℕ)) (command : Command) → has_flag words ≡ false → Spells command (plain_words words)
    → IsWrong place words → ⊥
wrong_never place words command plain spells (inl flag) = let both : true ≡ false = sym flag.0 ∙ plain in cc
wrong_never place words command plain spells (inr wrong) = wrong.1.here
    (record { command = command; spelling = plain_words words; spells = spells; same = refl })

-- good words aren't wrong
pub good_never : {Z : Type 0} (place : ℕ) (words : List (String Z)) (left : Option (List ℕ)) (IsGood : Command → List ℕ
    → Type 0) (D : Type 0) → IsWrong place (map string_bytes words) → HasGoodInput words left IsGood → D
good_never place words left IsGood D wrong given = absurd
    (wrong_never place (map string_bytes words) given.command.1.command given.command.0 given.command.1.spells wrong)
