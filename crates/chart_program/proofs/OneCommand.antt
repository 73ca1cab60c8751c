-- Words are those of one command at most.
use Rattle.std.proofs.Common.{◌≡◌, ℕ, ℤ, ◌+◌, ◌*◌, List, [], length, Option, Some, None, drop, get_or, refl, ap, ap₂, sym, subst, ◌∙◌}
use Rattle.std.proofs.Common.{arith}
use Rattle.std.proofs.lemmas.Fmt.{decimal_injective}
use Rattle.std.specs.Fmt.{signed_decimal}
use Rattle.whole_number.proofs.Digits.{one_integer}
use Rattle.whole_number.specs.Range.{IsTime}
use Rattle.series_export.specs.declared.window.Window.{Window}
use Rattle.program_words.specs.declared.words.Command.{Command}
use Rattle.program_words.specs.declared.words.Command.TheVariants.{Plot, Load, Demo, Run, Serve, Draw, Init, Check, ListSeries, Export}
use Rattle.program_words.specs.declared.words.Command.TheVariants.{Retain, Cover, Live, Host, Derive}
use Rattle.program_words.specs.Words.{IsWindowIfAny, Spells, window_words, word_of}
use Rattle.run_ends.specs.declared.status.Status.{Status}
use Rattle.chart_program.specs.Course.{Course}
use Rattle.chart_program.specs.Commands.{Does}

abbrev word_at : ℕ → List (List ℕ) → List ℕ
word_at place words = get_or words place []

-- a number of a command's first word, by its first three bytes: no two have the same
abbrev number : List ℕ → ℕ
number word = 2 * get_or word 0 0 + get_or word 1 0 + 2 * get_or word 2 0

numbered : (command : Command) (words : List (List ℕ)) → Spells command words → number (word_at 0 words) ≡ number (word_of command)
numbered (Plot w h) words is = ap (λ (l : List (List ℕ)). number (word_at 0 l)) is.0
numbered (Load name) words is = ap (λ (l : List (List ℕ)). number (word_at 0 l)) is.0
numbered (Demo seed rounds) words is = ap (λ (l : List (List ℕ)). number (word_at 0 l)) is.0
numbered (Export name window) words is = ap (λ (l : List (List ℕ)). number (word_at 0 l)) is.0
numbered (Cover every) words is = ap (λ (l : List (List ℕ)). number (word_at 0 l)) is.0
numbered command words is = ap (λ (l : List (List ℕ)). number (word_at 0 l)) is

same_number : (command own : Command) (words : List (List ℕ)) → Spells command words → Spells own words
    → number (word_of command) ≡ number (word_of own)
same_number command own words is other = sym (numbered command words is) ∙ numbered own words other

-- ---- the operands

-- a time of a window is written in one way
one_time : (a b : ℤ) → IsTime a → IsTime b → signed_decimal a ≡ signed_decimal b → a ≡ b
one_time a b small few same = one_integer (signed_decimal a) a b (refl, omega (arith, small)) (same, omega (arith, few))

one_window : (window own : Option Window) → IsWindowIfAny window → IsWindowIfAny own → window_words window ≡ window_words own → window ≡ own
one_window None None is other same = refl
one_window None (Some w) is other same = absurd (omega (arith, ap length same))
one_window (Some v) None is other same = absurd (omega (arith, ap length same))
one_window (Some v) (Some w) is other same =
    let from : v.from ≡ w.from = one_time v.from w.from is.from_size other.from_size (ap (word_at 0) same) in
    let to : v.to ≡ w.to = one_time v.to w.to is.to_size other.to_size (ap (word_at 1) same) in
    let made : ℤ → ℤ → Option Window = λ f t. Some (record { from = f; to = t }) in
    ap₂ made from to

-- ---- each command

one_plot : (command : Command) (w h : ℕ) (words : List (List ℕ)) → Spells command words → Spells (Plot w h) words → command ≡ Plot w h
one_plot (Plot v g) w h words is other =
    let same = sym is.0 ∙ other.0 in
    let wide : v ≡ w = decimal_injective v w (omega (arith, is.1.most)) (omega (arith, other.1.most)) (ap (word_at 1) same) in
    let high : g ≡ h = decimal_injective g h (omega (arith, is.2.most)) (omega (arith, other.2.most)) (ap (word_at 2) same) in
    ap₂ Plot wide high
one_plot command w h words is other = absurd (omega (arith, same_number command (Plot w h) words is other))

one_load : (command : Command) (name : List ℕ) (words : List (List ℕ)) → Spells command words → Spells (Load name) words
    → command ≡ Load name
one_load (Load its) name words is other = ap Load (ap (word_at 1) (sym is.0 ∙ other.0))
one_load command name words is other = absurd (omega (arith, same_number command (Load name) words is other))

one_demo : (command : Command) (seed rounds : ℕ) (words : List (List ℕ)) → Spells command words → Spells (Demo seed rounds) words
    → command ≡ Demo seed rounds
one_demo (Demo its count) seed rounds words is other =
    let same = sym is.0 ∙ other.0 in
    let one : its ≡ seed = decimal_injective its seed is.1 other.1 (ap (word_at 1) same) in
    let many : count ≡ rounds = decimal_injective count rounds (omega (arith, is.2.most)) (omega (arith, other.2.most))
    (ap (word_at 2) same) in
    ap₂ Demo one many
one_demo command seed rounds words is other = absurd (omega (arith, same_number command (Demo seed rounds) words is other))

one_export : (command : Command) (name : List ℕ) (window : Option Window) (words : List (List ℕ)) → Spells command words
    → Spells (Export name window) words → command ≡ Export name window
one_export (Export its own) name window words is other =
    let same = sym is.0 ∙ other.0 in
    ap₂ Export (ap (word_at 1) same) (one_window own window is.2 other.2 (ap (drop 2) same))
one_export command name window words is other = absurd (omega (arith, same_number command (Export name window) words is other))

one_cover : (command : Command) (every : ℕ) (words : List (List ℕ)) → Spells command words → Spells (Cover every) words
    → command ≡ Cover every
one_cover (Cover its) every words is other = ap Cover
    (decimal_injective its every (omega (arith, is.1.most)) (omega (arith, other.1.most)) (ap (word_at 1) (sym is.0 ∙ other.0)))
one_cover command every words is other = absurd (omega (arith, same_number command (Cover every) words is other))

one_run : (command : Command) (words : List (List ℕ)) → Spells command words → Spells Run words → command ≡ Run
one_run Run words is other = refl
one_run command words is other = absurd (omega (arith, same_number command Run words is other))

one_serve : (command : Command) (words : List (List ℕ)) → Spells command words → Spells Serve words → command ≡ Serve
one_serve Serve words is other = refl
one_serve command words is other = absurd (omega (arith, same_number command Serve words is other))

one_draw : (command : Command) (words : List (List ℕ)) → Spells command words → Spells Draw words → command ≡ Draw
one_draw Draw words is other = refl
one_draw command words is other = absurd (omega (arith, same_number command Draw words is other))

one_init : (command : Command) (words : List (List ℕ)) → Spells command words → Spells Init words → command ≡ Init
one_init Init words is other = refl
one_init command words is other = absurd (omega (arith, same_number command Init words is other))

one_check : (command : Command) (words : List (List ℕ)) → Spells command words → Spells Check words → command ≡ Check
one_check Check words is other = refl
one_check command words is other = absurd (omega (arith, same_number command Check words is other))

one_list : (command : Command) (words : List (List ℕ)) → Spells command words → Spells ListSeries words → command ≡ ListSeries
one_list ListSeries words is other = refl
one_list command words is other = absurd (omega (arith, same_number command ListSeries words is other))

one_retain : (command : Command) (words : List (List ℕ)) → Spells command words → Spells Retain words → command ≡ Retain
one_retain Retain words is other = refl
one_retain command words is other = absurd (omega (arith, same_number command Retain words is other))

one_live : (command : Command) (words : List (List ℕ)) → Spells command words → Spells Live words → command ≡ Live
one_live Live words is other = refl
one_live command words is other = absurd (omega (arith, same_number command Live words is other))

one_host : (command : Command) (words : List (List ℕ)) → Spells command words → Spells Host words → command ≡ Host
one_host Host words is other = refl
one_host command words is other = absurd (omega (arith, same_number command Host words is other))

one_derive : (command : Command) (words : List (List ℕ)) → Spells command words → Spells Derive words → command ≡ Derive
one_derive Derive words is other = refl
one_derive command words is other = absurd (omega (arith, same_number command Derive words is other))

one_command : (command own : Command) (words : List (List ℕ)) → Spells command words → Spells own words → command ≡ own
one_command command (Plot w h) words is other = one_plot command w h words is other
one_command command (Load name) words is other = one_load command name words is other
one_command command (Demo seed rounds) words is other = one_demo command seed rounds words is other
one_command command Run words is other = one_run command words is other
one_command command Serve words is other = one_serve command words is other
one_command command Draw words is other = one_draw command words is other
one_command command Init words is other = one_init command words is other
one_command command Check words is other = one_check command words is other
one_command command ListSeries words is other = one_list command words is other
one_command command (Export name window) words is other = one_export command name window words is other
one_command command Retain words is other = one_retain command words is other
one_command command (Cover every) words is other = one_cover command every words is other
one_command command Live words is other = one_live command words is other
one_command command Host words is other = one_host command words is other
one_command command Derive words is other = one_derive command words is other

-- what the command did that the words were read as, the one did that they spell
pub by_words : (command own : Command) (words : List (List ℕ)) (c : Course) (status : Status) → Spells command words → Spells own words
    → Does command c status → Does own c status
by_words command own words c status is other does =
    let P : Command → Type 0 = λ x. Does x c status in
    subst P (one_command command own words is other) does
