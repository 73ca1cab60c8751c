-- Where words are those of a command, and where the first wrong one is.
use Rattle.std.proofs.Common.{◌≡◌, ℕ, zero, suc, ◌<◌, ◌≤◌, ◌^◌, List, [], ◌∷◌, length, length-take, take, Option, Some, refl, ap, sym}
use Rattle.std.proofs.Common.{subst, ◌∙◌, arith}
use Rattle.std.specs.Prelude.{slice_get, codes, min, Bool, true, false, not, IsTrue, if◌then◌else◌, None, Result, Ok, Err}
use Rattle.std.specs.Str.Parse.{ParsesUnsigned}
use Rattle.std.proofs.lemmas.Fmt.{parse-decimal}
use Rattle.std.proofs.lemmas.Slice.Eq.{bytes_eq-Decides}
use Rattle.std.specs.Fmt.{decimal}
use Rattle.std.specs.Str.{bytes_eq}
use Rattle.chart_grid.specs.Limits.{IsSide}
use Rattle.series_book.specs.Names.{is_name, is_name_byte, RefusesName}
use Rattle.series_book.specs.declared.errors.NameError.{NameError}
use Rattle.series_book.specs.declared.errors.NameError.TheVariants.{NotAName, NoMemory}
use Rattle.whole_number.specs.Spelling.{SpellsNatural}
use Rattle.whole_number.proofs.Digits.{one_natural}
use Rattle.program_words.specs.declared.words.Command.{Command}
use Rattle.program_words.specs.declared.words.Command.TheVariants.{Plot, Load, Demo, Run, Serve, Draw, Init, Check, ListSeries, Export}
use Rattle.program_words.specs.declared.words.Command.TheVariants.{Retain, Cover, Live, Host, Derive}
use Rattle.program_words.specs.declared.words.WordsEnd.{WordsEnd}
use Rattle.program_words.specs.declared.words.WordsEnd.TheVariants.{Wrong, NoMemory as AtMemory}
use Rattle.program_words.specs.Words.{Spells, IsEvery, Begins, IsWrongAt, IsWrongBy, IsSingle, HasNoName, HasNoSeed, word_of}

one : IsSide 1
one = record { some = omega arith; most = omega arith }

-- a list's first elements, from its elements
pub first_one : {X : Type 0} (ws : List X) (a : X) → slice_get ws 0 ≡ Some a → take 1 ws ≡ a ∷ []
first_one [] a is = cc
first_one (x ∷ ws) a is = cc

pub first_two : {X : Type 0} (ws : List X) (a b : X) → slice_get ws 0 ≡ Some a → slice_get ws 1 ≡ Some b → take 2 ws ≡ a ∷ b ∷ []
first_two [] a b is next = cc
first_two (x ∷ []) a b is next = cc
first_two (x ∷ (y ∷ ws)) a b is next = cc

pub first_three : {X : Type 0} (ws : List X) (a b c : X) → slice_get ws 0 ≡ Some a → slice_get ws 1 ≡ Some b → slice_get ws 2 ≡ Some c
    → take 3 ws ≡ a ∷ b ∷ c ∷ []
first_three [] a b c is next third = cc
first_three (x ∷ []) a b c is next third = cc
first_three (x ∷ (y ∷ [])) a b c is next third = cc
first_three (x ∷ (y ∷ (z ∷ ws))) a b c is next third = cc

-- a list without more elements is its first ones
all_one : {X : Type 0} (ws : List X) → length ws ≤ 1 → take 1 ws ≡ ws
all_one [] few = refl
all_one (x ∷ []) few = refl
all_one (x ∷ (y ∷ ws)) few = absurd (omega (arith, few))

all_two : {X : Type 0} (ws : List X) → length ws ≤ 2 → take 2 ws ≡ ws
all_two [] few = refl
all_two (x ∷ []) few = refl
all_two (x ∷ (y ∷ [])) few = refl
all_two (x ∷ (y ∷ (z ∷ ws))) few = absurd (omega (arith, few))

all_three : {X : Type 0} (ws : List X) → length ws ≤ 3 → take 3 ws ≡ ws
all_three [] few = refl
all_three (x ∷ []) few = refl
all_three (x ∷ (y ∷ [])) few = refl
all_three (x ∷ (y ∷ (z ∷ []))) few = refl
all_three (x ∷ (y ∷ (z ∷ (v ∷ ws)))) few = absurd (omega (arith, few))

-- an element among the first ones is that of the list
got_first : {X : Type 0} (n : ℕ) (xs : List X) → 0 < n → slice_get (take n xs) 0 ≡ slice_get xs 0
got_first zero xs some = absurd (omega (arith, some))
got_first (suc n) [] some = refl
got_first (suc n) (x ∷ xs) some = refl

got_second : {X : Type 0} (n : ℕ) (xs : List X) → 1 < n → slice_get (take n xs) 1 ≡ slice_get xs 1
got_second zero xs some = absurd (omega (arith, some))
got_second (suc zero) xs some = absurd (omega (arith, some))
got_second (suc (suc n)) [] some = refl
got_second (suc (suc n)) (x ∷ []) some = refl
got_second (suc (suc n)) (x ∷ (y ∷ xs)) some = refl

got_third : {X : Type 0} (n : ℕ) (xs : List X) → 2 < n → slice_get (take n xs) 2 ≡ slice_get xs 2
got_third zero xs some = absurd (omega (arith, some))
got_third (suc zero) xs some = absurd (omega (arith, some))
got_third (suc (suc zero)) xs some = absurd (omega (arith, some))
got_third (suc (suc (suc n))) [] some = refl
got_third (suc (suc (suc n))) (x ∷ []) some = refl
got_third (suc (suc (suc n))) (x ∷ (y ∷ [])) some = refl
got_third (suc (suc (suc n))) (x ∷ (y ∷ (z ∷ xs))) some = refl

-- lists with the same first elements have the same element there
same_first : {X : Type 0} (n : ℕ) (xs ys : List X) → 0 < n → take n xs ≡ take n ys → slice_get xs 0 ≡ slice_get ys 0
same_first n xs ys some same = sym (got_first n xs some) ∙ ap (λ l. slice_get l 0) same ∙ got_first n ys some

same_second : {X : Type 0} (n : ℕ) (xs ys : List X) → 1 < n → take n xs ≡ take n ys → slice_get xs 1 ≡ slice_get ys 1
same_second n xs ys some same = sym (got_second n xs some) ∙ ap (λ l. slice_get l 1) same ∙ got_second n ys some

same_third : {X : Type 0} (n : ℕ) (xs ys : List X) → 2 < n → take n xs ≡ take n ys → slice_get xs 2 ≡ slice_get ys 2
same_third n xs ys some same = sym (got_third n xs some) ∙ ap (λ l. slice_get l 2) same ∙ got_third n ys some

pub inside : {X : Type 0} (o : Option X) (a b : X) → o ≡ Some a → o ≡ Some b → a ≡ b
inside o a b first second = let both : Some a ≡ Some b = sym first ∙ second in cc

true_false : (b : Bool) → b ≡ false → IsTrue b → ⊥
true_false b off on = cc

err_ok : {T E : Type 0} (r : Result T E) (e : E) (v : T) → r ≡ Err e → r ≡ Ok v → ⊥
err_ok r e v bad good = cc

ok_ok : {T E : Type 0} (r : Result T E) (a b : T) → r ≡ Ok a → r ≡ Ok b → a ≡ b
ok_ok r a b one other = cc

pub no_word : {X : Type 0} (o : Option X) (a : X) → o ≡ None → o ≡ Some a → ⊥
no_word o a none some = cc

-- the number of a command, by its first word
abbrev pub number_of : Command → ℕ
number_of (Plot w h) = 0
number_of (Load name) = 1
number_of (Demo seed count) = 2
number_of (Export name window) = 3
number_of (Cover every) = 4
number_of Run = 5
number_of Serve = 6
number_of Draw = 7
number_of Init = 8
number_of Check = 9
number_of ListSeries = 10
number_of Retain = 11
number_of Live = 12
number_of Host = 13
number_of Derive = 14

unfoldable number_by : List ℕ → ℕ
number_by word =
    if bytes_eq word (codes "plot") then 0 else
    if bytes_eq word (codes "load") then 1 else
    if bytes_eq word (codes "demo") then 2 else
    if bytes_eq word (codes "export") then 3 else
    if bytes_eq word (codes "cover") then 4 else
    if bytes_eq word (codes "run") then 5 else
    if bytes_eq word (codes "serve") then 6 else
    if bytes_eq word (codes "draw") then 7 else
    if bytes_eq word (codes "init") then 8 else
    if bytes_eq word (codes "check") then 9 else
    if bytes_eq word (codes "list") then 10 else
    if bytes_eq word (codes "retain") then 11 else
    if bytes_eq word (codes "live") then 12 else
    if bytes_eq word (codes "host") then 13 else 14

number_so : (command : Command) → number_by (word_of command) ≡ number_of command
unfolding number_by
number_so (Plot w h) = refl
number_so (Load name) = refl
number_so (Demo seed count) = refl
number_so Run = refl
number_so Serve = refl
number_so Draw = refl
number_so Init = refl
number_so Check = refl
number_so ListSeries = refl
number_so Retain = refl
number_so (Cover every) = refl
number_so Live = refl
number_so Host = refl
number_so Derive = refl
number_so (Export name window) = refl

-- a command's first word
first_of_spelling : (spelling : List (List ℕ)) (command : Command) → Spells command spelling → slice_get spelling 0 ≡ Some (word_of command)
first_of_spelling spelling (Plot w h) spells = ap (λ l. slice_get l 0) spells.0
first_of_spelling spelling (Load name) spells = ap (λ l. slice_get l 0) spells.0
first_of_spelling spelling (Demo seed count) spells = ap (λ l. slice_get l 0) spells.0
first_of_spelling spelling Run spells = ap (λ l. slice_get l 0) spells
first_of_spelling spelling Serve spells = ap (λ l. slice_get l 0) spells
first_of_spelling spelling Draw spells = ap (λ l. slice_get l 0) spells
first_of_spelling spelling Init spells = ap (λ l. slice_get l 0) spells
first_of_spelling spelling Check spells = ap (λ l. slice_get l 0) spells
first_of_spelling spelling ListSeries spells = ap (λ l. slice_get l 0) spells
first_of_spelling spelling Retain spells = ap (λ l. slice_get l 0) spells
first_of_spelling spelling (Cover every) spells = ap (λ l. slice_get l 0) spells.0
first_of_spelling spelling Live spells = ap (λ l. slice_get l 0) spells
first_of_spelling spelling Host spells = ap (λ l. slice_get l 0) spells
first_of_spelling spelling Derive spells = ap (λ l. slice_get l 0) spells
first_of_spelling spelling (Export name window) spells = ap (λ l. slice_get l 0) spells.0

-- two commands whose spellings begin with one word have one number
pub one_number : (spelling : List (List ℕ)) (command other : Command) → Spells other spelling
    → slice_get spelling 0 ≡ Some (word_of command) → number_of other ≡ number_of command
one_number spelling command other spells first =
    sym (number_so other) ∙ ap number_by (inside (slice_get spelling 0) (word_of other) (word_of command)
    (first_of_spelling spelling other spells) first) ∙ number_so command

-- the commands of this word have two operands, of these kinds; there are words of each kind
record HasTwo (word : List ℕ) (First Second : List ℕ → Type 0) : Type 0 where
  make : (a b : List ℕ) → First a → Second b → (command : Command) × Spells command (word ∷ a ∷ b ∷ [])
  only : (command : Command) (spelling : List (List ℕ)) → Spells command spelling → slice_get spelling 0 ≡ Some word
      → (a : List ℕ) × (b : List ℕ) × First a × Second b × (spelling ≡ word ∷ a ∷ b ∷ [])
  some_first : (a : List ℕ) × First a
  some_second : (b : List ℕ) × Second b

-- they have one operand, of this kind
record HasOne (word : List ℕ) (First : List ℕ → Type 0) : Type 0 where
  make : (a : List ℕ) → First a → (command : Command) × Spells command (word ∷ a ∷ [])
  only : (command : Command) (spelling : List (List ℕ)) → Spells command spelling → slice_get spelling 0 ≡ Some word
      → (a : List ℕ) × First a × (spelling ≡ word ∷ a ∷ [])
  some_first : (a : List ℕ) × First a

pub begins : (count : ℕ) (words spelling : List (List ℕ)) (made : (command : Command) × Spells command spelling)
    → take count words ≡ take count spelling → Begins count words
begins count words spelling made same = record { command = made.0; spelling = spelling; spells = made.1; same = same }

-- the first words are those of a command with this first word
pub first_there : (count : ℕ) (word : List ℕ) (words : List (List ℕ)) (b : Begins count words) → 0 < count → slice_get words 0 ≡ Some word
    → slice_get b.spelling 0 ≡ Some word
first_there count word words b some first = sym (same_first count words b.spelling some b.same) ∙ first

-- ---- two operands

two_wrong_first : (word : List ℕ) (First Second : List ℕ → Type 0) → HasTwo word First Second → (words : List (List ℕ))
    → slice_get words 0 ≡ Some word
    → ((a : List ℕ) → First a → slice_get words 1 ≡ Some a → ⊥) → IsWrongAt 1 words
two_wrong_first word First Second has words first none = record {
  before = begins 1 words (word ∷ has.some_first.0 ∷ has.some_second.0 ∷ [])
      (has.make has.some_first.0 has.some_second.0 has.some_first.1 has.some_second.1) (first_one words word first);
  here = λ b.
      let o = has.only b.command b.spelling b.spells (first_there 2 word words b (omega arith) first) in
      none o.0 o.2 (same_second 2 words b.spelling (omega arith) b.same ∙ ap (λ l. slice_get l 1) o.4);
}

two_wrong_second : (word : List ℕ) (First Second : List ℕ → Type 0) → HasTwo word First Second → (words : List (List ℕ)) (a : List ℕ)
    → First a → slice_get words 0 ≡ Some word → slice_get words 1 ≡ Some a
    → ((b : List ℕ) → Second b → slice_get words 2 ≡ Some b → ⊥) → IsWrongAt 2 words
two_wrong_second word First Second has words a is first second none = record {
  before = begins 2 words (word ∷ a ∷ has.some_second.0 ∷ []) (has.make a has.some_second.0 is has.some_second.1)
      (first_two words word a first second);
  here = λ b.
      let o = has.only b.command b.spelling b.spells (first_there 3 word words b (omega arith) first) in
      none o.1 o.3 (same_third 3 words b.spelling (omega arith) b.same ∙ ap (λ l. slice_get l 2) o.4);
}

two_too_many : (word : List ℕ) (First Second : List ℕ → Type 0) → HasTwo word First Second → (words : List (List ℕ)) (a b : List ℕ)
    → First a → Second b → slice_get words 0 ≡ Some word → slice_get words 1 ≡ Some a
    → slice_get words 2 ≡ Some b → 3 < length words → IsWrongAt 3 words
two_too_many word First Second has words a b is next first second third many = record {
  before = begins 3 words (word ∷ a ∷ b ∷ []) (has.make a b is next) (first_three words word a b first second third);
  here = λ begun.
      let o = has.only begun.command begun.spelling begun.spells (first_there 4 word words begun (omega arith) first) in
      let short : take 4 words ≡ word ∷ o.0 ∷ o.1 ∷ [] = begun.same ∙ ap (take 4) o.4 in
      let few : min 4 (length words) ≤ 3 = omega (arith, ap length short, length-take 4 words) in
      omega (arith, few, many);
}

two_right : (word : List ℕ) (words : List (List ℕ)) (a b : List ℕ) → slice_get words 0 ≡ Some word → slice_get words 1 ≡ Some a
    → slice_get words 2 ≡ Some b → length words ≤ 3 → words ≡ word ∷ a ∷ b ∷ []
two_right word words a b first second third few = sym (all_three words few) ∙ first_three words word a b first second third

-- ---- one operand

one_wrong_first : (word : List ℕ) (First : List ℕ → Type 0) → HasOne word First → (words : List (List ℕ)) → slice_get words 0 ≡ Some word
    → ((a : List ℕ) → First a → slice_get words 1 ≡ Some a → ⊥) → IsWrongAt 1 words
one_wrong_first word First has words first none = record {
  before = begins 1 words (word ∷ has.some_first.0 ∷ []) (has.make has.some_first.0 has.some_first.1) (first_one words word first);
  here = λ b.
      let o = has.only b.command b.spelling b.spells (first_there 2 word words b (omega arith) first) in
      none o.0 o.1 (same_second 2 words b.spelling (omega arith) b.same ∙ ap (λ l. slice_get l 1) o.2);
}

one_too_many : (word : List ℕ) (First : List ℕ → Type 0) → HasOne word First → (words : List (List ℕ)) (a : List ℕ) → First a
    → slice_get words 0 ≡ Some word → slice_get words 1 ≡ Some a
    → 2 < length words → IsWrongAt 2 words
one_too_many word First has words a is first second many = record {
  before = begins 2 words (word ∷ a ∷ []) (has.make a is) (first_two words word a first second);
  here = λ begun.
      let o = has.only begun.command begun.spelling begun.spells (first_there 3 word words begun (omega arith) first) in
      let short : take 3 words ≡ word ∷ o.0 ∷ [] = begun.same ∙ ap (take 3) o.2 in
      let few : min 3 (length words) ≤ 2 = omega (arith, ap length short, length-take 3 words) in
      omega (arith, few, many);
}

-- ---- plots

abbrev IsSideWord : List ℕ → Type 0
IsSideWord word = (side : ℕ) × IsSide side × (word ≡ decimal side)

only_plot : (command : Command) (spelling : List (List ℕ)) → Spells command spelling → number_of command ≡ 0
    → (a : List ℕ) × (b : List ℕ) × IsSideWord a × IsSideWord b × (spelling ≡ codes "plot" ∷ a ∷ b ∷ [])
only_plot (Plot w h) spelling spells number = (decimal w, decimal h, (w, spells.1, refl), (h, spells.2, refl), spells.0)
only_plot command spelling spells number = absurd (omega (arith, number))

plots : HasTwo (codes "plot") IsSideWord IsSideWord
plots = record {
  make = λ a b w h. (
    Plot w.0 h.0,
    (
      (let P : List ℕ → Type 0 = λ x. codes "plot" ∷ a ∷ b ∷ [] ≡ codes "plot" ∷ x ∷ decimal h.0 ∷ [] in
          let Q : List ℕ → Type 0 = λ y. codes "plot" ∷ a ∷ b ∷ [] ≡ codes "plot" ∷ a ∷ y ∷ [] in subst P w.2 (subst Q h.2 refl)),
      w.1,
      h.1,
    ),
  );
  only = λ command spelling spells first. only_plot command spelling spells (one_number spelling (Plot 1 1) command spells first);
  some_first = (decimal 1, (1, one, refl));
  some_second = (decimal 1, (1, one, refl));
}

side_none : (words : List (List ℕ)) (place : ℕ) → ((side : ℕ) → IsSide side → slice_get words place ≡ Some (decimal side) → ⊥)
    → (a : List ℕ) → IsSideWord a → slice_get words place ≡ Some a → ⊥
side_none words place none a is there = none is.0 is.1 (there ∙ ap Some is.2)

-- the width, or the height, is missing or wrong
pub wrong_second : (words : List (List ℕ)) → slice_get words 0 ≡ Some (codes "plot")
    → ((side : ℕ) → IsSide side → slice_get words 1 ≡ Some (decimal side) → ⊥) → IsWrongAt 1 words
wrong_second words first none = two_wrong_first (codes "plot") IsSideWord IsSideWord plots words first (side_none words 1 none)

pub wrong_third : (words : List (List ℕ)) (w : ℕ) → IsSide w → slice_get words 0 ≡ Some (codes "plot")
    → slice_get words 1 ≡ Some (decimal w) → ((side : ℕ) → IsSide side → slice_get words 2 ≡ Some (decimal side) → ⊥) → IsWrongAt 2 words
wrong_third words w wide first second none = two_wrong_second (codes "plot") IsSideWord IsSideWord plots words (decimal w) (
  w,
  wide,
  refl,
) first second (side_none words 2 none)

-- there is a word too many
pub wrong_fourth : (words : List (List ℕ)) (w h : ℕ) → IsSide w → IsSide h → slice_get words 0 ≡ Some (codes "plot")
    → slice_get words 1 ≡ Some (decimal w) → slice_get words 2 ≡ Some (decimal h) → 3 < length words → IsWrongAt 3 words
wrong_fourth words w h wide high first second third many =
    two_too_many (codes "plot") IsSideWord IsSideWord plots words (decimal w) (decimal h) (w, wide, refl) (
      h,
      high,
      refl,
    ) first second third many

-- these are the words of a command
pub right : (words : List (List ℕ)) (w h : ℕ) → slice_get words 0 ≡ Some (codes "plot") → slice_get words 1 ≡ Some (decimal w)
    → slice_get words 2 ≡ Some (decimal h) → length words ≤ 3 → words ≡ codes "plot" ∷ decimal w ∷ decimal h ∷ []
right words w h first second third few = two_right (codes "plot") words (decimal w) (decimal h) first second third few

-- ---- workloads

abbrev IsSeedWord : List ℕ → Type 0
IsSeedWord word = (seed : ℕ) × (seed < 2 ^ 64) × (word ≡ decimal seed)

only_demo : (command : Command) (spelling : List (List ℕ)) → Spells command spelling → number_of command ≡ 2
    → (a : List ℕ) × (b : List ℕ) × IsSeedWord a × IsSideWord b × (spelling ≡ codes "demo" ∷ a ∷ b ∷ [])
only_demo (Demo seed count) spelling spells number = (
  decimal seed,
  decimal count,
  (seed, spells.1, refl),
  (count, spells.2, refl),
  spells.0,
)
only_demo command spelling spells number = absurd (omega (arith, number))

demos : HasTwo (codes "demo") IsSeedWord IsSideWord
demos = record {
  make = λ a b s n. (
    Demo s.0 n.0,
    (
      (let P : List ℕ → Type 0 = λ x. codes "demo" ∷ a ∷ b ∷ [] ≡ codes "demo" ∷ x ∷ decimal n.0 ∷ [] in
          let Q : List ℕ → Type 0 = λ y. codes "demo" ∷ a ∷ b ∷ [] ≡ codes "demo" ∷ a ∷ y ∷ [] in subst P s.2 (subst Q n.2 refl)),
      s.1,
      n.1,
    ),
  );
  only = λ command spelling spells first. only_demo command spelling spells (one_number spelling (Demo 1 1) command spells first);
  some_first = (decimal 1, (1, omega arith, refl));
  some_second = (decimal 1, (1, one, refl));
}

-- the seed, or the number of rounds, is missing or wrong
pub wrong_seed : (words : List (List ℕ)) → slice_get words 0 ≡ Some (codes "demo")
    → ((seed : ℕ) → seed < 2 ^ 64 → slice_get words 1 ≡ Some (decimal seed) → ⊥) → IsWrongAt 1 words
wrong_seed words first none = two_wrong_first (codes "demo") IsSeedWord IsSideWord demos words first
    (λ a is there. none is.0 is.1 (there ∙ ap Some is.2))

pub wrong_rounds : (words : List (List ℕ)) (seed : ℕ) → seed < 2 ^ 64 → slice_get words 0 ≡ Some (codes "demo")
    → slice_get words 1 ≡ Some (decimal seed) → ((side : ℕ) → IsSide side → slice_get words 2 ≡ Some (decimal side) → ⊥) → IsWrongAt 2 words
wrong_rounds words seed small first second none = two_wrong_second (codes "demo") IsSeedWord IsSideWord demos words (decimal seed) (
  seed,
  small,
  refl,
) first second (side_none words 2 none)

pub wrong_behind_rounds : (words : List (List ℕ)) (seed count : ℕ) → seed < 2 ^ 64 → IsSide count → slice_get words 0 ≡ Some (codes "demo")
    → slice_get words 1 ≡ Some (decimal seed) → slice_get words 2 ≡ Some (decimal count) → 3 < length words → IsWrongAt 3 words
wrong_behind_rounds words seed count small some first second third many =
    two_too_many (codes "demo") IsSeedWord IsSideWord demos words (decimal seed) (decimal count) (seed, small, refl) (
      count,
      some,
      refl,
    ) first second third many

pub right_demo : (words : List (List ℕ)) (seed count : ℕ) → slice_get words 0 ≡ Some (codes "demo")
    → slice_get words 1 ≡ Some (decimal seed) → slice_get words 2 ≡ Some (decimal count) → length words ≤ 3
    → words ≡ codes "demo" ∷ decimal seed ∷ decimal count ∷ []
right_demo words seed count first second third few = two_right (codes "demo") words (decimal seed) (decimal count) first second third few

-- ---- loads

abbrev IsNameWord : List ℕ → Type 0
IsNameWord word = IsTrue (is_name word)

only_load : (command : Command) (spelling : List (List ℕ)) → Spells command spelling → number_of command ≡ 1
    → (a : List ℕ) × IsNameWord a × (spelling ≡ codes "load" ∷ a ∷ [])
only_load (Load name) spelling spells number = (name, spells.1, spells.0)
only_load command spelling spells number = absurd (omega (arith, number))

pub a_name : IsTrue (is_name (codes "a"))
unfolding is_name is_name_byte
a_name = refl

loads : HasOne (codes "load") IsNameWord
loads = record {
  make = λ a is. (Load a, (refl, is));
  only = λ command spelling spells first. only_load command spelling spells (one_number spelling (Load []) command spells first);
  some_first = (codes "a", a_name);
}

-- the name is missing or wrong
pub wrong_name : (words : List (List ℕ)) → slice_get words 0 ≡ Some (codes "load")
    → ((name : List ℕ) → IsTrue (is_name name) → slice_get words 1 ≡ Some name → ⊥) → IsWrongAt 1 words
wrong_name words first none = one_wrong_first (codes "load") IsNameWord loads words first none

pub wrong_behind_name : (words : List (List ℕ)) (name : List ℕ) → IsTrue (is_name name) → slice_get words 0 ≡ Some (codes "load")
    → slice_get words 1 ≡ Some name → 2 < length words → IsWrongAt 2 words
wrong_behind_name words name is first second many = one_too_many (codes "load") IsNameWord loads words name is first second many

pub right_load : (words : List (List ℕ)) (name : List ℕ) → slice_get words 0 ≡ Some (codes "load") → slice_get words 1 ≡ Some name
    → length words ≤ 2 → words ≡ codes "load" ∷ name ∷ []
right_load words name first second few = sym (all_two words few) ∙ first_two words (codes "load") name first second

-- ---- drawings with covers

abbrev IsEveryWord : List ℕ → Type 0
IsEveryWord word = (every : ℕ) × IsEvery every × (word ≡ decimal every)

only_cover : (command : Command) (spelling : List (List ℕ)) → Spells command spelling → number_of command ≡ 4
    → (a : List ℕ) × IsEveryWord a × (spelling ≡ codes "cover" ∷ a ∷ [])
only_cover (Cover every) spelling spells number = (decimal every, (every, spells.1, refl), spells.0)
only_cover command spelling spells number = absurd (omega (arith, number))

every_one : IsEvery 1
every_one = record { some = omega arith; most = omega arith }

covers : HasOne (codes "cover") IsEveryWord
covers = record {
  make = λ a is. (
    Cover is.0,
    (
      (let P : List ℕ → Type 0 = λ x. codes "cover" ∷ a ∷ [] ≡ codes "cover" ∷ x ∷ [] in subst P is.2 refl),
      is.1,
    ),
  );
  only = λ command spelling spells first. only_cover command spelling spells (one_number spelling (Cover 1) command spells first);
  some_first = (decimal 1, (1, every_one, refl));
}

-- the number is missing or wrong
pub wrong_every : (words : List (List ℕ)) → slice_get words 0 ≡ Some (codes "cover")
    → ((every : ℕ) → IsEvery every → slice_get words 1 ≡ Some (decimal every) → ⊥) → IsWrongAt 1 words
wrong_every words first none = one_wrong_first (codes "cover") IsEveryWord covers words first
    (λ a is there. none is.0 is.1 (there ∙ ap Some is.2))

pub wrong_behind_every : (words : List (List ℕ)) (every : ℕ) → IsEvery every → slice_get words 0 ≡ Some (codes "cover")
    → slice_get words 1 ≡ Some (decimal every) → 2 < length words → IsWrongAt 2 words
wrong_behind_every words every is first second many = one_too_many (codes "cover") IsEveryWord covers words (decimal every) (
  every,
  is,
  refl,
) first second many

pub right_cover : (words : List (List ℕ)) (every : ℕ) → slice_get words 0 ≡ Some (codes "cover") → slice_get words 1 ≡ Some (decimal every)
    → length words ≤ 2 → words ≡ codes "cover" ∷ decimal every ∷ []
right_cover words every first second few = sym (all_two words few) ∙ first_two words (codes "cover") (decimal every) first second

-- a number that is none of these is that of no such word
pub no_every : (words : List (List ℕ)) (place n : ℕ) (word : List ℕ) → slice_get words place ≡ Some word → SpellsNatural word n
    → ((1 ≤ n) × (n ≤ 131072) → ⊥) → (every : ℕ) → IsEvery every → slice_get words place ≡ Some (decimal every) → ⊥
no_every words place n word here spells off every is there =
    let same : word ≡ decimal every = inside (slice_get words place) word (decimal every) here there in
    let equal : n ≡ every = one_natural word n every spells (same, omega (arith, is.most)) in
    off (omega (arith, equal, is.some), omega (arith, equal, is.most))

-- ---- commands of one word

-- the words of a command of one word
abbrev single : Command → List (List ℕ)
single command = word_of command ∷ []

spells_single : (command : Command) → IsSingle command → Spells command (single command)
spells_single (Plot w h) none = absurd none
spells_single (Load name) none = absurd none
spells_single (Demo seed count) none = absurd none
spells_single Run is = refl
spells_single Serve is = refl
spells_single Draw is = refl
spells_single Init is = refl
spells_single Check is = refl
spells_single ListSeries is = refl
spells_single Retain is = refl
spells_single (Cover every) none = absurd none
spells_single Live is = refl
spells_single Host is = refl
spells_single Derive is = refl
spells_single (Export name window) none = absurd none

single_number : (command : Command) → IsSingle command → 4 < number_of command
single_number (Plot w h) none = absurd none
single_number (Load name) none = absurd none
single_number (Demo seed count) none = absurd none
single_number Run is = omega arith
single_number Serve is = omega arith
single_number Draw is = omega arith
single_number Init is = omega arith
single_number Check is = omega arith
single_number ListSeries is = omega arith
single_number Retain is = omega arith
single_number (Cover every) none = absurd none
single_number Live is = omega arith
single_number Host is = omega arith
single_number Derive is = omega arith
single_number (Export name window) none = absurd none

-- a command of such a number has one word
short_spelling : (command : Command) (spelling : List (List ℕ)) → Spells command spelling → 4 < number_of command → length spelling ≤ 1
short_spelling (Plot w h) spelling spells number = absurd (omega (arith, number))
short_spelling (Load name) spelling spells number = absurd (omega (arith, number))
short_spelling (Demo seed count) spelling spells number = absurd (omega (arith, number))
short_spelling (Cover every) spelling spells number = absurd (omega (arith, number))
short_spelling (Export name window) spelling spells number = absurd (omega (arith, number))
short_spelling command spelling spells number = omega (arith, ap length spells)

-- no command begins with the first word
pub wrong_first : (words : List (List ℕ)) → ((command : Command) → slice_get words 0 ≡ Some (word_of command) → ⊥) → IsWrongAt 0 words
wrong_first words none = record {
  before = record { command = Run; spelling = single Run; spells = refl; same = refl };
  here = λ b. none b.command (same_first 1 words b.spelling (omega arith) b.same ∙ first_of_spelling b.spelling b.command b.spells);
}

-- so it is where it begins none of these
pub no_command : (first : Option (List ℕ)) → (first ≡ Some (codes "plot") → ⊥) → (first ≡ Some (codes "load") → ⊥)
    → (first ≡ Some (codes "demo") → ⊥) → (first ≡ Some (codes "export") → ⊥) → (first ≡ Some (codes "cover") → ⊥)
    → ((command : Command) → IsSingle command → first ≡ Some (word_of command) → ⊥)
    → (command : Command) → first ≡ Some (word_of command) → ⊥
no_command first plot load demo export cover single (Plot w h) is = plot is
no_command first plot load demo export cover single (Load name) is = load is
no_command first plot load demo export cover single (Demo seed count) is = demo is
no_command first plot load demo export cover single Run is = single Run tt is
no_command first plot load demo export cover single Serve is = single Serve tt is
no_command first plot load demo export cover single Draw is = single Draw tt is
no_command first plot load demo export cover single Init is = single Init tt is
no_command first plot load demo export cover single Check is = single Check tt is
no_command first plot load demo export cover single ListSeries is = single ListSeries tt is
no_command first plot load demo export cover single Retain is = single Retain tt is
no_command first plot load demo export cover single Live is = single Live tt is
no_command first plot load demo export cover single Host is = single Host tt is
no_command first plot load demo export cover single Derive is = single Derive tt is
no_command first plot load demo export cover single (Cover every) is = cover is
no_command first plot load demo export cover single (Export name window) is = export is

pub wrong_behind : (words : List (List ℕ)) (command : Command) → IsSingle command → slice_get words 0 ≡ Some (word_of command)
    → 1 < length words → IsWrongAt 1 words
wrong_behind words command is first many = record {
  before = begins 1 words (single command) (command, spells_single command is) (first_one words (word_of command) first);
  here = λ b.
      let number = one_number b.spelling command b.command b.spells (first_there 2 (word_of command) words b (omega arith) first) in
      let some : 4 < number_of b.command = omega (arith, number, single_number command is) in
      let short : length b.spelling ≤ 1 = short_spelling b.command b.spelling b.spells some in
      let few : min 2 (length words) ≤ 1 = omega (arith, ap length b.same, length-take 2 words, length-take 2 b.spelling, short) in
      omega (arith, few, many);
}

-- these are the words of a command of one word
pub right_single : (words : List (List ℕ)) (command : Command) → IsSingle command → slice_get words 0 ≡ Some (word_of command)
    → length words ≤ 1 → Spells command words
right_single words command is first few =
    let S : List (List ℕ) → Type 0 = λ ws. Spells command ws in
    subst S (sym (sym (all_one words few) ∙ first_one words (word_of command) first)) (spells_single command is)

-- ---- numbers

-- a number that is no side is no side's word
pub no_side : (words : List (List ℕ)) (place n : ℕ) (word : List ℕ) → slice_get words place ≡ Some word → SpellsNatural word n
    → ((1 ≤ n) × (n ≤ 4096) → ⊥) → (side : ℕ) → IsSide side → slice_get words place ≡ Some (decimal side) → ⊥
no_side words place n word here spells off side is there =
    let same : word ≡ decimal side = inside (slice_get words place) word (decimal side) here there in
    let equal : n ≡ side = one_natural word n side spells (same, omega (arith, is.most)) in
    off (omega (arith, equal, is.some), omega (arith, equal, is.most))

-- without a word the command is missing
pub wrong_none : (words : List (List ℕ)) → words ≡ [] → IsWrongAt 0 words
wrong_none words none = wrong_first words (λ command is. no_word (slice_get words 0) (word_of command) (ap (λ l. slice_get l 0) none) is)

-- a word that is no name is that of none
refuses : (bytes : List ℕ) (e : NameError) → RefusesName bytes e → e ≡ NotAName → is_name bytes ≡ false
refuses bytes NotAName refused is = refused
refuses bytes NoMemory refused is = cc

pub no_name : (words : List (List ℕ)) (place : ℕ) (word : List ℕ) → slice_get words place ≡ Some word → (bytes : List ℕ) → bytes ≡ word
    → (e : NameError) → RefusesName bytes e → e ≡ NotAName → (name : List ℕ) → IsTrue (is_name name) → slice_get words place ≡ Some name → ⊥
no_name words place word here bytes read e refused is_e name good there =
    let bad : is_name word ≡ false = sym (ap is_name read) ∙ refuses bytes e refused is_e in
    let same : word ≡ name = inside (slice_get words place) word name here there in
    let is : IsTrue (is_name word) = let N : List ℕ → Type 0 = λ n. IsTrue (is_name n) in subst N (sym same) good in
    true_false (is_name word) bad is

-- a word that isn't read as a number is none's, nor is one that isn't spelled as it was read
pub no_seed : {E : Type 0} (words : List (List ℕ)) (place : ℕ) (word : List ℕ) (r : Result ℕ E) → slice_get words place ≡ Some word
    → ParsesUnsigned 64 10 word r → (e : E) → r ≡ Err e → (seed : ℕ) → seed < 2 ^ 64 → slice_get words place ≡ Some (decimal seed) → ⊥
no_seed words place word r here parses e bad seed small there =
    let same : word ≡ decimal seed = inside (slice_get words place) word (decimal seed) here there in
    let read : r ≡ Ok seed = parse-decimal 64 seed word r small small same parses in
    err_ok r e seed bad read

pub other_seed : {E : Type 0} (words : List (List ℕ)) (place n : ℕ) (word : List ℕ) (r : Result ℕ E) → slice_get words place ≡ Some word
    → ParsesUnsigned 64 10 word r → r ≡ Ok n → (word ≡ decimal n → ⊥) → (seed : ℕ) → seed < 2 ^ 64
    → slice_get words place ≡ Some (decimal seed) → ⊥
other_seed words place n word r here parses is off seed small there =
    let same : word ≡ decimal seed = inside (slice_get words place) word (decimal seed) here there in
    let read : r ≡ Ok seed = parse-decimal 64 seed word r small small same parses in
    off (same ∙ ap decimal (ok_ok r seed n read is))

-- why a name isn't read is why the words are no load's
pub name_end : (words : List (List ℕ)) (end : WordsEnd) → slice_get words 0 ≡ Some (codes "load") → HasNoName 1 words end
    → IsWrongBy end words
name_end words (Wrong at) first none = let W : ℕ → Type 0 = λ n. IsWrongAt n words in subst W (sym none.0) (wrong_name words first none.1)
name_end words AtMemory first none = tt

-- why a seed isn't read is why the words are no workload's
pub seed_end : (words : List (List ℕ)) (end : WordsEnd) → slice_get words 0 ≡ Some (codes "demo") → HasNoSeed 1 words end
    → IsWrongBy end words
seed_end words (Wrong at) first none = let W : ℕ → Type 0 = λ n. IsWrongAt n words in subst W (sym none.0) (wrong_seed words first none.1)
seed_end words AtMemory first none = tt

not_both : (b : Bool) → true ≡ not b → b ≡ true → ⊥
not_both b off on = cc

-- equal bytes aren't told apart
pub not_apart : (a b : List ℕ) → true ≡ not (bytes_eq a b) → a ≡ b → ⊥
not_apart a b off same = not_both (bytes_eq a b) off ((bytes_eq-Decides a b).1 same)
