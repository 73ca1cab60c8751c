-- Where words are those of an export, and where the first wrong one is.
use Rattle.std.proofs.Common.{◌≡◌, ℕ, ℤ, zero, suc, pos, ◌<◌, ◌≤◌, ◌<ℤ◌, ◌≤ℤ◌, List, [], ◌∷◌, length, length-take, take, Option, Some, refl}
use Rattle.std.proofs.Common.{ap, sym, subst, ◌∙◌, arith}
use Rattle.std.proofs.lemmas.Int.{ints}
use Rattle.std.specs.Prelude.{slice_get, codes, IsTrue, None, Bool, false}
use Rattle.std.specs.Fmt.{signed_decimal}
use Rattle.chart_grid.specs.Limits.{IsWindow}
use Rattle.series_book.specs.Names.{is_name}
use Rattle.series_export.specs.declared.window.Window.{Window}
use Rattle.whole_number.proofs.Digits.{one_integer}
use Rattle.whole_number.specs.Range.{IsTime}
use Rattle.whole_number.specs.Spelling.{SpellsInteger}
use Rattle.whole_number.specs.declared.limits.TheConstants.{GREATEST_TIME}
use Rattle.program_words.specs.declared.words.Command.{Command}
use Rattle.program_words.specs.declared.words.Command.TheVariants.{Export}
use Rattle.program_words.specs.declared.words.WordsEnd.{WordsEnd}
use Rattle.program_words.specs.declared.words.WordsEnd.TheVariants.{Wrong, NoMemory}
use Rattle.program_words.specs.Words.{Spells, Begins, IsWrongAt, IsWrongBy, IsWindowIfAny, HasNoName, window_words}
use Rattle.program_words.proofs.Commands.{first_one, first_two, first_three, inside, one_number, number_of, a_name, begins, first_there}

-- an element among the first ones is that of the list, so lists with the same first elements have the same element there
got_at : {X : Type 0} (n k : ℕ) (xs : List X) → k < n → slice_get (take n xs) k ≡ slice_get xs k
got_at zero k xs low = absurd (omega (arith, low))
got_at (suc n) k [] low = refl
got_at (suc n) zero (x ∷ xs) low = refl
got_at (suc n) (suc k) (x ∷ xs) low = got_at n k xs (omega (arith, low))

same_at : {X : Type 0} (n k : ℕ) (xs ys : List X) → k < n → take n xs ≡ take n ys → slice_get xs k ≡ slice_get ys k
same_at n k xs ys low same = sym (got_at n k xs low) ∙ ap (λ l. slice_get l k) same ∙ got_at n k ys low

-- a list's first four elements, which are all where there are no more
first_four : {X : Type 0} (ws : List X) (a b c d : X) → slice_get ws 0 ≡ Some a → slice_get ws 1 ≡ Some b → slice_get ws 2 ≡ Some c
    → slice_get ws 3 ≡ Some d → take 4 ws ≡ a ∷ b ∷ c ∷ d ∷ []
first_four [] a b c d is next third fourth = cc
first_four (x ∷ []) a b c d is next third fourth = cc
first_four (x ∷ (y ∷ [])) a b c d is next third fourth = cc
first_four (x ∷ (y ∷ (z ∷ []))) a b c d is next third fourth = cc
first_four (x ∷ (y ∷ (z ∷ (v ∷ ws)))) a b c d is next third fourth = cc

all_first : {X : Type 0} (n : ℕ) (ws : List X) → length ws ≤ n → take n ws ≡ ws
all_first zero [] few = refl
all_first zero (x ∷ ws) few = absurd (omega (arith, few))
all_first (suc n) [] few = refl
all_first (suc n) (x ∷ ws) few = ap (λ l. x ∷ l) (all_first n ws (omega (arith, few)))

-- the words are those of an export
record IsExport (spelling : List (List ℕ)) : Type 0 where
  name : List ℕ
  window : Option Window
  words : spelling ≡ codes "export" ∷ name ∷ window_words window
  named : IsTrue (is_name name)
  window_is : IsWindowIfAny window

-- of one with a window
record IsWindowed (spelling : List (List ℕ)) : Type 0 where
  name : List ℕ
  window : Window
  words : spelling ≡ codes "export" ∷ name ∷ signed_decimal window.from ∷ signed_decimal window.to ∷ []
  window_is : IsWindow window.from window.to

only_export : (command : Command) (spelling : List (List ℕ)) → Spells command spelling → number_of command ≡ 3 → IsExport spelling
only_export (Export name window) spelling spells number = record {
  name = name;
  window = window;
  words = spells.0;
  named = spells.1;
  window_is = spells.2;
}
only_export command spelling spells number = absurd (omega (arith, number))

exported : (count : ℕ) (words : List (List ℕ)) (b : Begins count words) → 0 < count → slice_get words 0 ≡ Some (codes "export")
    → IsExport b.spelling
exported count words b some first = only_export b.command b.spelling b.spells
    (one_number b.spelling (Export [] None) b.command b.spells (first_there count (codes "export") words b some first))

-- where three words are told, it has a window
windowed_by : (count : ℕ) (words spelling : List (List ℕ)) (name : List ℕ) (window : Option Window)
    → spelling ≡ codes "export" ∷ name ∷ window_words window → IsWindowIfAny window → 2 < count → 2 < length words
    → take count words ≡ take count spelling → IsWindowed spelling
windowed_by count words spelling name None are window_is many some same = absurd
    (omega (arith, many, some, ap length same, length-take count words, length-take count spelling, ap length are))
windowed_by count words spelling name (Some window) are window_is many some same = record {
  name = name;
  window = window;
  words = are;
  window_is = window_is;
}

windowed : (count : ℕ) (words : List (List ℕ)) (b : Begins count words) → 2 < count → slice_get words 0 ≡ Some (codes "export")
    → 2 < length words → IsWindowed b.spelling
windowed count words b many first some =
    let e = exported count words b (omega (arith, many)) first in
    windowed_by count words b.spelling e.name e.window e.words e.window_is many some b.same

-- the name is missing or wrong
wrong_name : (words : List (List ℕ)) → slice_get words 0 ≡ Some (codes "export")
    → ((name : List ℕ) → IsTrue (is_name name) → slice_get words 1 ≡ Some name → ⊥) → IsWrongAt 1 words
wrong_name words first none = record {
  before = begins 1 words (codes "export" ∷ codes "a" ∷ []) (
    Export (codes "a") None,
    (refl, a_name, tt),
  ) (first_one words (codes "export") first);
  here = λ b.
      let e = exported 2 words b (omega arith) first in
      none e.name e.named (same_at 2 1 words b.spelling (omega arith) b.same ∙ ap (λ l. slice_get l 1) e.words);
}

pub export_name_end : (words : List (List ℕ)) (end : WordsEnd) → slice_get words 0 ≡ Some (codes "export") → HasNoName 1 words end
    → IsWrongBy end words
export_name_end words (Wrong at) first none = let W : ℕ → Type 0 = λ n. IsWrongAt n words in
    subst W (sym none.0) (wrong_name words first none.1)
export_name_end words NoMemory first none = tt

-- these are the words of an export without a window
pub right_export : (words : List (List ℕ)) (name : List ℕ) → slice_get words 0 ≡ Some (codes "export") → slice_get words 1 ≡ Some name
    → length words ≤ 2 → words ≡ codes "export" ∷ name ∷ []
right_export words name first second few = sym (all_first 2 words few) ∙ first_two words (codes "export") name first second

-- the window's first end is wrong
wrong_from : (words : List (List ℕ)) (name : List ℕ) → IsTrue (is_name name) → slice_get words 0 ≡ Some (codes "export")
    → slice_get words 1 ≡ Some name → 2 < length words
    → ((window : Window) → IsWindow window.from window.to → slice_get words 2 ≡ Some (signed_decimal window.from) → ⊥) → IsWrongAt 2 words
wrong_from words name named first second some none = record {
  before = begins 2 words (codes "export" ∷ name ∷ []) (
    Export name None,
    (refl, named, tt),
  ) (first_two words (codes "export") name first second);
  here = λ b.
      let w = windowed 3 words b (omega arith) first some in
      none w.window w.window_is (same_at 3 2 words b.spelling (omega arith) b.same ∙ ap (λ l. slice_get l 2) w.words);
}

pub no_from : (words : List (List ℕ)) (name : List ℕ) → ((time : ℤ) → IsTime time → slice_get words 2 ≡ Some (signed_decimal time) → ⊥)
    → 2 < length words → IsTrue (is_name name) → slice_get words 0 ≡ Some (codes "export") → slice_get words 1 ≡ Some name
    → IsWrongAt 2 words
no_from words name none some named first second = wrong_from words name named first second some
    (λ window is there. none window.from is.from_size there)

-- a time that two words spell alike is one
one_time : (words : List (List ℕ)) (place : ℕ) (a b : ℤ) → IsTime a → IsTime b → slice_get words place ≡ Some (signed_decimal a)
    → slice_get words place ≡ Some (signed_decimal b) → a ≡ b
one_time words place a b small few here there =
    one_integer (signed_decimal a) a b (refl, omega (arith, small))
    (inside (slice_get words place) (signed_decimal a) (signed_decimal b) here there, omega (arith, few))

-- no later end is within the limits
abbrev latest : ℤ
latest = pos GREATEST_TIME

pub late_from : (words : List (List ℕ)) (name : List ℕ) (from : ℤ) → IsTime from → latest ≤ℤ from
    → slice_get words 2 ≡ Some (signed_decimal from) → 2 < length words → IsTrue (is_name name) → slice_get words 0 ≡ Some (codes "export")
    → slice_get words 1 ≡ Some name → IsWrongAt 2 words
late_from words name from small last third some named first second = wrong_from words name named first second some (λ window is there.
    let same : from ≡ window.from = one_time words 2 from window.from small is.from_size third there in
    omega (arith, ints, last, same, is.rising, is.to_size))

-- the window's second end is wrong
wrong_to : (words : List (List ℕ)) (name : List ℕ) (from : ℤ) → IsTime from → from <ℤ latest
    → slice_get words 2 ≡ Some (signed_decimal from) → 2 < length words → IsTrue (is_name name) → slice_get words 0 ≡ Some (codes "export")
    → slice_get words 1 ≡ Some name
    → ((window : Window) → IsWindow window.from window.to → window.from ≡ from → slice_get words 3 ≡ Some (signed_decimal window.to) → ⊥)
    → IsWrongAt 3 words
wrong_to words name from small early third some named first second none =
    let window : Window = record { from = from; to = latest } in
    let is : IsWindow from latest = record { rising = early; from_size = small; to_size = omega arith } in
    record {
      before = begins 3 words (codes "export" ∷ name ∷ signed_decimal from ∷ signed_decimal latest ∷ []) (
        Export name (Some window),
        (refl, named, is),
      ) (first_three words (codes "export") name (signed_decimal from) first second third);
      here = λ b.
          let w = windowed 4 words b (omega arith) first some in
          let there = same_at 4 2 words b.spelling (omega arith) b.same ∙ ap (λ l. slice_get l 2) w.words in
          none w.window w.window_is (one_time words 2 w.window.from from w.window_is.from_size small there third)
          (same_at 4 3 words b.spelling (omega arith) b.same ∙ ap (λ l. slice_get l 3) w.words);
    }

pub no_to : (words : List (List ℕ)) (name : List ℕ) (from : ℤ) → IsTime from → from <ℤ latest
    → slice_get words 2 ≡ Some (signed_decimal from) → ((time : ℤ) → IsTime time → slice_get words 3 ≡ Some (signed_decimal time) → ⊥)
    → 2 < length words
    → IsTrue (is_name name) → slice_get words 0 ≡ Some (codes "export") → slice_get words 1 ≡ Some name → IsWrongAt 3 words
no_to words name from small early third none some named first second = wrong_to words name from small early third some named first second
    (λ window is same there. none window.to is.to_size there)

pub early_to : (words : List (List ℕ)) (name : List ℕ) (from to : ℤ) → IsTime from → from <ℤ latest
    → slice_get words 2 ≡ Some (signed_decimal from) → IsTime to → slice_get words 3 ≡ Some (signed_decimal to) → to ≤ℤ from
    → 2 < length words
    → IsTrue (is_name name) → slice_get words 0 ≡ Some (codes "export") → slice_get words 1 ≡ Some name → IsWrongAt 3 words
early_to words name from to small early third few fourth no_later some named first second = wrong_to words name from small early third some
    named first second (λ window is same there.
    let also : to ≡ window.to = one_time words 3 to window.to few is.to_size fourth there in
    omega (arith, ints, also, same, no_later, is.rising))

-- there is a word too many
pub too_many : (words : List (List ℕ)) (name : List ℕ) (from to : ℤ) → IsWindow from to → slice_get words 2 ≡ Some (signed_decimal from)
    → slice_get words 3 ≡ Some (signed_decimal to) → 4 < length words → IsTrue (is_name name) → slice_get words 0 ≡ Some (codes "export")
    → slice_get words 1 ≡ Some name → IsWrongAt 4 words
too_many words name from to is third fourth many named first second =
    let window : Window = record { from = from; to = to } in
    record {
      before = begins 4 words (codes "export" ∷ name ∷ signed_decimal from ∷ signed_decimal to ∷ []) (
        Export name (Some window),
        (refl, named, is),
      ) (first_four words (codes "export") name (signed_decimal from) (signed_decimal to) first second third fourth);
      here = λ b.
          let w = windowed 5 words b (omega arith) first (omega (arith, many)) in
          omega (arith, many, ap length b.same, length-take 5 words, length-take 5 b.spelling, ap length w.words);
    }

-- these are the words of an export with a window
pub right_window : (words : List (List ℕ)) (name : List ℕ) (window : Window) → slice_get words 0 ≡ Some (codes "export")
    → slice_get words 1 ≡ Some name → slice_get words 2 ≡ Some (signed_decimal window.from)
    → slice_get words 3 ≡ Some (signed_decimal window.to) → length words ≤ 4
    → words ≡ codes "export" ∷ name ∷ window_words (Some window)
right_window words name window first second third fourth few = sym (all_first 4 words few)
    ∙ first_four words (codes "export") name (signed_decimal window.from) (signed_decimal window.to) first second third fourth

pub not_so : (b : Bool) (P : Type 0) → b ≡ false → (P → IsTrue b) → P → ⊥
not_so b P off on holds = let is = on holds in cc

-- a number that is too far from 0 is no time's word
pub no_time : (words : List (List ℕ)) (place : ℕ) (n : ℤ) (word : List ℕ) → slice_get words place ≡ Some word → SpellsInteger word n
    → (IsTime n → ⊥) → (time : ℤ) → IsTime time → slice_get words place ≡ Some (signed_decimal time) → ⊥
no_time words place n word here spells far time small there =
    let same : word ≡ signed_decimal time = inside (slice_get words place) word (signed_decimal time) here there in
    let equal : n ≡ time = one_integer word n time spells (same, omega (arith, small)) in
    let T : ℤ → Type 0 = λ z. IsTime z in
    far (subst T (sym equal) small)
