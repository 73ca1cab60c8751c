-- The tokens of a line that is a rule.
use Rattle.std.proofs.Common.{◌≡◌, ◌∙◌, ℕ, ℤ, Bool, true, List, [], ◌∷◌, length, IsTrue, ap, sym, subst, arith}
use Rattle.std.specs.Prelude.{slice_index}
use Rattle.std.specs.Str.{bytes_eq}
use Rattle.std.proofs.lemmas.Slice.Eq.{bytes_eq-Decides}
use lib.Chars.{codes}
use Rattle.request_lines.specs.Tokens.{tokens}
use Rattle.series_book.specs.Names.{is_name}
use Rattle.whole_number.proofs.Digits.{one_natural, one_integer}
use Rattle.whole_number.specs.Spelling.{SpellsInteger, SpellsNatural}
use Rattle.retention.specs.declared.rule.Rule.{Rule}
use Rattle.retention.specs.declared.rule.Rule.TheVariants.{Before, Last, Free}
use Rattle.store_commands.proofs.TokenLemmas.{first_same, rest_same, some_token}
use Rattle.retain_command.specs.Rules.{Spells, SpellsWords}

-- the words of a rule are no other rule's
words_one : (words : List (List ℕ)) (first second : Rule) → SpellsWords first words → SpellsWords second words → first ≡ second
words_one words (Before name time) (Before other when) one two =
    let both = sym one.1 ∙ two.1 in
    let behind = rest_same _ _ _ _ both in
    let names : name ≡ other = first_same _ _ _ _ behind in
    let numbers : one.0 ≡ two.0 = first_same _ _ _ _ (rest_same _ _ _ _ behind) in
    let P : List ℕ → Type 0 = λ n. SpellsInteger n when in
    let times : time ≡ when = one_integer one.0 time when one.3 (subst P (sym numbers) two.3) in
    (λ i. Before (names i) (times i))
words_one words (Last name count) (Last other many) one two =
    let both = sym one.1 ∙ two.1 in
    let behind = rest_same _ _ _ _ both in
    let names : name ≡ other = first_same _ _ _ _ behind in
    let numbers : one.0 ≡ two.0 = first_same _ _ _ _ (rest_same _ _ _ _ behind) in
    let P : List ℕ → Type 0 = λ n. SpellsNatural n many in
    let counts : count ≡ many = one_natural one.0 count many one.3 (subst P (sym numbers) two.3) in
    (λ i. Last (names i) (counts i))
words_one words (Free pages) (Free many) one two =
    let both = sym one.1 ∙ two.1 in
    let numbers : one.0 ≡ two.0 = first_same _ _ _ _ (rest_same _ _ _ _ both) in
    let P : List ℕ → Type 0 = λ n. SpellsNatural n many in
    ap Free (one_natural one.0 pages many one.2 (subst P (sym numbers) two.2))
words_one words (Before name time) (Last other many) one two = let same : codes "before" ≡ codes "last" = first_same _ _ _ _ (sym one.1
    ∙ two.1) in absurd (omega (arith, ap length same))
words_one words (Last name count) (Before other when) one two = let same : codes "last" ≡ codes "before" = first_same _ _ _ _ (sym one.1
    ∙ two.1) in absurd (omega (arith, ap length same))
words_one words (Before name time) (Free many) one two = absurd (omega (arith, ap length (sym one.1 ∙ two.1)))
words_one words (Free pages) (Before other when) one two = absurd (omega (arith, ap length (sym one.1 ∙ two.1)))
words_one words (Last name count) (Free many) one two = absurd (omega (arith, ap length (sym one.1 ∙ two.1)))
words_one words (Free pages) (Last other many) one two = absurd (omega (arith, ap length (sym one.1 ∙ two.1)))

pub one_rule : (line : List ℕ) (first second : Rule) → Spells first line → Spells second line → first ≡ second
one_rule line first second one two = words_one (tokens line) first second one two

-- ---- lines that are no rule

-- the second of two tokens has no space
pub no_third : (bytes first number parts_first parts_rest : List ℕ) (name last : List ℕ) → tokens bytes ≡ first ∷ tokens number
    → tokens number ≡ parts_first ∷ tokens parts_rest → tokens bytes ≡ name ∷ last ∷ [] → ⊥
no_third bytes first number parts_first parts_rest name last is more two =
    absurd (omega (arith, some_token parts_rest, ap length (sym is ∙ two), ap length more))

pub no_second : (bytes parts_first parts_rest : List ℕ) (number : List ℕ) → tokens bytes ≡ parts_first ∷ tokens parts_rest
    → tokens bytes ≡ number ∷ [] → ⊥
no_second bytes parts_first parts_rest number more one = absurd (omega (arith, some_token parts_rest, ap length (sym more ∙ one)))

-- a line whose first token is `before` is no other rule
pub none_before : (line word rest : List ℕ) → tokens line ≡ word ∷ tokens rest → word ≡ codes "before"
    → ((name number : List ℕ) (time : ℤ) → tokens rest ≡ name ∷ number ∷ [] → IsTrue (is_name name) → SpellsInteger number time → ⊥)
    → (rule : Rule) → Spells rule line → ⊥
none_before line word rest is same none (Before name time) spells = none name spells.0 time
    (rest_same _ _ _ _ (sym is ∙ spells.1)) spells.2 spells.3
none_before line word rest is same none (Last name count) spells = let other : codes "last" ≡ codes
    "before" = sym (first_same _ _ _ _ (sym is ∙ spells.1)) ∙ same in absurd (omega (arith, ap length other))
none_before line word rest is same none (Free pages) spells = let other : codes "free" ≡ codes
    "before" = sym (first_same _ _ _ _ (sym is ∙ spells.1)) ∙ same in absurd (omega (arith, ap length other))

pub none_last : (line word rest : List ℕ) → tokens line ≡ word ∷ tokens rest → word ≡ codes "last"
    → ((name number : List ℕ) (count : ℕ) → tokens rest ≡ name ∷ number ∷ [] → IsTrue (is_name name) → SpellsNatural number count → ⊥)
    → (rule : Rule) → Spells rule line → ⊥
none_last line word rest is same none (Before name time) spells = let other : codes "before" ≡ codes
    "last" = sym (first_same _ _ _ _ (sym is ∙ spells.1)) ∙ same in absurd (omega (arith, ap length other))
none_last line word rest is same none (Last name count) spells = none name spells.0 count
    (rest_same _ _ _ _ (sym is ∙ spells.1)) spells.2 spells.3
none_last line word rest is same none (Free pages) spells =
    let other : codes "free" ≡ codes "last" = sym (first_same _ _ _ _ (sym is ∙ spells.1)) ∙ same in
    let byte : 102 ≡ 108 = ap (λ (l : List ℕ). slice_index l 0) other in
    absurd (omega (arith, byte))

-- the word is this text, which was compared with it
pub word_is : (word text spelled : List ℕ) (same : Bool) → same ≡ bytes_eq word text → same ≡ true → text ≡ spelled → word ≡ spelled
word_is word text spelled same compared holds is = (bytes_eq-Decides word text).0 (sym compared ∙ holds) ∙ is
