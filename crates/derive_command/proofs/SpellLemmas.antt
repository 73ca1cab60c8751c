-- The tokens of a line that is a request.
use Rattle.std.proofs.Common.{◌≡◌, ◌∙◌, ℕ, ℤ, List, ◌∷◌, length, ap, sym, subst, arith}
use Rattle.request_lines.proofs.SpeltRanges.{range_fit}
use Rattle.request_lines.specs.Spelling.{SpellsRange}
use Rattle.request_lines.specs.Tokens.{tokens}
use Rattle.request_lines.specs.declared.ranges.RangeWord.{RangeWord}
use Rattle.whole_number.proofs.Digits.{one_natural, one_integer}
use Rattle.whole_number.specs.Spelling.{SpellsInteger, SpellsNatural}
use Rattle.store_commands.proofs.TokenLemmas.{first_same, rest_same, some_token}
use Rattle.derive_command.specs.declared.request.Request.{Request}
use Rattle.derive_command.specs.declared.tokens.Words.{Words}
use Rattle.derive_command.specs.declared.tokens.Numbers.{Numbers}
use Rattle.derive_command.specs.Requests.{Spells, SpellsNumbers, SpellsWords, words_of}

-- ---- tokens

-- ---- words

same_integer : (one other : List ℕ) (m n : ℤ) → one ≡ other → SpellsInteger one m → SpellsInteger other n → m ≡ n
same_integer one other m n is first second = let P : List ℕ → Type 0 = λ t. SpellsInteger t n in
    one_integer one m n first (subst P (sym is) second)

same_natural : (one other : List ℕ) (m n : ℕ) → one ≡ other → SpellsNatural one m → SpellsNatural other n → m ≡ n
same_natural one other m n is first second = let P : List ℕ → Type 0 = λ t. SpellsNatural t n in
    one_natural one m n first (subst P (sym is) second)

same_range : (one other : List ℕ) (m n : RangeWord) → one ≡ other → SpellsRange m one → SpellsRange n other → m ≡ n
same_range one other m n is first second =
    let P : List ℕ → Type 0 = λ t. SpellsRange n t in
    sym (range_fit m one first).1 ∙ (range_fit n one (subst P (sym is) second)).1

-- words spell one request
words_one : (words : List (List ℕ)) (first second : Request) → SpellsWords first words → SpellsWords second words → first ≡ second
words_one words first second one two =
    let l0 = sym one.words_are ∙ two.words_are in
    let l1 = rest_same _ _ _ _ l0 in
    let l2 = rest_same _ _ _ _ l1 in
    let l3 = rest_same _ _ _ _ l2 in
    let l4 = rest_same _ _ _ _ l3 in
    let l5 = rest_same _ _ _ _ l4 in
    let l6 = rest_same _ _ _ _ l5 in
    let l7 = rest_same _ _ _ _ l6 in
    let l8 = rest_same _ _ _ _ l7 in
    let first_is : first.first ≡ second.first = first_same _ _ _ _ l0 in
    let second_is : first.second ≡ second.second = first_same _ _ _ _ l1 in
    let a : first.a ≡ second.a = same_integer one.a two.a first.a second.a (first_same _ _ _ _ l2) one.a_is two.a_is in
    let b : first.b ≡ second.b = same_integer one.b two.b first.b second.b (first_same _ _ _ _ l3) one.b_is two.b_is in
    let w : first.w ≡ second.w = same_natural one.w two.w first.w second.w (first_same _ _ _ _ l4) one.w_is two.w_is in
    let h : first.h ≡ second.h = same_natural one.h two.h first.h second.h (first_same _ _ _ _ l5) one.h_is two.h_is in
    let t0 : first.t0 ≡ second.t0 = same_integer one.t0 two.t0 first.t0 second.t0 (first_same _ _ _ _ l6) one.t0_is two.t0_is in
    let t1 : first.t1 ≡ second.t1 = same_integer one.t1 two.t1 first.t1 second.t1 (first_same _ _ _ _ l7) one.t1_is two.t1_is in
    let range : first.range ≡ second.range = same_range one.range two.range first.range second.range
    (first_same _ _ _ _ l8) one.range_is two.range_is in
    λ i. record { first = first_is i; second = second_is i; a = a i; b = b i; w = w i; h = h i; t0 = t0 i; t1 = t1 i; range = range i }

pub one_request : (line : List ℕ) (first second : Request) → Spells first line → Spells second line → first ≡ second
one_request line first second one two = words_one (tokens line) first second one two

-- the numbers that the words of a request spell
pub no_numbers : (line : List ℕ) (words : Words) → tokens line ≡ words_of words → ((n : Numbers) → SpellsNumbers words n → ⊥)
    → (r : Request) → Spells r line → ⊥
no_numbers line words is none r s =
    let l0 = sym s.words_are ∙ is in
    let l1 = rest_same _ _ _ _ l0 in
    let l2 = rest_same _ _ _ _ l1 in
    let l3 = rest_same _ _ _ _ l2 in
    let l4 = rest_same _ _ _ _ l3 in
    let l5 = rest_same _ _ _ _ l4 in
    let l6 = rest_same _ _ _ _ l5 in
    let l7 = rest_same _ _ _ _ l6 in
    let l8 = rest_same _ _ _ _ l7 in
    let I : ℤ → List ℕ → Type 0 = λ z t. SpellsInteger t z in
    let N : ℕ → List ℕ → Type 0 = λ n t. SpellsNatural t n in
    let R : List ℕ → Type 0 = λ t. SpellsRange r.range t in
    none (record { a = r.a; b = r.b; w = r.w; h = r.h; t0 = r.t0; t1 = r.t1; range = r.range }) (record {
      a_is = subst (I r.a) (first_same _ _ _ _ l2) s.a_is;
      b_is = subst (I r.b) (first_same _ _ _ _ l3) s.b_is;
      a_small = s.a_small;
      b_small = s.b_small;
      w_is = subst (N r.w) (first_same _ _ _ _ l4) s.w_is;
      h_is = subst (N r.h) (first_same _ _ _ _ l5) s.h_is;
      t0_is = subst (I r.t0) (first_same _ _ _ _ l6) s.t0_is;
      t1_is = subst (I r.t1) (first_same _ _ _ _ l7) s.t1_is;
      range_is = subst R (first_same _ _ _ _ l8) s.range_is;
    })

-- nine tokens aren't more
pub no_tenth : (line range : List ℕ) (x y a b w h t0 t1 first rest : List ℕ) (factors sides times : List ℕ)
    → tokens line ≡ x ∷ y ∷ tokens factors → tokens factors ≡ a ∷ b ∷ tokens sides → tokens sides ≡ w ∷ h ∷ tokens times
    → tokens times ≡ t0 ∷ t1 ∷ tokens range → tokens range ≡ first ∷ tokens rest → length (tokens line) ≡ 9 → ⊥
no_tenth line range x y a b w h t0 t1 first rest factors sides times one two three four more nine =
    absurd (omega (arith, some_token rest, ap length one, ap length two, ap length three, ap length four, ap length more, nine))
