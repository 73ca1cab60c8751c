-- A piece spells one token at the most.
use Rattle.std.proofs.Common.{◌≡◌, ℕ, Bool, true, false, List, [], get_or, cond, Option, Some, None, refl, sym, ap, ◌∙◌, subst, arith, ℤ}
use Rattle.std.proofs.Common.{pos, negsuc, codes, ◌⊎◌, inl, inr}
use Rattle.std.specs.Str.{bytes_eq}
use Rattle.std.specs.Int.{IsInRange}
use Rattle.std.proofs.lemmas.Option.{same_Some}
use Rattle.std.proofs.lemmas.Slice.Eq.{bytes_eq-Decides}
use Rattle.std.proofs.lemmas.Str.Parse.{digit_at}
use Rattle.whole_number.specs.Spelling.{SpellsInteger}
use Rattle.whole_number.proofs.Digits.{one_integer, spelling_digits, spelling_some}
use Rattle.value_filter.specs.declared.atoms.Subject.TheVariants.{Time, Value}
use Rattle.value_filter.specs.declared.atoms.Comparison.TheVariants.{Less, LessOrEqual, Equal, NotEqual, GreaterOrEqual, Greater}
use Rattle.value_filter.specs.declared.tokens.Token.{Token}
use Rattle.value_filter.specs.declared.tokens.Token.TheVariants.{Subject, Sign, Number, AndWord, OrWord, NotWord, Open, Close}
use Rattle.value_filter.specs.Pieces.{spelling, Spells, keyword}

pick : (P : Token → Type 0) (piece word : List ℕ) (token found : Token) (rest : Option Token) → (bytes_eq piece word ≡ true → P token)
    → (rest ≡ Some found → P found) → cond (bytes_eq piece word) (Some token) rest ≡ Some found → P found
pick P piece word token found rest here later e = choose (bytes_eq piece word) refl e
  where
    choose : (b : Bool) → bytes_eq piece word ≡ b → cond b (Some token) rest ≡ Some found → P found
    choose true same e = subst P (same_Some token found e) (here same)
    choose false same e = later e

spelled : (piece word : List ℕ) → bytes_eq piece word ≡ true → piece ≡ word
spelled piece word same = (bytes_eq-Decides piece word).0 same

pub keyword-spells : (piece : List ℕ) (token : Token) → keyword piece ≡ Some token → Spells piece token
unfolding keyword
keyword-spells piece token =
    pick (Spells piece) piece (codes "t") (Subject Time) token _ (λ e. (spelled piece _ e, tt))
    (pick (Spells piece) piece (codes "v") (Subject Value) token _ (λ e. (spelled piece _ e, tt))
    (pick (Spells piece) piece (codes "<") (Sign Less) token _ (λ e. (spelled piece _ e, tt))
    (pick (Spells piece) piece (codes "<=") (Sign LessOrEqual) token _ (λ e. (spelled piece _ e, tt))
    (pick (Spells piece) piece (codes "=") (Sign Equal) token _ (λ e. (spelled piece _ e, tt))
    (pick (Spells piece) piece (codes "!=") (Sign NotEqual) token _ (λ e. (spelled piece _ e, tt))
    (pick (Spells piece) piece (codes ">=") (Sign GreaterOrEqual) token _ (λ e. (spelled piece _ e, tt))
    (pick (Spells piece) piece (codes ">") (Sign Greater) token _ (λ e. (spelled piece _ e, tt))
    (pick (Spells piece) piece (codes "and") AndWord token _ (λ e. (spelled piece _ e, tt))
    (pick (Spells piece) piece (codes "or") OrWord token _ (λ e. (spelled piece _ e, tt))
    (pick (Spells piece) piece (codes "not") NotWord token _ (λ e. (spelled piece _ e, tt))
    (pick (Spells piece) piece (codes "(") Open token _ (λ e. (spelled piece _ e, tt))
    (pick (Spells piece) piece (codes ")") Close token None (λ e. (spelled piece _ e, tt)) (λ e. cc)))))))))))))

-- each token is a number, or a word that is read again
abbrev pub IsRead : Token → Type 0
IsRead (Number z) = Unit {0}
IsRead token = keyword (spelling token) ≡ Some token

is_read : (token : Token) → IsRead token
unfolding keyword
is_read (Subject Time) = refl
is_read (Subject Value) = refl
is_read (Sign Less) = refl
is_read (Sign LessOrEqual) = refl
is_read (Sign Equal) = refl
is_read (Sign NotEqual) = refl
is_read (Sign GreaterOrEqual) = refl
is_read (Sign Greater) = refl
is_read (Number z) = tt
is_read AndWord = refl
is_read OrWord = refl
is_read NotWord = refl
is_read Open = refl
is_read Close = refl

-- what a spelled token is by its piece
abbrev pub Reading : List ℕ → Token → Type 0
Reading piece token = ((z : ℤ) × (token ≡ Number z) × SpellsInteger piece z) ⊎ (keyword piece ≡ Some token)

read_word : (piece : List ℕ) (token : Token) → piece ≡ spelling token → keyword (spelling token) ≡ Some token → keyword piece ≡ Some token
read_word piece token e again = ap keyword e ∙ again

reading : (piece : List ℕ) (token : Token) → Spells piece token → Reading piece token
reading piece (Number z) s = inl (z, refl, s)
reading piece (Subject x) s = inr (read_word piece (Subject x) s.0 (is_read (Subject x)))
reading piece (Sign x) s = inr (read_word piece (Sign x) s.0 (is_read (Sign x)))
reading piece AndWord s = inr (read_word piece AndWord s.0 (is_read AndWord))
reading piece OrWord s = inr (read_word piece OrWord s.0 (is_read OrWord))
reading piece NotWord s = inr (read_word piece NotWord s.0 (is_read NotWord))
reading piece Open s = inr (read_word piece Open s.0 (is_read Open))
reading piece Close s = inr (read_word piece Close s.0 (is_read Close))

-- a number begins with a digit or `-`
begins_number : (piece : List ℕ) (z : ℤ) → SpellsInteger piece z → (get_or piece 0 0 ≡ 45) ⊎ IsInRange 48 57 (get_or piece 0 0)
begins_number piece (pos n) s = inr (digit_at piece 0 (spelling_digits piece n s) (spelling_some piece n s))
begins_number piece (negsuc n) s = inl (ap (λ ds. get_or ds 0 0) s.0)

-- and no word does
abbrev pub IsWord : Token → Type 0
IsWord (Number z) = ⊥
IsWord token = Unit {0}

no_number : (token : Token) (n : ℕ) → IsWord token → n ≡ get_or (spelling token) 0 0 → (n ≡ 45) ⊎ IsInRange 48 57 n → ⊥
no_number (Number z) n word e h = word
no_number (Subject Time) n word e h = elim h [ inl a ↦ absurd (omega (arith, a, e)) | inr b ↦ absurd (omega (arith, b, e)) ]
no_number (Subject Value) n word e h = elim h [ inl a ↦ absurd (omega (arith, a, e)) | inr b ↦ absurd (omega (arith, b, e)) ]
no_number (Sign Less) n word e h = elim h [ inl a ↦ absurd (omega (arith, a, e)) | inr b ↦ absurd (omega (arith, b, e)) ]
no_number (Sign LessOrEqual) n word e h = elim h [ inl a ↦ absurd (omega (arith, a, e)) | inr b ↦ absurd (omega (arith, b, e)) ]
no_number (Sign Equal) n word e h = elim h [ inl a ↦ absurd (omega (arith, a, e)) | inr b ↦ absurd (omega (arith, b, e)) ]
no_number (Sign NotEqual) n word e h = elim h [ inl a ↦ absurd (omega (arith, a, e)) | inr b ↦ absurd (omega (arith, b, e)) ]
no_number (Sign GreaterOrEqual) n word e h = elim h [ inl a ↦ absurd (omega (arith, a, e)) | inr b ↦ absurd (omega (arith, b, e)) ]
no_number (Sign Greater) n word e h = elim h [ inl a ↦ absurd (omega (arith, a, e)) | inr b ↦ absurd (omega (arith, b, e)) ]
no_number AndWord n word e h = elim h [ inl a ↦ absurd (omega (arith, a, e)) | inr b ↦ absurd (omega (arith, b, e)) ]
no_number OrWord n word e h = elim h [ inl a ↦ absurd (omega (arith, a, e)) | inr b ↦ absurd (omega (arith, b, e)) ]
no_number NotWord n word e h = elim h [ inl a ↦ absurd (omega (arith, a, e)) | inr b ↦ absurd (omega (arith, b, e)) ]
no_number Open n word e h = elim h [ inl a ↦ absurd (omega (arith, a, e)) | inr b ↦ absurd (omega (arith, b, e)) ]
no_number Close n word e h = elim h [ inl a ↦ absurd (omega (arith, a, e)) | inr b ↦ absurd (omega (arith, b, e)) ]

-- a keyword is no number
keyword_word : (piece : List ℕ) (token : Token) → keyword piece ≡ Some token → IsWord token
unfolding keyword
keyword_word piece token =
    pick IsWord piece (codes "t") (Subject Time) token _ (λ e. tt)
    (pick IsWord piece (codes "v") (Subject Value) token _ (λ e. tt)
    (pick IsWord piece (codes "<") (Sign Less) token _ (λ e. tt)
    (pick IsWord piece (codes "<=") (Sign LessOrEqual) token _ (λ e. tt)
    (pick IsWord piece (codes "=") (Sign Equal) token _ (λ e. tt)
    (pick IsWord piece (codes "!=") (Sign NotEqual) token _ (λ e. tt)
    (pick IsWord piece (codes ">=") (Sign GreaterOrEqual) token _ (λ e. tt)
    (pick IsWord piece (codes ">") (Sign Greater) token _ (λ e. tt)
    (pick IsWord piece (codes "and") AndWord token _ (λ e. tt)
    (pick IsWord piece (codes "or") OrWord token _ (λ e. tt)
    (pick IsWord piece (codes "not") NotWord token _ (λ e. tt)
    (pick IsWord piece (codes "(") Open token _ (λ e. tt)
    (pick IsWord piece (codes ")") Close token None (λ e. tt) (λ e. cc)))))))))))))

pub one_token : (piece : List ℕ) (first second : Token) → Spells piece first → Spells piece second → first ≡ second
one_token piece first second s t = same first second (reading piece first s) (reading piece second t)
  where
    clash : (z : ℤ) (token : Token) → SpellsInteger piece z → keyword piece ≡ Some token → ⊥
    clash z token n k = no_number token (get_or piece 0 0) (keyword_word piece token k)
        (ap (λ ds. get_or ds 0 0) (keyword-spells piece token k).0) (begins_number piece z n)

    same : (a b : Token) → Reading piece a → Reading piece b → a ≡ b
    same a b (inl m) (inl n) = m.1 ∙ ap Number (one_integer piece m.0 n.0 m.2 n.2) ∙ sym n.1
    same a b (inl m) (inr k) = absurd (clash m.0 b m.2 k)
    same a b (inr k) (inl n) = absurd (clash n.0 a n.2 k)
    same a b (inr k) (inr l) = same_Some a b (sym k ∙ l)

-- what is neither a word nor a number spells nothing
pub spells_none : (piece : List ℕ) → keyword piece ≡ None → ((z : ℤ) → SpellsInteger piece z → ⊥) → (token : Token) → Spells piece token → ⊥
spells_none piece none no_integer token s = neither (reading piece token s)
  where
    neither : Reading piece token → ⊥
    neither (inl m) = no_integer m.0 m.2
    neither (inr k) = let clash : None ≡ Some token = sym none ∙ k in cc

-- an empty piece spells nothing
no_keyword : (token : Token) → keyword [] ≡ Some token → ⊥
unfolding keyword
no_keyword token k = cc

pub spells_empty : (token : Token) → Spells [] token → ⊥
spells_empty token s = none (reading [] token s)
  where
    none : Reading [] token → ⊥
    none (inl m) = let h = begins_number [] m.0 m.2 in elim h [ inl a ↦ absurd (omega (arith, a)) | inr b ↦ absurd (omega (arith, b)) ]
    none (inr k) = no_keyword token k
