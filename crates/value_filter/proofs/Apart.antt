-- The tokens of a text stand apart, with spaces between them.
use Rattle.std.proofs.Common.{◌≡◌, ◌≢◌, ℕ, zero, suc, ◌+◌, ◌<◌, Bool, true, false, not, ◌&&◌, ◌||◌, ◌==◌, cond, List, [], ◌∷◌, ◌++◌, length}
use Rattle.std.proofs.Common.{take, drop, get_or, refl, sym, ap, ◌∙◌, subst, arith, ℤ, codes, one-add, append-nil, take-append-drop}
use Rattle.std.specs.List.{position_or_len, prefix_len, before_first}
use Rattle.std.proofs.lemmas.Bool.Decides.{nat_tests}
use Rattle.value_filter.specs.declared.atoms.Subject.TheVariants.{Time, Value}
use Rattle.value_filter.specs.declared.atoms.Comparison.TheVariants.{Less, LessOrEqual, Equal, NotEqual, GreaterOrEqual, Greater}
use Rattle.value_filter.specs.declared.tokens.Token.{Token}
use Rattle.value_filter.specs.declared.tokens.Token.TheVariants.{Subject, Sign, Number, AndWord, OrWord, NotWord, Open, Close}
use Rattle.value_filter.specs.Expressions.{Expression}
use Rattle.value_filter.specs.Pieces.{is_space, is_word_byte, begins_long_sign, past_spaces, first_piece, past_piece, spelling, IsShort}
use Rattle.value_filter.specs.Pieces.{Spells, Begins}
use Rattle.value_filter.specs.Grammar.{AreFilter, IsFilter}
use Rattle.value_filter.specs.Spacing.{AreSpaces, EndsWord, StandsApart, IsSpaced}
use Rattle.value_filter.proofs.Spaced.{number_run, number_some, IsRun}

-- what is passed are spaces
gap_of : List ℕ → List ℕ
gap_of text = take (position_or_len (λ byte. not (is_space byte)) text) text

gap_step : (b : Bool) (byte : ℕ) (text : List ℕ) (n : ℕ) → is_space byte ≡ b → AreSpaces (take n text)
    → AreSpaces (take (cond (not (not b)) (1 + n) 0) (byte ∷ text))
gap_step true byte text n e spaces =
    let same : byte ≡ 32 = grind (arith, nat_tests) in
    let P : ℕ → Type 0 = λ m. AreSpaces (take m (byte ∷ text)) in
    subst P (sym (one-add n)) (same, spaces)
gap_step false byte text n e spaces = tt

gap_spaces : (text : List ℕ) → AreSpaces (gap_of text)
unfolding gap_of
gap_spaces [] = tt
gap_spaces (byte ∷ text) = gap_step (is_space byte) byte text (prefix_len (λ x. not (not (is_space x))) text) refl (gap_spaces text)

gap_front : (text : List ℕ) → text ≡ gap_of text ++ past_spaces text
unfolding gap_of
gap_front text = sym (take-append-drop (position_or_len (λ byte. not (is_space byte)) text) text)

blank_spaces : (text : List ℕ) → past_spaces text ≡ [] → AreSpaces text
blank_spaces text blank =
    subst AreSpaces (sym (gap_front text ∙ ap (λ xs. gap_of text ++ xs) blank ∙ append-nil (gap_of text))) (gap_spaces text)

-- a piece and what stands behind it
take_back : (n : ℕ) (text : List ℕ) → take n text ++ drop (length (take n text)) text ≡ text
take_back zero text = refl
take_back (suc n) [] = refl
take_back (suc n) (byte ∷ text) = ap (λ xs. byte ∷ xs) (take_back n text)

piece_step : (w l : Bool) (text : List ℕ) (n : ℕ) → (let piece = cond w (take n text) (cond l (take 2 text) (take 1 text)) in
    piece ++ drop (length piece) text ≡ text)
piece_step true l text n = take_back n text
piece_step false true text n = take_back 2 text
piece_step false false text n = take_back 1 text

piece_front : (text : List ℕ) → first_piece text ++ drop (length (first_piece text)) text ≡ text
unfolding first_piece
piece_front text = piece_step (is_word_byte (get_or text 0 0)) (begins_long_sign text) text
    (position_or_len (λ byte. not (is_word_byte byte)) text)

-- behind a word no word byte stands
ends_step : (b : Bool) (byte : ℕ) (text : List ℕ) (n : ℕ) → is_word_byte byte ≡ b → EndsWord (drop (length (take n text)) text)
    → EndsWord (drop (length (take (cond (not (not b)) (1 + n) 0) (byte ∷ text))) (byte ∷ text))
ends_step true byte text n e ends =
    let P : ℕ → Type 0 = λ m. EndsWord (drop (length (take m (byte ∷ text))) (byte ∷ text)) in
    subst P (sym (one-add n)) ends
ends_step false byte text n e ends = e

ends_word : (text : List ℕ) → EndsWord (drop (length (before_first (λ byte. not (is_word_byte byte)) text)) text)
ends_word [] = tt
ends_word (byte ∷ text) = ends_step (is_word_byte byte) byte text (prefix_len (λ x. not (not (is_word_byte x))) text) refl (ends_word text)

-- the first byte of a piece is the text's
no_word : (byte : ℕ) (text piece : List ℕ) (l : Bool) → cond l (take 2 (byte ∷ text)) (take 1 (byte ∷ text)) ≡ piece
    → get_or piece 0 0 ≡ byte
no_word byte text piece true e = sym (ap (λ xs. get_or xs 0 0) e)
no_word byte text piece false e = sym (ap (λ xs. get_or xs 0 0) e)

word_step : (w : Bool) (byte : ℕ) (text piece : List ℕ) → is_word_byte byte ≡ w → is_word_byte (get_or piece 0 0) ≡ true
    → cond w (before_first (λ x. not (is_word_byte x)) (byte ∷ text))
    (cond (begins_long_sign (byte ∷ text)) (take 2 (byte ∷ text)) (take 1 (byte ∷ text))) ≡ piece
    → EndsWord (drop (length piece) (byte ∷ text))
word_step true byte text piece e word is =
    let P : List ℕ → Type 0 = λ xs. EndsWord (drop (length xs) (byte ∷ text)) in
    subst P is (ends_word (byte ∷ text))
word_step false byte text piece e word is =
    let clash : false ≡ true = sym e ∙ sym (ap is_word_byte (no_word byte text piece (begins_long_sign (byte ∷ text)) is)) ∙ word in
    cc

word_apart : (text piece : List ℕ) → is_word_byte (get_or piece 0 0) ≡ true → first_piece text ≡ piece → EndsWord (drop (length piece) text)
unfolding first_piece
word_apart [] piece word e =
    let clash : is_word_byte 0 ≡ true = ap (λ xs. is_word_byte (get_or xs 0 0)) e ∙ word in
    cc
word_apart (byte ∷ text) piece word e = word_step (is_word_byte byte) byte text piece refl word e

-- behind `<` or `>` no `=` stands
sign_long : (l : Bool) (byte sign : ℕ) (text : List ℕ) → begins_long_sign (byte ∷ text) ≡ l → begins_long_sign (sign ∷ (61 ∷ [])) ≡ true
    → cond l (take 2 (byte ∷ text)) (take 1 (byte ∷ text)) ≡ sign ∷ [] → get_or text 0 0 ≢ 61
sign_long true byte sign [] e long is = cc
sign_long true byte sign (next ∷ text) e long is = cc
sign_long false byte sign text e long is = λ same.
    let first : byte ≡ sign = ap (λ xs. get_or xs 0 0) is in
    let clash : begins_long_sign (byte ∷ text) ≡ true = ap (λ b. begins_long_sign (b ∷ text)) first
    ∙ ap (λ n. (n == 61) && (sign == 60 || sign == 62 || sign == 33)) same ∙ long in
    let no : false ≡ true = sym e ∙ clash in
    cc

sign_word : (w : Bool) (byte sign : ℕ) (text : List ℕ) → is_word_byte byte ≡ w → is_word_byte sign ≡ false
    → begins_long_sign (sign ∷ (61 ∷ [])) ≡ true
    → cond w (before_first (λ x. not (is_word_byte x)) (byte ∷ text))
    (cond (begins_long_sign (byte ∷ text)) (take 2 (byte ∷ text)) (take 1 (byte ∷ text))) ≡ sign ∷ []
    → get_or text 0 0 ≢ 61
sign_word true byte sign text e other long is = absurd
    (first_word (prefix_len (λ x. not (not (is_word_byte x))) text) (is_word_byte byte) e (refl) is)
  where
    first_word : (n : ℕ) (b : Bool) → b ≡ true → is_word_byte byte ≡ b → take (cond (not (not b)) (1 + n) 0) (byte ∷ text) ≡ sign ∷ [] → ⊥
    first_word n true y z h =
        let one : byte ∷ take n text ≡ sign ∷ [] = ap (λ m. take m (byte ∷ text)) (sym (one-add n)) ∙ h in
        let same : byte ≡ sign = ap (λ xs. get_or xs 0 0) one in
        let clash : true ≡ false = sym z ∙ ap is_word_byte same ∙ other in
        cc
    first_word n false y z h = cc
sign_word false byte sign text e other long is = sign_long (begins_long_sign (byte ∷ text)) byte sign text refl long is

sign_apart : (text : List ℕ) (sign : ℕ) → is_word_byte sign ≡ false → begins_long_sign (sign ∷ (61 ∷ [])) ≡ true
    → first_piece text ≡ sign ∷ [] → get_or (drop 1 text) 0 0 ≢ 61
unfolding first_piece
sign_apart [] sign other long e = cc
sign_apart (byte ∷ text) sign other long e = sign_word (is_word_byte byte) byte sign text refl other long e

number_first : (token : List ℕ) (z : ℤ) → Spells token (Number z) → is_word_byte (get_or token 0 0) ≡ true
number_first token z s = first token (number_some token z s) (number_run token z s)
  where
    first : (text : List ℕ) → 0 < length text → IsRun text → is_word_byte (get_or text 0 0) ≡ true
    first [] some run = absurd (omega (arith, some))
    first (byte ∷ text) some run = run.0

token_apart : (token : Token) (text : List ℕ) → IsShort token → first_piece text ≡ spelling token
    → StandsApart token (drop (length (spelling token)) text)
token_apart (Subject Time) text short e = word_apart text (codes "t") refl e
token_apart (Subject Value) text short e = word_apart text (codes "v") refl e
token_apart (Number z) text short e = word_apart text (spelling (Number z)) (number_first (spelling (Number z)) z (refl, short)) e
token_apart AndWord text short e = word_apart text (codes "and") refl e
token_apart OrWord text short e = word_apart text (codes "or") refl e
token_apart NotWord text short e = word_apart text (codes "not") refl e
token_apart Open text short e = tt
token_apart Close text short e = tt
token_apart (Sign Less) text short e = sign_apart text 60 refl refl e
token_apart (Sign LessOrEqual) text short e = tt
token_apart (Sign Equal) text short e = tt
token_apart (Sign NotEqual) text short e = tt
token_apart (Sign GreaterOrEqual) text short e = tt
token_apart (Sign Greater) text short e = sign_apart text 62 refl refl e

pub begins-spaced : (tokens : List Token) (text rest : List ℕ) → Begins text tokens rest → past_spaces rest ≡ [] → IsSpaced tokens text
begins-spaced [] text rest b blank = blank_spaces text (ap past_spaces b ∙ blank)
begins-spaced (token ∷ tokens) text rest b blank =
    let behind : List ℕ = drop (length (spelling token)) (past_spaces text) in
    let same : past_piece text ≡ behind = ap (λ piece. drop (length piece) (past_spaces text)) b.0.0 in
    let front : past_spaces text ≡ spelling token ++ behind = sym (piece_front (past_spaces text))
    ∙ ap (λ piece. piece ++ drop (length piece) (past_spaces text)) b.0.0 in
    let P : List ℕ → Type 0 = λ xs. Begins xs tokens rest in (
      gap_of text,
      behind,
      gap_spaces text,
      gap_front text ∙ ap (λ xs. gap_of text ++ xs) front,
      b.0.1,
      token_apart token (past_spaces text) b.0.1 b.0.0,
      begins-spaced tokens behind rest (subst P same b.1) blank,
    )

pub filter-spaced : (text : List ℕ) (f : Expression) → IsFilter text f → (tokens : List Token) × IsSpaced tokens text × AreFilter tokens f
filter-spaced text f i = (i.tokens, begins-spaced i.tokens text i.rest i.begins i.blank, i.derives)
