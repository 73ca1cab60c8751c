-- Tokens with spaces between them are the text's tokens.
use Rattle.std.proofs.Common.{◌≡◌, ◌≢◌, ℕ, suc, ◌+◌, ◌<◌, ◌≤◌, Bool, true, false, not, ◌&&◌, ◌==◌, cond, List, [], ◌∷◌, ◌++◌, length, take}
use Rattle.std.proofs.Common.{drop, get_or, refl, sym, ap, ◌∙◌, subst, arith, ℤ, pos, negsuc, codes, one-add}
use Rattle.std.specs.List.{position_or_len, prefix_len, before_first}
use Rattle.std.specs.Int.{IsInRange}
use Rattle.std.specs.Str.Parse.{AllDigits}
use Rattle.std.proofs.lemmas.Bool.Decides.{nat_tests}
use Rattle.std.proofs.lemmas.Str.Parse.{digit_at}
use Rattle.std.proofs.Math.Seq.{drop-append_seam}
use Rattle.whole_number.specs.Spelling.{SpellsInteger}
use Rattle.whole_number.proofs.Digits.{spelling_digits, spelling_some}
use Rattle.value_filter.specs.declared.atoms.Subject.TheVariants.{Time, Value}
use Rattle.value_filter.specs.declared.atoms.Comparison.TheVariants.{Less, LessOrEqual, Equal, NotEqual, GreaterOrEqual, Greater}
use Rattle.value_filter.specs.declared.tokens.Token.{Token}
use Rattle.value_filter.specs.declared.tokens.Token.TheVariants.{Subject, Sign, Number, AndWord, OrWord, NotWord, Open, Close}
use Rattle.value_filter.specs.Expressions.{Expression}
use Rattle.value_filter.specs.Pieces.{is_space, is_word_byte, begins_long_sign, past_spaces, first_piece, next_piece, past_piece, spelling}
use Rattle.value_filter.specs.Pieces.{IsShort, Begins}
use Rattle.value_filter.specs.Grammar.{AreFilter, IsFilter}
use Rattle.value_filter.specs.Spacing.{AreSpaces, EndsWord, StandsApart, IsSpaced}

-- spaces in front are passed
past_space : (text : List ℕ) → past_spaces (32 ∷ text) ≡ past_spaces text
past_space text = rw one-add refl

past_others : (byte : ℕ) (text : List ℕ) → is_space byte ≡ false → past_spaces (byte ∷ text) ≡ byte ∷ text
past_others byte text e = ap (λ b. drop (cond (not (not b)) (1 + prefix_len (λ x. not (not (is_space x))) text) 0) (byte ∷ text)) e

pub past_gap : (gap text : List ℕ) → AreSpaces gap → past_spaces (gap ++ text) ≡ past_spaces text
past_gap [] text spaces = refl
past_gap (byte ∷ gap) text spaces =
    ap (λ b. past_spaces (b ∷ (gap ++ text))) spaces.0 ∙ past_space (gap ++ text) ∙ past_gap gap text spaces.1

-- a run of word bytes, and what ends it
abbrev pub IsRun : List ℕ → Type 0
IsRun [] = Unit {0}
IsRun (byte ∷ bytes) = (is_word_byte byte ≡ true) × IsRun bytes

run_length : (run rest : List ℕ) → IsRun run → EndsWord rest → position_or_len (λ byte. not (is_word_byte byte)) (run ++ rest) ≡ length run
run_length [] [] is ends = refl
run_length [] (byte ∷ rest) is ends = ap (λ b. cond (not (not b)) (1 + prefix_len (λ x. not (not (is_word_byte x))) rest) 0) ends
run_length (byte ∷ run) rest is ends =
    ap (λ b. cond (not (not b)) (1 + prefix_len (λ x. not (not (is_word_byte x))) (run ++ rest)) 0) is.0
    ∙ ap (λ n. 1 + n) (run_length run rest is.1 ends)
    ∙ one-add (length run)

take_run : (run rest : List ℕ) → take (length run) (run ++ rest) ≡ run
take_run [] rest = refl
take_run (byte ∷ run) rest = ap (λ xs. byte ∷ xs) (take_run run rest)

word_piece : (byte : ℕ) (run rest : List ℕ) → IsRun (byte ∷ run) → EndsWord rest → first_piece (byte ∷ (run ++ rest)) ≡ byte ∷ run
unfolding first_piece
word_piece byte run rest is ends =
    ap (λ b. cond b (before_first (λ x. not (is_word_byte x)) (byte ∷ (run ++ rest)))
    (cond (begins_long_sign (byte ∷ (run ++ rest))) (take 2 (byte ∷ (run ++ rest))) (take 1 (byte ∷ (run ++ rest))))) is.0
    ∙ ap (λ n. take n (byte ∷ (run ++ rest))) (run_length (byte ∷ run) rest is ends)
    ∙ take_run (byte ∷ run) rest

run_piece : (run rest : List ℕ) → 0 < length run → IsRun run → EndsWord rest → first_piece (run ++ rest) ≡ run
run_piece [] rest some is ends = absurd (omega (arith, some))
run_piece (byte ∷ run) rest some is ends = word_piece byte run rest is ends

digit_word : (byte : ℕ) → 48 ≤ byte → byte ≤ 57 → is_word_byte byte ≡ true
digit_word byte low high = grind (arith, nat_tests)

digits_run : (ds : List ℕ) → AllDigits 10 ds → IsRun ds
digits_run [] digits = tt
digits_run (d ∷ ds) digits =
    let here : IsInRange 48 57 d = digit_at (d ∷ ds) 0 digits (omega arith) in
    (digit_word d here.0 here.1, digits_run ds digits.1)

pub number_run : (text : List ℕ) (z : ℤ) → SpellsInteger text z → IsRun text
number_run text (pos n) s = digits_run text (spelling_digits text n s)
number_run text (negsuc n) s =
    let digits = spelling_digits _ (suc n) (refl, s.1) in
    subst IsRun (sym s.0) (refl, digits_run _ digits)

pub number_some : (text : List ℕ) (z : ℤ) → SpellsInteger text z → 0 < length text
number_some text (pos n) s = spelling_some text n s
number_some text (negsuc n) s = omega (arith, ap length s.0)

-- signs and parentheses
less_piece : (rest : List ℕ) → get_or rest 0 0 ≢ 61 → first_piece (60 ∷ rest) ≡ 60 ∷ []
unfolding first_piece
less_piece rest apart =
    let alone : begins_long_sign (60 ∷ rest) ≡ false = grind (arith, nat_tests) in
    ap (λ b. cond b (take 2 (60 ∷ rest)) (60 ∷ [])) alone

greater_piece : (rest : List ℕ) → get_or rest 0 0 ≢ 61 → first_piece (62 ∷ rest) ≡ 62 ∷ []
unfolding first_piece
greater_piece rest apart =
    let alone : begins_long_sign (62 ∷ rest) ≡ false = grind (arith, nat_tests) in
    ap (λ b. cond b (take 2 (62 ∷ rest)) (62 ∷ [])) alone

and_false : (b : Bool) → b && false ≡ false
and_false true = refl
and_false false = refl

equal_piece : (rest : List ℕ) → first_piece (61 ∷ rest) ≡ 61 ∷ []
unfolding first_piece
equal_piece rest = ap (λ b. cond b (take 2 (61 ∷ rest)) (61 ∷ [])) (and_false (get_or rest 0 0 == 61))

open_piece : (rest : List ℕ) → first_piece (40 ∷ rest) ≡ 40 ∷ []
unfolding first_piece
open_piece rest = ap (λ b. cond b (take 2 (40 ∷ rest)) (40 ∷ [])) (and_false (get_or rest 0 0 == 61))

close_piece : (rest : List ℕ) → first_piece (41 ∷ rest) ≡ 41 ∷ []
unfolding first_piece
close_piece rest = ap (λ b. cond b (take 2 (41 ∷ rest)) (41 ∷ [])) (and_false (get_or rest 0 0 == 61))

less_long_piece : (rest : List ℕ) → first_piece (60 ∷ (61 ∷ rest)) ≡ 60 ∷ (61 ∷ [])
unfolding first_piece
less_long_piece rest = refl

greater_long_piece : (rest : List ℕ) → first_piece (62 ∷ (61 ∷ rest)) ≡ 62 ∷ (61 ∷ [])
unfolding first_piece
greater_long_piece rest = refl

not_equal_piece : (rest : List ℕ) → first_piece (33 ∷ (61 ∷ rest)) ≡ 33 ∷ (61 ∷ [])
unfolding first_piece
not_equal_piece rest = refl

-- the piece that a token makes
pub token_piece : (token : Token) (rest : List ℕ) → IsShort token → StandsApart token rest
    → first_piece (spelling token ++ rest) ≡ spelling token
token_piece (Subject Time) rest short apart = run_piece (codes "t") rest (omega arith) (refl, tt) apart
token_piece (Subject Value) rest short apart = run_piece (codes "v") rest (omega arith) (refl, tt) apart
token_piece (Number z) rest short apart =
    run_piece (spelling (Number z)) rest (number_some (spelling (Number z)) z (refl, short))
    (number_run (spelling (Number z)) z (refl, short)) apart
token_piece AndWord rest short apart = run_piece (codes "and") rest (omega arith) (refl, (refl, (refl, tt))) apart
token_piece OrWord rest short apart = run_piece (codes "or") rest (omega arith) (refl, (refl, tt)) apart
token_piece NotWord rest short apart = run_piece (codes "not") rest (omega arith) (refl, (refl, (refl, tt))) apart
token_piece Open rest short apart = open_piece rest
token_piece Close rest short apart = close_piece rest
token_piece (Sign Less) rest short apart = less_piece rest apart
token_piece (Sign LessOrEqual) rest short apart = less_long_piece rest
token_piece (Sign Equal) rest short apart = equal_piece rest
token_piece (Sign NotEqual) rest short apart = not_equal_piece rest
token_piece (Sign GreaterOrEqual) rest short apart = greater_long_piece rest
token_piece (Sign Greater) rest short apart = greater_piece rest apart

-- no token begins with a space
no_space : (byte : ℕ) (bytes : List ℕ) → byte ≢ 32 → past_spaces (byte ∷ bytes) ≡ byte ∷ bytes
no_space byte bytes other = past_others byte bytes (let e : is_space byte ≡ false = grind (arith, nat_tests) in e)

number_front : (text rest : List ℕ) (z : ℤ) → SpellsInteger text z → past_spaces (text ++ rest) ≡ text ++ rest
number_front [] rest z s = absurd (omega (arith, number_some [] z s))
number_front (byte ∷ text) rest z s =
    let run = number_run (byte ∷ text) z s in
    no_space byte (text ++ rest) (word_no_space byte run.0)
  where
    word_no_space : (byte : ℕ) → is_word_byte byte ≡ true → byte ≢ 32
    word_no_space byte e same = let clash : is_word_byte 32 ≡ true = ap is_word_byte (sym same) ∙ e in cc

pub token_front : (token : Token) (rest : List ℕ) → IsShort token → past_spaces (spelling token ++ rest) ≡ spelling token ++ rest
token_front (Subject Time) rest short = refl
token_front (Subject Value) rest short = refl
token_front (Number z) rest short = number_front (spelling (Number z)) rest z (refl, short)
token_front AndWord rest short = refl
token_front OrWord rest short = refl
token_front NotWord rest short = refl
token_front Open rest short = refl
token_front Close rest short = refl
token_front (Sign Less) rest short = refl
token_front (Sign LessOrEqual) rest short = refl
token_front (Sign Equal) rest short = refl
token_front (Sign NotEqual) rest short = refl
token_front (Sign GreaterOrEqual) rest short = refl
token_front (Sign Greater) rest short = refl

blank_past : (text : List ℕ) → AreSpaces text → past_spaces text ≡ []
blank_past [] spaces = refl
blank_past (byte ∷ text) spaces = ap (λ b. past_spaces (b ∷ text)) spaces.0 ∙ past_space text ∙ blank_past text spaces.1

-- spaced tokens are the tokens that the text begins with, and only spaces are left
pub spaced-begins : (tokens : List Token) (text : List ℕ) → IsSpaced tokens text
    → (rest : List ℕ) × Begins text tokens rest × (past_spaces rest ≡ [])
spaced-begins [] text spaced = (text, refl, blank_past text spaced)
spaced-begins (token ∷ tokens) text spaced =
    let (gap, rest, spaces, text_is, short, apart, behind) = spaced in
    let front : past_spaces text ≡ spelling token ++ rest = ap past_spaces text_is ∙ past_gap gap (spelling token ++ rest) spaces
    ∙ token_front token rest short in
    let piece : next_piece text ≡ spelling token = ap first_piece front ∙ token_piece token rest short apart in
    let past : past_piece text ≡ rest = ap (λ xs. drop (length (first_piece xs)) xs) front
    ∙ ap (λ p. drop (length p) (spelling token ++ rest)) (token_piece token rest short apart)
    ∙ drop-append_seam (spelling token) rest in
    let tail = spaced-begins tokens rest behind in
    let P : List ℕ → Type 0 = λ xs. Begins xs tokens tail.0 in
    (tail.0, ((piece, short), subst P (sym past) tail.1), tail.2)

pub spaced-is_filter : (tokens : List Token) (text : List ℕ) (f : Expression) → IsSpaced tokens text → AreFilter tokens f → IsFilter text f
spaced-is_filter tokens text f spaced d =
    let read = spaced-begins tokens text spaced in
    record { tokens = tokens; rest = read.0; begins = read.1; blank = read.2; derives = d }
