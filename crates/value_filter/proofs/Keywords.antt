-- Which token a piece spells is told by comparisons with one word after another.
use Rattle.std.proofs.Common.{◌≡◌, ℕ, Bool, true, false, List, cond, codes, Option, Some, None, refl, sym, ap, ◌∙◌}
use Rattle.std.specs.Str.{bytes_eq}
use Rattle.value_filter.specs.declared.atoms.Subject.TheVariants.{Time, Value}
use Rattle.value_filter.specs.declared.atoms.Comparison.TheVariants.{Less, LessOrEqual, Equal, NotEqual, GreaterOrEqual, Greater}
use Rattle.value_filter.specs.declared.tokens.Token.{Token}
use Rattle.value_filter.specs.declared.tokens.Token.TheVariants.{Subject, Sign, AndWord, OrWord, NotWord, Open, Close}
use Rattle.value_filter.specs.Pieces.{keyword}

told : (piece word text : List ℕ) (v : Bool) → text ≡ word → v ≡ bytes_eq piece text → bytes_eq piece word ≡ v
told piece word text v is found = ap (λ w. bytes_eq piece w) (sym is) ∙ sym found

-- another word
past_word : (piece word text : List ℕ) (token rest found : Option Token) → text ≡ word → false ≡ bytes_eq piece text → found ≡ rest
    → found ≡ cond (bytes_eq piece word) token rest
past_word piece word text token rest found is other later =
    later ∙ sym (ap (λ x. cond x token rest) (told piece word text false is other))

-- this word
this_word : (piece word text : List ℕ) (token rest : Option Token) → text ≡ word → true ≡ bytes_eq piece text
    → token ≡ cond (bytes_eq piece word) token rest
this_word piece word text token rest is same =
    sym (ap (λ x. cond x token rest) (told piece word text true is same))

-- what is told behind so many words
unfoldable pub behind-13 : List ℕ → Option Token
behind-13 piece = None

unfoldable pub behind-12 : List ℕ → Option Token
behind-12 piece = cond (bytes_eq piece (codes ")")) (Some Close) (behind-13 piece)

unfoldable pub behind-11 : List ℕ → Option Token
behind-11 piece = cond (bytes_eq piece (codes "(")) (Some Open) (behind-12 piece)

unfoldable pub behind-10 : List ℕ → Option Token
behind-10 piece = cond (bytes_eq piece (codes "not")) (Some NotWord) (behind-11 piece)

unfoldable pub behind-9 : List ℕ → Option Token
behind-9 piece = cond (bytes_eq piece (codes "or")) (Some OrWord) (behind-10 piece)

unfoldable pub behind-8 : List ℕ → Option Token
behind-8 piece = cond (bytes_eq piece (codes "and")) (Some AndWord) (behind-9 piece)

unfoldable pub behind-7 : List ℕ → Option Token
behind-7 piece = cond (bytes_eq piece (codes ">")) (Some (Sign Greater)) (behind-8 piece)

unfoldable pub behind-6 : List ℕ → Option Token
behind-6 piece = cond (bytes_eq piece (codes ">=")) (Some (Sign GreaterOrEqual)) (behind-7 piece)

unfoldable pub behind-5 : List ℕ → Option Token
behind-5 piece = cond (bytes_eq piece (codes "!=")) (Some (Sign NotEqual)) (behind-6 piece)

unfoldable pub behind-4 : List ℕ → Option Token
behind-4 piece = cond (bytes_eq piece (codes "=")) (Some (Sign Equal)) (behind-5 piece)

unfoldable pub behind-3 : List ℕ → Option Token
behind-3 piece = cond (bytes_eq piece (codes "<=")) (Some (Sign LessOrEqual)) (behind-4 piece)

unfoldable pub behind-2 : List ℕ → Option Token
behind-2 piece = cond (bytes_eq piece (codes "<")) (Some (Sign Less)) (behind-3 piece)

unfoldable pub behind-1 : List ℕ → Option Token
behind-1 piece = cond (bytes_eq piece (codes "v")) (Some (Subject Value)) (behind-2 piece)

pub past-1 : (piece text : List ℕ) (found : Option Token) → text ≡ codes "t" → false ≡ bytes_eq piece text → found ≡ behind-1 piece
    → found ≡ keyword piece
unfolding keyword behind-1 behind-2 behind-3 behind-4 behind-5 behind-6 behind-7 behind-8 behind-9 behind-10 behind-11 behind-12 behind-13
past-1 piece text found = past_word piece (codes "t") text (Some (Subject Time)) (behind-1 piece) found

pub this-1 : (piece text : List ℕ) → text ≡ codes "t" → true ≡ bytes_eq piece text → Some (Subject Time) ≡ keyword piece
unfolding keyword behind-1 behind-2 behind-3 behind-4 behind-5 behind-6 behind-7 behind-8 behind-9 behind-10 behind-11 behind-12 behind-13
this-1 piece text = this_word piece (codes "t") text (Some (Subject Time)) (behind-1 piece)

pub past-2 : (piece text : List ℕ) (found : Option Token) → text ≡ codes "v" → false ≡ bytes_eq piece text → found ≡ behind-2 piece
    → found ≡ behind-1 piece
unfolding behind-1
past-2 piece text found = past_word piece (codes "v") text (Some (Subject Value)) (behind-2 piece) found

pub this-2 : (piece text : List ℕ) → text ≡ codes "v" → true ≡ bytes_eq piece text → Some (Subject Value) ≡ behind-1 piece
unfolding behind-1
this-2 piece text = this_word piece (codes "v") text (Some (Subject Value)) (behind-2 piece)

pub past-3 : (piece text : List ℕ) (found : Option Token) → text ≡ codes "<" → false ≡ bytes_eq piece text → found ≡ behind-3 piece
    → found ≡ behind-2 piece
unfolding behind-2
past-3 piece text found = past_word piece (codes "<") text (Some (Sign Less)) (behind-3 piece) found

pub this-3 : (piece text : List ℕ) → text ≡ codes "<" → true ≡ bytes_eq piece text → Some (Sign Less) ≡ behind-2 piece
unfolding behind-2
this-3 piece text = this_word piece (codes "<") text (Some (Sign Less)) (behind-3 piece)

pub past-4 : (piece text : List ℕ) (found : Option Token) → text ≡ codes "<=" → false ≡ bytes_eq piece text → found ≡ behind-4 piece
    → found ≡ behind-3 piece
unfolding behind-3
past-4 piece text found = past_word piece (codes "<=") text (Some (Sign LessOrEqual)) (behind-4 piece) found

pub this-4 : (piece text : List ℕ) → text ≡ codes "<=" → true ≡ bytes_eq piece text → Some (Sign LessOrEqual) ≡ behind-3 piece
unfolding behind-3
this-4 piece text = this_word piece (codes "<=") text (Some (Sign LessOrEqual)) (behind-4 piece)

pub past-5 : (piece text : List ℕ) (found : Option Token) → text ≡ codes "=" → false ≡ bytes_eq piece text → found ≡ behind-5 piece
    → found ≡ behind-4 piece
unfolding behind-4
past-5 piece text found = past_word piece (codes "=") text (Some (Sign Equal)) (behind-5 piece) found

pub this-5 : (piece text : List ℕ) → text ≡ codes "=" → true ≡ bytes_eq piece text → Some (Sign Equal) ≡ behind-4 piece
unfolding behind-4
this-5 piece text = this_word piece (codes "=") text (Some (Sign Equal)) (behind-5 piece)

pub past-6 : (piece text : List ℕ) (found : Option Token) → text ≡ codes "!=" → false ≡ bytes_eq piece text → found ≡ behind-6 piece
    → found ≡ behind-5 piece
unfolding behind-5
past-6 piece text found = past_word piece (codes "!=") text (Some (Sign NotEqual)) (behind-6 piece) found

pub this-6 : (piece text : List ℕ) → text ≡ codes "!=" → true ≡ bytes_eq piece text → Some (Sign NotEqual) ≡ behind-5 piece
unfolding behind-5
this-6 piece text = this_word piece (codes "!=") text (Some (Sign NotEqual)) (behind-6 piece)

pub past-7 : (piece text : List ℕ) (found : Option Token) → text ≡ codes ">=" → false ≡ bytes_eq piece text → found ≡ behind-7 piece
    → found ≡ behind-6 piece
unfolding behind-6
past-7 piece text found = past_word piece (codes ">=") text (Some (Sign GreaterOrEqual)) (behind-7 piece) found

pub this-7 : (piece text : List ℕ) → text ≡ codes ">=" → true ≡ bytes_eq piece text → Some (Sign GreaterOrEqual) ≡ behind-6 piece
unfolding behind-6
this-7 piece text = this_word piece (codes ">=") text (Some (Sign GreaterOrEqual)) (behind-7 piece)

pub past-8 : (piece text : List ℕ) (found : Option Token) → text ≡ codes ">" → false ≡ bytes_eq piece text → found ≡ behind-8 piece
    → found ≡ behind-7 piece
unfolding behind-7
past-8 piece text found = past_word piece (codes ">") text (Some (Sign Greater)) (behind-8 piece) found

pub this-8 : (piece text : List ℕ) → text ≡ codes ">" → true ≡ bytes_eq piece text → Some (Sign Greater) ≡ behind-7 piece
unfolding behind-7
this-8 piece text = this_word piece (codes ">") text (Some (Sign Greater)) (behind-8 piece)

pub past-9 : (piece text : List ℕ) (found : Option Token) → text ≡ codes "and" → false ≡ bytes_eq piece text → found ≡ behind-9 piece
    → found ≡ behind-8 piece
unfolding behind-8
past-9 piece text found = past_word piece (codes "and") text (Some AndWord) (behind-9 piece) found

pub this-9 : (piece text : List ℕ) → text ≡ codes "and" → true ≡ bytes_eq piece text → Some AndWord ≡ behind-8 piece
unfolding behind-8
this-9 piece text = this_word piece (codes "and") text (Some AndWord) (behind-9 piece)

pub past-10 : (piece text : List ℕ) (found : Option Token) → text ≡ codes "or" → false ≡ bytes_eq piece text → found ≡ behind-10 piece
    → found ≡ behind-9 piece
unfolding behind-9
past-10 piece text found = past_word piece (codes "or") text (Some OrWord) (behind-10 piece) found

pub this-10 : (piece text : List ℕ) → text ≡ codes "or" → true ≡ bytes_eq piece text → Some OrWord ≡ behind-9 piece
unfolding behind-9
this-10 piece text = this_word piece (codes "or") text (Some OrWord) (behind-10 piece)

pub past-11 : (piece text : List ℕ) (found : Option Token) → text ≡ codes "not" → false ≡ bytes_eq piece text → found ≡ behind-11 piece
    → found ≡ behind-10 piece
unfolding behind-10
past-11 piece text found = past_word piece (codes "not") text (Some NotWord) (behind-11 piece) found

pub this-11 : (piece text : List ℕ) → text ≡ codes "not" → true ≡ bytes_eq piece text → Some NotWord ≡ behind-10 piece
unfolding behind-10
this-11 piece text = this_word piece (codes "not") text (Some NotWord) (behind-11 piece)

pub past-12 : (piece text : List ℕ) (found : Option Token) → text ≡ codes "(" → false ≡ bytes_eq piece text → found ≡ behind-12 piece
    → found ≡ behind-11 piece
unfolding behind-11
past-12 piece text found = past_word piece (codes "(") text (Some Open) (behind-12 piece) found

pub this-12 : (piece text : List ℕ) → text ≡ codes "(" → true ≡ bytes_eq piece text → Some Open ≡ behind-11 piece
unfolding behind-11
this-12 piece text = this_word piece (codes "(") text (Some Open) (behind-12 piece)

pub past-13 : (piece text : List ℕ) (found : Option Token) → text ≡ codes ")" → false ≡ bytes_eq piece text → found ≡ behind-13 piece
    → found ≡ behind-12 piece
unfolding behind-12
past-13 piece text found = past_word piece (codes ")") text (Some Close) (behind-13 piece) found

pub this-13 : (piece text : List ℕ) → text ≡ codes ")" → true ≡ bytes_eq piece text → Some Close ≡ behind-12 piece
unfolding behind-12
this-13 piece text = this_word piece (codes ")") text (Some Close) (behind-13 piece)

pub none-13 : (piece : List ℕ) → None ≡ behind-13 piece
unfolding behind-13
none-13 piece = refl
