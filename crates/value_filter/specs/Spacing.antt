-- Texts as tokens with spaces between them.
use Rattle.std.specs.Prelude.{◌≡◌, ◌≢◌, ℕ, false, List, [], ◌∷◌, ◌++◌, slice_index}
use Rattle.value_filter.specs.declared.atoms.Comparison.TheVariants.{Less, LessOrEqual, Equal, NotEqual, GreaterOrEqual, Greater}
use Rattle.value_filter.specs.declared.tokens.Token.{Token}
use Rattle.value_filter.specs.declared.tokens.Token.TheVariants.{Subject, Sign, Number, AndWord, OrWord, NotWord, Open, Close}
use Rattle.value_filter.specs.Pieces.{is_word_byte, spelling, IsShort}

abbrev pub AreSpaces : List ℕ → Type 0
AreSpaces [] = Unit {0}
AreSpaces (byte ∷ bytes) = (byte ≡ 32) × AreSpaces bytes

-- no letter, digit or hyphen stands at the front
abbrev pub EndsWord : List ℕ → Type 0
EndsWord [] = Unit {0}
EndsWord (byte ∷ bytes) = is_word_byte byte ≡ false

-- a token doesn't run together with what stands behind it: with a word or number behind a word or
-- number, or with `=` behind `<` or `>`
abbrev pub StandsApart : Token → List ℕ → Type 0
StandsApart (Sign Less) rest = slice_index rest 0 ≢ 61
StandsApart (Sign Greater) rest = slice_index rest 0 ≢ 61
StandsApart (Sign LessOrEqual) rest = Unit {0}
StandsApart (Sign Equal) rest = Unit {0}
StandsApart (Sign NotEqual) rest = Unit {0}
StandsApart (Sign GreaterOrEqual) rest = Unit {0}
StandsApart Open rest = Unit {0}
StandsApart Close rest = Unit {0}
StandsApart (Subject subject) rest = EndsWord rest
StandsApart (Number number) rest = EndsWord rest
StandsApart AndWord rest = EndsWord rest
StandsApart OrWord rest = EndsWord rest
StandsApart NotWord rest = EndsWord rest

-- the text is these tokens, with any number of spaces between them and at both ends
abbrev pub IsSpaced : List Token → List ℕ → Type 0
IsSpaced [] text = AreSpaces text
IsSpaced (token ∷ tokens) text =
    (gap rest : List ℕ) × AreSpaces gap × (text ≡ gap ++ (spelling token ++ rest)) × IsShort token × StandsApart token rest
    × IsSpaced tokens rest
