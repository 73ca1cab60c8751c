-- Numbers with a point, as whole numbers of their last place.
use Rattle.std.specs.Prelude.{◌≡◌, ◌⊎◌, ℕ, ℤ, pos, ◌-ℤ◌, ◌+◌, ◌*◌, ◌-◌, ◌^◌, ◌<◌, ◌≤◌, Bool, ◌==◌, List, [], ◌∷◌, ◌++◌, length}
use Rattle.std.specs.List.{position_or_len}
use Rattle.std.specs.Str.Parse.{AllDigits, IsNumeral, digits_value}

-- the byte is a point
abbrev pub is_point : ℕ → Bool
is_point byte = byte == 46

-- the first point of a text is its last byte
abbrev pub EndsInPoint : List ℕ → Type 0
EndsInPoint text = position_or_len is_point text + 1 ≡ length text

-- a point and the digits behind it; no point where there are none
abbrev pub point_and : List ℕ → List ℕ
point_and [] = []
point_and (place ∷ places) = 46 ∷ place ∷ places

-- a text of digits, and behind a point at most `scale` more, is the number n once scaled: n is the
-- text's number times 10^scale, and has at most 19 digits
pub record SpellsScaled (scale : ℕ) (text : List ℕ) (n : ℕ) : Type 0 where
  pub whole : List ℕ
  pub places : List ℕ
  pub parts : text ≡ whole ++ point_and places
  pub whole_digits : IsNumeral 10 whole
  pub place_digits : AllDigits 10 places
  pub few : length places ≤ scale
  pub value : n ≡ digits_value 10 whole * 10 ^ scale + digits_value 10 places * 10 ^ (scale - length places)
  pub short : n < 10 ^ 19

-- the same where a `-` may stand in front
abbrev pub SpellsDecimal : ℕ → List ℕ → ℤ → Type 0
SpellsDecimal scale text z =
    ((n : ℕ) × SpellsScaled scale text n × (z ≡ pos n))
    ⊎ ((n : ℕ) × (rest : List ℕ) × (text ≡ 45 ∷ rest) × SpellsScaled scale rest n × (z ≡ pos 0 -ℤ pos n))
