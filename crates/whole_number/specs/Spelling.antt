-- How whole numbers are written in request lines, in input and in the words of a command.
use Rattle.std.specs.Prelude.{◌≡◌, ℕ, ℤ, ◌<◌, ◌^◌, List, unsigned_abs}
use Rattle.std.specs.Fmt.{decimal, signed_decimal}

-- the text is the number in decimal digits: `0`, or up to 19 digits of which the first isn't 0
abbrev pub SpellsNatural : List ℕ → ℕ → Type 0
SpellsNatural text n = (text ≡ decimal n) × (n < 10 ^ 19)

-- the same with a `-` in front of a number below 0
abbrev pub SpellsInteger : List ℕ → ℤ → Type 0
SpellsInteger text z = (text ≡ signed_decimal z) × (unsigned_abs z < 10 ^ 19)
