-- Formats: the fields of a text of bytes, told as data.
use Rattle.std.specs.Prelude.{ℕ, ◌≡◌, ◌<◌, ◌≤◌, ◌^◌, Bool, false, IsTrue, List, [], ◌∷◌, ◌++◌, length}
use Rattle.byteorder.specs.Endian.{big_bytes, big_number}

-- the bytes of a number of so many bytes, the highest first
unfoldable pub number_bytes : ℕ → ℕ → List ℕ
number_bytes size n = big_bytes size n

-- the number in the first so many bytes, the highest first
unfoldable pub number_in : ℕ → List ℕ → ℕ
number_in size bytes = big_number size bytes

-- Fields, one behind the other. Each has a size in bytes, a rule for its number, and the fields that
-- follow it, which that number may decide.
pub data Format : Type 0 where
  stop : Format
  field : ℕ → (ℕ → Bool) → (ℕ → Format) → Format

-- the bytes of these numbers, as the first fields have their sizes
abbrev pub spell : Format → List ℕ → List ℕ
spell f [] = []
spell stop (n ∷ ns) = []
spell (field size ok next) (n ∷ ns) = number_bytes size n ++ spell (next n) ns

-- the fields that follow these numbers
abbrev pub after : Format → List ℕ → Format
after f [] = f
after stop (n ∷ ns) = stop
after (field size ok next) (n ∷ ns) = after (next n) ns

-- these are numbers of the first fields, and each meets its field's rule
abbrev pub Meets : Format → List ℕ → Type 0
Meets f [] = Unit {0}
Meets stop (n ∷ ns) = ⊥
Meets (field size ok next) (n ∷ ns) = (n < 256 ^ size) × (IsTrue (ok n) × Meets (next n) ns)

-- no field is left
abbrev pub IsEnd : Format → Type 0
IsEnd stop = Unit {0}
IsEnd (field size ok next) = ⊥

-- the first field has all its bytes, and its number breaks the rule
abbrev pub IsFirstBad : Format → List ℕ → Type 0
IsFirstBad stop bytes = ⊥
IsFirstBad (field size ok next) bytes = (size ≤ length bytes) × (ok (number_in size bytes) ≡ false)

-- A complete field breaks its rule: the bytes begin with fields that meet theirs, and the first byte of
-- the field behind them stands at the offset `at`.
pub record Breaks (f : Format) (bytes : List ℕ) (at : ℕ) : Type 0 where
  pub numbers : List ℕ
  pub rest : List ℕ
  pub meets : Meets f numbers
  pub begins : bytes ≡ spell f numbers ++ rest
  pub offset : at ≡ length (spell f numbers)
  pub bad : IsFirstBad (after f numbers) rest
