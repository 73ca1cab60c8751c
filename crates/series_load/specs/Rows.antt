-- The rows that the lines of an input say.
use Rattle.std.specs.Prelude.{◌≡◌, ◌⊎◌, ℕ, ℤ, ◌^◌, ◌<◌, ◌≤◌, List, [], ◌∷◌, ◌++◌, length, Option, None, Some, IsSomeAnd, IsTrue}
use Rattle.chart_world.specs.Lines.{lines}
use Rattle.csv_load.specs.Rows.{Says, Fails}
use Rattle.csv_load.specs.declared.row.Row.TheVariants.{Point, Skip, Header}
use Rattle.csv_load.specs.declared.row.RowCause.{RowCause}
use Rattle.chart_world.specs.Fronts.{says, first_piece, BeginsWith}
use Rattle.series_load.specs.Fronts.{PlacedLine, told}

-- what a row with a value says, and the offset of its line
pub record Reading : Type 0 where
  pub at : ℕ
  pub time : ℤ
  pub value : ℤ

-- the line is a row with this reading, or a row without one
abbrev pub IsRow : ℕ → PlacedLine → Option Reading → Type 0
IsRow scale line (Some reading) = (reading.at ≡ line.at) × IsSomeAnd line.text (λ text. Says scale text (Point reading.time reading.value))
IsRow scale line None = IsSomeAnd line.text (λ text. (time : ℤ) × Says scale text (Skip time))

-- each line is one of these rows, in order
abbrev pub AreRows : ℕ → List PlacedLine → List (Option Reading) → Type 0
AreRows scale [] [] = Unit {0}
AreRows scale [] (row ∷ rows) = ⊥
AreRows scale (line ∷ lines) [] = ⊥
AreRows scale (line ∷ lines) (row ∷ rows) = IsRow scale line row × AreRows scale lines rows

abbrev pub IsHeader : ℕ → PlacedLine → Type 0
IsHeader scale line = IsSomeAnd line.text (λ text. Says scale text Header)

-- a header, and rows behind it
pub record HasHeader (scale : ℕ) (lines : List PlacedLine) (rows : List (Option Reading)) : Type 0 where
  pub header : PlacedLine
  pub later : List PlacedLine
  pub split : lines ≡ header ∷ later
  pub is_header : IsHeader scale header
  pub rows_are : AreRows scale later rows

-- the lines are these rows; the first line may be a header
abbrev pub AreTable : ℕ → List PlacedLine → List (Option Reading) → Type 0
AreTable scale lines rows = AreRows scale lines rows ⊎ HasHeader scale lines rows

-- Behind these lines a line is bad: it is too long, or no row, or a header that isn't the first line.
abbrev pub IsBad : ℕ → List PlacedLine → Option (List ℕ) → Type 0
IsBad scale before None = Unit {0}
IsBad scale before (Some text) = ((cause : RowCause) × Fails scale text cause) ⊎ ((0 < length before) × Says scale text Header)

-- behind these lines, a line that isn't empty and is bad is the first of these bytes
pub record BadFirst (scale : ℕ) (before : List PlacedLine) (bytes : List ℕ) : Type 0 where
  pub line : Option (List ℕ)
  pub later : List (Option (List ℕ))
  pub lines_are : lines bytes ≡ line ∷ later
  pub some : IsTrue (says line)
  pub bad : IsBad scale before line

-- a bad line stands behind the front, and ends among the first 2^32 bytes
pub record BadEarly (scale : ℕ) (front rest : List ℕ) : Type 0 where
  pub bad : BadFirst scale (told front) rest
  pub early : length (front ++ first_piece rest) ≤ 2 ^ 32

-- behind the front the input ends, or a bad line stands
abbrev pub Stops : ℕ → List ℕ → List ℕ → Type 0
Stops scale front rest = (rest ≡ []) ⊎ BadEarly scale front rest

-- the input begins with these rows, and this stands behind them
pub record ReadsRows (scale : ℕ) (input front rest : List ℕ) (rows : List (Option Reading)) : Type 0 where
  pub begins : BeginsWith input front rest
  pub table : AreTable scale (told front) rows
