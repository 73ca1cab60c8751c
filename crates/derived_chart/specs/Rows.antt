-- The rows of sums, column by column.
use Rattle.std.specs.Prelude.{ℕ, ℤ, ◌<◌, ◌≤◌, ◌^◌, ◌<ℤ◌, ◌≤ℤ◌, ◌↔◌, ⊤, List, All, Contains, Option, None, Some, Result, Ok, Err}
use Rattle.std.specs.Prelude.{unsigned_abs}
use Rattle.chart_grid.specs.declared.axis.Axis.{Axis}
use Rattle.chart_grid.specs.declared.grid.Grid.{Grid}
use Rattle.chart_grid.specs.Slots.{IsInColumn}
use Rattle.om3_coeff.specs.declared.errors.NodeError.{NodeError}
use Rattle.om3_coeff.specs.Spans.{Holds, IsClear, IsStored}
use Rattle.om3_coeff.specs.Walks.{IsFirstStored, IsLastStored}
use Rattle.m4_groups.specs.declared.row.Row.{Row}
use Rattle.m4_groups.specs.Heights.{IsDrawable}
use Rattle.m4_groups.specs.Rows.{AreRowsOf, AreRising, columns_of}
use Rattle.plain_chart.specs.declared.sample.Sample.{Sample}
use Rattle.plain_chart.specs.Samples.{sample_points}
use Rattle.whole_number.specs.Range.{IsValue}
use Rattle.derived_chart.specs.Searches.{IsBestOf}
use Rattle.derived_chart.specs.Sums.{AreSums}
use Rattle.derived_chart.specs.declared.derived_error.DerivedError.{DerivedError}
use Rattle.derived_chart.specs.declared.derived_error.DerivedError.TheVariants.{TooLarge, Node, NoMemory}
use Rattle.derived_chart.specs.declared.searches.Best.TheVariants.{Least, Greatest}
use Rattle.derived_chart.specs.declared.sum.Sum.{Sum}

-- the time is the first at which a sample has a value that no series can hold
pub record IsFirstTooLarge (samples : List Sample) (time : ℤ) : Type 0 where
  pub value : ℤ
  pub among : Contains samples (record { time = time; value = value })
  pub large : 10 ^ 18 < unsigned_abs value
  pub before : All (λ s. s.time <ℤ time → IsValue s.value) samples

-- What is answered of samples: their rows, where all values are such that a series can hold them, or the first time at which one isn't.
abbrev pub IsAnswer : Grid → List Sample → Result (List Row) DerivedError → Type 0
IsAnswer g samples (Ok rows) = AreRowsOf g (sample_points samples) rows × All (λ s. IsValue s.value) samples
IsAnswer g samples (Err (TooLarge time)) = IsFirstTooLarge samples time
IsAnswer g samples (Err (Node e)) = ⊤
IsAnswer g samples (Err NoMemory) = ⊤

-- the trees gave an error; want of memory is free
abbrev pub IsCause : (NodeError → Type 0) → DerivedError → Type 0
IsCause causes (TooLarge time) = ⊤
IsCause causes (Node e) = causes e
IsCause causes NoMemory = ⊤

-- the same where no sum is too large
abbrev pub IsRowCause : (NodeError → Type 0) → DerivedError → Type 0
IsRowCause causes (TooLarge time) = ⊥
IsRowCause causes (Node e) = causes e
IsRowCause causes NoMemory = ⊤

-- no sum of the slots from p on and below q is too large
abbrev pub AreValues : List (Option ℤ) → ℕ → ℕ → Type 0
AreValues sums p q = (i : ℕ) (v : ℤ) → p ≤ i → i < q → Holds sums i v → IsValue v

-- r has the first, the least, the greatest and the last of the sums of the slots from p on and below q
pub record IsRowIn (sums : List (Option ℤ)) (p q : ℕ) (r : Row) : Type 0 where
  pub first_at : ℕ
  pub first : IsFirstStored sums p q (Some (first_at, r.first))
  pub last_at : ℕ
  pub last : IsLastStored sums p q (Some (last_at, r.last))
  pub least : IsStored sums p q r.least
  pub none_below : (i : ℕ) (v : ℤ) → p ≤ i → i < q → Holds sums i v → r.least ≤ℤ v
  pub greatest : IsStored sums p q r.greatest
  pub none_above : (i : ℕ) (v : ℤ) → p ≤ i → i < q → Holds sums i v → v ≤ℤ r.greatest

-- the first and the last value of a row lie between its least and its greatest one
pub record IsOrdered (r : Row) : Type 0 where
  pub first_low : r.least ≤ℤ r.first
  pub first_high : r.first ≤ℤ r.greatest
  pub last_low : r.least ≤ℤ r.last
  pub last_high : r.last ≤ℤ r.greatest

-- the row of these slots, or nothing where no sum stands there
abbrev pub IsRowIfAny : List (Option ℤ) → ℕ → ℕ → Option Row → Type 0
IsRowIfAny sums p q None = IsClear sums p q
IsRowIfAny sums p q (Some r) = IsRowIn sums p q r

-- what was found of the sums of these slots: the first with its slot, the last one, the least and the greatest
pub record AreFound (sums : List (Option ℤ)) (p q : ℕ) (first : ℕ × ℤ) (last : Option (ℕ × ℤ)) (least greatest : Option ℤ) : Type 0 where
  pub small : AreValues sums p q
  pub first_is : IsFirstStored sums p q (Some first)
  pub last_is : IsLastStored sums p q last
  pub least_is : IsBestOf Least sums p q least
  pub greatest_is : IsBestOf Greatest sums p q greatest

-- the slots from p on and below q are those of column c
abbrev pub AreColumn : Axis → Grid → ℕ → ℕ → ℕ → Type 0
AreColumn axis g c p q = (i : ℕ) → IsInColumn axis g c i ↔ ((p ≤ i) × (i < q))

-- r is the row of the slots of its column
pub record IsRowOf (axis : Axis) (g : Grid) (sums : List (Option ℤ)) (r : Row) : Type 0 where
  pub from : ℕ
  pub to : ℕ
  pub slots : AreColumn axis g r.column from to
  pub row : IsRowIn sums from to r

-- the rows rise, can be drawn, and are of the columns below n
pub record AreShown (w n : ℕ) (rows : List Row) : Type 0 where
  pub rising : AreRising rows
  pub drawable : All (IsDrawable w) rows
  pub ordered : All IsOrdered rows
  pub below : All (λ r. r.column < n) rows

-- they are those of the columns below n
pub record AreRowsBelow (axis : Axis) (g : Grid) (sums : List (Option ℤ)) (n : ℕ) (rows : List Row) : Type 0 where
  pub each : All (IsRowOf axis g sums) rows
  pub every : (c i : ℕ) (v : ℤ) → c < n → IsInColumn axis g c i → Holds sums i v → Contains (columns_of rows) c

-- no sum in a column is too large
abbrev pub AreColumnValues : Axis → Grid → List (Option ℤ) → Type 0
AreColumnValues axis g sums = (c i : ℕ) (v : ℤ) → IsInColumn axis g c i → Holds sums i v → IsValue v

-- so of the sums of two lists that are so, where none of them in a column is too large
abbrev pub ForColumnSums : Axis → Grid → Sum → (List (Option ℤ) → List (Option ℤ) → Type 0) → (List (Option ℤ) → Type 0) → Type 0
ForColumnSums axis g sum Are IsSo = (xs ys sums : List (Option ℤ)) → Are xs ys → AreSums sum xs ys sums → AreColumnValues axis g sums
    → IsSo sums
