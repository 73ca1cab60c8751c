-- The keys that a view of a series needs.
use Rattle.std.specs.Prelude.{ℕ, ℤ, ◌≡◌, ◌<◌, ◌⊎◌, List, length, Option, Some, IsSome}
use Rattle.chart_grid.specs.declared.axis.Axis.{Axis}
use Rattle.chart_grid.specs.declared.grid.Grid.{Grid}
use Rattle.chart_grid.specs.Slots.{IsInColumn}
use Rattle.om3_coeff.specs.declared.key.Key.{Key}
use Rattle.om3_coeff.specs.declared.span.Span.{Span}
use Rattle.om3_coeff.specs.Keys.{height, IsNode}
use Rattle.om3_coeff.specs.Spans.{Holds, span}
use Rattle.view_keys.specs.Ranges.{IsInRange, IsWithin, IsCut}
use Rattle.view_keys.specs.Flat.{IsFlat}

-- slot i is the first stored slot of column c
pub record IsFirstStored (list : List (Option ℤ)) (axis : Axis) (grid : Grid) (c i : ℕ) : Type 0 where
  pub in_column : IsInColumn axis grid c i
  pub value : ℤ
  pub stored : Holds list i value
  pub none_before : (j : ℕ) (v : ℤ) → j < i → IsInColumn axis grid c j → Holds list j v → ⊥

-- it is the last one
pub record IsLastStored (list : List (Option ℤ)) (axis : Axis) (grid : Grid) (c i : ℕ) : Type 0 where
  pub in_column : IsInColumn axis grid c i
  pub value : ℤ
  pub stored : Holds list i value
  pub none_behind : (j : ℕ) (v : ℤ) → i < j → IsInColumn axis grid c j → Holds list j v → ⊥

-- the key's range holds the first or the last stored slot of column c
pub record HoldsEnd (list : List (Option ℤ)) (axis : Axis) (grid : Grid) (c : ℕ) (k : Key) : Type 0 where
  pub slot : ℕ
  pub in_range : IsInRange k slot
  pub end : IsFirstStored list axis grid c slot ⊎ IsLastStored list axis grid c slot

-- the stored values of the key's range don't all have one height
abbrev pub IsUneven : List (Option ℤ) → ℤ → ℤ → ℕ → Key → Type 0
IsUneven list lo hi h k = (s : Span) → span list k ≡ Some s → IsFlat lo hi h s → ⊥

-- A view over the range lo to hi needs a key whose range has a stored value where, for some column, the
-- range meets the column's slots and isn't within them, or is within them, isn't of one height, and
-- holds the first or the last stored one.
pub record IsNeeded (list : List (Option ℤ)) (axis : Axis) (grid : Grid) (lo hi : ℤ) (k : Key) : Type 0 where
  pub node : IsNode (height (length list)) k
  pub stored : IsSome (span list k)
  pub column : ℕ
  pub shown : column < grid.w
  pub reason : IsCut axis grid column k
      ⊎ (IsWithin axis grid column k × IsUneven list lo hi grid.h k × HoldsEnd list axis grid column k)
