-- What a scan takes of a list of slots, and the rows of it.
use Rattle.std.specs.Prelude.{ℕ, ℤ, ◌≡◌, ◌<◌, ◌≤◌, ◌≤ℤ◌, ◌⊎◌, true, List, Option, None, Some}
use Rattle.chart_grid.specs.Projection.{column}
use Rattle.chart_grid.specs.Slots.{slot_time}
use Rattle.om3_coeff.specs.Spans.{Holds}
use Rattle.m4_groups.specs.declared.row.Row.{Row}
use Rattle.value_filter.specs.declared.steps.Step.{Step}
use Rattle.query_rewriter.specs.Kept.{passes}
use Rattle.filter_scan.specs.declared.scans.Scan.{Scan}
use Rattle.filter_scan.specs.Table.{entry, with_row}

-- the scan takes the value v at slot i for column c: the slot is one of its own and has that column, and
-- the filter holds of the point
pub record Takes (s : Scan) (f : Option (List Step)) (c i : ℕ) (v : ℤ) : Type 0 where
  pub from : s.from ≤ i
  pub to : i < s.end
  pub passes : passes f (record { time = slot_time s.axis i; value = v }) ≡ true
  pub place : column s.grid (slot_time s.axis i) ≡ c

-- slot i, from a on and below b, holds the value v, which is taken
pub record IsTaken (T : ℕ → ℤ → Type 0) (list : List (Option ℤ)) (a b i : ℕ) (v : ℤ) : Type 0 where
  pub low : a ≤ i
  pub high : i < b
  pub holds : Holds list i v
  pub takes : T i v

-- the row has the first, the least, the greatest and the last value that is taken of the slots from a
-- on and below b
pub record IsRowOf (T : ℕ → ℤ → Type 0) (list : List (Option ℤ)) (a b : ℕ) (r : Row) : Type 0 where
  pub first_at : ℕ
  pub first : IsTaken T list a b first_at r.first
  pub before : (i : ℕ) (v : ℤ) → i < first_at → IsTaken T list a b i v → ⊥
  pub least_at : ℕ
  pub least : IsTaken T list a b least_at r.least
  pub above : (i : ℕ) (v : ℤ) → IsTaken T list a b i v → r.least ≤ℤ v
  pub greatest_at : ℕ
  pub greatest : IsTaken T list a b greatest_at r.greatest
  pub below : (i : ℕ) (v : ℤ) → IsTaken T list a b i v → v ≤ℤ r.greatest
  pub last_at : ℕ
  pub last : IsTaken T list a b last_at r.last
  pub behind : (i : ℕ) (v : ℤ) → last_at < i → IsTaken T list a b i v → ⊥

-- no value is taken of these slots
abbrev pub IsNoneTaken : (ℕ → ℤ → Type 0) → List (Option ℤ) → ℕ → ℕ → Type 0
IsNoneTaken T list a b = (i : ℕ) (v : ℤ) → IsTaken T list a b i v → ⊥

-- the row of what is taken of these slots, or nothing where no value is
abbrev pub IsRowIn : (ℕ → ℤ → Type 0) → List (Option ℤ) → ℕ → ℕ → Option Row → Type 0
IsRowIn T list a b None = IsNoneTaken T list a b
IsRowIn T list a b (Some r) = IsRowOf T list a b r

-- the table has for each column the row of what the scan takes for it before slot n
pub record Fills (s : Scan) (f : Option (List Step)) (list : List (Option ℤ)) (n : ℕ) (table : List (Option Row)) : Type 0 where
  pub each : (c : ℕ) → IsRowIn (Takes s f c) list 0 n (entry table c)

-- the row of a single value
abbrev pub row_of : ℕ → ℤ → Row
row_of c v = record { column = c; first = v; least = v; greatest = v; last = v }

-- the row of the value v at slot i, where the scan takes it
abbrev pub IsSlotRow : Scan → Option (List Step) → ℕ → ℤ → Option Row → Type 0
IsSlotRow s f i v None = (c : ℕ) → Takes s f c i v → ⊥
IsSlotRow s f i v (Some r) = Takes s f r.column i v × (r ≡ row_of r.column v) × (r.column < s.grid.w)

-- the table after the value v at slot i
abbrev pub FillsSlot : Scan → Option (List Step) → ℕ → ℤ → List (Option Row) → List (Option Row) → Type 0
FillsSlot s f i v old new =
    (IsSlotRow s f i v None × (new ≡ old)) ⊎ ((r : Row) × IsSlotRow s f i v (Some r) × (new ≡ with_row old r))
