-- The samples of a series that a view keeps.
use Rattle.std.specs.Prelude.{◌≡◌, ℕ, ℤ, pos, ◌^◌, ◌≤◌, ◌≤ℤ◌, Bool, ◌&&◌, int_lt, int_le, if◌then◌else◌, List, [], ◌∷◌, map, All, Contains}
use Rattle.std.specs.Prelude.{Option, None, Some, ⊤}
use Rattle.std.specs.List.{enumerate_from, filter_map}
use Rattle.chart_grid.specs.Slots.{slot_time}
use Rattle.whole_number.specs.Range.{IsValue}
use Rattle.whole_number.specs.SlotTimes.{EndsInTime}
use Rattle.chart_grid.specs.declared.grid.Grid.{Grid}
use Rattle.chart_grid.specs.declared.axis.Axis.{Axis}
use Rattle.plain_chart.specs.declared.sample.Sample.{Sample}
use Rattle.plain_chart.specs.declared.value_range.ValueRange.{ValueRange}

-- what a slot may hold
abbrev pub IsSlot : Option ℤ → Type 0
IsSlot None = ⊤
IsSlot (Some v) = IsValue v

-- the time lies in the grid's window
abbrev pub in_window : Grid → ℤ → Bool
in_window g t = int_le g.t0 t && int_lt t g.t1

-- the sample of a slot that holds a value and whose time lies in the window
abbrev pub kept_at : Grid → Axis → ℕ × Option ℤ → Option Sample
kept_at g axis (slot, None) = None
kept_at g axis (slot, Some value) =
    if in_window g (slot_time axis slot) then Some (record { time = slot_time axis slot; value = value }) else None

-- the samples of the slots that the view keeps, in order of time
abbrev pub kept : Grid → Axis → List (Option ℤ) → List Sample
kept g axis slots = filter_map (kept_at g axis) (enumerate_from 0 slots)

-- the points of samples, each a time and a value
abbrev pub sample_points : List Sample → List (ℤ × ℤ)
sample_points samples = map (λ s. (s.time, s.value)) samples

-- the values of samples
abbrev pub values_of : List Sample → List ℤ
values_of samples = map (λ s. s.value) samples

-- lo is the least and hi the greatest of the values
pub record Spans (values : List ℤ) (range : ValueRange) : Type 0 where
  pub least : Contains values range.lo
  pub none_below : All (λ v. range.lo ≤ℤ v) values
  pub greatest : Contains values range.hi
  pub none_above : All (λ v. v ≤ℤ range.hi) values

-- the range of values: from the least to the greatest, and 0 to 0 where there is none
abbrev pub IsRange : List ℤ → ValueRange → Type 0
IsRange [] range = (range.lo ≡ pos 0) × (range.hi ≡ pos 0)
IsRange (v ∷ vs) range = Spans (v ∷ vs) range

-- the range of the values so far, and nothing where there is none yet
abbrev pub SpansSoFar : Option ValueRange → List ℤ → Type 0
SpansSoFar None values = values ≡ []
SpansSoFar (Some range) values = Spans values range

-- the most slots of a series
abbrev pub most_slots : ℕ
most_slots = 2 ^ 35

-- the start, the step and the number of slots are those of a series, the last slot of which stands at a time
pub record IsSeries (axis : Axis) : Type 0 where
  pub start : IsValue axis.start
  pub step : axis.step ≤ 2 ^ 31
  pub slots : axis.slots ≤ most_slots
  pub last : EndsInTime axis.start axis.step axis.slots
