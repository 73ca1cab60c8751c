-- How many blocks a search of a sum reads at most.
use Rattle.std.specs.Prelude.{ℕ, ℤ, pos, ◌≡◌, ◌+◌, ◌-◌, ◌*◌, ◌≤◌, ◌≤ℤ◌, ◌⊎◌, max, min}
use Rattle.chart_grid.specs.Slots.{AreSlotsBefore}
use Rattle.chart_grid.specs.declared.axis.Axis.{Axis}
use Rattle.chart_grid.specs.declared.grid.Grid.{Grid}
use Rattle.om3_coeff.specs.Keys.{end_slot, first_slot, height}
use Rattle.om3_coeff.specs.declared.key.Key.{Key}

-- the levels of two trees together, over so many slots
abbrev pub levels : ℕ → ℕ → ℕ
levels n m = height n + height m

-- for the bounds of a range, two blocks a level
abbrev pub bounds_reads : ℕ → ℕ
bounds_reads levels = 2 * levels

-- for an end of so many slots: it looks at less than two ranges a slot
abbrev pub end_reads : ℕ → ℕ → ℕ
end_reads slots levels = (4 * slots - 2) * levels

-- for the best sum of so many slots: at the bounds of ranges, and at each slot
abbrev pub best_reads : ℕ → ℕ → ℕ
best_reads slots levels = (5 * slots - 2) * levels

-- for the row of so many slots: two ends, the least and the greatest
abbrev pub row_reads : ℕ → ℕ → ℕ
row_reads slots levels = (18 * slots) * levels

-- for the rows of so many slots, and whether a sum among them is too large
abbrev pub sum_reads : ℕ → ℕ → ℕ
sum_reads slots levels = (22 * slots) * levels

-- the slots with times from the window's start on and before t cost so many blocks at most, of which the first number is for each slot
-- and level
abbrev pub ReadsBefore : ℕ → Axis → Grid → ℤ → ℕ → ℕ → ℕ → Type 0
ReadsBefore each axis g t levels old new =
    (from to : ℕ) → AreSlotsBefore axis g.t0 from → AreSlotsBefore axis t to → new ≤ old + (each * (to - from)) * levels

-- the rows of a sum in a window cost so many blocks at most, by the slots of the first series in it
abbrev pub ReadsInWindow : Axis → Grid → ℕ → ℕ → ℕ → Type 0
ReadsInWindow axis g levels old new =
    (from to : ℕ) → AreSlotsBefore axis g.t0 from → AreSlotsBefore axis g.t1 to → new ≤ old + sum_reads (to - from) levels

-- no slot from `base` on lies before `from`, which is `base` or 0
pub record StartsAt (base : ℤ) (from : ℕ) : Type 0 where
  pub low : base ≤ℤ pos from
  pub is : (pos from ≡ base) ⊎ (from ≡ 0)

-- how many of the `count` slots from this one on a key's range has
abbrev pub slots_in : ℕ → ℕ → Key → ℕ
slots_in from count k = min (from + count) (end_slot k) - max from (first_slot k)
