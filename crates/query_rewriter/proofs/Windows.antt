-- The slots of a window, and their times.
use Rattle.std.proofs.Common.{ℕ, ◌<◌, ◌≤◌, ◌≤ℤ◌, inl, inr, arith, ◌*◌}
use Rattle.std.proofs.Math.Nat.{mul-le-mul_right}
use Rattle.std.proofs.lemmas.Int.{ints, by_lt_z}
use Rattle.std.proofs.lemmas.Bool.{cases_lt}
use Rattle.chart_grid.specs.Projection.{InWindow}
use Rattle.chart_grid.specs.Slots.{slot_time, AreSlotsBefore}
use Rattle.chart_grid.specs.declared.axis.Axis.{Axis}
use Rattle.chart_grid.specs.declared.grid.Grid.{Grid}
use Rattle.query_rewriter.specs.Scans.{AreShown}

-- the slots of a window are those whose times it shows
pub slots_shown : (axis : Axis) (g : Grid) (a b : ℕ) → AreSlotsBefore axis g.t0 a → AreSlotsBefore axis g.t1 b → AreShown axis g a b
slots_shown axis g a b start stop = record {
  each = λ i from to. shown i from to;
}
  where
    shown : (i : ℕ) → a ≤ i → i < b → InWindow g (slot_time axis i)
    shown i from to =
        let slot : i < axis.slots = omega (arith, stop.within) in record {
          from = by_lt_z (slot_time axis i) g.t0 (λ less. absurd (omega (arith, (start.before i slot).1 less))) (λ le. le);
          to = (stop.before i slot).0 to;
        }

pub shown_slots : (axis : Axis) (g : Grid) (a b i : ℕ) → AreSlotsBefore axis g.t0 a → AreSlotsBefore axis g.t1 b → i < axis.slots
    → InWindow g (slot_time axis i) → (a ≤ i) × (i < b)
shown_slots axis g a b i start stop slot shown = (
  (let low : a ≤ i = elim (cases_lt i a) [
    | inl less ↦ absurd (omega (arith, ints, shown.from, (start.before i slot).0 less))
    | inr le ↦ le
  ] in low),
  (stop.before i slot).1 shown.to,
)

-- later slots have later times
pub time_rises : (axis : Axis) (i j : ℕ) → i ≤ j → slot_time axis i ≤ℤ slot_time axis j
time_rises axis i j le =
    let steps : i * axis.step ≤ j * axis.step = mul-le-mul_right {m = i} {n = j} axis.step le in omega (arith, ints)
