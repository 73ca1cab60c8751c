-- The slots of a plan are slots of its window.
use Rattle.std.proofs.Common.{◌≡◌, ◌+◌, ◌-◌, ◌*◌, ◌<◌, ◌≤◌, ℕ, inl, inr, subst, arith}
use Rattle.std.proofs.lemmas.Bool.{cases_lt}
use Rattle.chart_grid.specs.declared.axis.Axis.{Axis}
use Rattle.chart_grid.specs.declared.grid.Grid.{Grid}
use Rattle.chart_grid.specs.Slots.{AreSlotsBefore}
use Rattle.om3_coeff.specs.Keys.{height}
use Rattle.query_rewriter.specs.declared.queries.Plan.{Plan}
use Rattle.query_rewriter.specs.Scans.{IsScan}
use Rattle.query_rewriter.proofs.Windows.{shown_slots}
use Rattle.filter_scan.specs.Reads.{ReadsWindow}

slots_within : (axis : Axis) (plan : Plan) (from to : ℕ) → IsScan axis plan → AreSlotsBefore axis plan.grid.t0 from
    → AreSlotsBefore axis plan.grid.t1 to → plan.slots.1 - plan.slots.0 ≤ to - from
slots_within axis plan from to scan start stop =
    elim (cases_lt plan.slots.0 plan.slots.1) [
      | inl some ↦
          let last : ℕ = plan.slots.1 - 1 in
          let low : plan.slots.0 ≤ last = omega (arith, some) in
          let high : last < plan.slots.1 = omega (arith, some) in
          let first = shown_slots axis plan.grid from to plan.slots.0 start stop (omega (arith, some, scan.within))
          (scan.shown.each plan.slots.0 (omega arith) some) in
          let end = shown_slots axis plan.grid from to last start stop (omega (arith, high, scan.within)) (scan.shown.each last low high) in
          omega (arith, some, first.0, end.1)
      | inr none ↦ omega (arith, none)
    ]

-- so a walk over them reads no more than the window may
pub window_reads : (axis : Axis) (plan : Plan) (old new : ℕ) → IsScan axis plan
    → new ≤ old + ((plan.slots.1 - plan.slots.0) + 2 * height axis.slots) → ReadsWindow axis plan.grid.t0 plan.grid.t1 old new
window_reads axis plan old new scan few = λ from to start stop.
    let within = slots_within axis plan from to scan start stop in omega (arith, few, within)

pub window_of : (axis : Axis) (g h : Grid) (old new : ℕ) → g ≡ h → ReadsWindow axis g.t0 g.t1 old new → ReadsWindow axis h.t0 h.t1 old new
window_of axis g h old new same reads =
    let P : Grid → Type 0 = λ k. ReadsWindow axis k.t0 k.t1 old new in subst P same reads
