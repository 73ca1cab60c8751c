use Rattle.std.proofs.Common.{◌≡◌, ℤ, List, take, Option, None, subst, sym, refl, arith}
use Rattle.std.proofs.lemmas.Grind.{common_steps}
use Rattle.plain_chart.specs.declared.value_range.ValueRange.{ValueRange}
use Rattle.plain_chart.specs.Samples.{kept, values_of, SpansSoFar, IsRange, IsSlot}
use Rattle.whole_number.specs.Range.{IsValue}
use Rattle.plain_chart.proofs.Keeping.{values_more, values_hold}
use Rattle.plain_chart.proofs.Widening.{range_is, range_order, range_holds}
use Rattle.plain_chart.proofs.range.range_of.Goals as goal

pub loop-slot-preserved : goal.loop-slot-preserved
loop-slot-preserved c =
    values_more (λ vs. SpansSoFar c.widened-range.result vs) c.args.grid c.args.axis c.args.slots.now c.loop-slot.slot None
    c.sample_at.result
    c.loop-slot-test.true c.sample_at.ensures.value
    (c.widened-range.ensures (values_of (kept c.args.grid c.args.axis (take c.loop-slot.slot c.args.slots.now))) c.loop-slot.invariant)

pub returns-clause-range : goal.returns-clause-range
returns-clause-range c =
    let slots = c.args.slots.now in
    let all : take c.loop-slot.slot slots ≡ slots = grind (arith, common_steps) in
    let L : List (Option ℤ) → Type 0 = λ l. SpansSoFar c.loop-slot.range (values_of (kept c.args.grid c.args.axis l)) in
    let R : ValueRange → Type 0 = λ r. IsRange (values_of (kept c.args.grid c.args.axis slots)) r in
    subst R (sym c.unwrap_or.ensures) (range_is (values_of (kept c.args.grid c.args.axis slots)) c.loop-slot.range _ refl refl
    (subst L all c.loop-slot.invariant))

pub returns-clause-order : goal.returns-clause-order
returns-clause-order c = range_order _ c.unwrap_or.result (returns-clause-range c)

pub returns-clause-sizes : goal.returns-clause-sizes
returns-clause-sizes c = λ all.
    let vs = values_hold IsValue IsSlot c.args.grid c.args.axis 0 c.args.slots.now (λ v h. h) all in
    range_holds IsValue (values_of (kept c.args.grid c.args.axis c.args.slots.now)) c.unwrap_or.result (returns-clause-range c)
    (omega arith) vs
