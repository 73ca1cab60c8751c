use Rattle.std.proofs.Common.{◌+◌, ◌*◌, ℕ, Option, subst, arith}
use Rattle.om3_coeff.specs.declared.span.Span.{Span}
use Rattle.page_spans.specs.Heaps.{span_at}
use Rattle.path_repair.proofs.SumLemmas.{below_next}
use Rattle.series_store.specs.Counting.{IsSlot}
use Rattle.series_store.proofs.counting.are_slots.Goals as goal

pub loop-child-init : goal.loop-child-init
loop-child-init c = λ n low. absurd (omega (arith, low))

pub loop-child-preserved : goal.loop-child-preserved
loop-child-preserved c =
    let S : Option Span → Type 0 = λ s. IsSlot c.args.slots (128 * c.args.index + c.loop-child.child) s in
    let I : ℕ → Type 0 = λ i. IsSlot c.args.slots i c.leaf.result in
    below_next (λ n. IsSlot c.args.slots (128 * c.args.index + n) (span_at c.args.spans.now (127 + n))) c.loop-child.child
    c.loop-child.invariant
    (subst S c.leaf.ensures.span (subst I c.part_of.ensures (c.is_slot.ensures.0 c.if-not-is_slot.false)))

pub returns-clause-parts : goal.returns-clause-parts
returns-clause-parts c = λ is lowest child within. c.loop-child.invariant child (omega (arith, within, c.loop-child-test.false))
