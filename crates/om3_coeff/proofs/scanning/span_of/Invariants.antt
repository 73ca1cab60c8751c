use Rattle.std.proofs.Common.{◌≡◌, take}
use Rattle.om3_coeff.specs.Spans.{span_of}
use Rattle.om3_coeff.proofs.scanning.span_of.Given as goal

abbrev pub invariant-loop-slot : goal.invariant-loop-slot
invariant-loop-slot l = l.span ≡ span_of (take l.slot-index l.slots)
