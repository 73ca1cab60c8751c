use Rattle.std.proofs.Common.{◌≡◌, take, false}
use Rattle.gate_pages.specs.Batch.{is_one_of}
use Rattle.gate_pages.proofs.directory.is_among.Given as goal

abbrev pub invariant-loop-other : goal.invariant-loop-other
invariant-loop-other l = record { so_far : is_one_of (take l.other-index l.numbers) l.number ≡ false }
