use Rattle.std.proofs.Common.{◌≡◌, take, replicate}
use Rattle.page_space.proofs.fields.all_zero.Given as goal

abbrev pub invariant-loop-byte : goal.invariant-loop-byte
invariant-loop-byte l = record { so_far : take l.byte-index l.bytes ≡ replicate l.byte-index 0 }
