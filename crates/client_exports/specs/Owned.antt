-- What a handle owns.
use Rattle.std.specs.Prelude.{◌≡◌, Option, None, Some}
use base.Fml.{Fml, ftrue, fex}
use base.Stored.{Coded}
use denote.RawPtr.{Ptr, null_ptr}
use Rattle.std.specs.declared.alloc.Global.{Global}
use Rattle.std.specs.contracts.impls.GlobalAllocator.TheImpl.{ghosts}
use Rattle.std.specs.Box.Ownership.{box_owns}
use Rattle.std.specs.Coded.{coded_option}
use Rattle.client_exports.specs.State.{State}
use Rattle.client_exports.specs.contracts.stream.Stream.{the_row}

-- Every handle of the C library's heap is the same.
abbrev pub heap : Global
heap = record { memory = record { seal = tt } }

-- the box of the stream at the pointer, or null where there is none
abbrev pub owned : Ptr → Option State → Fml
owned p None = fex (p ≡ null_ptr) (λ _. ftrue)
owned p (Some x) = box_owns (ghosts.dealloc_token heap) the_row p x

-- how the logic stores what a handle has
abbrev pub value_coded : Coded (Option State)
value_coded = coded_option the_row.coded
