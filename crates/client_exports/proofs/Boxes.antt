-- What a box owns is what its parts own, so each step of a box is one of its parts too.
use mir.Syntax.{impl, tnil, dnil}
use mathlib.Core.List.{[]}
use Rattle.core.proofs.alloc.Calls.{Al}
use Rattle.std_alloc.proofs.BoxSteps.Form.{Bx}
use Rattle.std.specs.contracts.alloc.Global.{the_row as heap_row}
use Rattle.std.proofs.alloc.Global.TheLaws as heap_laws
use Rattle.std.specs.contracts.impls.GlobalAllocator.TheImpl.{ghosts}
use Rattle.client_exports.specs.contracts.stream.Stream.{the_row as stream_row}
use Rattle.client_exports.proofs.stream.Stream.TheLaws as stream_laws

-- the allocator of the C library's heap, of which nothing but its row is used
abbrev heap : Al
heap = record { row = heap_row; laws = heap_laws.the_row_laws; g = ghosts; d = impl [] tnil dnil; drops = impl [] tnil dnil }

-- a box of a stream there
abbrev pub E : Bx
E = record { row = stream_row; laws = stream_laws.the_row_laws; al = heap }
