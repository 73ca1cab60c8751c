-- A block that enters a column's entry.
use Rattle.std.specs.Prelude.{Option, None, Some}
use Rattle.std.specs.Int.{int_min, int_max}
use Rattle.om3_coeff.specs.declared.span.Span.{Span}
use Rattle.needed_nodes.specs.declared.blocks.Block.{Block}
use Rattle.needed_nodes.specs.declared.blocks.Blocks.{Blocks}

-- the span of two ranges together
abbrev pub both_spans : Span → Span → Span
both_spans a b = record { min = int_min a.min b.min; max = int_max a.max b.max }

-- the entry with one more block behind its last one
abbrev pub with_block : Option Blocks → Block → Blocks
with_block None b = record { first = b; last = b; span = b.span }
with_block (Some bs) b = record { first = bs.first; last = b; span = both_spans bs.span b.span }
