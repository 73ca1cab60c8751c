use Rattle.std.proofs.Common.{◌∙◌, ◌++◌, ◌∷◌, [], refl, ap, arith}
use Rattle.block_disk.specs.View.{Nowhere}
use Rattle.block_disk.specs.declared.mem_disk.Call.TheVariants.{Asked}
use Rattle.block_disk.proofs.MemMoves.{moves_quiet}
use Rattle.block_disk.proofs.mem_calls.MemDiskDisk.blocks.Goals as goal

pub returns-clause-moves : goal.returns-clause-moves
returns-clause-moves c =
    let self = c.args.self.now in
    let note = c.note.new.self in
    moves_quiet Nowhere self.blocks note.blocks self.record.items note.record.items Asked self.bytes.items note.bytes.items self.faults
    note.faults self.reads note.reads self.syncs note.syncs self.writes note.writes 0 0 0
    (λ image. refl) (λ number pending. pending)
    (c.in_ok-note.ensures.ok ∙ ap (λ l. l ++ Asked ∷ []) c.begin.ensures.record)
    (c.note.ensures.bytes ∙ c.begin.ensures.bytes)
    (c.note.ensures.blocks ∙ c.begin.ensures.blocks)
    (omega (arith, c.note.ensures.faults, c.begin.ensures.faults))
    (record {
      low = omega (arith, c.note.ensures.reads, c.begin.ensures.reads);
      high = omega (arith, c.note.ensures.reads, c.begin.ensures.reads);
    })
    (record {
      low = omega (arith, c.note.ensures.syncs, c.begin.ensures.syncs);
      high = omega (arith, c.note.ensures.syncs, c.begin.ensures.syncs);
    })
    (record {
      low = omega (arith, c.note.ensures.writes, c.begin.ensures.writes);
      high = omega (arith, c.note.ensures.writes, c.begin.ensures.writes);
    })
