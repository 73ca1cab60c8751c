use Rattle.std.proofs.Common.{◌∙◌, ◌++◌, ◌∷◌, [], refl, ap, arith}
use Rattle.block_disk.specs.View.{Nowhere}
use Rattle.block_disk.specs.declared.mem_disk.Call.TheVariants.{Synced}
use Rattle.block_disk.proofs.MemMoves.{moves_quiet, only_synced}
use Rattle.block_disk.proofs.mem_calls.MemDiskDisk.sync.Goals as goal

pub returns-clause-moves : goal.returns-clause-moves
returns-clause-moves c =
    let self = c.args.self.now in
    let note = c.note.new.self in
    moves_quiet Nowhere self.blocks note.blocks self.record.items note.record.items Synced self.bytes.items note.bytes.items self.faults
    note.faults self.reads note.reads self.syncs note.syncs self.writes note.writes 0 1 0
    (λ image. refl) (λ number pending. pending)
    (c.in_ok-note.ensures.ok ∙ ap (λ l. l ++ Synced ∷ []) c.begin.ensures.record)
    (c.note.ensures.bytes ∙ c.begin.ensures.bytes)
    (c.note.ensures.blocks ∙ c.begin.ensures.blocks)
    (omega (arith, c.note.ensures.faults, c.begin.ensures.faults))
    (record {
      low = omega (arith, c.note.ensures.reads, c.begin.ensures.reads);
      high = omega (arith, c.note.ensures.reads, c.begin.ensures.reads);
    })
    (record {
      low = omega (arith, c.note.ensures.syncs, c.begin.ensures.syncs, c.count_one.ensures.low);
      high = omega (arith, c.note.ensures.syncs, c.begin.ensures.syncs, c.count_one.ensures.high);
    })
    (record {
      low = omega (arith, c.note.ensures.writes, c.begin.ensures.writes);
      high = omega (arith, c.note.ensures.writes, c.begin.ensures.writes);
    })

pub returns-clause-durable : goal.returns-clause-durable
returns-clause-durable c =
    let note = c.note.new.self in
    only_synced note.blocks c.begin.new.self.record.items note.record.items note.bytes.items note.faults note.reads note.syncs note.writes
    c.in_ok-note.ensures.ok
