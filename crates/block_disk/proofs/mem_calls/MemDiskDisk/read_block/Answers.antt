use Rattle.std.proofs.Common.{◌≡◌, ◌∙◌, ◌+◌, ◌-◌, ◌*◌, ◌++◌, ◌∷◌, [], take, drop, refl, ap, arith}
use Rattle.block_disk.specs.Blocks.{block_size}
use Rattle.block_disk.specs.View.{Nowhere}
use Rattle.block_disk.specs.declared.mem_disk.Call.TheVariants.{Asked}
use Rattle.block_disk.proofs.MemMoves.{moves_quiet}
use Rattle.block_disk.proofs.mem_calls.MemDiskDisk.read_block.Goals as goal

pub returns-clause-moves : goal.returns-clause-moves
returns-clause-moves c =
    let self = c.args.self.now in
    let note = c.note.new.self in
    moves_quiet Nowhere self.blocks note.blocks self.record.items note.record.items Asked self.bytes.items note.bytes.items self.faults
    note.faults self.reads note.reads self.syncs note.syncs self.writes note.writes 1 0 0
    (λ image. refl) (λ number pending. pending)
    (c.in_ok-note.ensures.ok ∙ ap (λ l. l ++ Asked ∷ []) c.begin.ensures.record)
    (c.note.ensures.bytes ∙ c.begin.ensures.bytes)
    (c.note.ensures.blocks ∙ c.begin.ensures.blocks)
    (omega (arith, c.note.ensures.faults, c.begin.ensures.faults))
    (record {
      low = omega (arith, c.note.ensures.reads, c.begin.ensures.reads, c.count_one.ensures.low);
      high = omega (arith, c.note.ensures.reads, c.begin.ensures.reads, c.count_one.ensures.high);
    })
    (record {
      low = omega (arith, c.note.ensures.syncs, c.begin.ensures.syncs);
      high = omega (arith, c.note.ensures.syncs, c.begin.ensures.syncs);
    })
    (record {
      low = omega (arith, c.note.ensures.writes, c.begin.ensures.writes);
      high = omega (arith, c.note.ensures.writes, c.begin.ensures.writes);
    })

pub returns-clause-bytes : goal.returns-clause-bytes
returns-clause-bytes c _ =
    let start = block_size * c.args.no in
    let sum : start + block_size - start ≡ block_size = omega arith in
    c.copy_from_slice.ensures.after
    ∙ ap (λ n. take n (drop start c.as_slice-bytes.result.now)) sum
    ∙ ap (λ l. take block_size (drop start l)) (c.as_slice-bytes.ensures.value ∙ c.note.ensures.bytes ∙ c.begin.ensures.bytes)
