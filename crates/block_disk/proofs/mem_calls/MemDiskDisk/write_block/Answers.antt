use Rattle.std.proofs.Common.{◌≡◌, ◌∙◌, ◌+◌, ◌-◌, ◌*◌, ◌≤◌, ◌++◌, ◌∷◌, [], take, drop, length, ap, arith}
use Rattle.std.proofs.Math.Nat.{mul-le-mul_left}
use Rattle.block_disk.specs.Blocks.{block_size}
use Rattle.block_disk.specs.MemDisk.{blocks_of, replaced}
use Rattle.block_disk.specs.declared.mem_disk.Call.TheVariants.{Wrote}
use Rattle.block_disk.proofs.Blocks.{block_there, block_other}
use Rattle.block_disk.proofs.MemMoves.{moves_wrote}
use Rattle.block_disk.proofs.mem_calls.MemDiskDisk.write_block.Goals as goal

pub returns-in_err-begun-3-clause-moves : goal.returns-in_err-begun-3-clause-moves
returns-in_err-begun-3-clause-moves c =
    let self = c.args.self.now in
    let note = c.keep.new.self in
    let one = c.args.no in
    let start = block_size * one in
    let sum : start + block_size - start ≡ block_size = omega arith in
    let was = c.in-Ok.ensures.items
    ∙ ap (λ n. take n (drop start c.as_slice-bytes.result.now)) sum
    ∙ ap (λ l. take block_size (drop start l)) (c.as_slice-bytes.ensures.value ∙ c.begin-begun.ensures.bytes) in
    let same = c.keep.ensures.bytes ∙ c.begin-begun.ensures.bytes in
    moves_wrote one self.blocks note.blocks self.record.items note.record.items c.in-Ok.block self.bytes.items note.bytes.items self.faults
    note.faults self.reads note.reads self.syncs note.syncs self.writes note.writes 0 0 1
    was
    (λ number other. ap (λ l. blocks_of l number) same)
    (c.in-Ok-keep.ensures.ok ∙ ap (λ l. l ++ Wrote one c.in-Ok.block ∷ []) c.begin-begun.ensures.record)
    (c.keep.ensures.blocks ∙ c.begin-begun.ensures.blocks)
    (omega (arith, c.keep.ensures.faults, c.begin-begun.ensures.faults))
    (record {
      low = omega (arith, c.keep.ensures.reads, c.begin-begun.ensures.reads);
      high = omega (arith, c.keep.ensures.reads, c.begin-begun.ensures.reads);
    })
    (record {
      low = omega (arith, c.keep.ensures.syncs, c.begin-begun.ensures.syncs);
      high = omega (arith, c.keep.ensures.syncs, c.begin-begun.ensures.syncs);
    })
    (record {
      low = omega (arith, c.keep.ensures.writes, c.begin-begun.ensures.writes, c.count_one.ensures.low);
      high = omega (arith, c.keep.ensures.writes, c.begin-begun.ensures.writes, c.count_one.ensures.high);
    })

pub returns-clause-moves : goal.returns-clause-moves
returns-clause-moves c =
    let self = c.args.self.now in
    let note = c.keep.new.self in
    let one = c.args.no in
    let start = block_size * one in
    let sum : start + block_size - start ≡ block_size = omega arith in
    let was = c.in-Ok.ensures.items
    ∙ ap (λ n. take n (drop start c.as_slice-bytes.result.now)) sum
    ∙ ap (λ l. take block_size (drop start l)) (c.as_slice-bytes.ensures.value ∙ c.begin-begun.ensures.bytes) in
    let same = c.keep.ensures.bytes ∙ c.begin-begun.ensures.bytes in
    let written = c.replace.ensures.replaced ∙ ap (λ l. replaced l start c.args.from.now) same in
    let within : start + block_size ≤ length self.bytes.items = omega (
      arith,
      self.within,
      c.requires.no_in_size,
      mul-le-mul_left block_size c.requires.no_in_size,
    ) in
    moves_wrote one self.blocks note.blocks self.record.items note.record.items c.in-Ok.block self.bytes.items c.replace.new.bytes.items
    self.faults note.faults self.reads note.reads self.syncs note.syncs self.writes note.writes 0 0 1
    was
    (λ number other. ap (λ l. blocks_of l number) written
    ∙ block_other self.bytes.items one c.args.from.now number c.requires.whole within other)
    (c.in-Ok-keep.ensures.ok ∙ ap (λ l. l ++ Wrote one c.in-Ok.block ∷ []) c.begin-begun.ensures.record)
    (c.keep.ensures.blocks ∙ c.begin-begun.ensures.blocks)
    (omega (arith, c.keep.ensures.faults, c.begin-begun.ensures.faults))
    (record {
      low = omega (arith, c.keep.ensures.reads, c.begin-begun.ensures.reads);
      high = omega (arith, c.keep.ensures.reads, c.begin-begun.ensures.reads);
    })
    (record {
      low = omega (arith, c.keep.ensures.syncs, c.begin-begun.ensures.syncs);
      high = omega (arith, c.keep.ensures.syncs, c.begin-begun.ensures.syncs);
    })
    (record {
      low = omega (arith, c.keep.ensures.writes, c.begin-begun.ensures.writes, c.count_one.ensures.low);
      high = omega (arith, c.keep.ensures.writes, c.begin-begun.ensures.writes, c.count_one.ensures.high);
    })

pub returns-clause-written : goal.returns-clause-written
returns-clause-written c _ =
    let self = c.args.self.now in
    let one = c.args.no in
    let start = block_size * one in
    let same = c.keep.ensures.bytes ∙ c.begin-begun.ensures.bytes in
    let written = c.replace.ensures.replaced ∙ ap (λ l. replaced l start c.args.from.now) same in
    let within : start + block_size ≤ length self.bytes.items = omega (
      arith,
      self.within,
      c.requires.no_in_size,
      mul-le-mul_left block_size c.requires.no_in_size,
    ) in
    ap (λ l. blocks_of l one) written ∙ block_there self.bytes.items one c.args.from.now c.requires.whole within
