use Rattle.std.proofs.Common.{◌∙◌, ◌+◌, ◌*◌, ◌<◌, ◌≤◌, [], get_or, take, length, ap, arith}
use Rattle.std.proofs.Math.Nat.{mul-le-mul_left}
use Rattle.block_disk.specs.Blocks.{block_size}
use Rattle.block_disk.specs.MemDisk.{put, blocks_of, replaced}
use Rattle.block_disk.specs.View.{Image}
use Rattle.block_disk.proofs.Blocks.{blocks_put, length-replaced}
use Rattle.gate_pages.specs.Batch.{Entry, put_all, numbers}
use Rattle.gate_pages.specs.Entries.{entries}
use Rattle.gate_pages.proofs.Puts.{put_step, one_of_at, below_from_all, numbers_below}
use Rattle.gate_pages.proofs.list_calls.put_pages.Goals as goal

pub replace-requires : goal.replace-requires
replace-requires c =
    let batch = entries c.args.batch.now in
    let i = c.loop-i.i in
    let below : i < length batch = omega (arith, c.loop-i-test.true, c.len-i-end.ensures.len) in
    let less = below_from_all c.args.count (numbers batch) (get_or batch i (0, [])).0 (numbers_below c.args.count batch c.requires.below)
    (one_of_at batch i below) in
    let n = c.page-page.result.now.number in
    let same : n < c.args.count = omega (arith, less, ap (λ (e : Entry). e.0) c.page-page.ensures) in
    omega (
      arith,
      mul-le-mul_left block_size same,
      c.loop-i.invariant.whole,
      c.as_slice.ensures.len,
      c.page-page.result.now.whole,
      ap length c.as_slice.ensures.value,
    )

pub loop-i-preserved : goal.loop-i-preserved
loop-i-preserved c =
    let batch = entries c.args.batch.now in
    let i = c.loop-i.i in
    let bytes = c.loop-i.bytes in
    let below : i < length batch = omega (arith, c.loop-i-test.true, c.len-i-end.ensures.len) in
    let less = below_from_all c.args.count (numbers batch) (get_or batch i (0, [])).0 (numbers_below c.args.count batch c.requires.below)
    (one_of_at batch i below) in
    let n = c.page-page.result.now.number in
    let page = c.page-page.result.now.bytes.items in
    let same : n < c.args.count = omega (arith, less, ap (λ (e : Entry). e.0) c.page-page.ensures) in
    let within : block_size * n + block_size ≤ length bytes = omega (arith, mul-le-mul_left block_size same, c.loop-i.invariant.whole) in
    let is = c.replace.ensures ∙ ap (λ l. replaced bytes (block_size * n) l) c.as_slice.ensures.value in
    record {
      whole = ap length is ∙ length-replaced bytes (block_size * n) page (omega (arith, within, c.page-page.result.now.whole))
          ∙ c.loop-i.invariant.whole;
      so_far = ap (λ l. blocks_of l) is
          ∙ blocks_put bytes n page c.page-page.result.now.whole within
          ∙ ap (λ (m : Image). put n page m) c.loop-i.invariant.so_far
          ∙ ap (λ (e : Entry). put e.0 e.1 (put_all (take i batch) (blocks_of c.args.bytes.now))) c.page-page.ensures
          ∙ put_step batch i (blocks_of c.args.bytes.now) below c.args.batch.now.distinct;
    }
