use Rattle.std.proofs.Common.{◌≡◌, ◌∙◌, ◌+◌, ◌*◌, ◌<◌, ◌≤◌, [], length, take, drop, get_or, ap, sym, arith}
use Rattle.std.specs.Int.{w32, to_be_bytes}
use Rattle.std.proofs.lemmas.List.{length-map, get_or-map}
use Rattle.block_disk.proofs.Blocks.{length-replaced, replaced_before}
use Rattle.gate_pages.specs.Batch.{Entry, numbers}
use Rattle.gate_pages.specs.Entries.{entries}
use Rattle.gate_pages.specs.Journal.{numbers_in}
use Rattle.gate_pages.proofs.Directories.{numbers_step}
use Rattle.gate_pages.proofs.directory.put_numbers.Goals as goal

pub loop-i-preserved : goal.loop-i-preserved
loop-i-preserved c =
    let i = c.loop-i.i in
    let batch = entries c.args.batch.now in
    let block = c.loop-i.block in
    let n = c.number-number.result in
    let put = c.put_number.ensures in
    let below : i < length batch = omega (arith, c.loop-i-test.true, c.len-i-end.ensures.len) in
    let within : 12 + 4 * i + 4 ≤ length block = omega (arith, c.loop-i.invariant.whole, c.loop-i-test.true, c.len-i-end.ensures.most) in
    let there : get_or (numbers batch) i 0 ≡ n = get_or-map (λ (entry : Entry). entry.0) batch i (0, []) 0 below
    ∙ sym c.number-number.ensures in
    record {
      whole = ap length put ∙ length-replaced block (12 + 4 * i) (to_be_bytes w32 n) within ∙ c.loop-i.invariant.whole;
      so_far = ap (λ l. numbers_in l (i + 1)) put
          ∙ numbers_step block i n (numbers batch) within c.number-number.type_inv
          (omega (arith, below, length-map batch (λ (entry : Entry). entry.0))) there c.loop-i.invariant.so_far;
      front = λ at size low. ap (λ l. take size (drop at l)) put
          ∙ replaced_before block (12 + 4 * i) (to_be_bytes w32 n) at size (omega (arith, within)) (omega (arith, low))
          ∙ c.loop-i.invariant.front at size low;
    }
