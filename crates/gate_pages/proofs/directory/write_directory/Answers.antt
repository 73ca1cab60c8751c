use Rattle.std.proofs.Common.{◌≡◌, ◌∙◌, ◌<◌, ◌^◌, length, take, drop, ap, arith}
use Rattle.std.specs.Int.{w32, to_be_bytes}
use Rattle.block_disk.specs.Blocks.{IsBlock}
use Rattle.block_disk.proofs.Blocks.{length-replaced, replaced_before, replaced_there}
use Rattle.gate_pages.specs.Batch.{numbers}
use Rattle.gate_pages.specs.Entries.{entries}
use Rattle.gate_pages.specs.Journal.{magic, number_at}
use Rattle.gate_pages.proofs.Directories.{keeps, number_there, number_same}
use Rattle.gate_pages.proofs.directory.write_directory.Goals as goal

pub returns : goal.returns
returns c count below =
    let batch = entries c.args.batch.now in
    let many = c.len.result in
    let filled = c.fill.new.self in
    let marked = c.put_bytes.new.block in
    let counted = c.put_number.new.block in
    let done = c.put_numbers.new.block in
    let filled_len : IsBlock filled = omega (arith, c.fill.ensures.len, c.requires.whole) in
    let marked_len : IsBlock marked = ap length c.put_bytes.ensures ∙ length-replaced filled 0 magic (omega (arith, filled_len))
    ∙ filled_len in
    let front : take 8 done ≡ magic =
    c.put_numbers.ensures.front 0 8 (omega arith)
    ∙ ap (λ l. take 8 (drop 0 l)) c.put_number.ensures
    ∙ replaced_before marked 8 (to_be_bytes w32 many) 0 8 (omega (arith, marked_len)) (omega arith)
    ∙ ap (λ l. take 8 (drop 0 l)) c.put_bytes.ensures
    ∙ replaced_there filled 0 magic (omega arith) in
    let small : many < 2 ^ 32 = omega (arith, c.len.ensures.most) in
    let told : number_at done 8 ≡ many =
    number_same counted done 8 (c.put_numbers.ensures.front 8 4 (omega arith))
    ∙ ap (λ l. number_at l 8) c.put_number.ensures
    ∙ number_there marked 8 many (omega (arith, marked_len)) small in
    let same : many ≡ length batch = c.len.ensures.len in
    keeps count (length batch) done (numbers batch) front (told
    ∙ same) (omega (arith, same, c.len.ensures.most)) c.put_numbers.ensures.numbers below c.args.batch.now.distinct
