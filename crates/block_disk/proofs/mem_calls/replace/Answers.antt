use Rattle.std.proofs.Common.{◌≡◌, ◌∙◌, length, ap}
use Rattle.block_disk.specs.MemDisk.{replaced}
use Rattle.block_disk.proofs.Blocks.{all_of, length-replaced}
use Rattle.block_disk.proofs.mem_calls.replace.Goals as goal

pub returns : goal.returns
returns c =
    let bytes = c.args.bytes.now in
    let written = c.replace_in.ensures ∙ ap (λ l. replaced l c.args.start c.args.from.now) c.as_mut_slice.ensures.value in
    let same : length c.replace_in.new.bytes ≡ length bytes.items = ap length written
    ∙ length-replaced bytes.items c.args.start c.args.from.now c.requires in
    let all = all_of c.replace_in.new.bytes bytes.items bytes.len same bytes.ok.0 in
    record {
      replaced = all ∙ written;
      len = ap length all ∙ same;
    }
