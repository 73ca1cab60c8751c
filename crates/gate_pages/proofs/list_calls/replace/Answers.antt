use Rattle.std.proofs.Common.{◌≡◌, ◌∙◌, ◌+◌, ◌-◌, ◌++◌, take, drop, length, ap, arith}
use Rattle.std.proofs.lemmas.List.{drop-drop}
use Rattle.block_disk.specs.MemDisk.{replaced}
use Rattle.gate_pages.proofs.list_calls.replace.Goals as goal

pub returns : goal.returns
unfolding replaced
returns c =
    let start = c.args.start in
    let bytes = c.args.bytes.now in
    let size = start + length c.args.from.now - start in
    let sum : size ≡ length c.args.from.now = omega arith in
    ap (λ l. take start bytes ++ (l ++ drop size (drop start bytes))) c.copy_from_slice.ensures.after
    ∙ ap (λ l. take start bytes ++ (c.args.from.now ++ l)) (drop-drop size start bytes)
    ∙ ap (λ n. take start bytes ++ (c.args.from.now ++ drop (start + n) bytes)) sum
