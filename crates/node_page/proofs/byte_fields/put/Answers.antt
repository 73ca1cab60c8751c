use Rattle.std.proofs.Common.{◌≡◌, ◌∙◌, ◌+◌, ◌-◌, ◌++◌, take, drop, length, ap, arith}
use Rattle.std.proofs.lemmas.List.{drop-drop}
use Rattle.node_page.specs.Fields.{with_bytes}
use Rattle.node_page.proofs.byte_fields.put.Goals as goal

pub returns : goal.returns
unfolding with_bytes
returns c =
    let start = c.args.offset in
    let bytes = c.args.bytes.now in
    let size = start + length c.args.from.now - start in
    let sum : size ≡ length c.args.from.now = omega arith in
    ap (λ l. take start bytes ++ (l ++ drop size (drop start bytes))) c.copy_from_slice.ensures.after
    ∙ ap (λ l. take start bytes ++ (c.args.from.now ++ l)) (drop-drop size start bytes)
    ∙ ap (λ n. take start bytes ++ (c.args.from.now ++ drop (start + n) bytes)) sum
