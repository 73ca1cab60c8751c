use Rattle.std.proofs.Common.{◌≡◌, ◌∙◌, ◌-◌, ◌*◌, take, drop, replicate, ap, arith}
use Rattle.std.proofs.lemmas.List.{take-replicate, drop-replicate}
use Rattle.std.proofs.Math.Nat.{mul-le-mul_left}
use Rattle.block_disk.specs.Blocks.{block_size}
use Rattle.gate_pages.proofs.list_pages.ListPages.new.Goals as goal

pub returns-clause-zero : goal.returns-clause-zero
returns-clause-zero c number below =
    let all = block_size * c.args.count in
    let start = block_size * number in
    let zero : c.in_ok-bytes.bytes.items ≡ replicate all 0 = c.in_ok-bytes.ensures.items_if_clones_equal (λ y same. same) in
    ap (λ l. take block_size (drop start l)) zero
    ∙ ap (λ l. take block_size l) (drop-replicate start all 0)
    ∙ take-replicate block_size (all - start) 0 (omega (arith, mul-le-mul_left block_size below))
