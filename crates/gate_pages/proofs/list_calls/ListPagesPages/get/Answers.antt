use Rattle.std.proofs.Common.{◌≡◌, ◌∙◌, ◌+◌, ◌-◌, ◌*◌, take, drop, ap, arith}
use Rattle.block_disk.specs.Blocks.{block_size}
use Rattle.gate_pages.proofs.list_calls.ListPagesPages.get.Goals as goal

pub returns-clause-page : goal.returns-clause-page
returns-clause-page c told =
    let start = block_size * c.args.p in
    let sum : start + block_size - start ≡ block_size = omega arith in
    c.copy_from_slice.ensures.after
    ∙ ap (λ n. take n (drop start c.as_slice-bytes.result.now)) sum
    ∙ ap (λ l. take block_size (drop start l)) c.as_slice-bytes.ensures.value
