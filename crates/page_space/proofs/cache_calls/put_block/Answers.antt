use Rattle.std.proofs.Common.{◌≡◌, ◌∙◌, ◌+◌, ◌-◌, ◌*◌, ◌++◌, take, drop, length, ap, arith}
use Rattle.std.proofs.lemmas.List.{drop-drop}
use Rattle.block_disk.proofs.Blocks.{blocks_put}
use Rattle.block_disk.specs.Blocks.{block_size}
use Rattle.block_disk.specs.MemDisk.{blocks_of, replaced}
use Rattle.page_space.proofs.cache_calls.put_block.Goals as goal

pub returns-clause-put : goal.returns-clause-put
unfolding replaced
returns-clause-put c =
    let start = block_size * c.args.at in
    let bytes = c.args.bytes.now in
    let block = c.args.block.now in
    let size = start + block_size - start in
    let sum : size ≡ length block = omega (arith, c.requires.whole) in
    ap (λ l. blocks_of (take start bytes ++ (l ++ drop size (drop start bytes)))) c.copy_from_slice.ensures.after
    ∙ ap (λ l. blocks_of (take start bytes ++ (block ++ l))) (drop-drop size start bytes)
    ∙ ap (λ n. blocks_of (take start bytes ++ (block ++ drop (start + n) bytes))) sum
    ∙ blocks_put bytes c.args.at block c.requires.whole c.requires.within
