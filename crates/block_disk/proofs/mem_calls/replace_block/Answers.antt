use Rattle.std.proofs.Common.{◌∙◌, ap}
use Rattle.block_disk.specs.MemDisk.{blocks_of}
use Rattle.block_disk.proofs.Blocks.{blocks_put}
use Rattle.block_disk.proofs.mem_calls.replace_block.Goals as goal

pub returns-clause-put : goal.returns-clause-put
returns-clause-put c = ap (λ l. blocks_of l) c.replace.ensures.replaced
    ∙ blocks_put c.args.bytes.now.items c.args.no c.args.block.now c.requires.whole c.requires.within
