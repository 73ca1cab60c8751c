use Rattle.std.proofs.Common.{◌∙◌, ap, sym}
use Rattle.block_disk.specs.Tear.{torn}
use Rattle.block_disk.proofs.tear.torn_block.Goals as goal

pub returns-in_ok-vec-in-Junk-clause-block : goal.returns-in_ok-vec-in-Junk-clause-block
returns-in_ok-vec-in-Junk-clause-block c =
    c.in_ok-vec-in-Junk.ensures.items_if_clones_equal (λ y same. same)
    ∙ ap (λ t. torn t c.args.old.now c.args.new.now) (sym c.in-Junk.is)
