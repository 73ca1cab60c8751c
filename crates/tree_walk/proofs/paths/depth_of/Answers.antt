use Rattle.std.proofs.Common.{◌≡◌, ◌∙◌, arith}
use Rattle.om3_coeff.specs.Keys.{page_levels}
use Rattle.node_page.specs.Places.{page_level}
use Rattle.tree_walk.proofs.PathLemmas.{level_few}
use Rattle.tree_walk.proofs.paths.depth_of.Goals as goal

pub overflow_sub-result : goal.overflow_sub-result
overflow_sub-result c =
    let levels : c.from.result ≡ page_levels c.args.tree.slots = c.from.ensures ∙ c.page_levels.ensures.levels in
    let own : c.from-2.result ≡ page_level c.args.key.level = c.from-2.ensures ∙ c.page_level.ensures.level in
    omega (arith, levels, own, level_few c.args.key.level (page_levels c.args.tree.slots) c.requires.key.high)
