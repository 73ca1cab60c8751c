use Rattle.needed_nodes.proofs.finding.+find_blocks.Given as goal

abbrev pub decreases-find_blocks : goal.decreases-find_blocks
decreases-find_blocks g l = l.key.level
