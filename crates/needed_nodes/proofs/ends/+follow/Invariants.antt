use Rattle.needed_nodes.proofs.ends.+follow.Given as goal

abbrev pub decreases-follow : goal.decreases-follow
decreases-follow g l = l.key.level
