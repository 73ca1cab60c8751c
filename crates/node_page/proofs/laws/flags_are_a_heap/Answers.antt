use Rattle.node_page.proofs.Blank.{flag_above, child_flag}
use Rattle.node_page.proofs.laws.flags_are_a_heap.Goals as goal

pub returns-clause-nodes : goal.returns-clause-nodes
returns-clause-nodes c = flag_above

pub returns-clause-children : goal.returns-clause-children
returns-clause-children c = child_flag
