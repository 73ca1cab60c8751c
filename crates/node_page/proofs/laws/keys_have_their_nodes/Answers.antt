use Rattle.node_page.proofs.KeyPlaces.{node_few, every_node, level_of_top, level_above, top_index, top_node, same_page, node_below}
use Rattle.node_page.proofs.KeyPlaces.{index_above, node_above, one_key}
use Rattle.node_page.proofs.laws.keys_have_their_nodes.Goals as goal

pub returns-clause-within : goal.returns-clause-within
returns-clause-within c = λ k low. node_few k

pub returns-clause-every_node : goal.returns-clause-every_node
returns-clause-every_node c = every_node

pub returns-clause-top_node : goal.returns-clause-top_node
returns-clause-top_node c = λ k p is low. (level_of_top k.level p is, top_index k p is, top_node k p is)

pub returns-clause-same_page : goal.returns-clause-same_page
returns-clause-same_page c = λ k low same. same_page k same

pub returns-clause-node_below : goal.returns-clause-node_below
returns-clause-node_below c = λ k low same. node_below k same

pub returns-clause-page_above : goal.returns-clause-page_above
returns-clause-page_above c = λ k p is low. (level_above k.level p is, index_above k p is, node_above k p is)

pub returns-clause-one_key : goal.returns-clause-one_key
returns-clause-one_key c = λ k l low low' level page node. one_key k l level page node
