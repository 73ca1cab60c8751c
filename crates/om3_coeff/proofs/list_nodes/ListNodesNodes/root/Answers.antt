use Rattle.std.proofs.Common.{length}
use Rattle.om3_coeff.proofs.ListLemmas.{proper_at}
use Rattle.om3_coeff.proofs.list_nodes.ListNodesNodes.root.Goals as goal

pub returns-clause-proper : goal.returns-clause-proper
returns-clause-proper c = λ few.
    proper_at c.args.self.now.slots.now 0 (length c.args.self.now.slots.now) c.args.self.now.root c.args.self.now.values
    c.args.self.now.whole
