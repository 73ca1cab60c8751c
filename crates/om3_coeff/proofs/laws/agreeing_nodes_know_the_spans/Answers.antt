use Rattle.om3_coeff.proofs.KnownLemmas.{agrees_known}
use Rattle.om3_coeff.proofs.laws.agreeing_nodes_know_the_spans.Goals as goal

pub returns : goal.returns
returns g c = λ list agrees k key. agrees_known (g.N.Nodes.view c.args.nodes.now) list k agrees key
