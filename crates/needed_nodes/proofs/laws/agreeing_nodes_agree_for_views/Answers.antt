use Rattle.needed_nodes.proofs.laws.agreeing_nodes_agree_for_views.Goals as goal

pub returns : goal.returns
returns g c list axis grid lo hi agrees = record {
  values = agrees.values;
  few = agrees.few;
  slots = agrees.slots;
  root = agrees.root;
  tells = agrees.tells;
  told = λ k node stored needed. agrees.told k node stored tt;
}
