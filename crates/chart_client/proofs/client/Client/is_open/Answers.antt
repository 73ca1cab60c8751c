use Rattle.std.proofs.Common.{◌∙◌}
use Rattle.chart_client.proofs.Places.{open_is}
use Rattle.chart_client.proofs.client.Client.is_open.Goals as goal

pub returns : goal.returns
returns c = c.is_some.ensures ∙ open_is c.args.number c.args.self.now c.place_of.result c.place_of.ensures
