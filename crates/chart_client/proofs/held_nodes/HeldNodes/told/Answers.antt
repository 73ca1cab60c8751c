use Rattle.std.proofs.Common.{◌∙◌, sym, refl}
use Rattle.std.specs.Prelude.{Some, None}
use Rattle.coefficient_cache.specs.Pairs.{series_key, coefficient_at}
use Rattle.chart_client.proofs.Entries.{told_either}
use Rattle.chart_client.proofs.held_nodes.HeldNodes.told.Goals as goal

pub returns-in-Some : goal.returns-in-Some
returns-in-Some c =
    let series = c.args.self.now.series in let key = c.args.key in
    told_either series c.args.self.now.sent.now c.args.self.now.cache.now key (Some c.in-Some.coef)
    (coefficient_at c.args.self.now.cache.now.pairs (series_key series key)) (Some c.in-Some.coef)
    refl (sym c.in-Some.is ∙ c.look_up-sent.ensures.found series) refl

pub returns-in-None : goal.returns-in-None
returns-in-None c =
    let series = c.args.self.now.series in
    told_either series c.args.self.now.sent.now c.args.self.now.cache.now c.args.key None c.find_near-held.result.0
    c.find_near-held.result.0
    refl (sym c.in-None.is ∙ c.look_up-sent.ensures.found series) c.find_near-held.ensures
