use Rattle.std.proofs.Common.{◌∙◌, sym, ap}
use Rattle.std.specs.Prelude.{Option}
use Rattle.chart_client.specs.declared.holding.Holding.{Holding}
use Rattle.chart_client.specs.Held.{held_by}
use Rattle.chart_client.proofs.Places.{IsAt, at_held, at_none, held_at}
use Rattle.chart_client.proofs.client.Client.held.Goals as goal

pub returns-in_default : goal.returns-in_default
returns-in_default c =
    sym (ap (λ (o : Option Holding). held_by o c.args.series c.args.key)
    (at_none c.args.session c.args.self.now (sym c.place_of.ensures ∙ c.in_default.is)))

pub returns : goal.returns
returns c =
    let at : IsAt c.args.session c.args.self.now c.in-Some.place c.index.result.now =
    at_held c.args.session c.self.inside.holdings.items c.args.self.now c.in-Some.place c.index.result.now c.self.view_is
    (sym c.place_of.ensures ∙ c.in-Some.is) c.index.ensures in
    c.find.ensures ∙ sym (ap (λ (o : Option Holding). held_by o c.args.series c.args.key)
    (held_at c.args.session c.args.self.now c.in-Some.place c.index.result.now at))
