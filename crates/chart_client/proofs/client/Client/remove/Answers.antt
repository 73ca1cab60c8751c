use Rattle.std.proofs.Common.{◌≡◌, ◌∙◌, ap, rules}
use Rattle.std.proofs.lemmas.Fn.{filter_same}
use Rattle.chart_client.specs.Holdings.{without}
use Rattle.chart_client.proofs.client.Client.remove.Goals as goal

pub returns : goal.returns
returns c =
    let kept : c.retain.new.self.items ≡ without c.args.number c.self.inside.holdings.items =
    filter_same _ _ _ (λ x b f' k. search rules) _ _ c.retain.ensures.filtered in
    kept ∙ ap (without c.args.number) c.self.view_is
