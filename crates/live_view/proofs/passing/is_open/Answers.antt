use Rattle.std.proofs.Common.{◌∙◌, ap, is_some}
use Rattle.live_view.proofs.OpenLemmas.{open-cache}
use Rattle.live_view.proofs.passing.is_open.Goals as goal

pub returns : goal.returns
returns g c = c.is_some.ensures ∙ ap is_some c.cache.ensures.cache ∙ open-cache c.args.session (g.S.Stepper.sessions c.args.stepper.now)
