use Rattle.std.proofs.Common.{refl}
use Rattle.series_store.specs.Shown as shown
use Rattle.retain_command.proofs.WorkLemmas.{long_stops}
use Rattle.retain_command.proofs.rule_work.RuleWorkLineWorkStoreEnd.long_line.Goals as goal

pub returns-clause-stops : goal.returns-clause-stops
returns-clause-stops g c = λ held stands.
    let at = c.args.from.now in
    (long_stops (shown.IsTold at) held c.args.at (shown.view at) (g.P.Streams.sent (shown.pages at)) stands, (refl, refl))
