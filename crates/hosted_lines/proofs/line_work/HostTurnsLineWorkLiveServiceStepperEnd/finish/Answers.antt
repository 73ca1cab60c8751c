use Rattle.std.proofs.Common.{[], List, ℕ, Option, refl, sym, subst}
use Rattle.std.proofs.lemmas.List.{append-nil}
use Rattle.chart_service.specs.EditGroups.{SpellEdits}
use Rattle.chart_service.specs.Shown as shown
use Rattle.line_runs.specs.Given.{End as EndOf}
use Rattle.live_service.specs.Shown as its
use Rattle.hosted_lines.specs.Doing.{held_by}
use Rattle.hosted_lines.specs.Shown.{pages}
use Rattle.hosted_lines.proofs.StandLemmas.{stand_keeps}
use Rattle.hosted_lines.proofs.line_work.HostTurnsLineWorkLiveServiceStepperEnd.finish.Goals as goal

pub returns-clause-does : goal.returns-clause-does
returns-clause-does g c = λ stand stands.
    let it = c.args.from.now in
    let edits = c.args.self.now.edits.items in
    let S : List (Option (List ℕ)) → Type 0 = λ l. SpellEdits l edits in
    stand_keeps edits (shown.IsTold (its.service it)) (its.view it) (held_by it) (g.P.Streams.sent (pages it)) EndOf [] refl
    (λ ahead. tt) edits (λ lines spell. subst S (sym (append-nil lines)) spell) stand stands
