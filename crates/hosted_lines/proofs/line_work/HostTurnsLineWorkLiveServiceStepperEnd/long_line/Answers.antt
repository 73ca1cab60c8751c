use Rattle.std.proofs.Common.{None, refl}
use Rattle.chart_service.specs.Shown as shown
use Rattle.line_runs.specs.Given.{Line}
use Rattle.live_service.specs.Shown as its
use Rattle.hosted_lines.specs.Doing.{held_by}
use Rattle.hosted_lines.specs.Shown.{pages}
use Rattle.hosted_lines.proofs.CountLemmas.{by_other}
use Rattle.hosted_lines.proofs.StandLemmas.{stand_does, stand_leaves, stand_stops}
use Rattle.hosted_lines.proofs.line_work.HostTurnsLineWorkLiveServiceStepperEnd.long_line.Goals as goal

pub returns-clause-does : goal.returns-clause-does
returns-clause-does g c = λ stand stands.
    let it = c.args.from.now in
    let new = c.refuse_long.new.live in
    let sent = g.P.Streams.sent in
    let edits = c.args.self.now.edits.items in
    let e = c.refuse_long.ensures in
    stand_does edits (shown.IsTold (its.service it)) (its.view it) (held_by it) (sent (pages it)) (Line c.args.at None) c.refuse_long.result
    (its.view new) (held_by new) (sent (pages new)) e.does
    (shown.IsTold (its.service new)) e.goes.is_told c.refuse_long.new.turns.edits.items e.none
    (λ lines spell. by_other lines edits spell None refl refl) e.idle e.sends stand stands

pub returns-clause-stops : goal.returns-clause-stops
returns-clause-stops g c = λ stand stands.
    let it = c.args.from.now in
    let new = c.refuse_long.new.live in
    let sent = g.P.Streams.sent in
    stand_stops c.args.self.now.edits.items (shown.IsTold (its.service it)) (its.view it) (held_by it) (sent (pages it))
    (Line c.args.at None) c.refuse_long.result (its.view new) (held_by new) (sent (pages new)) c.refuse_long.ensures.does
    (shown.IsTold (its.service new)) c.refuse_long.ensures.blames stand stands

pub returns-clause-leaves : goal.returns-clause-leaves
returns-clause-leaves g c = λ stand stands lasting.
    let it = c.args.from.now in
    let new = c.refuse_long.new.live in
    let sent = g.P.Streams.sent in
    stand_leaves c.args.self.now.edits.items (shown.IsTold (its.service it)) (its.view it) (held_by it) (sent (pages it))
    (Line c.args.at None) c.refuse_long.result (its.view new) (held_by new) (sent (pages new)) c.refuse_long.ensures.does
    stand stands lasting
