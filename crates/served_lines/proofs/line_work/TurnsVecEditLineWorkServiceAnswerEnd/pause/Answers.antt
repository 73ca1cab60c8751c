use Rattle.std.proofs.Common.{◌≤◌, length, refl, arith}
use Rattle.line_runs.specs.Given.{Pause}
use Rattle.chart_service.specs.Shown as shown
use Rattle.served_lines.proofs.KeepLemmas.{none_spelled}
use Rattle.served_lines.proofs.OtherLemmas.{group_leaves, group_stops, pause_does}
use Rattle.served_lines.proofs.line_work.TurnsVecEditLineWorkServiceAnswerEnd.pause.Goals as goal

pub returns-clause-does : goal.returns-clause-does
returns-clause-does g c = λ stand stands.
    let it = c.args.from.now in
    let turns = c.args.self.now in
    let new = c.settle.new.service in
    let next = c.settle.new.turns in
    pause_does g.R.Reply.makes turns.kept.ghost_name turns.kept.now turns.edits.items (shown.IsTold it) (shown.view it) (shown.sessions it)
    (g.P.Streams.sent (shown.pages it)) next.kept.ghost_name c.settle.ensures.same_reference next.kept.now next.edits.items (shown.IsTold
    new)
    (shown.view new) (shown.sessions new) (g.P.Streams.sent (shown.pages new))
    c.settle.result stand stands (none_spelled next.edits.items c.settle.ensures.none) c.settle.ensures.blames c.settle.ensures.done

pub returns-clause-stops : goal.returns-clause-stops
returns-clause-stops g c = λ stand stands.
    let it = c.args.from.now in
    let turns = c.args.self.now in
    let new = c.settle.new.service in
    let next = c.settle.new.turns in
    let few : length turns.edits.items ≤ 64 = omega (arith, c.requires.fit.few) in
    group_stops g.R.Reply.makes turns.kept.ghost_name turns.kept.now turns.edits.items (shown.IsTold it) (shown.view it) (shown.sessions it)
    (g.P.Streams.sent (shown.pages it)) next.kept.ghost_name c.settle.ensures.same_reference next.kept.now next.edits.items (shown.IsTold
    new)
    (shown.view new) (shown.sessions new) (g.P.Streams.sent (shown.pages new))
    c.settle.result stand Pause 0 refl (omega arith) few stands c.settle.ensures.gives c.settle.ensures.blames c.settle.ensures.stops

pub returns-clause-leaves : goal.returns-clause-leaves
returns-clause-leaves g c = λ stand stands lasting.
    let it = c.args.from.now in
    let turns = c.args.self.now in
    let new = c.settle.new.service in
    let next = c.settle.new.turns in
    let few : length turns.edits.items ≤ 64 = omega (arith, c.requires.fit.few) in
    group_leaves g.R.Reply.makes turns.kept.ghost_name turns.kept.now turns.edits.items (shown.IsTold it) (shown.view it) (shown.sessions
    it)
    (g.P.Streams.sent (shown.pages it)) next.kept.ghost_name c.settle.ensures.same_reference next.kept.now next.edits.items (shown.IsTold
    new)
    (shown.view new) (shown.sessions new) (g.P.Streams.sent (shown.pages new))
    stand Pause few stands lasting c.settle.ensures.moments
