use Rattle.std.proofs.Common.{◌≤◌, Some, Result, Err, length, refl, arith}
use Rattle.line_runs.specs.Given.{Line}
use Rattle.chart_service.specs.Shown as shown
use Rattle.chart_service.specs.declared.failure.AnswerEnd.{AnswerEnd}
use Rattle.served_lines.proofs.OtherLemmas.{group_leaves, group_stops, line_does, line_leaves, line_stops, other_counted}
use Rattle.served_lines.proofs.Steps.{said_some}
use Rattle.served_lines.proofs.KeepLemmas.{none_spelled}
use Rattle.served_lines.proofs.keeping.answer_other.Goals as goal

pub returns-in-Err-clause-stops : goal.returns-in-Err-clause-stops
returns-in-Err-clause-stops g c = λ stand at stands.
    let it = c.args.service.now in
    let turns = c.args.turns.now in
    let new = c.settle.new.service in
    let next = c.settle.new.turns in
    let few : length turns.edits.items ≤ 64 = omega (arith, c.requires.fit.few) in
    let failed : Result (Unit {0}) (AnswerEnd g.row.F.Denot) = Err c.in-Err.end in
    group_stops g.R.Reply.makes turns.kept.ghost_name turns.kept.now turns.edits.items (shown.IsTold it) (shown.view it) (shown.sessions it)
    (g.P.Streams.sent (shown.pages it)) next.kept.ghost_name c.settle.ensures.same_reference next.kept.now next.edits.items (shown.IsTold
    new)
    (shown.view new) (shown.sessions new) (g.P.Streams.sent (shown.pages new)) failed stand (Line at (Some c.args.line.now)) 1
    (other_counted (Some c.args.line.now) (said_some c.args.line.now c.requires.some) c.requires.other) (omega arith) few stands
    c.in-Err.ensures.gives c.in-Err.ensures.blames c.in-Err.ensures.stops

pub returns-in-Err-clause-leaves : goal.returns-in-Err-clause-leaves
returns-in-Err-clause-leaves g c = λ stand at stands lasting.
    let it = c.args.service.now in
    let turns = c.args.turns.now in
    let new = c.settle.new.service in
    let next = c.settle.new.turns in
    let few : length turns.edits.items ≤ 64 = omega (arith, c.requires.fit.few) in
    group_leaves g.R.Reply.makes turns.kept.ghost_name turns.kept.now turns.edits.items (shown.IsTold it) (shown.view it) (shown.sessions
    it)
    (g.P.Streams.sent (shown.pages it)) next.kept.ghost_name c.settle.ensures.same_reference next.kept.now next.edits.items (shown.IsTold
    new)
    (shown.view new) (shown.sessions new) (g.P.Streams.sent (shown.pages new)) stand (Line at (Some c.args.line.now)) few stands lasting
    c.settle.ensures.moments

pub returns-clause-does : goal.returns-clause-does
returns-clause-does g c = λ stand at stands.
    let it = c.args.service.now in
    let turns = c.args.turns.now in
    let mid = c.settle.new.service in
    let next = c.settle.new.turns in
    let new = c.answer_line.new.service in
    let e = c.answer_line.ensures in
    line_does g.R.Reply.makes turns.kept.ghost_name turns.kept.now turns.edits.items (shown.IsTold it) (shown.view it) (shown.sessions it)
    (g.P.Streams.sent (shown.pages it)) next.kept.ghost_name c.settle.ensures.same_reference next.kept.now next.edits.items (shown.IsTold
    mid)
    (shown.view mid) (shown.sessions mid) (g.P.Streams.sent (shown.pages mid))
    (none_spelled next.edits.items c.settle.ensures.none) c.in-Ok.ensures.blames c.in-Ok.ensures.done (Some
    c.args.line.now) (said_some c.args.line.now c.requires.some) c.requires.other
    next.kept.ghost_name refl c.answer_line.new.kept (shown.IsTold new) (shown.view new) (shown.sessions new) (g.P.Streams.sent
    (shown.pages new))
    c.answer_line.result stand at stands e.blames e.done e.serves.told (e.idle c.requires.other).image e.reads (e.idle
    c.requires.other).syncs

pub returns-clause-stops : goal.returns-clause-stops
returns-clause-stops g c = λ stand at stands.
    let it = c.args.service.now in
    let turns = c.args.turns.now in
    let mid = c.settle.new.service in
    let next = c.settle.new.turns in
    let new = c.answer_line.new.service in
    let e = c.answer_line.ensures in
    line_stops g.R.Reply.makes turns.kept.ghost_name turns.kept.now turns.edits.items (shown.IsTold it) (shown.view it) (shown.sessions it)
    (g.P.Streams.sent (shown.pages it)) next.kept.ghost_name c.settle.ensures.same_reference next.kept.now next.edits.items (shown.IsTold
    mid)
    (shown.view mid) (shown.sessions mid) (g.P.Streams.sent (shown.pages mid))
    (none_spelled next.edits.items c.settle.ensures.none) c.in-Ok.ensures.blames c.in-Ok.ensures.done (Some
    c.args.line.now) (said_some c.args.line.now c.requires.some) c.requires.other
    next.kept.ghost_name refl c.answer_line.new.kept (shown.IsTold new) (shown.view new) (shown.sessions new) (g.P.Streams.sent
    (shown.pages new))
    c.answer_line.result stand at stands e.gives e.blames e.stops e.reads (e.idle c.requires.other).syncs

pub returns-clause-leaves : goal.returns-clause-leaves
returns-clause-leaves g c = λ stand at stands lasting.
    let it = c.args.service.now in
    let turns = c.args.turns.now in
    let mid = c.settle.new.service in
    let next = c.settle.new.turns in
    let new = c.answer_line.new.service in
    let e = c.answer_line.ensures in
    let few : length turns.edits.items ≤ 64 = omega (arith, c.requires.fit.few) in
    line_leaves g.R.Reply.makes turns.kept.ghost_name turns.kept.now turns.edits.items (shown.IsTold it) (shown.view it) (shown.sessions it)
    (g.P.Streams.sent (shown.pages it)) next.kept.ghost_name c.settle.ensures.same_reference next.kept.now next.edits.items (shown.IsTold
    mid)
    (shown.view mid) (shown.sessions mid) (g.P.Streams.sent (shown.pages mid))
    (none_spelled next.edits.items c.settle.ensures.none) c.in-Ok.ensures.blames c.in-Ok.ensures.done (Some
    c.args.line.now) (said_some c.args.line.now c.requires.some) c.requires.other
    next.kept.ghost_name refl c.answer_line.new.kept (shown.IsTold new) (shown.view new) (shown.sessions new) (g.P.Streams.sent
    (shown.pages new))
    stand at stands lasting
    (group_leaves g.R.Reply.makes turns.kept.ghost_name turns.kept.now turns.edits.items (shown.IsTold it) (shown.view it) (shown.sessions
    it)
    (g.P.Streams.sent (shown.pages it)) next.kept.ghost_name c.settle.ensures.same_reference next.kept.now next.edits.items (shown.IsTold
    mid)
    (shown.view mid) (shown.sessions mid) (g.P.Streams.sent (shown.pages mid)) stand (Line at (Some c.args.line.now)) few stands lasting
    c.settle.ensures.moments)
    e.moments (g.met.P.PageWorld.counts_sent (shown.pages it)) (g.met.P.PageWorld.counts_sent (shown.pages mid))
