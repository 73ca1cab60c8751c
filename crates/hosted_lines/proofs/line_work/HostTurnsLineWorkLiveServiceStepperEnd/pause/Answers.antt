use Rattle.std.proofs.Common.{◌++◌, [], sym}
use Rattle.std.proofs.lemmas.List.{append-nil}
use Rattle.chart_service.specs.Shown as shown
use Rattle.line_runs.specs.Given.{Pause}
use Rattle.live_service.specs.Shown as its
use Rattle.hosted_lines.specs.Answers.{MayAnswerHost, followed_behind, watched}
use Rattle.hosted_lines.specs.Doing.{held_by, held_with}
use Rattle.hosted_lines.specs.Shown.{pages}
use Rattle.hosted_lines.proofs.AnswersLemmas.{sends_so}
use Rattle.hosted_lines.specs.Blaming.{BlamesHost}
use Rattle.hosted_lines.proofs.BlameLemmas.{lines_blame}
use Rattle.hosted_lines.proofs.CountLemmas.{by_pause}
use Rattle.hosted_lines.proofs.HostLemmas.{lines_so}
use Rattle.hosted_lines.proofs.StandLemmas.{stand_does, stand_leaves, stand_stops}
use Rattle.hosted_lines.proofs.line_work.HostTurnsLineWorkLiveServiceStepperEnd.pause.Goals as goal

pub returns-clause-does : goal.returns-clause-does
returns-clause-does g c = λ stand stands.
    let it = c.args.from.now in
    let new = c.settle.new.live in
    let sent = g.P.Streams.sent in
    let edits = c.args.self.now.edits.items in
    let e = c.settle.ensures in
    stand_does edits (shown.IsTold (its.service it)) (its.view it) (held_by it) (sent (pages it)) Pause c.settle.result (its.view new)
    (held_by new) (sent (pages new))
    (λ lines spell total book told stands sound. lines_so 1 lines (lines ++ []) total (held_with total book (held_by it)) c.settle.result
    (its.view it) (its.view new) (held_by new) (sent (pages it)) (sent (pages new)) (sym (append-nil lines))
    (e.does lines spell total book told stands sound))
    (shown.IsTold (its.service new)) e.goes.is_told c.settle.new.turns.edits.items e.none (λ lines spell. by_pause lines edits spell) e.idle
    (λ lines spell. sends_so MayAnswerHost followed_behind c.settle.result lines (lines ++ []) (watched it) (watched new) (sent (pages it))
    (sent (pages new)) (sym (append-nil lines)) (e.sends lines spell))
    stand stands

pub returns-clause-stops : goal.returns-clause-stops
returns-clause-stops g c = λ stand stands.
    let it = c.args.from.now in
    let new = c.settle.new.live in
    let sent = g.P.Streams.sent in
    stand_stops c.args.self.now.edits.items (shown.IsTold (its.service it)) (its.view it) (held_by it)
    (sent (pages it)) Pause c.settle.result (its.view new) (held_by new) (sent (pages new))
    (λ lines spell total book told stands sound. lines_so 1 lines (lines ++ []) total (held_with total book (held_by it)) c.settle.result
    (its.view it) (its.view new) (held_by new) (sent (pages it)) (sent (pages new)) (sym (append-nil lines))
    (c.settle.ensures.does lines spell total book told stands sound))
    (shown.IsTold (its.service new)) (λ lines spell. lines_blame MayAnswerHost followed_behind BlamesHost (shown.IsTold (its.service new))
    (its.view new).size (its.view new).image c.settle.result lines (lines ++ []) (watched it) (sent (pages it)) (sent (pages new))
    (sym (append-nil lines)) (c.settle.ensures.blames lines spell)) stand stands

pub returns-clause-leaves : goal.returns-clause-leaves
returns-clause-leaves g c = λ stand stands lasting.
    let it = c.args.from.now in
    let new = c.settle.new.live in
    let sent = g.P.Streams.sent in
    stand_leaves c.args.self.now.edits.items (shown.IsTold (its.service it)) (its.view it) (held_by it)
    (sent (pages it)) Pause c.settle.result (its.view new) (held_by new) (sent (pages new))
    (λ lines spell total book told stands sound. lines_so 1 lines (lines ++ []) total (held_with total book (held_by it)) c.settle.result
    (its.view it) (its.view new) (held_by new) (sent (pages it)) (sent (pages new)) (sym (append-nil lines))
    (c.settle.ensures.does lines spell total book told stands sound)) stand stands lasting
