use Rattle.std.proofs.Common.{◌≡◌, [], Some, length, ap, arith, Result, Err}
use Rattle.chart_service.specs.Serving.{unless_empty}
use Rattle.chart_service.specs.Syncing.{edits_of}
use Rattle.hosted_lines.specs.Doing.{held_by, held_with}
use Rattle.hosted_lines.specs.Shown.{pages}
use Rattle.hosted_lines.proofs.HostLemmas.{fails_wide, host_then, live_does}
use Rattle.hosted_lines.proofs.RowLemmas.{passed_line}
use Rattle.hosted_lines.proofs.WorkLemmas.{no_edits}
use Rattle.hosted_lines.specs.Answers.{MayAnswerHost, followed_behind, watched}
use Rattle.hosted_lines.proofs.AnswersLemmas.{sends_host, sends_then}
use Rattle.chart_service.specs.Shown as shown
use Rattle.live_service.specs.Shown as its
use Rattle.hosted_lines.specs.Blaming.{BlamesHost}
use Rattle.std.specs.Prelude.{⊤}
use Rattle.hosted_lines.proofs.BlameLemmas.{behind_blames}
use Rattle.hosted_lines.proofs.HostBlames.{before_blames, host_blames}
use Rattle.hosted_lines.proofs.keeping.answer_other.Goals as goal

pub returns-in-Ok-clause-does : goal.returns-in-Ok-clause-does
returns-in-Ok-clause-does g c = λ lines spell total book told stands sound.
    let view = g.P.Pages.view in
    let sent = g.P.Streams.sent in
    let w = g.met.P.PageWorld in
    let old = c.args.live.now in
    let mid = c.settle.new.live in
    let new = c.answer_line.new.live in
    let more = unless_empty (Some c.args.line.now) in
    let first = c.in-Ok.ensures.does lines spell total book told stands sound in
    let e = c.answer_line.ensures in
    let second = e.does total first.done.book (c.in-Ok.ensures.goes.is_told told) first.done.stands first.done.sound in
    let none : edits_of more ≡ [] = no_edits c.args.line.now c.requires.other in
    let same : (view (pages new)).syncs ≡ (view (pages mid)).syncs = omega (arith, e.syncs, e.rises, ap length none) in
    host_then 1 0 lines more total (held_with total book (held_by old)) (held_by mid) (held_by new) (view (pages old)) (view (pages mid))
    (view (pages new)) (sent (pages old)) (sent (pages mid)) (sent (pages new)) first.done
    (w.counts_sent (pages old)) (w.counts_sent (pages mid)) first.moments c.answer_line.result
    (live_does more (passed_line c.args.line.now c.requires.passed) total
    (held_with total first.done.book (held_by mid)) c.answer_line.result (view (pages mid)) (view (pages new)) (held_by new)
    (sent (pages mid)) (sent (pages new)) same second)

pub returns-in-Err-clause-does : goal.returns-in-Err-clause-does
returns-in-Err-clause-does g c = λ lines spell total book told stands sound.
    let view = g.P.Pages.view in
    let sent = g.P.Streams.sent in
    let old = c.args.live.now in
    let new = c.settle.new.live in
    fails_wide 1 lines (unless_empty (Some c.args.line.now)) total (held_with total book (held_by old)) c.in-Err.end (view (pages old))
    (view (pages new)) (held_by new) (sent (pages old)) (sent (pages new))
    (c.in-Err.ensures.does lines spell total book told stands sound)

pub returns-in-Ok-clause-sends : goal.returns-in-Ok-clause-sends
returns-in-Ok-clause-sends g c = λ lines spell.
    let sent = g.P.Streams.sent in
    let old = c.args.live.now in
    let mid = c.settle.new.live in
    let new = c.answer_line.new.live in
    let more = unless_empty (Some c.args.line.now) in
    let between = watched mid in
    let behind = watched new in
    sends_then MayAnswerHost followed_behind c.answer_line.result lines more (watched old) between behind (sent (pages old))
    (sent (pages mid)) (sent (pages new)) (c.in-Ok.ensures.sends lines spell)
    (sends_host c.answer_line.result more between behind (sent (pages mid)) (sent (pages new))
    (passed_line c.args.line.now c.requires.passed) c.answer_line.ensures.sends)

pub returns-in-Ok-clause-blames : goal.returns-in-Ok-clause-blames
returns-in-Ok-clause-blames g c = λ lines spell.
    let sent = g.P.Streams.sent in
    let old = c.args.live.now in
    let mid = c.settle.new.live in
    let new = c.answer_line.new.live in
    behind_blames MayAnswerHost followed_behind BlamesHost (shown.IsTold (its.service new)) (its.view new).size
    (its.view new).image c.answer_line.result lines (unless_empty (Some c.args.line.now)) (watched old) (watched mid) (sent (pages old))
    (sent (pages mid)) (sent (pages new)) (c.in-Ok.ensures.sends lines spell)
    (host_blames (shown.IsTold (its.service new)) (its.view new).size (its.view new).image c.answer_line.result
    (unless_empty (Some c.args.line.now)) (watched mid) (sent (pages mid)) (sent (pages new))
    (passed_line c.args.line.now c.requires.passed) c.answer_line.ensures.blames)

pub returns-in-Err-clause-blames : goal.returns-in-Err-clause-blames
returns-in-Err-clause-blames g c = λ lines spell.
    let sent = g.P.Streams.sent in
    let old = c.args.live.now in
    let new = c.settle.new.live in
    let failed : Result ⊤ _ = Err c.in-Err.end in
    before_blames (shown.IsTold (its.service new)) (its.view new).size (its.view new).image failed lines
    (unless_empty (Some c.args.line.now)) (watched old) (sent (pages old)) (sent (pages new)) (c.in-Err.ensures.blames lines spell)
