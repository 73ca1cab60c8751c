use Rattle.std.proofs.Common.{[], ◌∷◌, Some, Result, Err}
use Rattle.hosted_lines.specs.Doing.{held_by, held_with}
use Rattle.hosted_lines.specs.Shown.{pages}
use Rattle.hosted_lines.proofs.HostLemmas.{fails_wide, host_then}
use Rattle.hosted_lines.specs.Answers.{MayAnswerHost, followed_behind, watched}
use Rattle.hosted_lines.proofs.AnswersLemmas.{sends_then}
use Rattle.chart_service.specs.Shown as shown
use Rattle.live_service.specs.Shown as its
use Rattle.hosted_lines.specs.Blaming.{BlamesHost}
use Rattle.std.specs.Prelude.{⊤}
use Rattle.hosted_lines.proofs.BlameLemmas.{behind_blames}
use Rattle.hosted_lines.proofs.HostBlames.{before_blames}
use Rattle.hosted_lines.proofs.reporting.answer_asked.Goals as goal

pub returns-in-Ok-clause-does : goal.returns-in-Ok-clause-does
returns-in-Ok-clause-does g c = λ line asks lines spell total book told stands sound.
    let view = g.P.Pages.view in
    let sent = g.P.Streams.sent in
    let w = g.met.P.PageWorld in
    let old = c.args.live.now in
    let mid = c.settle.new.live in
    let new = c.send_report.new.live in
    let first = c.in-Ok.ensures.does lines spell total book told stands sound in
    let second = c.send_report.ensures.does line asks total first.done.book
    (c.in-Ok.ensures.goes.is_told told) first.done.stands first.done.sound in
    host_then 1 0 lines (Some line ∷ []) total (held_with total book (held_by old)) (held_by mid) (held_by new) (view (pages old))
    (view (pages mid)) (view (pages new)) (sent (pages old)) (sent (pages mid)) (sent (pages new)) first.done
    (w.counts_sent (pages old)) (w.counts_sent (pages mid)) first.moments c.send_report.result second

pub returns-in-Err-clause-does : goal.returns-in-Err-clause-does
returns-in-Err-clause-does g c = λ line asks lines spell total book told stands sound.
    let view = g.P.Pages.view in
    let sent = g.P.Streams.sent in
    let old = c.args.live.now in
    let new = c.settle.new.live in
    fails_wide 1 lines (Some line ∷ []) total (held_with total book (held_by old)) c.in-Err.end (view (pages old)) (view (pages new))
    (held_by new) (sent (pages old)) (sent (pages new))
    (c.in-Err.ensures.does lines spell total book told stands sound)

pub returns-in-Ok-clause-sends : goal.returns-in-Ok-clause-sends
returns-in-Ok-clause-sends g c = λ line asks lines spell.
    let sent = g.P.Streams.sent in
    let old = c.args.live.now in
    let mid = c.settle.new.live in
    let new = c.send_report.new.live in
    sends_then MayAnswerHost followed_behind c.send_report.result lines (Some line ∷ []) (watched old) (watched mid) (watched new)
    (sent (pages old)) (sent (pages mid)) (sent (pages new))
    (c.in-Ok.ensures.sends lines spell) (c.send_report.ensures.sends line asks)

pub returns-in-Ok-clause-blames : goal.returns-in-Ok-clause-blames
returns-in-Ok-clause-blames g c = λ line asks lines spell.
    let sent = g.P.Streams.sent in
    let old = c.args.live.now in
    let mid = c.settle.new.live in
    let new = c.send_report.new.live in
    behind_blames MayAnswerHost followed_behind BlamesHost (shown.IsTold (its.service new)) (its.view new).size
    (its.view new).image c.send_report.result lines (Some line ∷ []) (watched old) (watched mid) (sent (pages old)) (sent (pages mid))
    (sent (pages new)) (c.in-Ok.ensures.sends lines spell)
    (c.send_report.ensures.blames line asks)

pub returns-in-Err-clause-blames : goal.returns-in-Err-clause-blames
returns-in-Err-clause-blames g c = λ line asks lines spell.
    let sent = g.P.Streams.sent in
    let old = c.args.live.now in
    let new = c.settle.new.live in
    let failed : Result ⊤ _ = Err c.in-Err.end in
    before_blames (shown.IsTold (its.service new)) (its.view new).size (its.view new).image failed lines (Some line ∷ []) (watched old)
    (sent (pages old)) (sent (pages new)) (c.in-Err.ensures.blames lines spell)
