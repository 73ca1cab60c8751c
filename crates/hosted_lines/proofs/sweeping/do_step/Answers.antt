use Rattle.std.proofs.Common.{[], ◌∷◌, Some}
use Rattle.hosted_lines.specs.Doing.{held_by, held_with}
use Rattle.hosted_lines.specs.Shown.{pages}
use Rattle.hosted_lines.proofs.HostLemmas.{host_then, live_does}
use Rattle.hosted_lines.specs.Answers.{MayAnswerHost, followed_behind, watched}
use Rattle.hosted_lines.proofs.AnswersLemmas.{sends_host, sends_then}
use Rattle.chart_service.specs.Shown as shown
use Rattle.live_service.specs.Shown as its
use Rattle.hosted_lines.specs.Blaming.{BlamesHost}
use Rattle.hosted_lines.proofs.BlameLemmas.{behind_blames}
use Rattle.hosted_lines.proofs.HostBlames.{host_blames}
use Rattle.hosted_lines.proofs.sweeping.do_step.Goals as goal

pub returns-in-Ok-clause-does : goal.returns-in-Ok-clause-does
returns-in-Ok-clause-does g c = λ line asks total book told stands sound.
    let view = g.P.Pages.view in
    let sent = g.P.Streams.sent in
    let w = g.met.P.PageWorld in
    let old = c.args.live.now in
    let mid = c.send_step.new.live in
    let new = c.send_pushes.new.live in
    let first = c.in-Ok.ensures.does line asks total book told stands sound in
    let second = c.send_pushes.ensures.does total first.done.book (c.in-Ok.ensures.goes.is_told told) first.done.stands first.done.sound in
    host_then 0 0 (Some line ∷ []) [] total (held_with total book (held_by old)) (held_by mid) (held_by new) (view (pages old))
    (view (pages mid)) (view (pages new)) (sent (pages old)) (sent (pages mid)) (sent (pages new)) first.done
    (w.counts_sent (pages old)) (w.counts_sent (pages mid)) first.moments c.send_pushes.result
    (live_does [] tt total (held_with total first.done.book (held_by mid)) c.send_pushes.result (view (pages mid)) (view (pages new))
    (held_by new) (sent (pages mid)) (sent (pages new)) c.send_pushes.ensures.syncs second)

pub returns-in-Ok-clause-sends : goal.returns-in-Ok-clause-sends
returns-in-Ok-clause-sends g c = λ line asks.
    let sent = g.P.Streams.sent in
    let old = c.args.live.now in
    let mid = c.send_step.new.live in
    let new = c.send_pushes.new.live in
    let between = watched mid in
    let behind = watched new in
    sends_then MayAnswerHost followed_behind c.send_pushes.result (Some line ∷ []) [] (watched old) between behind (sent (pages old))
    (sent (pages mid)) (sent (pages new)) (c.in-Ok.ensures.sends line asks)
    (sends_host c.send_pushes.result [] between behind (sent (pages mid)) (sent (pages new)) tt c.send_pushes.ensures.sends)

pub returns-in-Ok-clause-blames : goal.returns-in-Ok-clause-blames
returns-in-Ok-clause-blames g c = λ line asks.
    let sent = g.P.Streams.sent in
    let old = c.args.live.now in
    let mid = c.send_step.new.live in
    let new = c.send_pushes.new.live in
    behind_blames MayAnswerHost followed_behind BlamesHost (shown.IsTold (its.service new)) (its.view new).size
    (its.view new).image c.send_pushes.result (Some line ∷ []) [] (watched old) (watched mid) (sent (pages old)) (sent (pages mid))
    (sent (pages new)) (c.in-Ok.ensures.sends line asks)
    (host_blames (shown.IsTold (its.service new)) (its.view new).size (its.view new).image c.send_pushes.result [] (watched mid)
    (sent (pages mid)) (sent (pages new)) tt c.send_pushes.ensures.blames)
