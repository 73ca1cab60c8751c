use Rattle.std.proofs.Common.{rules, arith, [], refl}
use Rattle.chart_service.proofs.Outcomes.{ok_err}
use Rattle.hosted_lines.specs.Doing.{held_by, held_with}
use Rattle.hosted_lines.specs.Shown.{pages}
use Rattle.hosted_lines.proofs.LineLemmas.{still_does, then_does}
use Rattle.chart_world.specs.FaultLaws.{counts_then}
use Rattle.run_ends.specs.Faults.{end_fault}
use Rattle.chart_world.specs.Faults.{fault_in}
use Rattle.live_service.specs.Kinds.{MayAnswerLive}
use Rattle.hosted_lines.proofs.AnswersLemmas.{sends_none, sends_then}
use Rattle.live_service.specs.Pushing.{followed_after}
use Rattle.hosted_lines.specs.Answers.{watched}
use Rattle.chart_service.specs.Blaming.{Blames}
use Rattle.chart_service.specs.Shown as shown
use Rattle.live_service.specs.Shown as its
use Rattle.hosted_lines.proofs.BlameLemmas.{behind_blames}
use Rattle.hosted_lines.proofs.answering.+send_pushes.Goals as goal

pub returns-then-is_idle-clause-does : goal.returns-then-is_idle-clause-does
returns-then-is_idle-clause-does g t c = λ total book told stands sound.
    let at = pages c.args.live.now in
    let held = held_by c.args.live.now in
    still_does _ total book held held (g.P.Pages.view at) (g.P.Pages.view at) (g.P.Streams.sent at)
    (g.P.Streams.sent at) refl refl refl stands sound

pub send_pushes-requires : goal.send_pushes-requires
send_pushes-requires g t c κs within = (omega (arith, c.in-Ok.ensures.fewer), (search rules, c.in-Ok.ensures.sound (ok_err _ _)))

pub returns-in-Ok-clause-does : goal.returns-in-Ok-clause-does
returns-in-Ok-clause-does g t c = λ total book told stands sound.
    let view = g.P.Pages.view in
    let sent = g.P.Streams.sent in
    let w = g.met.P.PageWorld in
    let old = c.args.live.now in
    let mid = c.send_push.new.live in
    let new = c.send_pushes.new.live in
    let first = c.in-Ok.ensures.does total book told stands sound in
    then_does [] total (held_with total book (held_by old)) (held_by mid) (held_by new) (view (pages old)) (view (pages mid))
    (view (pages new)) (sent (pages old)) (sent (pages mid)) (sent (pages new)) first.done
    (w.counts_sent (pages old)) (w.counts_sent (pages mid)) first.moments c.send_pushes.result
    (c.send_pushes.ensures.does total first.done.book (c.in-Ok.ensures.goes.is_told told) first.done.stands first.done.sound)

pub returns-in-Ok-clause-faults : goal.returns-in-Ok-clause-faults
returns-in-Ok-clause-faults g t c =
    let view = g.P.Pages.view in
    counts_then (fault_in end_fault c.send_pushes.result) (view (pages c.args.live.now)) (view (pages c.send_push.new.live))
    (view (pages c.send_pushes.new.live)) c.in-Ok.ensures.faults c.send_pushes.ensures.faults

pub returns-then-is_idle-clause-sends : goal.returns-then-is_idle-clause-sends
returns-then-is_idle-clause-sends g t c = sends_none MayAnswerLive followed_after (watched c.args.live.now)
    (g.P.Streams.sent (pages c.args.live.now))

pub returns-in-Ok-clause-sends : goal.returns-in-Ok-clause-sends
returns-in-Ok-clause-sends g t c =
    let sent = g.P.Streams.sent in
    let old = c.args.live.now in
    let mid = c.send_push.new.live in
    let new = c.send_pushes.new.live in
    sends_then MayAnswerLive followed_after c.send_pushes.result [] [] (watched old) (watched mid) (watched new) (sent (pages old))
    (sent (pages mid)) (sent (pages new))
    c.in-Ok.ensures.sends c.send_pushes.ensures.sends

pub returns-in-Ok-clause-blames : goal.returns-in-Ok-clause-blames
returns-in-Ok-clause-blames g t c =
    let sent = g.P.Streams.sent in
    let old = c.args.live.now in
    let mid = c.send_push.new.live in
    let new = c.send_pushes.new.live in
    behind_blames MayAnswerLive followed_after Blames (shown.IsTold (its.service new)) (its.view new).size
    (its.view new).image c.send_pushes.result [] [] (watched old) (watched mid) (sent (pages old)) (sent (pages mid)) (sent (pages new))
    c.in-Ok.ensures.sends c.send_pushes.ensures.blames
