use Rattle.std.proofs.Common.{[], ◌∷◌, None, Result, Err}
use Rattle.hosted_lines.specs.Doing.{held_by, held_with}
use Rattle.hosted_lines.specs.Shown.{pages}
use Rattle.hosted_lines.proofs.HostLemmas.{fails_wide, host_then, live_does}
use Rattle.hosted_lines.specs.Answers.{MayAnswerHost, followed_behind, watched}
use Rattle.hosted_lines.proofs.AnswersLemmas.{sends_host, sends_then}
use Rattle.chart_service.specs.Shown as shown
use Rattle.live_service.specs.Shown as its
use Rattle.hosted_lines.specs.Blaming.{BlamesHost}
use Rattle.std.specs.Prelude.{⊤}
use Rattle.hosted_lines.proofs.BlameLemmas.{behind_blames}
use Rattle.hosted_lines.proofs.HostBlames.{before_blames, host_blames}
use Rattle.hosted_lines.proofs.keeping.refuse_long.Goals as goal

pub returns-in-Ok-clause-does : goal.returns-in-Ok-clause-does
returns-in-Ok-clause-does g c = λ lines spell total book told stands sound.
    let view = g.P.Pages.view in
    let sent = g.P.Streams.sent in
    let w = g.met.P.PageWorld in
    let old = c.args.live.now in
    let mid = c.settle.new.live in
    let new = c.refuse_line.new.live in
    let first = c.in-Ok.ensures.does lines spell total book told stands sound in
    let e = c.refuse_line.ensures in
    let second = e.does total first.done.book (c.in-Ok.ensures.goes.is_told told) first.done.stands first.done.sound in
    host_then 1 0 lines (None ∷ []) total (held_with total book (held_by old)) (held_by mid) (held_by new) (view (pages old))
    (view (pages mid)) (view (pages new)) (sent (pages old)) (sent (pages mid)) (sent (pages new)) first.done
    (w.counts_sent (pages old)) (w.counts_sent (pages mid)) first.moments c.refuse_line.result
    (live_does (None ∷ []) (tt, tt) total (held_with total first.done.book (held_by mid)) c.refuse_line.result (view (pages mid))
    (view (pages new)) (held_by new) (sent (pages mid)) (sent (pages new)) e.syncs second)

pub returns-in-Err-clause-does : goal.returns-in-Err-clause-does
returns-in-Err-clause-does g c = λ lines spell total book told stands sound.
    let view = g.P.Pages.view in
    let sent = g.P.Streams.sent in
    let old = c.args.live.now in
    let new = c.settle.new.live in
    fails_wide 1 lines (None ∷ []) total (held_with total book (held_by old)) c.in-Err.end (view (pages old)) (view (pages new))
    (held_by new) (sent (pages old)) (sent (pages new))
    (c.in-Err.ensures.does lines spell total book told stands sound)

pub returns-in-Ok-clause-sends : goal.returns-in-Ok-clause-sends
returns-in-Ok-clause-sends g c = λ lines spell.
    let sent = g.P.Streams.sent in
    let old = c.args.live.now in
    let mid = c.settle.new.live in
    let new = c.refuse_line.new.live in
    let between = watched mid in
    let behind = watched new in
    sends_then MayAnswerHost followed_behind c.refuse_line.result lines (None ∷ []) (watched old) between behind (sent (pages old))
    (sent (pages mid)) (sent (pages new)) (c.in-Ok.ensures.sends lines spell)
    (sends_host c.refuse_line.result (None ∷ []) between behind (sent (pages mid)) (sent (pages new)) (tt, tt) c.refuse_line.ensures.sends)

pub returns-in-Ok-clause-blames : goal.returns-in-Ok-clause-blames
returns-in-Ok-clause-blames g c = λ lines spell.
    let sent = g.P.Streams.sent in
    let old = c.args.live.now in
    let mid = c.settle.new.live in
    let new = c.refuse_line.new.live in
    behind_blames MayAnswerHost followed_behind BlamesHost (shown.IsTold (its.service new)) (its.view new).size
    (its.view new).image c.refuse_line.result lines (None ∷ []) (watched old) (watched mid) (sent (pages old)) (sent (pages mid))
    (sent (pages new)) (c.in-Ok.ensures.sends lines spell)
    (host_blames (shown.IsTold (its.service new)) (its.view new).size (its.view new).image c.refuse_line.result (None ∷ []) (watched mid)
    (sent (pages mid)) (sent (pages new)) (tt, tt) c.refuse_line.ensures.blames)

pub returns-in-Err-clause-blames : goal.returns-in-Err-clause-blames
returns-in-Err-clause-blames g c = λ lines spell.
    let sent = g.P.Streams.sent in
    let old = c.args.live.now in
    let new = c.settle.new.live in
    let failed : Result ⊤ _ = Err c.in-Err.end in
    before_blames (shown.IsTold (its.service new)) (its.view new).size (its.view new).image failed lines (None ∷ []) (watched old)
    (sent (pages old)) (sent (pages new)) (c.in-Err.ensures.blames lines spell)
