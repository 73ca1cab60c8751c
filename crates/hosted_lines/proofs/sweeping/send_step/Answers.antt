use Rattle.std.proofs.Common.{◌∙◌, length, ap, sym, Some, inl, ◌≡◌, [], ◌∷◌}
use Rattle.block_disk.specs.View.{Beside}
use Rattle.chart_frames.specs.Frames.{spelling}
use Rattle.chart_world.specs.FaultLaws.{counts_then}
use Rattle.chart_world.specs.Faults.{fault_in}
use Rattle.gate_pages.proofs.Moving.{sent_same}
use Rattle.run_ends.specs.Faults.{end_fault}
use Rattle.hosted_lines.specs.Doing.{held_by}
use Rattle.hosted_lines.specs.GoesLaws.{held_same}
use Rattle.hosted_lines.specs.Shown.{pages}
use Rattle.hosted_lines.proofs.FaultLemmas.{unmade_counts}
use Rattle.hosted_lines.proofs.SweepLemmas.{step_costs, step_sends, step_unmade}
use Rattle.hosted_lines.specs.Answers.{MayAnswerHost, followed_behind, watched}
use Rattle.hosted_lines.proofs.AnswersLemmas.{may_step, sends_answer, step_after, step_lasts, step_stays, watched_same}
use Rattle.chart_service.specs.Shown as shown
use Rattle.live_service.specs.Shown as its
use Rattle.hosted_lines.specs.Blaming.{BlamesHost}
use Rattle.chart_service.specs.Stepping.{NamesBad}
use Rattle.hosted_lines.proofs.BlameLemmas.{blames_now, step_damaged, unsent_blames}
use Rattle.hosted_lines.proofs.HostBlames.{step_blamed}
use Rattle.hosted_lines.proofs.sweeping.send_step.Goals as goal

pub returns-in-Ok-clause-does : goal.returns-in-Ok-clause-does
returns-in-Ok-clause-does g c = λ line asks total book told stands sound.
    let view = g.P.Pages.view in
    let sent = g.P.Streams.sent in
    let w = g.met.P.PageWorld in
    let old = c.args.live.now in
    let mid = c.sweep_step.new.live in
    let new = c.send_frame.new.live in
    let at = pages old in
    let between = pages mid in
    let at' = pages new in
    let frame = c.in-Ok.frame in
    let rule = c.args.rule.now in
    let e = c.in-Ok.ensures in
    let made = c.send_frame.ensures in
    let n = length (spelling frame) in
    let sends = made.beside.changed.store_is.pages_are in
    let reply = e.reply total book told stands in
    let passes = e.moments total book told stands in
    step_sends line rule asks total book (held_by old) c.requires.idle frame (held_by mid) (held_by new)
    (held_same _ _ _ _ _ _ made.beside.changed.sessions made.beside.followed_same made.beside.pending_same) reply.book reply.so
    (view at) (view between) (view at') (sent at) (sent between) (sent at') reply.stands passes
    (sent_same (view at) (view between) _ passes)
    (sym (w.beside_sent between) ∙ ap (λ (b : Beside). b.sent) e.carries.beside ∙ w.beside_sent at)
    (step_costs line rule asks total book (held_by old) c.requires.idle (view at) (view between) e.reads (e.commits total book told stands))
    (w.send_keeps n between at' sends) c.send_frame.result made.whole made.stops (g.met.P.Pages.rests between (e.sound (λ is. cc)))
    (w.send_passes n between at' sends) (w.send_counts n between at' sends)

pub returns-in-Err-clause-does : goal.returns-in-Err-clause-does
returns-in-Err-clause-does g c = λ line asks total book told stands sound.
    let view = g.P.Pages.view in
    let sent = g.P.Streams.sent in
    let w = g.met.P.PageWorld in
    let old = c.args.live.now in
    let mid = c.sweep_step.new.live in
    let at = pages old in
    let between = pages mid in
    let rule = c.args.rule.now in
    let e = c.in-Err.ensures in
    step_unmade line rule asks total book (held_by old) c.requires.idle c.in-Err.error c.step_end.result (held_by mid) (view at)
    (view between) (sent at) (sent between) c.step_end.ensures (e.standing total book told stands)
    (λ other. e.left total book told stands (λ is. other (cc)))
    (sym (w.beside_sent between) ∙ ap (λ (b : Beside). b.sent) e.carries.beside ∙ w.beside_sent at)
    (e.moments total book told stands)
    (step_costs line rule asks total book (held_by old) c.requires.idle (view at) (view between) e.reads (e.commits total book told stands))

pub returns-in-Ok-clause-faults : goal.returns-in-Ok-clause-faults
returns-in-Ok-clause-faults g c =
    let view = g.P.Pages.view in
    counts_then (fault_in end_fault c.send_frame.result) (view (pages c.args.live.now)) (view (pages c.sweep_step.new.live))
    (view (pages c.send_frame.new.live)) c.in-Ok.ensures.faults c.send_frame.ensures.faults

pub returns-in-Err-clause-faults : goal.returns-in-Err-clause-faults
returns-in-Err-clause-faults g c =
    let view = g.P.Pages.view in
    unmade_counts c.in-Err.error c.step_end.result (view (pages c.args.live.now))
    (view (pages c.sweep_step.new.live)) c.step_end.ensures c.in-Err.ensures.faults

pub returns-in-Ok-clause-sends : goal.returns-in-Ok-clause-sends
returns-in-Ok-clause-sends g c = λ line asks.
    let sent = g.P.Streams.sent in
    let w = g.met.P.PageWorld in
    let old = c.args.live.now in
    let mid = c.sweep_step.new.live in
    let new = c.send_frame.new.live in
    let frame = c.in-Ok.frame in
    let e = c.in-Ok.ensures in
    let made = c.send_frame.ensures in
    let own = watched old in
    let between = watched mid in
    sends_answer MayAnswerHost followed_behind c.send_frame.result frame own between (watched new) (sent (pages old)) (sent (pages mid))
    (sent (pages new)) e.fits
    (step_stays frame _ _ _ own.sessions between.sessions e.sessions e.tells)
    (watched_same (watched new) (watched mid) made.beside.changed.sessions made.beside.followed_same) (sym (w.beside_sent (pages mid))
    ∙ ap (λ (b : Beside). b.sent) e.carries.beside ∙ w.beside_sent (pages old)) made.whole
    (Some line) (may_step line c.args.rule.now frame _ _ _ asks e.tells)
    (step_after line c.args.rule.now frame own.followed between.followed asks e.followed)
    (step_lasts line c.args.rule.now frame _ _ _ own.sessions between.sessions asks e.tells e.sessions)

pub returns-in-Ok-clause-blames : goal.returns-in-Ok-clause-blames
returns-in-Ok-clause-blames g c = λ line asks. unsent_blames c.send_frame.result c.in-Ok.frame _ _ _ c.send_frame.ensures.stops

pub returns-in-Err-clause-blames : goal.returns-in-Err-clause-blames
returns-in-Err-clause-blames g c = λ line asks.
    let sent = g.P.Streams.sent in
    let w = g.met.P.PageWorld in
    let old = c.args.live.now in
    let mid = c.sweep_step.new.live in
    let e = c.in-Err.ensures in
    let is_told = shown.IsTold (its.service mid) in
    let unsent : sent (pages mid) ≡ sent (pages old) = sym (w.beside_sent (pages mid)) ∙ ap (λ (b : Beside). b.sent) e.carries.beside
    ∙ w.beside_sent (pages old) in
    step_damaged c.in-Err.error c.step_end.result _ (NamesBad is_told (its.view mid).size (its.view mid).image) c.step_end.ensures e.bad
    (λ page bad. blames_now MayAnswerHost followed_behind BlamesHost is_told (its.view mid).size (its.view mid).image page (Some line ∷ [])
    (watched old) (sent (pages old)) (sent (pages mid)) unsent
    (inl (step_blamed _ is_told (its.view mid).size (its.view mid).image page line c.args.rule.now asks bad)))
