use Rattle.std.proofs.Common.{◌∙◌, length, ap, sym, subst, Some, inl, ◌≡◌, [], ◌∷◌}
use Rattle.block_disk.specs.View.{Beside, Image}
use Rattle.chart_frames.specs.Frames.{spelling}
use Rattle.chart_world.specs.FaultLaws.{counts_then}
use Rattle.chart_world.specs.Faults.{fault_in}
use Rattle.gate_pages.proofs.Moving.{sent_same}
use Rattle.host_lines.specs.declared.asked.HostLine.{HostLine}
use Rattle.host_replies.specs.Replies.{IsReportCause, ReadsReportOver, Reported}
use Rattle.run_ends.specs.Faults.{end_fault}
use Rattle.stored_book.specs.Standing.{StandsForBook}
use Rattle.hosted_lines.specs.Doing.{held_by, held_with, side_of}
use Rattle.hosted_lines.specs.GoesLaws.{held_same}
use Rattle.hosted_lines.specs.Shown.{pages}
use Rattle.hosted_lines.proofs.FaultLemmas.{unmade_counts}
use Rattle.hosted_lines.proofs.ReportLemmas.{report_costs, report_moments, report_sends, report_unmade, unmade_cause}
use Rattle.hosted_lines.specs.Answers.{MayAnswerHost, followed_behind, watched}
use Rattle.hosted_lines.proofs.AnswersLemmas.{may_report, report_after, report_lasts, sends_answer, watched_same}
use Rattle.live_view.specs.Live as follows
use Rattle.chart_service.specs.Shown as shown
use Rattle.live_service.specs.Shown as its
use Rattle.hosted_lines.specs.Blaming.{BlamesHost}
use Rattle.hosted_lines.proofs.BlameLemmas.{blames_now, step_damaged, unsent_blames}
use Rattle.hosted_lines.proofs.HostBlames.{report_blamed}
use Rattle.hosted_lines.proofs.reporting.send_report.Goals as goal

pub returns-in-Ok-clause-does : goal.returns-in-Ok-clause-does
returns-in-Ok-clause-does g c = λ line asks total book told stands sound.
    let view = g.P.Pages.view in
    let sent = g.P.Streams.sent in
    let w = g.met.P.PageWorld in
    let old = c.args.live.now in
    let mid = c.make_report.new.live in
    let new = c.send_frame.new.live in
    let at = pages old in
    let between = pages mid in
    let at' = pages new in
    let frame = c.in-Ok.frame in
    let e = c.in-Ok.ensures.makes in
    let made = c.send_frame.ensures in
    let n = length (spelling frame) in
    let sends = made.beside.changed.store_is.pages_are in
    let state = held_with total book (held_by old) in
    let F : HostLine → Type 0 = λ a. Reported a frame state.state in
    let R : HostLine → Type 0 = λ a. ReadsReportOver book a (view at).reads (view between).reads in
    let S : Image → Type 0 = λ i. StandsForBook i total book in
    let same = held_same _ _ _ _ _ _ made.beside.changed.sessions made.beside.followed_same made.beside.pending_same
    ∙ held_same _ _ _ _ _ _ e.sessions c.in-Ok.ensures.followed c.in-Ok.ensures.pending in
    report_sends line total book (held_by old) c.requires.idle frame (subst F (sym asks) (e.reply total book told stands)) e.fits sound
    (held_by new) same
    (view at) (view between) (view at') (sent at) (sent between) (sent at') (subst S (sym (e.looks.image told)) stands)
    (report_moments line total book (held_by old) c.requires.idle (view at) (view between)
    (g.met.P.Pages.rests at c.requires.may.sound) stands e.looks.time)
    (sent_same (view at) (view between) _ e.looks.time)
    (sym (w.beside_sent between) ∙ ap (λ (b : Beside). b.sent) e.looks.beside ∙ w.beside_sent at)
    (report_costs line total book (held_by old) c.requires.idle (view at).reads (view between).reads (view at).syncs (view between).syncs
    (subst R (sym asks) (e.reads_over total book told stands)) e.looks.syncs)
    (w.send_keeps n between at' sends) c.send_frame.result made.whole made.stops
    (g.met.P.Pages.rests between (e.looks.fit c.requires.may.sound)) (w.send_passes n between at' sends)
    (w.send_counts n between at' sends)

pub returns-in-Err-clause-does : goal.returns-in-Err-clause-does
returns-in-Err-clause-does g c = λ line asks total book told stands sound.
    let view = g.P.Pages.view in
    let sent = g.P.Streams.sent in
    let w = g.met.P.PageWorld in
    let old = c.args.live.now in
    let mid = c.make_report.new.live in
    let at = pages old in
    let between = pages mid in
    let e = c.in-Err.ensures.makes in
    let R : HostLine → Type 0 = λ a. ReadsReportOver book a (view at).reads (view between).reads in
    let S : Image → Type 0 = λ i. StandsForBook i total book in
    report_unmade line total book (held_by old) c.requires.idle c.in-Err.error c.step_end.result (held_by mid) (view at) (view between)
    (sent at) (sent between) c.step_end.ensures (e.standing total book told stands)
    (subst S (sym (e.looks.image told)) stands)
    (sym (w.beside_sent between) ∙ ap (λ (b : Beside). b.sent) e.looks.beside ∙ w.beside_sent at)
    (report_moments line total book (held_by old) c.requires.idle (view at) (view between)
    (g.met.P.Pages.rests at c.requires.may.sound) stands e.looks.time)
    (report_costs line total book (held_by old) c.requires.idle (view at).reads (view between).reads (view at).syncs (view between).syncs
    (subst R (sym asks) (e.reads_over total book told stands)) e.looks.syncs)

pub returns-in-Err-clause-cause : goal.returns-in-Err-clause-cause
returns-in-Err-clause-cause g c =
    let side = side_of g.P.Streams in
    let e = c.in-Err.ensures.makes in
    unmade_cause c.args.asked.now c.in-Err.error c.step_end.result (side c.args.live.now) (side c.make_report.new.live) c.step_end.ensures
    (e.looks.fit c.requires.may.sound) e.cause

pub returns-in-Ok-clause-faults : goal.returns-in-Ok-clause-faults
returns-in-Ok-clause-faults g c =
    let view = g.P.Pages.view in
    counts_then (fault_in end_fault c.send_frame.result) (view (pages c.args.live.now)) (view (pages c.make_report.new.live))
    (view (pages c.send_frame.new.live)) c.in-Ok.ensures.makes.faults c.send_frame.ensures.faults

pub returns-in-Err-clause-faults : goal.returns-in-Err-clause-faults
returns-in-Err-clause-faults g c =
    let view = g.P.Pages.view in
    unmade_counts c.in-Err.error c.step_end.result (view (pages c.args.live.now))
    (view (pages c.make_report.new.live)) c.step_end.ensures c.in-Err.ensures.makes.faults

pub returns-in-Ok-clause-sends : goal.returns-in-Ok-clause-sends
returns-in-Ok-clause-sends g c = λ line asks.
    let sent = g.P.Streams.sent in
    let w = g.met.P.PageWorld in
    let old = c.args.live.now in
    let mid = c.make_report.new.live in
    let new = c.send_frame.new.live in
    let frame = c.in-Ok.frame in
    let e = c.in-Ok.ensures.makes in
    let made = c.send_frame.ensures in
    sends_answer MayAnswerHost followed_behind c.send_frame.result frame (watched old) (watched mid) (watched new) (sent (pages old))
    (sent (pages mid)) (sent (pages new)) e.fits e.opens
    (watched_same (watched new) (watched mid) made.beside.changed.sessions made.beside.followed_same) (sym (w.beside_sent (pages mid))
    ∙ ap (λ (b : Beside). b.sent) e.looks.beside
    ∙ w.beside_sent (pages old)) made.whole (Some line) (may_report line c.args.asked.now frame asks e.may)
    (report_after line c.args.asked.now frame (follows.followed old) (follows.followed mid) asks e.may c.in-Ok.ensures.followed)
    (report_lasts line c.args.asked.now frame (watched old).sessions (watched mid).sessions asks e.may e.sessions)

pub returns-in-Ok-clause-blames : goal.returns-in-Ok-clause-blames
returns-in-Ok-clause-blames g c = λ line asks. unsent_blames c.send_frame.result c.in-Ok.frame _ _ _ c.send_frame.ensures.stops

pub returns-in-Err-clause-blames : goal.returns-in-Err-clause-blames
returns-in-Err-clause-blames g c = λ line asks.
    let sent = g.P.Streams.sent in
    let w = g.met.P.PageWorld in
    let old = c.args.live.now in
    let mid = c.make_report.new.live in
    let e = c.in-Err.ensures.makes in
    let is_told = shown.IsTold (its.service mid) in
    let unsent : sent (pages mid) ≡ sent (pages old) = sym (w.beside_sent (pages mid)) ∙ ap (λ (b : Beside). b.sent) e.looks.beside
    ∙ w.beside_sent (pages old) in
    step_damaged c.in-Err.error c.step_end.result _
    (λ error. IsReportCause c.args.asked.now error is_told (its.view old) (its.view mid)) c.step_end.ensures e.cause
    (λ page cause. blames_now MayAnswerHost followed_behind BlamesHost is_told (its.view mid).size (its.view mid).image page
    (Some line ∷ []) (watched old) (sent (pages old)) (sent (pages mid)) unsent
    (inl (report_blamed line c.args.asked.now _ is_told (its.view old) (its.view mid) page asks cause)))
