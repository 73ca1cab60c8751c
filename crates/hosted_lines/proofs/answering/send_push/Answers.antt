use Rattle.std.proofs.Common.{◌≡◌, ◌∙◌, [], ◌∷◌, length, ap, sym, subst, inr}
use Rattle.chart_frames.specs.declared.frame.Frame.{Frame}
use Rattle.live_service.specs.LiveReplies.{LiveState, Pushed}
use Rattle.hosted_lines.specs.Lives.{LivesBy}
use Rattle.live_service.specs.Shown as its
use Rattle.hosted_lines.specs.Doing.{held_by, held_with}
use Rattle.hosted_lines.specs.Shown.{pages}
use Rattle.block_disk.specs.View.{Beside}
use Rattle.chart_frames.specs.Frames.{spelling}
use Rattle.gate_pages.proofs.Moving.{sent_same}
use Rattle.hosted_lines.proofs.EventLemmas.{by_push, reads_push, sound_pushed}
use Rattle.hosted_lines.specs.GoesLaws.{held_same}
use Rattle.hosted_lines.proofs.LineLemmas.{frame_does, nothing_pushed, of_frame, push_moments, push_read, unmade_does}
use Rattle.chart_world.specs.FaultLaws.{counts_then}
use Rattle.run_ends.specs.Faults.{end_fault}
use Rattle.chart_world.specs.Faults.{fault_in}
use Rattle.hosted_lines.proofs.FaultLemmas.{step_short, unmade_counts}
use Rattle.chart_frames.specs.Frames.{Fits}
use Rattle.chart_service.specs.Opening.{OpensBy}
use Rattle.live_service.specs.Kinds.{MayAnswerLive, MayPush}
use Rattle.hosted_lines.proofs.AnswersLemmas.{sends_push, watched_same}
use Rattle.live_service.specs.Pushing.{followed_after}
use Rattle.hosted_lines.specs.Answers.{watched}
use Rattle.live_view.specs.Following.{ShowsOneOf}
use Rattle.chart_service.specs.Shown as shown
use Rattle.chart_service.specs.Blaming.{Blames}
use Rattle.chart_service.specs.LastShown.{LastsBy}
use Rattle.live_service.specs.Blaming.{PushBlamed}
use Rattle.hosted_lines.proofs.BlameLemmas.{blames_now, step_damaged, unsent_blames}
use Rattle.live_view.specs.Live as follows
use Rattle.hosted_lines.proofs.answering.send_push.Goals as goal

pub returns-in-Ok-Some-clause-does : goal.returns-in-Ok-Some-clause-does
returns-in-Ok-Some-clause-does g c = λ total book told stands sound.
    let view = g.P.Pages.view in
    let sent = g.P.Streams.sent in
    let w = g.met.P.PageWorld in
    let old = c.args.live.now in
    let mid = c.push.new.live in
    let new = c.send_frame.new.live in
    let at = pages old in
    let between = pages mid in
    let at' = pages new in
    let frame = c.in-Ok-Some.frame in
    let e = c.in-Ok-Some.ensures in
    let made = c.send_frame.ensures in
    let n = length (spelling frame) in
    let sends = made.beside.changed.store_is.pages_are in
    let state = held_with total book (held_by old) in
    let one : (f : Frame) (after : LiveState) → Pushed f state after
    → LivesBy [] (f ∷ []) state after = λ f after pushed. by_push f state after pushed in
    let reply = of_frame c.in-Ok-Some.field-0 frame (its.AnswersSo Pushed total book old mid) c.in-Ok-Some.field-0-is
    (e.reply total book told stands) in
    frame_does [] total state Pushed one
    frame (held_by mid) (held_by new) (held_same _ _ _ _ _ _ made.beside.changed.sessions made.beside.followed_same
    made.beside.pending_same) reply.book
    reply.so (sound_pushed frame state (held_with total reply.book (held_by mid)) sound reply.so) (view at) (view between) (view at')
    (sent at) (sent between) (sent at') reply.stands
    (push_moments [] total state (view at) (view between) (g.met.P.Pages.rests at c.requires.sound) stands e.moments)
    (sent_same (view at) (view between) _ e.moments)
    (sym (w.beside_sent between) ∙ ap (λ (b : Beside). b.sent) e.steps.beside ∙ w.beside_sent at)
    (reads_push frame state (held_with total reply.book (held_by mid)) (view at).reads (view between).reads reply.so
    (e.reads total book told stands))
    (w.send_keeps n between at' sends) c.send_frame.result made.whole made.stops (g.met.P.Pages.rests between e.sound)
    (w.send_passes n between at' sends) (w.send_counts n between at' sends)

pub returns-in-Err-clause-does : goal.returns-in-Err-clause-does
returns-in-Err-clause-does g c = λ total book told stands sound.
    let view = g.P.Pages.view in
    let sent = g.P.Streams.sent in
    let w = g.met.P.PageWorld in
    let old = c.args.live.now in
    let mid = c.push.new.live in
    let at = pages old in
    let between = pages mid in
    let e = c.in-Err.ensures in
    let state = held_with total book (held_by old) in
    let there = let S : _ → Type 0 = λ i. Rattle.stored_book.specs.Standing.StandsForBook i total book in
    subst S (sym (e.unchanged.image told)) stands in
    unmade_does [] total state (held_by mid) (view at) (view between) (sent at)
    (sent between) c.in-Err.error c.step_end.result c.step_end.ensures (e.standing total book told stands)
    (nothing_pushed c.in-Err.error (view between).image total book there)
    (sym (w.beside_sent between) ∙ ap (λ (b : Beside). b.sent) e.steps.beside ∙ w.beside_sent at)
    (push_moments [] total state (view at) (view between) (g.met.P.Pages.rests at c.requires.sound) stands e.moments)
    (push_read state (view at).reads (view between).reads (e.reads total book told stands))

pub returns-in-Ok-Some-clause-syncs : goal.returns-in-Ok-Some-clause-syncs
returns-in-Ok-Some-clause-syncs g c =
    let w = g.met.P.PageWorld in
    (w.send_keeps (length (spelling c.in-Ok-Some.frame)) (pages c.push.new.live)
    (pages c.send_frame.new.live) c.send_frame.ensures.beside.changed.store_is.pages_are).syncs ∙ c.in-Ok-Some.ensures.unchanged.syncs

pub returns-in-Err-clause-syncs : goal.returns-in-Err-clause-syncs
returns-in-Err-clause-syncs g c = c.in-Err.ensures.unchanged.syncs

pub returns-in-Ok-Some-clause-faults : goal.returns-in-Ok-Some-clause-faults
returns-in-Ok-Some-clause-faults g c =
    let view = g.P.Pages.view in
    counts_then (fault_in end_fault c.send_frame.result) (view (pages c.args.live.now)) (view (pages c.push.new.live))
    (view (pages c.send_frame.new.live)) c.in-Ok-Some.ensures.faults c.send_frame.ensures.faults

pub returns-in-Err-clause-faults : goal.returns-in-Err-clause-faults
returns-in-Err-clause-faults g c =
    let view = g.P.Pages.view in
    unmade_counts c.in-Err.error c.step_end.result (view (pages c.args.live.now))
    (view (pages c.push.new.live)) c.step_end.ensures c.in-Err.ensures.faults

pub returns-in-Err-clause-long : goal.returns-in-Err-clause-long
returns-in-Err-clause-long g c = λ same. step_short c.in-Err.error c.step_end.result c.step_end.ensures same

pub returns-in-Ok-Some-clause-sends : goal.returns-in-Ok-Some-clause-sends
returns-in-Ok-Some-clause-sends g c =
    let sent = g.P.Streams.sent in
    let w = g.met.P.PageWorld in
    let old = c.args.live.now in
    let mid = c.push.new.live in
    let new = c.send_frame.new.live in
    let e = c.in-Ok-Some.ensures in
    let made = c.send_frame.ensures in
    let frame = c.in-Ok-Some.frame in
    let some = c.in-Ok-Some.field-0 in
    let is = c.in-Ok-Some.field-0-is in
    let own = watched old in
    let behind = watched mid in
    sends_push MayAnswerLive followed_after c.send_frame.result frame own behind (watched new) (sent (pages old)) (sent (pages mid))
    (sent (pages new)) (of_frame some frame Fits is e.fits)
    (of_frame some frame (λ f. OpensBy f own.sessions behind.sessions) is e.opens)
    (watched_same (watched new) (watched mid) made.beside.changed.sessions made.beside.followed_same) (sym (w.beside_sent (pages mid))
    ∙ ap (λ (b : Beside). b.sent) e.steps.beside ∙ w.beside_sent (pages old)) made.whole
    (of_frame some frame (λ f. ShowsOneOf (follows.followed old) f) is e.shows) e.followed
    (of_frame some frame (λ f. LastsBy (λ was. was) f own.sessions behind.sessions) is e.lasts)

pub returns-in-Ok-Some-clause-blames : goal.returns-in-Ok-Some-clause-blames
returns-in-Ok-Some-clause-blames g c = unsent_blames c.send_frame.result c.in-Ok-Some.frame _ _ _ c.send_frame.ensures.stops

pub returns-in-Err-clause-blames : goal.returns-in-Err-clause-blames
returns-in-Err-clause-blames g c =
    let sent = g.P.Streams.sent in
    let w = g.met.P.PageWorld in
    let old = c.args.live.now in
    let mid = c.push.new.live in
    let e = c.in-Err.ensures in
    let unsent : sent (pages mid) ≡ sent (pages old) = sym (w.beside_sent (pages mid)) ∙ ap (λ (b : Beside). b.sent) e.steps.beside
    ∙ w.beside_sent (pages old) in
    step_damaged c.in-Err.error c.step_end.result _ (PushBlamed old mid) c.step_end.ensures e.blames
    (λ page blames. blames_now MayAnswerLive followed_after Blames (shown.IsTold (its.service mid)) (its.view mid).size
    (its.view mid).image page [] (watched old) (sent (pages old)) (sent (pages mid)) unsent (inr blames))
