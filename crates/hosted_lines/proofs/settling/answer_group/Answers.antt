use Rattle.std.proofs.Common.{◌∙◌, List, length, ap, sym, subst, ◌≡◌, inl}
use Rattle.block_disk.specs.View.{Beside}
use Rattle.chart_frames.specs.declared.frame.Frame.{Frame}
use Rattle.gate_pages.proofs.Moving.{sent_same}
use Rattle.live_service.specs.LiveReplies.{GroupReplied}
use Rattle.hosted_lines.specs.Doing.{held_by, held_with}
use Rattle.hosted_lines.specs.GoesLaws.{held_same}
use Rattle.hosted_lines.specs.Lives.{spelled}
use Rattle.hosted_lines.specs.Shown.{pages}
use Rattle.hosted_lines.proofs.GroupLemmas.{group_sends, group_unmade}
use Rattle.hosted_lines.proofs.SpelledLemmas.{sound_edits}
use Rattle.std.specs.Prelude.{OnOk}
use Rattle.block_disk.specs.Streams.{sent_after}
use Rattle.hosted_lines.proofs.AnswersLemmas.{sends_group, watched_same}
use Rattle.hosted_lines.specs.Answers.{MayAnswerHost, followed_behind, watched}
use Rattle.chart_service.specs.Shown as shown
use Rattle.live_service.specs.Shown as its
use Rattle.chart_service.specs.EditDamage.{NamesBadForEdit}
use Rattle.hosted_lines.specs.Blaming.{BlamesHost}
use Rattle.hosted_lines.proofs.BlameLemmas.{blames_now, step_damaged}
use Rattle.hosted_lines.proofs.HostBlames.{group_blamed, unsent_frames}
use Rattle.hosted_lines.proofs.settling.answer_group.Goals as goal

pub returns-in-Ok-clause-does : goal.returns-in-Ok-clause-does
returns-in-Ok-clause-does g c = λ lines spell total book told stands sound.
    let view = g.P.Pages.view in
    let sent = g.P.Streams.sent in
    let w = g.met.P.PageWorld in
    let old = c.args.live.now in
    let mid = c.step_edits.new.live in
    let new = c.send_frames.new.live in
    let at = pages old in
    let between = pages mid in
    let at' = pages new in
    let frames : List Frame = c.as_slice.result.now in
    let e = c.in-Ok.ensures in
    let made = c.send_frames.ensures in
    let n = length (spelled frames) in
    let sends = made.beside.changed.store_is.pages_are in
    let reply = e.reply total book told stands in
    let F : List Frame → Type 0 = λ f. GroupReplied c.args.edits.now f (held_with total book (held_by old))
    (held_with total reply.book (held_by mid)) in
    let replied = subst F (sym c.as_slice.ensures.value) reply.so in
    let passes = e.moments total book told stands in
    group_sends lines c.args.edits.now total book (held_by old) spell c.requires.few c.requires.idle
    frames (held_by mid) (held_by new) (held_same _ _ _ _ _ _ made.beside.changed.sessions made.beside.followed_same
    made.beside.pending_same) reply.book replied
    (sound_edits c.args.edits.now frames _ _ replied.replied sound) (view at) (view between) (view at') (sent at) (sent between)
    (sent at') reply.stands passes (sent_same (view at) (view between) _ passes)
    (sym (w.beside_sent between) ∙ ap (λ (b : Beside). b.sent) e.moves.beside ∙ w.beside_sent at)
    (e.reads total book told stands) (e.syncs total book told stands)
    (w.send_keeps n between at' sends) c.send_frames.result made.whole made.stops (g.met.P.Pages.rests between (e.sound (λ is. cc)))
    (w.send_passes n between at' sends) (w.send_counts n between at' sends)

pub returns-in-Err-clause-does : goal.returns-in-Err-clause-does
returns-in-Err-clause-does g c = λ lines spell total book told stands sound.
    let view = g.P.Pages.view in
    let sent = g.P.Streams.sent in
    let w = g.met.P.PageWorld in
    let old = c.args.live.now in
    let mid = c.step_edits.new.live in
    let at = pages old in
    let between = pages mid in
    let e = c.in-Err.ensures in
    group_unmade lines c.args.edits.now total book (held_by old) spell c.requires.few c.requires.idle c.in-Err.error c.step_end.result
    (held_by mid) (view at) (view between) (sent at) (sent between) c.step_end.ensures
    (e.standing total book told stands) (λ other. e.left total book told stands (λ is. other (cc)))
    (sym (w.beside_sent between) ∙ ap (λ (b : Beside). b.sent) e.moves.beside ∙ w.beside_sent at)
    (e.moments total book told stands) (e.reads total book told stands) (e.syncs total book told stands)

pub returns-in-Ok-clause-sends : goal.returns-in-Ok-clause-sends
returns-in-Ok-clause-sends g c = λ lines spell.
    let sent = g.P.Streams.sent in
    let w = g.met.P.PageWorld in
    let old = c.args.live.now in
    let mid = c.step_edits.new.live in
    let new = c.send_frames.new.live in
    let frames = c.in-Ok.frames.items in
    let e = c.in-Ok.ensures in
    let made = c.send_frames.ensures in
    let W : List Frame → Type 0 = λ f. OnOk c.send_frames.result (sent (pages new) ≡ sent_after (spelled f) (sent (pages mid))) in
    sends_group c.send_frames.result lines c.args.edits.now frames (watched old) (watched mid) (watched new) (sent (pages old))
    (sent (pages mid)) (sent (pages new)) spell e.each e.replies e.fits e.sessions e.followed
    (watched_same (watched new) (watched mid) made.beside.changed.sessions made.beside.followed_same) (sym (w.beside_sent (pages mid))
    ∙ ap (λ (b : Beside). b.sent) e.moves.beside ∙ w.beside_sent (pages old)) (subst W c.as_slice.ensures.value made.whole)

pub returns-in-Ok-clause-blames : goal.returns-in-Ok-clause-blames
returns-in-Ok-clause-blames g c = λ lines spell. unsent_frames c.send_frames.result _ _ _ _ c.send_frames.ensures.stops

pub returns-in-Err-clause-blames : goal.returns-in-Err-clause-blames
returns-in-Err-clause-blames g c = λ lines spell.
    let sent = g.P.Streams.sent in
    let w = g.met.P.PageWorld in
    let old = c.args.live.now in
    let mid = c.step_edits.new.live in
    let e = c.in-Err.ensures in
    let unsent : sent (pages mid) ≡ sent (pages old) = sym (w.beside_sent (pages mid)) ∙ ap (λ (b : Beside). b.sent) e.moves.beside
    ∙ w.beside_sent (pages old) in
    step_damaged c.in-Err.error c.step_end.result _
    (NamesBadForEdit (shown.IsTold (its.service mid)) (its.view mid).size (its.view mid).image) c.step_end.ensures e.blames
    (λ page bad. blames_now MayAnswerHost followed_behind BlamesHost (shown.IsTold (its.service mid)) (its.view mid).size
    (its.view mid).image page lines (watched old) (sent (pages old)) (sent (pages mid)) unsent
    (inl (group_blamed _ (shown.IsTold (its.service mid)) (its.view mid).size
    (its.view mid).image page lines c.args.edits.now spell c.requires.some bad)))
