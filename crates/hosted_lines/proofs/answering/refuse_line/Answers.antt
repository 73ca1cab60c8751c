use Rattle.std.proofs.Common.{[], ◌∷◌, None, length, refl, sym, subst}
use Rattle.chart_frames.specs.Frames.{spelling}
use Rattle.chart_frames.specs.declared.frame.Frame.{Frame}
use Rattle.live_service.specs.LiveReplies.{LiveReplied}
use Rattle.hosted_lines.specs.Doing.{held_by, held_with}
use Rattle.hosted_lines.specs.Shown.{pages}
use Rattle.chart_service.specs.MomentLaws.{through_none}
use Rattle.hosted_lines.proofs.EventLemmas.{by_answer, long_replied, reads_answer}
use Rattle.hosted_lines.specs.GoesLaws.{held_same}
use Rattle.hosted_lines.proofs.LineLemmas.{frame_does}
use Rattle.chart_service.specs.Opening.{OpensBy}
use Rattle.live_service.specs.Kinds.{MayAnswerLive}
use Rattle.live_service.proofs.KindLemmas.{refused_stays}
use Rattle.series_book.specs.declared.refusals.Refusal.TheVariants.{LineTooLong}
use Rattle.chart_service.specs.LastShown.{LastsBy, OfRowsLine}
use Rattle.hosted_lines.proofs.AnswersLemmas.{sends_answer, watched_same}
use Rattle.hosted_lines.proofs.BlameLemmas.{unsent_blames}
use Rattle.live_service.specs.Pushing.{followed_after}
use Rattle.hosted_lines.specs.Answers.{watched}
use Rattle.hosted_lines.proofs.answering.refuse_line.Goals as goal

pub returns-clause-does : goal.returns-clause-does
returns-clause-does g c = λ total book told stands sound.
    let view = g.P.Pages.view in
    let sent = g.P.Streams.sent in
    let w = g.met.P.PageWorld in
    let old = c.args.live.now in
    let new = c.send_frame.new.live in
    let at = pages old in
    let at' = pages new in
    let frame = c.refused.result in
    let made = c.send_frame.ensures in
    let n = length (spelling frame) in
    let sends = made.beside.changed.store_is.pages_are in
    let state = held_with total book (held_by old) in
    frame_does (None ∷ []) total state (LiveReplied None) (λ f after replied. by_answer None f state after c.requires.idle replied)
    frame (held_by old) (held_by new) (held_same _ _ _ _ _ _ made.beside.changed.sessions made.beside.followed_same
    made.beside.pending_same) book
    (long_replied frame state c.refused.ensures.frame c.refused.ensures.fits sound c.requires.idle) sound (view at) (view at) (view at')
    (sent at) (sent at) (sent at') stands (through_none (view at) _) refl refl
    (reads_answer None frame state state (view at).reads (view at).reads c.requires.idle
    (long_replied frame state c.refused.ensures.frame c.refused.ensures.fits sound c.requires.idle) refl)
    (w.send_keeps n at at' sends) c.send_frame.result made.whole made.stops (g.met.P.Pages.rests at c.requires.sound)
    (w.send_passes n at at' sends) (w.send_counts n at at' sends)

pub returns-clause-syncs : goal.returns-clause-syncs
returns-clause-syncs g c =
    let w = g.met.P.PageWorld in
    let n = length (spelling c.refused.result) in
    (w.send_keeps n (pages c.args.live.now) (pages c.send_frame.new.live) c.send_frame.ensures.beside.changed.store_is.pages_are).syncs

pub returns-clause-sends : goal.returns-clause-sends
returns-clause-sends g c =
    let sent = g.P.Streams.sent in
    let old = c.args.live.now in
    let new = c.send_frame.new.live in
    let frame = c.refused.result in
    let own = watched old in
    let made = c.send_frame.ensures in
    let O : Frame → Type 0 = λ f. OpensBy f own.sessions own.sessions in
    let L : Frame → Type 0 = λ f. LastsBy (OfRowsLine None) f own.sessions own.sessions in
    sends_answer MayAnswerLive followed_after c.send_frame.result frame own own (watched new) (sent (pages old)) (sent (pages old))
    (sent (pages new)) c.refused.ensures.fits
    (subst O (sym c.refused.ensures.frame) (refused_stays LineTooLong own.sessions))
    (watched_same (watched new) own made.beside.changed.sessions made.beside.followed_same) refl made.whole None c.refused.ensures.frame
    refl (subst L (sym c.refused.ensures.frame) (λ n id last. last))

pub returns-clause-blames : goal.returns-clause-blames
returns-clause-blames g c = unsent_blames c.send_frame.result c.refused.result _ _ _ c.send_frame.ensures.stops
