use Rattle.std.proofs.Common.{◌≡◌, ◌∙◌, [], ◌∷◌, List, Option, Some, length, ap, sym, subst, inl, arith, ℕ}
use Rattle.block_disk.specs.View.{Beside}
use Rattle.chart_frames.specs.Frames.{spelling}
use Rattle.chart_frames.specs.declared.frame.Frame.{Frame}
use Rattle.live_service.specs.LiveReplies.{LiveReplied, LiveState}
use Rattle.hosted_lines.specs.Lives.{LivesBy}
use Rattle.hosted_lines.specs.Doing.{held_by, held_with}
use Rattle.hosted_lines.specs.Shown.{pages}
use Rattle.chart_service.proofs.Sending.{text_is}
use Rattle.chart_service.specs.ReadingBlocks.{ReadsLine}
use Rattle.chart_service.specs.Replies.{line_text}
use Rattle.chart_service.specs.Syncing.{edit_of}
use Rattle.hosted_lines.proofs.SyncLemmas.{edit_syncs}
use Rattle.gate_pages.proofs.Moving.{sent_same}
use Rattle.hosted_lines.proofs.EventLemmas.{by_answer, reads_answer, sound_replied}
use Rattle.hosted_lines.specs.GoesLaws.{held_same}
use Rattle.hosted_lines.proofs.LineLemmas.{frame_does, line_read, made_moments, nothing_with, unmade_does}
use Rattle.chart_world.specs.FaultLaws.{counts_then}
use Rattle.run_ends.specs.Faults.{end_fault}
use Rattle.chart_world.specs.Faults.{fault_in}
use Rattle.hosted_lines.proofs.FaultLemmas.{step_short, unmade_counts}
use Rattle.live_service.specs.Kinds.{MayAnswerLive}
use Rattle.hosted_lines.proofs.AnswersLemmas.{sends_answer, watched_same}
use Rattle.live_service.specs.Pushing.{followed_after}
use Rattle.hosted_lines.specs.Answers.{watched}
use Rattle.live_view.specs.Live as follows
use Rattle.live_service.specs.Shown as its
use Rattle.chart_service.specs.Shown as shown
use Rattle.chart_service.specs.Blaming.{Blames}
use Rattle.chart_service.specs.Called.{LineBlamed}
use Rattle.chart_service.specs.LastShown.{LastsBy, OfRowsLine}
use Rattle.hosted_lines.proofs.BlameLemmas.{blames_now, step_damaged, unsent_blames}
use Rattle.hosted_lines.proofs.answering.answer_frame.Goals as goal

pub returns-in-Ok-clause-does : goal.returns-in-Ok-clause-does
returns-in-Ok-clause-does g c = λ total book told stands sound.
    let view = g.P.Pages.view in
    let sent = g.P.Streams.sent in
    let w = g.met.P.PageWorld in
    let old = c.args.live.now in
    let mid = c.step_line.new.live in
    let new = c.send_frame.new.live in
    let at = pages old in
    let between = pages mid in
    let at' = pages new in
    let frame = c.in-Ok.frame in
    let e = c.in-Ok.ensures in
    let made = c.send_frame.ensures in
    let n = length (spelling frame) in
    let sends = made.beside.changed.store_is.pages_are in
    let text = c.args.line.now in
    let state = held_with total book (held_by old) in
    let Reply = LiveReplied (line_text text) in
    let one : (f : Frame) (after : LiveState) → LiveReplied (line_text text) f state after
    → LivesBy (Some text ∷ []) (f ∷ []) state after = λ f after replied.
    let L : Option (List ℕ) → Type 0 = λ l. LiveReplied l f state after in
    by_answer (Some text) f state after c.requires.idle (subst L (text_is text c.requires.short) replied) in
    let reply = e.reply total book told stands in
    let R : Option (List ℕ) → Type 0 = λ l. ReadsLine l state.state (view at).reads (view between).reads in
    let M : Option (List ℕ) → Type 0 = λ l. LiveReplied l frame state (held_with total reply.book (held_by mid)) in
    let passes = e.moments total book told stands in
    frame_does (Some text ∷ []) total state Reply one
    frame (held_by mid) (held_by new) (held_same _ _ _ _ _ _ made.beside.changed.sessions made.beside.followed_same
    made.beside.pending_same) reply.book
    reply.so (sound_replied (line_text text) frame state (held_with total reply.book (held_by mid)) sound reply.so) (view at) (view between)
    (view at') (sent at) (sent between) (sent at') reply.stands
    (made_moments (Some text ∷ []) total state Reply one (view at) (view between) passes) (sent_same (view at) (view between) _ passes)
    (sym (w.beside_sent between) ∙ ap (λ (b : Beside). b.sent) e.steps.beside ∙ w.beside_sent at)
    (reads_answer (Some text) frame state (held_with total reply.book (held_by mid)) (view at).reads (view between).reads c.requires.idle
    (subst M (text_is text c.requires.short) reply.so) (subst R (text_is text c.requires.short) (e.reads total book told stands)))
    (w.send_keeps n between at' sends) c.send_frame.result made.whole made.stops (g.met.P.Pages.rests between e.sound)
    (w.send_passes n between at' sends) (w.send_counts n between at' sends)

pub returns-in-Err-clause-does : goal.returns-in-Err-clause-does
returns-in-Err-clause-does g c = λ total book told stands sound.
    let view = g.P.Pages.view in
    let sent = g.P.Streams.sent in
    let w = g.met.P.PageWorld in
    let old = c.args.live.now in
    let mid = c.step_line.new.live in
    let at = pages old in
    let between = pages mid in
    let e = c.in-Err.ensures in
    let text = c.args.line.now in
    let state = held_with total book (held_by old) in
    let Reply = LiveReplied (line_text text) in
    let one : (f : Frame) (after : LiveState) → LiveReplied (line_text text) f state after
    → LivesBy (Some text ∷ []) (f ∷ []) state after = λ f after replied.
    let L : Option (List ℕ) → Type 0 = λ l. LiveReplied l f state after in
    by_answer (Some text) f state after c.requires.idle (subst L (text_is text c.requires.short) replied) in
    let passes = e.moments total book told stands in
    let R : Option (List ℕ) → Type 0 = λ l. ReadsLine l state.state (view at).reads (view between).reads in
    unmade_does (Some text ∷ []) total state (held_by mid) (view at) (view between) (sent at)
    (sent between) c.in-Err.error c.step_end.result c.step_end.ensures (e.standing total book told stands)
    (nothing_with c.in-Err.error _ (view at) (view between) total book told e.unchanged stands)
    (sym (w.beside_sent between) ∙ ap (λ (b : Beside). b.sent) e.steps.beside ∙ w.beside_sent at)
    (made_moments (Some text ∷ []) total state Reply one (view at) (view between) passes)
    (line_read (Some text) state (view at).reads (view between).reads
    (subst R (text_is text c.requires.short) (e.reads total book told stands)))

pub returns-in-Ok-clause-syncs : goal.returns-in-Ok-clause-syncs
returns-in-Ok-clause-syncs g c =
    let view = g.P.Pages.view in
    let w = g.met.P.PageWorld in
    let at = pages c.args.live.now in
    let mid = pages c.step_line.new.live in
    let new = pages c.send_frame.new.live in
    let e = c.in-Ok.ensures in
    let text = c.args.line.now in
    let kept = w.send_keeps (length (spelling c.in-Ok.frame)) mid new c.send_frame.ensures.beside.changed.store_is.pages_are in
    let L : Option (List ℕ) → Type 0 = λ l. edit_of l ≡ [] → (view mid).syncs ≡ (view at).syncs in
    let few = edit_syncs (edit_of (Some text)) (view at).syncs (view mid).syncs e.steps.syncs.high
    (subst L (text_is text c.requires.short) (λ none. (e.idle none).syncs)) in
    omega (arith, few, kept.syncs)

pub returns-in-Err-clause-syncs : goal.returns-in-Err-clause-syncs
returns-in-Err-clause-syncs g c =
    let view = g.P.Pages.view in
    let at = pages c.args.live.now in
    let mid = pages c.step_line.new.live in
    let e = c.in-Err.ensures in
    let text = c.args.line.now in
    let L : Option (List ℕ) → Type 0 = λ l. edit_of l ≡ [] → (view mid).syncs ≡ (view at).syncs in
    edit_syncs (edit_of (Some text)) (view at).syncs (view mid).syncs e.steps.syncs.high
    (subst L (text_is text c.requires.short) (λ none. (e.idle none).syncs))

pub returns-in-Ok-clause-faults : goal.returns-in-Ok-clause-faults
returns-in-Ok-clause-faults g c =
    let view = g.P.Pages.view in
    counts_then (fault_in end_fault c.send_frame.result) (view (pages c.args.live.now)) (view (pages c.step_line.new.live))
    (view (pages c.send_frame.new.live)) c.in-Ok.ensures.faults c.send_frame.ensures.faults

pub returns-in-Err-clause-faults : goal.returns-in-Err-clause-faults
returns-in-Err-clause-faults g c =
    let view = g.P.Pages.view in
    unmade_counts c.in-Err.error c.step_end.result (view (pages c.args.live.now))
    (view (pages c.step_line.new.live)) c.step_end.ensures c.in-Err.ensures.faults

pub returns-in-Err-clause-long : goal.returns-in-Err-clause-long
returns-in-Err-clause-long g c = λ same. step_short c.in-Err.error c.step_end.result c.step_end.ensures same

pub returns-in-Ok-clause-rises : goal.returns-in-Ok-clause-rises
returns-in-Ok-clause-rises g c =
    let kept = g.met.P.PageWorld.send_keeps (length (spelling c.in-Ok.frame)) (pages c.step_line.new.live)
    (pages c.send_frame.new.live) c.send_frame.ensures.beside.changed.store_is.pages_are in
    omega (arith, c.in-Ok.ensures.steps.syncs.low, kept.syncs)

pub returns-in-Err-clause-rises : goal.returns-in-Err-clause-rises
returns-in-Err-clause-rises g c = c.in-Err.ensures.steps.syncs.low

pub returns-in-Ok-clause-sends : goal.returns-in-Ok-clause-sends
returns-in-Ok-clause-sends g c =
    let sent = g.P.Streams.sent in
    let w = g.met.P.PageWorld in
    let old = c.args.live.now in
    let mid = c.step_line.new.live in
    let new = c.send_frame.new.live in
    let e = c.in-Ok.ensures in
    let made = c.send_frame.ensures in
    let text = c.args.line.now in
    let L : Option (List ℕ) → Type 0 = λ l. MayAnswerLive l c.in-Ok.frame in
    let F : Option (List ℕ) → Type 0 = λ l. follows.followed mid ≡ followed_after l c.in-Ok.frame (follows.followed old) in
    let W : Option (List ℕ) → Type 0 = λ l. LastsBy (OfRowsLine l) c.in-Ok.frame (watched old).sessions (watched mid).sessions in
    sends_answer MayAnswerLive followed_after c.send_frame.result c.in-Ok.frame (watched old) (watched mid) (watched new) (sent (pages old))
    (sent (pages mid)) (sent (pages new)) e.fits
    e.opens (watched_same (watched new) (watched mid) made.beside.changed.sessions made.beside.followed_same)
    (sym (w.beside_sent (pages mid)) ∙ ap (λ (b : Beside). b.sent) e.steps.beside
    ∙ w.beside_sent (pages old)) made.whole (Some text) (subst L (text_is text c.requires.short) e.may)
    (subst F (text_is text c.requires.short) e.followed) (subst W (text_is text c.requires.short) e.lasts)

pub returns-in-Ok-clause-blames : goal.returns-in-Ok-clause-blames
returns-in-Ok-clause-blames g c = unsent_blames c.send_frame.result c.in-Ok.frame _ _ _ c.send_frame.ensures.stops

pub returns-in-Err-clause-blames : goal.returns-in-Err-clause-blames
returns-in-Err-clause-blames g c =
    let sent = g.P.Streams.sent in
    let w = g.met.P.PageWorld in
    let old = c.args.live.now in
    let mid = c.step_line.new.live in
    let e = c.in-Err.ensures in
    let text = c.args.line.now in
    let L : Option (List ℕ) → Type 0 = λ l. LineBlamed l (its.service old) (its.service mid) c.in-Err.error in
    let unsent : sent (pages mid) ≡ sent (pages old) = sym (w.beside_sent (pages mid)) ∙ ap (λ (b : Beside). b.sent) e.steps.beside
    ∙ w.beside_sent (pages old) in
    step_damaged c.in-Err.error c.step_end.result _ (LineBlamed (Some text) (its.service old) (its.service mid)) c.step_end.ensures
    (subst L (text_is text c.requires.short) e.blames)
    (λ page blames. blames_now MayAnswerLive followed_after Blames (shown.IsTold (its.service mid)) (its.view mid).size
    (its.view mid).image page (Some text ∷ []) (watched old) (sent (pages old)) (sent (pages mid)) unsent (inl blames))
