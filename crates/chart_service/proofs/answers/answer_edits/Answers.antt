use Rattle.std.proofs.Common.{◌≡◌, ◌∙◌, ◌≤◌, ℕ, List, All, Err, length, ap, sym, subst, arith}
use Rattle.block_disk.specs.Counts.{HasRisen}
use Rattle.block_disk.specs.View.{Image, sent_now}
use Rattle.chart_frames.specs.declared.frame.Frame.{Frame}
use Rattle.chart_frames.specs.Frames.{Fits}
use Rattle.chart_world.specs.FaultLaws.{counts_then}
use Rattle.chart_world.specs.Faults.{fault_in}
use Rattle.series_book.specs.EditLists.{after_edits}
use Rattle.series_book.specs.declared.one_series.Series.{Series}
use Rattle.stored_book.specs.Standing.{StandsForBook}
use Rattle.zoom_session.specs.Sessions.{is_open}
use Rattle.chart_service.specs.EditGroups.{IsEditReply, RepliesToEdits}
use Rattle.chart_service.specs.Faulting.{answer_fault}
use Rattle.chart_service.specs.Knowing.{EndsKnown}
use Rattle.chart_service.specs.Answering.{EndsAtBad}
use Rattle.chart_service.specs.Making.{LinesStop, LinesMoments, IsReplyEnd}
use Rattle.chart_service.specs.Moments.{Through}
use Rattle.chart_service.specs.Serving.{end_of_step}
use Rattle.chart_service.specs.Shown as shown
use Rattle.chart_service.specs.Stepping.{StandsAfter, state_of}
use Rattle.chart_service.specs.declared.failure.AnswerEnd.TheVariants.{Serve}
use Rattle.gate_pages.specs.GateLaws.{goes_then}
use Rattle.chart_service.proofs.Blaming.{blames_error, edits_blame, group_blamed}
use Rattle.chart_service.proofs.DiskKept.{serves_group, serves_kept, serves_then}
use Rattle.chart_service.proofs.Ends.{err_is, error_is, on_err, step_short, step_unread, step_unsent, step_fault, step_bad, reply_bad}
use Rattle.chart_service.proofs.Ends.{not_of_disk, not_of_input, not_of_length, stays}
use Rattle.chart_service.proofs.Faulting.{step_goes}
use Rattle.chart_service.proofs.Known.{known_kept}
use Rattle.chart_service.proofs.GroupReplies.{if_told, group_done, group_stops, edits_stop, edits_moments, group_moments}
use Rattle.chart_service.proofs.Naming.{first_step, gives_error, edits_give, edits_may}
use Rattle.chart_service.proofs.Sending.{error_goes, error_so}
use Rattle.chart_service.proofs.SyncLemmas.{always_ok, replied_book}
use Rattle.chart_service.proofs.answers.answer_edits.Goals as goal

pub returns-in_err-frames : goal.returns-in_err-frames
returns-in_err-frames g c =
    let view = g.P.Pages.view in
    let told_in = g.P.Pages.told in
    let own = c.args.service.now.sessions in
    let pages = shown.pages c.args.service.now in
    let pages' = shown.pages c.step_edits.new.self in
    let e = c.in_err-frames.field-0.0 in
    let no = c.in_err-frames.ensures in
    let made = c.step_edits.ensures in
    let image = (view pages').image in
    let result = c.from_residual.result in
    let residual = c.from_residual.ensures.1 in
    let is = error_is result (Serve (end_of_step e)) residual in
    let sent : g.P.Streams.sent pages' ≡ g.P.Streams.sent pages =
    sym (g.met.P.PageWorld.beside_sent pages') ∙ ap (λ b. b.sent) made.moves.beside ∙ g.met.P.PageWorld.beside_sent pages in
    record {
      done = λ lines spells total book told stands. on_err result _ _ residual;
      stops = λ lines spells total book told stands.
          error_goes (LinesStop g.R.Reply.makes lines c.args.kept.now c.args.kept.now
          (state_of book total own) image c.step_edits.new.self.sessions (g.P.Streams.sent pages) (g.P.Streams.sent pages')) result
          (Serve (end_of_step e)) residual
          (edits_stop g.R.Reply.makes c.args.kept.now lines c.args.edits.now total book own c.step_edits.new.self.sessions image
          (g.P.Streams.sent pages) (g.P.Streams.sent pages') e spells made.sessions sent (no.standing total book told stands)
          (λ not. no.left total book told stands (λ is. not (err_is is))));
      moments = λ lines spells total book told stands.
          let first = state_of book total own in
          if_told (Through (view pages) (view pages') (LinesMoments g.R.Reply.makes c.args.kept.now lines first (sent_now (view pages))))
          (g.P.Streams.sent pages)
          (edits_moments g.R.Reply.makes c.args.kept.now lines c.args.edits.now first (view pages) (view pages') spells
          (made.moments total book told stands));
      reads = made.reads;
      rises = made.moves.reads;
      syncs = made.syncs;
      behind = λ total book told stands. on_err result _ _ residual;
      known = λ knows follows known. on_err result _ _ residual;
      named = λ knows follows known. error_goes (EndsKnown g.R.Reply.makes knows) result (Serve (end_of_step e)) residual tt;
      gives = λ lines spells. gives_error g.R.Reply.makes lines c.args.kept.now c.args.kept.now own c.step_edits.new.self.sessions
          (g.P.Streams.sent pages) (g.P.Streams.sent pages') result (Serve (end_of_step e)) residual
          (first_step g.R.Reply.makes c.args.kept.now (λ n. is_open n own) (g.P.Streams.sent pages) (g.P.Streams.sent pages') e sent);
      blames = λ lines spells. blames_error g.R.Reply.makes lines c.args.kept.now c.args.kept.now own c.step_edits.new.self.sessions
          (g.P.Streams.sent pages) (g.P.Streams.sent pages') (told_in pages') (view pages').size image result
          (Serve (end_of_step e)) residual
          (group_blamed g.R.Reply.makes lines c.args.edits.now c.args.kept.now (g.P.Streams.sent pages) (g.P.Streams.sent pages')
          (told_in pages') (view pages').size image own e spells c.requires.some sent no.blames);
      send = λ fault. step_unsent e (sym is ∙ fault);
      disk = λ fault. no.disk (ap Err (step_fault e (sym is ∙ fault)));
      faults = step_goes result e (view pages) (view pages') residual no.faults;
      read = λ fault. step_unread e (sym is ∙ fault);
      long = λ fault. step_short e (sym is ∙ fault);
      bad = error_goes (EndsAtBad (told_in pages') (view pages').size image) result (Serve (end_of_step e)) residual
          (step_bad (told_in pages') (view pages').size image e no.bad);
      serves = serves_group (told_in pages) (told_in pages') (view pages) (view pages') made.moves;
      goes_on = made.goes_on;
      sound = λ other. no.sound (λ fault. other (is ∙ ap (λ x. Err (Serve (end_of_step x))) (err_is fault)));
      total = made.total;
      left = sym (g.met.P.PageWorld.beside_left pages') ∙ ap (λ b. b.left) made.moves.beside ∙ g.met.P.PageWorld.beside_left pages;
      read_faults = sym (g.met.P.PageWorld.beside_read_faults pages') ∙ ap (λ b. b.read_faults) made.moves.beside
          ∙ g.met.P.PageWorld.beside_read_faults pages;
      send_faults = stays (g.P.Streams.send_faults pages) (g.P.Streams.send_faults pages')
          (sym (g.met.P.PageWorld.beside_send_faults pages') ∙ ap (λ b. b.send_faults) made.moves.beside
          ∙ g.met.P.PageWorld.beside_send_faults pages);
      pieces = sym (g.met.P.PageWorld.beside_pieces pages') ∙ ap (λ b. b.pieces) made.moves.beside ∙ g.met.P.PageWorld.beside_pieces pages;
    }

pub returns : goal.returns
returns g c =
    let view = g.P.Pages.view in
    let told_in = g.P.Pages.told in
    let under = g.P.Pages.under in
    let sends = g.P.Streams.send_faults in
    let pages = shown.pages c.args.service.now in
    let mid = shown.pages c.step_edits.new.self in
    let new = shown.pages c.send_replies.new.service in
    let own = c.args.service.now.sessions in
    let kept = c.args.kept.now in
    let kept' = c.send_replies.new.kept in
    let edits = c.args.edits.now in
    let frames = c.as_slice.result.now in
    let result = c.send_replies.result in
    let made = c.step_edits.ensures in
    let yes = c.in_ok-frames.ensures in
    let rest = c.send_replies.ensures in
    let beside = made.moves.beside in
    let sent : g.P.Streams.sent mid ≡ g.P.Streams.sent pages = sym (g.met.P.PageWorld.beside_sent mid) ∙ ap (λ b. b.sent) beside
    ∙ g.met.P.PageWorld.beside_sent pages in
    let same : sends mid ≡ sends pages = sym (g.met.P.PageWorld.beside_send_faults mid) ∙ ap (λ b. b.send_faults) beside
    ∙ g.met.P.PageWorld.beside_send_faults pages in
    let Risen : ℕ → Type 0 = λ n. HasRisen n (sends new) in
    let Low : ℕ → Type 0 = λ n. n ≤ sends new in
    let A : List Frame → Type 0 = λ l. All Fits l in
    let E : List Frame → Type 0 = λ l. All IsEditReply l in
    record {
      done = λ lines spells total book told stands.
          let first = state_of book total own in
          let R : List Frame → Type 0 = λ l. StandsAfter total (view mid).image c.step_edits.new.self.sessions
          (RepliesToEdits edits l first) in
          group_done g.R.Reply.makes kept kept' result lines edits frames total first (view mid).image
          (view new).image c.step_edits.new.self.sessions c.send_replies.new.service.sessions
          (g.P.Streams.sent pages) (g.P.Streams.sent mid) (g.P.Streams.sent new) spells
          (subst R (sym c.as_slice.ensures.value) (yes.reply total book told stands)) rest.keeps.disk.image rest.sessions sent
          rest.done;
      stops = λ lines spells total book told stands.
          let first = state_of book total own in
          let R : List Frame → Type 0 = λ l. StandsAfter total (view mid).image c.step_edits.new.self.sessions
          (RepliesToEdits edits l first) in
          group_stops g.R.Reply.makes kept kept' lines edits frames first (view mid).image
          (view new).image c.step_edits.new.self.sessions c.send_replies.new.service.sessions
          (g.P.Streams.sent pages) (g.P.Streams.sent mid) (g.P.Streams.sent new) spells
          (subst R (sym c.as_slice.ensures.value) (yes.reply total book told stands)) rest.keeps.disk.image rest.sessions sent
          result rest.stops;
      moments = λ lines spells total book told stands.
          let first = state_of book total own in
          let R : List Frame → Type 0 = λ l. StandsAfter total (view mid).image c.step_edits.new.self.sessions
          (RepliesToEdits edits l first) in
          group_moments g.R.Reply.makes kept lines edits frames first (view pages) (view mid) (view new) c.step_edits.new.self.sessions
          (g.P.Streams.sent pages) (g.P.Streams.sent mid) spells (made.moments total book told stands)
          (g.met.P.Pages.rests mid (yes.sound (λ e. cc (e))))
          (subst R (sym c.as_slice.ensures.value) (yes.reply total book told stands)) sent rest.moments;
      reads = λ total book told stands. omega (arith, made.reads total book told stands, rest.keeps.disk.reads);
      rises = omega (arith, made.moves.reads, rest.keeps.disk.reads);
      syncs = λ total book told stands. omega (arith, made.syncs total book told stands, rest.keeps.disk.syncs);
      behind = λ total book told stands.
          let after = yes.reply total book told stands in
          let first = state_of book total own in
          let book_is = replied_book edits c.in_ok-frames.frames.items first
          (state_of after.book total c.step_edits.new.self.sessions) after.so in
          let B : List Series → Type 0 = λ b. StandsForBook (view new).image total b in
          let I : Image → Type 0 = λ i. StandsForBook i total after.book in
          always_ok result (StandsForBook (view new).image total (after_edits total book edits))
          (subst B book_is (subst I (sym rest.keeps.disk.image) after.stands));
      known = λ knows follows known. rest.known knows follows
          (known_kept knows kept own c.step_edits.new.self.sessions made.sessions known);
      named = λ knows follows known. rest.named knows follows
          (known_kept knows kept own c.step_edits.new.self.sessions made.sessions known);
      gives = λ lines spells. edits_give g.R.Reply.makes lines kept kept' result frames own c.send_replies.new.service.sessions
          (g.P.Streams.sent pages) (g.P.Streams.sent mid) (g.P.Streams.sent new)
          (subst A (sym c.as_slice.ensures.value) yes.fits)
          (edits_may lines edits frames spells (ap length c.as_slice.ensures.value
          ∙ yes.each) (subst E (sym c.as_slice.ensures.value) yes.replies)) (subst E (sym c.as_slice.ensures.value) yes.replies)
          (rest.sessions ∙ made.sessions) sent rest.done rest.stops;
      blames = λ lines spells. edits_blame g.R.Reply.makes lines kept kept' result frames own c.send_replies.new.service.sessions
          (g.P.Streams.sent pages) (g.P.Streams.sent mid) (g.P.Streams.sent new) (told_in new) (view new).size (view new).image
          (subst A (sym c.as_slice.ensures.value) yes.fits)
          (edits_may lines edits frames spells (ap length c.as_slice.ensures.value
          ∙ yes.each) (subst E (sym c.as_slice.ensures.value) yes.replies)) (subst E (sym c.as_slice.ensures.value) yes.replies)
          (rest.sessions ∙ made.sessions) sent rest.done rest.ends;
      send = λ fault. subst Risen same (rest.send fault);
      disk = λ fault. absurd (not_of_disk result rest.ends fault);
      faults = counts_then (fault_in answer_fault result) (view pages) (view mid) (view new) yes.faults rest.faults;
      read = not_of_input result rest.ends;
      long = not_of_length result rest.ends;
      bad = error_so result IsReplyEnd (EndsAtBad (told_in new) (view new).size (view new).image)
          (reply_bad (told_in new) (view new).size (view new).image) rest.ends;
      serves = serves_then (told_in pages) (told_in mid) (told_in new) (view pages) (view mid) (view new)
          (serves_group (told_in pages) (told_in mid) (view pages) (view mid) made.moves)
          (serves_kept (told_in mid) (told_in new) (view mid) (view new) rest.keeps.disk rest.keeps.told rest.keeps.was_told);
      goes_on = goes_then (under pages) (under mid) (under new) made.goes_on rest.keeps.goes_on;
      sound = λ other. rest.keeps.disk.fit (yes.sound (λ e. cc (e)));
      total = rest.total ∙ made.total;
      left = rest.left ∙ sym (g.met.P.PageWorld.beside_left mid) ∙ ap (λ b. b.left) beside ∙ g.met.P.PageWorld.beside_left pages;
      read_faults = rest.read_faults ∙ sym (g.met.P.PageWorld.beside_read_faults mid) ∙ ap (λ b. b.read_faults) beside
          ∙ g.met.P.PageWorld.beside_read_faults pages;
      send_faults = subst Low same rest.send_faults;
      pieces = rest.pieces ∙ sym (g.met.P.PageWorld.beside_pieces mid) ∙ ap (λ b. b.pieces) beside ∙ g.met.P.PageWorld.beside_pieces pages;
    }
