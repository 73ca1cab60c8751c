use Rattle.std.proofs.Common.{◌≡◌, ◌≤◌, ◌<◌, ℕ, Some, Err, length, arith, refl, sym, ap, subst, ◌∙◌}
use Rattle.std.proofs.lemmas.Grind.{common_steps}
use Rattle.block_disk.specs.Counts.{HasRisen}
use Rattle.chart_world.specs.FaultLaws.{counts_then}
use Rattle.chart_world.specs.Faults.{fault_in}
use Rattle.chart_world.specs.LineLaws.{says_text}
use Rattle.gate_pages.specs.GateLaws.{goes_none, goes_then}
use Rattle.zoom_session.specs.Sessions.{is_open}
use Rattle.chart_service.specs.Answering.{EndsAtBad}
use Rattle.chart_service.specs.Faulting.{answer_fault}
use Rattle.chart_service.specs.Knowing.{KnowsOpen, EndsKnown}
use Rattle.chart_service.specs.Making.{FrameSent, FrameStops, LinesStop, IsReplyEnd}
use Rattle.chart_service.specs.ReadingBlocks.{ReadsFirst}
use Rattle.chart_service.specs.Serving.{unless_empty, end_of_step}
use Rattle.chart_service.specs.Shown as shown
use Rattle.chart_service.specs.Stepping.{state_of}
use Rattle.chart_service.specs.MomentLaws.{through_none}
use Rattle.chart_service.specs.Syncing.{edit_of}
use Rattle.chart_service.specs.declared.failure.AnswerEnd.TheVariants.{Serve}
use Rattle.chart_service.proofs.Blaming.{answer_blames, blames_error, last_empty, step_blames, text_lasts}
use Rattle.chart_service.proofs.DiskKept.{serves_none, serves_then, serves_kept, serves_step}
use Rattle.series_store.specs.Shown as stored
use Rattle.chart_service.proofs.StepLemmas.{AreOwn}
use Rattle.chart_service.proofs.Ends.{differ, error_is, on_err, step_short, step_unread, step_unsent, step_fault, step_bad, step_sound}
use Rattle.chart_service.proofs.Ends.{reply_bad, not_of_disk, not_of_input, not_of_length, stays}
use Rattle.chart_service.proofs.Faulting.{step_goes}
use Rattle.chart_service.proofs.Known.{known_next, named_known, ends_known, same_opens}
use Rattle.chart_service.proofs.Naming.{gives_empty, first_step, gives_error, answer_gives, names_open, text_may_all}
use Rattle.chart_service.proofs.SyncLemmas.{unchanged_kept}
use Rattle.chart_service.proofs.TurnLemmas.{first_none, text_reads}
use Rattle.chart_service.proofs.Sending.{empty_done, error_goes, error_so, ok_so, step_stops, answer_done, answer_stops, text_replied}
use Rattle.chart_service.proofs.Sending.{text_step, text_moments, text_is}
use Rattle.chart_service.proofs.answers.answer_line.Goals as goal

pub returns-in_err-frame : goal.returns-in_err-frame
returns-in_err-frame g c =
    let it = c.step_line.new.self in
    let told = g.P.Pages.told (shown.pages it) in
    let image = (g.P.Pages.view (shown.pages it)).image in
    let pages = shown.pages c.args.service.now in
    let pages' = shown.pages c.step_line.new.self in
    let some : 0 < length c.args.line.now = grind (arith, common_steps) in
    record {
      done = λ total book told stands. on_err c.from_residual.result _ _ c.from_residual.ensures.1;
      stops = λ total book told stands.
          let no = c.in_err-frame.ensures in
          let sent : g.P.Streams.sent pages' ≡ g.P.Streams.sent pages =
          sym (g.met.P.PageWorld.beside_sent pages') ∙ ap (λ b. b.sent) no.steps.beside ∙ g.met.P.PageWorld.beside_sent pages in
          error_goes (LinesStop g.R.Reply.makes (unless_empty (Some c.args.line.now)) c.args.kept.now c.args.kept.now
          (state_of book total c.args.service.now.sessions) (g.P.Pages.view pages').image c.step_line.new.self.sessions
          (g.P.Streams.sent pages) (g.P.Streams.sent pages'))
          c.from_residual.result (Serve (end_of_step c.in_err-frame.field-0.0)) c.from_residual.ensures.1
          (step_stops g.R.Reply.makes c.args.kept.now
          (unless_empty (Some c.args.line.now)) total book c.args.service.now.sessions c.step_line.new.self.sessions
          (g.P.Pages.told pages) (g.P.Pages.view pages) (g.P.Pages.view pages') (g.P.Streams.sent pages) (g.P.Streams.sent pages')
          c.in_err-frame.field-0.0 told stands sent (no.standing total book told stands) no.unchanged);
      moments = λ total book told stands.
          text_step g.R.Reply.makes c.args.kept.now c.args.line.now total book c.args.service.now.sessions (g.P.Pages.view pages)
          (g.P.Pages.view pages') c.requires.short (says_text c.args.line.now some)
          (c.step_line.ensures.moments total book told stands);
      reads = λ total book told stands.
          text_reads c.args.line.now (shown.state c.args.service.now total book) _ _ c.requires.short (says_text c.args.line.now some)
          (c.step_line.ensures.reads total book told stands);
      idle = λ none. c.step_line.ensures.idle (ap edit_of (text_is c.args.line.now c.requires.short) ∙ none);
      known = λ knows follows known. on_err c.from_residual.result _ _ c.from_residual.ensures.1;
      named = λ knows follows known.
          error_goes (EndsKnown g.R.Reply.makes knows) c.from_residual.result
          (Serve (end_of_step c.in_err-frame.field-0.0)) c.from_residual.ensures.1 tt;
      gives =
          let before = g.P.Streams.sent pages in
          let now = g.P.Streams.sent pages' in
          let sent : now ≡ before = sym (g.met.P.PageWorld.beside_sent pages') ∙ ap (λ b. b.sent) c.step_line.ensures.steps.beside
          ∙ g.met.P.PageWorld.beside_sent pages in
          gives_error g.R.Reply.makes (unless_empty (Some c.args.line.now)) c.args.kept.now c.args.kept.now c.args.service.now.sessions
          c.step_line.new.self.sessions before now c.from_residual.result
          (Serve (end_of_step c.in_err-frame.field-0.0)) c.from_residual.ensures.1
          (first_step g.R.Reply.makes c.args.kept.now
          (λ n. is_open n c.args.service.now.sessions) before now c.in_err-frame.field-0.0 sent);
      blames =
          let before = g.P.Streams.sent pages in
          let now = g.P.Streams.sent pages' in
          let sent : now ≡ before = sym (g.met.P.PageWorld.beside_sent pages') ∙ ap (λ b. b.sent) c.step_line.ensures.steps.beside
          ∙ g.met.P.PageWorld.beside_sent pages in
          let store = c.args.service.now.store in
          let own : AreOwn (g.P.Pages.told pages) (g.P.Pages.view pages) (stored.numbers store) (stored.catalog store) = record {
            within = store.space.rules.total_high;
            keeps = λ t. record { spelled = store.space.spelled c.requires.sound t; rules = store.space.rules };
            count = store.count;
            says = λ t. store.told c.requires.sound t;
          } in
          blames_error g.R.Reply.makes (unless_empty (Some c.args.line.now)) c.args.kept.now c.args.kept.now c.args.service.now.sessions
          c.step_line.new.self.sessions before now told (g.P.Pages.view pages').size image c.from_residual.result
          (Serve (end_of_step c.in_err-frame.field-0.0)) c.from_residual.ensures.1
          (step_blames g.R.Reply.makes c.args.line.now c.args.kept.now before now (g.P.Pages.told pages) told (g.P.Pages.view pages)
          (g.P.Pages.view pages') (stored.numbers store)
          (stored.catalog store) c.args.service.now.sessions c.in_err-frame.field-0.0 c.requires.short some sent own
          c.step_line.ensures.steps.was_told c.step_line.ensures.steps.size c.in_err-frame.ensures.unchanged c.in_err-frame.ensures.cause);
      send = λ fault. step_unsent c.in_err-frame.field-0.0
          (sym (error_is c.from_residual.result (Serve (end_of_step c.in_err-frame.field-0.0)) c.from_residual.ensures.1) ∙ fault);
      disk = λ fault. c.in_err-frame.ensures.disk (ap Err
          (step_fault c.in_err-frame.field-0.0 (sym (error_is c.from_residual.result
          (Serve (end_of_step c.in_err-frame.field-0.0)) c.from_residual.ensures.1) ∙ fault)));
      read = λ fault. step_unread c.in_err-frame.field-0.0
          (sym (error_is c.from_residual.result (Serve (end_of_step c.in_err-frame.field-0.0)) c.from_residual.ensures.1) ∙ fault);
      long = λ fault. step_short c.in_err-frame.field-0.0
          (sym (error_is c.from_residual.result (Serve (end_of_step c.in_err-frame.field-0.0)) c.from_residual.ensures.1) ∙ fault);
      bad = error_goes (EndsAtBad told ((g.P.Pages.view (shown.pages it)).size) image) c.from_residual.result
          (Serve (end_of_step c.in_err-frame.field-0.0)) c.from_residual.ensures.1
          (step_bad told ((g.P.Pages.view (shown.pages it)).size) image c.in_err-frame.field-0.0 c.in_err-frame.ensures.bad);
      faults = step_goes c.from_residual.result c.in_err-frame.field-0.0 (g.P.Pages.view pages)
          (g.P.Pages.view pages') c.from_residual.ensures.1 c.in_err-frame.ensures.faults;
      serves = serves_step (g.P.Pages.told pages) (g.P.Pages.told pages') (g.P.Pages.view pages)
          (g.P.Pages.view pages') c.step_line.ensures.steps;
      goes_on = c.step_line.ensures.goes_on;
      sound = λ other. step_sound (g.P.Pages.told pages) (g.P.Pages.view pages)
          (g.P.Pages.view pages') c.in_err-frame.field-0.0 c.requires.sound c.in_err-frame.ensures.unchanged
          (λ same. other (error_is c.from_residual.result (Serve (end_of_step c.in_err-frame.field-0.0)) c.from_residual.ensures.1
          ∙ ap (λ x. Err (Serve (end_of_step x))) same));
      total = c.step_line.ensures.total;
      left = sym (g.met.P.PageWorld.beside_left pages') ∙ ap (λ b. b.left) c.step_line.ensures.steps.beside
          ∙ g.met.P.PageWorld.beside_left pages;
      read_faults = sym (g.met.P.PageWorld.beside_read_faults pages') ∙ ap (λ b. b.read_faults) c.step_line.ensures.steps.beside
          ∙ g.met.P.PageWorld.beside_read_faults pages;
      pieces = sym (g.met.P.PageWorld.beside_pieces pages') ∙ ap (λ b. b.pieces) c.step_line.ensures.steps.beside
          ∙ g.met.P.PageWorld.beside_pieces pages;
      send_faults = stays (g.P.Streams.send_faults pages) (g.P.Streams.send_faults pages')
          (sym (g.met.P.PageWorld.beside_send_faults pages') ∙ ap (λ b. b.send_faults) c.step_line.ensures.steps.beside
          ∙ g.met.P.PageWorld.beside_send_faults pages);
    }

pub returns : goal.returns
returns g c =
    let pages = shown.pages c.args.service.now in
    let mid = shown.pages c.step_line.new.self in
    let pages' = shown.pages c.send_reply.new.service in
    let sends = g.P.Streams.send_faults in
    let same : sends mid ≡ sends pages = sym (g.met.P.PageWorld.beside_send_faults mid)
    ∙ ap (λ b. b.send_faults) c.step_line.ensures.steps.beside ∙ g.met.P.PageWorld.beside_send_faults pages in
    let P : ℕ → Type 0 = λ n. HasRisen n (sends pages') in
    let Low : ℕ → Type 0 = λ n. n ≤ sends pages' in
    let it = c.send_reply.new.service in
    let told = g.P.Pages.told (shown.pages it) in
    let image = (g.P.Pages.view (shown.pages it)).image in
    let view = g.P.Pages.view in
    let told_in = g.P.Pages.told in
    let kept = c.send_reply.ensures.keeps in
    let yes = c.in_ok-frame.ensures in
    let made = c.send_reply.ensures in
    let frame = c.in_ok-frame.frame in
    let some : 0 < length c.args.line.now = grind (arith, common_steps) in
    let sent : g.P.Streams.sent mid ≡ g.P.Streams.sent pages =
    sym (g.met.P.PageWorld.beside_sent mid) ∙ ap (λ b. b.sent) yes.steps.beside ∙ g.met.P.PageWorld.beside_sent pages in
    record {
      done = λ total book told stands.
          answer_done g.R.Reply.makes c.args.kept.now c.send_reply.new.kept c.send_reply.result
          (Some c.args.line.now) c.in_ok-frame.frame total (state_of book total c.args.service.now.sessions) (g.P.Pages.view mid).image
          (g.P.Pages.view pages').image
          c.step_line.new.self.sessions c.send_reply.new.service.sessions (g.P.Streams.sent pages) (g.P.Streams.sent mid)
          (g.P.Streams.sent pages') (says_text c.args.line.now some)
          (text_replied c.args.line.now c.in_ok-frame.frame total (state_of book total c.args.service.now.sessions)
          (g.P.Pages.view mid).image c.step_line.new.self.sessions c.requires.short (yes.reply total book told stands))
          made.keeps.disk.image made.sessions sent made.done;
      stops = λ total book told stands.
          answer_stops g.R.Reply.makes c.args.kept.now c.send_reply.new.kept c.send_reply.result (Some c.args.line.now) c.in_ok-frame.frame
          (state_of book total c.args.service.now.sessions) (g.P.Pages.view mid).image (g.P.Pages.view pages').image
          c.step_line.new.self.sessions c.send_reply.new.service.sessions (g.P.Streams.sent pages) (g.P.Streams.sent mid)
          (g.P.Streams.sent pages') (says_text c.args.line.now some)
          (text_replied c.args.line.now c.in_ok-frame.frame total (state_of book total c.args.service.now.sessions)
          (g.P.Pages.view mid).image c.step_line.new.self.sessions c.requires.short (yes.reply total book told stands))
          made.keeps.disk.image made.sessions sent made.stops;
      moments = λ total book told stands.
          text_moments g.R.Reply.makes c.args.kept.now c.args.line.now c.in_ok-frame.frame total book c.args.service.now.sessions
          c.step_line.new.self.sessions (g.P.Pages.view (shown.pages c.args.service.now)) (g.P.Pages.view mid)
          (g.P.Pages.view (shown.pages c.send_reply.new.service))
          c.requires.short (says_text c.args.line.now some) (yes.moments total book told stands) (g.met.P.Pages.rests mid yes.sound)
          (yes.reply total book told stands) c.send_reply.ensures.moments;
      reads = λ total book told stands.
          let state = shown.state c.args.service.now total book in
          let before = (g.P.Pages.view (shown.pages c.args.service.now)).reads in
          let R : ℕ → Type 0 = λ n. ReadsFirst (unless_empty (Some c.args.line.now)) state before n in
          subst R (sym c.send_reply.ensures.keeps.disk.reads)
          (text_reads c.args.line.now state before _ c.requires.short (says_text c.args.line.now some)
          (c.step_line.ensures.reads total book told stands));
      idle = λ none. unchanged_kept (told_in pages) (view pages) (view mid) (view pages')
          (c.step_line.ensures.idle (ap edit_of (text_is c.args.line.now c.requires.short) ∙ none)) kept.disk;
      known = λ knows follows known.
          ok_so c.send_reply.result (FrameSent g.R.Reply.makes frame c.args.kept.now c.send_reply.new.kept (g.P.Streams.sent mid)
          (g.P.Streams.sent pages')) (KnowsOpen knows c.send_reply.new.kept c.send_reply.new.service.sessions)
          (λ shows. known_next g.R.Reply.makes knows c.args.kept.now c.send_reply.new.kept frame c.args.service.now.sessions
          c.send_reply.new.service.sessions follows yes.fits known
          (same_opens c.args.service.now.sessions c.step_line.new.self.sessions c.send_reply.new.service.sessions frame
          (c.send_reply.ensures.sessions) yes.opens.after) shows.0 shows.1)
          c.send_reply.ensures.done;
      named = λ knows follows known.
          error_so c.send_reply.result (FrameStops g.R.Reply.makes frame c.args.kept.now c.send_reply.new.kept (g.P.Streams.sent mid)
          (g.P.Streams.sent pages')) (EndsKnown g.R.Reply.makes knows)
          (λ end why. ends_known g.R.Reply.makes knows c.args.kept.now c.send_reply.new.kept frame (g.P.Streams.sent mid)
          (g.P.Streams.sent pages') end yes.fits
          (named_known knows c.args.kept.now frame c.args.service.now.sessions known yes.opens.named) why)
          c.send_reply.ensures.stops;
      gives =
          answer_gives g.R.Reply.makes (unless_empty (Some c.args.line.now)) c.args.kept.now c.send_reply.new.kept c.send_reply.result frame
          c.args.service.now.sessions c.send_reply.new.service.sessions (g.P.Streams.sent pages) (g.P.Streams.sent mid)
          (g.P.Streams.sent pages') yes.fits (text_may_all c.args.line.now frame c.requires.short some yes.may)
          (names_open frame c.args.service.now.sessions yes.opens.named)
          (same_opens c.args.service.now.sessions c.step_line.new.self.sessions c.send_reply.new.service.sessions frame
          c.send_reply.ensures.sessions yes.opens.after) sent made.done made.stops;
      blames =
          answer_blames g.R.Reply.makes (unless_empty (Some c.args.line.now)) c.args.kept.now c.send_reply.new.kept c.send_reply.result
          frame c.args.service.now.sessions c.step_line.new.self.sessions c.send_reply.new.service.sessions (g.P.Streams.sent pages)
          (g.P.Streams.sent mid) (g.P.Streams.sent pages') told (view pages').size image
          yes.fits (text_may_all c.args.line.now frame c.requires.short some yes.may)
          (names_open frame c.args.service.now.sessions yes.opens.named) yes.opens.after
          (text_lasts c.args.line.now frame c.args.service.now.sessions c.step_line.new.self.sessions c.requires.short some yes.lasts)
          made.sessions sent made.done made.ends;
      send = λ fault. subst P same (c.send_reply.ensures.send fault);
      disk = λ fault. absurd (not_of_disk c.send_reply.result c.send_reply.ensures.ends fault);
      read = not_of_input c.send_reply.result c.send_reply.ensures.ends;
      long = not_of_length c.send_reply.result c.send_reply.ensures.ends;
      bad = error_so c.send_reply.result IsReplyEnd (EndsAtBad told ((g.P.Pages.view (shown.pages it)).size) image)
          (reply_bad told ((g.P.Pages.view (shown.pages it)).size) image) c.send_reply.ensures.ends;
      faults = counts_then (fault_in answer_fault c.send_reply.result) (view pages) (view mid) (view pages') yes.faults made.faults;
      serves = serves_then (told_in pages) (told_in mid) (told_in pages') (view pages) (view mid) (view pages')
          (serves_step (told_in pages) (told_in mid) (view pages) (view mid) c.step_line.ensures.steps)
          (serves_kept (told_in mid) (told_in pages') (view mid) (view pages') kept.disk kept.told kept.was_told);
      goes_on = goes_then (g.P.Pages.under pages) (g.P.Pages.under mid)
          (g.P.Pages.under pages') c.step_line.ensures.goes_on c.send_reply.ensures.keeps.goes_on;
      sound = λ other. c.send_reply.ensures.keeps.disk.fit c.in_ok-frame.ensures.sound;
      total = c.send_reply.ensures.total ∙ c.step_line.ensures.total;
      left = c.send_reply.ensures.left ∙ sym (g.met.P.PageWorld.beside_left mid) ∙ ap (λ b. b.left) c.step_line.ensures.steps.beside
          ∙ g.met.P.PageWorld.beside_left pages;
      read_faults = c.send_reply.ensures.read_faults ∙ sym (g.met.P.PageWorld.beside_read_faults mid)
          ∙ ap (λ b. b.read_faults) c.step_line.ensures.steps.beside ∙ g.met.P.PageWorld.beside_read_faults pages;
      send_faults = subst Low same c.send_reply.ensures.send_faults;
      pieces = c.send_reply.ensures.pieces ∙ sym (g.met.P.PageWorld.beside_pieces mid) ∙ ap (λ b. b.pieces) c.step_line.ensures.steps.beside
          ∙ g.met.P.PageWorld.beside_pieces pages;
    }

pub returns-then-is_empty : goal.returns-then-is_empty
returns-then-is_empty g c =
    let it = c.args.service.now in
    let at = shown.pages it in
    let none : length c.args.line.now ≡ 0 = grind (arith, common_steps) in
    record {
      done = λ total book told stands. record {
        book = book;
        stands = stands;
        so = empty_done g.R.Reply.makes c.args.kept.now c.args.line.now (state_of book total it.sessions) (g.P.Streams.sent at) none;
      };
      stops = λ total book told stands. tt;
      moments = λ total book told stands. through_none (g.P.Pages.view at) _;
      reads = λ total book told stands. first_none (unless_empty (Some c.args.line.now)) (shown.state it total book) _;
      idle = λ none. record { image = λ t. refl; fit = λ f. f; syncs = refl; writes = refl };
      known = λ knows follows known. known;
      named = λ knows follows known. tt;
      gives = gives_empty g.R.Reply.makes c.args.line.now none c.args.kept.now (λ n. is_open n it.sessions) (g.P.Streams.sent at);
      blames = last_empty g.R.Reply.makes c.args.line.now none c.args.kept.now it.sessions (g.P.Streams.sent at);
      send = λ fault. differ fault refl;
      disk = λ fault. differ fault refl;
      read = λ fault. differ fault refl;
      long = λ fault. differ fault refl;
      bad = tt;
      faults = refl;
      serves = serves_none (g.P.Pages.told at) (g.P.Pages.view at);
      goes_on = goes_none (g.P.Pages.under at);
      sound = λ other. c.requires.sound;
      total = refl;
      left = refl;
      read_faults = refl;
      send_faults = stays _ _ refl;
      pieces = refl;
    }
