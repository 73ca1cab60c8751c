use Rattle.std.proofs.Common.{◌≡◌, ◌∙◌, ◌-◌, ℕ, List, Option, None, Some, Ok, Err, IsTrue, ◌^◌, length, refl, ap, sym, subst, arith}
use Rattle.chart_world.specs.FrontLaws.{gives_by, longer, read_up, read_whole, same_line}
use Rattle.chart_world.specs.Fronts.{Gives}
use Rattle.chart_world.specs.StandsLaws.{stands_beside, stands_first}
use Rattle.chart_world.specs.Reading.{NoLineIn, Reading, input_length, unread}
use Rattle.live_service.specs.Shown as its
use Rattle.chart_service.proofs.Outcomes.{ok_err}
use Rattle.hosted_lines.specs.GoesLaws.{cause_later, goes_further, goes_nowhere, goes_streams, held_same}
use Rattle.live_command.proofs.ReadLemmas.{FarRead, far_read_first, far_read_kept, far_read_line, reads_far, reads_stopped}
use Rattle.chart_service.specs.Serving.{end_of, unless_empty}
use Rattle.chart_service.specs.Syncing.{edits_of}
use Rattle.hosted_lines.proofs.SyncLemmas.{none_syncs}
use Rattle.live_command.proofs.SyncLemmas.{FarSynced, far_synced_first, far_synced_kept, far_synced_line, syncs_far}
use Rattle.live_command.proofs.RunLemmas.{Far, all_on, far_first, far_kept, far_line, fault_on, lasts_on_first, lasts_on_line}
use Rattle.live_command.proofs.RunLemmas.{lasts_on_take, line_stops}
use Rattle.hosted_lines.specs.Doing.{held_by, side_of}
use Rattle.hosted_lines.specs.Shown.{pages}
use Rattle.live_command.specs.Shown.{EndsOn}
use Rattle.chart_service.specs.Faulting.{serve_fault}
use Rattle.run_ends.specs.Faults.{end_fault}
use Rattle.run_ends.specs.declared.ending.End.{End}
use Rattle.chart_world.specs.FaultLaws.{counts_then, counts_kept}
use Rattle.chart_service.proofs.Faulting.{counts_lines}
use Rattle.store_commands.specs.Faulting.{counts_told}
use Rattle.live_command.proofs.FaultLemmas.{input_fault_is, input_long_is, same_fault}
use Rattle.chart_service.specs.Shown as shown
use Rattle.live_command.proofs.AnswerLemmas.{FarAnswered, answered_far, far_answered_first, far_answered_kept, far_answered_line}
use Rattle.live_command.proofs.AnswerLemmas.{far_blamed}
use Rattle.hosted_lines.specs.Answers.{watched}
use Rattle.hosted_lines.proofs.AnswersLemmas.{watched_same}
use Rattle.hosted_lines.proofs.BlameLemmas.{input_unblamed}
use Rattle.live_command.proofs.serving.answer_lines.Goals as goal

pub lines-init : goal.lines-init
lines-init g c =
    let view = g.P.Pages.view in
    let old = c.args.live.now in
    let at = pages old in
    let o = g.P.Streams.left at in
    let before = g.P.Streams.sent at in
    let fresh = c.requires.fresh in
    let U : Reading → Type 0 = λ r. IsTrue r.usable in
    record {
      usable = subst U (sym fresh) refl;
      counted = omega (
        arith,
        ap (λ (r : Reading). r.taken) fresh,
        ap (λ (r : Reading). r.given) fresh,
        ap (λ (r : Reading). length r.pending) fresh,
      );
      within = omega (arith, ap (λ (r : Reading). r.given) fresh);
      limited = ap (λ (r : Reading). r.limit) fresh;
      whole = ap (λ (r : Reading). input_length r.taken o) fresh;
      stands_in = stands_first o c.args.lines.now fresh;
      sound = c.requires.sound;
      idle = c.requires.idle;
      goes = goes_nowhere (side_of g.P.Streams old);
      faults = refl;
      far = λ total book told stands. far_first o c.args.lines.now total book (view at).image (held_by old) before fresh stands
          (c.requires.book total book told stands);
      synced = far_synced_first o c.args.lines.now (view at).syncs fresh;
      answered = far_answered_first o c.args.lines.now (watched old) before fresh;
      read = λ total book told stands. far_read_first o c.args.lines.now total book (view at).image (held_by old)
          (view at).reads fresh stands (c.requires.book total book told stands);
      lasts = λ total book told stands. lasts_on_first total book (held_by old) o before (view at)
          (g.met.P.Pages.rests at c.requires.sound) stands;
    }

-- a piece of the input may have been taken
pub returns-in-Err-clause-stops : goal.returns-in-Err-clause-stops
returns-in-Err-clause-stops g c = λ total book told stands.
    let view = g.P.Pages.view in
    let left = g.P.Streams.left in
    let sent = g.P.Streams.sent in
    let start = c.args.live.now in
    let first = pages start in
    let mid = pages c.lines.live in
    let taken = pages c.next.new.from in
    let inv = c.lines.invariant in
    let beside = c.next.ensures.beside in
    let takes = beside.changed.store_is.pages_are in
    let kept = g.met.P.PageWorld.take_keeps mid taken takes in
    let same = held_same _ _ _ _ _ _ beside.changed.sessions beside.followed_same beside.pending_same in
    let no = c.in-Err.ensures in
    let state = its.state start total book in
    let far = far_kept (left first) (unread c.lines.lines (left mid)) c.lines.lines.given total state (view mid).image (view taken).image
    (held_by c.lines.live) (held_by c.next.new.from) (sent first) (sent mid) (sent taken) kept.image same c.next.ensures.sent
    (inv.far total book told stands) in
    let E : _ → Type 0 = λ end. EndsOn g.P.Streams total book start c.next.new.from end in
    let N : ℕ → Type 0 = λ n. NoLineIn (n - c.lines.lines.given) (unread c.lines.lines (left mid)) in
    subst E (sym c.input_end.ensures) (fault_on (left first) total state (view taken).image (held_by c.next.new.from) (sent first)
    (sent taken) (beside.pending_same ∙ inv.idle) c.lines.lines c.next.new.self (left mid) (left taken) c.in-Err.fault inv.within
    (λ h. inv.stands_in.whole (no.not_ended (ap Err h))) (λ h. no.read_before (ap Err h))
    (λ h. subst N inv.limited (no.past_before (ap Err h)))
    (λ h. omega (arith, no.past (ap Err h), inv.limited)) no.left_on_err inv.counted no.total far)

pub returns-in-Err-clause-crash : goal.returns-in-Err-clause-crash
returns-in-Err-clause-crash g c = λ total book told stands.
    let view = g.P.Pages.view in
    let left = g.P.Streams.left in
    let sent = g.P.Streams.sent in
    let start = c.args.live.now in
    let first = pages start in
    let mid = pages c.lines.live in
    let taken = pages c.next.new.from in
    let inv = c.lines.invariant in
    let takes = c.next.ensures.beside.changed.store_is.pages_are in
    lasts_on_take (left first) (unread c.lines.lines (left mid)) c.lines.lines.given total (its.state start total book)
    (held_by c.lines.live) (sent first) (sent mid) (view first) (view mid) (view taken) (g.met.P.PageWorld.counts_sent first)
    (g.met.P.PageWorld.counts_sent mid) (g.met.P.Pages.rests mid inv.sound) (g.met.P.PageWorld.take_passes mid taken takes)
    (inv.far total book told stands) (inv.lasts total book told stands)

pub returns-in-End-clause-done : goal.returns-in-End-clause-done
returns-in-End-clause-done g c = λ total book told stands.
    let view = g.P.Pages.view in
    let left = g.P.Streams.left in
    let sent = g.P.Streams.sent in
    let start = c.args.live.now in
    let first = pages start in
    let mid = pages c.lines.live in
    let taken = pages c.next.new.from in
    let inv = c.lines.invariant in
    let beside = c.next.ensures.beside in
    let takes = beside.changed.store_is.pages_are in
    let kept = g.met.P.PageWorld.take_keeps mid taken takes in
    let same = held_same _ _ _ _ _ _ beside.changed.sessions beside.followed_same beside.pending_same in
    let state = its.state start total book in
    let far = far_kept (left first) (unread c.lines.lines (left mid)) c.lines.lines.given total state (view mid).image (view taken).image
    (held_by c.lines.live) (held_by c.next.new.from) (sent first) (sent mid) (sent taken) kept.image same c.next.ensures.sent
    (inv.far total book told stands) in
    all_on (left first) (unread c.lines.lines (left mid)) c.lines.lines.given total state (view taken).image (held_by c.next.new.from)
    (sent first) (sent taken) (beside.pending_same ∙ inv.idle) (c.in-Ok.ensures.end (ap Ok c.in-End.is)) far

pub returns-in-End-clause-within : goal.returns-in-End-clause-within
returns-in-End-clause-within g c =
    let inv = c.lines.invariant in
    read_whole (g.P.Streams.left (pages c.args.live.now)) (g.P.Streams.left (pages c.lines.live)) c.lines.lines (2 ^ 32)
    (c.in-Ok.ensures.end (ap Ok c.in-End.is)) inv.counted inv.within inv.whole

pub returns-in-End-clause-whole : goal.returns-in-End-clause-whole
returns-in-End-clause-whole g c =
    let left = g.P.Streams.left in
    let inv = c.lines.invariant in
    let e = c.in-Ok.ensures in
    read_up (left (pages c.args.live.now)) (left (pages c.lines.live)) (left (pages c.next.new.from)) c.lines.lines c.next.new.self
    (e.end (ap Ok c.in-End.is)) e.rest (e.total ∙ inv.whole)

pub returns-in-Err-clause-long : goal.returns-in-Err-clause-long
returns-in-Err-clause-long g c = λ same.
    let left = g.P.Streams.left in
    let no = c.in-Err.ensures in
    longer (left (pages c.args.live.now)) (left (pages c.next.new.from)) c.next.new.self.taken (2 ^ 32)
    (omega (arith, no.past (ap Err (input_long_is c.in-Err.fault c.input_end.result c.input_end.ensures same)), c.lines.invariant.limited))
    (no.total ∙ c.lines.invariant.whole)

pub returns-in-End-clause-crash : goal.returns-in-End-clause-crash
returns-in-End-clause-crash g c = λ total book told stands.
    let view = g.P.Pages.view in
    let left = g.P.Streams.left in
    let sent = g.P.Streams.sent in
    let start = c.args.live.now in
    let first = pages start in
    let mid = pages c.lines.live in
    let taken = pages c.next.new.from in
    let inv = c.lines.invariant in
    let takes = c.next.ensures.beside.changed.store_is.pages_are in
    lasts_on_take (left first) (unread c.lines.lines (left mid)) c.lines.lines.given total (its.state start total book)
    (held_by c.lines.live) (sent first) (sent mid) (view first) (view mid) (view taken) (g.met.P.PageWorld.counts_sent first)
    (g.met.P.PageWorld.counts_sent mid) (g.met.P.Pages.rests mid inv.sound) (g.met.P.PageWorld.take_passes mid taken takes)
    (inv.far total book told stands) (inv.lasts total book told stands)

pub lines-preserved-in-Ok-refuse_line : goal.lines-preserved-in-Ok-refuse_line
lines-preserved-in-Ok-refuse_line g c =
    let view = g.P.Pages.view in
    let left = g.P.Streams.left in
    let sent = g.P.Streams.sent in
    let start = c.args.live.now in
    let first = pages start in
    let mid = pages c.lines.live in
    let taken = pages c.next.new.from in
    let new = pages c.refuse_line.new.live in
    let w = g.met.P.PageWorld in
    let inv = c.lines.invariant in
    let e = c.in-Ok.ensures in
    let beside = c.next.ensures.beside in
    let takes = beside.changed.store_is.pages_are in
    let kept = w.take_keeps mid taken takes in
    let same = held_same _ _ _ _ _ _ beside.changed.sessions beside.followed_same beside.pending_same in
    let line : Option (List ℕ) = None in
    let gives : Gives c.lines.lines c.next.new.self (left mid) (left taken) line =
    gives_by c.lines.lines c.next.new.self (left mid) (left taken) line
    (e.too_long (ap Ok c.in-TooLong.is)) e.rest inv.counted e.given e.total in
    let side = side_of g.P.Streams in
    let goes = goes_further (side start) (side c.lines.live) (side c.next.new.from) inv.goes
    (goes_streams (side c.lines.live) (side c.next.new.from) kept (w.take_told mid taken takes) (w.take_was_told mid taken takes)
    (w.take_goes_on mid taken takes) c.next.ensures.read_faults (omega (arith, c.next.ensures.send_faults))) in
    let it = c.in-Ok-refuse_line.ensures in
    let U : Option (List ℕ) → Type 0 = λ l. input_length c.next.new.self.taken l ≡ input_length 0 (left first) in
    record {
      usable = e.usable;
      counted = e.given;
      within = omega (arith, e.within, inv.limited);
      limited = c.next.ensures.limit ∙ inv.limited;
      whole = subst U (sym it.left) (e.total ∙ inv.whole);
      stands_in = stands_beside (left first) (left taken) (left new) c.next.new.self it.left (e.stands (left first) inv.stands_in);
      sound = it.sound (ok_err _ _);
      idle = it.idle;
      goes = goes_further (side start) (side c.next.new.from) (side c.refuse_line.new.live) goes it.goes;
      faults = counts_then None (view first) (view taken) (view new)
          (counts_then None (view first) (view mid) (view taken) inv.faults
          (counts_kept view g.P.Streams.read_faults g.P.Streams.send_faults w.beside_read_faults w.beside_send_faults mid taken kept
          (e.quiet (ok_err _ _)) c.next.ensures.send_faults)) it.faults;
      far = λ total book told stands.
          let state = its.state start total book in
          let far = far_kept (left first) (unread c.lines.lines (left mid)) c.lines.lines.given total state (view mid).image
          (view taken).image (held_by c.lines.live) (held_by c.next.new.from) (sent first) (sent mid)
          (sent taken) kept.image same c.next.ensures.sent (inv.far total book told stands) in
          let F : Option (List ℕ) → Type 0 = λ l. Far (left first) (unread c.next.new.self l) c.next.new.self.given total state
          (view new).image (held_by c.refuse_line.new.live) (sent first) (sent new) in
          subst F (sym it.left) (far_line c.lines.lines c.next.new.self (left mid) (left taken) line gives
          (omega (arith, e.within, inv.limited)) total state (held_by c.next.new.from) (held_by c.refuse_line.new.live) (view taken)
          (view new) (sent first) (sent taken) (sent new) c.in-Ok-refuse_line.field-0 (left first)
          (λ between there sound. it.does total between (goes.is_told told) there sound) far);
      synced =
          let F : Option (List ℕ) → Type 0 = λ l. FarSynced (left first) (unread c.next.new.self l) c.next.new.self.given (view first).syncs
          (view new).syncs in
          subst F (sym it.left) (far_synced_line (left first) c.lines.lines c.next.new.self (left mid) (left taken) line gives
          (view first).syncs (view taken).syncs (view new).syncs
          (none_syncs (edits_of (unless_empty line)) (view taken).syncs (view new).syncs it.syncs)
          (far_synced_kept (left first) (unread c.lines.lines (left mid)) c.lines.lines.given (view first).syncs (view mid).syncs
          (view taken).syncs kept.syncs inv.synced));
      answered =
          let own = watched start in
          let far = far_answered_kept (left first) (unread c.lines.lines (left mid)) c.lines.lines.given own (watched c.lines.live)
          (watched c.next.new.from) (sent first) (sent mid) (sent taken)
          (watched_same (watched c.next.new.from) (watched c.lines.live) beside.changed.sessions beside.followed_same)
          c.next.ensures.sent inv.answered in
          let F : Option (List ℕ) → Type 0 = λ l. FarAnswered (left first) (unread c.next.new.self l) c.next.new.self.given own
          (watched c.refuse_line.new.live) (sent first) (sent new) in
          subst F (sym it.left) (far_answered_line (left first) c.lines.lines c.next.new.self (left mid) (left taken) line gives own
          (watched c.next.new.from) (watched c.refuse_line.new.live) (sent first) (sent taken) (sent new) it.sends far);
      read = λ total book told stands.
          let state = its.state start total book in
          let read = far_read_kept (left first) (unread c.lines.lines (left mid)) c.lines.lines.given total state (view mid).image
          (view taken).image (held_by c.lines.live) (held_by c.next.new.from) (view first).reads (view mid).reads
          (view taken).reads kept.image same kept.reads (inv.read total book told stands) in
          let F : Option (List ℕ) → Type 0 = λ l. FarRead (left first) (unread c.next.new.self l) c.next.new.self.given total state
          (view new).image (held_by c.refuse_line.new.live) (view first).reads (view new).reads in
          subst F (sym it.left) (far_read_line c.lines.lines c.next.new.self (left mid) (left taken) line gives total state
          (held_by c.next.new.from) (held_by c.refuse_line.new.live) (view taken) (view new) (view first).reads (sent taken)
          (sent new) c.in-Ok-refuse_line.field-0 (left first)
          (λ between there sound. it.does total between (goes.is_told told) there sound) read);
      lasts = λ total book told stands.
          let state = its.state start total book in
          let far = far_kept (left first) (unread c.lines.lines (left mid)) c.lines.lines.given total state (view mid).image
          (view taken).image (held_by c.lines.live) (held_by c.next.new.from) (sent first) (sent mid)
          (sent taken) kept.image same c.next.ensures.sent (inv.far total book told stands) in
          let since = lasts_on_take (left first) (unread c.lines.lines (left mid)) c.lines.lines.given total state (held_by c.lines.live)
          (sent first) (sent mid) (view first) (view mid) (view taken) (w.counts_sent first) (w.counts_sent mid)
          (g.met.P.Pages.rests mid inv.sound) (w.take_passes mid taken takes) (inv.far total book told stands)
          (inv.lasts total book told stands) in
          lasts_on_line c.lines.lines c.next.new.self (left mid) (left taken) line gives (omega (arith, e.within, inv.limited)) total state
          (held_by c.next.new.from) (held_by c.refuse_line.new.live) (view taken) (view new) (sent first) (sent taken) (sent new) _
          (left first) (view first) (w.counts_sent first) (w.counts_sent taken)
          (λ between there sound. it.does total between (goes.is_told told) there sound) far since;
    }

pub returns-in-Err-refuse_line-clause-stops : goal.returns-in-Err-refuse_line-clause-stops
returns-in-Err-refuse_line-clause-stops g c = λ total book told stands.
    let it = c.in-Err-refuse_line.ensures in
    let view = g.P.Pages.view in
    let left = g.P.Streams.left in
    let sent = g.P.Streams.sent in
    let start = c.args.live.now in
    let first = pages start in
    let mid = pages c.lines.live in
    let taken = pages c.next.new.from in
    let new = pages c.refuse_line.new.live in
    let w = g.met.P.PageWorld in
    let inv = c.lines.invariant in
    let e = c.in-Ok.ensures in
    let beside = c.next.ensures.beside in
    let takes = beside.changed.store_is.pages_are in
    let kept = w.take_keeps mid taken takes in
    let same = held_same _ _ _ _ _ _ beside.changed.sessions beside.followed_same beside.pending_same in
    let line : Option (List ℕ) = None in
    let gives : Gives c.lines.lines c.next.new.self (left mid) (left taken) line =
    gives_by c.lines.lines c.next.new.self (left mid) (left taken) line
    (e.too_long (ap Ok c.in-TooLong.is)) e.rest inv.counted e.given e.total in
    let side = side_of g.P.Streams in
    let goes = goes_further (side start) (side c.lines.live) (side c.next.new.from) inv.goes
    (goes_streams (side c.lines.live) (side c.next.new.from) kept (w.take_told mid taken takes) (w.take_was_told mid taken takes)
    (w.take_goes_on mid taken takes) c.next.ensures.read_faults (omega (arith, c.next.ensures.send_faults))) in
    let state = its.state start total book in
    let far = far_kept (left first) (unread c.lines.lines (left mid)) c.lines.lines.given total state (view mid).image (view taken).image
    (held_by c.lines.live) (held_by c.next.new.from) (sent first) (sent mid) (sent taken) kept.image same c.next.ensures.sent
    (inv.far total book told stands) in
    line_stops c.lines.lines c.next.new.self (left mid) (left taken) line gives (omega (arith, e.within, inv.limited)) total state
    (held_by c.next.new.from) (held_by c.refuse_line.new.live) (view taken) (view new) (sent first) (sent taken)
    (sent new) c.in-Err-refuse_line.end (left first) (left new)
    (λ between there sound. it.does total between (goes.is_told told) there sound) far

pub returns-in-Err-refuse_line-clause-crash : goal.returns-in-Err-refuse_line-clause-crash
returns-in-Err-refuse_line-clause-crash g c = λ total book told stands.
    let it = c.in-Err-refuse_line.ensures in
    let view = g.P.Pages.view in
    let left = g.P.Streams.left in
    let sent = g.P.Streams.sent in
    let start = c.args.live.now in
    let first = pages start in
    let mid = pages c.lines.live in
    let taken = pages c.next.new.from in
    let new = pages c.refuse_line.new.live in
    let w = g.met.P.PageWorld in
    let inv = c.lines.invariant in
    let e = c.in-Ok.ensures in
    let beside = c.next.ensures.beside in
    let takes = beside.changed.store_is.pages_are in
    let kept = w.take_keeps mid taken takes in
    let same = held_same _ _ _ _ _ _ beside.changed.sessions beside.followed_same beside.pending_same in
    let line : Option (List ℕ) = None in
    let gives : Gives c.lines.lines c.next.new.self (left mid) (left taken) line =
    gives_by c.lines.lines c.next.new.self (left mid) (left taken) line
    (e.too_long (ap Ok c.in-TooLong.is)) e.rest inv.counted e.given e.total in
    let side = side_of g.P.Streams in
    let goes = goes_further (side start) (side c.lines.live) (side c.next.new.from) inv.goes
    (goes_streams (side c.lines.live) (side c.next.new.from) kept (w.take_told mid taken takes) (w.take_was_told mid taken takes)
    (w.take_goes_on mid taken takes) c.next.ensures.read_faults (omega (arith, c.next.ensures.send_faults))) in
    let state = its.state start total book in
    let far = far_kept (left first) (unread c.lines.lines (left mid)) c.lines.lines.given total state (view mid).image (view taken).image
    (held_by c.lines.live) (held_by c.next.new.from) (sent first) (sent mid) (sent taken) kept.image same c.next.ensures.sent
    (inv.far total book told stands) in
    let since = lasts_on_take (left first) (unread c.lines.lines (left mid)) c.lines.lines.given total state (held_by c.lines.live)
    (sent first) (sent mid) (view first) (view mid) (view taken) (w.counts_sent first) (w.counts_sent mid)
    (g.met.P.Pages.rests mid inv.sound) (w.take_passes mid taken takes) (inv.far total book told stands)
    (inv.lasts total book told stands) in
    lasts_on_line c.lines.lines c.next.new.self (left mid) (left taken) line gives (omega (arith, e.within, inv.limited)) total state
    (held_by c.next.new.from) (held_by c.refuse_line.new.live) (view taken) (view new) (sent first) (sent taken) (sent new) _
    (left first) (view first) (w.counts_sent first) (w.counts_sent taken)
    (λ between there sound. it.does total between (goes.is_told told) there sound) far since

pub returns-in-Err-refuse_line-clause-goes : goal.returns-in-Err-refuse_line-clause-goes
returns-in-Err-refuse_line-clause-goes g c =
    let view = g.P.Pages.view in
    let left = g.P.Streams.left in
    let sent = g.P.Streams.sent in
    let start = c.args.live.now in
    let first = pages start in
    let mid = pages c.lines.live in
    let taken = pages c.next.new.from in
    let new = pages c.refuse_line.new.live in
    let w = g.met.P.PageWorld in
    let inv = c.lines.invariant in
    let e = c.in-Ok.ensures in
    let beside = c.next.ensures.beside in
    let takes = beside.changed.store_is.pages_are in
    let kept = w.take_keeps mid taken takes in
    let same = held_same _ _ _ _ _ _ beside.changed.sessions beside.followed_same beside.pending_same in
    let line : Option (List ℕ) = None in
    let gives : Gives c.lines.lines c.next.new.self (left mid) (left taken) line =
    gives_by c.lines.lines c.next.new.self (left mid) (left taken) line
    (e.too_long (ap Ok c.in-TooLong.is)) e.rest inv.counted e.given e.total in
    let side = side_of g.P.Streams in
    let goes = goes_further (side start) (side c.lines.live) (side c.next.new.from) inv.goes
    (goes_streams (side c.lines.live) (side c.next.new.from) kept (w.take_told mid taken takes) (w.take_was_told mid taken takes)
    (w.take_goes_on mid taken takes) c.next.ensures.read_faults (omega (arith, c.next.ensures.send_faults))) in
    goes_further (side start) (side c.next.new.from) (side c.refuse_line.new.live) goes c.in-Err-refuse_line.ensures.goes

pub returns-in-Err-refuse_line-clause-cause : goal.returns-in-Err-refuse_line-clause-cause
returns-in-Err-refuse_line-clause-cause g c =
    let view = g.P.Pages.view in
    let first = pages c.args.live.now in
    let mid = pages c.lines.live in
    let taken = pages c.next.new.from in
    let w = g.met.P.PageWorld in
    let side = side_of g.P.Streams in
    let kept = w.take_keeps mid taken c.next.ensures.beside.changed.store_is.pages_are in
    let next = counts_kept view g.P.Streams.read_faults g.P.Streams.send_faults w.beside_read_faults w.beside_send_faults mid taken kept
    (c.in-Ok.ensures.quiet (ok_err _ _)) c.next.ensures.send_faults in
    cause_later (side c.args.live.now) (side c.next.new.from) (side c.refuse_line.new.live) c.in-Err-refuse_line.end
    (record { reads_are = w.beside_read_faults first; sends_are = w.beside_send_faults first })
    (record { reads_are = w.beside_read_faults taken; sends_are = w.beside_send_faults taken })
    (counts_then None (view first) (view mid) (view taken) c.lines.invariant.faults next) c.in-Err-refuse_line.ensures.cause

pub lines-preserved : goal.lines-preserved
lines-preserved g c =
    let view = g.P.Pages.view in
    let left = g.P.Streams.left in
    let sent = g.P.Streams.sent in
    let start = c.args.live.now in
    let first = pages start in
    let mid = pages c.lines.live in
    let taken = pages c.next.new.from in
    let new = pages c.answer_line.new.live in
    let w = g.met.P.PageWorld in
    let inv = c.lines.invariant in
    let e = c.in-Ok.ensures in
    let beside = c.next.ensures.beside in
    let takes = beside.changed.store_is.pages_are in
    let kept = w.take_keeps mid taken takes in
    let same = held_same _ _ _ _ _ _ beside.changed.sessions beside.followed_same beside.pending_same in
    let text = c.line.result.now in
    let gives : Gives c.lines.lines c.next.new.self (left mid) (left taken) (Some text) =
    gives_by c.lines.lines c.next.new.self (left mid) (left taken) (Some text)
    (same_line _ _ text c.next.new.self.line c.line.ensures.line (e.line (ap Ok c.in-Line.is))) e.rest inv.counted e.given e.total in
    let line : Option (List ℕ) = Some text in
    let side = side_of g.P.Streams in
    let goes = goes_further (side start) (side c.lines.live) (side c.next.new.from) inv.goes
    (goes_streams (side c.lines.live) (side c.next.new.from) kept (w.take_told mid taken takes) (w.take_was_told mid taken takes)
    (w.take_goes_on mid taken takes) c.next.ensures.read_faults (omega (arith, c.next.ensures.send_faults))) in
    let it = c.in-Ok-answer_line.ensures in
    let U : Option (List ℕ) → Type 0 = λ l. input_length c.next.new.self.taken l ≡ input_length 0 (left first) in
    record {
      usable = e.usable;
      counted = e.given;
      within = omega (arith, e.within, inv.limited);
      limited = c.next.ensures.limit ∙ inv.limited;
      whole = subst U (sym it.left) (e.total ∙ inv.whole);
      stands_in = stands_beside (left first) (left taken) (left new) c.next.new.self it.left (e.stands (left first) inv.stands_in);
      sound = it.sound (ok_err _ _);
      idle = it.idle;
      goes = goes_further (side start) (side c.next.new.from) (side c.answer_line.new.live) goes it.goes;
      faults = counts_then None (view first) (view taken) (view new)
          (counts_then None (view first) (view mid) (view taken) inv.faults
          (counts_kept view g.P.Streams.read_faults g.P.Streams.send_faults w.beside_read_faults w.beside_send_faults mid taken kept
          (e.quiet (ok_err _ _)) c.next.ensures.send_faults)) it.faults;
      far = λ total book told stands.
          let state = its.state start total book in
          let far = far_kept (left first) (unread c.lines.lines (left mid)) c.lines.lines.given total state (view mid).image
          (view taken).image (held_by c.lines.live) (held_by c.next.new.from) (sent first) (sent mid)
          (sent taken) kept.image same c.next.ensures.sent (inv.far total book told stands) in
          let F : Option (List ℕ) → Type 0 = λ l. Far (left first) (unread c.next.new.self l) c.next.new.self.given total state
          (view new).image (held_by c.answer_line.new.live) (sent first) (sent new) in
          subst F (sym it.left) (far_line c.lines.lines c.next.new.self (left mid) (left taken) line gives
          (omega (arith, e.within, inv.limited)) total state (held_by c.next.new.from) (held_by c.answer_line.new.live) (view taken)
          (view new) (sent first) (sent taken) (sent new) c.in-Ok-answer_line.field-0 (left first)
          (λ between there sound. it.does total between (goes.is_told told) there sound) far);
      synced =
          let F : Option (List ℕ) → Type 0 = λ l. FarSynced (left first) (unread c.next.new.self l) c.next.new.self.given (view first).syncs
          (view new).syncs in
          subst F (sym it.left) (far_synced_line (left first) c.lines.lines c.next.new.self (left mid) (left taken) line gives
          (view first).syncs (view taken).syncs (view new).syncs (it.syncs)
          (far_synced_kept (left first) (unread c.lines.lines (left mid)) c.lines.lines.given (view first).syncs (view mid).syncs
          (view taken).syncs kept.syncs inv.synced));
      answered =
          let own = watched start in
          let far = far_answered_kept (left first) (unread c.lines.lines (left mid)) c.lines.lines.given own (watched c.lines.live)
          (watched c.next.new.from) (sent first) (sent mid) (sent taken)
          (watched_same (watched c.next.new.from) (watched c.lines.live) beside.changed.sessions beside.followed_same)
          c.next.ensures.sent inv.answered in
          let F : Option (List ℕ) → Type 0 = λ l. FarAnswered (left first) (unread c.next.new.self l) c.next.new.self.given own
          (watched c.answer_line.new.live) (sent first) (sent new) in
          subst F (sym it.left) (far_answered_line (left first) c.lines.lines c.next.new.self (left mid) (left taken) line gives own
          (watched c.next.new.from) (watched c.answer_line.new.live) (sent first) (sent taken) (sent new) it.sends far);
      read = λ total book told stands.
          let state = its.state start total book in
          let read = far_read_kept (left first) (unread c.lines.lines (left mid)) c.lines.lines.given total state (view mid).image
          (view taken).image (held_by c.lines.live) (held_by c.next.new.from) (view first).reads (view mid).reads
          (view taken).reads kept.image same kept.reads (inv.read total book told stands) in
          let F : Option (List ℕ) → Type 0 = λ l. FarRead (left first) (unread c.next.new.self l) c.next.new.self.given total state
          (view new).image (held_by c.answer_line.new.live) (view first).reads (view new).reads in
          subst F (sym it.left) (far_read_line c.lines.lines c.next.new.self (left mid) (left taken) line gives total state
          (held_by c.next.new.from) (held_by c.answer_line.new.live) (view taken) (view new) (view first).reads (sent taken)
          (sent new) c.in-Ok-answer_line.field-0 (left first)
          (λ between there sound. it.does total between (goes.is_told told) there sound) read);
      lasts = λ total book told stands.
          let state = its.state start total book in
          let far = far_kept (left first) (unread c.lines.lines (left mid)) c.lines.lines.given total state (view mid).image
          (view taken).image (held_by c.lines.live) (held_by c.next.new.from) (sent first) (sent mid)
          (sent taken) kept.image same c.next.ensures.sent (inv.far total book told stands) in
          let since = lasts_on_take (left first) (unread c.lines.lines (left mid)) c.lines.lines.given total state (held_by c.lines.live)
          (sent first) (sent mid) (view first) (view mid) (view taken) (w.counts_sent first) (w.counts_sent mid)
          (g.met.P.Pages.rests mid inv.sound) (w.take_passes mid taken takes) (inv.far total book told stands)
          (inv.lasts total book told stands) in
          lasts_on_line c.lines.lines c.next.new.self (left mid) (left taken) line gives (omega (arith, e.within, inv.limited)) total state
          (held_by c.next.new.from) (held_by c.answer_line.new.live) (view taken) (view new) (sent first) (sent taken) (sent new) _
          (left first) (view first) (w.counts_sent first) (w.counts_sent taken)
          (λ between there sound. it.does total between (goes.is_told told) there sound) far since;
    }

pub returns-in-Err-answer_line-clause-stops : goal.returns-in-Err-answer_line-clause-stops
returns-in-Err-answer_line-clause-stops g c = λ total book told stands.
    let it = c.in-Err-answer_line.ensures in
    let view = g.P.Pages.view in
    let left = g.P.Streams.left in
    let sent = g.P.Streams.sent in
    let start = c.args.live.now in
    let first = pages start in
    let mid = pages c.lines.live in
    let taken = pages c.next.new.from in
    let new = pages c.answer_line.new.live in
    let w = g.met.P.PageWorld in
    let inv = c.lines.invariant in
    let e = c.in-Ok.ensures in
    let beside = c.next.ensures.beside in
    let takes = beside.changed.store_is.pages_are in
    let kept = w.take_keeps mid taken takes in
    let same = held_same _ _ _ _ _ _ beside.changed.sessions beside.followed_same beside.pending_same in
    let text = c.line.result.now in
    let gives : Gives c.lines.lines c.next.new.self (left mid) (left taken) (Some text) =
    gives_by c.lines.lines c.next.new.self (left mid) (left taken) (Some text)
    (same_line _ _ text c.next.new.self.line c.line.ensures.line (e.line (ap Ok c.in-Line.is))) e.rest inv.counted e.given e.total in
    let line : Option (List ℕ) = Some text in
    let side = side_of g.P.Streams in
    let goes = goes_further (side start) (side c.lines.live) (side c.next.new.from) inv.goes
    (goes_streams (side c.lines.live) (side c.next.new.from) kept (w.take_told mid taken takes) (w.take_was_told mid taken takes)
    (w.take_goes_on mid taken takes) c.next.ensures.read_faults (omega (arith, c.next.ensures.send_faults))) in
    let state = its.state start total book in
    let far = far_kept (left first) (unread c.lines.lines (left mid)) c.lines.lines.given total state (view mid).image (view taken).image
    (held_by c.lines.live) (held_by c.next.new.from) (sent first) (sent mid) (sent taken) kept.image same c.next.ensures.sent
    (inv.far total book told stands) in
    line_stops c.lines.lines c.next.new.self (left mid) (left taken) line gives (omega (arith, e.within, inv.limited)) total state
    (held_by c.next.new.from) (held_by c.answer_line.new.live) (view taken) (view new) (sent first) (sent taken)
    (sent new) c.in-Err-answer_line.end (left first) (left new)
    (λ between there sound. it.does total between (goes.is_told told) there sound) far

pub returns-in-Err-answer_line-clause-crash : goal.returns-in-Err-answer_line-clause-crash
returns-in-Err-answer_line-clause-crash g c = λ total book told stands.
    let it = c.in-Err-answer_line.ensures in
    let view = g.P.Pages.view in
    let left = g.P.Streams.left in
    let sent = g.P.Streams.sent in
    let start = c.args.live.now in
    let first = pages start in
    let mid = pages c.lines.live in
    let taken = pages c.next.new.from in
    let new = pages c.answer_line.new.live in
    let w = g.met.P.PageWorld in
    let inv = c.lines.invariant in
    let e = c.in-Ok.ensures in
    let beside = c.next.ensures.beside in
    let takes = beside.changed.store_is.pages_are in
    let kept = w.take_keeps mid taken takes in
    let same = held_same _ _ _ _ _ _ beside.changed.sessions beside.followed_same beside.pending_same in
    let text = c.line.result.now in
    let gives : Gives c.lines.lines c.next.new.self (left mid) (left taken) (Some text) =
    gives_by c.lines.lines c.next.new.self (left mid) (left taken) (Some text)
    (same_line _ _ text c.next.new.self.line c.line.ensures.line (e.line (ap Ok c.in-Line.is))) e.rest inv.counted e.given e.total in
    let line : Option (List ℕ) = Some text in
    let side = side_of g.P.Streams in
    let goes = goes_further (side start) (side c.lines.live) (side c.next.new.from) inv.goes
    (goes_streams (side c.lines.live) (side c.next.new.from) kept (w.take_told mid taken takes) (w.take_was_told mid taken takes)
    (w.take_goes_on mid taken takes) c.next.ensures.read_faults (omega (arith, c.next.ensures.send_faults))) in
    let state = its.state start total book in
    let far = far_kept (left first) (unread c.lines.lines (left mid)) c.lines.lines.given total state (view mid).image (view taken).image
    (held_by c.lines.live) (held_by c.next.new.from) (sent first) (sent mid) (sent taken) kept.image same c.next.ensures.sent
    (inv.far total book told stands) in
    let since = lasts_on_take (left first) (unread c.lines.lines (left mid)) c.lines.lines.given total state (held_by c.lines.live)
    (sent first) (sent mid) (view first) (view mid) (view taken) (w.counts_sent first) (w.counts_sent mid)
    (g.met.P.Pages.rests mid inv.sound) (w.take_passes mid taken takes) (inv.far total book told stands)
    (inv.lasts total book told stands) in
    lasts_on_line c.lines.lines c.next.new.self (left mid) (left taken) line gives (omega (arith, e.within, inv.limited)) total state
    (held_by c.next.new.from) (held_by c.answer_line.new.live) (view taken) (view new) (sent first) (sent taken) (sent new) _
    (left first) (view first) (w.counts_sent first) (w.counts_sent taken)
    (λ between there sound. it.does total between (goes.is_told told) there sound) far since

pub returns-in-Err-answer_line-clause-goes : goal.returns-in-Err-answer_line-clause-goes
returns-in-Err-answer_line-clause-goes g c =
    let view = g.P.Pages.view in
    let left = g.P.Streams.left in
    let sent = g.P.Streams.sent in
    let start = c.args.live.now in
    let first = pages start in
    let mid = pages c.lines.live in
    let taken = pages c.next.new.from in
    let new = pages c.answer_line.new.live in
    let w = g.met.P.PageWorld in
    let inv = c.lines.invariant in
    let e = c.in-Ok.ensures in
    let beside = c.next.ensures.beside in
    let takes = beside.changed.store_is.pages_are in
    let kept = w.take_keeps mid taken takes in
    let same = held_same _ _ _ _ _ _ beside.changed.sessions beside.followed_same beside.pending_same in
    let text = c.line.result.now in
    let gives : Gives c.lines.lines c.next.new.self (left mid) (left taken) (Some text) =
    gives_by c.lines.lines c.next.new.self (left mid) (left taken) (Some text)
    (same_line _ _ text c.next.new.self.line c.line.ensures.line (e.line (ap Ok c.in-Line.is))) e.rest inv.counted e.given e.total in
    let line : Option (List ℕ) = Some text in
    let side = side_of g.P.Streams in
    let goes = goes_further (side start) (side c.lines.live) (side c.next.new.from) inv.goes
    (goes_streams (side c.lines.live) (side c.next.new.from) kept (w.take_told mid taken takes) (w.take_was_told mid taken takes)
    (w.take_goes_on mid taken takes) c.next.ensures.read_faults (omega (arith, c.next.ensures.send_faults))) in
    goes_further (side start) (side c.next.new.from) (side c.answer_line.new.live) goes c.in-Err-answer_line.ensures.goes

pub returns-in-Err-answer_line-clause-cause : goal.returns-in-Err-answer_line-clause-cause
returns-in-Err-answer_line-clause-cause g c =
    let view = g.P.Pages.view in
    let first = pages c.args.live.now in
    let mid = pages c.lines.live in
    let taken = pages c.next.new.from in
    let w = g.met.P.PageWorld in
    let side = side_of g.P.Streams in
    let kept = w.take_keeps mid taken c.next.ensures.beside.changed.store_is.pages_are in
    let next = counts_kept view g.P.Streams.read_faults g.P.Streams.send_faults w.beside_read_faults w.beside_send_faults mid taken kept
    (c.in-Ok.ensures.quiet (ok_err _ _)) c.next.ensures.send_faults in
    cause_later (side c.args.live.now) (side c.next.new.from) (side c.answer_line.new.live) c.in-Err-answer_line.end
    (record { reads_are = w.beside_read_faults first; sends_are = w.beside_send_faults first })
    (record { reads_are = w.beside_read_faults taken; sends_are = w.beside_send_faults taken })
    (counts_then None (view first) (view mid) (view taken) c.lines.invariant.faults next) c.in-Err-answer_line.ensures.cause

pub returns-in-Err-clause-reads : goal.returns-in-Err-clause-reads
returns-in-Err-clause-reads g c = λ total book told stands.
    let view = g.P.Pages.view in
    let left = g.P.Streams.left in
    let start = c.args.live.now in
    let first = pages start in
    let mid = pages c.lines.live in
    let taken = pages c.next.new.from in
    let inv = c.lines.invariant in
    let beside = c.next.ensures.beside in
    let takes = beside.changed.store_is.pages_are in
    let kept = g.met.P.PageWorld.take_keeps mid taken takes in
    let same = held_same _ _ _ _ _ _ beside.changed.sessions beside.followed_same beside.pending_same in
    let state = its.state start total book in
    reads_far (left first) (unread c.lines.lines (left mid)) c.lines.lines.given total state (view taken).image (held_by c.next.new.from)
    (view first).reads (view taken).reads (far_read_kept (left first) (unread c.lines.lines (left mid)) c.lines.lines.given total state
    (view mid).image (view taken).image (held_by c.lines.live) (held_by c.next.new.from) (view first).reads (view mid).reads
    (view taken).reads kept.image same kept.reads (inv.read total book told stands))

pub returns-in-End-clause-reads : goal.returns-in-End-clause-reads
returns-in-End-clause-reads g c = λ total book told stands.
    let view = g.P.Pages.view in
    let left = g.P.Streams.left in
    let start = c.args.live.now in
    let first = pages start in
    let mid = pages c.lines.live in
    let taken = pages c.next.new.from in
    let inv = c.lines.invariant in
    let beside = c.next.ensures.beside in
    let takes = beside.changed.store_is.pages_are in
    let kept = g.met.P.PageWorld.take_keeps mid taken takes in
    let same = held_same _ _ _ _ _ _ beside.changed.sessions beside.followed_same beside.pending_same in
    let state = its.state start total book in
    reads_far (left first) (unread c.lines.lines (left mid)) c.lines.lines.given total state (view taken).image (held_by c.next.new.from)
    (view first).reads (view taken).reads (far_read_kept (left first) (unread c.lines.lines (left mid)) c.lines.lines.given total state
    (view mid).image (view taken).image (held_by c.lines.live) (held_by c.next.new.from) (view first).reads (view mid).reads
    (view taken).reads kept.image same kept.reads (inv.read total book told stands))

pub returns-in-Err-refuse_line-clause-reads : goal.returns-in-Err-refuse_line-clause-reads
returns-in-Err-refuse_line-clause-reads g c = λ total book told stands.
    let it = c.in-Err-refuse_line.ensures in
    let view = g.P.Pages.view in
    let left = g.P.Streams.left in
    let sent = g.P.Streams.sent in
    let start = c.args.live.now in
    let first = pages start in
    let mid = pages c.lines.live in
    let taken = pages c.next.new.from in
    let new = pages c.refuse_line.new.live in
    let w = g.met.P.PageWorld in
    let inv = c.lines.invariant in
    let e = c.in-Ok.ensures in
    let beside = c.next.ensures.beside in
    let takes = beside.changed.store_is.pages_are in
    let kept = w.take_keeps mid taken takes in
    let same = held_same _ _ _ _ _ _ beside.changed.sessions beside.followed_same beside.pending_same in
    let line : Option (List ℕ) = None in
    let gives : Gives c.lines.lines c.next.new.self (left mid) (left taken) line =
    gives_by c.lines.lines c.next.new.self (left mid) (left taken) line
    (e.too_long (ap Ok c.in-TooLong.is)) e.rest inv.counted e.given e.total in
    let side = side_of g.P.Streams in
    let goes = goes_further (side start) (side c.lines.live) (side c.next.new.from) inv.goes
    (goes_streams (side c.lines.live) (side c.next.new.from) kept (w.take_told mid taken takes) (w.take_was_told mid taken takes)
    (w.take_goes_on mid taken takes) c.next.ensures.read_faults (omega (arith, c.next.ensures.send_faults))) in
    let state = its.state start total book in
    let read = far_read_kept (left first) (unread c.lines.lines (left mid)) c.lines.lines.given total state (view mid).image
    (view taken).image (held_by c.lines.live) (held_by c.next.new.from) (view first).reads (view mid).reads
    (view taken).reads kept.image same kept.reads (inv.read total book told stands) in
    reads_stopped c.lines.lines c.next.new.self (left mid) (left taken) line gives total state (held_by c.next.new.from)
    (held_by c.refuse_line.new.live) (view taken) (view new) (view first).reads (sent taken) (sent new) _ (left first)
    (λ between there sound. it.does total between (goes.is_told told) there sound) read

pub returns-in-Err-answer_line-clause-reads : goal.returns-in-Err-answer_line-clause-reads
returns-in-Err-answer_line-clause-reads g c = λ total book told stands.
    let it = c.in-Err-answer_line.ensures in
    let view = g.P.Pages.view in
    let left = g.P.Streams.left in
    let sent = g.P.Streams.sent in
    let start = c.args.live.now in
    let first = pages start in
    let mid = pages c.lines.live in
    let taken = pages c.next.new.from in
    let new = pages c.answer_line.new.live in
    let w = g.met.P.PageWorld in
    let inv = c.lines.invariant in
    let e = c.in-Ok.ensures in
    let beside = c.next.ensures.beside in
    let takes = beside.changed.store_is.pages_are in
    let kept = w.take_keeps mid taken takes in
    let same = held_same _ _ _ _ _ _ beside.changed.sessions beside.followed_same beside.pending_same in
    let text = c.line.result.now in
    let gives : Gives c.lines.lines c.next.new.self (left mid) (left taken) (Some text) =
    gives_by c.lines.lines c.next.new.self (left mid) (left taken) (Some text)
    (same_line _ _ text c.next.new.self.line c.line.ensures.line (e.line (ap Ok c.in-Line.is))) e.rest inv.counted e.given e.total in
    let line : Option (List ℕ) = Some text in
    let side = side_of g.P.Streams in
    let goes = goes_further (side start) (side c.lines.live) (side c.next.new.from) inv.goes
    (goes_streams (side c.lines.live) (side c.next.new.from) kept (w.take_told mid taken takes) (w.take_was_told mid taken takes)
    (w.take_goes_on mid taken takes) c.next.ensures.read_faults (omega (arith, c.next.ensures.send_faults))) in
    let state = its.state start total book in
    let read = far_read_kept (left first) (unread c.lines.lines (left mid)) c.lines.lines.given total state (view mid).image
    (view taken).image (held_by c.lines.live) (held_by c.next.new.from) (view first).reads (view mid).reads
    (view taken).reads kept.image same kept.reads (inv.read total book told stands) in
    reads_stopped c.lines.lines c.next.new.self (left mid) (left taken) line gives total state (held_by c.next.new.from)
    (held_by c.answer_line.new.live) (view taken) (view new) (view first).reads (sent taken) (sent new) _ (left first)
    (λ between there sound. it.does total between (goes.is_told told) there sound) read

pub returns-in-Err-clause-syncs : goal.returns-in-Err-clause-syncs
returns-in-Err-clause-syncs g c =
    let view = g.P.Pages.view in
    let left = g.P.Streams.left in
    let first = pages c.args.live.now in
    let mid = pages c.lines.live in
    let taken = pages c.next.new.from in
    let inv = c.lines.invariant in
    let kept = g.met.P.PageWorld.take_keeps mid taken c.next.ensures.beside.changed.store_is.pages_are in
    syncs_far (left first) (unread c.lines.lines (left mid)) c.lines.lines.given (view first).syncs (view taken).syncs
    (far_synced_kept (left first) (unread c.lines.lines (left mid)) c.lines.lines.given (view first).syncs (view mid).syncs
    (view taken).syncs kept.syncs inv.synced)

pub returns-in-End-clause-syncs : goal.returns-in-End-clause-syncs
returns-in-End-clause-syncs g c =
    let view = g.P.Pages.view in
    let left = g.P.Streams.left in
    let first = pages c.args.live.now in
    let mid = pages c.lines.live in
    let taken = pages c.next.new.from in
    let inv = c.lines.invariant in
    let kept = g.met.P.PageWorld.take_keeps mid taken c.next.ensures.beside.changed.store_is.pages_are in
    syncs_far (left first) (unread c.lines.lines (left mid)) c.lines.lines.given (view first).syncs (view taken).syncs
    (far_synced_kept (left first) (unread c.lines.lines (left mid)) c.lines.lines.given (view first).syncs (view mid).syncs
    (view taken).syncs kept.syncs inv.synced)

pub returns-in-Err-refuse_line-clause-syncs : goal.returns-in-Err-refuse_line-clause-syncs
returns-in-Err-refuse_line-clause-syncs g c =
    let view = g.P.Pages.view in
    let left = g.P.Streams.left in
    let first = pages c.args.live.now in
    let mid = pages c.lines.live in
    let taken = pages c.next.new.from in
    let inv = c.lines.invariant in
    let kept = g.met.P.PageWorld.take_keeps mid taken c.next.ensures.beside.changed.store_is.pages_are in
    let new = pages c.refuse_line.new.live in
    let e = c.in-Ok.ensures in
    let line : Option (List ℕ) = None in
    let gives : Gives c.lines.lines c.next.new.self (left mid) (left taken) line =
    gives_by c.lines.lines c.next.new.self (left mid) (left taken) line
    (e.too_long (ap Ok c.in-TooLong.is)) e.rest inv.counted e.given e.total in
    syncs_far (left first) (unread c.next.new.self (left taken)) c.next.new.self.given (view first).syncs (view new).syncs
    (far_synced_line (left first) c.lines.lines c.next.new.self (left mid) (left taken) line gives (view first).syncs (view taken).syncs
    (view new).syncs (none_syncs (edits_of (unless_empty line)) (view taken).syncs (view new).syncs c.in-Err-refuse_line.ensures.syncs)
    (far_synced_kept (left first) (unread c.lines.lines (left mid)) c.lines.lines.given (view first).syncs (view mid).syncs
    (view taken).syncs kept.syncs inv.synced))

pub returns-in-Err-answer_line-clause-syncs : goal.returns-in-Err-answer_line-clause-syncs
returns-in-Err-answer_line-clause-syncs g c =
    let view = g.P.Pages.view in
    let left = g.P.Streams.left in
    let first = pages c.args.live.now in
    let mid = pages c.lines.live in
    let taken = pages c.next.new.from in
    let inv = c.lines.invariant in
    let kept = g.met.P.PageWorld.take_keeps mid taken c.next.ensures.beside.changed.store_is.pages_are in
    let new = pages c.answer_line.new.live in
    let e = c.in-Ok.ensures in
    let text = c.line.result.now in
    let line : Option (List ℕ) = Some text in
    let gives : Gives c.lines.lines c.next.new.self (left mid) (left taken) line =
    gives_by c.lines.lines c.next.new.self (left mid) (left taken) (Some text)
    (same_line _ _ text c.next.new.self.line c.line.ensures.line (e.line (ap Ok c.in-Line.is))) e.rest inv.counted e.given e.total in
    syncs_far (left first) (unread c.next.new.self (left taken)) c.next.new.self.given (view first).syncs (view new).syncs
    (far_synced_line (left first) c.lines.lines c.next.new.self (left mid) (left taken) line gives (view first).syncs (view taken).syncs
    (view new).syncs (c.in-Err-answer_line.ensures.syncs)
    (far_synced_kept (left first) (unread c.lines.lines (left mid)) c.lines.lines.given (view first).syncs (view mid).syncs
    (view taken).syncs kept.syncs inv.synced))

pub returns-in-Err-clause-faults : goal.returns-in-Err-clause-faults
returns-in-Err-clause-faults g c =
    let view = g.P.Pages.view in
    let first = pages c.args.live.now in
    let mid = pages c.lines.live in
    let taken = pages c.next.new.from in
    let w = g.met.P.PageWorld in
    let inv = c.lines.invariant in
    let kept = w.take_keeps mid taken c.next.ensures.beside.changed.store_is.pages_are in
    let fault = c.in-Err.fault in
    let no = c.in-Err.ensures in
    let unread = counts_lines fault view g.P.Streams.read_faults g.P.Streams.send_faults w.beside_read_faults w.beside_send_faults mid taken
    kept
    (λ is. no.read_fault (ap Err is)) (λ other. no.quiet (λ is. other (same_fault fault _ is))) c.next.ensures.send_faults in
    counts_then (end_fault c.input_end.result) (view first) (view mid) (view taken) inv.faults
    (counts_told (serve_fault (end_of fault)) (end_fault c.input_end.result) (view mid) (view taken)
    (ap (λ (e : End). end_fault e) c.input_end.ensures ∙ input_fault_is fault) unread)

pub returns-in-End-clause-faults : goal.returns-in-End-clause-faults
returns-in-End-clause-faults g c =
    let view = g.P.Pages.view in
    let first = pages c.args.live.now in
    let mid = pages c.lines.live in
    let taken = pages c.next.new.from in
    let w = g.met.P.PageWorld in
    let inv = c.lines.invariant in
    let kept = w.take_keeps mid taken c.next.ensures.beside.changed.store_is.pages_are in
    let next = counts_kept view g.P.Streams.read_faults g.P.Streams.send_faults w.beside_read_faults w.beside_send_faults mid taken kept
    (c.in-Ok.ensures.quiet (ok_err _ _)) c.next.ensures.send_faults in
    counts_then None (view first) (view mid) (view taken) inv.faults next

pub returns-in-Err-refuse_line-clause-faults : goal.returns-in-Err-refuse_line-clause-faults
returns-in-Err-refuse_line-clause-faults g c =
    let view = g.P.Pages.view in
    let first = pages c.args.live.now in
    let mid = pages c.lines.live in
    let taken = pages c.next.new.from in
    let w = g.met.P.PageWorld in
    let inv = c.lines.invariant in
    let kept = w.take_keeps mid taken c.next.ensures.beside.changed.store_is.pages_are in
    let new = pages c.refuse_line.new.live in
    let next = counts_kept view g.P.Streams.read_faults g.P.Streams.send_faults w.beside_read_faults w.beside_send_faults mid taken kept
    (c.in-Ok.ensures.quiet (ok_err _ _)) c.next.ensures.send_faults in
    counts_then (end_fault c.in-Err-refuse_line.end) (view first) (view taken) (view new)
    (counts_then None (view first) (view mid) (view taken) inv.faults next) c.in-Err-refuse_line.ensures.faults

pub returns-in-Err-answer_line-clause-faults : goal.returns-in-Err-answer_line-clause-faults
returns-in-Err-answer_line-clause-faults g c =
    let view = g.P.Pages.view in
    let first = pages c.args.live.now in
    let mid = pages c.lines.live in
    let taken = pages c.next.new.from in
    let w = g.met.P.PageWorld in
    let inv = c.lines.invariant in
    let kept = w.take_keeps mid taken c.next.ensures.beside.changed.store_is.pages_are in
    let new = pages c.answer_line.new.live in
    let next = counts_kept view g.P.Streams.read_faults g.P.Streams.send_faults w.beside_read_faults w.beside_send_faults mid taken kept
    (c.in-Ok.ensures.quiet (ok_err _ _)) c.next.ensures.send_faults in
    counts_then (end_fault c.in-Err-answer_line.end) (view first) (view taken) (view new)
    (counts_then None (view first) (view mid) (view taken) inv.faults next) c.in-Err-answer_line.ensures.faults

pub returns-in-End-clause-answers : goal.returns-in-End-clause-answers
returns-in-End-clause-answers g c =
    let left = g.P.Streams.left in
    let sent = g.P.Streams.sent in
    let start = c.args.live.now in
    let first = pages start in
    let mid = pages c.lines.live in
    let taken = pages c.next.new.from in
    let beside = c.next.ensures.beside in
    let own = watched start in
    let now = watched c.next.new.from in
    let far = far_answered_kept (left first) (unread c.lines.lines (left mid)) c.lines.lines.given own (watched c.lines.live) now
    (sent first) (sent mid) (sent taken) (watched_same (watched c.next.new.from)
    (watched c.lines.live) beside.changed.sessions beside.followed_same) c.next.ensures.sent c.lines.invariant.answered in
    answered_far (left first) (unread c.lines.lines (left mid)) c.lines.lines.given own now (sent first) (sent taken)
    (c.in-Ok.ensures.end (ap Ok c.in-End.is)) far

pub returns-in-Err-refuse_line-clause-blames : goal.returns-in-Err-refuse_line-clause-blames
returns-in-Err-refuse_line-clause-blames g c =
    let left = g.P.Streams.left in
    let sent = g.P.Streams.sent in
    let start = c.args.live.now in
    let first = pages start in
    let mid = pages c.lines.live in
    let taken = pages c.next.new.from in
    let after = c.refuse_line.new.live in
    let inv = c.lines.invariant in
    let e = c.in-Ok.ensures in
    let beside = c.next.ensures.beside in
    let line : Option (List ℕ) = None in
    let gives : Gives c.lines.lines c.next.new.self (left mid) (left taken) line =
    gives_by c.lines.lines c.next.new.self (left mid) (left taken) line
    (e.too_long (ap Ok c.in-TooLong.is)) e.rest inv.counted e.given e.total in
    let own = watched start in
    let far = far_answered_kept (left first) (unread c.lines.lines (left mid)) c.lines.lines.given own (watched c.lines.live)
    (watched c.next.new.from) (sent first) (sent mid) (sent taken)
    (watched_same (watched c.next.new.from) (watched c.lines.live) beside.changed.sessions beside.followed_same) c.next.ensures.sent
    inv.answered in
    far_blamed (left first) c.lines.lines c.next.new.self (left mid) (left taken) line gives own (watched c.next.new.from) (sent first)
    (sent taken) (sent (pages after)) (shown.IsTold (its.service after)) (its.view after).size (its.view after).image
    c.in-Err-refuse_line.end c.in-Err-refuse_line.ensures.blames far

pub returns-in-Err-answer_line-clause-blames : goal.returns-in-Err-answer_line-clause-blames
returns-in-Err-answer_line-clause-blames g c =
    let left = g.P.Streams.left in
    let sent = g.P.Streams.sent in
    let start = c.args.live.now in
    let first = pages start in
    let mid = pages c.lines.live in
    let taken = pages c.next.new.from in
    let after = c.answer_line.new.live in
    let inv = c.lines.invariant in
    let e = c.in-Ok.ensures in
    let beside = c.next.ensures.beside in
    let text = c.line.result.now in
    let line : Option (List ℕ) = Some text in
    let gives : Gives c.lines.lines c.next.new.self (left mid) (left taken) (Some text) =
    gives_by c.lines.lines c.next.new.self (left mid) (left taken) (Some text)
    (same_line _ _ text c.next.new.self.line c.line.ensures.line (e.line (ap Ok c.in-Line.is))) e.rest inv.counted e.given e.total in
    let own = watched start in
    let far = far_answered_kept (left first) (unread c.lines.lines (left mid)) c.lines.lines.given own (watched c.lines.live)
    (watched c.next.new.from) (sent first) (sent mid) (sent taken)
    (watched_same (watched c.next.new.from) (watched c.lines.live) beside.changed.sessions beside.followed_same) c.next.ensures.sent
    inv.answered in
    far_blamed (left first) c.lines.lines c.next.new.self (left mid) (left taken) line gives own (watched c.next.new.from) (sent first)
    (sent taken) (sent (pages after)) (shown.IsTold (its.service after)) (its.view after).size (its.view after).image
    c.in-Err-answer_line.end c.in-Err-answer_line.ensures.blames far

pub returns-in-Err-clause-blames : goal.returns-in-Err-clause-blames
returns-in-Err-clause-blames g c = input_unblamed c.in-Err.fault c.input_end.result _ c.input_end.ensures
