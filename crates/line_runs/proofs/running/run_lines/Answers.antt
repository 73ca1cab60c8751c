use Rattle.std.proofs.Common.{◌≡◌, ◌∙◌, ℕ, ◌+◌, ◌≤◌, List, Option, None, Some, Ok, Err, IsTrue, length, refl, ap, sym, subst, arith}
use Rattle.chart_world.specs.FaultLaws.{counts_then, counts_kept}
use Rattle.chart_world.specs.FrontLaws.{gives_by, longer, read_up, same_line}
use Rattle.chart_world.specs.Fronts.{Gives}
use Rattle.chart_world.specs.Reading.{IsNone, IsReadUp, Reading, input_length}
use Rattle.chart_world.specs.StandsLaws.{stands_beside, stands_up_to}
use Rattle.line_runs.specs.CarriedLaws.{carries_on}
use Rattle.line_runs.specs.Given.{Line, Pause, End}
use Rattle.line_runs.specs.Runs.{AreAll}
use Rattle.line_runs.proofs.GoingLemmas.{Going, Stands, Waiting, end_all, end_next, fault_stops, few_left, few_line, few_stands}
use Rattle.line_runs.proofs.GoingLemmas.{going_first, going_one, lasts_first, lasts_one, lasts_take, line_at, line_next, one_stops}
use Rattle.line_runs.proofs.GoingLemmas.{pause_next, waiting}
use Rattle.line_runs.proofs.Outcomes.{fault_same, ok_err}
use Rattle.line_runs.proofs.running.run_lines.Goals as goal

later_pieces : (a b c : ℕ) → a ≤ b → b ≤ c → a ≤ c
later_pieces a b c first second = omega (arith, first, second)

within_limit : (given most limit : ℕ) → most ≡ limit → given ≤ most → given ≤ limit
within_limit given most limit same within = omega (arith, same, within)

pub lines-init : goal.lines-init
lines-init g c =
    let left = g.S.Streams.left in
    let sent = g.S.Streams.sent in
    let w = g.W.LineWork in
    let laws = g.met.W.LineWork in
    let from = c.args.from.now in
    let work = c.args.work.now in
    let fresh = c.requires.fresh in
    let U : Reading → Type 0 = λ r. IsTrue r.usable in
    let F : Reading → Type 0 = λ r. w.fit work from r.given in
    record {
      usable = subst U (sym fresh) refl;
      counted = omega (
        arith,
        ap (λ (r : Reading). r.taken) fresh,
        ap (λ (r : Reading). r.given) fresh,
        ap (λ (r : Reading). length r.pending) fresh,
      );
      within = omega (arith, ap (λ (r : Reading). r.given) fresh);
      limited = ap (λ (r : Reading). r.limit) fresh;
      whole = ap (λ (r : Reading). input_length r.taken (left from)) fresh;
      stands_in = stands_up_to w.limit (left from) c.args.lines.now fresh;
      fit = subst F (sym fresh) c.requires.fit;
      goes = laws.goes_none from;
      quiet = refl;
      far = λ state stands. going_first w.limit w.does w.rests w.leaves state (left from) (λ s. w.stands s work from) c.args.lines.now
          (g.S.Streams.pieces from) (sent from) fresh stands;
      lasts = λ state stands lasting. lasts_first w.limit w.does w.rests w.leaves state (left from) (sent from) (w.view from)
          (laws.now_rests state work from 0 c.requires.fit stands lasting);
    }

pub returns-in-Err-clause-stops : goal.returns-in-Err-clause-stops
returns-in-Err-clause-stops g c = λ state stands.
    let left = g.S.Streams.left in
    let sent = g.S.Streams.sent in
    let pieces = g.S.Streams.pieces in
    let w = g.W.LineWork in
    let first = c.args.from.now in
    let mid = c.lines.from in
    let inv = c.lines.invariant in
    let r = c.lines.lines in
    let paused = c.pause_for.new.from in
    let work = c.pause_for.new.work in
    let pausing = c.pause_for.ensures in
    one_stops w.limit w.does w.rests w.leaves state (left first) (Stands w.limit r (left mid) (pieces first) (pieces mid))
    (λ s. w.stands s c.lines.work mid) (sent first) (sent mid) (inv.far state stands)
    (λ s it end before. w.stops s it end work paused before) (λ s. w.stands s work paused) Pause (left paused) (sent paused)
    (pieces first) (pieces paused) c.in-Err.end
    (pause_next w.limit (inv.far state stands).done.given r (left mid) (pieces first) (pieces mid) (pieces paused) pausing.pieces)
    (few_stands w.limit (inv.far state stands).done.given r (left mid) (pieces first) (pieces mid) (pieces paused) pausing.pieces)
    (c.in-Err.ensures.stops (inv.far state stands).done.behind (inv.far state stands).stands)

pub returns-in-Err-clause-crash : goal.returns-in-Err-clause-crash
returns-in-Err-clause-crash g c = λ state stands lasting.
    let left = g.S.Streams.left in
    let sent = g.S.Streams.sent in
    let pieces = g.S.Streams.pieces in
    let w = g.W.LineWork in
    let laws = g.met.W.LineWork in
    let first = c.args.from.now in
    let mid = c.lines.from in
    let inv = c.lines.invariant in
    let r = c.lines.lines in
    let paused = c.pause_for.new.from in
    let pausing = c.pause_for.ensures in
    let lasting_far = carries_on w.does w.lasting laws.lasting_on (inv.far state stands).done.given state (inv.far state stands).done.text
    (inv.far state stands).done.behind (inv.far state stands).done.carries lasting in
    let lasts_paused = lasts_one w.limit w.does w.rests w.leaves state (left first)
    (Stands w.limit r (left mid) (pieces first) (pieces mid))
    (λ s. w.stands s c.lines.work mid) (sent first) (sent mid) (inv.far state stands) Pause (w.view first) (w.view mid) (w.view paused)
    (laws.counts_sent first) (laws.counts_sent mid)
    (pause_next w.limit (inv.far state stands).done.given r (left mid) (pieces first) (pieces mid) (pieces paused) pausing.pieces)
    (pausing.leaves (inv.far state stands).done.behind (inv.far state stands).stands lasting_far) (inv.lasts state stands lasting) in
    lasts_paused

pub next-requires : goal.next-requires
next-requires g c =
    let inv = c.lines.invariant in
    let pausing = c.pause_for.ensures in
    record {
      usable = inv.usable;
      ended = λ end. subst (λ (l : Option (List ℕ)). IsNone l) (sym pausing.left) (inv.stands_in.nothing end);
    }

pub returns-in-Err-next-clause-stops : goal.returns-in-Err-next-clause-stops
returns-in-Err-next-clause-stops g c = λ state stands.
    let left = g.S.Streams.left in
    let sent = g.S.Streams.sent in
    let pieces = g.S.Streams.pieces in
    let w = g.W.LineWork in
    let laws = g.met.W.LineWork in
    let first = c.args.from.now in
    let mid = c.lines.from in
    let inv = c.lines.invariant in
    let r = c.lines.lines in
    let paused = c.pause_for.new.from in
    let work = c.pause_for.new.work in
    let pausing = c.pause_for.ensures in
    let pauses = c.in-Ok.ensures in
    let taken = c.next.new.from in
    let r' = c.next.new.self in
    let takes = c.next.ensures.beside in
    let next = c.next.ensures in
    let here = waiting w.limit w.does w.rests w.leaves state (left first) (λ s. w.stands s c.lines.work mid) (λ s. w.stands s work paused)
    (λ s. w.stands s work taken) r (left mid) (left paused) (pieces first) (pieces mid) (pieces paused) (sent first) (sent mid)
    (sent paused) (sent taken) pausing.left pausing.pieces (λ s. laws.stands_taken s work paused taken takes next.sent) next.sent
    (inv.far state stands) (pauses.does (inv.far state stands).done.behind (inv.far state stands).stands) in
    fault_stops w.limit w.does w.rests w.leaves state (left first) (λ s it end before. w.stops s it end work taken before)
    (λ s. w.stands s work taken) (sent first) (sent taken) r r' (left paused) (left taken) (pieces first)
    (pieces paused) (pieces taken) c.in-Err-next.fault inv.limited (λ h. inv.stands_in.whole (c.in-Err-next.ensures.not_ended (ap Err h)))
    (λ h. c.in-Err-next.ensures.read_before (ap Err h)) (λ h. c.in-Err-next.ensures.past_before (ap Err h))
    (λ h. c.in-Err-next.ensures.past (ap Err h))
    c.in-Err-next.ensures.left_on_err inv.counted next.forward c.in-Err-next.ensures.total next.pieces here

pub returns-in-Err-next-clause-crash : goal.returns-in-Err-next-clause-crash
returns-in-Err-next-clause-crash g c = λ state stands lasting.
    let left = g.S.Streams.left in
    let sent = g.S.Streams.sent in
    let pieces = g.S.Streams.pieces in
    let w = g.W.LineWork in
    let laws = g.met.W.LineWork in
    let first = c.args.from.now in
    let mid = c.lines.from in
    let inv = c.lines.invariant in
    let r = c.lines.lines in
    let paused = c.pause_for.new.from in
    let work = c.pause_for.new.work in
    let pausing = c.pause_for.ensures in
    let pauses = c.in-Ok.ensures in
    let taken = c.next.new.from in
    let takes = c.next.ensures.beside in
    let ready = waiting w.limit w.does w.rests w.leaves state (left first) (λ s. w.stands s c.lines.work mid) (λ s. w.stands s work paused)
    (λ s. w.stands s work paused) r (left mid) (left paused) (pieces first) (pieces mid) (pieces paused) (sent first) (sent mid)
    (sent paused) (sent paused) pausing.left pausing.pieces (λ s is. is) refl (inv.far state stands)
    (pauses.does (inv.far state stands).done.behind (inv.far state stands).stands) in
    let lasting_far = carries_on w.does w.lasting laws.lasting_on (inv.far state stands).done.given state (inv.far state stands).done.text
    (inv.far state stands).done.behind (inv.far state stands).done.carries lasting in
    let lasts_paused = lasts_one w.limit w.does w.rests w.leaves state (left first)
    (Stands w.limit r (left mid) (pieces first) (pieces mid))
    (λ s. w.stands s c.lines.work mid) (sent first) (sent mid) (inv.far state stands) Pause (w.view first) (w.view mid) (w.view paused)
    (laws.counts_sent first) (laws.counts_sent mid)
    (pause_next w.limit (inv.far state stands).done.given r (left mid) (pieces first) (pieces mid) (pieces paused) pausing.pieces)
    (pausing.leaves (inv.far state stands).done.behind (inv.far state stands).stands lasting_far) (inv.lasts state stands lasting) in
    let so_far = lasts_take w.limit w.does w.rests w.leaves state (left first)
    (Waiting w.limit r (left paused) (pieces first) (pieces paused))
    (λ s. w.stands s work paused) (sent first) (sent paused) ready (λ input is. is.first) (w.view first) (w.view paused) (w.view taken)
    (laws.counts_sent first) (laws.counts_sent paused)
    (laws.now_rests ready.done.behind work paused r.given pauses.fit ready.stands
    (carries_on w.does w.lasting laws.lasting_on ready.done.given state ready.done.text ready.done.behind ready.done.carries lasting))
    (laws.take_passes paused taken takes) lasts_paused in
    so_far

pub returns-in-Err-next-clause-long : goal.returns-in-Err-next-clause-long
returns-in-Err-next-clause-long g c = λ same.
    let left = g.S.Streams.left in
    let inv = c.lines.invariant in
    let no = c.in-Err-next.ensures in
    let limit = g.W.LineWork.limit in
    longer (left c.args.from.now) (left c.next.new.from) c.next.new.self.taken limit
    (omega (arith, no.past (ap Err (fault_same c.in-Err-next.fault same)), inv.limited))
    (no.total ∙ ap (input_length c.lines.lines.taken) c.pause_for.ensures.left ∙ inv.whole)

pub returns-in-Err-next-clause-fit_on_err : goal.returns-in-Err-next-clause-fit_on_err
returns-in-Err-next-clause-fit_on_err g c =
    let laws = g.met.W.LineWork in
    let inv = c.lines.invariant in
    let r = c.lines.lines in
    let paused = c.pause_for.new.from in
    let work = c.pause_for.new.work in
    let pauses = c.in-Ok.ensures in
    let taken = c.next.new.from in
    let takes = c.next.ensures.beside in
    let still = laws.fit_taken work paused taken r.given takes pauses.fit in
    λ harmless. laws.fit_later work taken r.given g.W.LineWork.limit inv.within still

pub finish-requires : goal.finish-requires
finish-requires g c =
    let laws = g.met.W.LineWork in
    let inv = c.lines.invariant in
    let r = c.lines.lines in
    let paused = c.pause_for.new.from in
    let work = c.pause_for.new.work in
    let pauses = c.in-Ok.ensures in
    let taken = c.next.new.from in
    let takes = c.next.ensures.beside in
    let still = laws.fit_taken work paused taken r.given takes pauses.fit in
    record { fit = laws.fit_later work taken r.given g.W.LineWork.limit inv.within still }

pub returns-in-Ok-finish-clause-done : goal.returns-in-Ok-finish-clause-done
returns-in-Ok-finish-clause-done g c = λ state stands.
    let left = g.S.Streams.left in
    let sent = g.S.Streams.sent in
    let pieces = g.S.Streams.pieces in
    let w = g.W.LineWork in
    let laws = g.met.W.LineWork in
    let first = c.args.from.now in
    let mid = c.lines.from in
    let inv = c.lines.invariant in
    let r = c.lines.lines in
    let paused = c.pause_for.new.from in
    let work = c.pause_for.new.work in
    let pausing = c.pause_for.ensures in
    let pauses = c.in-Ok.ensures in
    let taken = c.next.new.from in
    let takes = c.next.ensures.beside in
    let next = c.next.ensures in
    let e = c.in-Ok-next.ensures in
    let none = e.end (ap Ok c.in-End.is) in
    let here = waiting w.limit w.does w.rests w.leaves state (left first) (λ s. w.stands s c.lines.work mid) (λ s. w.stands s work paused)
    (λ s. w.stands s work taken) r (left mid) (left paused) (pieces first) (pieces mid) (pieces paused) (sent first) (sent mid)
    (sent paused) (sent taken) pausing.left pausing.pieces (λ s. laws.stands_taken s work paused taken takes next.sent) next.sent
    (inv.far state stands) (pauses.does (inv.far state stands).done.behind (inv.far state stands).stands) in
    going_one w.limit w.does w.rests w.leaves state (left first) (Waiting w.limit r (left paused) (pieces first) (pieces paused))
    (λ s. w.stands s work taken) (sent first) (sent taken) here (AreAll (pieces first) (pieces c.finish.new.from))
    (λ s. w.stands s c.finish.new.self c.finish.new.from) End (sent c.finish.new.from)
    (end_all w.limit here.done.given r (left paused) (pieces first) (pieces paused) (pieces c.finish.new.from)
    (later_pieces (pieces paused) (pieces taken) (pieces c.finish.new.from) next.pieces c.finish.ensures.pieces) none)
    (c.in-Ok-finish.ensures.does here.done.behind here.stands)

pub returns-in-Ok-finish-clause-whole : goal.returns-in-Ok-finish-clause-whole
returns-in-Ok-finish-clause-whole g c =
    let left = g.S.Streams.left in
    let first = left c.args.from.now in
    let taken = left c.next.new.from in
    let r = c.lines.lines in
    let e = c.in-Ok-next.ensures in
    let U : Option (List ℕ) → Type 0 = λ l. IsReadUp first l in
    subst U (sym c.finish.ensures.left)
    (read_up first (left c.pause_for.new.from) taken r c.next.new.self (e.end (ap Ok c.in-End.is)) e.rest
    (e.total ∙ ap (input_length r.taken) c.pause_for.ensures.left ∙ c.lines.invariant.whole))

pub returns-in-Ok-finish-clause-crash : goal.returns-in-Ok-finish-clause-crash
returns-in-Ok-finish-clause-crash g c = λ state stands lasting.
    let left = g.S.Streams.left in
    let sent = g.S.Streams.sent in
    let pieces = g.S.Streams.pieces in
    let w = g.W.LineWork in
    let laws = g.met.W.LineWork in
    let first = c.args.from.now in
    let mid = c.lines.from in
    let inv = c.lines.invariant in
    let r = c.lines.lines in
    let paused = c.pause_for.new.from in
    let work = c.pause_for.new.work in
    let pausing = c.pause_for.ensures in
    let pauses = c.in-Ok.ensures in
    let taken = c.next.new.from in
    let takes = c.next.ensures.beside in
    let next = c.next.ensures in
    let e = c.in-Ok-next.ensures in
    let none = e.end (ap Ok c.in-End.is) in
    let ready = waiting w.limit w.does w.rests w.leaves state (left first) (λ s. w.stands s c.lines.work mid) (λ s. w.stands s work paused)
    (λ s. w.stands s work paused) r (left mid) (left paused) (pieces first) (pieces mid) (pieces paused) (sent first) (sent mid)
    (sent paused) (sent paused) pausing.left pausing.pieces (λ s is. is) refl (inv.far state stands)
    (pauses.does (inv.far state stands).done.behind (inv.far state stands).stands) in
    let here = waiting w.limit w.does w.rests w.leaves state (left first) (λ s. w.stands s c.lines.work mid) (λ s. w.stands s work paused)
    (λ s. w.stands s work taken) r (left mid) (left paused) (pieces first) (pieces mid) (pieces paused) (sent first) (sent mid)
    (sent paused) (sent taken) pausing.left pausing.pieces (λ s. laws.stands_taken s work paused taken takes next.sent) next.sent
    (inv.far state stands) (pauses.does (inv.far state stands).done.behind (inv.far state stands).stands) in
    let lasting_far = carries_on w.does w.lasting laws.lasting_on (inv.far state stands).done.given state (inv.far state stands).done.text
    (inv.far state stands).done.behind (inv.far state stands).done.carries lasting in
    let lasting_here = carries_on w.does w.lasting laws.lasting_on here.done.given state here.done.text here.done.behind here.done.carries
    lasting in
    let lasts_paused = lasts_one w.limit w.does w.rests w.leaves state (left first)
    (Stands w.limit r (left mid) (pieces first) (pieces mid))
    (λ s. w.stands s c.lines.work mid) (sent first) (sent mid) (inv.far state stands) Pause (w.view first) (w.view mid) (w.view paused)
    (laws.counts_sent first) (laws.counts_sent mid)
    (pause_next w.limit (inv.far state stands).done.given r (left mid) (pieces first) (pieces mid) (pieces paused) pausing.pieces)
    (pausing.leaves (inv.far state stands).done.behind (inv.far state stands).stands lasting_far) (inv.lasts state stands lasting) in
    let so_far = lasts_take w.limit w.does w.rests w.leaves state (left first)
    (Waiting w.limit r (left paused) (pieces first) (pieces paused))
    (λ s. w.stands s work paused) (sent first) (sent paused) ready (λ input is. is.first) (w.view first) (w.view paused) (w.view taken)
    (laws.counts_sent first) (laws.counts_sent paused)
    (laws.now_rests ready.done.behind work paused r.given pauses.fit ready.stands
    (carries_on w.does w.lasting laws.lasting_on ready.done.given state ready.done.text ready.done.behind ready.done.carries lasting))
    (laws.take_passes paused taken takes) lasts_paused in
    lasts_one w.limit w.does w.rests w.leaves state (left first) (Waiting w.limit r (left paused) (pieces first) (pieces paused))
    (λ s. w.stands s work taken) (sent first) (sent taken) here End (w.view first) (w.view taken)
    (w.view c.finish.new.from) (laws.counts_sent first) (laws.counts_sent taken)
    (end_next w.limit here.done.given r (left paused) (pieces first) (pieces paused) (pieces c.finish.new.from)
    (later_pieces (pieces paused) (pieces taken) (pieces c.finish.new.from) next.pieces c.finish.ensures.pieces) none)
    (c.finish.ensures.leaves here.done.behind here.stands lasting_here) so_far

pub returns-in-Err-finish-clause-crash : goal.returns-in-Err-finish-clause-crash
returns-in-Err-finish-clause-crash g c = λ state stands lasting.
    let left = g.S.Streams.left in
    let sent = g.S.Streams.sent in
    let pieces = g.S.Streams.pieces in
    let w = g.W.LineWork in
    let laws = g.met.W.LineWork in
    let first = c.args.from.now in
    let mid = c.lines.from in
    let inv = c.lines.invariant in
    let r = c.lines.lines in
    let paused = c.pause_for.new.from in
    let work = c.pause_for.new.work in
    let pausing = c.pause_for.ensures in
    let pauses = c.in-Ok.ensures in
    let taken = c.next.new.from in
    let takes = c.next.ensures.beside in
    let next = c.next.ensures in
    let e = c.in-Ok-next.ensures in
    let none = e.end (ap Ok c.in-End.is) in
    let ready = waiting w.limit w.does w.rests w.leaves state (left first) (λ s. w.stands s c.lines.work mid) (λ s. w.stands s work paused)
    (λ s. w.stands s work paused) r (left mid) (left paused) (pieces first) (pieces mid) (pieces paused) (sent first) (sent mid)
    (sent paused) (sent paused) pausing.left pausing.pieces (λ s is. is) refl (inv.far state stands)
    (pauses.does (inv.far state stands).done.behind (inv.far state stands).stands) in
    let here = waiting w.limit w.does w.rests w.leaves state (left first) (λ s. w.stands s c.lines.work mid) (λ s. w.stands s work paused)
    (λ s. w.stands s work taken) r (left mid) (left paused) (pieces first) (pieces mid) (pieces paused) (sent first) (sent mid)
    (sent paused) (sent taken) pausing.left pausing.pieces (λ s. laws.stands_taken s work paused taken takes next.sent) next.sent
    (inv.far state stands) (pauses.does (inv.far state stands).done.behind (inv.far state stands).stands) in
    let lasting_far = carries_on w.does w.lasting laws.lasting_on (inv.far state stands).done.given state (inv.far state stands).done.text
    (inv.far state stands).done.behind (inv.far state stands).done.carries lasting in
    let lasting_here = carries_on w.does w.lasting laws.lasting_on here.done.given state here.done.text here.done.behind here.done.carries
    lasting in
    let lasts_paused = lasts_one w.limit w.does w.rests w.leaves state (left first)
    (Stands w.limit r (left mid) (pieces first) (pieces mid))
    (λ s. w.stands s c.lines.work mid) (sent first) (sent mid) (inv.far state stands) Pause (w.view first) (w.view mid) (w.view paused)
    (laws.counts_sent first) (laws.counts_sent mid)
    (pause_next w.limit (inv.far state stands).done.given r (left mid) (pieces first) (pieces mid) (pieces paused) pausing.pieces)
    (pausing.leaves (inv.far state stands).done.behind (inv.far state stands).stands lasting_far) (inv.lasts state stands lasting) in
    let so_far = lasts_take w.limit w.does w.rests w.leaves state (left first)
    (Waiting w.limit r (left paused) (pieces first) (pieces paused))
    (λ s. w.stands s work paused) (sent first) (sent paused) ready (λ input is. is.first) (w.view first) (w.view paused) (w.view taken)
    (laws.counts_sent first) (laws.counts_sent paused)
    (laws.now_rests ready.done.behind work paused r.given pauses.fit ready.stands
    (carries_on w.does w.lasting laws.lasting_on ready.done.given state ready.done.text ready.done.behind ready.done.carries lasting))
    (laws.take_passes paused taken takes) lasts_paused in
    lasts_one w.limit w.does w.rests w.leaves state (left first) (Waiting w.limit r (left paused) (pieces first) (pieces paused))
    (λ s. w.stands s work taken) (sent first) (sent taken) here End (w.view first) (w.view taken)
    (w.view c.finish.new.from) (laws.counts_sent first) (laws.counts_sent taken)
    (end_next w.limit here.done.given r (left paused) (pieces first) (pieces paused) (pieces c.finish.new.from)
    (later_pieces (pieces paused) (pieces taken) (pieces c.finish.new.from) next.pieces c.finish.ensures.pieces) none)
    (c.finish.ensures.leaves here.done.behind here.stands lasting_here) so_far

pub returns-in-Err-finish-clause-stops : goal.returns-in-Err-finish-clause-stops
returns-in-Err-finish-clause-stops g c = λ state stands.
    let left = g.S.Streams.left in
    let sent = g.S.Streams.sent in
    let pieces = g.S.Streams.pieces in
    let w = g.W.LineWork in
    let laws = g.met.W.LineWork in
    let first = c.args.from.now in
    let mid = c.lines.from in
    let inv = c.lines.invariant in
    let r = c.lines.lines in
    let paused = c.pause_for.new.from in
    let work = c.pause_for.new.work in
    let pausing = c.pause_for.ensures in
    let pauses = c.in-Ok.ensures in
    let taken = c.next.new.from in
    let takes = c.next.ensures.beside in
    let next = c.next.ensures in
    let e = c.in-Ok-next.ensures in
    let none = e.end (ap Ok c.in-End.is) in
    let here = waiting w.limit w.does w.rests w.leaves state (left first) (λ s. w.stands s c.lines.work mid) (λ s. w.stands s work paused)
    (λ s. w.stands s work taken) r (left mid) (left paused) (pieces first) (pieces mid) (pieces paused) (sent first) (sent mid)
    (sent paused) (sent taken) pausing.left pausing.pieces (λ s. laws.stands_taken s work paused taken takes next.sent) next.sent
    (inv.far state stands) (pauses.does (inv.far state stands).done.behind (inv.far state stands).stands) in
    one_stops w.limit w.does w.rests w.leaves state (left first) (Waiting w.limit r (left paused) (pieces first) (pieces paused))
    (λ s. w.stands s work taken) (sent first) (sent taken) here
    (λ s it end before. w.stops s it end c.finish.new.self c.finish.new.from before)
    (λ s. w.stands s c.finish.new.self c.finish.new.from) End
    (left c.finish.new.from) (sent c.finish.new.from) (pieces first) (pieces c.finish.new.from) c.in-Err-finish.end
    (end_next w.limit here.done.given r (left paused) (pieces first) (pieces paused) (pieces c.finish.new.from)
    (later_pieces (pieces paused) (pieces taken) (pieces c.finish.new.from) next.pieces c.finish.ensures.pieces) none)
    (few_left w.limit here.done.given r (left paused) (pieces first) (pieces paused) (pieces c.finish.new.from)
    (later_pieces (pieces paused) (pieces taken) (pieces c.finish.new.from) next.pieces c.finish.ensures.pieces) none)
    (c.in-Err-finish.ensures.stops here.done.behind here.stands)

pub returns-in-Err-finish-clause-cause : goal.returns-in-Err-finish-clause-cause
returns-in-Err-finish-clause-cause g c =
    let w = g.W.LineWork in
    let laws = g.met.W.LineWork in
    let first = c.args.from.now in
    let mid = c.lines.from in
    let inv = c.lines.invariant in
    let paused = c.pause_for.new.from in
    let pausing = c.pause_for.ensures in
    let pauses = c.in-Ok.ensures in
    let taken = c.next.new.from in
    let takes = c.next.ensures.beside in
    let next = c.next.ensures in
    let e = c.in-Ok-next.ensures in
    let calm_paused = counts_then None (w.view first) (w.view mid) (w.view paused) inv.quiet pauses.faults in
    let calm = counts_then None (w.view first) (w.view paused) (w.view taken) calm_paused
    (counts_kept w.view g.S.Streams.read_faults g.S.Streams.send_faults laws.beside_read_faults laws.beside_send_faults paused taken
    (laws.take_keeps paused taken takes) (e.quiet (ok_err _ _)) next.send_faults) in
    let gone = laws.goes_then first paused taken (laws.goes_then first mid paused inv.goes pausing.goes)
    (laws.take_goes paused taken takes next.sent next.read_faults next.send_faults next.pieces) in
    laws.cause_later c.in-Err-finish.end first taken c.finish.new.from calm gone c.in-Err-finish.ensures.cause

pub long_line-requires : goal.long_line-requires
long_line-requires g c =
    let w = g.W.LineWork in
    let laws = g.met.W.LineWork in
    let r = c.lines.lines in
    let paused = c.pause_for.new.from in
    let work = c.pause_for.new.work in
    let pauses = c.in-Ok.ensures in
    let taken = c.next.new.from in
    let takes = c.next.ensures.beside in
    let e = c.in-Ok-next.ensures in
    let still = laws.fit_taken work paused taken r.given takes pauses.fit in
    let is_long = ap Ok c.in-TooLong.is in
    let at_long = c.offset.result in
    let at_long_is : at_long ≡ r.given = c.offset.ensures ∙ e.offset_too_long is_long in
    record {
      fit = subst (λ (n : ℕ). w.fit work taken n) (sym at_long_is) still;
      early = omega (arith, at_long_is, e.passes_too_long is_long, e.within, c.lines.invariant.limited);
    }

pub lines-preserved-in-Ok-long_line : goal.lines-preserved-in-Ok-long_line
lines-preserved-in-Ok-long_line g c =
    let left = g.S.Streams.left in
    let sent = g.S.Streams.sent in
    let pieces = g.S.Streams.pieces in
    let w = g.W.LineWork in
    let laws = g.met.W.LineWork in
    let first = c.args.from.now in
    let mid = c.lines.from in
    let inv = c.lines.invariant in
    let r = c.lines.lines in
    let paused = c.pause_for.new.from in
    let work = c.pause_for.new.work in
    let pausing = c.pause_for.ensures in
    let pauses = c.in-Ok.ensures in
    let taken = c.next.new.from in
    let r' = c.next.new.self in
    let takes = c.next.ensures.beside in
    let next = c.next.ensures in
    let e = c.in-Ok-next.ensures in
    let calm_paused = counts_then None (w.view first) (w.view mid) (w.view paused) inv.quiet pauses.faults in
    let calm = counts_then None (w.view first) (w.view paused) (w.view taken) calm_paused
    (counts_kept w.view g.S.Streams.read_faults g.S.Streams.send_faults laws.beside_read_faults laws.beside_send_faults paused taken
    (laws.take_keeps paused taken takes) (e.quiet (ok_err _ _)) next.send_faults) in
    let gone = laws.goes_then first paused taken (laws.goes_then first mid paused inv.goes pausing.goes)
    (laws.take_goes paused taken takes next.sent next.read_faults next.send_faults next.pieces) in
    let is_long = ap Ok c.in-TooLong.is in
    let gives_long : Gives r r' (left paused) (left taken) None = gives_by r r' (left paused) (left taken) None
    (e.too_long is_long) e.rest inv.counted e.given e.total in
    let at_long = c.offset.result in
    let at_long_is : at_long ≡ r.given = c.offset.ensures ∙ e.offset_too_long is_long in
    let U : Option (List ℕ) → Type 0 = λ l. input_length r'.taken l ≡ input_length 0 (left first) in
    let whole : input_length r'.taken (left taken) ≡ input_length 0 (left first) = e.total ∙ ap (input_length r.taken) pausing.left
    ∙ inv.whole in
    record {
      usable = e.usable;
      counted = e.given;
      within = within_limit r'.given r.limit w.limit inv.limited e.within;
      limited = next.limit ∙ inv.limited;
      whole = subst U (sym c.long_line.ensures.left) whole;
      stands_in = stands_beside (left first) (left taken) (left c.long_line.new.from) r' c.long_line.ensures.left
          (e.stands (left first) (stands_beside (left first) (left mid) (left paused) r pausing.left inv.stands_in));
      fit = laws.fit_later c.long_line.new.self c.long_line.new.from (at_long + 1) r'.given
          (omega (arith, at_long_is, e.passes_too_long is_long)) c.in-Ok-long_line.ensures.fit;
      goes = laws.goes_then first taken c.long_line.new.from gone c.long_line.ensures.goes;
      quiet = counts_then None (w.view first) (w.view taken) (w.view c.long_line.new.from) calm c.in-Ok-long_line.ensures.faults;
      far = λ state stands.
          let here = waiting w.limit w.does w.rests w.leaves state (left first) (λ s. w.stands s c.lines.work mid)
          (λ s. w.stands s work paused)
          (λ s. w.stands s work taken) r (left mid) (left paused) (pieces first) (pieces mid) (pieces paused) (sent first) (sent mid)
          (sent paused) (sent taken) pausing.left pausing.pieces (λ s. laws.stands_taken s work paused taken takes next.sent) next.sent
          (inv.far state stands) (pauses.does (inv.far state stands).done.behind (inv.far state stands).stands) in
          let G : Option (List ℕ) → Type 0 = λ l. Going w.limit w.does w.rests w.leaves state (left first)
          (Stands w.limit r' l (pieces first) (pieces c.long_line.new.from)) (λ s. w.stands s c.long_line.new.self c.long_line.new.from)
          (sent first) (sent c.long_line.new.from) in
          subst G (sym c.long_line.ensures.left)
          (going_one w.limit w.does w.rests w.leaves state (left first) (Waiting w.limit r (left paused) (pieces first) (pieces paused))
          (λ s. w.stands s work taken) (sent first) (sent taken) here
          (Stands w.limit r' (left taken) (pieces first) (pieces c.long_line.new.from))
          (λ s. w.stands s c.long_line.new.self c.long_line.new.from) (Line at_long None) (sent c.long_line.new.from)
          (line_at w.limit here.done.given r r' (left paused) (left taken) None gives_long
          (within_limit r'.given r.limit w.limit inv.limited e.within) at_long at_long_is (pieces first) (pieces paused)
          (pieces taken) (pieces c.long_line.new.from) (λ has. ap pieces (next.waits has)) e.took next.pieces c.long_line.ensures.pieces)
          (c.in-Ok-long_line.ensures.does here.done.behind here.stands));
      lasts = λ state stands lasting.
          let here = waiting w.limit w.does w.rests w.leaves state (left first) (λ s. w.stands s c.lines.work mid)
          (λ s. w.stands s work paused)
          (λ s. w.stands s work taken) r (left mid) (left paused) (pieces first) (pieces mid) (pieces paused) (sent first) (sent mid)
          (sent paused) (sent taken) pausing.left pausing.pieces (λ s. laws.stands_taken s work paused taken takes next.sent) next.sent
          (inv.far state stands) (pauses.does (inv.far state stands).done.behind (inv.far state stands).stands) in
          let ready = waiting w.limit w.does w.rests w.leaves state (left first) (λ s. w.stands s c.lines.work mid)
          (λ s. w.stands s work paused)
          (λ s. w.stands s work paused) r (left mid) (left paused) (pieces first) (pieces mid) (pieces paused) (sent first) (sent mid)
          (sent paused) (sent paused) pausing.left pausing.pieces (λ s is. is) refl (inv.far state stands)
          (pauses.does (inv.far state stands).done.behind (inv.far state stands).stands) in
          let lasting_far = carries_on w.does w.lasting laws.lasting_on (inv.far state stands).done.given state
          (inv.far state stands).done.text
          (inv.far state stands).done.behind (inv.far state stands).done.carries lasting in
          let lasting_here = carries_on w.does w.lasting laws.lasting_on here.done.given state here.done.text here.done.behind
          here.done.carries lasting in
          let lasts_paused = lasts_one w.limit w.does w.rests w.leaves state (left first)
          (Stands w.limit r (left mid) (pieces first) (pieces mid))
          (λ s. w.stands s c.lines.work mid) (sent first) (sent mid) (inv.far state stands) Pause (w.view first) (w.view mid)
          (w.view paused)
          (laws.counts_sent first) (laws.counts_sent mid)
          (pause_next w.limit (inv.far state stands).done.given r (left mid) (pieces first) (pieces mid) (pieces paused) pausing.pieces)
          (pausing.leaves (inv.far state stands).done.behind (inv.far state stands).stands lasting_far) (inv.lasts state stands lasting) in
          let so_far = lasts_take w.limit w.does w.rests w.leaves state (left first)
          (Waiting w.limit r (left paused) (pieces first) (pieces paused))
          (λ s. w.stands s work paused) (sent first) (sent paused) ready (λ input is. is.first) (w.view first) (w.view paused)
          (w.view taken)
          (laws.counts_sent first) (laws.counts_sent paused)
          (laws.now_rests ready.done.behind work paused r.given pauses.fit ready.stands
          (carries_on w.does w.lasting laws.lasting_on ready.done.given state ready.done.text ready.done.behind ready.done.carries lasting))
          (laws.take_passes paused taken takes) lasts_paused in
          lasts_one w.limit w.does w.rests w.leaves state (left first) (Waiting w.limit r (left paused) (pieces first) (pieces paused))
          (λ s. w.stands s work taken) (sent first) (sent taken) here (Line at_long None) (w.view first) (w.view taken)
          (w.view c.long_line.new.from) (laws.counts_sent first) (laws.counts_sent taken)
          (line_next w.limit here.done.given r r' (left paused) (left taken) None gives_long
          (within_limit r'.given r.limit w.limit inv.limited e.within) at_long at_long_is (pieces first) (pieces paused)
          (pieces taken) (pieces c.long_line.new.from) (λ has. ap pieces (next.waits has)) e.took next.pieces c.long_line.ensures.pieces)
          (c.long_line.ensures.leaves here.done.behind here.stands lasting_here) so_far;
    }

pub returns-in-Err-long_line-clause-stops : goal.returns-in-Err-long_line-clause-stops
returns-in-Err-long_line-clause-stops g c = λ state stands.
    let left = g.S.Streams.left in
    let sent = g.S.Streams.sent in
    let pieces = g.S.Streams.pieces in
    let w = g.W.LineWork in
    let laws = g.met.W.LineWork in
    let first = c.args.from.now in
    let mid = c.lines.from in
    let inv = c.lines.invariant in
    let r = c.lines.lines in
    let paused = c.pause_for.new.from in
    let work = c.pause_for.new.work in
    let pausing = c.pause_for.ensures in
    let pauses = c.in-Ok.ensures in
    let taken = c.next.new.from in
    let r' = c.next.new.self in
    let takes = c.next.ensures.beside in
    let next = c.next.ensures in
    let e = c.in-Ok-next.ensures in
    let is_long = ap Ok c.in-TooLong.is in
    let gives_long : Gives r r' (left paused) (left taken) None = gives_by r r' (left paused) (left taken) None
    (e.too_long is_long) e.rest inv.counted e.given e.total in
    let at_long = c.offset.result in
    let at_long_is : at_long ≡ r.given = c.offset.ensures ∙ e.offset_too_long is_long in
    let here = waiting w.limit w.does w.rests w.leaves state (left first) (λ s. w.stands s c.lines.work mid) (λ s. w.stands s work paused)
    (λ s. w.stands s work taken) r (left mid) (left paused) (pieces first) (pieces mid) (pieces paused) (sent first) (sent mid)
    (sent paused) (sent taken) pausing.left pausing.pieces (λ s. laws.stands_taken s work paused taken takes next.sent) next.sent
    (inv.far state stands) (pauses.does (inv.far state stands).done.behind (inv.far state stands).stands) in
    one_stops w.limit w.does w.rests w.leaves state (left first) (Waiting w.limit r (left paused) (pieces first) (pieces paused))
    (λ s. w.stands s work taken) (sent first) (sent taken) here
    (λ s it end before. w.stops s it end c.long_line.new.self c.long_line.new.from before)
    (λ s. w.stands s c.long_line.new.self c.long_line.new.from) (Line at_long None)
    (left c.long_line.new.from) (sent c.long_line.new.from) (pieces first) (pieces c.long_line.new.from) c.in-Err-long_line.end
    (line_next w.limit here.done.given r r' (left paused) (left taken) None gives_long
    (within_limit r'.given r.limit w.limit inv.limited e.within) at_long at_long_is (pieces first) (pieces paused)
    (pieces taken) (pieces c.long_line.new.from) (λ has. ap pieces (next.waits has)) e.took next.pieces c.long_line.ensures.pieces)
    (few_line w.limit here.done.given r r' (left paused) (left taken) None gives_long
    (within_limit r'.given r.limit w.limit inv.limited e.within) at_long at_long_is (pieces first) (pieces paused)
    (pieces taken) (pieces c.long_line.new.from) (λ has. ap pieces (next.waits has)) e.took next.pieces c.long_line.ensures.pieces)
    (c.in-Err-long_line.ensures.stops here.done.behind here.stands)

pub returns-in-Err-long_line-clause-crash : goal.returns-in-Err-long_line-clause-crash
returns-in-Err-long_line-clause-crash g c = λ state stands lasting.
    let left = g.S.Streams.left in
    let sent = g.S.Streams.sent in
    let pieces = g.S.Streams.pieces in
    let w = g.W.LineWork in
    let laws = g.met.W.LineWork in
    let first = c.args.from.now in
    let mid = c.lines.from in
    let inv = c.lines.invariant in
    let r = c.lines.lines in
    let paused = c.pause_for.new.from in
    let work = c.pause_for.new.work in
    let pausing = c.pause_for.ensures in
    let pauses = c.in-Ok.ensures in
    let taken = c.next.new.from in
    let r' = c.next.new.self in
    let takes = c.next.ensures.beside in
    let next = c.next.ensures in
    let e = c.in-Ok-next.ensures in
    let is_long = ap Ok c.in-TooLong.is in
    let gives_long : Gives r r' (left paused) (left taken) None = gives_by r r' (left paused) (left taken) None
    (e.too_long is_long) e.rest inv.counted e.given e.total in
    let at_long = c.offset.result in
    let at_long_is : at_long ≡ r.given = c.offset.ensures ∙ e.offset_too_long is_long in
    let ready = waiting w.limit w.does w.rests w.leaves state (left first) (λ s. w.stands s c.lines.work mid) (λ s. w.stands s work paused)
    (λ s. w.stands s work paused) r (left mid) (left paused) (pieces first) (pieces mid) (pieces paused) (sent first) (sent mid)
    (sent paused) (sent paused) pausing.left pausing.pieces (λ s is. is) refl (inv.far state stands)
    (pauses.does (inv.far state stands).done.behind (inv.far state stands).stands) in
    let here = waiting w.limit w.does w.rests w.leaves state (left first) (λ s. w.stands s c.lines.work mid) (λ s. w.stands s work paused)
    (λ s. w.stands s work taken) r (left mid) (left paused) (pieces first) (pieces mid) (pieces paused) (sent first) (sent mid)
    (sent paused) (sent taken) pausing.left pausing.pieces (λ s. laws.stands_taken s work paused taken takes next.sent) next.sent
    (inv.far state stands) (pauses.does (inv.far state stands).done.behind (inv.far state stands).stands) in
    let lasting_far = carries_on w.does w.lasting laws.lasting_on (inv.far state stands).done.given state (inv.far state stands).done.text
    (inv.far state stands).done.behind (inv.far state stands).done.carries lasting in
    let lasting_here = carries_on w.does w.lasting laws.lasting_on here.done.given state here.done.text here.done.behind here.done.carries
    lasting in
    let lasts_paused = lasts_one w.limit w.does w.rests w.leaves state (left first)
    (Stands w.limit r (left mid) (pieces first) (pieces mid))
    (λ s. w.stands s c.lines.work mid) (sent first) (sent mid) (inv.far state stands) Pause (w.view first) (w.view mid) (w.view paused)
    (laws.counts_sent first) (laws.counts_sent mid)
    (pause_next w.limit (inv.far state stands).done.given r (left mid) (pieces first) (pieces mid) (pieces paused) pausing.pieces)
    (pausing.leaves (inv.far state stands).done.behind (inv.far state stands).stands lasting_far) (inv.lasts state stands lasting) in
    let so_far = lasts_take w.limit w.does w.rests w.leaves state (left first)
    (Waiting w.limit r (left paused) (pieces first) (pieces paused))
    (λ s. w.stands s work paused) (sent first) (sent paused) ready (λ input is. is.first) (w.view first) (w.view paused) (w.view taken)
    (laws.counts_sent first) (laws.counts_sent paused)
    (laws.now_rests ready.done.behind work paused r.given pauses.fit ready.stands
    (carries_on w.does w.lasting laws.lasting_on ready.done.given state ready.done.text ready.done.behind ready.done.carries lasting))
    (laws.take_passes paused taken takes) lasts_paused in
    lasts_one w.limit w.does w.rests w.leaves state (left first) (Waiting w.limit r (left paused) (pieces first) (pieces paused))
    (λ s. w.stands s work taken) (sent first) (sent taken) here (Line at_long None) (w.view first) (w.view taken)
    (w.view c.long_line.new.from) (laws.counts_sent first) (laws.counts_sent taken)
    (line_next w.limit here.done.given r r' (left paused) (left taken) None gives_long
    (within_limit r'.given r.limit w.limit inv.limited e.within) at_long at_long_is (pieces first) (pieces paused)
    (pieces taken) (pieces c.long_line.new.from) (λ has. ap pieces (next.waits has)) e.took next.pieces c.long_line.ensures.pieces)
    (c.in-Err-long_line.ensures.leaves here.done.behind here.stands lasting_here) so_far

pub returns-in-Err-long_line-clause-fit_on_err : goal.returns-in-Err-long_line-clause-fit_on_err
returns-in-Err-long_line-clause-fit_on_err g c =
    let laws = g.met.W.LineWork in
    let r = c.lines.lines in
    let e = c.in-Ok-next.ensures in
    let is_long = ap Ok c.in-TooLong.is in
    let at_long = c.offset.result in
    let at_long_is : at_long ≡ r.given = c.offset.ensures ∙ e.offset_too_long is_long in
    λ harmless. laws.fit_later c.long_line.new.self c.long_line.new.from (at_long + 1) g.W.LineWork.limit
    (omega (arith, at_long_is, e.passes_too_long is_long, e.within, c.lines.invariant.limited))
    (c.in-Err-long_line.ensures.fit_on_err harmless)

pub returns-in-Err-long_line-clause-cause : goal.returns-in-Err-long_line-clause-cause
returns-in-Err-long_line-clause-cause g c =
    let w = g.W.LineWork in
    let laws = g.met.W.LineWork in
    let first = c.args.from.now in
    let mid = c.lines.from in
    let inv = c.lines.invariant in
    let paused = c.pause_for.new.from in
    let pausing = c.pause_for.ensures in
    let pauses = c.in-Ok.ensures in
    let taken = c.next.new.from in
    let takes = c.next.ensures.beside in
    let next = c.next.ensures in
    let e = c.in-Ok-next.ensures in
    let calm_paused = counts_then None (w.view first) (w.view mid) (w.view paused) inv.quiet pauses.faults in
    let calm = counts_then None (w.view first) (w.view paused) (w.view taken) calm_paused
    (counts_kept w.view g.S.Streams.read_faults g.S.Streams.send_faults laws.beside_read_faults laws.beside_send_faults paused taken
    (laws.take_keeps paused taken takes) (e.quiet (ok_err _ _)) next.send_faults) in
    let gone = laws.goes_then first paused taken (laws.goes_then first mid paused inv.goes pausing.goes)
    (laws.take_goes paused taken takes next.sent next.read_faults next.send_faults next.pieces) in
    laws.cause_later c.in-Err-long_line.end first taken c.long_line.new.from calm gone c.in-Err-long_line.ensures.cause

pub line-requires-in-Line : goal.line-requires-in-Line
line-requires-in-Line g c =
    let w = g.W.LineWork in
    let laws = g.met.W.LineWork in
    let r = c.lines.lines in
    let paused = c.pause_for.new.from in
    let work = c.pause_for.new.work in
    let pauses = c.in-Ok.ensures in
    let taken = c.next.new.from in
    let takes = c.next.ensures.beside in
    let e = c.in-Ok-next.ensures in
    let still = laws.fit_taken work paused taken r.given takes pauses.fit in
    let is_line = ap Ok c.in-Line.is in
    let at_line = c.offset-in-Line.result in
    let at_line_is : at_line ≡ r.given = c.offset-in-Line.ensures ∙ e.offset is_line in
    record {
      fit = subst (λ (n : ℕ). w.fit work taken n) (sym at_line_is) still;
      early = omega (arith, at_line_is, e.passes is_line, e.within, c.lines.invariant.limited);
      short = c.line.ensures.short;
    }

pub lines-preserved : goal.lines-preserved
lines-preserved g c =
    let left = g.S.Streams.left in
    let sent = g.S.Streams.sent in
    let pieces = g.S.Streams.pieces in
    let w = g.W.LineWork in
    let laws = g.met.W.LineWork in
    let first = c.args.from.now in
    let mid = c.lines.from in
    let inv = c.lines.invariant in
    let r = c.lines.lines in
    let paused = c.pause_for.new.from in
    let work = c.pause_for.new.work in
    let pausing = c.pause_for.ensures in
    let pauses = c.in-Ok.ensures in
    let taken = c.next.new.from in
    let r' = c.next.new.self in
    let takes = c.next.ensures.beside in
    let next = c.next.ensures in
    let e = c.in-Ok-next.ensures in
    let calm_paused = counts_then None (w.view first) (w.view mid) (w.view paused) inv.quiet pauses.faults in
    let calm = counts_then None (w.view first) (w.view paused) (w.view taken) calm_paused
    (counts_kept w.view g.S.Streams.read_faults g.S.Streams.send_faults laws.beside_read_faults laws.beside_send_faults paused taken
    (laws.take_keeps paused taken takes) (e.quiet (ok_err _ _)) next.send_faults) in
    let gone = laws.goes_then first paused taken (laws.goes_then first mid paused inv.goes pausing.goes)
    (laws.take_goes paused taken takes next.sent next.read_faults next.send_faults next.pieces) in
    let is_line = ap Ok c.in-Line.is in
    let text = c.line.result.now in
    let gives_line : Gives r r' (left paused) (left taken) (Some text) = gives_by r r' (left paused) (left taken) (Some text)
    (same_line _ _ text r'.line c.line.ensures.line (e.line is_line)) e.rest inv.counted e.given e.total in
    let at_line = c.offset-in-Line.result in
    let at_line_is : at_line ≡ r.given = c.offset-in-Line.ensures ∙ e.offset is_line in
    let U : Option (List ℕ) → Type 0 = λ l. input_length r'.taken l ≡ input_length 0 (left first) in
    let whole : input_length r'.taken (left taken) ≡ input_length 0 (left first) = e.total ∙ ap (input_length r.taken) pausing.left
    ∙ inv.whole in
    record {
      usable = e.usable;
      counted = e.given;
      within = within_limit r'.given r.limit w.limit inv.limited e.within;
      limited = next.limit ∙ inv.limited;
      whole = subst U (sym c.line-in-Line.ensures.left) whole;
      stands_in = stands_beside (left first) (left taken) (left c.line-in-Line.new.from) r' c.line-in-Line.ensures.left
          (e.stands (left first) (stands_beside (left first) (left mid) (left paused) r pausing.left inv.stands_in));
      fit = laws.fit_later c.line-in-Line.new.self c.line-in-Line.new.from (at_line + 1) r'.given
          (omega (arith, at_line_is, e.passes is_line)) c.in-Ok-line.ensures.fit;
      goes = laws.goes_then first taken c.line-in-Line.new.from gone c.line-in-Line.ensures.goes;
      quiet = counts_then None (w.view first) (w.view taken) (w.view c.line-in-Line.new.from) calm c.in-Ok-line.ensures.faults;
      far = λ state stands.
          let here = waiting w.limit w.does w.rests w.leaves state (left first) (λ s. w.stands s c.lines.work mid)
          (λ s. w.stands s work paused)
          (λ s. w.stands s work taken) r (left mid) (left paused) (pieces first) (pieces mid) (pieces paused) (sent first) (sent mid)
          (sent paused) (sent taken) pausing.left pausing.pieces (λ s. laws.stands_taken s work paused taken takes next.sent) next.sent
          (inv.far state stands) (pauses.does (inv.far state stands).done.behind (inv.far state stands).stands) in
          let G : Option (List ℕ) → Type 0 = λ l. Going w.limit w.does w.rests w.leaves state (left first)
          (Stands w.limit r' l (pieces first) (pieces c.line-in-Line.new.from))
          (λ s. w.stands s c.line-in-Line.new.self c.line-in-Line.new.from) (sent first) (sent c.line-in-Line.new.from) in
          subst G (sym c.line-in-Line.ensures.left)
          (going_one w.limit w.does w.rests w.leaves state (left first) (Waiting w.limit r (left paused) (pieces first) (pieces paused))
          (λ s. w.stands s work taken) (sent first) (sent taken) here
          (Stands w.limit r' (left taken) (pieces first) (pieces c.line-in-Line.new.from))
          (λ s. w.stands s c.line-in-Line.new.self c.line-in-Line.new.from) (Line at_line (Some text)) (sent c.line-in-Line.new.from)
          (line_at w.limit here.done.given r r' (left paused) (left taken) (Some text) gives_line
          (within_limit r'.given r.limit w.limit inv.limited e.within) at_line at_line_is (pieces first) (pieces paused)
          (pieces taken) (pieces c.line-in-Line.new.from)
          (λ has. ap pieces (next.waits has)) e.took next.pieces c.line-in-Line.ensures.pieces)
          (c.in-Ok-line.ensures.does here.done.behind here.stands));
      lasts = λ state stands lasting.
          let here = waiting w.limit w.does w.rests w.leaves state (left first) (λ s. w.stands s c.lines.work mid)
          (λ s. w.stands s work paused)
          (λ s. w.stands s work taken) r (left mid) (left paused) (pieces first) (pieces mid) (pieces paused) (sent first) (sent mid)
          (sent paused) (sent taken) pausing.left pausing.pieces (λ s. laws.stands_taken s work paused taken takes next.sent) next.sent
          (inv.far state stands) (pauses.does (inv.far state stands).done.behind (inv.far state stands).stands) in
          let ready = waiting w.limit w.does w.rests w.leaves state (left first) (λ s. w.stands s c.lines.work mid)
          (λ s. w.stands s work paused)
          (λ s. w.stands s work paused) r (left mid) (left paused) (pieces first) (pieces mid) (pieces paused) (sent first) (sent mid)
          (sent paused) (sent paused) pausing.left pausing.pieces (λ s is. is) refl (inv.far state stands)
          (pauses.does (inv.far state stands).done.behind (inv.far state stands).stands) in
          let lasting_far = carries_on w.does w.lasting laws.lasting_on (inv.far state stands).done.given state
          (inv.far state stands).done.text
          (inv.far state stands).done.behind (inv.far state stands).done.carries lasting in
          let lasting_here = carries_on w.does w.lasting laws.lasting_on here.done.given state here.done.text here.done.behind
          here.done.carries lasting in
          let lasts_paused = lasts_one w.limit w.does w.rests w.leaves state (left first)
          (Stands w.limit r (left mid) (pieces first) (pieces mid))
          (λ s. w.stands s c.lines.work mid) (sent first) (sent mid) (inv.far state stands) Pause (w.view first) (w.view mid)
          (w.view paused)
          (laws.counts_sent first) (laws.counts_sent mid)
          (pause_next w.limit (inv.far state stands).done.given r (left mid) (pieces first) (pieces mid) (pieces paused) pausing.pieces)
          (pausing.leaves (inv.far state stands).done.behind (inv.far state stands).stands lasting_far) (inv.lasts state stands lasting) in
          let so_far = lasts_take w.limit w.does w.rests w.leaves state (left first)
          (Waiting w.limit r (left paused) (pieces first) (pieces paused))
          (λ s. w.stands s work paused) (sent first) (sent paused) ready (λ input is. is.first) (w.view first) (w.view paused)
          (w.view taken)
          (laws.counts_sent first) (laws.counts_sent paused)
          (laws.now_rests ready.done.behind work paused r.given pauses.fit ready.stands
          (carries_on w.does w.lasting laws.lasting_on ready.done.given state ready.done.text ready.done.behind ready.done.carries lasting))
          (laws.take_passes paused taken takes) lasts_paused in
          lasts_one w.limit w.does w.rests w.leaves state (left first) (Waiting w.limit r (left paused) (pieces first) (pieces paused))
          (λ s. w.stands s work taken) (sent first) (sent taken) here (Line at_line (Some text)) (w.view first) (w.view taken)
          (w.view c.line-in-Line.new.from) (laws.counts_sent first) (laws.counts_sent taken)
          (line_next w.limit here.done.given r r' (left paused) (left taken) (Some text) gives_line
          (within_limit r'.given r.limit w.limit inv.limited e.within) at_line at_line_is (pieces first) (pieces paused)
          (pieces taken) (pieces c.line-in-Line.new.from)
          (λ has. ap pieces (next.waits has)) e.took next.pieces c.line-in-Line.ensures.pieces)
          (c.line-in-Line.ensures.leaves here.done.behind here.stands lasting_here) so_far;
    }

pub returns-in-Err-line-clause-stops : goal.returns-in-Err-line-clause-stops
returns-in-Err-line-clause-stops g c = λ state stands.
    let left = g.S.Streams.left in
    let sent = g.S.Streams.sent in
    let pieces = g.S.Streams.pieces in
    let w = g.W.LineWork in
    let laws = g.met.W.LineWork in
    let first = c.args.from.now in
    let mid = c.lines.from in
    let inv = c.lines.invariant in
    let r = c.lines.lines in
    let paused = c.pause_for.new.from in
    let work = c.pause_for.new.work in
    let pausing = c.pause_for.ensures in
    let pauses = c.in-Ok.ensures in
    let taken = c.next.new.from in
    let r' = c.next.new.self in
    let takes = c.next.ensures.beside in
    let next = c.next.ensures in
    let e = c.in-Ok-next.ensures in
    let is_line = ap Ok c.in-Line.is in
    let text = c.line.result.now in
    let gives_line : Gives r r' (left paused) (left taken) (Some text) = gives_by r r' (left paused) (left taken) (Some text)
    (same_line _ _ text r'.line c.line.ensures.line (e.line is_line)) e.rest inv.counted e.given e.total in
    let at_line = c.offset-in-Line.result in
    let at_line_is : at_line ≡ r.given = c.offset-in-Line.ensures ∙ e.offset is_line in
    let here = waiting w.limit w.does w.rests w.leaves state (left first) (λ s. w.stands s c.lines.work mid) (λ s. w.stands s work paused)
    (λ s. w.stands s work taken) r (left mid) (left paused) (pieces first) (pieces mid) (pieces paused) (sent first) (sent mid)
    (sent paused) (sent taken) pausing.left pausing.pieces (λ s. laws.stands_taken s work paused taken takes next.sent) next.sent
    (inv.far state stands) (pauses.does (inv.far state stands).done.behind (inv.far state stands).stands) in
    one_stops w.limit w.does w.rests w.leaves state (left first) (Waiting w.limit r (left paused) (pieces first) (pieces paused))
    (λ s. w.stands s work taken) (sent first) (sent taken) here
    (λ s it end before. w.stops s it end c.line-in-Line.new.self c.line-in-Line.new.from before)
    (λ s. w.stands s c.line-in-Line.new.self c.line-in-Line.new.from) (Line at_line (Some text))
    (left c.line-in-Line.new.from) (sent c.line-in-Line.new.from) (pieces first) (pieces c.line-in-Line.new.from) c.in-Err-line.end
    (line_next w.limit here.done.given r r' (left paused) (left taken) (Some text) gives_line
    (within_limit r'.given r.limit w.limit inv.limited e.within) at_line at_line_is (pieces first) (pieces paused)
    (pieces taken) (pieces c.line-in-Line.new.from) (λ has. ap pieces (next.waits has)) e.took next.pieces c.line-in-Line.ensures.pieces)
    (few_line w.limit here.done.given r r' (left paused) (left taken) (Some text) gives_line
    (within_limit r'.given r.limit w.limit inv.limited e.within) at_line at_line_is (pieces first) (pieces paused)
    (pieces taken) (pieces c.line-in-Line.new.from) (λ has. ap pieces (next.waits has)) e.took next.pieces c.line-in-Line.ensures.pieces)
    (c.in-Err-line.ensures.stops here.done.behind here.stands)

pub returns-in-Err-line-clause-crash : goal.returns-in-Err-line-clause-crash
returns-in-Err-line-clause-crash g c = λ state stands lasting.
    let left = g.S.Streams.left in
    let sent = g.S.Streams.sent in
    let pieces = g.S.Streams.pieces in
    let w = g.W.LineWork in
    let laws = g.met.W.LineWork in
    let first = c.args.from.now in
    let mid = c.lines.from in
    let inv = c.lines.invariant in
    let r = c.lines.lines in
    let paused = c.pause_for.new.from in
    let work = c.pause_for.new.work in
    let pausing = c.pause_for.ensures in
    let pauses = c.in-Ok.ensures in
    let taken = c.next.new.from in
    let r' = c.next.new.self in
    let takes = c.next.ensures.beside in
    let next = c.next.ensures in
    let e = c.in-Ok-next.ensures in
    let is_line = ap Ok c.in-Line.is in
    let text = c.line.result.now in
    let gives_line : Gives r r' (left paused) (left taken) (Some text) = gives_by r r' (left paused) (left taken) (Some text)
    (same_line _ _ text r'.line c.line.ensures.line (e.line is_line)) e.rest inv.counted e.given e.total in
    let at_line = c.offset-in-Line.result in
    let at_line_is : at_line ≡ r.given = c.offset-in-Line.ensures ∙ e.offset is_line in
    let ready = waiting w.limit w.does w.rests w.leaves state (left first) (λ s. w.stands s c.lines.work mid) (λ s. w.stands s work paused)
    (λ s. w.stands s work paused) r (left mid) (left paused) (pieces first) (pieces mid) (pieces paused) (sent first) (sent mid)
    (sent paused) (sent paused) pausing.left pausing.pieces (λ s is. is) refl (inv.far state stands)
    (pauses.does (inv.far state stands).done.behind (inv.far state stands).stands) in
    let here = waiting w.limit w.does w.rests w.leaves state (left first) (λ s. w.stands s c.lines.work mid) (λ s. w.stands s work paused)
    (λ s. w.stands s work taken) r (left mid) (left paused) (pieces first) (pieces mid) (pieces paused) (sent first) (sent mid)
    (sent paused) (sent taken) pausing.left pausing.pieces (λ s. laws.stands_taken s work paused taken takes next.sent) next.sent
    (inv.far state stands) (pauses.does (inv.far state stands).done.behind (inv.far state stands).stands) in
    let lasting_far = carries_on w.does w.lasting laws.lasting_on (inv.far state stands).done.given state (inv.far state stands).done.text
    (inv.far state stands).done.behind (inv.far state stands).done.carries lasting in
    let lasting_here = carries_on w.does w.lasting laws.lasting_on here.done.given state here.done.text here.done.behind here.done.carries
    lasting in
    let lasts_paused = lasts_one w.limit w.does w.rests w.leaves state (left first)
    (Stands w.limit r (left mid) (pieces first) (pieces mid))
    (λ s. w.stands s c.lines.work mid) (sent first) (sent mid) (inv.far state stands) Pause (w.view first) (w.view mid) (w.view paused)
    (laws.counts_sent first) (laws.counts_sent mid)
    (pause_next w.limit (inv.far state stands).done.given r (left mid) (pieces first) (pieces mid) (pieces paused) pausing.pieces)
    (pausing.leaves (inv.far state stands).done.behind (inv.far state stands).stands lasting_far) (inv.lasts state stands lasting) in
    let so_far = lasts_take w.limit w.does w.rests w.leaves state (left first)
    (Waiting w.limit r (left paused) (pieces first) (pieces paused))
    (λ s. w.stands s work paused) (sent first) (sent paused) ready (λ input is. is.first) (w.view first) (w.view paused) (w.view taken)
    (laws.counts_sent first) (laws.counts_sent paused)
    (laws.now_rests ready.done.behind work paused r.given pauses.fit ready.stands
    (carries_on w.does w.lasting laws.lasting_on ready.done.given state ready.done.text ready.done.behind ready.done.carries lasting))
    (laws.take_passes paused taken takes) lasts_paused in
    lasts_one w.limit w.does w.rests w.leaves state (left first) (Waiting w.limit r (left paused) (pieces first) (pieces paused))
    (λ s. w.stands s work taken) (sent first) (sent taken) here (Line at_line (Some text)) (w.view first) (w.view taken)
    (w.view c.line-in-Line.new.from) (laws.counts_sent first) (laws.counts_sent taken)
    (line_next w.limit here.done.given r r' (left paused) (left taken) (Some text) gives_line
    (within_limit r'.given r.limit w.limit inv.limited e.within) at_line at_line_is (pieces first) (pieces paused)
    (pieces taken) (pieces c.line-in-Line.new.from) (λ has. ap pieces (next.waits has)) e.took next.pieces c.line-in-Line.ensures.pieces)
    (c.in-Err-line.ensures.leaves here.done.behind here.stands lasting_here) so_far

pub returns-in-Err-line-clause-fit_on_err : goal.returns-in-Err-line-clause-fit_on_err
returns-in-Err-line-clause-fit_on_err g c =
    let laws = g.met.W.LineWork in
    let r = c.lines.lines in
    let e = c.in-Ok-next.ensures in
    let is_line = ap Ok c.in-Line.is in
    let at_line = c.offset-in-Line.result in
    let at_line_is : at_line ≡ r.given = c.offset-in-Line.ensures ∙ e.offset is_line in
    λ harmless. laws.fit_later c.line-in-Line.new.self c.line-in-Line.new.from (at_line + 1) g.W.LineWork.limit
    (omega (arith, at_line_is, e.passes is_line, e.within, c.lines.invariant.limited)) (c.in-Err-line.ensures.fit_on_err harmless)

pub returns-in-Err-line-clause-cause : goal.returns-in-Err-line-clause-cause
returns-in-Err-line-clause-cause g c =
    let w = g.W.LineWork in
    let laws = g.met.W.LineWork in
    let first = c.args.from.now in
    let mid = c.lines.from in
    let inv = c.lines.invariant in
    let paused = c.pause_for.new.from in
    let pausing = c.pause_for.ensures in
    let pauses = c.in-Ok.ensures in
    let taken = c.next.new.from in
    let takes = c.next.ensures.beside in
    let next = c.next.ensures in
    let e = c.in-Ok-next.ensures in
    let calm_paused = counts_then None (w.view first) (w.view mid) (w.view paused) inv.quiet pauses.faults in
    let calm = counts_then None (w.view first) (w.view paused) (w.view taken) calm_paused
    (counts_kept w.view g.S.Streams.read_faults g.S.Streams.send_faults laws.beside_read_faults laws.beside_send_faults paused taken
    (laws.take_keeps paused taken takes) (e.quiet (ok_err _ _)) next.send_faults) in
    let gone = laws.goes_then first paused taken (laws.goes_then first mid paused inv.goes pausing.goes)
    (laws.take_goes paused taken takes next.sent next.read_faults next.send_faults next.pieces) in
    laws.cause_later c.in-Err-line.end first taken c.line-in-Line.new.from calm gone c.in-Err-line.ensures.cause
