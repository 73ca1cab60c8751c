use Rattle.std.proofs.Common.{◌≡◌, ◌+◌, ◌-◌, ◌≤◌, length, None, IsTrue}
use Rattle.chart_world.specs.Faults.{CountsFault}
use Rattle.chart_world.specs.Fronts.{StandsIn}
use Rattle.chart_world.specs.Reading.{input_length}
use Rattle.line_runs.proofs.GoingLemmas.{Going, Lasts, Stands}
use Rattle.line_runs.proofs.running.run_lines.Given as goal

-- the lines given so far were done
abbrev pub invariant-lines : goal.invariant-lines
invariant-lines g l =
    let left = g.S.Streams.left in
    let sent = g.S.Streams.sent in
    let w = g.W.LineWork in
    record {
      usable : IsTrue l.lines.usable;
      counted : l.lines.taken ≡ l.lines.given + length l.lines.pending;
      within : l.lines.given ≤ w.limit;
      limited : l.lines.limit ≡ w.limit;
      whole : input_length l.lines.taken (left l.from) ≡ input_length 0 (left l.initial.from);
      stands_in : StandsIn (left l.initial.from) l.lines (left l.from);
      fit : w.fit l.work l.from l.lines.given;
      goes : w.goes l.initial.from l.from;
      quiet : CountsFault None (w.view l.initial.from) (w.view l.from);
      far : (state : w.State) → w.stands state l.initial.work l.initial.from
          → Going w.limit w.does w.rests w.leaves state (left l.initial.from)
          (Stands w.limit l.lines (left l.from) (g.S.Streams.pieces l.initial.from) (g.S.Streams.pieces l.from))
          (λ s. w.stands s l.work l.from) (sent l.initial.from) (sent l.from);
      lasts : (state : w.State) → w.stands state l.initial.work l.initial.from → w.lasting state
          → Lasts w.limit w.does w.rests w.leaves state (left l.initial.from) (sent l.initial.from) (w.view l.initial.from) (w.view l.from);
    }

abbrev pub decreases-lines : goal.decreases-lines
decreases-lines g l = g.W.LineWork.limit - l.lines.given
