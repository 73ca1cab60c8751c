use Rattle.std.proofs.Common.{◌≡◌, ◌≢◌, ◌∙◌, Err, IfSome, refl, subst, sym, arith}
use Rattle.block_disk.specs.View.{sent_now}
use Rattle.line_runs.specs.EndLaws.{input_long}
use Rattle.line_runs.specs.Runs.{AreAll}
use Rattle.series_load.specs.Costs.{spent_by}
use Rattle.series_load.specs.Ends.{EndsAtBad, Stopped}
use Rattle.series_load.specs.Loading.{Booked, Scanned, StandsFor, scan_of}
use Rattle.series_load.specs.Shown.{EndsFor}
use Rattle.run_ends.specs.declared.ending.End.{End}
use Rattle.run_ends.specs.declared.ending.End.TheVariants.{InputTooLong, UnknownSeries}
use Rattle.series_store.specs.Shown as shown
use Rattle.series_load.proofs.BookedLemmas.{runs_booked, since_booked, stops_booked}
use Rattle.series_load.proofs.Knowing.{err_is}
use Rattle.series_load.proofs.Reached.{finished_so, start, start_stands, stopped_so}
use Rattle.series_load.proofs.ScanLemmas.{line_told, read_told, unread}
use Rattle.series_load.proofs.SetLemmas.{edits_none}
use Rattle.series_load.proofs.loading.load_lines.Goals as goal

pub run_lines-requires : goal.run_lines-requires
run_lines-requires g c = record {
  fit = (
    c.requires.sound,
    omega (arith, c.requires.points),
    edits_none c.args.loader.now.kept.sets.items c.args.loader.now.kept.ats.items c.requires.sets,
  );
  fresh = c.requires.fresh;
}

pub returns-in-Ok-clause-outcome : goal.returns-in-Ok-clause-outcome
returns-in-Ok-clause-outcome g c = λ total book series told stands step scale.
    let old = c.args.store.now in
    let new = c.run_lines.new.from in
    let loader = c.args.loader.now in
    let at = shown.view old in
    let begin = start total loader.name book series at.clock (sent_now at) (spent_by at) in
    let is = start_stands (shown.IsTold old) total book series loader at told stands c.requires.none c.requires.sets c.requires.ats
    c.requires.first c.requires.points
    step scale in
    let left = g.P.Streams.left (shown.pages old) in
    let before = g.P.Streams.sent (shown.pages old) in
    let now = g.P.Streams.sent (shown.pages new) in
    let pieces = g.P.Streams.pieces (shown.pages old) in
    let pieces' = g.P.Streams.pieces (shown.pages new) in
    finished_so total loader.name book series at.clock (sent_now at) (spent_by at) (shown.IsTold new) c.run_lines.new.work
    left before now pieces pieces' at (shown.view new) refl refl refl c.in-Ok.ensures.within
    (runs_booked begin (AreAll pieces pieces') (StandsFor (shown.IsTold new) (shown.view new) c.run_lines.new.work) left before now
    (c.in-Ok.ensures.done (Booked begin) is))
    (since_booked begin left before (sent_now at) at (shown.view new) (c.run_lines.ensures.crash (Booked begin) is tt))

pub returns-in-Err-clause-outcome : goal.returns-in-Err-clause-outcome
returns-in-Err-clause-outcome g c = λ total book series told stands step scale.
    let left = g.P.Streams.left in
    let sent = g.P.Streams.sent in
    let old = c.args.store.now in
    let new = c.run_lines.new.from in
    let loader = c.args.loader.now in
    let at = shown.view old in
    let begin = start total loader.name book series at.clock (sent_now at) (spent_by at) in
    let is = start_stands (shown.IsTold old) total book series loader at told stands c.requires.none c.requires.sets c.requires.ats
    c.requires.first c.requires.points
    step scale in
    let E : End → Type 0 = λ e. Stopped total loader.name book series (left (shown.pages old)) (left (shown.pages new)) e at
    (shown.view new) in
    subst E (sym c.stop_end.ensures)
    (stopped_so total loader.name book series at.clock (sent_now at) (spent_by at) (shown.IsTold new) c.run_lines.new.work
    (left (shown.pages old)) (left (shown.pages new)) (sent (shown.pages old)) (sent (shown.pages new))
    (g.P.Streams.pieces (shown.pages old))
    (g.P.Streams.pieces (shown.pages new)) at (shown.view new)
    c.in-Err.stop refl refl refl
    (stops_booked begin (shown.IsTold new) c.run_lines.new.work (shown.view new) (left (shown.pages old)) (left (shown.pages new))
    (sent (shown.pages old)) (sent (shown.pages new))
    (g.P.Streams.pieces (shown.pages old)) (g.P.Streams.pieces (shown.pages new)) c.in-Err.stop (c.in-Err.ensures.stops (Booked begin) is))
    (since_booked begin (left (shown.pages old)) (sent (shown.pages old)) (sent_now at) at (shown.view new)
    (c.run_lines.ensures.crash (Booked begin) is tt)))

-- whatever the pages are
pub returns-in-Err-clause-line : goal.returns-in-Err-clause-line
returns-in-Err-clause-line g c =
    let left = g.P.Streams.left in
    let sent = g.P.Streams.sent in
    let pieces = g.P.Streams.pieces in
    let old = c.args.store.now in
    let new = c.run_lines.new.from in
    let loader = c.args.loader.now in
    let begin = scan_of loader in
    let same : unread loader.scale ≡ begin = (λ i. record {
      scale = loader.scale;
      first = sym c.requires.first i;
      points = sym c.requires.points i;
    }) in
    let E : End → Type 0 = λ e. IfSome (left (shown.pages old)) (λ input. EndsAtBad loader.scale input e) in
    subst E (sym c.stop_end.ensures)
    (line_told loader.scale (shown.view new) (StandsFor (shown.IsTold new) (shown.view new) c.run_lines.new.work) (left (shown.pages old))
    (left (shown.pages new))
    (sent (shown.pages old)) (sent (shown.pages new)) (pieces (shown.pages old)) (pieces (shown.pages new)) c.in-Err.stop
    (c.in-Err.ensures.stops (Scanned (unread loader.scale)) same))

pub returns-in-Ok-clause-read : goal.returns-in-Ok-clause-read
returns-in-Ok-clause-read g c =
    let left = g.P.Streams.left in
    let sent = g.P.Streams.sent in
    let pieces = g.P.Streams.pieces in
    let old = c.args.store.now in
    let new = c.run_lines.new.from in
    let loader = c.args.loader.now in
    let same : unread loader.scale ≡ scan_of loader = (λ i. record {
      scale = loader.scale;
      first = sym c.requires.first i;
      points = sym c.requires.points i;
    }) in
    read_told loader.scale (shown.IsTold new) (shown.view new) c.run_lines.new.work (left (shown.pages old))
    (sent (shown.pages old)) (sent (shown.pages new)) (pieces (shown.pages old)) (pieces (shown.pages new))
    (c.in-Ok.ensures.done (Scanned (unread loader.scale)) same)

pub returns-in-Err-clause-long : goal.returns-in-Err-clause-long
returns-in-Err-clause-long g c = λ is.
    let stop = c.in-Err.stop in
    input_long {T = Unit {0}} (λ end s s'. EndsFor g.P.Streams end s s' × (end ≢ UnknownSeries)
    × (end ≢ InputTooLong)) c.args.store.now c.run_lines.new.from
    (Err stop) (λ never. never.2 refl) c.in-Err.ensures.long c.in-Err.ensures.cause (sym c.stop_end.ensures ∙ err_is is)
