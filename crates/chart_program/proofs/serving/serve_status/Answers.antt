use Rattle.std.proofs.Common.{refl, ◌∙◌}
use Rattle.chart_program.specs.Served.{Spelled, faults_of}
use Rattle.chart_program.proofs.Ended.{numbered_by, ends_so}
use Rattle.store_commands.specs.Faulting.{counts_as}
use Rattle.store_commands.specs.Traffic.{traffic}
use Rattle.chart_program.specs.Ended.{status_by}
use Rattle.chart_program.proofs.CommandCodes.{serve_codes}
use Rattle.chart_program.proofs.FirstOpened.{away_served, barred_served}
use Rattle.chart_program.specs.LineAnswers.{AreSpellings}
use Rattle.chart_program.proofs.Blamed.{is_blamed}
use Rattle.chart_program.proofs.NonePassed.{none_passed}
use Rattle.chart_program.proofs.ServePage.{end_of, of_serve, status_is}
use Rattle.chart_program.proofs.serving.serve_status.Goals as goal

pub lines_status-requires : goal.lines_status-requires
lines_status-requires g c =
    let old = c.args.world in
    let new = c.serve_world-answer.result.1 in
    let faults = faults_of (g.W.Streams.read_faults old) (g.W.Streams.read_faults new) (g.W.Streams.send_faults old)
    (g.W.Streams.send_faults new) in
    numbered_by ⊥ (g.W.Disk.view old) (g.W.Disk.view new) (g.W.Streams.sent old)
    (g.W.Streams.sent new) faults c.serve_world-answer.result.0 c.serve_world-answer.ensures.serves.cause

pub returns-clause-ends : goal.returns-clause-ends
returns-clause-ends g c =
    let old = c.args.world in
    let new = c.serve_world-answer.result.1 in
    let faults = faults_of (g.W.Streams.read_faults old) (g.W.Streams.read_faults new) (g.W.Streams.send_faults old)
    (g.W.Streams.send_faults new) in
    ends_so Spelled ⊥ (g.W.Disk.view old) (g.W.Disk.view new) (g.W.Streams.left old) (g.W.Streams.left new) (g.W.Streams.sent old)
    (g.W.Streams.sent new) faults c.serve_world-answer.result.0 c.lines_status.result c.lines_status.ensures
    c.serve_world-answer.ensures.serves

pub returns-clause-away : goal.returns-clause-away
returns-clause-away g c =
    let old = c.args.world in
    let new = c.serve_world-answer.result.1 in
    let reads = g.W.Streams.read_faults in
    let sends = g.W.Streams.send_faults in
    let faults = faults_of (reads old) (reads new) (sends old) (sends new) in
    let t = traffic g.W.Streams.left g.W.Streams.sent reads sends old new in
    let e = c.serve_world-answer.ensures in
    away_served ⊥ (g.W.Disk.view old) (g.W.Disk.view new) t faults c.serve_world-answer.result.0 c.lines_status.result
    c.lines_status.ensures e.first e.serves.cause

pub returns-clause-bars : goal.returns-clause-bars
returns-clause-bars g c =
    let old = c.args.world in
    let new = c.serve_world-answer.result.1 in
    let reads = g.W.Streams.read_faults in
    let sends = g.W.Streams.send_faults in
    let faults = faults_of (reads old) (reads new) (sends old) (sends new) in
    let t = traffic g.W.Streams.left g.W.Streams.sent reads sends old new in
    let e = c.serve_world-answer.ensures in
    barred_served ⊥ (g.W.Disk.view old) (g.W.Disk.view new) t faults c.serve_world-answer.result.0 c.lines_status.result
    c.lines_status.ensures e.first e.serves.cause

pub returns-clause-does : goal.returns-clause-does
returns-clause-does g c =
    let view = g.W.Disk.view in
    let old = c.args.world in
    let new = c.serve_world-answer.result.1 in
    let reads = g.W.Streams.read_faults in
    let sends = g.W.Streams.send_faults in
    let faults = faults_of (reads old) (reads new) (sends old) (sends new) in
    let t = traffic g.W.Streams.left g.W.Streams.sent reads sends old new in
    let answer = c.serve_world-answer.result.0 in
    let e = c.serve_world-answer.ensures in
    let away = away_served ⊥ (view old) (view new) t faults answer (status_by answer) refl e.first e.serves.cause in (
      end_of answer,
      c.lines_status.ensures ∙ status_is answer,
      of_serve (view old) (view new) t faults answer e.serves e.first away
          (none_passed AreSpellings (view old) (view new) t answer e.answers)
          (is_blamed AreSpellings (view old) (view new) t answer e.blames),
    )

pub returns-clause-own : goal.returns-clause-own
returns-clause-own g c =
    let old = c.args.world in
    let new = c.serve_world-answer.result.1 in
    let faults = faults_of (g.W.Streams.read_faults old) (g.W.Streams.read_faults new) (g.W.Streams.send_faults old)
    (g.W.Streams.send_faults new) in
    let e = ends_so Spelled ⊥ (g.W.Disk.view old) (g.W.Disk.view new) (g.W.Streams.left old) (g.W.Streams.left new) (g.W.Streams.sent old)
    (g.W.Streams.sent new) faults c.serve_world-answer.result.0 c.lines_status.result c.lines_status.ensures
    c.serve_world-answer.ensures.serves in
    serve_codes c.lines_status.result.code e.codes (λ is. (e.missing is).0) (λ is. (e.misfit is).0) e.opened

pub returns-clause-faults : goal.returns-clause-faults
returns-clause-faults g c =
    let view = g.W.Disk.view in
    counts_as c.lines_status.result (status_by c.serve_world-answer.result.0) (view c.args.world)
    (view c.serve_world-answer.result.1) c.lines_status.ensures c.serve_world-answer.ensures.faults
