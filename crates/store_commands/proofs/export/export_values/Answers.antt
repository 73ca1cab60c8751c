use Rattle.std.proofs.Common.{sym, ap, ◌∙◌}
use Rattle.block_disk.specs.View.{Beside}
use Rattle.chart_world.specs.FaultLaws.{counts_no_disk, counts_then}
use Rattle.series_store.specs.Shown as shown
use Rattle.run_ends.specs.Statuses.{status_of}
use Rattle.run_ends.specs.Faults.{end_fault}
use Rattle.run_ends.specs.declared.ending.End.{End}
use Rattle.store_commands.specs.Faulting.{counts_unopened_end}
use Rattle.store_commands.proofs.Held.{opened_book}
use Rattle.store_commands.proofs.ExportEnds.{ends_opened, unexported}
use Rattle.store_commands.proofs.TurnedAway.{away_never}
use Rattle.store_commands.proofs.WorldLemmas.{away_over, unopened_over}
use Rattle.store_commands.proofs.export.export_values.Goals as goal

pub returns-in-Ok-clause-ends : goal.returns-in-Ok-clause-ends
returns-in-Ok-clause-ends g c =
    let view = g.W.Disk.view in
    let sent = g.W.Streams.sent in
    let sends = g.W.Streams.send_faults in
    let old = c.args.world in
    let pages = shown.pages c.in-Ok.store in
    let mid = pages.disk in
    let new = c.export_opened.result.1 in
    let e = c.in-Ok.ensures in
    let beside = e.opens.beside_is in
    let w = g.met.W.World in
    ends_opened c.args.name.now c.args.window pages.count (view old) (view mid) (view new) (sent old) (sent mid) (sent new) (sends old)
    (sends mid) (sends new) c.export_opened.result.0 e.opens e.quiet e.count (opened_book pages.count (view old) (view mid) e.pages)
    (sym (w.beside_sent mid) ∙ ap (λ (b : Beside). b.sent) beside ∙ w.beside_sent old)
    (sym (w.beside_send_faults mid) ∙ ap (λ (b : Beside). b.send_faults) beside ∙ w.beside_send_faults old)
    c.export_opened.ensures.exports

pub returns-in-Err-clause-ends : goal.returns-in-Err-clause-ends
returns-in-Err-clause-ends g c =
    let view = g.W.Disk.view in
    let sent = g.W.Streams.sent in
    let sends = g.W.Streams.send_faults in
    let left = g.W.Streams.left in
    let old = c.args.world in
    let new = c.in-Err.field-0.value in
    let e = c.in-Err.ensures in
    unexported c.args.name.now c.args.window (view old) (view new) (left old) (left new) (sent old) (sent new) (sends old)
    (sends new) c.in-Err.field-0.cause c.opening_end.result
    (unopened_over g.W.Disk.view g.W.Streams.left g.W.Streams.sent g.met.W.World.beside_left g.met.W.World.beside_sent old new
    c.in-Err.field-0.cause e.opens.beside_is e.opens e.cause e.a_store) c.opening_end.ensures

pub returns-in-Ok-clause-away : goal.returns-in-Ok-clause-away
returns-in-Ok-clause-away g c = away_never _ _ c.in-Ok.ensures.large

pub returns-in-Err-clause-away : goal.returns-in-Err-clause-away
returns-in-Err-clause-away g c =
    away_over g.W.Disk.view g.W.Streams.left g.W.Streams.sent g.met.W.World.beside_left g.met.W.World.beside_sent c.args.world
    c.in-Err.field-0.value c.in-Err.field-0.cause c.in-Err.ensures.opens.beside_is (status_of c.opening_end.result)
    (ap (λ (e : End). status_of e) c.opening_end.ensures) c.in-Err.ensures.cause

pub returns-in-Err-clause-untaken : goal.returns-in-Err-clause-untaken
returns-in-Err-clause-untaken g c =
    let old = c.args.world in
    let new = c.in-Err.field-0.value in
    let w = g.met.W.World in
    sym (w.beside_left new) ∙ ap (λ (b : Beside). b.left) c.in-Err.ensures.opens.beside_is ∙ w.beside_left old

pub returns-in-Ok-clause-untaken : goal.returns-in-Ok-clause-untaken
returns-in-Ok-clause-untaken g c =
    let old = c.args.world in
    let mid = (shown.pages c.in-Ok.store).disk in
    let w = g.met.W.World in
    c.export_opened.ensures.untaken ∙ sym (w.beside_left mid) ∙ ap (λ (b : Beside). b.left) c.in-Ok.ensures.opens.beside_is
    ∙ w.beside_left old

pub returns-in-Ok-clause-faults : goal.returns-in-Ok-clause-faults
returns-in-Ok-clause-faults g c =
    let view = g.W.Disk.view in
    let old = view c.args.world in
    let mid = view (shown.pages c.in-Ok.store).disk in
    let e = c.in-Ok.ensures in
    counts_then (end_fault c.export_opened.result.0) old mid (view c.export_opened.result.1)
    (counts_no_disk old mid e.opens.beside_is e.quiet) c.export_opened.ensures.faults

pub returns-in-Err-clause-faults : goal.returns-in-Err-clause-faults
returns-in-Err-clause-faults g c =
    let view = g.W.Disk.view in
    let back = c.in-Err.field-0 in
    let e = c.in-Err.ensures in
    counts_unopened_end back.cause c.opening_end.result (view c.args.world)
    (view back.value) c.opening_end.ensures e.opens.beside_is e.cause e.quiet_err
