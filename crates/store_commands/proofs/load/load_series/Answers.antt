use Rattle.std.specs.Prelude.{◌≤◌}
use Rattle.std.proofs.Common.{◌∙◌, ℕ, None, Result, Ok, Err, ap, subst, sym}
use Rattle.block_disk.specs.View.{Beside, sent_now}
use Rattle.chart_world.specs.Faults.{CountsFault, fault_in}
use Rattle.chart_world.specs.FaultLaws.{counts_no_disk, counts_then}
use Rattle.gate_pages.specs.Journal.{page_count}
use Rattle.run_ends.specs.Faults.{end_fault}
use Rattle.run_ends.specs.Statuses.{status_of}
use Rattle.run_ends.specs.declared.ending.End.{End}
use Rattle.run_ends.specs.declared.ending.End.TheVariants.{DiskFault}
use Rattle.series_store.specs.Shown as shown
use Rattle.store_commands.specs.Faulting.{counts_unopened_end}
use Rattle.store_commands.specs.Loaded.{loaded_text}
use Rattle.store_commands.specs.Traffic.{traffic}
use Rattle.store_commands.proofs.HoldsAgain.{again_opened, again_sent, again_loaded}
use Rattle.store_commands.proofs.Held.{opened_book}
use Rattle.store_commands.proofs.LoadEnds.{costs_on, sent_ends, stopped_ends, stores_on, unloaded}
use Rattle.store_commands.proofs.LoadStored.{err_same}
use Rattle.store_commands.proofs.TurnedAway.{away_never}
use Rattle.store_commands.proofs.WorldLemmas.{away_over, traffic_over, unopened_over}
use Rattle.store_commands.proofs.load.load_series.Goals as goal

pub returns-in-Ok-answer-clause-ends : goal.returns-in-Ok-answer-clause-ends
returns-in-Ok-answer-clause-ends g c =
    let view = g.W.Disk.view in
    let left = g.W.Streams.left in
    let sent = g.W.Streams.sent in
    let reads = g.W.Streams.read_faults in
    let sends = g.W.Streams.send_faults in
    let w = g.met.W.World in
    let name = c.args.name.now in
    let old = c.args.world in
    let opened = shown.pages c.in-Ok.store in
    let mid = c.load_store-answer.result.1 in
    let new = c.send_text.result.1 in
    let readings = c.in-Ok-answer.readings in
    let e = c.in-Ok.ensures in
    let s = stores_on name opened.count (view old) (view opened.disk) (view mid) (traffic left sent reads sends old mid)
    (traffic left sent reads sends opened.disk mid) c.load_store-answer.result.0 (Ok readings) e.count c.in-Ok-answer.is e.opens e.quiet
    (opened_book opened.count (view old) (view opened.disk) e.pages)
    (traffic_over view left sent reads sends w.beside_left w.beside_sent w.beside_read_faults w.beside_send_faults old opened.disk mid
    e.opens.beside_is) c.load_store-answer.ensures.stores in
    let costs = costs_on name opened.count (view old) (view opened.disk) (view mid) (left old) (left opened.disk) e.count e.opens
    (sym (w.beside_left opened.disk) ∙ ap (λ (b : Beside). b.left) e.opens.beside_is
    ∙ w.beside_left old) c.load_store-answer.ensures.costs in
    sent_ends name (view old) (view mid) (view new) (traffic left sent reads sends old mid) (left new) (sent new) (reads new)
    (sends new) readings c.send_text.result.0 c.send_text.ensures.left s
    (c.send_text.ensures.sends (loaded_text readings) c.loaded_text.ensures) costs

pub returns-in-Err-answer-clause-ends : goal.returns-in-Err-answer-clause-ends
returns-in-Err-answer-clause-ends g c =
    let view = g.W.Disk.view in
    let left = g.W.Streams.left in
    let sent = g.W.Streams.sent in
    let reads = g.W.Streams.read_faults in
    let sends = g.W.Streams.send_faults in
    let w = g.met.W.World in
    let name = c.args.name.now in
    let old = c.args.world in
    let opened = shown.pages c.in-Ok.store in
    let new = c.load_store-answer.result.1 in
    let end = c.in-Err-answer.end in
    let e = c.in-Ok.ensures in
    let s = stores_on name opened.count (view old) (view opened.disk) (view new) (traffic left sent reads sends old new)
    (traffic left sent reads sends opened.disk new) c.load_store-answer.result.0 (Err end) e.count c.in-Err-answer.is e.opens e.quiet
    (opened_book opened.count (view old) (view opened.disk) e.pages)
    (traffic_over view left sent reads sends w.beside_left w.beside_sent w.beside_read_faults w.beside_send_faults old opened.disk new
    e.opens.beside_is) c.load_store-answer.ensures.stores in
    let costs = costs_on name opened.count (view old) (view opened.disk) (view new) (left old) (left opened.disk) e.count e.opens
    (sym (w.beside_left opened.disk) ∙ ap (λ (b : Beside). b.left) e.opens.beside_is
    ∙ w.beside_left old) c.load_store-answer.ensures.costs in
    stopped_ends name (view old) (view new) (traffic left sent reads sends old new) end s costs

pub returns-in-Err-clause-ends : goal.returns-in-Err-clause-ends
returns-in-Err-clause-ends g c =
    let view = g.W.Disk.view in
    let left = g.W.Streams.left in
    let sent = g.W.Streams.sent in
    let old = c.args.world in
    let back = c.in-Err.field-0 in
    let e = c.in-Err.ensures in
    unloaded c.args.name.now (view old) (view back.value)
    (traffic left sent g.W.Streams.read_faults g.W.Streams.send_faults old back.value) back.cause c.opening_end.result
    (unopened_over view left sent g.met.W.World.beside_left g.met.W.World.beside_sent old back.value back.cause e.opens.beside_is e.opens
    e.cause e.a_store) c.opening_end.ensures

pub returns-in-Ok-answer-clause-away : goal.returns-in-Ok-answer-clause-away
returns-in-Ok-answer-clause-away g c = away_never _ _ c.in-Ok.ensures.large

pub returns-in-Err-answer-clause-away : goal.returns-in-Err-answer-clause-away
returns-in-Err-answer-clause-away g c = away_never _ _ c.in-Ok.ensures.large

pub returns-in-Err-clause-away : goal.returns-in-Err-clause-away
returns-in-Err-clause-away g c =
    away_over g.W.Disk.view g.W.Streams.left g.W.Streams.sent g.met.W.World.beside_left g.met.W.World.beside_sent c.args.world
    c.in-Err.field-0.value c.in-Err.field-0.cause c.in-Err.ensures.opens.beside_is (status_of c.opening_end.result)
    (ap (λ (e : End). status_of e) c.opening_end.ensures) c.in-Err.ensures.cause

pub returns-in-Ok-answer-clause-holds : goal.returns-in-Ok-answer-clause-holds
returns-in-Ok-answer-clause-holds g c = λ other.
    let view = g.W.Disk.view in
    let left = g.W.Streams.left in
    let sent = g.W.Streams.sent in
    let reads = g.W.Streams.read_faults in
    let sends = g.W.Streams.send_faults in
    let w = g.met.W.World in
    let name = c.args.name.now in
    let old = c.args.world in
    let opened = shown.pages c.in-Ok.store in
    let mid = c.load_store-answer.result.1 in
    let new = c.send_text.result.1 in
    let readings = c.in-Ok-answer.readings in
    let e = c.in-Ok.ensures in
    let s = stores_on name opened.count (view old) (view opened.disk) (view mid) (traffic left sent reads sends old mid)
    (traffic left sent reads sends opened.disk mid) c.load_store-answer.result.0 (Ok readings) e.count c.in-Ok-answer.is e.opens e.quiet
    (opened_book opened.count (view old) (view opened.disk) e.pages)
    (traffic_over view left sent reads sends w.beside_left w.beside_sent w.beside_read_faults w.beside_send_faults old opened.disk mid
    e.opens.beside_is) c.load_store-answer.ensures.stores in
    let text = c.send_text.ensures.sends (loaded_text readings) c.loaded_text.ensures in
    again_sent (page_count (view old).size) (view old) (view mid) (view new) (λ count. (sent_now (view mid) ≤ count)
    × (count ≤ sent_now (view new))) text.kept text.time
    (again_loaded name (page_count (view old).size) (view old) (view mid) (traffic left sent reads sends old mid) (Ok readings)
    (λ is. cc) s)

pub returns-in-Err-answer-clause-holds : goal.returns-in-Err-answer-clause-holds
returns-in-Err-answer-clause-holds g c = λ other.
    let view = g.W.Disk.view in
    let left = g.W.Streams.left in
    let sent = g.W.Streams.sent in
    let reads = g.W.Streams.read_faults in
    let sends = g.W.Streams.send_faults in
    let w = g.met.W.World in
    let name = c.args.name.now in
    let old = c.args.world in
    let opened = shown.pages c.in-Ok.store in
    let new = c.load_store-answer.result.1 in
    let end = c.in-Err-answer.end in
    let e = c.in-Ok.ensures in
    let s = stores_on name opened.count (view old) (view opened.disk) (view new) (traffic left sent reads sends old new)
    (traffic left sent reads sends opened.disk new) c.load_store-answer.result.0 (Err end) e.count c.in-Err-answer.is e.opens e.quiet
    (opened_book opened.count (view old) (view opened.disk) e.pages)
    (traffic_over view left sent reads sends w.beside_left w.beside_sent w.beside_read_faults w.beside_send_faults old opened.disk new
    e.opens.beside_is) c.load_store-answer.ensures.stores in
    again_loaded name (page_count (view old).size) (view old) (view new) (traffic left sent reads sends old new) (Err end)
    (λ is. other (err_same end DiskFault is)) s

pub returns-in-Err-clause-holds : goal.returns-in-Err-clause-holds
returns-in-Err-clause-holds g c = λ other. again_opened (g.W.Disk.view c.args.world)
    (g.W.Disk.view c.in-Err.field-0.value) c.in-Err.ensures.opens

pub returns-in-Ok-answer-clause-faults : goal.returns-in-Ok-answer-clause-faults
returns-in-Ok-answer-clause-faults g c =
    let view = g.W.Disk.view in
    let old = view c.args.world in
    let start = view (shown.pages c.in-Ok.store).disk in
    let mid = view c.load_store-answer.result.1 in
    let new = view c.send_text.result.1 in
    let e = c.in-Ok.ensures in
    let P : Result ℕ End → Type 0 = λ r. CountsFault (fault_in end_fault r) start mid in
    let answered = counts_then None old start mid (counts_no_disk old start e.opens.beside_is e.quiet)
    (subst P c.in-Ok-answer.is c.load_store-answer.ensures.faults) in
    counts_then (end_fault c.send_text.result.0) old mid new answered c.send_text.ensures.faults

pub returns-in-Err-answer-clause-faults : goal.returns-in-Err-answer-clause-faults
returns-in-Err-answer-clause-faults g c =
    let view = g.W.Disk.view in
    let old = view c.args.world in
    let start = view (shown.pages c.in-Ok.store).disk in
    let new = view c.load_store-answer.result.1 in
    let end = c.in-Err-answer.end in
    let e = c.in-Ok.ensures in
    let P : Result ℕ End → Type 0 = λ r. CountsFault (fault_in end_fault r) start new in
    counts_then (end_fault end) old start new (counts_no_disk old start e.opens.beside_is e.quiet)
    (subst P c.in-Err-answer.is c.load_store-answer.ensures.faults)

pub returns-in-Err-clause-faults : goal.returns-in-Err-clause-faults
returns-in-Err-clause-faults g c =
    let view = g.W.Disk.view in
    let back = c.in-Err.field-0 in
    let e = c.in-Err.ensures in
    counts_unopened_end back.cause c.opening_end.result (view c.args.world)
    (view back.value) c.opening_end.ensures e.opens.beside_is e.cause e.quiet_err
