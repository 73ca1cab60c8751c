use Rattle.std.proofs.Common.{◌≡◌, None, Result, Ok, Err, sym, subst, ap, ◌∙◌}
use Rattle.block_disk.specs.View.{Beside}
use Rattle.chart_world.specs.Faults.{CountsFault, fault_in}
use Rattle.chart_world.specs.FaultLaws.{counts_no_disk, counts_then}
use Rattle.series_store.specs.Shown as shown
use Rattle.run_ends.specs.Statuses.{status_of}
use Rattle.run_ends.specs.Faults.{end_fault}
use Rattle.run_ends.specs.declared.ending.End.{End}
use Rattle.store_commands.specs.Faulting.{counts_unopened_end}
use Rattle.demo_workload.specs.Summaries.{summary_line}
use Rattle.demo_workload.specs.Workload.{workload}
use Rattle.demo_workload.proofs.DemoRequests.{answered_opened}
use Rattle.demo_workload.proofs.DemoReads.{reads_behind}
use Rattle.demo_workload.proofs.DemoSent.{sent_ends}
use Rattle.demo_workload.proofs.DemoEnds.{again_answered, costs_behind, undemonstrated, stopped_ends}
use Rattle.std.specs.Prelude.{◌≤◌}
use Rattle.block_disk.specs.View.{sent_now}
use Rattle.gate_pages.specs.Journal.{page_count}
use Rattle.demo_workload.specs.declared.summaries.Summary.{Summary}
use Rattle.run_ends.specs.declared.ending.End.TheVariants.{DiskFault}
use Rattle.store_commands.proofs.HoldsAgain.{again_opened, again_sent}
use Rattle.store_commands.proofs.TurnedAway.{away_never}
use Rattle.store_commands.proofs.WorldLemmas.{away_over, unopened_over}
use Rattle.demo_workload.proofs.demo.run_demo.Goals as goal

pub returns-in-Ok-answer-clause-ends : goal.returns-in-Ok-answer-clause-ends
returns-in-Ok-answer-clause-ends g c =
    let view = g.W.Disk.view in
    let sent = g.W.Streams.sent in
    let sends = g.W.Streams.send_faults in
    let old = c.args.world in
    let opened = shown.pages c.in-Ok.store in
    let mid = c.answer_store-answer.result.1 in
    let new = c.send_text.result.1 in
    let summary = c.in-Ok-answer.summary in
    let w = g.met.W.World in
    let a = answered_opened (workload c.args.seed c.args.rounds) opened.count (view old) (view opened.disk)
    (view mid) c.answer_store-answer.result.0 (Ok summary) c.in-Ok.ensures.count c.in-Ok-answer.is c.in-Ok.ensures.opens
    c.in-Ok.ensures.quiet c.answer_store-answer.ensures.answered in
    sent_ends c.args.seed c.args.rounds (view old) (view mid) (view new) (sent old) (sent mid) (sent new) (sends old) (sends mid)
    (sends new) c.send_text.result.0 summary a
    (sym (w.beside_sent mid) ∙ ap (λ (b : Beside). b.sent) a.beside ∙ w.beside_sent old)
    (sym (w.beside_send_faults mid) ∙ ap (λ (b : Beside). b.send_faults) a.beside ∙ w.beside_send_faults old)
    (c.send_text.ensures.sends (summary_line summary) c.line.ensures)
    (costs_behind c.args.seed c.args.rounds (view old) (view opened.disk)
    (view mid) c.in-Ok.ensures.opens c.answer_store-answer.ensures.costs)
    (reads_behind c.args.seed c.args.rounds opened.count (view old) (view opened.disk)
    (view mid) c.in-Ok.ensures.count c.in-Ok.ensures.opens c.answer_store-answer.ensures.reads)

pub returns-in-Err-answer-clause-ends : goal.returns-in-Err-answer-clause-ends
returns-in-Err-answer-clause-ends g c =
    let view = g.W.Disk.view in
    let sent = g.W.Streams.sent in
    let sends = g.W.Streams.send_faults in
    let old = c.args.world in
    let opened = shown.pages c.in-Ok.store in
    let new = c.answer_store-answer.result.1 in
    let end = c.in-Err-answer.end in
    let w = g.met.W.World in
    let a = answered_opened (workload c.args.seed c.args.rounds) opened.count (view old) (view opened.disk)
    (view new) c.answer_store-answer.result.0 (Err end) c.in-Ok.ensures.count c.in-Err-answer.is c.in-Ok.ensures.opens
    c.in-Ok.ensures.quiet c.answer_store-answer.ensures.answered in
    stopped_ends c.args.seed c.args.rounds (view old) (view new) (sent old) (sent new) (sends old) (sends new) end a
    (sym (w.beside_sent new) ∙ ap (λ (b : Beside). b.sent) a.beside ∙ w.beside_sent old)
    (costs_behind c.args.seed c.args.rounds (view old) (view opened.disk)
    (view new) c.in-Ok.ensures.opens c.answer_store-answer.ensures.costs)
    (reads_behind c.args.seed c.args.rounds opened.count (view old) (view opened.disk)
    (view new) c.in-Ok.ensures.count c.in-Ok.ensures.opens c.answer_store-answer.ensures.reads)

pub returns-in-Err-clause-ends : goal.returns-in-Err-clause-ends
returns-in-Err-clause-ends g c =
    let view = g.W.Disk.view in
    let sent = g.W.Streams.sent in
    let sends = g.W.Streams.send_faults in
    let old = c.args.world in
    let new = c.in-Err.field-0.value in
    let left = g.W.Streams.left in
    let e = c.in-Err.ensures in
    undemonstrated c.args.seed c.args.rounds (view old) (view new) (left old) (left new) (sent old) (sent new) (sends old)
    (sends new) c.in-Err.field-0.cause c.opening_end.result
    (unopened_over g.W.Disk.view g.W.Streams.left g.W.Streams.sent g.met.W.World.beside_left g.met.W.World.beside_sent old new
    c.in-Err.field-0.cause e.opens.beside_is e.opens e.cause e.a_store) c.opening_end.ensures

pub returns-in-Ok-answer-clause-away : goal.returns-in-Ok-answer-clause-away
returns-in-Ok-answer-clause-away g c = away_never _ _ c.in-Ok.ensures.large

pub returns-in-Err-answer-clause-away : goal.returns-in-Err-answer-clause-away
returns-in-Err-answer-clause-away g c = away_never _ _ c.in-Ok.ensures.large

pub returns-in-Err-clause-away : goal.returns-in-Err-clause-away
returns-in-Err-clause-away g c =
    away_over g.W.Disk.view g.W.Streams.left g.W.Streams.sent g.met.W.World.beside_left g.met.W.World.beside_sent c.args.world
    c.in-Err.field-0.value c.in-Err.field-0.cause c.in-Err.ensures.opens.beside_is (status_of c.opening_end.result)
    (ap (λ (e : End). status_of e) c.opening_end.ensures) c.in-Err.ensures.cause

pub returns-in-Err-clause-untaken : goal.returns-in-Err-clause-untaken
returns-in-Err-clause-untaken g c =
    let old = c.args.world in
    let new = c.in-Err.field-0.value in
    let w = g.met.W.World in
    sym (w.beside_left new) ∙ ap (λ (b : Beside). b.left) c.in-Err.ensures.opens.beside_is ∙ w.beside_left old

pub returns-in-Ok-answer-clause-untaken : goal.returns-in-Ok-answer-clause-untaken
returns-in-Ok-answer-clause-untaken g c =
    let old = c.args.world in
    let mid = c.answer_store-answer.result.1 in
    let w = g.met.W.World in
    c.send_text.ensures.left ∙ sym (w.beside_left mid)
    ∙ ap (λ (b : Beside). b.left) (c.answer_store-answer.ensures.answered.beside ∙ c.in-Ok.ensures.opens.beside_is) ∙ w.beside_left old

pub returns-in-Err-answer-clause-untaken : goal.returns-in-Err-answer-clause-untaken
returns-in-Err-answer-clause-untaken g c =
    let old = c.args.world in
    let new = c.answer_store-answer.result.1 in
    let w = g.met.W.World in
    sym (w.beside_left new) ∙ ap (λ (b : Beside). b.left) (c.answer_store-answer.ensures.answered.beside ∙ c.in-Ok.ensures.opens.beside_is)
    ∙ w.beside_left old

pub returns-in-Ok-answer-clause-holds : goal.returns-in-Ok-answer-clause-holds
returns-in-Ok-answer-clause-holds g c = λ other.
    let view = g.W.Disk.view in
    let old = c.args.world in
    let opened = shown.pages c.in-Ok.store in
    let mid = c.answer_store-answer.result.1 in
    let requests = workload c.args.seed c.args.rounds in
    let a = answered_opened requests opened.count (view old) (view opened.disk) (view mid) c.answer_store-answer.result.0
    (Ok c.in-Ok-answer.summary) c.in-Ok.ensures.count c.in-Ok-answer.is c.in-Ok.ensures.opens c.in-Ok.ensures.quiet
    c.answer_store-answer.ensures.answered in
    let new = c.send_text.result.1 in
    let text = c.send_text.ensures.sends (summary_line c.in-Ok-answer.summary) c.line.ensures in
    again_sent (page_count (view old).size) (view old) (view mid) (view new) (λ count. (sent_now (view mid) ≤ count)
    × (count ≤ sent_now (view new))) text.kept text.time
    (again_answered requests (page_count (view old).size) (view old) (view mid) (Ok c.in-Ok-answer.summary) (λ is. cc) a)

pub returns-in-Err-answer-clause-holds : goal.returns-in-Err-answer-clause-holds
returns-in-Err-answer-clause-holds g c = λ other.
    let view = g.W.Disk.view in
    let old = c.args.world in
    let opened = shown.pages c.in-Ok.store in
    let mid = c.answer_store-answer.result.1 in
    let requests = workload c.args.seed c.args.rounds in
    let a = answered_opened requests opened.count (view old) (view opened.disk) (view mid) c.answer_store-answer.result.0
    (Err c.in-Err-answer.end) c.in-Ok.ensures.count c.in-Err-answer.is c.in-Ok.ensures.opens c.in-Ok.ensures.quiet
    c.answer_store-answer.ensures.answered in
    let end = c.in-Err-answer.end in
    again_answered requests (page_count (view old).size) (view old) (view mid) (Err end)
    (λ is. let same : end ≡ DiskFault = cc in other same) a

pub returns-in-Err-clause-holds : goal.returns-in-Err-clause-holds
returns-in-Err-clause-holds g c = λ other. again_opened (g.W.Disk.view c.args.world)
    (g.W.Disk.view c.in-Err.field-0.value) c.in-Err.ensures.opens

pub returns-in-Ok-answer-clause-faults : goal.returns-in-Ok-answer-clause-faults
returns-in-Ok-answer-clause-faults g c =
    let view = g.W.Disk.view in
    let old = view c.args.world in
    let start = view (shown.pages c.in-Ok.store).disk in
    let mid = view c.answer_store-answer.result.1 in
    let new = view c.send_text.result.1 in
    let e = c.in-Ok.ensures in
    let P : Result Summary End → Type 0 = λ r. CountsFault (fault_in end_fault r) start mid in
    let answered = counts_then None old start mid (counts_no_disk old start e.opens.beside_is e.quiet)
    (subst P c.in-Ok-answer.is c.answer_store-answer.ensures.faults) in
    counts_then (end_fault c.send_text.result.0) old mid new answered c.send_text.ensures.faults

pub returns-in-Err-answer-clause-faults : goal.returns-in-Err-answer-clause-faults
returns-in-Err-answer-clause-faults g c =
    let view = g.W.Disk.view in
    let old = view c.args.world in
    let start = view (shown.pages c.in-Ok.store).disk in
    let new = view c.answer_store-answer.result.1 in
    let end = c.in-Err-answer.end in
    let e = c.in-Ok.ensures in
    let P : Result Summary End → Type 0 = λ r. CountsFault (fault_in end_fault r) start new in
    counts_then (end_fault end) old start new (counts_no_disk old start e.opens.beside_is e.quiet)
    (subst P c.in-Err-answer.is c.answer_store-answer.ensures.faults)

pub returns-in-Err-clause-faults : goal.returns-in-Err-clause-faults
returns-in-Err-clause-faults g c =
    let view = g.W.Disk.view in
    let back = c.in-Err.field-0 in
    let e = c.in-Err.ensures in
    counts_unopened_end back.cause c.opening_end.result (view c.args.world)
    (view back.value) c.opening_end.ensures e.opens.beside_is e.cause e.quiet_err
