use Rattle.std.proofs.Common.{◌∙◌, ap, subst, sym}
use Rattle.block_disk.specs.View.{Beside}
use Rattle.chart_world.specs.FaultLaws.{counts_no_disk, counts_then}
use Rattle.run_ends.specs.Faults.{end_fault}
use Rattle.run_ends.specs.Statuses.{status_of}
use Rattle.run_ends.specs.declared.ending.End.{End}
use Rattle.series_store.specs.Shown as stored
use Rattle.store_commands.proofs.TurnedAway.{away_never}
use Rattle.store_commands.proofs.WorldLemmas.{away_over, traffic_over, unopened_over}
use Rattle.store_commands.specs.Faulting.{counts_unopened_end}
use Rattle.store_commands.specs.Traffic.{Traffic, traffic}
use Rattle.live_command.specs.Ended.{LiveEnds}
use Rattle.live_command.proofs.DiskLemmas.{live_ends, reads_on, reads_unopened, syncs_on, syncs_unopened, unopened_ends, opening_done}
use Rattle.live_command.proofs.DiskLemmas.{opening_unblamed}
use Rattle.live_service.specs.Kinds.{MayAnswerLive}
use Rattle.chart_service.specs.Blaming.{Blames}
use Rattle.gate_pages.specs.Journal.{page_count}
use Rattle.hosted_lines.proofs.AnswersLemmas.{answers_over}
use Rattle.hosted_lines.proofs.BlameLemmas.{blames_over}
use Rattle.live_service.specs.Pushing.{followed_after}
use Rattle.live_command.proofs.command.live.Goals as goal

pub returns-in-Ok-clause-ends : goal.returns-in-Ok-clause-ends
returns-in-Ok-clause-ends g c =
    let view = g.W.Disk.view in
    let left = g.W.Streams.left in
    let sent = g.W.Streams.sent in
    let reads = g.W.Streams.read_faults in
    let sends = g.W.Streams.send_faults in
    let w = g.met.W.World in
    let first = c.args.world in
    let opened = stored.pages c.in-Ok.store in
    let start = opened.disk in
    let new = c.serve_store.result.1 in
    let end = c.serve_store.result.0 in
    let e = c.in-Ok.ensures in
    let all = live_ends (view first) (view start) (view new)
    (traffic left sent reads sends start new) e.opens e.quiet opened.count end e.count c.serve_store.ensures.serves in
    let same = traffic_over view left sent reads sends w.beside_left w.beside_sent w.beside_read_faults w.beside_send_faults first start new
    e.opens.beside_is in
    let T : Traffic → Type 0 = λ t. LiveEnds (view first) (view new) t end in
    subst T same all

pub returns-in-Err-clause-ends : goal.returns-in-Err-clause-ends
returns-in-Err-clause-ends g c =
    let view = g.W.Disk.view in
    let left = g.W.Streams.left in
    let sent = g.W.Streams.sent in
    let old = c.args.world in
    let back = c.in-Err.field-0 in
    let e = c.in-Err.ensures in
    unopened_ends (view old) (view back.value) (traffic left sent g.W.Streams.read_faults g.W.Streams.send_faults old back.value) back.cause
    c.opening_end.result c.opening_end.ensures
    (unopened_over view left sent g.met.W.World.beside_left g.met.W.World.beside_sent old back.value back.cause e.opens.beside_is e.opens
    e.cause e.a_store)

pub returns-in-Ok-clause-away : goal.returns-in-Ok-clause-away
returns-in-Ok-clause-away g c = away_never _ _ c.in-Ok.ensures.large

pub returns-in-Err-clause-away : goal.returns-in-Err-clause-away
returns-in-Err-clause-away g c =
    away_over g.W.Disk.view g.W.Streams.left g.W.Streams.sent g.met.W.World.beside_left g.met.W.World.beside_sent c.args.world
    c.in-Err.field-0.value c.in-Err.field-0.cause c.in-Err.ensures.opens.beside_is (status_of c.opening_end.result)
    (ap (λ (e : End). status_of e) c.opening_end.ensures) c.in-Err.ensures.cause

pub returns-in-Ok-clause-reads : goal.returns-in-Ok-clause-reads
returns-in-Ok-clause-reads g c =
    let view = g.W.Disk.view in
    let left = g.W.Streams.left in
    let old = c.args.world in
    let opened = stored.pages c.in-Ok.store in
    let start = opened.disk in
    let new = c.serve_store.result.1 in
    let w = g.met.W.World in
    reads_on opened.count (view old) (view start) (view new) (left start) (left old) c.in-Ok.ensures.count c.in-Ok.ensures.opens
    (sym (w.beside_left start) ∙ ap (λ (b : Beside). b.left) c.in-Ok.ensures.opens.beside_is
    ∙ w.beside_left old) c.serve_store.ensures.reads

pub returns-in-Err-clause-reads : goal.returns-in-Err-clause-reads
returns-in-Err-clause-reads g c =
    let view = g.W.Disk.view in
    reads_unopened (view c.args.world) (view c.in-Err.field-0.value) (g.W.Streams.left c.args.world) c.in-Err.ensures.opens

pub returns-in-Ok-clause-syncs : goal.returns-in-Ok-clause-syncs
returns-in-Ok-clause-syncs g c =
    let view = g.W.Disk.view in
    let left = g.W.Streams.left in
    let old = c.args.world in
    let start = (stored.pages c.in-Ok.store).disk in
    let new = c.serve_store.result.1 in
    let w = g.met.W.World in
    syncs_on (view old) (view start) (view new) (left start) (left old) c.in-Ok.ensures.opens
    (sym (w.beside_left start) ∙ ap (λ (b : Beside). b.left) c.in-Ok.ensures.opens.beside_is
    ∙ w.beside_left old) c.serve_store.ensures.syncs

pub returns-in-Err-clause-syncs : goal.returns-in-Err-clause-syncs
returns-in-Err-clause-syncs g c =
    let view = g.W.Disk.view in
    syncs_unopened (view c.args.world) (view c.in-Err.field-0.value) (g.W.Streams.left c.args.world) c.in-Err.ensures.opens

pub returns-in-Ok-clause-faults : goal.returns-in-Ok-clause-faults
returns-in-Ok-clause-faults g c =
    let view = g.W.Disk.view in
    let old = view c.args.world in
    let start = view (stored.pages c.in-Ok.store).disk in
    let e = c.in-Ok.ensures in
    counts_then (end_fault c.serve_store.result.0) old start (view c.serve_store.result.1)
    (counts_no_disk old start e.opens.beside_is e.quiet) c.serve_store.ensures.faults

pub returns-in-Err-clause-faults : goal.returns-in-Err-clause-faults
returns-in-Err-clause-faults g c =
    let view = g.W.Disk.view in
    let back = c.in-Err.field-0 in
    let e = c.in-Err.ensures in
    counts_unopened_end back.cause c.opening_end.result (view c.args.world)
    (view back.value) c.opening_end.ensures e.opens.beside_is e.cause e.quiet_err

pub returns-in-Ok-clause-answers : goal.returns-in-Ok-clause-answers
returns-in-Ok-clause-answers g c =
    let left = g.W.Streams.left in
    let sent = g.W.Streams.sent in
    let old = c.args.world in
    let start = (stored.pages c.in-Ok.store).disk in
    let w = g.met.W.World in
    let beside = c.in-Ok.ensures.opens.beside_is in
    λ done. answers_over MayAnswerLive followed_after (left start) (left old) (sent start) (sent old) (sent c.serve_store.result.1)
    (sym (w.beside_left start) ∙ ap (λ (b : Beside). b.left) beside ∙ w.beside_left old)
    (sym (w.beside_sent start) ∙ ap (λ (b : Beside). b.sent) beside ∙ w.beside_sent old) (c.serve_store.ensures.answers done)

pub returns-in-Err-clause-answers : goal.returns-in-Err-clause-answers
returns-in-Err-clause-answers g c = λ done. absurd (opening_done c.in-Err.field-0.cause (sym c.opening_end.ensures ∙ done))

pub returns-in-Ok-clause-blames : goal.returns-in-Ok-clause-blames
returns-in-Ok-clause-blames g c =
    let view = g.W.Disk.view in
    let left = g.W.Streams.left in
    let sent = g.W.Streams.sent in
    let old = c.args.world in
    let opened = stored.pages c.in-Ok.store in
    let start = opened.disk in
    let w = g.met.W.World in
    let e = c.in-Ok.ensures in
    let beside = e.opens.beside_is in
    blames_over MayAnswerLive followed_after Blames opened.count (page_count (view old).size) (view c.serve_store.result.1) (left start)
    (left old) (sent start) (sent old) (sent c.serve_store.result.1) c.serve_store.result.0 e.count
    (sym (w.beside_left start) ∙ ap (λ (b : Beside). b.left) beside ∙ w.beside_left old) (sym (w.beside_sent start)
    ∙ ap (λ (b : Beside). b.sent) beside ∙ w.beside_sent old) c.serve_store.ensures.blames

pub returns-in-Err-clause-blames : goal.returns-in-Err-clause-blames
returns-in-Err-clause-blames g c = opening_unblamed c.in-Err.field-0.cause c.opening_end.result _ c.opening_end.ensures
