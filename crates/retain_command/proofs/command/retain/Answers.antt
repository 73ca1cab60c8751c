use Rattle.std.proofs.Common.{◌≢◌, ℕ, List, ap, subst, sym, arith}
use Rattle.chart_world.specs.FaultLaws.{counts_no_disk, counts_then}
use Rattle.chart_world.specs.Faults.{CountsFault}
use Rattle.gate_pages.specs.GatePages.{IsClosed}
use Rattle.gate_pages.specs.Journal.{pages_of}
use Rattle.run_ends.specs.Faults.{end_fault}
use Rattle.run_ends.specs.Statuses.{status_of}
use Rattle.run_ends.specs.declared.ending.End.{End}
use Rattle.run_ends.specs.declared.ending.End.TheVariants.{DiskFault}
use Rattle.series_store.proofs.NameLemmas.{no_record}
use Rattle.series_store.specs.Asking.{LacksName}
use Rattle.series_store.specs.Shown as shown
use Rattle.store_commands.proofs.Damages.{lacks_record}
use Rattle.store_commands.proofs.Held.{rests_new}
use Rattle.store_commands.proofs.TurnedAway.{away_never}
use Rattle.store_commands.proofs.WorldLemmas.{away_over, traffic_over, unopened_over}
use Rattle.store_commands.specs.Lacking.{LacksRecord}
use Rattle.store_commands.specs.Faulting.{counts_unopened_end}
use Rattle.store_commands.specs.Traffic.{Traffic, traffic}
use Rattle.store_commands.specs.TrafficLaws.{was_read}
use Rattle.retain_command.specs.Retained.{RetainEnds}
use Rattle.retain_command.proofs.DiskLemmas.{retained_by, unopened_ends}
use Rattle.retain_command.proofs.command.retain.Goals as goal

pub returns-in-Ok-clause-ends : goal.returns-in-Ok-clause-ends
returns-in-Ok-clause-ends g c =
    let view = g.W.Disk.view in
    let left = g.W.Streams.left in
    let sent = g.W.Streams.sent in
    let reads = g.W.Streams.read_faults in
    let sends = g.W.Streams.send_faults in
    let w = g.met.W.World in
    let first = c.args.world in
    let before = c.in-Ok.store in
    let after = c.sweep_lines-end.new.store in
    let pages = shown.pages before in
    let end_pages = shown.pages after in
    let old = pages.disk in
    let new = end_pages.disk in
    let end = c.sweep_lines-end.result in
    let opened = c.in-Ok.ensures in
    let made = c.sweep_lines-end.ensures in
    let closed : end ≢ DiskFault → IsClosed (view new) =
    λ other.
    let P : g.row.W.Denot → Type 0 = λ d. IsClosed (view d) in
    subst P c.disk_of.ensures.disk (c.disk_of.ensures.rests (made.sound other)) in
    let lacking : end ≢ DiskFault → (name : List ℕ) → LacksName (shown.catalog after) name → LacksRecord end_pages.count (view new) name =
    λ other name lacks.
    let sound = made.sound other in
    let keeps = rests_new end_pages.count (view new) (shown.numbers after) (end_pages.at_rest sound) (after.space.spelled sound) in
    lacks_record end_pages.count (view new) (shown.numbers after) name keeps
    (λ honest. record { spelled = after.space.spelled sound honest; rules = after.space.rules })
    (λ honest. no_record (pages_of end_pages.count (view new).image) (shown.numbers after) (shown.catalog after) name after.count
    (after.told sound honest) lacks) in
    let all = retained_by pages.count end_pages.count pages.sound end_pages.sound (view first) (view old) (view new) (shown.total before)
    (shown.total after) (traffic left sent reads sends old new) made.goes
    (rests_new pages.count (view old) (shown.numbers before) (pages.at_rest opened.sound) (before.space.spelled opened.sound))
    (omega (arith, before.space.rules.total_high)) opened.count opened.opens opened.quiet
    end (λ done. was_read (left old) (left new) (made.within done) (made.whole done)) made.long made.cause made.ends made.crash closed
    made.costs (shown.catalog after) made.faulty lacking made.answered in
    let same = traffic_over view left sent reads sends w.beside_left w.beside_sent w.beside_read_faults w.beside_send_faults first old new
    opened.opens.beside_is in
    let T : Traffic → Type 0 = λ t. RetainEnds (view first) (view new) t end in
    let D : g.row.W.Denot → Type 0 = λ d. RetainEnds (view first) (view d) (traffic left sent reads sends first d) end in
    subst D (sym c.disk_of.ensures.disk) (subst T same all)

pub returns-in-Err-clause-ends : goal.returns-in-Err-clause-ends
returns-in-Err-clause-ends g c =
    let view = g.W.Disk.view in
    let left = g.W.Streams.left in
    let sent = g.W.Streams.sent in
    let old = c.args.world in
    let back = c.in-Err.field-0 in
    let e = c.in-Err.ensures in
    unopened_ends (view old) (view back.value) (traffic left sent g.W.Streams.read_faults g.W.Streams.send_faults old back.value) back.cause
    c.opening_end.result c.opening_end.ensures
    (unopened_over view left sent g.met.W.World.beside_left g.met.W.World.beside_sent old back.value back.cause e.opens.beside_is e.opens
    e.cause e.a_store)

pub returns-in-Ok-clause-away : goal.returns-in-Ok-clause-away
returns-in-Ok-clause-away g c = away_never _ _ c.in-Ok.ensures.large

pub returns-in-Err-clause-away : goal.returns-in-Err-clause-away
returns-in-Err-clause-away g c =
    away_over g.W.Disk.view g.W.Streams.left g.W.Streams.sent g.met.W.World.beside_left g.met.W.World.beside_sent c.args.world
    c.in-Err.field-0.value c.in-Err.field-0.cause c.in-Err.ensures.opens.beside_is (status_of c.opening_end.result)
    (ap (λ (e : End). status_of e) c.opening_end.ensures) c.in-Err.ensures.cause

pub returns-in-Ok-clause-faults : goal.returns-in-Ok-clause-faults
returns-in-Ok-clause-faults g c =
    let view = g.W.Disk.view in
    let first = view c.args.world in
    let old = view (shown.pages c.in-Ok.store).disk in
    let e = c.in-Ok.ensures in
    let end = c.sweep_lines-end.result in
    let D : g.row.W.Denot → Type 0 = λ d. CountsFault (end_fault end) first (view d) in
    subst D (sym c.disk_of.ensures.disk)
    (counts_then (end_fault end) first old (view (shown.pages c.sweep_lines-end.new.store).disk)
    (counts_no_disk first old e.opens.beside_is e.quiet) c.sweep_lines-end.ensures.faults)

pub returns-in-Err-clause-faults : goal.returns-in-Err-clause-faults
returns-in-Err-clause-faults g c =
    let view = g.W.Disk.view in
    let back = c.in-Err.field-0 in
    let e = c.in-Err.ensures in
    counts_unopened_end back.cause c.opening_end.result (view c.args.world)
    (view back.value) c.opening_end.ensures e.opens.beside_is e.cause e.quiet_err
