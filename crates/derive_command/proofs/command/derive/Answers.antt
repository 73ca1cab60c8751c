use Rattle.std.proofs.Common.{◌≡◌, ℕ, ap, subst, sym, arith}
use Rattle.block_disk.specs.View.{Image}
use Rattle.chart_world.specs.FaultLaws.{counts_no_disk, counts_then}
use Rattle.chart_world.specs.Faults.{CountsFault}
use Rattle.gate_pages.specs.GatePages.{IsClosed}
use Rattle.page_space.specs.Layout.{Keeps}
use Rattle.run_ends.specs.Statuses.{status_of}
use Rattle.run_ends.specs.Faults.{end_fault}
use Rattle.run_ends.specs.declared.ending.End.{End}
use Rattle.series_catalog.specs.Catalogs.{AreAsTold}
use Rattle.series_store.specs.Shown as shown
use Rattle.store_commands.proofs.Held.{rests_new}
use Rattle.store_commands.proofs.TurnedAway.{away_never}
use Rattle.store_commands.proofs.WorldLemmas.{away_over, traffic_over, unopened_over}
use Rattle.store_commands.specs.Faulting.{counts_unopened_end}
use Rattle.store_commands.specs.Traffic.{Traffic, traffic}
use Rattle.store_commands.specs.TrafficLaws.{was_read}
use Rattle.derive_command.specs.Derived.{DeriveEnds}
use Rattle.derive_command.specs.Catalogs.{by_memory}
use Rattle.derive_command.proofs.DiskLemmas.{derived_by, disk_side, unopened_ends}
use Rattle.derive_command.proofs.RecordLemmas.{says_more}
use Rattle.derive_command.proofs.command.derive.Goals as goal

pub returns-in-Ok-clause-ends : goal.returns-in-Ok-clause-ends
returns-in-Ok-clause-ends g c =
    let view = g.W.Disk.view in
    let left = g.W.Streams.left in
    let sent = g.W.Streams.sent in
    let reads = g.W.Streams.read_faults in
    let sends = g.W.Streams.send_faults in
    let w = g.met.W.World in
    let first = c.args.world in
    let before = c.in-Ok.store in
    let after = c.draw_lines-end.new.store in
    let pages = shown.pages before in
    let end_pages = shown.pages after in
    let old = pages.disk in
    let new = end_pages.disk in
    let opened = c.in-Ok.ensures in
    let made = c.draw_lines-end.ensures in
    let t = traffic left sent reads sends old new in
    let P : g.row.W.Denot → Type 0 = λ d. IsClosed (view d) in
    let closed : IsClosed (view new) = subst P c.disk_of.ensures.disk (c.disk_of.ensures.rests (made.goes.fit opened.sound)) in
    let sound = made.goes.fit opened.sound in
    let s = shown.numbers before in
    let image : shown.IsTold after → shown.image after ≡ shown.image before = λ told. made.goes.image (made.goes.was_told told) in
    let C : ℕ → Type 0 = λ n. Keeps n s (shown.image after 0) in
    let side = disk_side end_pages.count end_pages.sound (view new) (shown.total after) (reads new) (sends new) in
    let more = says_more end_pages.count (view new) side (shown.catalog before) s
    (rests_new end_pages.count (view new) (shown.numbers after) (end_pages.at_rest sound) (after.space.spelled sound)) before.count
    (λ honest.
    let I : Image → Type 0 = λ i. Keeps pages.count s (i 0) in
    subst C (sym made.goes.size) (subst I (sym (image honest))
    (record { spelled = before.space.spelled opened.sound (made.goes.was_told honest); rules = before.space.rules })))
    (λ honest.
    let I : Image → Type 0 = λ i. AreAsTold i (shown.catalog before) in
    subst I (sym (image honest)) (before.told opened.sound (made.goes.was_told honest)))
    (omega (arith, after.space.rules.total_high)) (λ first second page bad. bad) in
    let all = derived_by pages.count end_pages.count pages.sound end_pages.sound (view first) (view old) (view new) (shown.total before)
    (shown.total after) t made.goes
    (rests_new pages.count (view old) (shown.numbers before) (pages.at_rest opened.sound) (before.space.spelled opened.sound)) closed
    (omega (arith, before.space.rules.total_high)) opened.count opened.opens opened.quiet
    c.draw_lines-end.result (λ done. was_read (left old) (left new) (made.within done) (made.whole done)) made.long made.cause made.ends
    (by_memory (shown.catalog before) side) more made.lines in
    let same = traffic_over view left sent reads sends w.beside_left w.beside_sent w.beside_read_faults w.beside_send_faults first old new
    opened.opens.beside_is in
    let T : Traffic → Type 0 = λ x. DeriveEnds (view first) (view new) x c.draw_lines-end.result in
    let D : g.row.W.Denot → Type 0 = λ d. DeriveEnds (view first) (view d)
    (traffic left sent reads sends first d) c.draw_lines-end.result in
    subst D (sym c.disk_of.ensures.disk) (subst T same all)

pub returns-in-Err-clause-ends : goal.returns-in-Err-clause-ends
returns-in-Err-clause-ends g c =
    let view = g.W.Disk.view in
    let left = g.W.Streams.left in
    let sent = g.W.Streams.sent in
    let old = c.args.world in
    let back = c.in-Err.field-0 in
    let e = c.in-Err.ensures in
    unopened_ends (view old) (view back.value) (traffic left sent g.W.Streams.read_faults g.W.Streams.send_faults old back.value) back.cause
    c.opening_end.result c.opening_end.ensures
    (unopened_over view left sent g.met.W.World.beside_left g.met.W.World.beside_sent old back.value back.cause e.opens.beside_is e.opens
    e.cause e.a_store)

pub returns-in-Ok-clause-away : goal.returns-in-Ok-clause-away
returns-in-Ok-clause-away g c = away_never _ _ c.in-Ok.ensures.large

pub returns-in-Err-clause-away : goal.returns-in-Err-clause-away
returns-in-Err-clause-away g c =
    away_over g.W.Disk.view g.W.Streams.left g.W.Streams.sent g.met.W.World.beside_left g.met.W.World.beside_sent c.args.world
    c.in-Err.field-0.value c.in-Err.field-0.cause c.in-Err.ensures.opens.beside_is (status_of c.opening_end.result)
    (ap (λ (e : End). status_of e) c.opening_end.ensures) c.in-Err.ensures.cause

pub returns-in-Ok-clause-faults : goal.returns-in-Ok-clause-faults
returns-in-Ok-clause-faults g c =
    let view = g.W.Disk.view in
    let first = view c.args.world in
    let old = view (shown.pages c.in-Ok.store).disk in
    let e = c.in-Ok.ensures in
    let end = c.draw_lines-end.result in
    let D : g.row.W.Denot → Type 0 = λ d. CountsFault (end_fault end) first (view d) in
    subst D (sym c.disk_of.ensures.disk)
    (counts_then (end_fault end) first old (view (shown.pages c.draw_lines-end.new.store).disk)
    (counts_no_disk first old e.opens.beside_is e.quiet) c.draw_lines-end.ensures.faults)

pub returns-in-Err-clause-faults : goal.returns-in-Err-clause-faults
returns-in-Err-clause-faults g c =
    let view = g.W.Disk.view in
    let back = c.in-Err.field-0 in
    let e = c.in-Err.ensures in
    counts_unopened_end back.cause c.opening_end.result (view c.args.world)
    (view back.value) c.opening_end.ensures e.opens.beside_is e.cause e.quiet_err
