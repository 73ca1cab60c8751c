use Rattle.std.proofs.Common.{sym, ap, subst, ◌∙◌}
use Rattle.std.specs.Prelude.{flat_map, map}
use Rattle.block_disk.specs.View.{Beside}
use Rattle.chart_world.specs.Faults.{CountsFault}
use Rattle.chart_world.specs.FaultLaws.{counts_no_disk, counts_then}
use Rattle.gate_pages.specs.Journal.{page_count, pages_of}
use Rattle.series_catalog.specs.Catalogs.{entry_of}
use Rattle.series_store.proofs.NameLemmas.{as_long, records_are}
use Rattle.series_store.specs.Shown as shown
use Rattle.run_ends.specs.Statuses.{status_of}
use Rattle.run_ends.specs.Faults.{end_fault}
use Rattle.run_ends.specs.declared.ending.End.{End}
use Rattle.store_commands.specs.Faulting.{counts_unopened_end}
use Rattle.store_commands.specs.Listed.{entry_line, list_text}
use Rattle.store_commands.specs.Sending.{SendsMade}
use Rattle.store_commands.proofs.ListEnds.{listed, lists_entries, unlisted, text_in, made_is}
use Rattle.store_commands.proofs.TurnedAway.{away_never}
use Rattle.store_commands.proofs.WorldLemmas.{away_over, unopened_over}
use Rattle.store_commands.proofs.list.list_series.Goals as goal

pub returns-in-Ok-clause-ends : goal.returns-in-Ok-clause-ends
returns-in-Ok-clause-ends g c =
    let view = g.W.Disk.view in
    let sent = g.W.Streams.sent in
    let sends = g.W.Streams.send_faults in
    let old = c.args.world in
    let store = c.in-Ok.store in
    let pages = shown.pages store in
    let catalog = shown.catalog store in
    let s = shown.numbers store in
    let mid = pages.disk in
    let new = c.send_text.result.1 in
    let e = c.in-Ok.ensures in
    let beside = e.opens.beside_is in
    let w = g.met.W.World in
    let made = c.list_text-text.result in
    let P : g.row.W.Denot → Type 0 = λ d. SendsMade made (view d) (view new) (sent d) (sent new) (sends d)
    (sends new) c.send_text.result.0 in
    let sent_of = subst P c.disk_of.ensures.disk c.send_text.ensures.sends in
    listed (view old) (view mid) (view new) (sent old) (sent mid) (sent new) (sends old) (sends mid) (sends new) c.send_text.result.0
    (text_in made) e.opens
    (sym (w.beside_sent mid) ∙ ap (λ (b : Beside). b.sent) beside ∙ w.beside_sent old)
    (sym (w.beside_send_faults mid) ∙ ap (λ (b : Beside). b.send_faults) beside ∙ w.beside_send_faults old)
    (sent_of (text_in made) (made_is made))
    (λ total book holds. sent_of (list_text book) (c.list_text-text.ensures.books total book e.sound (e.opens.honest holds.honest)
    (e.stands total book holds)))
    (map entry_of catalog) (sent_of (flat_map entry_line (map entry_of catalog)) c.list_text-text.ensures.records)
    (lists_entries pages.count (page_count (view old).size) (view old) (view mid) s (map entry_of catalog) e.count e.opens.honest e.pages
    (λ honest. record { spelled = store.space.spelled e.sound honest; rules = store.space.rules }) (as_long catalog ∙ store.count)
    (λ honest. records_are (pages_of pages.count (view mid).image) catalog (store.told e.sound honest)))

pub returns-in-Err-clause-ends : goal.returns-in-Err-clause-ends
returns-in-Err-clause-ends g c =
    let view = g.W.Disk.view in
    let sent = g.W.Streams.sent in
    let sends = g.W.Streams.send_faults in
    let left = g.W.Streams.left in
    let old = c.args.world in
    let new = c.in-Err.field-0.value in
    let e = c.in-Err.ensures in
    unlisted (view old) (view new) (left old) (left new) (sent old) (sent new) (sends old)
    (sends new) c.in-Err.field-0.cause c.opening_end.result
    (unopened_over g.W.Disk.view g.W.Streams.left g.W.Streams.sent g.met.W.World.beside_left g.met.W.World.beside_sent old new
    c.in-Err.field-0.cause e.opens.beside_is e.opens e.cause e.a_store) c.opening_end.ensures

pub returns-in-Ok-clause-away : goal.returns-in-Ok-clause-away
returns-in-Ok-clause-away g c = away_never _ _ c.in-Ok.ensures.large

pub returns-in-Err-clause-away : goal.returns-in-Err-clause-away
returns-in-Err-clause-away g c =
    away_over g.W.Disk.view g.W.Streams.left g.W.Streams.sent g.met.W.World.beside_left g.met.W.World.beside_sent c.args.world
    c.in-Err.field-0.value c.in-Err.field-0.cause c.in-Err.ensures.opens.beside_is (status_of c.opening_end.result)
    (ap (λ (e : End). status_of e) c.opening_end.ensures) c.in-Err.ensures.cause

pub returns-in-Err-clause-untaken : goal.returns-in-Err-clause-untaken
returns-in-Err-clause-untaken g c =
    let old = c.args.world in
    let new = c.in-Err.field-0.value in
    let w = g.met.W.World in
    sym (w.beside_left new) ∙ ap (λ (b : Beside). b.left) c.in-Err.ensures.opens.beside_is ∙ w.beside_left old

pub returns-in-Ok-clause-untaken : goal.returns-in-Ok-clause-untaken
returns-in-Ok-clause-untaken g c =
    let old = c.args.world in
    let mid = (shown.pages c.in-Ok.store).disk in
    let w = g.met.W.World in
    c.send_text.ensures.left ∙ ap g.W.Streams.left c.disk_of.ensures.disk ∙ sym (w.beside_left mid)
    ∙ ap (λ (b : Beside). b.left) c.in-Ok.ensures.opens.beside_is ∙ w.beside_left old

pub returns-in-Ok-clause-faults : goal.returns-in-Ok-clause-faults
returns-in-Ok-clause-faults g c =
    let view = g.W.Disk.view in
    let old = view c.args.world in
    let mid = (shown.pages c.in-Ok.store).disk in
    let e = c.in-Ok.ensures in
    let fault = end_fault c.send_text.result.0 in
    let P : g.row.W.Denot → Type 0 = λ d. CountsFault fault (view d) (view c.send_text.result.1) in
    counts_then fault old (view mid) (view c.send_text.result.1) (counts_no_disk old (view mid) e.opens.beside_is e.quiet)
    (subst P c.disk_of.ensures.disk c.send_text.ensures.faults)

pub returns-in-Err-clause-faults : goal.returns-in-Err-clause-faults
returns-in-Err-clause-faults g c =
    let view = g.W.Disk.view in
    let back = c.in-Err.field-0 in
    let e = c.in-Err.ensures in
    counts_unopened_end back.cause c.opening_end.result (view c.args.world)
    (view back.value) c.opening_end.ensures e.opens.beside_is e.cause e.quiet_err
