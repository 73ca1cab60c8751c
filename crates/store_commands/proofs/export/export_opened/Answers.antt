use Rattle.std.proofs.Common.{refl, sym, subst, ap, ◌∙◌, arith}
use Rattle.chart_world.specs.Faults.{CountsFault, fault_in}
use Rattle.chart_world.specs.FaultLaws.{counts_none}
use Rattle.gate_pages.specs.GatePages.{IsClosed}
use Rattle.gate_pages.specs.Journal.{pages_of}
use Rattle.series_export.specs.Faults.{send_fault}
use Rattle.series_store.proofs.NameLemmas.{named_record, no_record}
use Rattle.series_store.proofs.SelectedLemmas.{kept_at}
use Rattle.series_store.specs.Shown as shown
use Rattle.run_ends.specs.declared.ending.End.{End}
use Rattle.run_ends.specs.Faults.{end_fault}
use Rattle.run_ends.specs.declared.ending.End.TheVariants.{UnknownSeries}
use Rattle.store_commands.specs.Exporting.{ExportsStore, export_end}
use Rattle.store_commands.specs.Faulting.{counts_told}
use Rattle.store_commands.proofs.FaultLemmas.{send_fault_is}
use Rattle.store_commands.proofs.Damages.{lacks_record}
use Rattle.store_commands.proofs.Held.{rests_new}
use Rattle.store_commands.proofs.ExportEnds.{series_sent, none_found}
use Rattle.store_commands.proofs.export.export_opened.Goals as goal

pub returns-in_default-clause-exports : goal.returns-in_default-clause-exports
returns-in_default-clause-exports g c =
    let view = g.W.Disk.view in
    let sent = g.W.Streams.sent in
    let sends = g.W.Streams.send_faults in
    let name = c.args.name.now in
    let window = c.args.window in
    let pages = shown.pages c.args.store in
    let disk = pages.disk in
    let D : g.row.W.Denot → Type 0 = λ d. ExportsStore name window pages.count (view disk) (view d) (sent disk) (sent d) (sends disk)
    (sends d) UnknownSeries in
    subst D (sym c.disk_of.ensures.disk)
    (none_found name window pages.count (view disk) (sent disk) (sends disk) (omega (arith, pages.few))
    (rests_new pages.count (view disk) (shown.numbers c.args.store) (pages.at_rest c.requires) (c.args.store.space.spelled c.requires))
    (lacks_record pages.count (view disk) (shown.numbers c.args.store) name
    (rests_new pages.count (view disk) (shown.numbers c.args.store) (pages.at_rest c.requires) (c.args.store.space.spelled c.requires))
    (λ honest. record { spelled = c.args.store.space.spelled c.requires honest; rules = c.args.store.space.rules })
    (λ honest. no_record (pages_of pages.count (view disk).image) (shown.numbers c.args.store)
    (shown.catalog c.args.store) name c.args.store.count (c.args.store.told c.requires honest) c.in_default.ensures.named))
    (λ total book honest stands. c.in_default.ensures.info total book c.requires honest stands))

pub returns-clause-exports : goal.returns-clause-exports
returns-clause-exports g c =
    let view = g.W.Disk.view in
    let sent = g.W.Streams.sent in
    let sends = g.W.Streams.send_faults in
    let name = c.args.name.now in
    let window = c.args.window in
    let before = c.args.store in
    let after = c.export_series-answer.new.store in
    let pages = shown.pages before in
    let end_pages = shown.pages after in
    let disk = pages.disk in
    let new = end_pages.disk in
    let answer = c.export_series-answer.result in
    let e = c.export_series-answer.ensures in
    let w = g.met.W.World in
    let P : g.row.W.Denot → Type 0 = λ d. IsClosed (view d) in
    let closed = subst P c.disk_of-2.ensures.disk (c.disk_of-2.ensures.rests (e.sends.fit c.requires)) in
    let D : g.row.W.Denot → Type 0 = λ d. ExportsStore name window pages.count (view disk) (view d) (sent disk) (sent d) (sends disk)
    (sends d) c.export_end.result in
    let E : End → Type 0 = λ s. ExportsStore name window pages.count (view disk) (view new) (sent disk) (sent new) (sends disk)
    (sends new) s in
    subst D (sym c.disk_of-2.ensures.disk)
    (subst E (sym c.export_end.ensures)
    (series_sent name window pages.count end_pages.count pages.sound end_pages.sound (view disk) (view new) (shown.numbers before)
    (shown.numbers after) e.sends (rests_new pages.count (view disk) (shown.numbers before) (pages.at_rest c.requires)
    (before.space.spelled c.requires)) closed c.in-Some.info.id
    (λ total book honest stands. (c.in-Some.ensures.info total book c.requires honest stands).0)
    (sent disk) (sent new) (sends disk) (sends new) answer (w.beside_send_faults disk) (w.beside_send_faults new)
    (omega (arith, c.in-Some.ensures.there, before.count)) before.space.rules.total_high (omega (arith, pages.few))
    (λ honest. record { spelled = before.space.spelled c.requires honest; rules = before.space.rules })
    (λ honest. named_record (pages_of pages.count (view disk).image) (shown.catalog before) name c.in-Some.info.id c.in-Some.ensures.there
    (before.told c.requires honest) c.in-Some.ensures.named)
    (λ total book series honest stands there. kept_at before total book c.in-Some.info.id series c.requires honest stands there)
    (λ series honest kept. e.salvaged series honest kept)
    (λ series honest kept. e.salvaged_part series honest kept)
    (λ series honest kept. e.cut series honest kept)
    (λ series honest kept. e.sound series honest kept)
    e.cause
    (λ series honest kept. e.salvaged_reads series honest kept)))

pub returns-in_default-clause-untaken : goal.returns-in_default-clause-untaken
returns-in_default-clause-untaken g c = ap g.W.Streams.left c.disk_of.ensures.disk

pub returns-clause-untaken : goal.returns-clause-untaken
returns-clause-untaken g c =
    let disk = (shown.pages c.args.store).disk in
    let new = (shown.pages c.export_series-answer.new.store).disk in
    let w = g.met.W.World in
    ap g.W.Streams.left c.disk_of-2.ensures.disk ∙ sym (w.beside_left new) ∙ c.export_series-answer.ensures.sends.left ∙ w.beside_left disk

pub returns-in_default-clause-faults : goal.returns-in_default-clause-faults
returns-in_default-clause-faults g c =
    let view = g.W.Disk.view in
    let old = view (shown.pages c.args.store).disk in
    let D : g.row.W.Denot → Type 0 = λ d. CountsFault (end_fault UnknownSeries) old (view d) in
    subst D (sym c.disk_of.ensures.disk) (counts_none old old refl refl refl)

pub returns-clause-faults : goal.returns-clause-faults
returns-clause-faults g c =
    let view = g.W.Disk.view in
    let old = view (shown.pages c.args.store).disk in
    let new = (shown.pages c.export_series-answer.new.store).disk in
    let answer = c.export_series-answer.result in
    let D : g.row.W.Denot → Type 0 = λ d. CountsFault (end_fault c.export_end.result) old (view d) in
    let E : End → Type 0 = λ e. CountsFault (end_fault e) old (view new) in
    subst D (sym c.disk_of-2.ensures.disk)
    (subst E (sym c.export_end.ensures)
    (counts_told (fault_in send_fault answer) (end_fault (export_end answer)) old (view new)
    (send_fault_is answer) c.export_series-answer.ensures.faults))
