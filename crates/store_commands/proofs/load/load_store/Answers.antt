use Rattle.std.proofs.Common.{◌≢◌, Err, sym, ap, subst, arith}
use Rattle.chart_world.specs.Faults.{CountsFault, fault_in}
use Rattle.gate_pages.specs.GatePages.{IsClosed, pages_view}
use Rattle.gate_pages.specs.Journal.{pages_of}
use Rattle.run_ends.specs.Faults.{end_fault}
use Rattle.run_ends.specs.declared.ending.End.TheVariants.{DiskFault}
use Rattle.series_load.specs.Ends.{CostsFirst}
use Rattle.series_store.proofs.NameLemmas.{no_record}
use Rattle.series_store.specs.Shown as shown
use Rattle.store_commands.specs.Loaded.{OfSeries}
use Rattle.store_commands.specs.Storing.{Stores}
use Rattle.store_commands.specs.Traffic.{traffic}
use Rattle.store_commands.specs.TrafficLaws.{read_on}
use Rattle.store_commands.proofs.Damages.{lacks_record, line_by, read_by}
use Rattle.store_commands.proofs.Held.{rests_new}
use Rattle.store_commands.proofs.Stores.{store_disk}
use Rattle.store_commands.proofs.LoadStored.{costs_by, sound_after, stores_by}
use Rattle.store_commands.proofs.load.load_store.Goals as goal

pub returns-clause-stores : goal.returns-clause-stores
returns-clause-stores g c =
    let view = g.W.Disk.view in
    let left = g.W.Streams.left in
    let sent = g.W.Streams.sent in
    let reads = g.W.Streams.read_faults in
    let sends = g.W.Streams.send_faults in
    let before = c.args.store in
    let after = c.load-answer.new.store in
    let pages = shown.pages before in
    let end_pages = shown.pages after in
    let disk = pages.disk in
    let new = end_pages.disk in
    let answer = c.load-answer.result in
    let made = c.load-answer.ensures in
    let name = c.args.name.now in
    let closed : answer ≢ Err DiskFault → IsClosed (view new) =
    λ other.
    let P : g.row.W.Denot → Type 0 = λ d. IsClosed (view d) in
    subst P c.disk_of.ensures.disk (c.disk_of.ensures.rests
    (sound_after answer (pages_view end_pages.count end_pages.sound (view new)) made.sound made.sound_for other)) in
    let all = stores_by name pages.count end_pages.count pages.sound end_pages.sound (view disk) (view new)
    (traffic left sent reads sends disk new) made.goes.size made.goes.is_told made.goes.goes_on
    (rests_new pages.count (view disk) (shown.numbers before) (pages.at_rest c.requires) (before.space.spelled c.requires)) answer
    (shown.total before)
    made.outcome made.unknown
    (λ is. lacks_record pages.count (view disk) (shown.numbers before) name
    (rests_new pages.count (view disk) (shown.numbers before) (pages.at_rest c.requires) (before.space.spelled c.requires))
    (λ honest. record { spelled = before.space.spelled c.requires honest; rules = before.space.rules })
    (λ honest. no_record (pages_of pages.count (view disk).image) (shown.numbers before) (shown.catalog before) name before.count
    (before.told c.requires honest) (made.lacks is)))
    (line_by pages.count (view disk) (shown.numbers before) (shown.catalog before) name
    (rests_new pages.count (view disk) (shown.numbers before) (pages.at_rest c.requires) (before.space.spelled c.requires))
    (λ honest. record { spelled = before.space.spelled c.requires honest; rules = before.space.rules }) before.count
    (before.told c.requires) (left disk) answer made.line)
    (read_by pages.count (view disk) (shown.numbers before) (shown.catalog before) name
    (rests_new pages.count (view disk) (shown.numbers before) (pages.at_rest c.requires) (before.space.spelled c.requires))
    (λ honest. record { spelled = before.space.spelled c.requires honest; rules = before.space.rules }) before.count
    (before.told c.requires) (left disk) answer made.read)
    (read_on answer (left disk) (left new) made.within made.whole) made.long
    (omega (arith, before.space.rules.total_high, made.goes.size)) made.cause closed
    (λ is. let same = store_disk after before (made.untouched is) in
    (ap view same, ap left same)) made.goes.sent_is made.goes.sends made.goes.faults in
    let D : g.row.W.Denot → Type 0 = λ d. Stores name pages.count (view disk) (view d) (traffic left sent reads sends disk d) answer in
    subst D (sym c.disk_of.ensures.disk) all

pub returns-clause-costs : goal.returns-clause-costs
returns-clause-costs g c =
    let view = g.W.Disk.view in
    let left = g.W.Streams.left in
    let before = c.args.store in
    let pages = shown.pages before in
    let end_pages = shown.pages c.load-answer.new.store in
    let disk = pages.disk in
    let new = end_pages.disk in
    let made = c.load-answer.ensures in
    let name = c.args.name.now in
    let all = costs_by name pages.count end_pages.count pages.sound end_pages.sound (view disk) (view new)
    (traffic left g.W.Streams.sent g.W.Streams.read_faults g.W.Streams.send_faults disk new) made.goes.size made.goes.is_told
    made.goes.goes_on
    (rests_new pages.count (view disk) (shown.numbers before) (pages.at_rest c.requires) (before.space.spelled c.requires))
    c.load-answer.result made.outcome in
    let D : g.row.W.Denot → Type 0 = λ d. OfSeries pages.count (view disk) name
    (λ total book series. CostsFirst series (left disk) (view disk) (view d)) in
    subst D (sym c.disk_of.ensures.disk) all

pub returns-clause-faults : goal.returns-clause-faults
returns-clause-faults g c =
    let view = g.W.Disk.view in
    let answer = c.load-answer.result in
    let D : g.row.W.Denot → Type 0 = λ d. CountsFault (fault_in end_fault answer) (view (shown.pages c.args.store).disk) (view d) in
    subst D (sym c.disk_of.ensures.disk) c.load-answer.ensures.faults
