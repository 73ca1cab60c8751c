use Rattle.std.proofs.Common.{None, Err, length, refl, sym, subst, ◌∙◌}
use Rattle.chart_world.specs.Faults.{CountsFault}
use Rattle.chart_world.specs.FaultLaws.{counts_none}
use Rattle.series_store.specs.Shown as shown
use Rattle.run_ends.specs.declared.ending.End.TheVariants.{NoMemory}
use Rattle.demo_workload.specs.Workload.{workload}
use Rattle.store_commands.proofs.Stores.{store_disk}
use Rattle.demo_workload.specs.Answered.{Answered}
use Rattle.demo_workload.specs.Ending.{CostsRequests}
use Rattle.demo_workload.proofs.DemoRequests.{answered_none}
use Rattle.demo_workload.proofs.Moved.{costs_none}
use Rattle.demo_workload.specs.Reading.{ReadsRequests}
use Rattle.series_store.specs.declared.store.Store.{Store}
use Rattle.demo_workload.proofs.DemoReads.{few_none}
use Rattle.demo_workload.proofs.demo.answer_store.Goals as goal

pub returns-in-Err-clause-answered : goal.returns-in-Err-clause-answered
returns-in-Err-clause-answered g c =
    let view = g.W.Disk.view in
    let store = c.args.store in
    let pages = shown.pages store in
    let back = c.in-Err.field-0.value in
    let requests = workload c.args.seed c.args.rounds in
    let D : g.row.W.Denot → Type 0 = λ d. Answered requests pages.count (view pages.disk) (view d) (Err NoMemory) in
    subst D (sym (c.disk_of.ensures.disk ∙ store_disk back store c.in-Err.ensures.back))
    (answered_none requests pages.count (view pages.disk))

pub returns-in-Err-clause-faults : goal.returns-in-Err-clause-faults
returns-in-Err-clause-faults g c =
    let view = g.W.Disk.view in
    let old = view (shown.pages c.args.store).disk in
    let D : g.row.W.Denot → Type 0 = λ d. CountsFault None old (view d) in
    subst D (sym (c.disk_of.ensures.disk ∙ store_disk c.in-Err.field-0.value c.args.store c.in-Err.ensures.back))
    (counts_none old old refl refl refl)

pub returns-in-Err-clause-costs : goal.returns-in-Err-clause-costs
returns-in-Err-clause-costs g c =
    let view = g.W.Disk.view in
    let old = view (shown.pages c.args.store).disk in
    let requests = length (workload c.args.seed c.args.rounds) in
    let D : g.row.W.Denot → Type 0 = λ d. CostsRequests requests old (view d) in
    subst D (sym (c.disk_of.ensures.disk ∙ store_disk c.in-Err.field-0.value c.args.store c.in-Err.ensures.back)) (costs_none requests old)

pub returns-in-Err-clause-reads : goal.returns-in-Err-clause-reads
returns-in-Err-clause-reads g c =
    let view = g.W.Disk.view in
    let pages = shown.pages c.args.store in
    let requests = workload c.args.seed c.args.rounds in
    let D : g.row.W.Denot → Type 0 = λ d. ReadsRequests requests pages.count (view pages.disk) (view d) in
    subst D (sym (c.disk_of.ensures.disk ∙ store_disk c.in-Err.field-0.value c.args.store c.in-Err.ensures.back))
    (few_none requests pages.count (view pages.disk))

pub returns-in-Ok-clause-reads : goal.returns-in-Ok-clause-reads
returns-in-Ok-clause-reads g c =
    let view = g.W.Disk.view in
    let requests = workload c.args.seed c.args.rounds in
    let S : Store _ _ → Type 0 = λ s. ReadsRequests requests (shown.pages s).count (view (shown.pages s).disk)
    (view c.answer_all.result.1) in
    subst S c.in-Ok.ensures.store c.answer_all.ensures.reads
