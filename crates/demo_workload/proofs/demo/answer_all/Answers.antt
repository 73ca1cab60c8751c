use Rattle.std.proofs.Common.{◌≢◌, ℕ, Err, length, sym, subst, ◌∙◌}
use Rattle.std.specs.Prelude.{IsTrue}
use Rattle.chart_world.specs.Faults.{CountsFault, fault_in}
use Rattle.gate_pages.specs.GatePages.{IsClosed}
use Rattle.chart_service.specs.Shown as shown
use Rattle.run_ends.specs.declared.ending.End.TheVariants.{DiskFault}
use Rattle.run_ends.specs.Faults.{end_fault}
use Rattle.demo_workload.specs.Workload.{workload}
use Rattle.store_commands.proofs.Stores.{store_disk, store_sound}
use Rattle.demo_workload.specs.Answered.{Answered}
use Rattle.demo_workload.specs.Ending.{CostsRequests}
use Rattle.store_commands.proofs.Held.{rests_new}
use Rattle.demo_workload.specs.Reading.{ReadsRequests}
use Rattle.demo_workload.proofs.DemoReads.{few_over}
use Rattle.demo_workload.proofs.DemoRequests.{answered_by}
use Rattle.demo_workload.proofs.demo.answer_all.Goals as goal

pub returns-clause-answered : goal.returns-clause-answered
returns-clause-answered g c =
    let view = g.W.Disk.view in
    let pages = shown.pages c.args.service in
    let after = c.run_workload-answer.new.service in
    let end_pages = shown.pages after in
    let answer = c.run_workload-answer.result in
    let store = c.into_store.result in
    let disk = pages.disk in
    let new = end_pages.disk in
    let made = c.run_workload-answer.ensures in
    let same_disk = c.disk_of.ensures.disk ∙ store_disk store after.store c.into_store.ensures in
    let closed : answer ≢ Err DiskFault → IsClosed (view new) =
    λ other.
    let P : g.row.W.Denot → Type 0 = λ d. IsClosed (view d) in
    subst P same_disk (c.disk_of.ensures.rests (subst IsTrue (sym (store_sound store after.store c.into_store.ensures)) (made.fit other)))
    in
    let R : ℕ → Type 0 = λ n. Answered (workload c.args.seed n) pages.count (view disk) (view new) answer in
    let D : g.row.W.Denot → Type 0 = λ d. Answered (workload c.args.seed c.args.rounds) pages.count (view disk) (view d) answer in
    subst D (sym same_disk) (subst R c.from.ensures
    (answered_by (workload c.args.seed c.from.result) pages.count end_pages.count pages.sound end_pages.sound (view disk)
    (view new) after.sessions
    made.runs.size made.runs.told made.runs.faults made.runs.beside made.goes_on
    (rests_new pages.count (view disk) (shown.numbers c.args.service) (pages.at_rest c.requires.sound)
    (c.args.service.store.space.spelled c.requires.sound)) answer
    made.done made.standing made.moments made.left made.cause closed))

pub returns-clause-faults : goal.returns-clause-faults
returns-clause-faults g c =
    let view = g.W.Disk.view in
    let after = c.run_workload-answer.new.service in
    let answer = c.run_workload-answer.result in
    let same_disk = c.disk_of.ensures.disk ∙ store_disk c.into_store.result after.store c.into_store.ensures in
    let D : g.row.W.Denot → Type 0 = λ d. CountsFault (fault_in end_fault answer) (view (shown.pages c.args.service).disk) (view d) in
    subst D (sym same_disk) c.run_workload-answer.ensures.faults

pub returns-clause-costs : goal.returns-clause-costs
returns-clause-costs g c =
    let view = g.W.Disk.view in
    let after = c.run_workload-answer.new.service in
    let same_disk = c.disk_of.ensures.disk ∙ store_disk c.into_store.result after.store c.into_store.ensures in
    let made = c.run_workload-answer.ensures.costs in
    let old = view (shown.pages c.args.service).disk in
    let R : ℕ → Type 0 = λ n. CostsRequests (length (workload c.args.seed n)) old (view (shown.pages after).disk) in
    let D : g.row.W.Denot → Type 0 = λ d. CostsRequests (length (workload c.args.seed c.args.rounds)) old (view d) in
    subst D (sym same_disk) (subst R c.from.ensures (record { syncs = made.syncs; writes = made.writes }))

pub returns-clause-reads : goal.returns-clause-reads
returns-clause-reads g c =
    let view = g.W.Disk.view in
    let pages = shown.pages c.args.service in
    let after = c.run_workload-answer.new.service in
    let same_disk = c.disk_of.ensures.disk ∙ store_disk c.into_store.result after.store c.into_store.ensures in
    let rests = rests_new pages.count (view pages.disk) (shown.numbers c.args.service) (pages.at_rest c.requires.sound)
    (c.args.service.store.space.spelled c.requires.sound) in
    let R : ℕ → Type 0 = λ n. ReadsRequests (workload c.args.seed n) pages.count (view pages.disk) (view (shown.pages after).disk) in
    let D : g.row.W.Denot → Type 0 = λ d. ReadsRequests (workload c.args.seed c.args.rounds) pages.count (view pages.disk) (view d) in
    subst D (sym same_disk) (subst R c.from.ensures
    (few_over (workload c.args.seed c.from.result) pages.count (view pages.disk)
    (view (shown.pages after).disk) rests c.run_workload-answer.ensures.reads))
