use Rattle.std.proofs.Common.{◌≡◌, Result, Err, sym, subst, ◌∙◌}
use Rattle.std.specs.Prelude.{IsTrue}
use Rattle.chart_world.specs.Faults.{CountsFault, fault_in}
use Rattle.gate_pages.specs.GatePages.{IsClosed}
use Rattle.chart_service.specs.declared.failure.ServeEnd.TheVariants.{DiskFault}
use Rattle.chart_service.specs.Faulting.{serve_fault}
use Rattle.chart_service.specs.Shown as shown
use Rattle.store_commands.specs.Faulting.{counts_told}
use Rattle.chart_program.specs.Faulting.{run_fault}
use Rattle.chart_program.specs.declared.run_end.RunEnd.{RunEnd}
use Rattle.chart_program.proofs.Faults.{told_served}
use Rattle.chart_program.specs.Served.{Spelled, faults_of, ServesLines, served}
use Rattle.chart_program.proofs.Counts.{reads_served, syncs_served}
use Rattle.chart_program.proofs.LinesServed.{serve_made, serve_causes, same_answer}
use Rattle.store_commands.specs.TrafficLaws.{read_on}
use Rattle.store_commands.proofs.Held.{rests_new}
use Rattle.store_commands.proofs.Stores.{store_disk, store_sound}
use Rattle.chart_program.specs.LineAnswers.{AnswersTold, AreSpellings}
use Rattle.chart_program.proofs.LineAnswers.{each_spelled, told_again}
use Rattle.std.proofs.Common.{IfErr}
use Rattle.chart_program.specs.Blamed.{RunBlames}
use Rattle.chart_program.proofs.Blamed.{spelled_blames}
use Rattle.chart_program.proofs.lines.serve_service.Goals as goal

pub returns-clause-serves : goal.returns-clause-serves
returns-clause-serves g c =
    let view = g.W.Disk.view in
    let left = g.W.Streams.left in
    let sent = g.W.Streams.sent in
    let reads = g.W.Streams.read_faults in
    let sends = g.W.Streams.send_faults in
    let pieces = g.W.Streams.pieces in
    let pages = shown.pages c.args.service in
    let after = c.serve-answer.new.service in
    let end_pages = shown.pages after in
    let store = c.into_store.result in
    let disk = pages.disk in
    let new = end_pages.disk in
    let own = c.args.service.sessions in
    let made = c.serve-answer.ensures in
    let faults = faults_of (reads disk) (reads new) (sends disk) (sends new) in
    let same_disk = c.disk_of.ensures.disk ∙ store_disk store after.store c.into_store.ensures in
    let closed : (c.serve-answer.result ≡ Err DiskFault → ⊥) → IsClosed (view new) =
    λ other.
    let P : g.row.W.Denot → Type 0 = λ d. IsClosed (view d) in
    subst P same_disk (c.disk_of.ensures.rests (subst IsTrue (sym (store_sound store after.store c.into_store.ensures)) (made.sound other)))
    in
    let rests = rests_new pages.count (view disk) (shown.numbers c.args.service) (pages.at_rest c.requires.sound)
    (c.args.service.store.space.spelled c.requires.sound) in
    let all = serve_made pages.count end_pages.count pages.sound end_pages.sound (view disk) (view new) (left disk) (left new) (sent disk)
    (sent new) faults after.sessions made.serves.size made.serves.told made.goes_on made.serves.faults rests
    c.serve-answer.result own c.requires.alone made.done
    (read_on c.serve-answer.result (left disk) (left new) made.within made.whole) made.long made.ends made.crash closed
    (serve_causes pages.count end_pages.count (view disk) (view new) (sent disk)
    (sent new) faults ⊥ c.serve-answer.result made.serves.size made.read made.send made.disk made.bad)
    (reads_served (left disk) pages.count (view disk) (view new) own rests c.requires.alone made.reads)
    (syncs_served (left disk) pages.count (view disk) (view new) (pieces disk) (pieces new) rests (g.met.W.World.beside_pieces disk)
    (g.met.W.World.beside_pieces new) made.syncs) in
    let D : g.row.W.Denot → Type 0 = λ d. ServesLines Spelled ⊥ pages.count (view disk) (view d) (left disk) (left d) (sent disk) (sent d)
    (faults_of (reads disk) (reads d) (sends disk) (sends d)) (served c.serve-answer.result) in
    same_answer Spelled ⊥ pages.count (view disk) (view c.disk_of.result) (left disk) (left c.disk_of.result) (sent disk)
    (sent c.disk_of.result) (faults_of (reads disk) (reads c.disk_of.result) (sends disk) (sends c.disk_of.result))
    (served c.serve-answer.result) c.of_serving.result c.of_serving.ensures (subst D (sym same_disk) all)

pub returns-clause-faults : goal.returns-clause-faults
returns-clause-faults g c =
    let view = g.W.Disk.view in
    let after = c.serve-answer.new.service in
    let disk = view (shown.pages c.args.service).disk in
    let answer = c.serve-answer.result in
    let same_disk = c.disk_of.ensures.disk ∙ store_disk c.into_store.result after.store c.into_store.ensures in
    let D : g.row.W.Denot → Type 0 = λ d. CountsFault (fault_in run_fault (served answer)) disk (view d) in
    let A : Result (Unit {0}) RunEnd → Type 0 = λ r. CountsFault (fault_in run_fault r) disk (view c.disk_of.result) in
    subst A (sym c.of_serving.ensures)
    (subst D (sym same_disk) (counts_told (fault_in serve_fault answer) (fault_in run_fault (served answer)) disk
    (view (shown.pages after).disk) (told_served answer) c.serve-answer.ensures.faults))

pub returns-clause-answers : goal.returns-clause-answers
returns-clause-answers g c =
    let sent = g.W.Streams.sent in
    let disk = (shown.pages c.args.service).disk in
    let left = g.W.Streams.left disk in
    let after = c.serve-answer.new.service in
    let answer = c.serve-answer.result in
    let same_disk = c.disk_of.ensures.disk ∙ store_disk c.into_store.result after.store c.into_store.ensures in
    let D : g.row.W.Denot → Type 0 = λ d. AnswersTold AreSpellings left (sent disk) (sent d) (served answer) in
    told_again AreSpellings left (sent disk) (sent c.disk_of.result) (served answer) c.of_serving.result c.of_serving.ensures
    (subst D (sym same_disk)
    (each_spelled c.args.service.sessions left (sent disk)
    (sent (shown.pages after).disk) answer c.requires.alone c.serve-answer.ensures.answers))

pub returns-clause-blames : goal.returns-clause-blames
returns-clause-blames g c =
    let view = g.W.Disk.view in
    let sent = g.W.Streams.sent in
    let pages = shown.pages c.args.service in
    let disk = pages.disk in
    let left = g.W.Streams.left disk in
    let after = c.serve-answer.new.service in
    let end_pages = shown.pages after in
    let answer = c.serve-answer.result in
    let made = c.serve-answer.ensures in
    let same_disk = c.disk_of.ensures.disk ∙ store_disk c.into_store.result after.store c.into_store.ensures in
    let D : g.row.W.Denot → Type 0 = λ d. IfErr (served answer) (RunBlames AreSpellings pages.count (view d) left (sent disk) (sent d)) in
    let A : Result (Unit {0}) RunEnd → Type 0 = λ r. IfErr r
    (RunBlames AreSpellings pages.count (view c.disk_of.result) left (sent disk) (sent c.disk_of.result)) in
    subst A (sym c.of_serving.ensures)
    (subst D (sym same_disk)
    (spelled_blames c.args.service.sessions (sent disk) (sent end_pages.disk) pages.count end_pages.count
    (view end_pages.disk) c.requires.alone made.serves.size left answer made.blames))
