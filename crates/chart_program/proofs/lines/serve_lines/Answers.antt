use Rattle.std.proofs.Common.{ℕ, None, Err, refl, sym, subst, ◌∙◌}
use Rattle.std.specs.Prelude.{IsTrue}
use Rattle.chart_service.specs.declared.failure.ServeEnd.TheVariants.{NoMemory}
use Rattle.chart_world.specs.Faults.{CountsFault, fault_in}
use Rattle.chart_world.specs.FaultLaws.{counts_none}
use Rattle.series_store.specs.Shown as stored
use Rattle.chart_program.specs.Faulting.{run_fault}
use Rattle.chart_program.specs.declared.run_end.RunEnd.TheVariants.{Serve}
use Rattle.chart_program.specs.Served.{Spelled, faults_of, ServesLines}
use Rattle.chart_program.proofs.LinesServed.{made_none}
use Rattle.store_commands.proofs.Stores.{store_disk, store_count, store_sound}
use Rattle.chart_program.specs.LineAnswers.{AnswersTold, AreSpellings}
use Rattle.std.proofs.Common.{IfErr}
use Rattle.chart_program.specs.Blamed.{RunBlames}
use Rattle.chart_program.proofs.lines.serve_lines.Goals as goal

pub serve_service-requires-clause-sound : goal.serve_service-requires-clause-sound
serve_service-requires-clause-sound g c = subst IsTrue
    (sym (store_sound c.in-Ok.service.store c.args.store c.in-Ok.ensures.store)) c.requires

pub returns-in-Ok-clause-serves : goal.returns-in-Ok-clause-serves
returns-in-Ok-clause-serves g c =
    let view = g.W.Disk.view in
    let left = g.W.Streams.left in
    let sent = g.W.Streams.sent in
    let reads = g.W.Streams.read_faults in
    let sends = g.W.Streams.send_faults in
    let store = c.args.store in
    let made = c.in-Ok.service.store in
    let disk = (stored.pages store).disk in
    let new = c.serve_service.result.1 in
    let answer = c.serve_service.result.0 in
    let D : g.row.W.Denot → Type 0 = λ d. ServesLines Spelled ⊥ (stored.pages made).count (view d) (view new) (left d) (left new) (sent d)
    (sent new) (faults_of (reads d) (reads new) (sends d) (sends new)) answer in
    let C : ℕ → Type 0 = λ n. ServesLines Spelled ⊥ n (view disk) (view new) (left disk) (left new) (sent disk) (sent new)
    (faults_of (reads disk) (reads new) (sends disk) (sends new)) answer in
    subst C (store_count made store c.in-Ok.ensures.store)
    (subst D (store_disk made store c.in-Ok.ensures.store) c.serve_service.ensures.serves)

pub returns-in-Err-clause-serves : goal.returns-in-Err-clause-serves
returns-in-Err-clause-serves g c =
    let view = g.W.Disk.view in
    let left = g.W.Streams.left in
    let sent = g.W.Streams.sent in
    let reads = g.W.Streams.read_faults in
    let sends = g.W.Streams.send_faults in
    let store = c.args.store in
    let disk = (stored.pages store).disk in
    let back = c.in-Err.field-0.value in
    let D : g.row.W.Denot → Type 0 = λ d. ServesLines Spelled ⊥ (stored.pages store).count (view disk) (view d) (left disk) (left d)
    (sent disk) (sent d) (faults_of (reads disk) (reads d) (sends disk) (sends d)) (Err (Serve NoMemory)) in
    subst D (sym (c.disk_of.ensures.disk ∙ store_disk back store c.in-Err.ensures.back))
    (made_none Spelled ⊥ (stored.pages store).count (view disk) (left disk) (sent disk)
    (faults_of (reads disk) (reads disk) (sends disk) (sends disk)) (λ start. refl))

pub returns-in-Ok-clause-faults : goal.returns-in-Ok-clause-faults
returns-in-Ok-clause-faults g c =
    let view = g.W.Disk.view in
    let D : g.row.W.Denot → Type 0 = λ d. CountsFault (fault_in run_fault c.serve_service.result.0) (view d)
    (view c.serve_service.result.1) in
    subst D (store_disk c.in-Ok.service.store c.args.store c.in-Ok.ensures.store) c.serve_service.ensures.faults

pub returns-in-Err-clause-faults : goal.returns-in-Err-clause-faults
returns-in-Err-clause-faults g c =
    let view = g.W.Disk.view in
    let disk = (stored.pages c.args.store).disk in
    let D : g.row.W.Denot → Type 0 = λ d. CountsFault None (view disk) (view d) in
    subst D (sym (c.disk_of.ensures.disk ∙ store_disk c.in-Err.field-0.value c.args.store c.in-Err.ensures.back))
    (counts_none (view disk) (view disk) refl refl refl)

pub returns-in-Ok-clause-answers : goal.returns-in-Ok-clause-answers
returns-in-Ok-clause-answers g c =
    let s = g.W.Streams in
    let D : g.row.W.Denot → Type 0 = λ d. AnswersTold AreSpellings (s.left d) (s.sent d)
    (s.sent c.serve_service.result.1) c.serve_service.result.0 in
    subst D (store_disk c.in-Ok.service.store c.args.store c.in-Ok.ensures.store) c.serve_service.ensures.answers

pub returns-in-Ok-clause-blames : goal.returns-in-Ok-clause-blames
returns-in-Ok-clause-blames g c =
    let view = g.W.Disk.view in
    let s = g.W.Streams in
    let store = c.args.store in
    let made = c.in-Ok.service.store in
    let disk = (stored.pages store).disk in
    let new = c.serve_service.result.1 in
    let answer = c.serve_service.result.0 in
    let D : g.row.W.Denot → Type 0 = λ d. IfErr answer
    (RunBlames AreSpellings (stored.pages made).count (view new) (s.left d) (s.sent d) (s.sent new)) in
    let C : ℕ → Type 0 = λ n. IfErr answer (RunBlames AreSpellings n (view new) (s.left disk) (s.sent disk) (s.sent new)) in
    subst C (store_count made store c.in-Ok.ensures.store)
    (subst D (store_disk made store c.in-Ok.ensures.store) c.serve_service.ensures.blames)
