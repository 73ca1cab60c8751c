use Rattle.std.proofs.Common.{Result, sym, ap, ◌∙◌, subst}
use Rattle.block_disk.specs.View.{Beside}
use Rattle.chart_world.specs.Faults.{CountsFault, fault_in}
use Rattle.chart_world.specs.FaultLaws.{counts_no_disk, counts_then}
use Rattle.series_store.specs.Shown as stored
use Rattle.store_commands.specs.Faulting.{counts_told, counts_unopened}
use Rattle.store_commands.specs.Status.{code_fault}
use Rattle.chart_program.specs.Ended.{status_by}
use Rattle.chart_program.specs.Faulting.{run_fault}
use Rattle.chart_program.specs.declared.lines_end.LinesEnd.{LinesEnd}
use Rattle.chart_program.proofs.Faults.{told_in_world}
use Rattle.chart_program.specs.Served.{AreTexts, faults_of, in_world}
use Rattle.chart_program.proofs.Telling.{texts_none}
use Rattle.chart_program.proofs.World.{serves_opened, serves_not, same_faults}
use Rattle.store_commands.specs.Traffic.{traffic}
use Rattle.chart_program.proofs.FirstOpened.{first_so}
use Rattle.chart_program.specs.LineAnswers.{AreDrawnTexts}
use Rattle.chart_program.proofs.LineAnswers.{told_opened}
use Rattle.chart_program.proofs.Blamed.{opened_blames}
use Rattle.chart_program.proofs.lines.run_world.Goals as goal

pub returns-in-Ok-clause-serves : goal.returns-in-Ok-clause-serves
returns-in-Ok-clause-serves g c =
    let view = g.W.Disk.view in
    let left = g.W.Streams.left in
    let sent = g.W.Streams.sent in
    let reads = g.W.Streams.read_faults in
    let sends = g.W.Streams.send_faults in
    let old = c.args.world in
    let mid = (stored.pages c.in-Ok.store).disk in
    let new = c.run_lines-answer.result.1 in
    let beside = c.in-Ok.ensures.opens.beside_is in
    let w = g.met.W.World in
    serves_opened AreTexts (Unit {0}) (stored.pages c.in-Ok.store).count (view old) (view mid) (view new) (left mid) (left old) (left new)
    (sent mid) (sent old) (sent new)
    (faults_of (reads mid) (reads new) (sends mid) (sends new))
    (faults_of (reads old) (reads new) (sends old) (sends new)) c.run_lines-answer.result.0 c.of_answering.result texts_none
    c.in-Ok.ensures.opens c.in-Ok.ensures.quiet c.in-Ok.ensures.count
    (sym (w.beside_left mid) ∙ ap (λ (b : Beside). b.left) beside ∙ w.beside_left old)
    (sym (w.beside_sent mid) ∙ ap (λ (b : Beside). b.sent) beside ∙ w.beside_sent old)
    (same_faults (reads mid) (reads old) (reads new) (sends mid) (sends old) (sends new)
    (sym (w.beside_read_faults mid) ∙ ap (λ (b : Beside). b.read_faults) beside ∙ w.beside_read_faults old)
    (sym (w.beside_send_faults mid) ∙ ap (λ (b : Beside). b.send_faults) beside ∙ w.beside_send_faults old))
    c.of_answering.ensures c.run_lines-answer.ensures.serves

pub returns-in-Err-clause-serves : goal.returns-in-Err-clause-serves
returns-in-Err-clause-serves g c =
    let view = g.W.Disk.view in
    let left = g.W.Streams.left in
    let sent = g.W.Streams.sent in
    let reads = g.W.Streams.read_faults in
    let sends = g.W.Streams.send_faults in
    let old = c.args.world in
    let new = c.in-Err.field-0.value in
    let beside = c.in-Err.ensures.opens.beside_is in
    let w = g.met.W.World in
    serves_not AreTexts (Unit {0}) (view old) (view new) (left old) (left new) (sent old) (sent new)
    (faults_of (reads old) (reads new) (sends old) (sends new)) c.in-Err.field-0.cause texts_none c.in-Err.ensures.opens
    c.in-Err.ensures.cause c.in-Err.ensures.a_store
    (sym (w.beside_sent new) ∙ ap (λ (b : Beside). b.sent) beside ∙ w.beside_sent old)

pub returns-in-Ok-clause-first : goal.returns-in-Ok-clause-first
returns-in-Ok-clause-first g c =
    let old = c.args.world in
    let new = c.run_lines-answer.result.1 in
    first_so (g.W.Disk.view old) (traffic g.W.Streams.left g.W.Streams.sent g.W.Streams.read_faults g.W.Streams.send_faults old new)
    c.run_lines-answer.result.0 c.of_answering.result c.of_answering.ensures c.in-Ok.ensures.large

pub returns-in-Err-clause-first : goal.returns-in-Err-clause-first
returns-in-Err-clause-first g c =
    let old = c.args.world in
    let new = c.in-Err.field-0.value in
    let beside = c.in-Err.ensures.opens.beside_is in
    let w = g.met.W.World in
    record {
      place = c.in-Err.ensures.place;
      left_is = sym (w.beside_left new) ∙ ap (λ (b : Beside). b.left) beside ∙ w.beside_left old;
      sent_is = sym (w.beside_sent new) ∙ ap (λ (b : Beside). b.sent) beside ∙ w.beside_sent old;
    }

pub returns-in-Ok-clause-faults : goal.returns-in-Ok-clause-faults
returns-in-Ok-clause-faults g c =
    let view = g.W.Disk.view in
    let old = view c.args.world in
    let mid = view (stored.pages c.in-Ok.store).disk in
    let new = view c.run_lines-answer.result.1 in
    let answer = c.run_lines-answer.result.0 in
    let e = c.in-Ok.ensures in
    let P : Result (Unit {0}) LinesEnd → Type 0 = λ r. CountsFault (code_fault (status_by r).code) old new in
    subst P (sym c.of_answering.ensures)
    (counts_told (fault_in run_fault answer) (code_fault (status_by (in_world answer)).code) old new (told_in_world answer)
    (counts_then (fault_in run_fault answer) old mid new
    (counts_no_disk old mid e.opens.beside_is e.quiet) c.run_lines-answer.ensures.faults))

pub returns-in-Err-clause-faults : goal.returns-in-Err-clause-faults
returns-in-Err-clause-faults g c =
    let view = g.W.Disk.view in
    let back = c.in-Err.field-0 in
    let e = c.in-Err.ensures in
    counts_unopened back.cause (view c.args.world) (view back.value) e.opens.beside_is e.cause e.quiet_err

pub returns-in-Ok-clause-answers : goal.returns-in-Ok-clause-answers
returns-in-Ok-clause-answers g c =
    let left = g.W.Streams.left in
    let sent = g.W.Streams.sent in
    let old = c.args.world in
    let mid = (stored.pages c.in-Ok.store).disk in
    let new = c.run_lines-answer.result.1 in
    let beside = c.in-Ok.ensures.opens.beside_is in
    let w = g.met.W.World in
    told_opened AreDrawnTexts (left mid) (left old) (sent mid) (sent old) (sent new) c.run_lines-answer.result.0 c.of_answering.result
    (sym (w.beside_left mid) ∙ ap (λ (b : Beside). b.left) beside ∙ w.beside_left old)
    (sym (w.beside_sent mid) ∙ ap (λ (b : Beside). b.sent) beside ∙ w.beside_sent old)
    c.of_answering.ensures c.run_lines-answer.ensures.answers

pub returns-in-Ok-clause-blames : goal.returns-in-Ok-clause-blames
returns-in-Ok-clause-blames g c =
    let view = g.W.Disk.view in
    let left = g.W.Streams.left in
    let sent = g.W.Streams.sent in
    let old = c.args.world in
    let mid = (stored.pages c.in-Ok.store).disk in
    let new = c.run_lines-answer.result.1 in
    let beside = c.in-Ok.ensures.opens.beside_is in
    let w = g.met.W.World in
    opened_blames AreDrawnTexts (view old) (view new) (stored.pages c.in-Ok.store).count (left mid) (left old) (sent mid) (sent old)
    (sent new) c.run_lines-answer.result.0 c.of_answering.result
    c.in-Ok.ensures.count
    (sym (w.beside_left mid) ∙ ap (λ (b : Beside). b.left) beside ∙ w.beside_left old)
    (sym (w.beside_sent mid) ∙ ap (λ (b : Beside). b.sent) beside ∙ w.beside_sent old)
    c.of_answering.ensures c.run_lines-answer.ensures.blames
