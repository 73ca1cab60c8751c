use Rattle.std.proofs.Common.{◌≡◌, None, Err, refl, sym, subst, ◌∙◌}
use Rattle.std.specs.Prelude.{IsTrue}
use Rattle.chart_world.specs.Faults.{CountsFault, fault_in}
use Rattle.chart_world.specs.FaultLaws.{counts_none}
use Rattle.gate_pages.specs.GatePages.{IsClosed}
use Rattle.chart_service.specs.declared.failure.ServeEnd.TheVariants.{DiskFault, NoMemory}
use Rattle.chart_service.specs.Shown as shown
use Rattle.chart_program.specs.Faulting.{run_fault}
use Rattle.chart_program.specs.declared.run_end.RunEnd.TheVariants.{Serve}
use Rattle.chart_program.specs.Served.{AreTexts, faults_of, ServesLines}
use Rattle.chart_program.proofs.Counts.{reads_served, syncs_served}
use Rattle.chart_program.proofs.LinesServed.{run_made, run_causes, made_none}
use Rattle.chart_client.specs.Showing.{ScreenGives}
use Rattle.chart_program.proofs.ShownFrames.{stopped_shown}
use Rattle.chart_program.proofs.Telling.{texts_none}
use Rattle.chart_program.proofs.Knowing.{holds_of, screen_follows, known_first}
use Rattle.store_commands.specs.TrafficLaws.{read_on}
use Rattle.store_commands.proofs.Held.{rests_new}
use Rattle.store_commands.proofs.Stores.{store_disk, store_sound}
use Rattle.chart_program.specs.LineAnswers.{AnswersTold, AreDrawnTexts}
use Rattle.chart_program.proofs.LineAnswers.{each_drawn}
use Rattle.std.proofs.Common.{IfErr}
use Rattle.chart_program.specs.Blamed.{RunBlames}
use Rattle.chart_program.proofs.Blamed.{drawn_blames}
use Rattle.chart_program.proofs.lines.run_service.Goals as goal

pub returns-in-Ok-clause-serves : goal.returns-in-Ok-clause-serves
returns-in-Ok-clause-serves g c =
    let view = g.W.Disk.view in
    let left = g.W.Streams.left in
    let sent = g.W.Streams.sent in
    let reads = g.W.Streams.read_faults in
    let sends = g.W.Streams.send_faults in
    let pieces = g.W.Streams.pieces in
    let pages = shown.pages c.args.service in
    let after = c.run_on-answer.new.service in
    let end_pages = shown.pages after in
    let store = c.into_store.result in
    let disk = pages.disk in
    let new = end_pages.disk in
    let own = c.args.service.sessions in
    let made = c.run_on-answer.ensures in
    let faults = faults_of (reads disk) (reads new) (sends disk) (sends new) in
    let same_disk = c.disk_of.ensures.disk ∙ store_disk store after.store c.into_store.ensures in
    let closed : (c.run_on-answer.result ≡ Err (Serve DiskFault) → ⊥) → IsClosed (view new) =
    λ other.
    let P : g.row.W.Denot → Type 0 = λ d. IsClosed (view d) in
    subst P same_disk (c.disk_of.ensures.rests (subst IsTrue (sym (store_sound store after.store c.into_store.ensures)) (made.sound other)))
    in
    let law = c.frames_have_one_answer.ensures in
    let change = c.frames_change_one_session.ensures in
    let rests = rests_new pages.count (view disk) (shown.numbers c.args.service) (pages.at_rest c.requires.sound)
    (c.args.service.store.space.spelled c.requires.sound) in
    let all = run_made pages.count end_pages.count pages.sound end_pages.sound (view disk) (view new) (left disk) (left new) (sent disk)
    (sent new) faults after.sessions made.serves.size made.serves.told made.goes_on made.serves.faults rests
    c.one_frame_a_spelling.ensures c.replies_draw_the_book.ensures c.clients_draw_the_book.ensures.accepts c.run_on-answer.result
    c.in-Ok.screen c.run_on-answer.new.show own c.in-Ok.ensures c.requires.alone
    (λ total book told stands. c.is_sound.ensures.state total book c.requires.sound told stands) made.done
    (read_on c.run_on-answer.result (left disk) (left new) made.within made.whole) made.long made.ends made.crash closed
    (run_causes c.one_frame_a_spelling.ensures law.numbered pages.count end_pages.count (view disk)
    (view new) faults c.in-Ok.screen c.run_on-answer.new.show own (sent disk)
    (sent new) c.run_on-answer.result c.in-Ok.ensures made.serves.size made.read made.send made.disk made.bad
    (stopped_shown ScreenGives c.in-Ok.screen c.run_on-answer.new.show own (sent disk) (sent new) c.run_on-answer.result made.named)
    (made.known holds_of (screen_follows change.others change.opened change.viewed c.one_frame_a_spelling.ensures)
    (known_first c.in-Ok.screen own c.requires.alone)))
    (reads_served (left disk) pages.count (view disk) (view new) own rests c.requires.alone made.reads)
    (syncs_served (left disk) pages.count (view disk) (view new) (pieces disk) (pieces new) rests (g.met.W.World.beside_pieces disk)
    (g.met.W.World.beside_pieces new) made.syncs) in
    let D : g.row.W.Denot → Type 0 = λ d. ServesLines AreTexts (Unit {0}) pages.count (view disk) (view d) (left disk) (left d) (sent disk)
    (sent d) (faults_of (reads disk) (reads d) (sends disk) (sends d)) c.run_on-answer.result in
    subst D (sym same_disk) all

pub returns-in-Err-clause-serves : goal.returns-in-Err-clause-serves
returns-in-Err-clause-serves g c =
    let view = g.W.Disk.view in
    let left = g.W.Streams.left in
    let sent = g.W.Streams.sent in
    let reads = g.W.Streams.read_faults in
    let sends = g.W.Streams.send_faults in
    let pages = shown.pages c.args.service in
    let disk = pages.disk in
    let D : g.row.W.Denot → Type 0 = λ d. ServesLines AreTexts (Unit {0}) pages.count (view disk) (view d) (left disk) (left d) (sent disk)
    (sent d) (faults_of (reads disk) (reads d) (sends disk) (sends d)) (Err (Serve NoMemory)) in
    subst D (sym (c.disk_of-in-Err.ensures.disk ∙ store_disk c.into_store-in-Err.result c.args.service.store c.into_store-in-Err.ensures))
    (made_none AreTexts (Unit {0}) pages.count (view disk) (left disk) (sent disk)
    (faults_of (reads disk) (reads disk) (sends disk) (sends disk)) texts_none)

pub returns-in-Ok-clause-faults : goal.returns-in-Ok-clause-faults
returns-in-Ok-clause-faults g c =
    let view = g.W.Disk.view in
    let after = c.run_on-answer.new.service in
    let same_disk = c.disk_of.ensures.disk ∙ store_disk c.into_store.result after.store c.into_store.ensures in
    let D : g.row.W.Denot → Type 0 = λ d. CountsFault (fault_in run_fault c.run_on-answer.result) (view (shown.pages c.args.service).disk)
    (view d) in
    subst D (sym same_disk) c.run_on-answer.ensures.faults

pub returns-in-Err-clause-faults : goal.returns-in-Err-clause-faults
returns-in-Err-clause-faults g c =
    let view = g.W.Disk.view in
    let disk = (shown.pages c.args.service).disk in
    let D : g.row.W.Denot → Type 0 = λ d. CountsFault None (view disk) (view d) in
    subst D (sym (c.disk_of-in-Err.ensures.disk ∙ store_disk c.into_store-in-Err.result c.args.service.store c.into_store-in-Err.ensures))
    (counts_none (view disk) (view disk) refl refl refl)

pub returns-in-Ok-clause-answers : goal.returns-in-Ok-clause-answers
returns-in-Ok-clause-answers g c =
    let sent = g.W.Streams.sent in
    let disk = (shown.pages c.args.service).disk in
    let left = g.W.Streams.left disk in
    let after = c.run_on-answer.new.service in
    let answer = c.run_on-answer.result in
    let same_disk = c.disk_of.ensures.disk ∙ store_disk c.into_store.result after.store c.into_store.ensures in
    let D : g.row.W.Denot → Type 0 = λ d. AnswersTold AreDrawnTexts left (sent disk) (sent d) answer in
    subst D (sym same_disk)
    (each_drawn c.one_frame_a_spelling.ensures c.in-Ok.screen c.run_on-answer.new.show c.args.service.sessions left (sent disk)
    (sent (shown.pages after).disk) answer c.in-Ok.ensures c.requires.alone c.run_on-answer.ensures.answers)

pub returns-in-Ok-clause-blames : goal.returns-in-Ok-clause-blames
returns-in-Ok-clause-blames g c =
    let view = g.W.Disk.view in
    let sent = g.W.Streams.sent in
    let pages = shown.pages c.args.service in
    let disk = pages.disk in
    let left = g.W.Streams.left disk in
    let after = c.run_on-answer.new.service in
    let end_pages = shown.pages after in
    let answer = c.run_on-answer.result in
    let made = c.run_on-answer.ensures in
    let same_disk = c.disk_of.ensures.disk ∙ store_disk c.into_store.result after.store c.into_store.ensures in
    let D : g.row.W.Denot → Type 0 = λ d. IfErr answer (RunBlames AreDrawnTexts pages.count (view d) left (sent disk) (sent d)) in
    subst D (sym same_disk)
    (drawn_blames c.args.service.sessions (sent disk) (sent end_pages.disk) pages.count end_pages.count
    (view end_pages.disk) c.requires.alone made.serves.size
    c.one_frame_a_spelling.ensures c.in-Ok.screen c.run_on-answer.new.show c.in-Ok.ensures left answer made.blames)
