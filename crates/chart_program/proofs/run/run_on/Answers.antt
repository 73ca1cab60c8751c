use Rattle.std.proofs.Common.{Result, ◌≤◌, ◌^◌, IfErr, IfSome, OnOk, length, ap, sym, subst, ◌∙◌}
use Rattle.block_disk.specs.View.{sent_now}
use Rattle.chart_service.specs.Answering.{SendsAll}
use Rattle.chart_service.specs.Faulting.{answer_fault}
use Rattle.chart_service.specs.Shown as shown
use Rattle.chart_service.specs.declared.failure.ServeEnd.TheVariants.{ReadFault, SendFault, DiskFault, InputTooLong}
use Rattle.chart_service.proofs.Sending.{ok_so}
use Rattle.chart_world.specs.Faults.{CountsFault, fault_in}
use Rattle.chart_world.specs.Reading.{IsReadUp}
use Rattle.store_commands.specs.Faulting.{counts_told}
use Rattle.chart_program.specs.Faulting as faulting
use Rattle.chart_program.specs.declared.run_end.RunEnd.{RunEnd}
use Rattle.chart_program.proofs.Faults.{told_run}
use Rattle.chart_program.specs.Known.{EndsKnown, ShowsBy}
use Rattle.chart_program.specs.Runs.{AreShown, RunEndsBy, EndsAtBad, IsShown, run_answer}
use Rattle.chart_program.proofs.Running.{done_shown, ends_shown, lasts_shown, run_fault, run_bad, run_shown, run_known, run_ok, follows}
use Rattle.chart_program.proofs.Running.{all_follow, all_known}
use Rattle.chart_program.proofs.ShownFrames.{named_shown}
use Rattle.chart_program.proofs.LineAnswers.{each_shown}
use Rattle.chart_program.specs.LineAnswers.{ShowsEach}
use Rattle.chart_program.specs.Blamed.{ShowBlames}
use Rattle.chart_program.proofs.Blamed.{shown_blames}
use Rattle.chart_program.proofs.run.run_on.Goals as goal

pub returns-clause-done : goal.returns-clause-done
returns-clause-done g c = λ total book told stands.
    let old = c.args.service.now in
    let new = c.answer_lines-answer.new.service in
    let pages = shown.pages old in
    let after = shown.pages new in
    let gives = g.V.Show.gives in
    let answer = c.answer_lines-answer.result in
    let X = SendsAll g.P.Streams.left g.P.Streams.sent (AreShown gives c.args.show.now c.answer_lines-answer.new.kept) total book old new in
    subst (λ r. OnOk r X) (sym c.of_answers.ensures) (run_ok answer X
    (ok_so answer _ X (done_shown gives c.args.show.now c.answer_lines-answer.new.kept (g.P.Streams.left pages) total
    (shown.state old total book) (shown.image new) new.sessions (g.P.Streams.sent pages) (g.P.Streams.sent after))
    (c.answer_lines-answer.ensures.done total book told stands)))

pub returns-clause-within : goal.returns-clause-within
returns-clause-within g c =
    let X = IfSome (g.P.Streams.left (shown.pages c.args.service.now)) (λ input. length input ≤ 2 ^ 32) in
    subst (λ r. OnOk r X) (sym c.of_answers.ensures) (run_ok c.answer_lines-answer.result X c.answer_lines-answer.ensures.within)

pub returns-clause-whole : goal.returns-clause-whole
returns-clause-whole g c =
    let left = g.P.Streams.left in
    let X = IsReadUp (left (shown.pages c.args.service.now)) (left (shown.pages c.answer_lines-answer.new.service)) in
    subst (λ r. OnOk r X) (sym c.of_answers.ensures) (run_ok c.answer_lines-answer.result X c.answer_lines-answer.ensures.whole)

pub returns-clause-long : goal.returns-clause-long
returns-clause-long g c = λ fault.
    let unmade = c.answer_lines-answer.ensures.known _ (all_follow g.V.Show.gives)
    (all_known c.args.show.now c.args.service.now.sessions) in
    c.answer_lines-answer.ensures.long (run_fault g.V.Show.gives c.answer_lines-answer.result InputTooLong (λ e. cc) unmade
    (sym c.of_answers.ensures ∙ fault))

pub returns-clause-ends : goal.returns-clause-ends
returns-clause-ends g c = λ total book told stands.
    let old = c.args.service.now in
    let new = c.answer_lines-answer.new.service in
    let pages = shown.pages old in
    let after = shown.pages new in
    let gives = g.V.Show.gives in
    let unmade = c.answer_lines-answer.ensures.known _ (all_follow gives) (all_known c.args.show.now old.sessions) in
    subst (λ r. IfErr r (RunEndsBy g.P.Streams.left g.P.Streams.sent gives c.args.show.now c.answer_lines-answer.new.kept total book old
    new)) (sym c.of_answers.ensures)
    (ends_shown gives c.args.show.now c.answer_lines-answer.new.kept (shown.state old total book) (shown.image new) new.sessions
    (g.P.Streams.left after) (g.P.Streams.sent pages) (g.P.Streams.sent after)
    (g.P.Streams.left pages) c.answer_lines-answer.result unmade (c.answer_lines-answer.ensures.ends total book told stands))

pub returns-clause-crash : goal.returns-clause-crash
returns-clause-crash g c = λ total book told stands.
    let old = c.args.service.now in
    let new = c.answer_lines-answer.new.service in
    let pages = shown.pages old in
    lasts_shown g.V.Show.gives c.args.show.now (g.P.Streams.left pages) (g.P.Streams.sent pages) total (sent_now (shown.view old))
    (shown.state old total book) (shown.view old) (shown.view new) (c.answer_lines-answer.ensures.crash total book told stands)

pub returns-clause-read : goal.returns-clause-read
returns-clause-read g c = λ fault.
    let unmade = c.answer_lines-answer.ensures.known _ (all_follow g.V.Show.gives)
    (all_known c.args.show.now c.args.service.now.sessions) in
    c.answer_lines-answer.ensures.read (run_fault g.V.Show.gives c.answer_lines-answer.result ReadFault (λ e. cc) unmade
    (sym c.of_answers.ensures ∙ fault))

pub returns-clause-send : goal.returns-clause-send
returns-clause-send g c = λ fault.
    let unmade = c.answer_lines-answer.ensures.known _ (all_follow g.V.Show.gives)
    (all_known c.args.show.now c.args.service.now.sessions) in
    c.answer_lines-answer.ensures.send (run_fault g.V.Show.gives c.answer_lines-answer.result SendFault (λ e. cc) unmade
    (sym c.of_answers.ensures ∙ fault))

pub returns-clause-disk : goal.returns-clause-disk
returns-clause-disk g c = λ fault.
    let unmade = c.answer_lines-answer.ensures.known _ (all_follow g.V.Show.gives)
    (all_known c.args.show.now c.args.service.now.sessions) in
    c.answer_lines-answer.ensures.disk (run_fault g.V.Show.gives c.answer_lines-answer.result DiskFault (λ e. cc) unmade
    (sym c.of_answers.ensures ∙ fault))

pub returns-clause-shown : goal.returns-clause-shown
returns-clause-shown g c =
    let unmade = c.answer_lines-answer.ensures.known _ (all_follow g.V.Show.gives)
    (all_known c.args.show.now c.args.service.now.sessions) in
    subst (λ r. IfErr r (IsShown g.V.Show.gives)) (sym c.of_answers.ensures) (run_shown g.V.Show.gives c.answer_lines-answer.result unmade)

pub returns-clause-known : goal.returns-clause-known
returns-clause-known g c = λ knows is known.
    let gives = g.V.Show.gives in
    subst (λ r. IfErr r (EndsKnown gives knows)) (sym c.of_answers.ensures)
    (run_known gives knows c.answer_lines-answer.result (c.answer_lines-answer.ensures.known knows (follows gives knows is) known))

pub returns-clause-bad : goal.returns-clause-bad
returns-clause-bad g c =
    let it = c.answer_lines-answer.new.service in
    let unmade = c.answer_lines-answer.ensures.known _ (all_follow g.V.Show.gives)
    (all_known c.args.show.now c.args.service.now.sessions) in
    subst (λ r. IfErr r (EndsAtBad (shown.IsTold it) (shown.view it).size (shown.image it))) (sym c.of_answers.ensures)
    (run_bad g.V.Show.gives (shown.IsTold it) (shown.view it).size
    (shown.image it) c.answer_lines-answer.result unmade c.answer_lines-answer.ensures.bad)

pub returns-clause-sound : goal.returns-clause-sound
returns-clause-sound g c = λ other. c.answer_lines-answer.ensures.sound (λ is. other (c.of_answers.ensures ∙ ap run_answer is))

pub returns-clause-named : goal.returns-clause-named
returns-clause-named g c =
    let gives = g.V.Show.gives in
    let old = c.args.service.now in
    let new = c.answer_lines-answer.new.service in
    let before = g.P.Streams.sent (shown.pages old) in
    let now = g.P.Streams.sent (shown.pages new) in
    subst (λ r. ShowsBy gives c.args.show.now c.answer_lines-answer.new.kept old.sessions before now r) (sym c.of_answers.ensures)
    (named_shown gives c.args.show.now c.answer_lines-answer.new.kept old.sessions before now c.answer_lines-answer.ensures.gives.lines
    new.sessions c.answer_lines-answer.result c.answer_lines-answer.ensures.gives.gives)

pub returns-clause-faults : goal.returns-clause-faults
returns-clause-faults g c =
    let gives = g.V.Show.gives in
    let old = shown.view c.args.service.now in
    let new = shown.view c.answer_lines-answer.new.service in
    let answer = c.answer_lines-answer.result in
    let unmade = c.answer_lines-answer.ensures.known _ (all_follow gives) (all_known c.args.show.now c.args.service.now.sessions) in
    let told = told_run answer (λ f other is. run_fault gives answer f other unmade is) in
    let P : Result (Unit {0}) RunEnd → Type 0 = λ r. CountsFault (fault_in faulting.run_fault r) old new in
    subst P (sym c.of_answers.ensures) (counts_told (fault_in answer_fault answer)
    (fault_in faulting.run_fault (run_answer answer)) old new told c.answer_lines-answer.ensures.faults)

pub returns-clause-answers : goal.returns-clause-answers
returns-clause-answers g c =
    let gives = g.V.Show.gives in
    let old = c.args.service.now in
    let new = c.answer_lines-answer.new.service in
    let left = g.P.Streams.left (shown.pages old) in
    let before = g.P.Streams.sent (shown.pages old) in
    let now = g.P.Streams.sent (shown.pages new) in
    let v = c.args.show.now in
    let w = c.answer_lines-answer.new.kept in
    subst (λ r. OnOk r (IfSome left (λ input. ShowsEach gives v w old.sessions input before now))) (sym c.of_answers.ensures)
    (each_shown gives v w old.sessions before now left new.sessions c.answer_lines-answer.result c.answer_lines-answer.ensures.gives)

pub returns-clause-blames : goal.returns-clause-blames
returns-clause-blames g c =
    let gives = g.V.Show.gives in
    let old = c.args.service.now in
    let new = c.answer_lines-answer.new.service in
    let left = g.P.Streams.left (shown.pages old) in
    let before = g.P.Streams.sent (shown.pages old) in
    let now = g.P.Streams.sent (shown.pages new) in
    let v = c.args.show.now in
    let w = c.answer_lines-answer.new.kept in
    let unmade = c.answer_lines-answer.ensures.known _ (all_follow gives) (all_known v old.sessions) in
    subst (λ r. IfErr r (ShowBlames gives v w old.sessions left before now (shown.IsTold new) (shown.view new).size (shown.image new)))
    (sym c.of_answers.ensures)
    (shown_blames gives v w old.sessions before now (shown.IsTold new) (shown.view new).size
    (shown.image new) left c.answer_lines-answer.result unmade c.answer_lines-answer.ensures.blames)
