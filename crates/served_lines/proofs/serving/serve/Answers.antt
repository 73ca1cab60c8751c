use Rattle.std.proofs.Common.{Result, IfErr, IfSome, OnOk, length, ap, sym, subst, ◌≤◌, ◌^◌, ◌∙◌}
use Rattle.block_disk.specs.View.{sent_now}
use Rattle.chart_world.specs.Faults.{CountsFault, fault_in}
use Rattle.chart_service.specs.Answering.{SendsWhole, ServeEndsBy}
use Rattle.chart_service.specs.Faulting.{serve_fault}
use Rattle.chart_service.specs.Naming.{SendsAnswers}
use Rattle.chart_service.specs.Serving.{AreSpelled, EndsAtBad}
use Rattle.chart_service.specs.Shown as shown
use Rattle.chart_service.specs.Spelled.{serve_end}
use Rattle.chart_service.specs.declared.failure.ServeEnd.{ServeEnd}
use Rattle.chart_service.specs.declared.failure.ServeEnd.TheVariants.{ReadFault, SendFault, DiskFault}
use Rattle.chart_service.proofs.Faulting.{serve_goes}
use Rattle.chart_service.proofs.Naming.{serve_answers, serve_named}
use Rattle.chart_service.proofs.Sending.{ok_so}
use Rattle.chart_service.proofs.Served.{spelling_makes, spells, done_spelled, ends_spelled, lasts_spelled, served_ok, served_fault}
use Rattle.chart_service.proofs.Served.{served_bad}
use Rattle.served_lines.specs.Blaming.{ServeBlames}
use Rattle.served_lines.proofs.BlameLemmas.{serve_blames}
use Rattle.served_lines.proofs.serving.serve.Goals as goal

pub returns-clause-done : goal.returns-clause-done
returns-clause-done g c = λ total book told stands.
    let old = c.args.service.now in
    let new = c.answer_lines-answer.new.service in
    let pages = shown.pages old in
    let after = shown.pages new in
    let answer = c.answer_lines-answer.result in
    let X = SendsWhole g.P.Streams.left g.P.Streams.sent AreSpelled total book old new in
    subst (λ r. OnOk r X) (sym c.served.ensures) (served_ok answer X
    (ok_so answer _ X (done_spelled spelling_makes spells _ _ (g.P.Streams.left pages) total (shown.state old total book) (shown.image
    new) new.sessions (g.P.Streams.sent pages) (g.P.Streams.sent after)) (c.answer_lines-answer.ensures.done total book told stands)))

pub returns-clause-within : goal.returns-clause-within
returns-clause-within g c =
    let X = IfSome (g.P.Streams.left (shown.pages c.args.service.now)) (λ input. length input ≤ 2 ^ 32) in
    subst (λ r. OnOk r X) (sym c.served.ensures) (served_ok c.answer_lines-answer.result X c.answer_lines-answer.ensures.within)

pub returns-clause-ends : goal.returns-clause-ends
returns-clause-ends g c = λ total book told stands.
    let old = c.args.service.now in
    let new = c.answer_lines-answer.new.service in
    let pages = shown.pages old in
    let after = shown.pages new in
    subst (λ r. IfErr r (ServeEndsBy g.P.Streams.left g.P.Streams.sent total book old new)) (sym c.served.ensures)
    (ends_spelled spelling_makes spells _ _ (shown.state old total book) (shown.image new) new.sessions (g.P.Streams.left after)
    (g.P.Streams.sent pages) (g.P.Streams.sent after) (g.P.Streams.left pages) c.answer_lines-answer.result
    (c.answer_lines-answer.ensures.ends total book told stands))

pub returns-clause-crash : goal.returns-clause-crash
returns-clause-crash g c = λ total book told stands.
    let old = c.args.service.now in
    let new = c.answer_lines-answer.new.service in
    let pages = shown.pages old in
    lasts_spelled spelling_makes spells _ (g.P.Streams.left pages) (g.P.Streams.sent pages) total (sent_now (shown.view old)) (shown.state
    old total book) (shown.view old) (shown.view new) (c.answer_lines-answer.ensures.crash total book told stands)

pub returns-clause-read : goal.returns-clause-read
returns-clause-read g c = λ fault. c.answer_lines-answer.ensures.read (served_fault c.answer_lines-answer.result ReadFault (λ e. cc) (sym
    c.served.ensures ∙ fault))

pub returns-clause-send : goal.returns-clause-send
returns-clause-send g c = λ fault. c.answer_lines-answer.ensures.send (served_fault c.answer_lines-answer.result SendFault (λ e. cc) (sym
    c.served.ensures ∙ fault))

pub returns-clause-disk : goal.returns-clause-disk
returns-clause-disk g c = λ fault. c.answer_lines-answer.ensures.disk (served_fault c.answer_lines-answer.result DiskFault (λ e. cc) (sym
    c.served.ensures ∙ fault))

pub returns-clause-bad : goal.returns-clause-bad
returns-clause-bad g c =
    let it = c.answer_lines-answer.new.service in
    subst (λ r. IfErr r (EndsAtBad (shown.IsTold it) (shown.view it).size (shown.image it))) (sym c.served.ensures)
    (served_bad (shown.IsTold it) (shown.view it).size (shown.image it) c.answer_lines-answer.result c.answer_lines-answer.ensures.bad)

pub returns-clause-sound : goal.returns-clause-sound
returns-clause-sound g c = λ other. c.answer_lines-answer.ensures.sound (λ is. other (c.served.ensures ∙ ap serve_end is))

pub returns-clause-rests : goal.returns-clause-rests
returns-clause-rests g c = λ other. c.answer_lines-answer.ensures.rests (λ is. other (c.served.ensures ∙ ap serve_end is))

pub returns-clause-named : goal.returns-clause-named
returns-clause-named g c =
    let old = c.args.service.now in
    let new = c.answer_lines-answer.new.service in
    serve_named c.answer_lines-answer.ensures.gives.lines _ _ old.sessions new.sessions (g.P.Streams.sent (shown.pages old))
    (g.P.Streams.sent (shown.pages new))
    c.answer_lines-answer.result c.answer_lines-answer.ensures.gives.gives

pub returns-clause-faults : goal.returns-clause-faults
returns-clause-faults g c =
    let old = shown.view c.args.service.now in
    let new = shown.view c.answer_lines-answer.new.service in
    subst (λ r. CountsFault (fault_in serve_fault r) old new) (sym c.served.ensures) (serve_goes c.answer_lines-answer.result old new
    c.answer_lines-answer.ensures.faults)

pub returns-clause-answers : goal.returns-clause-answers
returns-clause-answers g c =
    let old = c.args.service.now in
    let new = c.answer_lines-answer.new.service in
    let left = g.P.Streams.left (shown.pages old) in
    let before = g.P.Streams.sent (shown.pages old) in
    let now = g.P.Streams.sent (shown.pages new) in
    let A : Result (Unit {0}) ServeEnd → Type 0 = λ r. OnOk r (IfSome left (λ input. SendsAnswers old.sessions input before now)) in
    let gives = c.answer_lines-answer.ensures.gives in
    subst A (sym c.served.ensures) (serve_answers c.answer_lines-answer.result _ _ old.sessions new.sessions before now left gives)

pub returns-clause-blames : goal.returns-clause-blames
returns-clause-blames g c =
    let old = c.args.service.now in
    let new = c.answer_lines-answer.new.service in
    let left = g.P.Streams.left (shown.pages old) in
    let before = g.P.Streams.sent (shown.pages old) in
    let now = g.P.Streams.sent (shown.pages new) in
    let E : Result (Unit {0}) ServeEnd → Type 0 = λ r. IfErr r
    (ServeBlames old.sessions left before now (shown.IsTold new) (shown.view new).size (shown.image new)) in
    subst E (sym c.served.ensures)
    (serve_blames c.answer_lines-answer.result _ _ old.sessions left before now (shown.IsTold new) (shown.view new).size
    (shown.image new) c.answer_lines-answer.ensures.blames)
