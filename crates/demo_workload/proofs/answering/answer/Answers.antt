use Rattle.std.proofs.Common.{sym, subst}
use Rattle.chart_service.specs.Shown as shown
use Rattle.run_ends.specs.declared.ending.End.{End}
use Rattle.demo_workload.specs.Ending.{IsOutside}
use Rattle.demo_workload.proofs.Faulting.{step_counts, draw_counts}
use Rattle.demo_workload.proofs.Knowing.{Changes, knows_on}
use Rattle.demo_workload.proofs.Stepped.{answered_one, outside_frame, outside_step, left_behind}
use Rattle.demo_workload.proofs.answering.answer.Goals as goal

pub returns-in-Err-clause-standing : goal.returns-in-Err-clause-standing
returns-in-Err-clause-standing g c = λ total book told stands sound mirrors.
    let P : End → Type 0 = λ end. IsOutside end in
    subst P (sym c.end_of_step.ensures) (outside_step c.in-Err.error (c.in-Err.ensures.standing total book told stands))

pub returns-in_default-clause-left : goal.returns-in_default-clause-left
returns-in_default-clause-left g c = λ total book told stands apart.
    left_behind c.args.request.now c.in-Ok.frame total book c.args.service.now.sessions c.step.new.self.sessions
    (shown.image c.step.new.self)
    (c.in-Ok.ensures.reply total book told stands)

pub returns-in-Err-draw-clause-standing : goal.returns-in-Err-draw-clause-standing
returns-in-Err-draw-clause-standing g c = λ total book told stands sound mirrors.
    outside_frame c.clients_draw_requests.ensures.accepts c.args.request.now c.in-Ok.frame total book
    (shown.image c.step.new.self) c.args.service.now.sessions
    c.step.new.self.sessions c.args.client.now c.in-Err-draw.end sound mirrors
    (c.in-Ok.ensures.reply total book told stands) c.in-Err-draw.ensures.rejected

pub returns-in-Err-draw-clause-left : goal.returns-in-Err-draw-clause-left
returns-in-Err-draw-clause-left g c = λ total book told stands apart.
    left_behind c.args.request.now c.in-Ok.frame total book c.args.service.now.sessions c.step.new.self.sessions
    (shown.image c.step.new.self)
    (c.in-Ok.ensures.reply total book told stands)

pub returns-clause-answered : goal.returns-clause-answered
returns-clause-answered g c = λ total book told stands sound mirrors.
    answered_one c.clients_draw_requests.ensures.draws c.args.request.now c.in-Ok.frame c.in-Ok-draw.picture total book
    (shown.image c.step.new.self)
    c.args.service.now.sessions c.step.new.self.sessions c.args.client.now c.draw.new.client c.args.summary.now c.add.new.self sound mirrors
    (c.in-Ok.ensures.reply total book told stands)
    c.in-Ok-draw.ensures.accepted c.add.ensures.summary

pub returns-clause-known : goal.returns-clause-known
returns-clause-known g c =
    let laws : Changes = record {
      others = c.frames_change_one_session.ensures.others;
      opened = c.frames_change_one_session.ensures.opened;
      closed = c.frames_change_one_session.ensures.closed;
      viewed = c.frames_change_one_session.ensures.viewed;
    } in
    knows_on laws c.in-Ok.frame c.in-Ok-draw.picture c.args.service.now.sessions c.step.new.self.sessions c.args.client.now
    c.draw.new.client c.requires.known c.in-Ok.ensures.opens
    c.in-Ok-draw.ensures.accepted

pub returns-in-Err-clause-faults : goal.returns-in-Err-clause-faults
returns-in-Err-clause-faults g c = step_counts c.end_of_step.result c.in-Err.error (shown.view c.args.service.now)
    (shown.view c.step.new.self) c.end_of_step.ensures c.in-Err.ensures.faults

pub returns-in-Err-draw-clause-faults : goal.returns-in-Err-draw-clause-faults
returns-in-Err-draw-clause-faults g c =
    draw_counts c.in-Err-draw.end c.in-Ok.frame c.args.client.now (shown.view c.args.service.now)
    (shown.view c.step.new.self) c.in-Err-draw.ensures.rejected c.in-Ok.ensures.faults
