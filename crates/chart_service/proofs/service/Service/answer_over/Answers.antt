use Rattle.std.proofs.Common.{Ok, subst, arith}
use Rattle.std.specs.Prelude.{IsSomeAnd, slice_get}
use Rattle.chart_service.specs.Planning.{IsMoved}
use Rattle.chart_service.specs.Replies.{AnswersView, Moves}
use Rattle.chart_service.specs.Stepping.{state_of, ReadsBy}
use Rattle.chart_service.specs.Shown as shown
use Rattle.chart_service.proofs.Answered.{moves_answered, moves_refused}
use Rattle.chart_service.proofs.LookLemmas.{replying_so, replying_refused}
use Rattle.chart_service.proofs.ReadLemmas.{reads_by}
use Rattle.chart_service.proofs.ViewLemmas.{reads_moved}
use Rattle.chart_service.proofs.RoomLemmas.{fits_moved, never_bad}
use Rattle.chart_service.proofs.service.Service.answer_over.Goals as goal

pub returns-in-Ok-clause-replying : goal.returns-in-Ok-clause-replying
returns-in-Ok-clause-replying g c = λ total book t0 t1 told stands moved.
    let last = c.args.last in
    let number = c.args.number in
    let grid = c.in-Ok.grid in
    let is : IsMoved last.grid t0 t1 (Ok grid) = subst (IsMoved last.grid t0 t1) c.in-Ok.is moved in
    let at = slice_get book last.series in
    replying_so (λ frame old new. IsSomeAnd (slice_get old.book last.series)
    (λ series. AnswersView series (record { series = last.series; grid = grid; range = last.range; filter = last.filter }) number frame
    old new)) (λ frame old new. Moves last number t0 t1 frame old new)
    (ReadsBy last.filter grid.w grid.t0 grid.t1 at)
    (ReadsBy last.filter last.grid.w t0 t1 at) c.answer.result total book c.args.self.now.sessions c.answer.new.self.sessions
    (g.P.Pages.view (shown.pages c.args.self.now)) (g.P.Pages.view (shown.pages c.answer.new.self))
    (λ frame. moves_answered last number t0 t1 grid frame (state_of book total c.args.self.now.sessions)
    (state_of book total c.answer.new.self.sessions) is)
    (reads_moved book last grid t0 t1 _ _ is)
    (c.answer.ensures.replying total book told stands)

pub returns-in-Err-clause-replying : goal.returns-in-Err-clause-replying
returns-in-Err-clause-replying g c = λ total book t0 t1 told stands moved.
    let last = c.args.last in
    let number = c.args.number in
    let ss = c.args.self.now.sessions in
    let view = g.P.Pages.view (shown.pages c.args.self.now) in
    replying_refused (λ frame old new. Moves last number t0 t1 frame old new)
    (ReadsBy last.filter last.grid.w t0 t1 (slice_get book last.series)) c.refused.result total book ss view
    (moves_refused last number t0 t1 c.in-Err.field-0 c.refused.result (state_of book total ss)
    (subst (IsMoved last.grid t0 t1) c.in-Err.is moved)
    (omega (arith, c.requires.view.there, c.len-count.ensures.count, c.len-count.ensures.books total book c.requires.sound told stands))
    c.refused.ensures.frame)
    (reads_by last.filter last.grid.w t0 t1 (slice_get book last.series) view.reads)

pub returns-in-Ok-clause-tells : goal.returns-in-Ok-clause-tells
returns-in-Ok-clause-tells g c = λ t0 t1 moved window fits.
    let last = c.args.last in
    let is : IsMoved last.grid t0 t1 (Ok c.in-Ok.grid) = subst (IsMoved last.grid t0 t1) c.in-Ok.is moved in
    c.answer.ensures.tells (fits_moved c.args.number last c.in-Ok.grid t0 t1 c.args.self.now.sessions is fits)

pub returns-in-Err-clause-tells : goal.returns-in-Err-clause-tells
returns-in-Err-clause-tells g c = λ t0 t1 moved window fits.
    absurd (never_bad c.args.last.grid t0 t1 c.in-Err.field-0 (subst (IsMoved c.args.last.grid t0 t1) c.in-Err.is moved) window)

pub returns-in-Ok-clause-rooms : goal.returns-in-Ok-clause-rooms
returns-in-Ok-clause-rooms g c = λ t0 t1 moved fits has.
    let last = c.args.last in
    let is : IsMoved last.grid t0 t1 (Ok c.in-Ok.grid) = subst (IsMoved last.grid t0 t1) c.in-Ok.is moved in
    c.answer.ensures.rooms (fits_moved c.args.number last c.in-Ok.grid t0 t1 c.args.self.now.sessions is fits) has

pub returns-in-Err-clause-rooms : goal.returns-in-Err-clause-rooms
returns-in-Err-clause-rooms g c = λ t0 t1 moved fits has. has
