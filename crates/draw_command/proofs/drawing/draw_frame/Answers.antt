use Rattle.std.proofs.Common.{subst, sym}
use Rattle.draw_command.specs.declared.draw_end.DrawEnd.{DrawEnd}
use Rattle.draw_command.specs.Draws.{FrameStops}
use Rattle.chart_client.specs.Accepting.{Accepts}
use Rattle.draw_command.proofs.Errors.{error_so, if_err, on_ok}
use Rattle.draw_command.proofs.CoverLemmas.{frame_rejected, frame_pictured, frame_uncovered, frame_unsent}
use Rattle.draw_command.proofs.DiskKept.{stays_then}
use Rattle.draw_command.proofs.drawing.draw_frame.Goals as goal

pub returns-in_err-drawing-clause-stops : goal.returns-in_err-drawing-clause-stops
returns-in_err-drawing-clause-stops g c =
    let sent = g.S.Streams.sent in
    error_so _ _ c.from_residual-in_err-drawing.result c.from_residual-in_err-drawing.ensures.1
    (λ end is. frame_rejected c.args.every c.args.frame.now c.args.client.now (sent c.args.streams.now)
    (sent c.send_covers.new.streams) c.in_err-drawing.field-0.0 end is
    c.in_ok-send_covers.ensures.done c.in_err-drawing.ensures.rejected)

pub returns-clause-done : goal.returns-clause-done
returns-clause-done g c =
    let sent = g.S.Streams.sent in
    on_ok _ _ c.send_picture.result c.send_picture.ensures.done
    (λ sends. frame_pictured c.args.every c.args.frame.now c.in_ok-drawing.field-0 c.in-Some.drawing c.args.client.now c.accept.new.self
    (sent c.args.streams.now) (sent c.send_covers.new.streams)
    (sent c.send_picture.new.streams) c.in_ok-send_covers.ensures.done c.in_ok-drawing.ensures.accepted c.in-Some.is sends)

pub returns-in_err-send_covers-clause-disk : goal.returns-in_err-send_covers-clause-disk
returns-in_err-send_covers-clause-disk g c = c.in_err-send_covers.ensures.disk

pub returns-in_err-drawing-clause-disk : goal.returns-in_err-drawing-clause-disk
returns-in_err-drawing-clause-disk g c = c.in_ok-send_covers.ensures.disk

pub returns-in_default-clause-disk : goal.returns-in_default-clause-disk
returns-in_default-clause-disk g c = c.in_ok-send_covers.ensures.disk

pub returns-clause-disk : goal.returns-clause-disk
returns-clause-disk g c =
    let view = g.S.Disk.view in
    stays_then (view c.args.streams.now) (view c.send_covers.new.streams)
    (view c.send_picture.new.streams) c.in_ok-send_covers.ensures.disk c.send_picture.ensures.disk

pub returns-in_err-send_covers-clause-stops : goal.returns-in_err-send_covers-clause-stops
returns-in_err-send_covers-clause-stops g c =
    let sent = g.S.Streams.sent in
    let stops = frame_uncovered c.args.every c.args.frame.now c.args.client.now (sent c.args.streams.now)
    (sent c.send_covers.new.streams) c.in_err-send_covers.field-0.0 c.in_err-send_covers.ensures.stops in
    let E : DrawEnd → Type 0 = λ x. FrameStops c.args.every c.args.frame.now c.args.client.now (sent c.args.streams.now)
    (sent c.send_covers.new.streams) x in
    error_so _ E c.from_residual.result c.from_residual.ensures.1 (λ x is. subst E (sym is) stops)

pub returns-clause-stops : goal.returns-clause-stops
returns-clause-stops g c =
    let sent = g.S.Streams.sent in
    let accepted = subst (λ d. Accepts c.args.frame.now d c.args.client.now c.accept.new.self) c.in-Some.is c.in_ok-drawing.ensures.accepted
    in
    if_err _ _ c.send_picture.result c.send_picture.ensures.stops
    (λ end stops. frame_unsent c.args.every c.args.frame.now c.in-Some.drawing c.args.client.now c.accept.new.self
    (sent c.args.streams.now) (sent c.send_covers.new.streams)
    (sent c.send_picture.new.streams) end c.in_ok-send_covers.ensures.done accepted stops)
