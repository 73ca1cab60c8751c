use Rattle.std.proofs.Common.{refl, sym, subst, ◌∙◌}
use Rattle.draw_command.specs.declared.draw_end.DrawEnd.{DrawEnd}
use Rattle.draw_command.specs.Draws.{FramesStop}
use Rattle.draw_command.proofs.Errors.{done_is_no_err, error_so}
use Rattle.draw_command.proofs.DiskKept.{stays_none, stays_then}
use Rattle.draw_command.proofs.DrawnFrames.{drawn_none, drawn_frame, frame_stops, takes_so, shorter}
use Rattle.draw_command.proofs.drawing.draw_frames.Goals as goal

pub frames-init : goal.frames-init
frames-init g c = record {
  drawn = drawn_none c.args.every c.args.decoder.now c.args.client.now (g.S.Streams.sent c.args.streams.now);
  send_faults = refl;
  left = refl;
  read_faults = refl;
  disk = stays_none (g.S.Disk.view c.args.streams.now);
}

pub frames-smaller-in_ok-draw_frame-in-Some : goal.frames-smaller-in_ok-draw_frame-in-Some
frames-smaller-in_ok-draw_frame-in-Some g c =
    shorter c.frames.decoder c.next.new.self c.in-Some.frame c.length_is_told.ensures
    (takes_so c.frames.decoder c.next.new.self c.in_ok-frame.field-0 c.in-Some.frame c.in_ok-frame.ensures.answers c.in-Some.is)

pub frames-preserved-in_ok-draw_frame-in-Some : goal.frames-preserved-in_ok-draw_frame-in-Some
frames-preserved-in_ok-draw_frame-in-Some g c =
    let sent = g.S.Streams.sent in
    let view = g.S.Disk.view in
    let inv = c.frames.invariant in
    let made = c.in_ok-draw_frame-in-Some.ensures in
    let takes = takes_so c.frames.decoder c.next.new.self c.in_ok-frame.field-0 c.in-Some.frame c.in_ok-frame.ensures.answers c.in-Some.is
    in
    record {
      drawn = drawn_frame c.args.every c.args.decoder.now c.frames.decoder c.next.new.self c.in-Some.frame c.args.client.now c.frames.client
          c.draw_frame.new.client
          (sent c.args.streams.now) (sent c.frames.streams) (sent c.draw_frame.new.streams) takes made.done inv.drawn;
      send_faults = made.quiet_sends (done_is_no_err _ _) ∙ inv.send_faults;
      left = made.left ∙ inv.left;
      read_faults = made.read_faults ∙ inv.read_faults;
      disk = stays_then (view c.args.streams.now) (view c.frames.streams) (view c.draw_frame.new.streams) inv.disk made.disk;
    }

pub frames-smaller-in_ok-draw_frame-in-Some-2 : goal.frames-smaller-in_ok-draw_frame-in-Some-2
frames-smaller-in_ok-draw_frame-in-Some-2 g c =
    shorter c.frames.decoder c.next.new.self c.in-Some.frame c.length_is_told.ensures
    (takes_so c.frames.decoder c.next.new.self c.in_ok-frame.field-0 c.in-Some.frame c.in_ok-frame.ensures.answers c.in-Some.is)

pub frames-preserved-in_ok-draw_frame-in-Some-2 : goal.frames-preserved-in_ok-draw_frame-in-Some-2
frames-preserved-in_ok-draw_frame-in-Some-2 g c =
    let sent = g.S.Streams.sent in
    let view = g.S.Disk.view in
    let inv = c.frames.invariant in
    let made = c.in_ok-draw_frame-in-Some.ensures in
    let takes = takes_so c.frames.decoder c.next.new.self c.in_ok-frame.field-0 c.in-Some.frame c.in_ok-frame.ensures.answers c.in-Some.is
    in
    record {
      drawn = drawn_frame c.args.every c.args.decoder.now c.frames.decoder c.next.new.self c.in-Some.frame c.args.client.now c.frames.client
          c.draw_frame.new.client
          (sent c.args.streams.now) (sent c.frames.streams) (sent c.draw_frame.new.streams) takes made.done inv.drawn;
      send_faults = made.quiet_sends (done_is_no_err _ _) ∙ inv.send_faults;
      left = made.left ∙ inv.left;
      read_faults = made.read_faults ∙ inv.read_faults;
      disk = stays_then (view c.args.streams.now) (view c.frames.streams) (view c.draw_frame.new.streams) inv.disk made.disk;
    }

pub frames-preserved-in_ok-draw_frame-in-Some-3 : goal.frames-preserved-in_ok-draw_frame-in-Some-3
frames-preserved-in_ok-draw_frame-in-Some-3 g c =
    let sent = g.S.Streams.sent in
    let view = g.S.Disk.view in
    let inv = c.frames.invariant in
    let made = c.in_ok-draw_frame-in-Some.ensures in
    let takes = takes_so c.frames.decoder c.next.new.self c.in_ok-frame.field-0 c.in-Some.frame c.in_ok-frame.ensures.answers c.in-Some.is
    in
    record {
      drawn = drawn_frame c.args.every c.args.decoder.now c.frames.decoder c.next.new.self c.in-Some.frame c.args.client.now c.frames.client
          c.draw_frame.new.client
          (sent c.args.streams.now) (sent c.frames.streams) (sent c.draw_frame.new.streams) takes made.done inv.drawn;
      send_faults = made.quiet_sends (done_is_no_err _ _) ∙ inv.send_faults;
      left = made.left ∙ inv.left;
      read_faults = made.read_faults ∙ inv.read_faults;
      disk = stays_then (view c.args.streams.now) (view c.frames.streams) (view c.draw_frame.new.streams) inv.disk made.disk;
    }

pub frames-preserved-in_ok-draw_frame-in-Some-4 : goal.frames-preserved-in_ok-draw_frame-in-Some-4
frames-preserved-in_ok-draw_frame-in-Some-4 g c =
    let sent = g.S.Streams.sent in
    let view = g.S.Disk.view in
    let inv = c.frames.invariant in
    let made = c.in_ok-draw_frame-in-Some.ensures in
    let takes = takes_so c.frames.decoder c.next.new.self c.in_ok-frame.field-0 c.in-Some.frame c.in_ok-frame.ensures.answers c.in-Some.is
    in
    record {
      drawn = drawn_frame c.args.every c.args.decoder.now c.frames.decoder c.next.new.self c.in-Some.frame c.args.client.now c.frames.client
          c.draw_frame.new.client
          (sent c.args.streams.now) (sent c.frames.streams) (sent c.draw_frame.new.streams) takes made.done inv.drawn;
      send_faults = made.quiet_sends (done_is_no_err _ _) ∙ inv.send_faults;
      left = made.left ∙ inv.left;
      read_faults = made.read_faults ∙ inv.read_faults;
      disk = stays_then (view c.args.streams.now) (view c.frames.streams) (view c.draw_frame.new.streams) inv.disk made.disk;
    }

pub frames-preserved-in_ok-draw_frame-in-Some-5 : goal.frames-preserved-in_ok-draw_frame-in-Some-5
frames-preserved-in_ok-draw_frame-in-Some-5 g c =
    let sent = g.S.Streams.sent in
    let view = g.S.Disk.view in
    let inv = c.frames.invariant in
    let made = c.in_ok-draw_frame-in-Some.ensures in
    let takes = takes_so c.frames.decoder c.next.new.self c.in_ok-frame.field-0 c.in-Some.frame c.in_ok-frame.ensures.answers c.in-Some.is
    in
    record {
      drawn = drawn_frame c.args.every c.args.decoder.now c.frames.decoder c.next.new.self c.in-Some.frame c.args.client.now c.frames.client
          c.draw_frame.new.client
          (sent c.args.streams.now) (sent c.frames.streams) (sent c.draw_frame.new.streams) takes made.done inv.drawn;
      send_faults = made.quiet_sends (done_is_no_err _ _) ∙ inv.send_faults;
      left = made.left ∙ inv.left;
      read_faults = made.read_faults ∙ inv.read_faults;
      disk = stays_then (view c.args.streams.now) (view c.frames.streams) (view c.draw_frame.new.streams) inv.disk made.disk;
    }

pub frames-smaller : goal.frames-smaller
frames-smaller g c =
    shorter c.frames.decoder c.next.new.self c.in-Some.frame c.length_is_told.ensures
    (takes_so c.frames.decoder c.next.new.self c.in_ok-frame.field-0 c.in-Some.frame c.in_ok-frame.ensures.answers c.in-Some.is)

pub frames-preserved : goal.frames-preserved
frames-preserved g c =
    let sent = g.S.Streams.sent in
    let view = g.S.Disk.view in
    let inv = c.frames.invariant in
    let made = c.in_ok-draw_frame-in-Some.ensures in
    let takes = takes_so c.frames.decoder c.next.new.self c.in_ok-frame.field-0 c.in-Some.frame c.in_ok-frame.ensures.answers c.in-Some.is
    in
    record {
      drawn = drawn_frame c.args.every c.args.decoder.now c.frames.decoder c.next.new.self c.in-Some.frame c.args.client.now c.frames.client
          c.draw_frame.new.client
          (sent c.args.streams.now) (sent c.frames.streams) (sent c.draw_frame.new.streams) takes made.done inv.drawn;
      send_faults = made.quiet_sends (done_is_no_err _ _) ∙ inv.send_faults;
      left = made.left ∙ inv.left;
      read_faults = made.read_faults ∙ inv.read_faults;
      disk = stays_then (view c.args.streams.now) (view c.frames.streams) (view c.draw_frame.new.streams) inv.disk made.disk;
    }

pub returns-in-None-clause-disk : goal.returns-in-None-clause-disk
returns-in-None-clause-disk g c = c.frames.invariant.disk

pub returns-in_err-frame-clause-disk : goal.returns-in_err-frame-clause-disk
returns-in_err-frame-clause-disk g c = c.frames.invariant.disk

pub returns-in_err-draw_frame-in-Some-clause-disk : goal.returns-in_err-draw_frame-in-Some-clause-disk
returns-in_err-draw_frame-in-Some-clause-disk g c =
    let view = g.S.Disk.view in
    stays_then (view c.args.streams.now) (view c.frames.streams)
    (view c.draw_frame.new.streams) c.frames.invariant.disk c.in_err-draw_frame-in-Some.ensures.disk

pub returns-in_err-draw_frame-in-Some-clause-stops : goal.returns-in_err-draw_frame-in-Some-clause-stops
returns-in_err-draw_frame-in-Some-clause-stops g c =
    let sent = g.S.Streams.sent in
    let before = sent c.args.streams.now in
    let later = sent c.draw_frame.new.streams in
    let takes = takes_so c.frames.decoder c.next.new.self c.in_ok-frame.field-0 c.in-Some.frame c.in_ok-frame.ensures.answers c.in-Some.is
    in
    let stops = frame_stops c.args.every c.args.decoder.now c.frames.decoder c.next.new.self c.in-Some.frame c.args.client.now
    c.frames.client before (sent c.frames.streams) later
    c.in_err-draw_frame-in-Some.field-0.0 takes c.in_err-draw_frame-in-Some.ensures.stops c.frames.invariant.drawn in
    let E : DrawEnd → Type 0 = λ x. FramesStop c.args.every c.args.decoder.now c.args.client.now before later x in
    error_so _ E c.from_residual-in_err-draw_frame-in-Some.result c.from_residual-in_err-draw_frame-in-Some.ensures.1
    (λ x is. subst E (sym is) stops)
