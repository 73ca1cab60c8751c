use Rattle.std.proofs.Common.{◌≡◌, ◌^◌, IfSome, take, length, refl, sym, subst, ◌∙◌, arith}
use Rattle.std.proofs.lemmas.List.{length-take}
use Rattle.draw_command.specs.declared.draw_end.DrawEnd.{DrawEnd}
use Rattle.draw_command.specs.Draws.{EndsDraw}
use Rattle.draw_command.proofs.DiskKept.{stays_none, stays_taken, stays_then}
use Rattle.draw_command.proofs.Errors.{done_is_no_err, error_so, if_err, on_ok}
use Rattle.draw_command.proofs.DrawnFrames.{drawn_start, nothing_left, start_partial, start_counted, read_all, cut_so, stopped_so}
use Rattle.draw_command.proofs.DrawnFrames.{within_so, drawn_piece, drawn_sent, counted_more}
use Rattle.draw_command.proofs.drawing.draw_pieces.Goals as goal

pub pieces-init : goal.pieces-init
pieces-init g c = record {
  sized = c.requires.sized;
  within = omega arith;
  counted = start_counted c.args.decoder.now c.requires.start;
  unended = start_partial c.more_bytes_mend_nothing.ensures.stays c.spellings_are_good.ensures c.args.decoder.now c.requires.start;
  drawn = drawn_start c.args.every (g.S.Streams.left c.args.streams.now) c.args.decoder.now c.args.client.now
      (g.S.Streams.sent c.args.streams.now) c.requires.start c.requires.client;
  read_faults = refl;
  send_faults = refl;
  disk = stays_none (g.S.Disk.view c.args.streams.now);
}

pub returns-then-count-eq0-clause-within : goal.returns-then-count-eq0-clause-within
returns-then-count-eq0-clause-within g c =
    let left = g.S.Streams.left in
    let sent = g.S.Streams.sent in
    let inv = c.pieces.invariant in
    on_ok _ _ c.ended.result c.ended.ensures.done
    (λ empty. read_all c.args.every (left c.args.streams.now)
    (left c.pieces.streams) c.in_ok-count.count c.take_piece.new.buffer c.pieces.decoder c.pieces.client c.pieces.taken (2 ^ 32)
    (sent c.args.streams.now) (sent c.pieces.streams) c.in_ok-count.ensures.given c.if-count-eq0.true empty inv.counted inv.within
    inv.drawn)

pub returns-then-count-eq0-clause-whole : goal.returns-then-count-eq0-clause-whole
returns-then-count-eq0-clause-whole g c =
    let left = g.S.Streams.left in
    let sent = g.S.Streams.sent in
    let taken = c.in_ok-count.ensures in
    on_ok _ _ c.ended.result c.ended.ensures.done
    (λ empty. nothing_left c.args.every (left c.args.streams.now) (left c.pieces.streams)
    (left c.take_piece.new.streams) c.in_ok-count.count c.take_piece.new.buffer
    c.pieces.decoder c.pieces.client (sent c.args.streams.now)
    (sent c.pieces.streams) taken.given taken.left c.if-count-eq0.true c.pieces.invariant.drawn)

pub returns-then-count-eq0-clause-ends : goal.returns-then-count-eq0-clause-ends
returns-then-count-eq0-clause-ends g c =
    let left = g.S.Streams.left in
    let sent = g.S.Streams.sent in
    let inv = c.pieces.invariant in
    let taken = c.in_ok-count.ensures in
    if_err _ _ c.ended.result c.ended.ensures.cut
    (λ e is. cut_so c.args.every (left c.args.streams.now)
    (left c.pieces.streams) _ c.in_ok-count.count c.take_piece.new.buffer c.pieces.decoder c.pieces.client c.pieces.taken
    (sent c.args.streams.now) (sent c.take_piece.new.streams) e taken.given c.if-count-eq0.true is.0 is.1 inv.unended inv.counted inv.within
    (drawn_sent c.args.every (left c.args.streams.now) (left c.pieces.streams) c.pieces.decoder c.pieces.client (sent c.args.streams.now)
    (sent c.pieces.streams) (sent c.take_piece.new.streams) taken.sent inv.drawn))

pub returns-in_err-draw_piece-clause-ends : goal.returns-in_err-draw_piece-clause-ends
returns-in_err-draw_piece-clause-ends g c =
    let left = g.S.Streams.left in
    let sent = g.S.Streams.sent in
    let o = left c.args.streams.now in
    let before = sent c.args.streams.now in
    let inv = c.pieces.invariant in
    let taken = c.in_ok-count.ensures in
    let f = c.in_err-draw_piece.field-0.0 in
    let sized : length (take c.min-fits.result c.take_piece.new.buffer) ≡ c.min-fits.result = omega (
      arith,
      length-take c.min-fits.result c.take_piece.new.buffer,
      taken.sized,
      taken.fits,
      c.min-fits.ensures,
    ) in
    let drawn = drawn_sent c.args.every o (left c.pieces.streams) c.pieces.decoder c.pieces.client before (sent c.pieces.streams)
    (sent c.take_piece.new.streams) taken.sent inv.drawn in
    let stops = stopped_so c.args.every c.more_bytes_mend_nothing.ensures.stays o (left c.pieces.streams)
    (left c.draw_piece.new.streams) c.min-fits.result c.in_ok-count.count
    c.take_piece.new.buffer (take c.min-fits.result c.take_piece.new.buffer) c.pieces.decoder c.pieces.client before
    (sent c.take_piece.new.streams) (sent c.draw_piece.new.streams) f
    taken.given (omega (arith, c.min-fits.ensures)) refl
    (omega (arith, sized, inv.counted, inv.within, c.min-fits.ensures)) c.in_err-draw_piece.ensures.stops drawn in
    let E : DrawEnd → Type 0 = λ x. IfSome o (λ input. EndsDraw c.args.every input (left c.draw_piece.new.streams) before
    (sent c.draw_piece.new.streams) x) in
    error_so _ E c.from_residual-in_err-draw_piece.result c.from_residual-in_err-draw_piece.ensures.1 (λ x is. subst E (sym is) stops)

pub returns-then-count-room-clause-ends : goal.returns-then-count-room-clause-ends
returns-then-count-room-clause-ends g c =
    let left = g.S.Streams.left in
    let sent = g.S.Streams.sent in
    let o = left c.args.streams.now in
    let before = sent c.args.streams.now in
    let inv = c.pieces.invariant in
    let taken = c.in_ok-count.ensures in
    let made = c.in_ok-draw_piece.ensures.done in
    let drawn = drawn_sent c.args.every o (left c.pieces.streams) c.pieces.decoder c.pieces.client before (sent c.pieces.streams)
    (sent c.take_piece.new.streams) taken.sent inv.drawn in
    let sized : length (take c.min-fits.result c.take_piece.new.buffer) ≡ c.min-fits.result = omega (
      arith,
      length-take c.min-fits.result c.take_piece.new.buffer,
      taken.sized,
      taken.fits,
      c.min-fits.ensures,
    ) in
    let counted = counted_more c.args.every c.pieces.taken c.min-fits.result
    (take c.min-fits.result c.take_piece.new.buffer) c.pieces.decoder c.draw_piece.new.decoder
    c.pieces.client c.draw_piece.new.client (sent c.take_piece.new.streams) (sent c.draw_piece.new.streams) inv.counted sized made.0 in
    within_so c.args.every o (left c.pieces.streams) (left c.draw_piece.new.streams) c.min-fits.result c.in_ok-count.count
    c.take_piece.new.buffer (take c.min-fits.result c.take_piece.new.buffer) c.pieces.decoder c.draw_piece.new.decoder c.pieces.client
    c.draw_piece.new.client
    before (sent c.take_piece.new.streams) (sent c.draw_piece.new.streams) _
    taken.given (omega (arith, c.min-fits.ensures, c.if-count-room.true)) refl
    (omega (arith, counted, c.min-fits.ensures, c.if-count-room.true, inv.within)) made.1 refl made.0 drawn

pub pieces-preserved : goal.pieces-preserved
pieces-preserved g c =
    let left = g.S.Streams.left in
    let sent = g.S.Streams.sent in
    let view = g.S.Disk.view in
    let o = left c.args.streams.now in
    let before = sent c.args.streams.now in
    let inv = c.pieces.invariant in
    let taken = c.in_ok-count.ensures in
    let made = c.in_ok-draw_piece.ensures in
    let drawn = drawn_sent c.args.every o (left c.pieces.streams) c.pieces.decoder c.pieces.client before (sent c.pieces.streams)
    (sent c.take_piece.new.streams) taken.sent inv.drawn in
    let sized : length (take c.min-fits.result c.take_piece.new.buffer) ≡ c.min-fits.result = omega (
      arith,
      length-take c.min-fits.result c.take_piece.new.buffer,
      taken.sized,
      taken.fits,
      c.min-fits.ensures,
    ) in
    let all : c.min-fits.result ≡ c.in_ok-count.count = omega (arith, c.min-fits.ensures, c.if-count-room.false) in
    record {
      sized = taken.sized;
      within = omega (arith, c.min-fits.ensures, inv.within);
      counted = counted_more c.args.every c.pieces.taken c.min-fits.result
          (take c.min-fits.result c.take_piece.new.buffer) c.pieces.decoder c.draw_piece.new.decoder
          c.pieces.client c.draw_piece.new.client (sent c.take_piece.new.streams)
          (sent c.draw_piece.new.streams) inv.counted sized made.done.0;
      unended = made.done.1;
      drawn = drawn_piece c.args.every o (left c.pieces.streams) (left c.draw_piece.new.streams) c.min-fits.result c.in_ok-count.count
          c.take_piece.new.buffer (take c.min-fits.result c.take_piece.new.buffer) c.pieces.decoder c.draw_piece.new.decoder c.pieces.client
          c.draw_piece.new.client
          before (sent c.take_piece.new.streams) (sent c.draw_piece.new.streams) taken.given (made.left
          ∙ taken.left) all refl made.done.0 drawn;
      read_faults = made.read_faults ∙ taken.quiet_reads (done_is_no_err _ _) ∙ inv.read_faults;
      send_faults = made.quiet_sends (done_is_no_err _ _) ∙ taken.send_faults ∙ inv.send_faults;
      disk = stays_then (view c.args.streams.now) (view c.take_piece.new.streams) (view c.draw_piece.new.streams)
          (stays_then (view c.args.streams.now) (view c.pieces.streams) (view c.take_piece.new.streams) inv.disk
          (stays_taken (view c.pieces.streams) (view c.take_piece.new.streams)
          (g.met.S.World.take_keeps c.pieces.streams c.take_piece.new.streams taken.beside)
          (g.met.S.World.take_passes c.pieces.streams c.take_piece.new.streams taken.beside))) made.disk;
    }

pub returns-in_err-count-clause-disk : goal.returns-in_err-count-clause-disk
returns-in_err-count-clause-disk g c =
    let view = g.S.Disk.view in
    let at = c.pieces.streams in
    let mid = c.take_piece.new.streams in
    let beside = c.in_err-count.ensures.beside in
    stays_then (view c.args.streams.now) (view at) (view mid) c.pieces.invariant.disk
    (stays_taken (view at) (view mid) (g.met.S.World.take_keeps at mid beside) (g.met.S.World.take_passes at mid beside))

pub returns-then-count-eq0-clause-disk : goal.returns-then-count-eq0-clause-disk
returns-then-count-eq0-clause-disk g c =
    let view = g.S.Disk.view in
    let at = c.pieces.streams in
    let mid = c.take_piece.new.streams in
    let beside = c.in_ok-count.ensures.beside in
    stays_then (view c.args.streams.now) (view at) (view mid) c.pieces.invariant.disk
    (stays_taken (view at) (view mid) (g.met.S.World.take_keeps at mid beside) (g.met.S.World.take_passes at mid beside))

pub returns-in_err-draw_piece-clause-disk : goal.returns-in_err-draw_piece-clause-disk
returns-in_err-draw_piece-clause-disk g c =
    let view = g.S.Disk.view in
    let at = c.pieces.streams in
    let mid = c.take_piece.new.streams in
    let beside = c.in_ok-count.ensures.beside in
    stays_then (view c.args.streams.now) (view mid) (view c.draw_piece.new.streams)
    (stays_then (view c.args.streams.now) (view at) (view mid) c.pieces.invariant.disk
    (stays_taken (view at) (view mid) (g.met.S.World.take_keeps at mid beside) (g.met.S.World.take_passes at mid beside)))
    c.in_err-draw_piece.ensures.disk

pub returns-then-count-room-clause-disk : goal.returns-then-count-room-clause-disk
returns-then-count-room-clause-disk g c =
    let view = g.S.Disk.view in
    let at = c.pieces.streams in
    let mid = c.take_piece.new.streams in
    let beside = c.in_ok-count.ensures.beside in
    stays_then (view c.args.streams.now) (view mid) (view c.draw_piece.new.streams)
    (stays_then (view c.args.streams.now) (view at) (view mid) c.pieces.invariant.disk
    (stays_taken (view at) (view mid) (g.met.S.World.take_keeps at mid beside) (g.met.S.World.take_passes at mid beside)))
    c.in_ok-draw_piece.ensures.disk
