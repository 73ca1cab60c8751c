use Rattle.std.proofs.Common.{◌<◌, length, ap, subst, sym, refl, ◌∙◌, arith}
use Rattle.chart_frames.specs.declared.frame.Frame.TheVariants.{View as AView}
use Rattle.std.proofs.Common.{Some}
use Rattle.draw_command.specs.declared.draw_end.DrawEnd.{DrawEnd}
use Rattle.draw_command.specs.Draws.{CoversStop}
use Rattle.draw_command.proofs.Errors.{done_is_no_err, error_so}
use Rattle.draw_command.proofs.DiskKept.{stays_none, stays_then}
use Rattle.draw_command.proofs.CoverLemmas.{begun_so, covers_all, covers_begun, covers_end, cover_of, covers_stop, covers_more}
use Rattle.draw_command.proofs.CoverLemmas.{covers_unopened}
use Rattle.draw_command.proofs.covers.send_view_covers.Goals as goal

pub covers-init : goal.covers-init
covers-init g c =
    let begun = begun_so c.in_ok-progress.progress c.args.view.now c.args.client.now 0 c.in_ok-progress.ensures.begun in
    record {
      view = begun.0;
      holdings = begun.1;
      sent = covers_begun c.args.every c.args.view.now c.args.client.now c.in_ok-progress.progress.taken
          (g.S.Streams.sent c.args.streams.now) begun.2;
      send_faults = refl;
      left = refl;
      read_faults = refl;
      disk = stays_none (g.S.Disk.view c.args.streams.now);
    }

pub returns-in_err-send_picture-clause-stops : goal.returns-in_err-send_picture-clause-stops
returns-in_err-send_picture-clause-stops g c =
    let sent = g.S.Streams.sent in
    let inv = c.covers.invariant in
    let before = sent c.args.streams.now in
    let later = sent c.send_picture.new.streams in
    let more : c.covers.progress.taken < length c.args.view.now.coefs = omega (
      arith,
      c.covers-test.true,
      c.taken.ensures,
      c.requires.fits.count,
    ) in
    let draws = cover_of c.covers.progress c.args.view.now c.args.client.now c.in_ok-cover.cover inv.view inv.holdings c.in_ok-cover.ensures
    in
    let stops = covers_stop c.args.every c.args.view.now c.args.client.now c.covers.progress.taken c.in_ok-cover.cover before
    (sent c.covers.streams) later c.in_err-send_picture.field-0.0 more draws inv.sent c.in_err-send_picture.ensures.stops in
    let E : DrawEnd → Type 0 = λ x. CoversStop (Some c.args.every) (AView c.args.view.now) c.args.client.now before later x in
    error_so _ E c.from_residual-in_err-send_picture.result c.from_residual-in_err-send_picture.ensures.1 (λ x is. subst E (sym is) stops)

pub covers-preserved : goal.covers-preserved
covers-preserved g c =
    let sent = g.S.Streams.sent in
    let view = g.S.Disk.view in
    let inv = c.covers.invariant in
    let made = c.in_ok-send_picture.ensures in
    let before = sent c.args.streams.now in
    let later = sent c.send_picture.new.streams in
    let next = c.advance_by.ensures in
    let more : c.covers.progress.taken < length c.args.view.now.coefs = omega (
      arith,
      c.covers-test.true,
      c.taken.ensures,
      c.requires.fits.count,
    ) in
    let draws = cover_of c.covers.progress c.args.view.now c.args.client.now c.in_ok-cover.cover inv.view inv.holdings c.in_ok-cover.ensures
    in
    record {
      view = next.view ∙ inv.view;
      holdings = next.holdings ∙ inv.holdings;
      sent = covers_more c.args.every c.args.view.now c.args.client.now c.covers.progress.taken c.advance_by.new.self.taken
          c.in_ok-cover.cover before (sent c.covers.streams) later
          more draws made.done (omega (arith, next.taken, ap (λ v. length v.coefs) inv.view)) inv.sent;
      send_faults = made.quiet_sends (done_is_no_err _ _) ∙ inv.send_faults;
      left = made.left ∙ inv.left;
      read_faults = made.read_faults ∙ inv.read_faults;
      disk = stays_then (view c.args.streams.now) (view c.covers.streams) (view c.send_picture.new.streams) inv.disk made.disk;
    }

pub returns-in_err-progress-clause-disk : goal.returns-in_err-progress-clause-disk
returns-in_err-progress-clause-disk g c = stays_none (g.S.Disk.view c.args.streams.now)

pub returns-in_err-cover-clause-disk : goal.returns-in_err-cover-clause-disk
returns-in_err-cover-clause-disk g c = c.covers.invariant.disk

pub returns-in_err-send_picture-clause-disk : goal.returns-in_err-send_picture-clause-disk
returns-in_err-send_picture-clause-disk g c =
    let view = g.S.Disk.view in
    stays_then (view c.args.streams.now) (view c.covers.streams)
    (view c.send_picture.new.streams) c.covers.invariant.disk c.in_err-send_picture.ensures.disk

pub returns-clause-disk : goal.returns-clause-disk
returns-clause-disk g c = c.covers.invariant.disk

pub returns-in_err-progress-clause-stops : goal.returns-in_err-progress-clause-stops
returns-in_err-progress-clause-stops g c =
    let failed = c.in_err-progress.ensures in
    error_so _ _ c.from_residual.result c.from_residual.ensures.1
    (λ e is. covers_unopened c.args.every c.args.view.now c.args.client.now
    (g.S.Streams.sent c.args.streams.now) c.in_err-progress.field-0.0 e failed.refused failed.not_open is)

pub returns-in_err-cover-clause-stops : goal.returns-in_err-cover-clause-stops
returns-in_err-cover-clause-stops g c =
    let sent = g.S.Streams.sent in
    error_so _ _ c.from_residual-in_err-cover.result c.from_residual-in_err-cover.ensures.1
    (λ e is. covers_end c.args.every c.args.view.now c.args.client.now c.covers.progress.taken (sent c.args.streams.now)
    (sent c.covers.streams) e is c.covers.invariant.sent)

pub returns-clause-done : goal.returns-clause-done
returns-clause-done g c =
    let sent = g.S.Streams.sent in
    covers_all c.args.every c.args.view.now c.args.client.now c.covers.progress.taken (sent c.args.streams.now) (sent c.covers.streams)
    (omega (arith, c.covers-test.false, c.taken.ensures, c.requires.fits.count)) c.covers.invariant.sent
