use Rattle.std.proofs.Common.{◌≡◌, ◌≤◌, ◌+◌, ℕ, List, true, false, length, Ok, refl, ap, subst, rules, inr, arith}
use Rattle.std.specs.Prelude.{is_err}
use Rattle.block_disk.specs.Counts.{HasRisen}
use Rattle.block_disk.specs.Streams.{PartSent, sent_after}
use Rattle.block_disk.specs.View.{View, Now, Passes, sent_now}
use Rattle.chart_frames.specs.declared.frame.Frame.{Frame}
use Rattle.page_space.specs.declared.superblock.Superblock.{Superblock}
use Rattle.series_catalog.specs.Shown.{series_in}
use Rattle.series_catalog.specs.declared.catalog.Catalog.{Catalog}
use Rattle.chart_world.specs.FaultLaws.{counts_kept, counts_unsent}
use Rattle.chart_service.specs.MomentLaws.{through_by, through_none}
use Rattle.chart_service.specs.Making.{Makes, FrameMoments, ReplySent}
use Rattle.chart_service.specs.Shown as shown
use Rattle.chart_service.proofs.Ends.{differ, stays}
use Rattle.chart_service.proofs.Faulting.{of_err, of_ok}
use Rattle.chart_service.proofs.PagesKept.{pages_none}
use Rattle.chart_service.proofs.answers.send_reply.Goals as goal

reply_passes : {S F : Type 0} (makes : Makes S F) (kept new : S) (frame : Frame) (bytes piece : List ℕ) (before now : View)
    → makes kept frame (Ok bytes) new → piece ≡ bytes
    → Passes before now (Now before) (λ count. (sent_now before ≤ count) × (count ≤ sent_now now))
    → sent_now now ≤ sent_now before + length piece → FrameMoments makes kept frame before now
reply_passes makes kept new frame bytes piece before now made is passes counts =
    through_by before now (Now before) (λ count. (sent_now before ≤ count) × (count ≤ sent_now now)) (λ image count. Now before image
    × ReplySent makes kept frame (sent_now before) count) passes
    (λ image count left sent. (left, inr (bytes, new, made, sent.0, omega (arith, sent.1, counts, ap length is))))

pub returns-in-Err : goal.returns-in-Err
returns-in-Err g c =
    let pages = shown.pages c.args.service.now in
    let view = g.P.Pages.view pages in
    record {
      done = tt;
      stops = (refl, c.in-Err.ensures.fails);
      moments = through_none view _;
      ends = tt;
      send = λ fault. differ fault refl;
      faults = refl;
      keeps = pages_none (g.P.Pages.told pages) view (g.P.Pages.under pages);
      total = refl;
      catalog = refl;
      sessions = refl;
      left = refl;
      read_faults = refl;
      send_faults = stays _ _ refl;
      pieces = refl;
    }

pub returns-then-is_err : goal.returns-then-is_err
returns-then-is_err g c =
    let pages = shown.pages c.args.service.now in
    let sent = shown.pages c.send.new.self in
    let view = g.P.Pages.view in
    let bytes = c.in-Ok.bytes.items in
    let faults = g.P.Streams.send_faults in
    let failed : is_err c.send.result ≡ true = search rules in
    let sends = c.send.ensures.beside.store_is.pages_are in
    let kept = g.met.P.PageWorld.send_keeps _ pages sent sends in
    let risen = of_err c.send.result (HasRisen (faults pages) (faults sent)) failed c.send.ensures.cause in
    record {
      done = tt;
      stops = (
        bytes,
        c.in-Ok.ensures.bytes,
        subst (λ (piece : List ℕ). PartSent piece (g.P.Streams.sent pages) (g.P.Streams.sent sent)) c.as_slice.ensures.value
            (of_err c.send.result (PartSent c.as_slice.result.now (g.P.Streams.sent pages) (g.P.Streams.sent sent)) failed
            c.send.ensures.part),
      );
      moments = reply_passes g.R.Reply.makes c.args.kept.now c.make.new.kept c.args.frame.now bytes c.as_slice.result.now (view pages)
          (view sent) c.in-Ok.ensures.bytes c.as_slice.ensures.value (g.met.P.PageWorld.send_passes _ pages sent sends)
          (g.met.P.PageWorld.send_counts _ pages sent sends);
      ends = tt;
      send = λ fault. risen;
      faults = counts_unsent view g.P.Streams.read_faults faults g.met.P.PageWorld.beside_read_faults g.met.P.PageWorld.beside_send_faults
          pages sent kept c.send.ensures.read_faults risen;
      keeps = record {
        disk = kept;
        told = g.met.P.PageWorld.send_told _ pages sent sends;
        was_told = g.met.P.PageWorld.send_was_told _ pages sent sends;
        goes_on = g.met.P.PageWorld.send_goes_on _ pages sent sends;
      };
      total = ap (λ (s : Superblock). s.total) c.send.ensures.beside.store_is.superblock;
      catalog = ap (λ (x : Catalog). series_in x) c.send.ensures.beside.store_is.catalog;
      sessions = c.send.ensures.beside.sessions;
      left = c.send.ensures.left;
      read_faults = c.send.ensures.read_faults;
      send_faults = c.send.ensures.send_faults;
      pieces = c.send.ensures.pieces;
    }

pub returns : goal.returns
returns g c =
    let pages = shown.pages c.args.service.now in
    let sent = shown.pages c.send.new.self in
    let view = g.P.Pages.view in
    let bytes = c.in-Ok.bytes.items in
    let faults = g.P.Streams.send_faults in
    let done : is_err c.send.result ≡ false = search rules in
    let sends = c.send.ensures.beside.store_is.pages_are in
    let kept = g.met.P.PageWorld.send_keeps _ pages sent sends in
    record {
      done = (
        bytes,
        c.in-Ok.ensures.bytes,
        subst (λ (piece : List ℕ). g.P.Streams.sent sent ≡ sent_after piece (g.P.Streams.sent pages)) c.as_slice.ensures.value
            (of_ok c.send.result (g.P.Streams.sent sent ≡ sent_after c.as_slice.result.now (g.P.Streams.sent pages)) done
            c.send.ensures.whole),
      );
      stops = tt;
      moments = reply_passes g.R.Reply.makes c.args.kept.now c.make.new.kept c.args.frame.now bytes c.as_slice.result.now (view pages)
          (view sent) c.in-Ok.ensures.bytes c.as_slice.ensures.value (g.met.P.PageWorld.send_passes _ pages sent sends)
          (g.met.P.PageWorld.send_counts _ pages sent sends);
      ends = tt;
      send = λ fault. differ fault refl;
      faults = counts_kept view g.P.Streams.read_faults faults g.met.P.PageWorld.beside_read_faults g.met.P.PageWorld.beside_send_faults
          pages sent kept c.send.ensures.read_faults
          (of_ok c.send.result (faults sent ≡ faults pages) done c.send.ensures.quiet);
      keeps = record {
        disk = kept;
        told = g.met.P.PageWorld.send_told _ pages sent sends;
        was_told = g.met.P.PageWorld.send_was_told _ pages sent sends;
        goes_on = g.met.P.PageWorld.send_goes_on _ pages sent sends;
      };
      total = ap (λ (s : Superblock). s.total) c.send.ensures.beside.store_is.superblock;
      catalog = ap (λ (x : Catalog). series_in x) c.send.ensures.beside.store_is.catalog;
      sessions = c.send.ensures.beside.sessions;
      left = c.send.ensures.left;
      read_faults = c.send.ensures.read_faults;
      send_faults = c.send.ensures.send_faults;
      pieces = c.send.ensures.pieces;
    }
