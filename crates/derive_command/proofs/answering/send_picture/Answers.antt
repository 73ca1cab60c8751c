use Rattle.std.proofs.Common.{length, arith}
use Rattle.chart_world.specs.FaultLaws.{counts_kept, counts_unsent}
use Rattle.series_store.specs.Shown as shown
use Rattle.pbm_writer.specs.Picture.{picture}
use Rattle.derive_command.proofs.answering.send_picture.Goals as goal

pub returns-in_default-clause-beside : goal.returns-in_default-clause-beside
returns-in_default-clause-beside g c =
    let at = c.args.store.now in
    shown.keeps_none at (g.met.P.Streams.sends_more 0 (length (picture c.args.chart.now)) (shown.pages at) (shown.pages at) (omega arith)
    (g.met.P.Streams.sends_none (shown.pages at)))

pub returns-in-Ok-send-clause-faults : goal.returns-in-Ok-send-clause-faults
returns-in-Ok-send-clause-faults g c =
    let w = g.met.P.PageWorld in
    let view = g.P.Pages.view in
    let reads = g.P.Streams.read_faults in
    let sends = g.P.Streams.send_faults in
    let old = shown.pages c.args.store.now in
    let new = shown.pages c.send.new.self in
    let kept = w.send_keeps _ old new c.send.ensures.beside.pages_are in
    counts_kept view reads sends w.beside_read_faults w.beside_send_faults old new kept c.send.ensures.read_faults
    c.in-Ok-send.ensures.quiet

pub returns-clause-faults : goal.returns-clause-faults
returns-clause-faults g c =
    let w = g.met.P.PageWorld in
    let view = g.P.Pages.view in
    let reads = g.P.Streams.read_faults in
    let sends = g.P.Streams.send_faults in
    let old = shown.pages c.args.store.now in
    let new = shown.pages c.send.new.self in
    let kept = w.send_keeps _ old new c.send.ensures.beside.pages_are in
    counts_unsent view reads sends w.beside_read_faults w.beside_send_faults old new kept c.send.ensures.read_faults c.in-Err.ensures.cause
