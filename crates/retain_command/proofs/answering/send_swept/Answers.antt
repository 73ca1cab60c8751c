use Rattle.std.proofs.Common.{length, arith}
use Rattle.chart_world.specs.FaultLaws.{counts_kept, counts_unsent}
use Rattle.series_store.specs.Shown as shown
use Rattle.retain_command.specs.Answers.{swept_text}
use Rattle.retain_command.proofs.answering.send_swept.Goals as goal

pub returns-in_default-clause-beside : goal.returns-in_default-clause-beside
returns-in_default-clause-beside g c =
    let at = c.args.store.now in
    shown.keeps_none at (g.met.P.Streams.sends_more 0 (length (swept_text c.args.swept.clears c.args.swept.used)) (shown.pages at)
    (shown.pages at) (omega arith) (g.met.P.Streams.sends_none (shown.pages at)))

pub returns-in-Ok-send-clause-faults : goal.returns-in-Ok-send-clause-faults
returns-in-Ok-send-clause-faults g c =
    let w = g.met.P.PageWorld in
    let before = shown.pages c.args.store.now in
    let after = shown.pages c.send.new.self in
    let kept = w.send_keeps _ before after c.send.ensures.beside.pages_are in
    counts_kept g.P.Pages.view g.P.Streams.read_faults g.P.Streams.send_faults w.beside_read_faults w.beside_send_faults before after kept
    c.send.ensures.read_faults c.in-Ok-send.ensures.quiet

pub returns-clause-faults : goal.returns-clause-faults
returns-clause-faults g c =
    let w = g.met.P.PageWorld in
    let before = shown.pages c.args.store.now in
    let after = shown.pages c.send.new.self in
    let kept = w.send_keeps _ before after c.send.ensures.beside.pages_are in
    counts_unsent g.P.Pages.view g.P.Streams.read_faults g.P.Streams.send_faults w.beside_read_faults w.beside_send_faults before after kept
    c.send.ensures.read_faults c.in-Err.ensures.cause
