use Rattle.std.proofs.Common.{refl}
use Rattle.chart_world.specs.FaultLaws.{counts_none, counts_kept, counts_unsent}
use Rattle.store_commands.proofs.sending.send_text.Goals as goal

pub returns-in_default-clause-faults : goal.returns-in_default-clause-faults
returns-in_default-clause-faults g c =
    let old = g.W.Disk.view c.args.world in
    counts_none old old refl refl refl

pub returns-in-Ok-send-clause-faults : goal.returns-in-Ok-send-clause-faults
returns-in-Ok-send-clause-faults g c =
    let view = g.W.Disk.view in
    let w = g.met.W.World in
    let old = c.args.world in
    let new = c.send.new.self in
    let e = c.send.ensures in
    counts_kept view g.W.Streams.read_faults g.W.Streams.send_faults w.beside_read_faults w.beside_send_faults old new
    (w.send_keeps _ old new e.beside) e.read_faults c.in-Ok-send.ensures.quiet

pub returns-clause-faults : goal.returns-clause-faults
returns-clause-faults g c =
    let view = g.W.Disk.view in
    let w = g.met.W.World in
    let old = c.args.world in
    let new = c.send.new.self in
    let e = c.send.ensures in
    counts_unsent view g.W.Streams.read_faults g.W.Streams.send_faults w.beside_read_faults w.beside_send_faults old new
    (w.send_keeps _ old new e.beside) e.read_faults c.in-Err.ensures.cause
