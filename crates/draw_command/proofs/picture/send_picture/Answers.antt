use Rattle.draw_command.proofs.DiskKept.{stays_none, stays_sent}
use Rattle.draw_command.proofs.picture.send_picture.Goals as goal

pub returns-in_err-bytes-clause-disk : goal.returns-in_err-bytes-clause-disk
returns-in_err-bytes-clause-disk g c = stays_none (g.S.Disk.view c.args.streams.now)

pub returns-then-is_err-clause-disk : goal.returns-then-is_err-clause-disk
returns-then-is_err-clause-disk g c =
    let at = c.args.streams.now in
    let later = c.send.new.self in
    stays_sent (g.S.Disk.view at) (g.S.Disk.view later) (g.met.S.World.send_keeps _ at later c.send.ensures.beside)
    (g.met.S.World.send_passes _ at later c.send.ensures.beside)

pub returns-clause-disk : goal.returns-clause-disk
returns-clause-disk g c =
    let at = c.args.streams.now in
    let later = c.send.new.self in
    stays_sent (g.S.Disk.view at) (g.S.Disk.view later) (g.met.S.World.send_keeps _ at later c.send.ensures.beside)
    (g.met.S.World.send_passes _ at later c.send.ensures.beside)
