use Rattle.std.proofs.lemmas.Result.{on_ok_weaker}
use Rattle.block_disk.specs.MemDisk.{alone}
use Rattle.block_disk.specs.View.{Nowhere}
use Rattle.chart_world.specs.Timed.{moves_timed, only_timed, dated_later}
use Rattle.chart_world.proofs.mem_beside.MemWorldDisk.sync.Goals as goal

pub returns-clause-moves : goal.returns-clause-moves
returns-clause-moves g c =
    let self = c.args.self.now in
    moves_timed Nowhere 0 1 0 (g.D.Disk.view self.disk) (g.D.Disk.view c.sync.new.self) self.log.items _ self.dated c.sync.ensures.moves

pub returns-clause-durable : goal.returns-clause-durable
returns-clause-durable g c =
    let self = c.args.self.now in
    let disk = g.D.Disk.view self.disk in
    let disk' = g.D.Disk.view c.sync.new.self in
    on_ok_weaker c.sync.result (only_timed disk' self.log.items alone
    (dated_later disk.clock disk'.clock self.log.items c.sync.ensures.moves.time.later self.dated)) c.sync.ensures.durable
