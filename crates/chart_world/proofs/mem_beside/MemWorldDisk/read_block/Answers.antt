use Rattle.block_disk.specs.MemDisk.{alone}
use Rattle.block_disk.specs.View.{Nowhere}
use Rattle.chart_world.specs.Timed.{moves_timed, now_disk}
use Rattle.chart_world.proofs.mem_beside.MemWorldDisk.read_block.Goals as goal

pub returns-clause-moves : goal.returns-clause-moves
returns-clause-moves g c =
    let self = c.args.self.now in
    moves_timed Nowhere 1 0 0 (g.D.Disk.view self.disk)
    (g.D.Disk.view c.read_block.new.self) self.log.items _ self.dated c.read_block.ensures.moves

pub returns-clause-bytes : goal.returns-clause-bytes
returns-clause-bytes g c honest =
    let self = c.args.self.now in
    let disk = g.D.Disk.view self.disk in
    c.read_block.ensures.bytes (now_disk disk self.log.items alone disk.image self.dated honest)
