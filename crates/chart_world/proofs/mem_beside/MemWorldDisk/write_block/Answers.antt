use Rattle.block_disk.specs.MemDisk.{alone}
use Rattle.block_disk.specs.View.{At}
use Rattle.chart_world.specs.Timed.{moves_timed, now_disk}
use Rattle.chart_world.proofs.mem_beside.MemWorldDisk.write_block.Goals as goal

pub returns-clause-moves : goal.returns-clause-moves
returns-clause-moves g c =
    let self = c.args.self.now in
    moves_timed (At c.args.no) 0 0 1 (g.D.Disk.view self.disk)
    (g.D.Disk.view c.write_block.new.self) self.log.items _ self.dated c.write_block.ensures.moves

pub returns-clause-written : goal.returns-clause-written
returns-clause-written g c honest =
    let self = c.args.self.now in
    let disk = g.D.Disk.view self.disk in
    c.write_block.ensures.written (now_disk disk self.log.items alone disk.image self.dated honest)
