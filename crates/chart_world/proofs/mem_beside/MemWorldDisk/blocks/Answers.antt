use Rattle.block_disk.specs.View.{Nowhere}
use Rattle.chart_world.specs.Timed.{moves_timed}
use Rattle.chart_world.proofs.mem_beside.MemWorldDisk.blocks.Goals as goal

pub returns-clause-moves : goal.returns-clause-moves
returns-clause-moves g c =
    let self = c.args.self.now in
    moves_timed Nowhere 0 0 0 (g.D.Disk.view self.disk)
    (g.D.Disk.view c.blocks-2.new.self) self.log.items _ self.dated c.blocks-2.ensures.moves
