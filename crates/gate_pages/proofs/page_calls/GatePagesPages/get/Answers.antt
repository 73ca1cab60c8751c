use Rattle.gate_pages.proofs.PageCalls.{reads_page, page_read}
use Rattle.gate_pages.proofs.page_calls.GatePagesPages.get.Goals as goal

pub returns-clause-page : goal.returns-clause-page
returns-clause-page g c honest =
    let self = c.args.self.now in
    page_read self.count (g.D.Disk.view self.disk) c.args.p c.read_block.new.out (self.at_rest c.requires.sound) honest
    (c.in_ok-read_block.ensures.bytes honest)

pub returns-clause-reads : goal.returns-clause-reads
returns-clause-reads g c =
    let self = c.args.self.now in
    reads_page self.count self.sound (g.D.Disk.view self.disk) (g.D.Disk.view c.read_block.new.self) c.read_block.ensures.moves

pub returns-in_err-read_block-clause-reads : goal.returns-in_err-read_block-clause-reads
returns-in_err-read_block-clause-reads g c =
    let self = c.args.self.now in
    reads_page self.count self.sound (g.D.Disk.view self.disk) (g.D.Disk.view c.read_block.new.self) c.read_block.ensures.moves
