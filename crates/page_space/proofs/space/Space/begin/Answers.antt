-- A transaction that was begun leaves the pages as they are.
use Rattle.page_space.proofs.Changing.{begun_stands}
use Rattle.page_space.proofs.space.Space.begin.Goals as goal

pub returns-clause-stands : goal.returns-clause-stands
returns-clause-stands g c = begun_stands c.new.result c.args.self.now.superblock c.new.ensures.superblock c.new.ensures.first
