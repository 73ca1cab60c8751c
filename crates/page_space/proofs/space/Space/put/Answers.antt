-- Other pages than those of the chain may change.
use Rattle.page_space.proofs.Changing.{put_stands}
use Rattle.page_space.proofs.space.Space.put.Goals as goal

pub returns-clause-stands : goal.returns-clause-stands
returns-clause-stands g c = λ count image taken freed.
    put_stands c.args.txn.now c.put.new.self image c.args.p c.args.bytes.now c.requires.first c.put.ensures.superblock c.put.ensures.page
    count taken freed
