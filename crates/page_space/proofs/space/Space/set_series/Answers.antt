-- Which pages are in use and which are freed stays.
use Rattle.page_space.proofs.Changing.{series_stands}
use Rattle.page_space.proofs.space.Space.set_series.Goals as goal

pub returns-clause-stands : goal.returns-clause-stands
returns-clause-stands g c = λ count image taken freed.
    series_stands c.args.txn.now c.settle.new.self image c.args.n c.requires.few c.settle.ensures.superblock c.settle.ensures.first count
    taken freed
