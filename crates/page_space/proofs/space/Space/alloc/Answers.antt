-- A page that was taken wasn't in use, and none is damaged where the pages stand.
use Rattle.std.proofs.lemmas.Result.{err_from_is_err_and}
use Rattle.page_space.specs.Transactions.{left_by}
use Rattle.page_space.proofs.Taken.{taken_stands_at, undamaged}
use Rattle.page_space.proofs.space.Space.alloc.Goals as goal

pub returns-in_err-p-clause-undamaged : goal.returns-in_err-p-clause-undamaged
returns-in_err-p-clause-undamaged g c = λ is count page taken freed stands.
    let before = g.P.Pages.view c.args.self.now.pages in
    let p = err_from_is_err_and c.from_residual.result c.from_residual.ensures.1 in
    rw (p.1, p.2) (undamaged (g.P.Pages.told c.args.self.now.pages)
    (left_by c.args.txn.now before.image) c.args.txn.now.superblock count page taken freed c.in_err-p.field-0.0 before.faults
    (g.P.Pages.view c.next_free.new.self.pages).faults is stands c.in_err-p.ensures.cause)

pub returns-clause-stands : goal.returns-clause-stands
returns-clause-stands g c = λ is. taken_stands_at (g.P.Pages.told c.args.self.now.pages) c.args.txn.now c.settle.new.self
    c.in_ok-p.superblock (g.P.Pages.view c.args.self.now.pages).image c.in_ok-p.p is c.settle.ensures.superblock c.in_ok-p.ensures.small.0
    c.in_ok-p.ensures.small.1 c.settle.ensures.first c.in_ok-p.ensures.takes
