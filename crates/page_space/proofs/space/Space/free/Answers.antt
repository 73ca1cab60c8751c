-- A page in use is freed.
use Rattle.std.proofs.Common.{◌≡◌, ◌≢◌, ℕ, ◌<◌, Some, arith, rules}
use Rattle.page_space.specs.Layout.{freed_page}
use Rattle.page_space.specs.Transactions.{held_page, left_by}
use Rattle.page_space.proofs.Changing.{free_stands}
use Rattle.page_space.proofs.Spacing.{gives}
use Rattle.page_space.proofs.space.Space.free.Goals as goal
use Rattle.page_space.proofs.space.Space.free.Goals.{then-p-lt-FIRST-via-then-p-lt-FIRST}
use Rattle.page_space.proofs.space.Space.free.Goals.{then-p-lt-FIRST-via-else-p-lt-FIRST+then-p-superblock}
use Rattle.page_space.proofs.space.Space.free.Goals.{then-p-lt-FIRST-via-else-p-lt-FIRST+else-p-superblock+then-superblock}

pub returns-then-p-lt-FIRST-clause-stands : goal.returns-then-p-lt-FIRST-clause-stands
returns-then-p-lt-FIRST-clause-stands g c = λ count image taken rest freed stands parts.
    let can = gives count (left_by c.args.txn.now image) c.args.txn.now.superblock c.args.p taken rest freed parts stands in
    absurd (elim c.then-p-lt-FIRST.branch [
      | then-p-lt-FIRST-via-then-p-lt-FIRST w ↦ omega (arith, can.0.0, w.if-p-lt-FIRST.true)
      | then-p-lt-FIRST-via-else-p-lt-FIRST+then-p-superblock w ↦ omega (arith, can.0.1, w.if-p-superblock.true)
      | then-p-lt-FIRST-via-else-p-lt-FIRST+else-p-superblock+then-superblock w ↦ omega (arith, can.1, w.if-superblock.true)
    ])

pub returns-clause-stands : goal.returns-clause-stands
returns-clause-stands g c = λ count image taken rest freed.
    let old = c.args.txn.now in
    let new = c.settle.new.self in
    let page : held_page new c.args.p ≡ Some (freed_page old.superblock.head) = search rules in
    let others : (q : ℕ) → 0 < q → q ≢ c.args.p → held_page new q ≡ held_page old q = search rules in
    free_stands old new image c.args.p c.settle.ensures.superblock page others count taken rest freed
