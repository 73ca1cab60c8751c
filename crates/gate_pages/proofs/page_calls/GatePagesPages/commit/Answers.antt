use Rattle.gate_pages.specs.GatePages.{pages_view}
use Rattle.std.proofs.Common.{true, false}
use Rattle.gate_pages.specs.Entries.{entries}
use Rattle.gate_pages.proofs.PageCalls.{commits_batch, committed, lies_within, goes_on, commits_none}
use Rattle.gate_pages.proofs.Puts.{numbers_below}
use Rattle.gate_pages.proofs.page_calls.GatePagesPages.commit.Goals as goal

pub redo-requires-clause-within : goal.redo-requires-clause-within
redo-requires-clause-within g c =
    let self = c.args.self.now in
    lies_within self.count (g.D.Disk.view self.disk).size (entries c.args.batch.now) self.few self.within c.requires.below

pub returns-in_err-redo-clause-commits : goal.returns-in_err-redo-clause-commits
returns-in_err-redo-clause-commits g c =
    let self = c.args.self.now in
    let batch = entries c.args.batch.now in
    commits_batch self.count self.sound false batch (g.D.Disk.view self.disk) (g.D.Disk.view c.redo.new.disk) c.redo.ensures.moves
    (c.redo.ensures.moments self.count (numbers_below self.count batch c.requires.below))

pub returns-clause-commits : goal.returns-clause-commits
returns-clause-commits g c =
    let self = c.args.self.now in
    let batch = entries c.args.batch.now in
    commits_batch self.count self.sound true batch (g.D.Disk.view self.disk) (g.D.Disk.view c.redo.new.disk) c.redo.ensures.moves
    (c.redo.ensures.moments self.count (numbers_below self.count batch c.requires.below))

pub returns-clause-done : goal.returns-clause-done
returns-clause-done g c honest =
    let self = c.args.self.now in
    committed self.count (entries c.args.batch.now) (g.D.Disk.view self.disk) (g.D.Disk.view c.redo.new.disk)
    (self.at_rest c.requires.sound) c.in_ok-redo.ensures.closed honest (c.redo.ensures.moves.honest honest)
    (c.in_ok-redo.ensures.done honest)

pub returns-then-len-eq0-clause-commits : goal.returns-then-len-eq0-clause-commits
returns-then-len-eq0-clause-commits g c =
    let self = c.args.self.now in
    commits_none (entries c.args.batch.now) _ (pages_view self.count self.sound (g.D.Disk.view self.disk))

pub returns-in_err-redo-clause-goes_on : goal.returns-in_err-redo-clause-goes_on
returns-in_err-redo-clause-goes_on g c = goes_on c.redo.ensures.moves.time

pub returns-clause-goes_on : goal.returns-clause-goes_on
returns-clause-goes_on g c = goes_on c.redo.ensures.moves.time
