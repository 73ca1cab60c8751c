-- A copy that is renewed is the new page.
use Rattle.gate_pages.specs.Batch.{put_all}
use Rattle.gate_pages.specs.Entries.{entries}
use Rattle.page_space.specs.Copies.{copies_in, renewed}
use Rattle.page_space.proofs.Caching.{copies_on, copies_same, copies_renewed}
use Rattle.page_space.proofs.space.Space.commit.Goals as goal

pub invariant_of-self-2-clause-copied : goal.invariant_of-self-2-clause-copied
invariant_of-self-2-clause-copied g c = λ fit told.
    let old = c.args.self.now in
    let was = c.commit.ensures.commits.was_told told in
    let batch = entries c.args.txn.batch in
    let before = (g.P.Pages.view old.pages).image in
    let after = (g.P.Pages.view c.commit.new.self).image in
    let copies = copies_in old.cache in
    copies_same after (renewed batch copies) (copies_in c.renew.new.self) c.renew.ensures
    (copies_on (put_all batch before) after (renewed batch copies) (c.in_ok-commit.ensures.done was)
    (copies_renewed before batch copies (old.copied c.requires.sound was)))
