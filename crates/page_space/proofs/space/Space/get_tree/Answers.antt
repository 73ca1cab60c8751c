-- A note of a copy leaves the copies, and is made once.
use Rattle.std.proofs.Common.{◌∙◌}
use Rattle.page_space.specs.Copies.{copies_in}
use Rattle.page_space.proofs.Caching.{copies_same}
use Rattle.page_space.proofs.space.Space.get_tree.Goals as goal

pub invariant_of-self-clause-copied : goal.invariant_of-self-clause-copied
invariant_of-self-clause-copied g c = λ fit told.
    let space = c.get.new.self in
    copies_same (g.P.Pages.view space.pages).image (copies_in space.cache) (copies_in c.note.new.self) c.note.ensures
    (space.copied fit told)

pub returns-clause-kept : goal.returns-clause-kept
returns-clause-kept g c = c.note.ensures c.args.p ∙ c.in_ok-get.ensures.kept

pub returns-clause-others : goal.returns-clause-others
returns-clause-others g c = λ q off. c.note.ensures q ∙ c.get.ensures.others q off
