-- The pages stay, and with them what the cache has of them.
use Rattle.page_space.specs.Copies.{copies_in}
use Rattle.page_space.proofs.Caching.{copies_on}
use Rattle.page_space.proofs.space_streams.SpaceStreams.take.Goals as goal

pub invariant_of-self-clause-copied : goal.invariant_of-self-clause-copied
invariant_of-self-clause-copied g c = λ fit told.
    let old = c.args.self.now in
    let new = c.take.new.self in
    let kept = g.met.P.PageWorld.take_keeps old.pages new c.take.ensures.beside in
    let was_fit = g.met.P.PageWorld.take_was_fit old.pages new c.take.ensures.beside fit in
    let was_told = g.met.P.PageWorld.take_was_told old.pages new c.take.ensures.beside told in
    copies_on (g.P.Pages.view old.pages).image (g.P.Pages.view new).image (copies_in old.cache) kept.image (old.copied was_fit was_told)
