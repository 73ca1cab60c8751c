-- The pages stay, and with them what the cache has of them.
use Rattle.std.proofs.Common.{length}
use Rattle.page_space.specs.Copies.{copies_in}
use Rattle.page_space.proofs.Caching.{copies_on}
use Rattle.page_space.proofs.space_streams.SpaceStreams.send.Goals as goal

pub invariant_of-self-clause-copied : goal.invariant_of-self-clause-copied
invariant_of-self-clause-copied g c = λ fit told.
    let old = c.args.self.now in
    let new = c.send.new.self in
    let kept = g.met.P.PageWorld.send_keeps (length c.args.piece.now) old.pages new c.send.ensures.beside in
    let was_fit = g.met.P.PageWorld.send_was_fit (length c.args.piece.now) old.pages new c.send.ensures.beside fit in
    let was_told = g.met.P.PageWorld.send_was_told (length c.args.piece.now) old.pages new c.send.ensures.beside told in
    copies_on (g.P.Pages.view old.pages).image (g.P.Pages.view new).image (copies_in old.cache) kept.image (old.copied was_fit was_told)
