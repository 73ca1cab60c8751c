use Rattle.std.proofs.Common.{refl, sym, ◌∙◌}
use Rattle.series_store.proofs.SendLemmas.{given_part_on, given_whole_on}
use Rattle.series_store.proofs.sending.send_waiting.Goals as goal

pub returns-in_default-clause-gives : goal.returns-in_default-clause-gives
returns-in_default-clause-gives g c = λ text before given.
    let is = given_part_on text c.args.out.now.items c.as_slice.result.now before _ _ _ _ c.as_slice.ensures.value
    (g.met.P.PageWorld.beside_sent c.args.space.now.pages)
    (g.met.P.PageWorld.beside_sent c.send.new.self.pages) given c.in_default.ensures.part in
    (is.0, tt, is.1)

pub returns-clause-gives : goal.returns-clause-gives
returns-clause-gives g c = λ text before given.
    given_whole_on text c.args.out.now.items c.as_slice.result.now c.clear.new.self.items before _ _ _ _ c.as_slice.ensures.value
    (g.met.P.PageWorld.beside_sent c.args.space.now.pages)
    (g.met.P.PageWorld.beside_sent c.send.new.self.pages) given c.in-Ok.ensures.whole c.clear.ensures.items

pub returns-in_default-clause-quiet_sends : goal.returns-in_default-clause-quiet_sends
returns-in_default-clause-quiet_sends g c = λ other. absurd (other refl)

pub returns-clause-quiet_sends : goal.returns-clause-quiet_sends
returns-clause-quiet_sends g c = λ other.
    g.met.P.PageWorld.beside_send_faults c.send.new.self.pages ∙ c.in-Ok.ensures.quiet
    ∙ sym (g.met.P.PageWorld.beside_send_faults c.args.space.now.pages)
