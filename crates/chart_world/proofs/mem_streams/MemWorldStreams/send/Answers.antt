use Rattle.std.proofs.Common.{length, arith, ℕ}
use Rattle.std.proofs.lemmas.List.{length-take}
use Rattle.chart_world.specs.SendMoments.{stored_dated, stored_counted, stored_moments}
use Rattle.chart_world.proofs.mem_streams.MemWorldStreams.send.Goals as goal

pub invariant_of-self : goal.invariant_of-self
invariant_of-self g c =
    let self = c.args.self.now in
    let store = c.store-stored in
    record {
      dated = stored_dated store.result (g.D.Disk.view self.disk).clock c.moment-moment.result self.log.items store.new.log.items
          store.new.sent.items store.ensures.noted store.ensures.log self.dated c.moment-moment.ensures;
      counted = stored_counted store.result c.moment-moment.result self.log.items store.new.log.items self.sent.items store.new.sent.items _
          store.ensures.sent store.ensures.noted store.ensures.log self.counted;
    }

pub invariant_of-self-then-fails-2 : goal.invariant_of-self-then-fails-2
invariant_of-self-then-fails-2 g c =
    let self = c.args.self.now in
    let store = c.store-stored in
    record {
      dated = stored_dated store.result (g.D.Disk.view self.disk).clock c.moment-moment.result self.log.items store.new.log.items
          store.new.sent.items store.ensures.noted store.ensures.log self.dated c.moment-moment.ensures;
      counted = stored_counted store.result c.moment-moment.result self.log.items store.new.log.items self.sent.items store.new.sent.items _
          store.ensures.sent store.ensures.noted store.ensures.log self.counted;
    }

pub returns-then-fails-2-clause-moments : goal.returns-then-fails-2-clause-moments
returns-then-fails-2-clause-moments g c =
    let self = c.args.self.now in
    let store = c.store-stored in
    stored_moments store.result (g.D.Disk.view self.disk) c.moment-moment.result self.log.items store.new.log.items self.sent.items
    store.new.sent.items _ (length c.args.piece.now) store.ensures.sent store.ensures.noted store.ensures.log self.counted self.dated
    c.moment-moment.ensures (omega (arith, length-take {A = ℕ}))

pub returns-clause-moments : goal.returns-clause-moments
returns-clause-moments g c =
    let self = c.args.self.now in
    let store = c.store-stored in
    stored_moments store.result (g.D.Disk.view self.disk) c.moment-moment.result self.log.items store.new.log.items self.sent.items
    store.new.sent.items _ (length c.args.piece.now) store.ensures.sent store.ensures.noted store.ensures.log self.counted self.dated
    c.moment-moment.ensures (omega (arith, length-take {A = ℕ}))
