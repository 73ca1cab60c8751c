use Rattle.std.proofs.Common.{◌≤◌, length, arith}
use Rattle.gate_pages.proofs.BatchLemmas.{has_is}
use Rattle.gate_pages.proofs.batch.Batch.has.Goals as goal

pub returns : goal.returns
returns c =
    let self = c.args.self.now in
    let len = self.len in
    let pages = self.pages.items in
    let at = c.place.result in
    let within : len ≤ length pages = omega (arith, self.within, self.room) in
    has_is len at c.args.p pages within c.place.ensures.within c.place.ensures.before c.place.ensures.found
