use Rattle.std.proofs.Common.{◌≤◌, length, arith}
use Rattle.series_store.specs.Shown as stored
use Rattle.chart_service.proofs.Keeping.{views_grown}
use Rattle.chart_service.proofs.service.Service.with_store.Goals as goal

pub invariant_of-self : goal.invariant_of-self
invariant_of-self g c =
    let before = c.args.self.now.store in
    let after = c.work.new.store in
    let more : length (stored.catalog before) ≤ length (stored.catalog after) = omega (
      arith,
      c.requires.counts before,
      c.requires.counts after,
      c.work.ensures.series,
    ) in
    record {
      views = views_grown (length (stored.catalog before))
          (length (stored.catalog after)) c.args.self.now.sessions more c.args.self.now.views;
    }
