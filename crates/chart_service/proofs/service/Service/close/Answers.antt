use Rattle.std.proofs.Common.{length}
use Rattle.chart_service.specs.Shown as shown
use Rattle.chart_service.proofs.Keeping.{views_after_close}
use Rattle.chart_service.proofs.service.Service.close.Goals as goal

pub invariant_of-self : goal.invariant_of-self
invariant_of-self g c = record {
  views = views_after_close c.close.result (length (shown.catalog c.args.self.now)) c.args.number c.args.self.now.sessions c.close.new.self
      c.close.ensures.closed c.close.ensures.unchanged c.args.self.now.views;
}
