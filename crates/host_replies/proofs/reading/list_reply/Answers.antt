use Rattle.std.proofs.Common.{ap}
use Rattle.chart_frames.specs.declared.frame.Frame.TheVariants.{Report}
use Rattle.chart_frames.specs.declared.reports.CatalogFrame.{CatalogFrame}
use Rattle.chart_frames.specs.declared.reports.Report.TheVariants.{Catalog}
use Rattle.host_replies.proofs.reading.list_reply.Goals as goal

pub returns-in-Ok-clause-reply : goal.returns-in-Ok-clause-reply
returns-in-Ok-clause-reply g c = λ total book fit told stands.
    ap (λ (k : CatalogFrame). Report (Catalog k)) (c.in-Ok.ensures.frame total book fit told stands)
