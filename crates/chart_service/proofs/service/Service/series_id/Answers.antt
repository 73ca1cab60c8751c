use Rattle.std.proofs.Common.{sym}
use Rattle.chart_service.proofs.service.Service.series_id.Goals as goal

pub returns-in-Some : goal.returns-in-Some
returns-in-Some g c = λ total book fit told stands. sym (c.in-Some.ensures.info total book fit told stands).0

pub returns-in-None : goal.returns-in-None
returns-in-None g c = λ total book fit told stands. sym (c.in-None.ensures.info total book fit told stands)
