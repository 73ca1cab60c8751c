use Rattle.std.proofs.Common.{Some}
use Rattle.live_service.proofs.CanKept.{line_lost}
use Rattle.live_service.proofs.stepping.ServiceStepperStepper.repeat.Goals as goal

pub returns-clause-lost : goal.returns-clause-lost
returns-clause-lost g c =
    line_lost (Some c.args.session) c.repeat.result c.args.self.now.service.sessions c.repeat.new.self.sessions c.cache-cache.ensures.valid
    c.repeat.ensures.sessions
