use Rattle.std.proofs.Common.{◌≡◌, length, rules, Some}
use Rattle.zoom_session.specs.Sessions.{session_of, last_of}
use Rattle.chart_service.specs.Shown as shown
use Rattle.chart_service.proofs.Lasts.{view_so}
use Rattle.chart_service.proofs.service.Service.last_answered.Goals as goal

pub returns-in-Some-clause-view : goal.returns-in-Some-clause-view
returns-in-Some-clause-view g c =
    let is : Some c.in-Some.last.now ≡ last_of (session_of c.args.number c.args.self.now.sessions) = search rules in
    view_so (length (shown.catalog c.args.self.now)) c.args.number c.args.self.now.sessions c.in-Some.last.now c.args.self.now.views is
