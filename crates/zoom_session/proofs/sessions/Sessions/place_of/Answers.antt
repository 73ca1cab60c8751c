use Rattle.zoom_session.proofs.Found.{place_so, closed_so}
use Rattle.zoom_session.proofs.sessions.Sessions.place_of.Goals as goal

pub returns-clause-place : goal.returns-clause-place
returns-clause-place c = place_so c.args.number c.args.self.now c.first_of.result c.first_of.ensures

pub returns-clause-closed : goal.returns-clause-closed
returns-clause-closed c = closed_so c.args.number c.args.self.now c.first_of.result c.first_of.ensures
