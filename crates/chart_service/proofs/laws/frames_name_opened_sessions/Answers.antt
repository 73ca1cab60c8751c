use Rattle.chart_service.proofs.Naming.{named_opened}
use Rattle.chart_service.proofs.laws.frames_name_opened_sessions.Goals as goal

pub returns : goal.returns
returns c = named_opened
