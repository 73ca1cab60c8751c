use Rattle.chart_service.proofs.SyncLemmas.{less_synced}
use Rattle.chart_service.proofs.laws.first_lines_sync_less.Goals as goal

pub returns : goal.returns
returns c = less_synced
