use Rattle.series_export.proofs.ExportLemmas.{window_few}
use Rattle.series_export.proofs.laws.windows_have_no_more_pages.Goals as goal

pub returns : goal.returns
returns c = window_few
