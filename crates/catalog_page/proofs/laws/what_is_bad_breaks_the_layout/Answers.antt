use Rattle.catalog_page.proofs.Breaks.{bad_breaks}
use Rattle.catalog_page.proofs.laws.what_is_bad_breaks_the_layout.Goals as goal

pub returns : goal.returns
returns c = bad_breaks
