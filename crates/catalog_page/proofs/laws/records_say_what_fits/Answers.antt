use Rattle.catalog_page.specs.Fields.{record_bytes}
use Rattle.catalog_page.proofs.Fit.{record_entry}
use Rattle.catalog_page.proofs.laws.records_say_what_fits.Goals as goal

pub returns : goal.returns
returns c = λ page fresh i keeps. record_entry fresh (record_bytes page i) keeps
