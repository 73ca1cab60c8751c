use Rattle.catalog_page.proofs.RecordPlaces.{one_series, every_record, in_use, next_record, other_pages}
use Rattle.catalog_page.proofs.laws.series_have_their_records.Goals as goal

pub returns-clause-one_series : goal.returns-clause-one_series
returns-clause-one_series c = one_series

pub returns-clause-every_record : goal.returns-clause-every_record
returns-clause-every_record c = every_record

pub returns-clause-in_use : goal.returns-clause-in_use
returns-clause-in_use c = in_use

pub returns-clause-next : goal.returns-clause-next
returns-clause-next c = next_record

pub returns-clause-others : goal.returns-clause-others
returns-clause-others c = other_pages
