use Rattle.series_catalog.proofs.SeriesLemmas.{IsReadTo}
use Rattle.series_catalog.specs.Shown.{series_in}
use Rattle.series_catalog.proofs.reading.add_page.Given as goal

abbrev pub invariant-loop-number : goal.invariant-loop-number
invariant-loop-number l = IsReadTo l.bytes l.page l.fresh l.number (series_in l.fn.catalog) (series_in l.catalog)
