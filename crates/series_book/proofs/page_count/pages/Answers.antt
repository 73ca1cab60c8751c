use Rattle.series_book.proofs.BookLemmas.{pages_of_all}
use Rattle.series_book.proofs.page_count.pages.Goals as goal

pub returns : goal.returns
returns c =
    pages_of_all c.args.book.now c.as_slice-series-items.result.now c.loop-series.series-index c.loop-series.pages
    c.as_slice-series-items.ensures.series c.loop-series-test.false c.loop-series.invariant.pages
