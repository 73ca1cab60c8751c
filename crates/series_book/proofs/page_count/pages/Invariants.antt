use Rattle.std.proofs.Common.{◌≡◌, ◌+◌, ◌*◌, ◌≤◌, take, sum_by}
use Rattle.series_book.specs.declared.limits.TheConstants.{FIXED_PAGES, MOST_SLOTS}
use Rattle.series_book.specs.Pages.{series_pages}
use Rattle.series_book.proofs.page_count.pages.Given as goal

abbrev pub invariant-loop-series : goal.invariant-loop-series
invariant-loop-series l = record {
  pages : l.pages ≡ FIXED_PAGES + sum_by (λ series. series_pages series.slots) (take l.series-index l.series-items);
  few : l.pages ≤ FIXED_PAGES + l.series-index * (5 * MOST_SLOTS);
}
