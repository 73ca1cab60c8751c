use Rattle.std.proofs.Common.{◌≡◌, ◌*◌, ◌^◌, ◌≤◌, length}
use Rattle.series_book.specs.declared.limits.TheConstants.{PAGE_SLOTS}
use Rattle.series_book.specs.Pages.{level_pages, page_levels}
use Rattle.series_book.proofs.page_count.series_pages.Given as goal

abbrev pub invariant-loop : goal.invariant-loop
invariant-loop l = record {
  size : l.size ≡ PAGE_SLOTS ^ l.counter;
  end : l.end ≡ page_levels (length l.slots);
  few_levels : l.end ≤ 5;
  pages : l.pages ≡ level_pages l.counter l.slots;
  few : l.pages ≤ l.counter * length l.slots;
}
