use Rattle.std.proofs.Common.{◌^◌, ◌≤◌, sym}
use Rattle.series_book.specs.declared.limits.TheConstants.{PAGE_SLOTS}
use Rattle.series_book.proofs.PageLemmas.{page_levels_is}
use Rattle.series_book.proofs.page_count.page_levels.Goals as goal

pub returns-clause-levels : goal.returns-clause-levels
returns-clause-levels c =
    let covers : c.args.slots ≤ PAGE_SLOTS ^ c.loop-covered.levels = rw (← c.loop-covered.invariant.covered) c.loop-covered-test.false in
    sym (page_levels_is c.args.slots c.loop-covered.levels c.loop-covered.invariant.above_zero c.loop-covered.invariant.few covers
    c.loop-covered.invariant.least)
