use Rattle.std.proofs.Common.{◌≡◌, ◌*◌, ◌^◌, length, refl, sym, ap, ◌∙◌, arith}
use Rattle.series_book.specs.declared.limits.TheConstants.{PAGE_SLOTS}
use Rattle.series_book.specs.Pages.{page_levels, ranges_with_value}
use Rattle.series_book.proofs.PageLemmas.{page_slots-suc, page_slots_small, level_pages-suc, level_pages-zero, series_pages_is}
use Rattle.series_book.proofs.page_count.series_pages.Goals as goal

pub loop-init : goal.loop-init
loop-init c = record {
  size = refl;
  end = c.page_levels-end.ensures.levels;
  few_levels = c.page_levels-end.ensures.few;
  pages = sym (level_pages-zero _);
  few = omega arith;
}

pub overflow_mul-size : goal.overflow_mul-size
overflow_mul-size c =
    let small = page_slots_small c.loop.counter (omega arith) in omega (arith, small.1, c.loop.invariant.size)

pub ranges_with_value-pages-requires : goal.ranges_with_value-pages-requires
ranges_with_value-pages-requires c =
    let small = page_slots_small c.loop.counter (omega arith) in omega (arith, small.0, c.loop.invariant.size)

pub loop-preserved : goal.loop-preserved
loop-preserved c = record {
  size = ap (λ n. n * PAGE_SLOTS) c.loop.invariant.size ∙ sym (page_slots-suc c.loop.counter);
  end = c.loop.invariant.end;
  few_levels = c.loop.invariant.few_levels;
  pages =
      let size_is : ranges_with_value (c.loop.size * PAGE_SLOTS) c.args.slots.now ≡ ranges_with_value
      (PAGE_SLOTS ^ c.loop.counter * PAGE_SLOTS) c.args.slots.now =
      ap (λ n. ranges_with_value (n * PAGE_SLOTS) c.args.slots.now) c.loop.invariant.size in
      omega (
        arith,
        level_pages-suc c.loop.counter c.args.slots.now,
        size_is,
        c.loop.invariant.pages,
        c.ranges_with_value-pages.ensures.ranges,
      );
  few = omega (arith, c.ranges_with_value-pages.ensures.few);
}

pub returns-clause-pages : goal.returns-clause-pages
returns-clause-pages c =
    let last : c.loop.counter ≡ page_levels (length c.args.slots.now) = omega (
      arith,
      c.loop.auto.counter-end,
      c.page_levels-end.ensures.levels,
    ) in
    series_pages_is c.args.slots.now c.loop.counter c.loop.pages last c.loop.invariant.pages
