use Rattle.std.proofs.Common.{inl, inr, ◌∙◌, rules}
use Rattle.std.specs.Prelude.{replicate}
use Rattle.std.proofs.lemmas.List.{get_or-replicate}
use Rattle.catalog_page.specs.Entries.{entry_of}
use Rattle.catalog_page.proofs.Spelled.{spelled}
use Rattle.catalog_page.proofs.setting.spelling.Goals as goal

pub returns : goal.returns
returns c =
    let e = entry_of c.args.series.now in
    let b1 = c.set_numbers.new.bytes in
    let b2 = c.set_span.new.bytes in
    let b3 = c.set_small.new.bytes in
    spelled e (replicate 96 0) b1 b2 b3 c.put.new.bytes (record {
      short = c.requires.named;
      blank = λ k low. get_or-replicate 96 k 0 0 low;
      step = c.set_numbers.ensures.step;
      start = c.set_numbers.ensures.start;
      slots = c.set_numbers.ensures.slots;
      root = c.set_numbers.ensures.root;
      low = λ k low. c.set_numbers.ensures.rest k (inl low);
      high = λ k high. c.set_numbers.ensures.rest k (inr high);
      min = c.set_span.ensures.min;
      max = c.set_span.ensures.max;
      below = λ k low. c.set_span.ensures.rest k (inl low);
      above = λ k high. c.set_span.ensures.rest k (inr high);
      whole = c.set_small.ensures.whole;
      used = c.set_small.ensures.used;
      len = search rules;
      scale = c.set_small.ensures.scale;
      levels = c.set_small.ensures.levels ∙ c.page_levels.ensures.levels;
      rest = c.set_small.ensures.rest;
      named = c.put.ensures;
    })
