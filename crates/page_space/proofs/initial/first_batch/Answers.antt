use Rattle.std.proofs.Common.{◌≡◌, arith, ap, ◌∙◌}
use Rattle.gate_pages.specs.Batch.{page_in}
use Rattle.page_space.specs.Firsts.{first_below}
use Rattle.page_space.proofs.Starting.{first_more, one_longer}
use Rattle.page_space.proofs.initial.first_batch.Goals as goal

pub loop-p-preserved : goal.loop-p-preserved
loop-p-preserved c = record {
  len = one_longer c.args.count c.loop-p.p _ _ c.put-in-loop-p.ensures.len c.loop-p.invariant.pages c.loop-p.invariant.len;
  pages = first_more c.args.count c.loop-p.p _ _ _ (omega arith) c.write_catalog.ensures c.put-in-loop-p.ensures.page
      c.loop-p.invariant.pages;
}

pub returns-clause-pages : goal.returns-clause-pages
returns-clause-pages c =
    let done : c.loop-p.p ≡ 17 = omega arith in
    λ p. c.loop-p.invariant.pages p ∙ ap (λ n. page_in (first_below c.args.count n) p) done
