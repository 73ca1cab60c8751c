use Rattle.std.proofs.Common.{arith}
use Rattle.gate_pages.specs.Entries.{entries}
use Rattle.page_space.specs.Copies.{copies_in}
use Rattle.page_space.proofs.Caching.{renewing_none, renewing_on, renewed_all}
use Rattle.page_space.proofs.page_cache.PageCache.renew.Goals as goal

pub loop-at-init : goal.loop-at-init
loop-at-init c = record { so_far = renewing_none (entries c.args.batch.now) (copies_in c.args.self.now) }

pub loop-at-preserved : goal.loop-at-preserved
loop-at-preserved c = record {
  so_far = renewing_on (entries c.args.batch.now) (copies_in c.args.self.now) (copies_in c.loop-at.self)
      (copies_in c.renew_page.new.self) c.loop-at.at c.number.result
      c.number.ensures c.renew_page.ensures.here c.renew_page.ensures.others c.loop-at.invariant.so_far;
}

pub returns : goal.returns
returns c = λ p.
    renewed_all (entries c.args.batch.now) (copies_in c.args.self.now) (copies_in c.loop-at.self) c.loop-at.at p
    (omega (arith, c.len-at-end.ensures.len, c.loop-at-test.false)) c.loop-at.invariant.so_far
