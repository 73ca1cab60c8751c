use Rattle.std.proofs.Common.{◌<◌, None, Some, length, refl, sym, ap, subst, arith}
use Rattle.block_disk.specs.View.{Image}
use Rattle.series_catalog.specs.Shown.{series_in}
use Rattle.series_catalog.specs.declared.catalog.Catalog.{Catalog}
use Rattle.series_store.specs.Shown as shown
use Rattle.stored_book.specs.Standing.{StandsForBook}
use Rattle.retention.specs.Sweeps.{found_at, oldest_among}
use Rattle.chart_world.specs.FaultLaws.{counts_then}
use Rattle.retention.specs.Faults.{sweep_fault}
use Rattle.series_store.proofs.AskLemmas.{there}
use Rattle.retention.proofs.LookLemmas.{looks_none, looks_then}
use Rattle.retention.proofs.NextLemmas.{kept_all, kept_more, kept_zero}
use Rattle.std.specs.Prelude.{⊤}
use Rattle.retention.specs.Damage.{IsBadAt, IsBadForLook}
use Rattle.retention.proofs.DamageLemmas.{bad_any, blames_by}
use Rattle.retention.proofs.freeing.oldest.Goals as goal

pub loop-id-init : goal.loop-id-init
loop-id-init g c =
    let store = c.args.store.now in
    record {
      sound = c.requires.sound;
      looks = looks_none (shown.IsTold store) (shown.view store) (shown.under store)
          (shown.numbers store) store.catalog;
      quiet = refl;
      reads = omega arith;
      best = λ total book told stands. kept_zero book;
    }

pub first_of-requires-clause-there : goal.first_of-requires-clause-there
first_of-requires-clause-there g c = omega (
  arith,
  c.loop-id-test.true,
  c.len-count.ensures.count,
  ap (λ (k : Catalog). length (series_in k)) c.loop-id.invariant.looks.catalog_is,
)

pub loop-id-preserved : goal.loop-id-preserved
loop-id-preserved g c =
    let was = c.loop-id.invariant in
    record {
      sound = c.in-Ok.ensures.looks.fit was.sound;
      looks = looks_then _ _ _ _ _ _ _ _ _ _ _ _ _ _ _ was.looks c.in-Ok.ensures.looks;
      quiet = counts_then None (shown.view c.args.store.now) (shown.view c.loop-id.store)
          (shown.view c.first_of.new.store) was.quiet c.in-Ok.ensures.faults;
      reads = omega (arith, was.reads, c.in-Ok.ensures.reads);
      best = λ total book told stands.
          let S : Image → Type 0 = λ i. StandsForBook i total book in
          let stands' = subst S (sym (was.looks.image told)) stands in
          let low : c.loop-id.id < length book = omega (
            arith,
            c.loop-id-test.true,
            c.len-count.ensures.books total book c.requires.sound told stands,
          ) in
          let one = there book c.loop-id.id low in
          kept_more book c.loop-id.id one.0 c.older-best.result one.1
          (c.older-best.ensures (oldest_among book c.loop-id.id) (found_at c.loop-id.id (Some one.0)) (was.best total book told stands)
          (c.in-Ok.ensures.first total book one.0 (was.looks.told told) stands' one.1));
    }

pub returns-in-Err-clause-outside : goal.returns-in-Err-clause-outside
returns-in-Err-clause-outside g c = λ total book told stands.
    let was = c.loop-id.invariant in
    let S : Image → Type 0 = λ i. StandsForBook i total book in
    let stands' = subst S (sym (was.looks.image told)) stands in
    let low : c.loop-id.id < length book = omega (
      arith,
      c.loop-id-test.true,
      c.len-count.ensures.books total book c.requires.sound told stands,
    ) in
    let one = there book c.loop-id.id low in
    c.in-Err.ensures.outside total book one.0 (was.looks.told told) stands' one.1

pub returns-clause-oldest : goal.returns-clause-oldest
returns-clause-oldest g c = λ total book told stands.
    kept_all book c.loop-id.id c.len-count.result c.loop-id.best c.loop-id.auto.id-end c.loop-id-test.false
    (c.len-count.ensures.books total book c.requires.sound told stands) (c.loop-id.invariant.best total book told stands)

pub returns-in-Err-clause-faults : goal.returns-in-Err-clause-faults
returns-in-Err-clause-faults g c = counts_then (sweep_fault c.in-Err.error) (shown.view c.args.store.now) (shown.view c.loop-id.store)
    (shown.view c.first_of.new.store) c.loop-id.invariant.quiet c.in-Err.ensures.faults

pub returns-in-Err-clause-reads : goal.returns-in-Err-clause-reads
returns-in-Err-clause-reads g c = omega (
  arith,
  c.loop-id.invariant.reads,
  c.in-Err.ensures.reads,
  c.loop-id-test.true,
  c.len-count.ensures.few,
)

pub returns-clause-reads : goal.returns-clause-reads
returns-clause-reads g c = omega (arith, c.loop-id.invariant.reads, c.loop-id.auto.id-end, c.len-count.ensures.few)

pub returns-in-Err-clause-blames : goal.returns-in-Err-clause-blames
returns-in-Err-clause-blames g c =
    let new = c.first_of.new.store in
    blames_by c.in-Err.error (λ page. shown.IsTold new → IsBadAt c.loop-id.id (shown.view new).size (shown.image new) page)
    (λ page. shown.IsTold new → IsBadForLook (λ name. ⊤) (shown.view new).size (shown.image new) page)
    (λ page bad told. bad_any c.loop-id.id (shown.view new).size page (shown.image new) (bad told)) c.in-Err.ensures.blames
