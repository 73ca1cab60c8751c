use Rattle.std.proofs.Common.{◌≡◌, ◌∙◌, ◌+◌, ◌-◌, suc, refl, sym, ap, subst, arith}
use Rattle.page_space.specs.declared.superblock.Superblock.{Superblock}
use Rattle.page_space.specs.Transactions.{left_by}
use Rattle.series_store.specs.Counting.{NamesWithin, IsChainCause}
use Rattle.series_store.specs.Opening.{IsOutside, space_error_of}
use Rattle.series_store.specs.declared.errors.StoreError.{StoreError}
use Rattle.series_store.proofs.LookLemmas.{looks_none, looks_read}
use Rattle.series_store.proofs.ChainLemmas.{pass_start, pass_on, pass_cause, pass_stood, pass_outside, pass_within}
use Rattle.series_store.proofs.checking.pass_chain.Goals as goal

pub loop-init : goal.loop-init
loop-init g c =
    let numbers : c.begin.new.self.superblock ≡ c.args.space.now.superblock = rw c.begin.ensures.same refl in
    let is : c.args.space.now.superblock.chain ≡ c.fresh.result - c.used.result - 0 = omega (
      arith,
      c.fresh.ensures.fresh,
      c.used.ensures.used,
      ap (λ (s : Superblock). s.fresh) numbers,
      ap (λ (s : Superblock). s.chain) numbers,
      c.args.space.now.rules.chain_high,
    ) in (
      rw c.begin.ensures.same (pass_start (g.P.Pages.told c.args.space.now.pages) (g.P.Pages.told c.args.space.now.pages)
          (g.P.Pages.view c.args.space.now.pages) (g.P.Pages.view c.args.space.now.pages) (g.P.Pages.under c.args.space.now.pages)
          (g.P.Pages.under c.args.space.now.pages) c.args.space.now.superblock c.args.space.now.superblock c.in_ok-txn.txn
          (c.fresh.result - c.used.result - 0) (looks_none (g.P.Pages.told c.args.space.now.pages) (g.P.Pages.view c.args.space.now.pages)
          (g.P.Pages.under c.args.space.now.pages) c.args.space.now.superblock) c.in_ok-txn.ensures.superblock is
          (λ t p. c.in_ok-txn.ensures.left c.requires.sound t p)
          (λ count image taken freed standing. c.in_ok-txn.ensures.stands count image taken freed standing) (omega arith)),
      ap (λ s. (g.P.Pages.view s.pages).faults) c.begin.ensures.same,
    )

pub returns-in-Err-clause-cause : goal.returns-in-Err-clause-cause
returns-in-Err-clause-cause g c =
    let is : c.fresh.result - c.used.result - c.loop.counter ≡ suc (c.fresh.result - c.used.result - (c.loop.counter + 1)) = omega (
      arith,
      c.loop-test.true,
    ) in
    let U : StoreError → Type 0 = λ e. IsChainCause e (g.P.Pages.told c.args.space.now.pages) c.args.space.now.superblock
    (g.P.Pages.view c.args.space.now.pages) (g.P.Pages.view c.alloc.new.self.pages) in
    subst U (sym c.space_error.ensures) (pass_cause c.in-Err.error (g.P.Pages.told c.args.space.now.pages)
    (g.P.Pages.told c.loop.space.pages) (g.P.Pages.view c.args.space.now.pages) (g.P.Pages.view c.loop.space.pages)
    (g.P.Pages.view c.alloc.new.self.pages) (g.P.Pages.under c.args.space.now.pages)
    (g.P.Pages.under c.loop.space.pages) c.args.space.now.superblock c.loop.space.superblock c.loop.txn
    (c.fresh.result - c.used.result - c.loop.counter) (c.fresh.result - c.used.result - (c.loop.counter + 1))
    c.loop.invariant.0 c.loop.invariant.1 is c.in-Err.ensures.cause)

pub returns-in-Err-clause-stands : goal.returns-in-Err-clause-stands
returns-in-Err-clause-stands g c = λ count taken freed told standing.
    let way = c.loop.invariant.0 in
    let stood = pass_stood (g.P.Pages.told c.args.space.now.pages) (g.P.Pages.told c.loop.space.pages)
    (g.P.Pages.view c.args.space.now.pages) (g.P.Pages.view c.loop.space.pages) (g.P.Pages.under c.args.space.now.pages)
    (g.P.Pages.under c.loop.space.pages) c.args.space.now.superblock c.loop.space.superblock c.loop.txn
    (c.fresh.result - c.used.result - c.loop.counter) way count taken freed told standing in
    subst IsOutside (sym c.space_error.ensures) (pass_outside c.in-Err.error (g.P.Pages.told c.loop.space.pages)
    (left_by c.loop.txn (g.P.Pages.view c.loop.space.pages).image) c.loop.txn.superblock (g.P.Pages.view c.loop.space.pages).faults
    (g.P.Pages.view c.alloc.new.self.pages).faults
    (λ page. c.in-Err.ensures.undamaged (way.looks.kept.told told) count page stood.taken stood.freed stood.stands) c.in-Err.ensures.cause)

pub loop-preserved : goal.loop-preserved
loop-preserved g c =
    let is : c.fresh.result - c.used.result - c.loop.counter ≡ suc (c.fresh.result - c.used.result - (c.loop.counter + 1)) = omega (
      arith,
      c.loop-test.true,
    ) in (
      pass_on (g.P.Pages.told c.args.space.now.pages) (g.P.Pages.told c.loop.space.pages) (g.P.Pages.told c.alloc.new.self.pages)
          (g.P.Pages.view c.args.space.now.pages) (g.P.Pages.view c.loop.space.pages) (g.P.Pages.view c.alloc.new.self.pages)
          (g.P.Pages.under c.args.space.now.pages) (g.P.Pages.under c.loop.space.pages)
          (g.P.Pages.under c.alloc.new.self.pages) c.args.space.now.superblock c.loop.space.superblock c.alloc.new.self.superblock
          c.loop.txn c.alloc.new.txn (c.fresh.result - c.used.result - c.loop.counter)
          (c.fresh.result - c.used.result - (c.loop.counter + 1)) c.in_default.field-0
          c.loop.invariant.0 is
          (looks_read (g.P.Pages.told c.loop.space.pages) (g.P.Pages.told c.alloc.new.self.pages) (g.P.Pages.view c.loop.space.pages)
          (g.P.Pages.view c.alloc.new.self.pages) (g.P.Pages.under c.loop.space.pages)
          (g.P.Pages.under c.alloc.new.self.pages) c.loop.space.superblock c.alloc.new.self.superblock c.alloc.ensures.reads
          c.alloc.ensures.superblock c.alloc.ensures.goes_on)
          c.in_default.ensures.takes c.alloc.ensures.same_total c.alloc.ensures.pages
          (λ t count taken freed standing. c.in_default.ensures.stands t count taken freed standing)
          c.alloc.ensures.reads.reads,
      c.in_default.ensures.quiet ∙ c.loop.invariant.1,
    )

pub returns-in-Err-clause-reads : goal.returns-in-Err-clause-reads
returns-in-Err-clause-reads g c = omega (arith, c.loop.invariant.0.reads, c.alloc.ensures.reads.reads.high, c.loop-test.true)

pub returns-clause-reads : goal.returns-clause-reads
returns-clause-reads g c = omega (arith, c.loop.invariant.0.reads)

pub returns-in-Err-clause-within : goal.returns-in-Err-clause-within
returns-in-Err-clause-within g c =
    let W : StoreError → Type 0 = λ e. NamesWithin c.args.space.now.superblock.total e in
    subst W (sym c.space_error.ensures) (pass_within c.in-Err.error (g.P.Pages.told c.loop.space.pages)
    (left_by c.loop.txn (g.P.Pages.view c.loop.space.pages).image) c.loop.txn.superblock c.args.space.now.superblock.total
    (g.P.Pages.view c.loop.space.pages).faults (g.P.Pages.view c.alloc.new.self.pages).faults
    c.loop.txn.rules c.loop.invariant.0.total c.in-Err.ensures.cause)

pub returns-in-Err-clause-quiet_err : goal.returns-in-Err-clause-quiet_err
returns-in-Err-clause-quiet_err g c = λ other. c.in-Err.ensures.quiet_err (λ is. other (c.space_error.ensures ∙ ap space_error_of is))
    ∙ c.loop.invariant.1

pub returns-clause-quiet : goal.returns-clause-quiet
returns-clause-quiet g c = c.loop.invariant.1
