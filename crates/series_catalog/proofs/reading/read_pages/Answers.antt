use Rattle.std.proofs.Common.{◌+◌, ◌-◌, sym, subst, refl, arith, ◌∙◌}
use Rattle.gate_pages.specs.GateLaws.{goes_none, goes_then}
use Rattle.tree_walk.proofs.StepLemmas.{error_so}
use Rattle.series_catalog.specs.Reading.{IsCatalogCause, IsCatalogPage}
use Rattle.series_catalog.specs.declared.errors.CatalogError.{CatalogError}
use Rattle.series_catalog.proofs.ReadLemmas.{reads_none, reads_one, reads_more, cause_on, told_now, told_then, read_for, none_read}
use Rattle.series_catalog.proofs.ReadLemmas.{none_told, keeps_more}
use Rattle.series_catalog.specs.Shown.{series_in}
use Rattle.page_space.specs.Shown as shown
use Rattle.series_catalog.proofs.reading.read_pages.Goals as goal

pub loop-page-init : goal.loop-page-init
loop-page-init g c = record {
  read = none_read (shown.numbers c.args.space.now).series (shown.numbers c.args.space.now).fresh
      (series_in c.args.catalog.now) c.requires.none;
  told = λ t. none_told (shown.image c.args.space.now) (series_in c.args.catalog.now) c.requires.none;
  keeps = λ t p low high. absurd (omega (arith, low, high));
  reads = reads_none (shown.IsTold c.args.space.now) (shown.view c.args.space.now);
  goes_on = goes_none (shown.under c.args.space.now);
  superblock = refl;
  whole = c.requires.whole;
  same = refl;
}

pub read_page-requires-clause-sound : goal.read_page-requires-clause-sound
read_page-requires-clause-sound g c = c.loop-page.invariant.reads.fit c.requires.sound

pub read_page-requires-clause-read : goal.read_page-requires-clause-read
read_page-requires-clause-read g c = read_for (c.loop-page.page - 1) (c.loop-page.page - 1) (shown.numbers c.args.space.now)
    (shown.numbers c.loop-page.space) (series_in c.loop-page.catalog) refl c.loop-page.invariant.superblock c.loop-page.invariant.read

pub read_page-requires-clause-told : goal.read_page-requires-clause-told
read_page-requires-clause-told g c = told_now (shown.IsTold c.args.space.now) (shown.IsTold c.loop-page.space) (shown.view c.args.space.now)
    (shown.view c.loop-page.space) (c.loop-page.page - 1)
    (series_in c.loop-page.catalog) c.loop-page.invariant.reads c.loop-page.invariant.told

pub loop-page-preserved : goal.loop-page-preserved
loop-page-preserved g c = record {
  read = read_for c.loop-page.page (c.loop-page.page + 1 - 1) (shown.numbers c.loop-page.space) (shown.numbers c.args.space.now)
      (series_in c.read_page.new.catalog) (omega arith) (sym c.loop-page.invariant.superblock) c.in_ok-read_page.ensures.read;
  told = told_then (shown.IsTold c.args.space.now) (shown.IsTold c.loop-page.space) (shown.view c.args.space.now)
      (shown.view c.loop-page.space) (c.loop-page.page - 1)
      (series_in c.read_page.new.catalog) c.loop-page.invariant.reads c.in_ok-read_page.ensures.told;
  keeps = keeps_more (shown.IsTold c.args.space.now) (shown.IsTold c.loop-page.space) (shown.view c.args.space.now)
      (shown.view c.loop-page.space) (c.loop-page.page - 1) c.loop-page.page (shown.numbers c.args.space.now)
      (shown.numbers c.loop-page.space) c.loop-page.invariant.reads c.loop-page.invariant.superblock c.loop-page.invariant.keeps
      c.in_ok-read_page.ensures.keeps;
  reads = reads_one (c.loop-page.page - 1) (c.loop-page.page + 1 - 1) (shown.IsTold c.args.space.now) (shown.IsTold c.loop-page.space)
      (shown.IsTold c.read_page.new.space) (shown.view c.args.space.now) (shown.view c.loop-page.space) (shown.view c.read_page.new.space)
      (omega arith) c.loop-page.invariant.reads c.read_page.ensures.reads;
  goes_on = goes_then (shown.under c.args.space.now) (shown.under c.loop-page.space)
      (shown.under c.read_page.new.space) c.loop-page.invariant.goes_on c.read_page.ensures.goes_on;
  superblock = c.read_page.ensures.superblock ∙ c.loop-page.invariant.superblock;
  whole = c.read_page.auto.bytes ∙ c.loop-page.invariant.whole;
  same = c.in_ok-read_page.ensures.quiet ∙ c.loop-page.invariant.same;
}

pub returns-in_err-read_page-clause-place : goal.returns-in_err-read_page-clause-place
returns-in_err-read_page-clause-place g c =
    error_so _ IsCatalogPage c.from_residual.result c.from_residual.ensures.1
    (λ e is. subst IsCatalogPage (sym is) c.in_err-read_page.ensures.place)

pub returns-in_err-read_page-clause-cause : goal.returns-in_err-read_page-clause-cause
returns-in_err-read_page-clause-cause g c =
    let P : CatalogError → Type 0 = λ x. IsCatalogCause x (shown.IsTold c.loop-page.space) (shown.numbers c.loop-page.space)
    (shown.view c.loop-page.space) (shown.view c.read_page.new.space) in
    let Q : CatalogError → Type 0 = λ x. IsCatalogCause x (shown.IsTold c.args.space.now) (shown.numbers c.args.space.now)
    (shown.view c.args.space.now) (shown.view c.read_page.new.space) in
    error_so _ Q c.from_residual.result c.from_residual.ensures.1
    (λ e is. cause_on (c.loop-page.page - 1) (shown.IsTold c.args.space.now) (shown.IsTold c.loop-page.space) (shown.view c.args.space.now)
    (shown.view c.loop-page.space) (shown.view c.read_page.new.space) (shown.numbers c.args.space.now)
    (shown.numbers c.loop-page.space) e c.loop-page.invariant.reads c.loop-page.invariant.same c.loop-page.invariant.superblock
    (subst P (sym is) c.in_err-read_page.ensures.cause))

pub returns-in_err-read_page-clause-reads : goal.returns-in_err-read_page-clause-reads
returns-in_err-read_page-clause-reads g c =
    reads_more c.loop-page.page 16 (shown.IsTold c.args.space.now) (shown.IsTold c.read_page.new.space) (shown.view c.args.space.now)
    (shown.view c.read_page.new.space) (omega arith)
    (reads_one (c.loop-page.page - 1) c.loop-page.page (shown.IsTold c.args.space.now) (shown.IsTold c.loop-page.space)
    (shown.IsTold c.read_page.new.space) (shown.view c.args.space.now) (shown.view c.loop-page.space) (shown.view c.read_page.new.space)
    (omega arith) c.loop-page.invariant.reads c.read_page.ensures.reads)

pub returns-in_err-read_page-clause-goes_on : goal.returns-in_err-read_page-clause-goes_on
returns-in_err-read_page-clause-goes_on g c = goes_then (shown.under c.args.space.now) (shown.under c.loop-page.space)
    (shown.under c.read_page.new.space) c.loop-page.invariant.goes_on c.read_page.ensures.goes_on

pub returns-clause-read : goal.returns-clause-read
returns-clause-read g c = read_for (c.loop-page.page - 1) 16 (shown.numbers c.args.space.now) (shown.numbers c.args.space.now)
    (series_in c.loop-page.catalog) (omega arith) refl c.loop-page.invariant.read

pub returns-clause-told : goal.returns-clause-told
returns-clause-told g c = c.loop-page.invariant.told

pub returns-clause-whole : goal.returns-clause-whole
returns-clause-whole g c = λ t p low high. c.loop-page.invariant.keeps t p low (omega (arith, high))

pub returns-clause-reads : goal.returns-clause-reads
returns-clause-reads g c = reads_more (c.loop-page.page - 1) 16 (shown.IsTold c.args.space.now) (shown.IsTold c.loop-page.space)
    (shown.view c.args.space.now) (shown.view c.loop-page.space) (omega arith) c.loop-page.invariant.reads

pub returns-in_err-read_page-clause-quiet_err : goal.returns-in_err-read_page-clause-quiet_err
returns-in_err-read_page-clause-quiet_err g c =
    error_so _ _ c.from_residual.result c.from_residual.ensures.1
    (λ e is other. c.in_err-read_page.ensures.quiet_err (λ same. other (is ∙ same)) ∙ c.loop-page.invariant.same)
