use Rattle.std.proofs.Common.{sym, subst, ◌≡◌, ◌≢◌, arith, inr, ◌∙◌, None}
use Rattle.block_disk.specs.View.{Image}
use Rattle.catalog_page.specs.Entries.{entry_of as entry_of_record}
use Rattle.catalog_page.specs.Places.{records_of}
use Rattle.series_catalog.specs.Catalogs.{place_of, AreAsTold}
use Rattle.series_catalog.specs.Reading.{IsPageCause}
use Rattle.series_catalog.specs.declared.errors.CatalogError.{CatalogError}
use Rattle.tree_walk.proofs.StepLemmas.{error_so}
use Rattle.series_catalog.proofs.ReadLemmas.{page_cause_so, IsBadPage}
use Rattle.series_catalog.proofs.SeriesLemmas.{IsNext, next_is, read_more, bad_more, read_none, read_all}
use Rattle.series_catalog.specs.Shown.{series_in}
use Rattle.series_catalog.proofs.reading.add_page.Goals as goal

pub loop-number-init : goal.loop-number-init
loop-number-init c = read_none c.args.bytes.now c.args.page c.args.count c.args.fresh (series_in c.args.catalog.now) c.requires.read

pub add_series-requires : goal.add_series-requires
add_series-requires c =
    let all : c.in-Ok.view.count ≡ records_of c.args.page c.args.count = c.in-Ok.ensures.count ∙ c.records_of.ensures.count in
    let next : IsNext c.args.bytes.now c.args.page c.args.count c.args.fresh c.loop-number.number
    (series_in c.args.catalog.now) c.in_ok-series.series =
    next_is c.args.bytes.now c.in-Ok.view.bytes.now c.args.page c.args.count c.args.fresh c.in-Ok.view.fresh c.loop-number.number
    (series_in c.args.catalog.now) c.in_ok-series.series (entry_of_record c.record_at.result)
    c.requires.low c.requires.read.len (omega (arith, c.loop-number-test.true, c.count-number-end.ensures.count, all)) c.in-Ok.ensures.bytes
    c.in-Ok.ensures.fresh c.record_at.ensures.entry c.record_at.ensures.fit c.in_ok-series.ensures in
    omega (arith, c.loop-number.invariant.len, next.place.within, c.requires.few)

pub loop-number-preserved : goal.loop-number-preserved
loop-number-preserved c =
    let all : c.in-Ok.view.count ≡ records_of c.args.page c.args.count = c.in-Ok.ensures.count ∙ c.records_of.ensures.count in
    let next : IsNext c.args.bytes.now c.args.page c.args.count c.args.fresh c.loop-number.number
    (series_in c.args.catalog.now) c.in_ok-series.series =
    next_is c.args.bytes.now c.in-Ok.view.bytes.now c.args.page c.args.count c.args.fresh c.in-Ok.view.fresh c.loop-number.number
    (series_in c.args.catalog.now) c.in_ok-series.series (entry_of_record c.record_at.result)
    c.requires.low c.requires.read.len (omega (arith, c.loop-number-test.true, c.count-number-end.ensures.count, all)) c.in-Ok.ensures.bytes
    c.in-Ok.ensures.fresh c.record_at.ensures.entry c.record_at.ensures.fit c.in_ok-series.ensures in
    read_more c.args.bytes.now c.args.page c.args.count c.args.fresh c.loop-number.number (series_in c.args.catalog.now)
    (series_in c.loop-number.catalog) (series_in c.add_series.new.catalog) c.in_ok-series.series
    next c.in_ok-add_series.ensures.added c.in_ok-add_series.ensures.new_name c.loop-number.invariant

pub returns-in_err-add_series-clause-cause : goal.returns-in_err-add_series-clause-cause
returns-in_err-add_series-clause-cause c =
    let all : c.in-Ok.view.count ≡ records_of c.args.page c.args.count = c.in-Ok.ensures.count ∙ c.records_of.ensures.count in
    let next : IsNext c.args.bytes.now c.args.page c.args.count c.args.fresh c.loop-number.number
    (series_in c.args.catalog.now) c.in_ok-series.series =
    next_is c.args.bytes.now c.in-Ok.view.bytes.now c.args.page c.args.count c.args.fresh c.in-Ok.view.fresh c.loop-number.number
    (series_in c.args.catalog.now) c.in_ok-series.series (entry_of_record c.record_at.result)
    c.requires.low c.requires.read.len (omega (arith, c.loop-number-test.true, c.count-number-end.ensures.count, all)) c.in-Ok.ensures.bytes
    c.in-Ok.ensures.fresh c.record_at.ensures.entry c.record_at.ensures.fit c.in_ok-series.ensures in
    let bad : place_of c.in_ok-series.series.name (series_in c.loop-number.catalog) ≢ None → (image : Image)
    → image c.args.page ≡ c.args.bytes.now → AreAsTold image (series_in c.args.catalog.now)
    → IsBadPage c.args.page c.args.count c.args.fresh c.args.bytes.now image =
    λ some image same were. inr (bad_more c.args.bytes.now c.args.page c.args.count c.args.fresh c.loop-number.number
    (series_in c.args.catalog.now) (series_in c.loop-number.catalog) c.in_ok-series.series image next c.loop-number.invariant some same
    were) in
    error_so _ _ c.from_residual-in_err-add_series.result c.from_residual-in_err-add_series.ensures.1 (λ e is.
    let P : CatalogError → Type 0 = λ x. IsPageCause x c.args.page
    (place_of c.in_ok-series.series.name (series_in c.loop-number.catalog) ≢ None) in
    page_cause_so e c.args.page (place_of c.in_ok-series.series.name (series_in c.loop-number.catalog) ≢ None)
    ((image : Image) → image c.args.page ≡ c.args.bytes.now → AreAsTold image (series_in c.args.catalog.now)
    → IsBadPage c.args.page c.args.count c.args.fresh c.args.bytes.now image)
    bad (subst P (sym is) c.in_err-add_series.ensures.cause))

pub returns-clause-read : goal.returns-clause-read
returns-clause-read c =
    let all : c.in-Ok.view.count ≡ records_of c.args.page c.args.count = c.in-Ok.ensures.count ∙ c.records_of.ensures.count in
    read_all c.args.bytes.now c.args.page c.args.count c.args.fresh c.loop-number.number (series_in c.args.catalog.now)
    (series_in c.loop-number.catalog) c.requires.low
    (omega (arith, c.loop-number-test.false, c.loop-number.auto.number-end, c.count-number-end.ensures.count, all)) c.requires.read
    c.loop-number.invariant
