use Rattle.std.proofs.Common.{◌≡◌, sym, subst}
use Rattle.block_disk.specs.View.{Image}
use Rattle.tree_walk.proofs.StepLemmas.{error_so}
use Rattle.series_catalog.specs.Catalogs.{AreAsTold}
use Rattle.series_catalog.specs.Reading.{IsCatalogCause, IsCatalogPage, IsPageCause}
use Rattle.series_catalog.specs.declared.errors.CatalogError.{CatalogError}
use Rattle.series_catalog.proofs.ReadLemmas.{page_cause, page_placed, IsBadPage}
use Rattle.series_catalog.specs.Shown.{series_in}
use Rattle.page_space.specs.Shown as shown
use Rattle.series_catalog.proofs.reading.read_page.Goals as goal

pub returns-in_err-add_page-clause-place : goal.returns-in_err-add_page-clause-place
returns-in_err-add_page-clause-place g c =
    let P : CatalogError → Type 0 = λ x. IsPageCause x c.args.page ((image : Image) → image c.args.page ≡ c.get.new.out
    → AreAsTold image (series_in c.args.catalog.now)
    → IsBadPage c.args.page c.series-count.result c.fresh-fresh.result c.get.new.out image) in
    error_so _ IsCatalogPage c.from_residual-in_err-add_page.result c.from_residual-in_err-add_page.ensures.1
    (λ e is. page_placed e c.args.page ((image : Image) → image c.args.page ≡ c.get.new.out → AreAsTold image (series_in c.args.catalog.now)
    → IsBadPage c.args.page c.series-count.result c.fresh-fresh.result c.get.new.out image) c.requires.low c.requires.high
    (subst P (sym is) c.in_err-add_page.ensures.cause))

pub returns-in_err-add_page-clause-cause : goal.returns-in_err-add_page-clause-cause
returns-in_err-add_page-clause-cause g c =
    let P : CatalogError → Type 0 = λ x. IsPageCause x c.args.page ((image : Image) → image c.args.page ≡ c.get.new.out
    → AreAsTold image (series_in c.args.catalog.now)
    → IsBadPage c.args.page c.series-count.result c.fresh-fresh.result c.get.new.out image) in
    let Q : CatalogError → Type 0 = λ x. IsCatalogCause x (shown.IsTold c.args.space.now) (shown.numbers c.args.space.now)
    (shown.view c.args.space.now) (shown.view c.get.new.self) in
    error_so _ Q c.from_residual-in_err-add_page.result c.from_residual-in_err-add_page.ensures.1
    (λ e is. page_cause (shown.IsTold c.args.space.now) (shown.numbers c.args.space.now) (shown.view c.args.space.now)
    (shown.view c.get.new.self) c.args.page c.series-count.result c.fresh-fresh.result c.get.new.out (series_in c.args.catalog.now) e
    c.requires.low c.requires.high c.series-count.ensures.series c.fresh-fresh.ensures.fresh c.in_ok-get.ensures.page c.requires.told
    (subst P (sym is) c.in_err-add_page.ensures.cause))

pub returns-clause-told : goal.returns-clause-told
returns-clause-told g c = λ told. c.in_ok-add_page.ensures.told (shown.image c.args.space.now) (sym (c.in_ok-get.ensures.page told))
    (c.requires.told told)
