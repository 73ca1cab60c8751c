use Rattle.std.proofs.Common.{◌≡◌, ◌<◌, ◌^◌, sym, ap, subst, arith, ◌∙◌}
use Rattle.page_space.specs.declared.superblock.Superblock.{Superblock}
use Rattle.series_catalog.specs.Catalogs.{AreFit}
use Rattle.tree_walk.specs.SpaceViews.{space_view}
use Rattle.tree_walk.proofs.TrailLemmas.{any_trail}
use Rattle.series_store.specs.Opening.{IsFirstPage}
use Rattle.series_store.proofs.OpenLemmas.{first_read}
use Rattle.series_store.proofs.StayLemmas.{Stay, told_on, whole_on}
use Rattle.series_store.proofs.store.Store.with_catalog.Goals as goal

pub invariant_of-result : goal.invariant_of-result
invariant_of-result g c =
    let same : c.read_catalog.new.space.superblock ≡ c.args.space.superblock = c.read_catalog.ensures.superblock in
    let stay : Stay (g.P.Pages.told c.args.space.pages) (g.P.Pages.told c.read_catalog.new.space.pages) (g.P.Pages.view c.args.space.pages)
    (g.P.Pages.view c.read_catalog.new.space.pages) = record {
      was_fit = λ fit. c.requires.sound;
      was_told = c.read_catalog.ensures.reads.was_told;
      image = c.read_catalog.ensures.reads.image;
    } in
    let small : c.args.space.superblock.total < 2 ^ 32 = omega (arith, c.total-total.ensures.total) in
    let P : Superblock → Type 0 = λ s. s.total < 2 ^ 32 in
    let F : Superblock → Type 0 = λ s. AreFit s.fresh c.in-Ok.catalog.series.items in
    record {
      small = subst P (sym same) small;
      count = c.in-Ok.ensures.count ∙ ap (λ (s : Superblock). s.series) (sym same);
      fits = subst F (sym same) c.in-Ok.ensures.fit;
      told = told_on (g.P.Pages.told c.args.space.pages) (g.P.Pages.told c.read_catalog.new.space.pages) (g.P.Pages.view c.args.space.pages)
          (g.P.Pages.view c.read_catalog.new.space.pages) c.in-Ok.catalog.series.items stay (λ fit. c.in-Ok.ensures.told);
      whole = whole_on (g.P.Pages.told c.args.space.pages) (g.P.Pages.told c.read_catalog.new.space.pages)
          (g.P.Pages.view c.args.space.pages) (g.P.Pages.view c.read_catalog.new.space.pages) c.args.space.superblock
          c.read_catalog.new.space.superblock stay same (λ fit. c.in-Ok.ensures.whole);
      few = omega arith;
      root = omega (arith, c.read_catalog.new.space.rules.total_low);
      proper = tt;
      trail_is = any_trail (g.P.Pages.told c.read_catalog.new.space.pages)
          (space_view c.read_catalog.new.space.superblock (g.P.Pages.view c.read_catalog.new.space.pages)) _ c.args.trail c.requires.trail;
    }

pub returns-in-Err-clause-place : goal.returns-in-Err-clause-place
returns-in-Err-clause-place g c = subst IsFirstPage (sym c.catalog_error.ensures) (first_read c.in-Err.cause c.in-Err.ensures.place)
