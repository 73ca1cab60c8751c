use Rattle.std.proofs.Common.{◌<◌, ◌^◌, [], length, sym, ap, subst, arith, ◌∙◌}
use Rattle.block_disk.specs.View.{Image}
use Rattle.page_space.specs.declared.superblock.Superblock.{Superblock}
use Rattle.stored_book.specs.Standing.{StandsForBook}
use Rattle.tree_walk.specs.SpaceViews.{space_view}
use Rattle.tree_walk.proofs.TrailLemmas.{any_trail}
use Rattle.series_catalog.proofs.ReadLemmas.{none_told}
use Rattle.series_store.proofs.OpenLemmas.{init_fault, init_same, init_unsound, made, made_whole, making, none_fit}
use Rattle.series_store.proofs.store.Store.init.Goals as goal

pub invariant_of-result : goal.invariant_of-result
invariant_of-result g c =
    let small : (g.P.Pages.view c.args.pages).size < 2 ^ 32 = omega (arith, c.count-count.ensures) in
    let P : Superblock → Type 0 = λ s. s.total < 2 ^ 32 in
    record {
      small = subst P (sym c.in-Ok-init.ensures.superblock) small;
      count = ap length c.in-Ok.ensures.catalog ∙ ap (λ (s : Superblock). s.series) (sym c.in-Ok-init.ensures.superblock);
      fits = none_fit c.in-Ok-init.space.superblock.fresh c.in-Ok.parts.0.series.items c.in-Ok.ensures.catalog;
      told = λ fit told. none_told (g.P.Pages.view c.in-Ok-init.space.pages).image c.in-Ok.parts.0.series.items c.in-Ok.ensures.catalog;
      whole = λ fit told. made_whole (g.P.Pages.view c.args.pages).size (g.P.Pages.view c.args.pages).image
          (g.P.Pages.view c.in-Ok-init.space.pages).image c.in-Ok-init.space.superblock c.requires.many small c.in-Ok-init.ensures.first
          (c.in-Ok-init.ensures.done (c.in-Ok-init.ensures.commits.was_told told)) c.in-Ok-init.ensures.superblock;
      few = omega arith;
      root = omega (arith, c.in-Ok-init.space.rules.total_low);
      proper = tt;
      trail_is = any_trail (g.P.Pages.told c.in-Ok-init.space.pages)
          (space_view c.in-Ok-init.space.superblock (g.P.Pages.view c.in-Ok-init.space.pages)) _ c.in-Ok.parts.1 c.in-Ok.ensures.trail;
    }

pub returns-in-Ok-init-clause-store : goal.returns-in-Ok-init-clause-store
returns-in-Ok-init-clause-store g c = λ told.
    let small : (g.P.Pages.view c.args.pages).size < 2 ^ 32 = omega (arith, c.count-count.ensures) in
    let P : Image → Type 0 = λ image. StandsForBook image (g.P.Pages.view c.args.pages).size [] in
    subst P (sym (c.in-Ok-init.ensures.done told)) (made (g.P.Pages.view c.args.pages).size
    (g.P.Pages.view c.args.pages).image c.requires.many small c.in-Ok-init.ensures.first)

pub returns-in-Ok-init-clause-moments : goal.returns-in-Ok-init-clause-moments
returns-in-Ok-init-clause-moments g c =
    let small : (g.P.Pages.view c.args.pages).size < 2 ^ 32 = omega (arith, c.count-count.ensures) in
    making (g.P.Pages.told c.args.pages) (g.P.Pages.told c.in-Ok-init.space.pages) (g.P.Pages.view c.args.pages)
    (g.P.Pages.view c.in-Ok-init.space.pages) c.requires.many small c.in-Ok-init.ensures.first c.in-Ok-init.ensures.commits

pub returns-in-Err-init-clause-moments : goal.returns-in-Err-init-clause-moments
returns-in-Err-init-clause-moments g c =
    let small : (g.P.Pages.view c.args.pages).size < 2 ^ 32 = omega (arith, c.count-count.ensures) in
    making (g.P.Pages.told c.args.pages) (g.P.Pages.told c.in-Err-init.field-0.value) (g.P.Pages.view c.args.pages)
    (g.P.Pages.view c.in-Err-init.field-0.value) c.requires.many small c.in-Err-init.ensures.first c.in-Err-init.ensures.commits

pub returns-in-Err-init-clause-fault : goal.returns-in-Err-init-clause-fault
returns-in-Err-init-clause-fault g c = λ is.
    let view = g.P.Pages.view in
    init_fault (view c.args.pages) (view c.in-Err-init.field-0.value) c.in-Err-init.field-0.cause c.in-Err-init.ensures.cause
    (sym c.space_error.ensures ∙ is)

pub returns-in-Err-init-clause-unsound : goal.returns-in-Err-init-clause-unsound
returns-in-Err-init-clause-unsound g c = λ is.
    let view = g.P.Pages.view in
    init_unsound (view c.args.pages) (view c.in-Err-init.field-0.value)
    (view c.in-Err-init.field-0.value).fit c.in-Err-init.field-0.cause c.in-Err-init.ensures.cause c.in-Err-init.ensures.unsound
    (sym c.space_error.ensures ∙ is)

pub returns-in-Err-init-clause-no_memory : goal.returns-in-Err-init-clause-no_memory
returns-in-Err-init-clause-no_memory g c = λ is.
    let view = g.P.Pages.view in
    init_same (view c.args.pages) (view c.in-Err-init.field-0.value) c.in-Err-init.field-0.value c.args.pages c.in-Err-init.field-0.cause
    c.in-Err-init.ensures.cause c.in-Err-init.ensures.no_memory (sym c.space_error.ensures ∙ is)
