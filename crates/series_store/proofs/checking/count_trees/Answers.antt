use Rattle.std.proofs.Common.{◌≡◌, ◌≤◌, ◌+◌, ℕ, length, sym, ap, subst, arith, ◌∙◌}
use Rattle.std.proofs.lemmas.Option.{slice_get_within}
use Rattle.page_space.specs.declared.superblock.Superblock.{Superblock}
use Rattle.tree_walk.proofs.StepLemmas.{error_so}
use Rattle.series_store.proofs.AskLemmas.{tree_fits}
use Rattle.series_store.proofs.BookCountLemmas.{some_at, tree_stands, stands_then, few_values, near_root, trees_read, trees_on, trees_whole}
use Rattle.path_repair.specs.Sums.{sum_below}
use Rattle.series_store.specs.Counting.{pages_of_root, NamesWithin}
use Rattle.series_store.specs.declared.errors.StoreError.{StoreError}
use Rattle.series_store.proofs.checking.count_trees.Goals as goal

pub page_levels-levels-requires : goal.page_levels-levels-requires
page_levels-levels-requires g c =
    let is = c.requires.fits c.loop-id.id c.series.result.now c.series.ensures in
    omega (arith, is.slots)

pub count_values-requires-clause-page : goal.count_values-requires-clause-page
count_values-requires-clause-page g c =
    omega (
      arith,
      tree_fits (g.P.Pages.view c.args.space.now.pages).size c.args.space.now.superblock c.args.catalog.now.series.items
          c.loop-id.id c.series.result.now c.args.space.now.rules c.requires.fits c.series.ensures,
      ap (λ (s : Superblock). s.total) c.loop-id.invariant.0.looks.over.superblock,
    )

pub count_values-requires-clause-proper : goal.count_values-requires-clause-proper
count_values-requires-clause-proper g c = (c.requires.fits c.loop-id.id c.series.result.now c.series.ensures).span

pub count_values-requires-clause-matched : goal.count_values-requires-clause-matched
count_values-requires-clause-matched g c = λ low.
    let is = c.requires.fits c.loop-id.id c.series.result.now c.series.ensures in
    (is.rooted.1, is.rooted.0)

pub count_values-requires-clause-near : goal.count_values-requires-clause-near
count_values-requires-clause-near g c = near_root c.page_levels-levels.result c.page_levels-levels.ensures.few

pub count_values-requires-clause-slot : goal.count_values-requires-clause-slot
count_values-requires-clause-slot g c = λ lowest. absurd (omega (arith, lowest, c.page_levels-levels.ensures.some))

pub returns-in_err-more-clause-reads : goal.returns-in_err-more-clause-reads
returns-in_err-more-clause-reads g c = λ told.
    trees_read (g.P.Pages.told c.args.space.now.pages) (g.P.Pages.told c.loop-id.space.pages)
    (g.P.Pages.told c.count_values.new.space.pages) (g.P.Pages.view c.args.space.now.pages) (g.P.Pages.view c.loop-id.space.pages)
    (g.P.Pages.view c.count_values.new.space.pages) (g.P.Pages.under c.args.space.now.pages) (g.P.Pages.under c.loop-id.space.pages)
    (g.P.Pages.under c.count_values.new.space.pages) c.args.space.now.superblock c.loop-id.space.superblock
    c.count_values.new.space.superblock c.args.catalog.now.series.items c.series.result.now c.loop-id.values c.loop-id.id
    c.page_levels-levels.result
    c.loop-id.invariant.0 c.series.ensures c.page_levels-levels.ensures.levels c.count_values.ensures.reads told

pub returns-clause-reads : goal.returns-clause-reads
returns-clause-reads g c = λ told.
    let end : c.loop-id.id ≡ length c.args.catalog.now.series.items = omega (
      arith,
      c.loop-id-test.false,
      c.loop-id.auto.id-end,
      c.len-id-end.ensures.count,
    ) in
    let P : ℕ → Type 0 = λ n. (g.P.Pages.view c.loop-id.space.pages).reads ≤ (g.P.Pages.view c.args.space.now.pages).reads + sum_below
    (pages_of_root (g.P.Pages.view c.args.space.now.pages).image c.args.catalog.now.series.items) n in
    subst P end (c.loop-id.invariant.0.reads told)

pub returns-in_err-more-clause-stands : goal.returns-in_err-more-clause-stands
returns-in_err-more-clause-stands g c = λ book told store are long.
    let way = c.loop-id.invariant.0 in
    let two = some_at book c.loop-id.id (omega (
      arith,
      long,
      slice_get_within c.args.catalog.now.series.items c.loop-id.id c.series.result.now c.series.ensures,
    )) in
    let stands = tree_stands (g.P.Pages.view c.args.space.now.pages).image c.args.space.now.superblock book c.args.catalog.now.series.items
    c.loop-id.id c.series.result.now two.0 store are c.series.ensures two.1 in
    let root = stands_then (g.P.Pages.view c.args.space.now.pages).image
    (g.P.Pages.view c.loop-id.space.pages).image c.args.space.now.superblock c.loop-id.space.superblock book
    c.args.catalog.now.series.items c.loop-id.id c.page_levels-levels.result c.series.result.now two.0
    (way.looks.kept.image told) way.looks.over.superblock store are c.series.ensures two.1 c.page_levels-levels.ensures.levels in
    error_so _ _ c.from_residual.result c.from_residual.ensures.1
    (λ e same. same ∙ c.in_err-more.ensures.stands two.0.slots (way.looks.kept.told told) stands.values
    (sym stands.slots) root.pages root.top_is)

pub overflow_add-values : goal.overflow_add-values
overflow_add-values g c =
    omega (
      arith,
      c.loop-id.invariant.0.few,
      few_values c.in_ok-more.more c.page_levels-levels.result c.page_levels-levels.ensures.few
          c.in_ok-more.ensures.few,
      c.loop-id-test.true,
      c.len-id-end.ensures.few,
    )

pub loop-id-preserved : goal.loop-id-preserved
loop-id-preserved g c = (
  trees_on (g.P.Pages.told c.args.space.now.pages) (g.P.Pages.told c.loop-id.space.pages) (g.P.Pages.told c.count_values.new.space.pages)
      (g.P.Pages.view c.args.space.now.pages) (g.P.Pages.view c.loop-id.space.pages) (g.P.Pages.view c.count_values.new.space.pages)
      (g.P.Pages.under c.args.space.now.pages) (g.P.Pages.under c.loop-id.space.pages)
      (g.P.Pages.under c.count_values.new.space.pages) c.args.space.now.superblock c.loop-id.space.superblock
      c.count_values.new.space.superblock c.args.catalog.now.series.items c.series.result.now c.loop-id.values c.in_ok-more.more
      c.loop-id.id c.page_levels-levels.result
      c.loop-id.invariant.0 c.series.ensures c.page_levels-levels.ensures.levels c.page_levels-levels.ensures.few
      c.page_levels-levels.ensures.covers c.count_values.ensures.looks c.in_ok-more.ensures.few
      (λ list told slots long tree top. c.in_ok-more.ensures.counts list told slots long tree top)
      (λ told. c.count_values.ensures.reads told)
      (λ told. c.in_ok-more.ensures.whole told),
  c.in_ok-more.ensures.quiet ∙ c.loop-id.invariant.1,
)

pub returns-clause-whole : goal.returns-clause-whole
returns-clause-whole g c = λ told.
    let end : c.loop-id.id ≡ length c.args.catalog.now.series.items = omega (
      arith,
      c.loop-id-test.false,
      c.loop-id.auto.id-end,
      c.len-id-end.ensures.count,
    ) in
    trees_whole (g.P.Pages.view c.args.space.now.pages).image c.args.space.now.superblock.total c.loop-id.id c.args.catalog.now.series.items
    end (c.loop-id.invariant.0.whole told)

pub returns-in_err-more-clause-within : goal.returns-in_err-more-clause-within
returns-in_err-more-clause-within g c =
    let W : StoreError → Type 0 = λ e. NamesWithin c.args.space.now.superblock.total e in
    let N : ℕ → Type 0 = λ n. NamesWithin n c.in_err-more.field-0.0 in
    error_so _ W c.from_residual.result c.from_residual.ensures.1
    (λ e same. subst W (sym same) (subst N (ap (λ (s : Superblock). s.total) c.loop-id.invariant.0.looks.over.superblock)
    c.in_err-more.ensures.within))

pub returns-in_err-more-clause-quiet_err : goal.returns-in_err-more-clause-quiet_err
returns-in_err-more-clause-quiet_err g c =
    error_so _ _ c.from_residual.result c.from_residual.ensures.1
    (λ e same other. c.in_err-more.ensures.quiet_err (λ is. other (same ∙ is)) ∙ c.loop-id.invariant.1)

pub returns-clause-quiet : goal.returns-clause-quiet
returns-clause-quiet g c = c.loop-id.invariant.1
