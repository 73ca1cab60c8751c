use Rattle.std.proofs.Common.{arith}
use Rattle.path_repair.proofs.EditLemmas.{levels_few}
use Rattle.series_store.proofs.BookCountLemmas.{root_stands}
use Rattle.series_store.proofs.MetLemmas.{most_met}
use Rattle.series_store.proofs.ReadingLemmas.{root_covers, tree_window_by, tree_some_by}
use Rattle.series_store.proofs.SeriesSendLemmas.{root_range}
use Rattle.series_store.proofs.window_reading.add_window.Goals as goal

pub add_below-requires-clause-level : goal.add_below-requires-clause-level
add_below-requires-clause-level g c = omega (arith, c.page_levels-levels.ensures.levels, levels_few c.args.tree.slots)

pub add_below-requires-clause-range : goal.add_below-requires-clause-range
add_below-requires-clause-range g c = root_range c.page_levels-levels.result
    (omega (arith, c.page_levels-levels.ensures.levels, levels_few c.args.tree.slots))

pub returns-clause-reads : goal.returns-clause-reads
returns-clause-reads g c =
    omega (
      arith,
      c.add_below.ensures.reads,
      most_met c.args.from c.args.to c.page_levels-levels.result 0
          (omega (arith, c.page_levels-levels.ensures.levels, levels_few c.args.tree.slots)) c.requires.piece,
    )

pub returns-clause-some : goal.returns-clause-some
returns-clause-some g c =
    tree_some_by c.add_below.result c.page_levels-levels.result c.args.from c.args.to c.args.values.now c.add_below.new.values
    (root_covers c.page_levels-levels.result c.args.to c.args.tree c.page_levels-levels.ensures.levels c.requires.few_slots
    c.requires.within) c.requires.none c.add_below.ensures.some

pub returns-clause-values : goal.returns-clause-values
returns-clause-values g c = λ list told stands.
    tree_window_by c.add_below.result list (g.P.Pages.view c.args.space.now.pages).image c.args.space.now.superblock.total
    c.page_levels-levels.result c.args.from c.args.to c.args.tree c.args.values.now c.add_below.new.values
    c.page_levels-levels.ensures.levels stands
    (root_covers c.page_levels-levels.result c.args.to c.args.tree c.page_levels-levels.ensures.levels c.requires.few_slots
    c.requires.within) c.requires.none (λ list slots tree top. c.add_below.ensures.values list told slots tree top)

pub returns-clause-stands : goal.returns-clause-stands
returns-clause-stands g c = λ list told stands.
    let root = root_stands (g.P.Pages.view c.args.space.now.pages).image c.args.space.now.superblock.total c.args.tree list
    c.page_levels-levels.result c.page_levels-levels.ensures.levels stands in
    c.add_below.ensures.stands list told stands.values root.pages root.top_is
