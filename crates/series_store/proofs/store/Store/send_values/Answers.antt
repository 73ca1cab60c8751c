use Rattle.std.proofs.Common.{◌≡◌, ◌<◌, ◌^◌, ◌++◌, sym, ap, subst, arith, ◌∙◌}
use Rattle.page_space.specs.declared.superblock.Superblock.{Superblock}
use Rattle.series_catalog.specs.Catalogs.{AreFit}
use Rattle.series_store.specs.Sending.{texts_of}
use Rattle.series_store.proofs.AskLemmas.{kept_tree, tree_fits}
use Rattle.series_store.proofs.CutLemmas.{cut_told_by}
use Rattle.series_store.proofs.FitLemmas.{fit_tree}
use Rattle.series_store.proofs.SeriesSendLemmas.{series_cause_by, sent_told, part_told}
use Rattle.series_store.proofs.StayLemmas.{Stay, told_on, whole_on, trail_on}
use Rattle.series_store.proofs.store.Store.send_values.Goals as goal

pub send_tree-requires-clause-few_slots : goal.send_tree-requires-clause-few_slots
send_tree-requires-clause-few_slots g c =
    let is = c.args.self.now.fits c.args.id c.series.result.now c.series.ensures in
    omega (arith, is.slots)

pub send_tree-requires-clause-root : goal.send_tree-requires-clause-root
send_tree-requires-clause-root g c = tree_fits (g.P.Pages.view c.args.self.now.space.pages).size c.args.self.now.space.superblock
    c.args.self.now.catalog.series.items c.args.id c.series.result.now c.args.self.now.space.rules c.args.self.now.fits c.series.ensures

pub send_tree-requires-clause-proper : goal.send_tree-requires-clause-proper
send_tree-requires-clause-proper g c = (c.args.self.now.fits c.args.id c.series.result.now c.series.ensures).span

pub send_tree-requires-clause-matched : goal.send_tree-requires-clause-matched
send_tree-requires-clause-matched g c =
    let is = c.args.self.now.fits c.args.id c.series.result.now c.series.ensures in
    (is.rooted.1, is.rooted.0)

pub invariant_of-self : goal.invariant_of-self
invariant_of-self g c =
    let kept = c.send_tree.ensures.sends in
    let same : c.send_tree.new.space.superblock ≡ c.args.self.now.space.superblock = kept.superblock in
    let stay : Stay (g.P.Pages.told c.args.self.now.space.pages) (g.P.Pages.told c.send_tree.new.space.pages)
    (g.P.Pages.view c.args.self.now.space.pages) (g.P.Pages.view c.send_tree.new.space.pages) = record {
      was_fit = λ fit. c.requires.sound;
      was_told = kept.was_told;
      image = kept.image;
    } in
    let P : Superblock → Type 0 = λ s. s.total < 2 ^ 32 in
    let F : Superblock → Type 0 = λ s. AreFit s.fresh c.args.self.now.catalog.series.items in
    let R : Superblock → Type 0 = λ s. c.args.self.now.tree.root < s.total in
    record {
      small = subst P (sym same) c.args.self.now.small;
      count = c.args.self.now.count ∙ ap (λ (s : Superblock). s.series) (sym same);
      fits = subst F (sym same) c.args.self.now.fits;
      told = told_on (g.P.Pages.told c.args.self.now.space.pages) (g.P.Pages.told c.send_tree.new.space.pages)
          (g.P.Pages.view c.args.self.now.space.pages)
          (g.P.Pages.view c.send_tree.new.space.pages) c.args.self.now.catalog.series.items stay c.args.self.now.told;
      whole = whole_on (g.P.Pages.told c.args.self.now.space.pages) (g.P.Pages.told c.send_tree.new.space.pages)
          (g.P.Pages.view c.args.self.now.space.pages)
          (g.P.Pages.view c.send_tree.new.space.pages) c.args.self.now.space.superblock c.send_tree.new.space.superblock stay same
          c.args.self.now.whole;
      few = c.args.self.now.few;
      root = subst R (sym same) c.args.self.now.root;
      proper = c.args.self.now.proper;
      trail_is = trail_on (g.P.Pages.told c.args.self.now.space.pages) (g.P.Pages.told c.send_tree.new.space.pages)
          (g.P.Pages.view c.args.self.now.space.pages)
          (g.P.Pages.view c.send_tree.new.space.pages) c.args.self.now.space.superblock c.send_tree.new.space.superblock
          c.args.self.now.tree c.args.self.now.trail stay same c.args.self.now.trail_is;
    }

pub returns-clause-sent : goal.returns-clause-sent
returns-clause-sent g c = λ series told kept.
    let tree = fit_tree (g.P.Pages.view c.args.self.now.space.pages).image c.args.self.now.space.superblock.total
    c.args.self.now.catalog.series.items c.args.id c.series.result.now series
    (c.args.self.now.told c.requires.sound told) c.series.ensures kept in
    sent_told c.send_tree.result (c.args.out.now.items ++ texts_of (g.T.Texts.text c.args.texts.now) series.slots)
    (g.P.Pages.view c.args.self.now.space.pages).beside.sent _ (g.P.Pages.view c.send_tree.new.space.pages).beside.sent _
    (g.met.P.PageWorld.beside_sent c.args.self.now.space.pages) (g.met.P.PageWorld.beside_sent c.send_tree.new.space.pages)
    (c.send_tree.ensures.sent series.slots told tree)

pub returns-clause-part : goal.returns-clause-part
returns-clause-part g c = λ series told kept.
    let tree = fit_tree (g.P.Pages.view c.args.self.now.space.pages).image c.args.self.now.space.superblock.total
    c.args.self.now.catalog.series.items c.args.id c.series.result.now series
    (c.args.self.now.told c.requires.sound told) c.series.ensures kept in
    part_told c.send_tree.result (c.args.out.now.items ++ texts_of (g.T.Texts.text c.args.texts.now) series.slots)
    (g.P.Pages.view c.args.self.now.space.pages).beside.sent _ (g.P.Pages.view c.send_tree.new.space.pages).beside.sent _
    (g.met.P.PageWorld.beside_sent c.args.self.now.space.pages) (g.met.P.PageWorld.beside_sent c.send_tree.new.space.pages)
    (c.send_tree.ensures.part series.slots told tree)

pub returns-clause-cut : goal.returns-clause-cut
returns-clause-cut g c = λ series told kept.
    let tree = fit_tree (g.P.Pages.view c.args.self.now.space.pages).image c.args.self.now.space.superblock.total
    c.args.self.now.catalog.series.items c.args.id c.series.result.now series
    (c.args.self.now.told c.requires.sound told) c.series.ensures kept in
    cut_told_by c.send_tree.result (g.P.Pages.view c.args.self.now.space.pages).image c.args.self.now.space.superblock.total c.args.id
    c.series.result.now (g.T.Texts.text c.args.texts.now) series.slots c.args.out.now.items
    (g.P.Pages.view c.args.self.now.space.pages).beside.sent _ (g.P.Pages.view c.send_tree.new.space.pages).beside.sent _
    (c.args.self.now.told c.requires.sound told c.args.id c.series.result.now c.series.ensures)
    (g.met.P.PageWorld.beside_sent c.args.self.now.space.pages) (g.met.P.PageWorld.beside_sent c.send_tree.new.space.pages)
    (c.send_tree.ensures.cut series.slots told tree)

pub returns-clause-no_damage : goal.returns-clause-no_damage
returns-clause-no_damage g c = λ series told kept.
    let tree = kept_tree (g.P.Pages.view c.args.self.now.space.pages).image c.args.self.now.space.superblock.total
    c.args.self.now.catalog.series.items c.args.id c.series.result.now series
    (c.args.self.now.told c.requires.sound told) c.series.ensures kept in
    c.send_tree.ensures.no_damage series.slots told tree

pub returns-clause-reads : goal.returns-clause-reads
returns-clause-reads g c = λ series told kept.
    let tree = fit_tree (g.P.Pages.view c.args.self.now.space.pages).image c.args.self.now.space.superblock.total
    c.args.self.now.catalog.series.items c.args.id c.series.result.now series
    (c.args.self.now.told c.requires.sound told) c.series.ensures kept in
    c.send_tree.ensures.reads series.slots told tree

pub returns-clause-cause : goal.returns-clause-cause
returns-clause-cause g c =
    series_cause_by c.send_tree.result (g.P.Pages.told c.args.self.now.space.pages) c.args.self.now.space.superblock c.args.id
    c.series.result.now (g.P.Pages.view c.args.self.now.space.pages) (g.P.Pages.view c.send_tree.new.space.pages)
    (λ t. c.args.self.now.told c.requires.sound t c.args.id c.series.result.now c.series.ensures) c.send_tree.ensures.cause
