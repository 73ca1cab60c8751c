use Rattle.std.proofs.Common.{◌≡◌, ◌<◌, ◌^◌, sym, ap, subst, arith, ◌∙◌}
use Rattle.page_space.specs.declared.superblock.Superblock.{Superblock}
use Rattle.series_catalog.specs.Catalogs.{AreFit}
use Rattle.tree_walk.proofs.StepLemmas.{error_so}
use Rattle.series_store.specs.Opening.{IsOutside}
use Rattle.series_store.specs.WindowReading.{IsWindowCause}
use Rattle.series_store.specs.declared.errors.StoreError.{StoreError}
use Rattle.series_store.proofs.AskLemmas.{own_store, tree_fits}
use Rattle.series_store.proofs.BookCountLemmas.{tree_stands}
use Rattle.series_store.proofs.ReadingLemmas.{window_cause}
use Rattle.series_store.proofs.StayLemmas.{Stay, told_on, whole_on, trail_on}
use Rattle.series_store.proofs.store.Store.values.Goals as goal

pub add_window-requires-clause-few_slots : goal.add_window-requires-clause-few_slots
add_window-requires-clause-few_slots g c =
    let is = c.args.self.now.fits c.args.id c.series.result.now c.series.ensures in
    omega (arith, is.slots)

pub add_window-requires-clause-within : goal.add_window-requires-clause-within
add_window-requires-clause-within g c = c.requires.within c.series.result.now c.series.ensures

pub add_window-requires-clause-root : goal.add_window-requires-clause-root
add_window-requires-clause-root g c = tree_fits (g.P.Pages.view c.args.self.now.space.pages).size c.args.self.now.space.superblock
    c.args.self.now.catalog.series.items c.args.id c.series.result.now c.args.self.now.space.rules c.args.self.now.fits c.series.ensures

pub add_window-requires-clause-proper : goal.add_window-requires-clause-proper
add_window-requires-clause-proper g c = (c.args.self.now.fits c.args.id c.series.result.now c.series.ensures).span

pub add_window-requires-clause-matched : goal.add_window-requires-clause-matched
add_window-requires-clause-matched g c =
    let is = c.args.self.now.fits c.args.id c.series.result.now c.series.ensures in
    (is.rooted.1, is.rooted.0)

pub invariant_of-self : goal.invariant_of-self
invariant_of-self g c =
    let kept = c.add_window.ensures.looks.kept in
    let same : c.add_window.new.space.superblock ≡ c.args.self.now.space.superblock = c.add_window.ensures.looks.over.superblock in
    let stay : Stay (g.P.Pages.told c.args.self.now.space.pages) (g.P.Pages.told c.add_window.new.space.pages)
    (g.P.Pages.view c.args.self.now.space.pages) (g.P.Pages.view c.add_window.new.space.pages) = record {
      was_fit = λ fit. c.requires.sound;
      was_told = kept.was_told;
      image = kept.image;
    } in
    let P : Superblock → Type 0 = λ s. s.total < 2 ^ 32 in
    let F : Superblock → Type 0 = λ s. AreFit s.fresh c.args.self.now.catalog.series.items in
    let R : Superblock → Type 0 = λ s. c.args.self.now.tree.root < s.total in
    record {
      small = subst P (sym same) c.args.self.now.small;
      count = c.args.self.now.count ∙ ap (λ (s : Superblock). s.series) (sym same);
      fits = subst F (sym same) c.args.self.now.fits;
      told = told_on (g.P.Pages.told c.args.self.now.space.pages) (g.P.Pages.told c.add_window.new.space.pages)
          (g.P.Pages.view c.args.self.now.space.pages)
          (g.P.Pages.view c.add_window.new.space.pages) c.args.self.now.catalog.series.items stay c.args.self.now.told;
      whole = whole_on (g.P.Pages.told c.args.self.now.space.pages) (g.P.Pages.told c.add_window.new.space.pages)
          (g.P.Pages.view c.args.self.now.space.pages)
          (g.P.Pages.view c.add_window.new.space.pages) c.args.self.now.space.superblock c.add_window.new.space.superblock stay same
          c.args.self.now.whole;
      few = c.args.self.now.few;
      root = subst R (sym same) c.args.self.now.root;
      proper = c.args.self.now.proper;
      trail_is = trail_on (g.P.Pages.told c.args.self.now.space.pages) (g.P.Pages.told c.add_window.new.space.pages)
          (g.P.Pages.view c.args.self.now.space.pages)
          (g.P.Pages.view c.add_window.new.space.pages) c.args.self.now.space.superblock c.add_window.new.space.superblock
          c.args.self.now.tree c.args.self.now.trail stay same c.args.self.now.trail_is;
    }

pub returns-in_err-add_window-clause-stands : goal.returns-in_err-add_window-clause-stands
returns-in_err-add_window-clause-stands g c = λ total book series told stands there.
    let store = own_store (g.P.Pages.view c.args.self.now.space.pages).size total
    (g.P.Pages.view c.args.self.now.space.pages).image book c.args.self.now.space.superblock c.args.self.now.space.rules
    c.args.self.now.small (c.args.self.now.space.spelled c.requires.sound told) stands in
    let tree = tree_stands (g.P.Pages.view c.args.self.now.space.pages).image c.args.self.now.space.superblock book
    c.args.self.now.catalog.series.items c.args.id c.series.result.now series store.0
    (c.args.self.now.told c.requires.sound told) c.series.ensures there in
    error_so _ IsOutside c.from_residual.result c.from_residual.ensures.1
    (λ e same. subst IsOutside (sym same) (c.in_err-add_window.ensures.stands series.slots told tree))

pub returns-in_err-add_window-clause-cause : goal.returns-in_err-add_window-clause-cause
returns-in_err-add_window-clause-cause g c =
    let U : StoreError → Type 0 = λ e. IsWindowCause e
    (g.P.Pages.told c.args.self.now.space.pages) c.args.self.now.space.superblock c.args.id (g.P.Pages.view c.args.self.now.space.pages)
    (g.P.Pages.view c.add_window.new.space.pages) in
    error_so _ U c.from_residual.result c.from_residual.ensures.1
    (λ e same. subst U (sym same) (window_cause c.in_err-add_window.field-0.0
    (g.P.Pages.told c.args.self.now.space.pages) c.args.self.now.space.superblock c.args.id c.series.result.now
    (g.P.Pages.view c.args.self.now.space.pages) (g.P.Pages.view c.add_window.new.space.pages)
    (λ t. c.args.self.now.told c.requires.sound t c.args.id c.series.result.now c.series.ensures) c.in_err-add_window.ensures.cause))

pub returns-in_err-add_window-clause-quiet_err : goal.returns-in_err-add_window-clause-quiet_err
returns-in_err-add_window-clause-quiet_err g c =
    error_so _ _ c.from_residual.result c.from_residual.ensures.1
    (λ e same other. c.in_err-add_window.ensures.quiet_err (λ is. other (same ∙ is)))

pub returns-clause-values : goal.returns-clause-values
returns-clause-values g c = λ total book series told stands there.
    let store = own_store (g.P.Pages.view c.args.self.now.space.pages).size total
    (g.P.Pages.view c.args.self.now.space.pages).image book c.args.self.now.space.superblock c.args.self.now.space.rules
    c.args.self.now.small (c.args.self.now.space.spelled c.requires.sound told) stands in
    let tree = tree_stands (g.P.Pages.view c.args.self.now.space.pages).image c.args.self.now.space.superblock book
    c.args.self.now.catalog.series.items c.args.id c.series.result.now series store.0
    (c.args.self.now.told c.requires.sound told) c.series.ensures there in
    c.in_ok-add_window.ensures.values series.slots told tree
