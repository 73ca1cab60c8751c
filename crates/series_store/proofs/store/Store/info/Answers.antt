use Rattle.std.proofs.Common.{◌≡◌, ◌∙◌, ℤ, Some, refl, sym, ap, subst, arith}
use Rattle.whole_number.specs.Range.{IsValue}
use Rattle.whole_number.specs.SlotTimes.{EndsInTime}
use Rattle.series_store.proofs.AskLemmas.{own_store, info_is, start_same}
use Rattle.series_catalog.specs.declared.stored_series.StoredSeries.{StoredSeries}
use Rattle.series_store.proofs.store.Store.info.Goals as goal

pub returns-clause-step : goal.returns-clause-step
returns-clause-step g c =
    let is = (c.args.self.now.fits c.args.id c.series-series.result.now c.series-series.ensures) in
    (is.step_low, is.step_high)

pub returns-clause-start : goal.returns-clause-start
returns-clause-start g c =
    let few = (c.args.self.now.fits c.args.id c.series-series.result.now c.series-series.ensures).start in
    let P : ℤ → Type 0 = IsValue in
    subst P (sym (start_same c.series-series.result.now.start few)) few

pub returns-clause-scale : goal.returns-clause-scale
returns-clause-scale g c = (c.args.self.now.fits c.args.id c.series-series.result.now c.series-series.ensures).scale

pub returns-clause-slots : goal.returns-clause-slots
returns-clause-slots g c = (c.args.self.now.fits c.args.id c.series-series.result.now c.series-series.ensures).slots

pub returns-clause-last : goal.returns-clause-last
returns-clause-last g c =
    let one = c.series-series.result.now in
    let is = c.args.self.now.fits c.args.id one c.series-series.ensures in
    let P : ℤ → Type 0 = λ start. EndsInTime start one.step one.tree.slots in
    subst P (sym (start_same one.start is.start)) is.last

pub returns-clause-none : goal.returns-clause-none
returns-clause-none g c = λ none.
    let is = (c.args.self.now.fits c.args.id c.series-series.result.now c.series-series.ensures) in
    is.rooted.1 (is.root.none none)

pub returns-clause-info : goal.returns-clause-info
returns-clause-info g c = λ total book series fit told stands there.
    let own = own_store (g.P.Pages.view c.args.self.now.space.pages).size total
    (g.P.Pages.view c.args.self.now.space.pages).image book c.args.self.now.space.superblock c.args.self.now.space.rules
    c.args.self.now.small (c.args.self.now.space.spelled fit told) stands in
    info_is (g.P.Pages.view c.args.self.now.space.pages).image c.args.self.now.space.superblock book c.args.self.now.catalog.series.items
    c.args.id c.series-series.result.now series _ own.0 (c.args.self.now.told fit told) c.series-series.ensures there refl
    (start_same c.series-series.result.now.start
    (c.args.self.now.fits c.args.id c.series-series.result.now c.series-series.ensures).start) refl refl refl refl

pub returns-clause-few : goal.returns-clause-few
returns-clause-few g c = omega (arith, c.requires, c.args.self.now.catalog.few)

pub returns-clause-proper : goal.returns-clause-proper
returns-clause-proper g c = (c.args.self.now.fits c.args.id c.series-series.result.now c.series-series.ensures).span

pub returns-clause-stored : goal.returns-clause-stored
returns-clause-stored g c = λ series there.
    let one = c.series-series.result.now in
    let is = c.args.self.now.fits c.args.id one c.series-series.ensures in
    let both : Some one ≡ Some series = sym c.series-series.ensures ∙ there in
    let same : one ≡ series = cc in
    record {
      start = start_same one.start is.start ∙ ap (λ (s : StoredSeries). s.start) same;
      step = ap (λ (s : StoredSeries). s.step) same;
      scale = ap (λ (s : StoredSeries). s.scale) same;
      slots = ap (λ (s : StoredSeries). s.tree.slots) same;
    }
