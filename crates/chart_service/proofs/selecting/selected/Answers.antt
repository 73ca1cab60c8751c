use Rattle.std.proofs.Common.{ℕ, ℤ, sym, ap, subst, ◌∙◌, refl, arith}
use Rattle.chart_frames.specs.Frames.{IsAxis}
use Rattle.om3_coeff.specs.View.{NodesView}
use Rattle.whole_number.specs.SlotTimes.{EndsInTime}
use Rattle.tree_walk.specs.declared.tree.Tree.{Tree}
use Rattle.tree_walk.specs.PagedNodes.{ground, paged_view}
use Rattle.series_store.proofs.AskLemmas.{own_store, start_same}
use Rattle.series_store.specs.Shown as stored
use Rattle.chart_service.proofs.SelectLemmas.{there, axis_so, whole, none_stored}
use Rattle.chart_service.proofs.Showing.{stored_fits}
use Rattle.chart_service.proofs.selecting.selected.Goals as goal

pub returns-clause-axis : goal.returns-clause-axis
returns-clause-axis g c =
    let info = c.info-info in
    let start = info.result.start in
    let step = info.result.step in
    let one = there (stored.catalog c.args.store.now) c.args.id c.requires in
    let count = info.ensures.tree one.0 one.1 ∙ sym (ap (λ (t : Tree). t.slots) (c.select.ensures.slots one.0 one.1))
    ∙ sym c.slots.ensures.slots in
    let A : ℤ → Type 0 = λ at. IsAxis at step c.slots.result in
    let E : ℕ → Type 0 = λ slots. EndsInTime start step slots in
    subst A (sym (start_same start info.ensures.start)) (record {
      first = info.ensures.start;
      least = info.ensures.step.0;
      most = info.ensures.step.1;
      limit = omega (arith, info.ensures.slots, count);
      last = subst E count info.ensures.last;
    })

pub returns-clause-stored : goal.returns-clause-stored
returns-clause-stored g c =
    let one = there (stored.catalog c.args.store.now) c.args.id c.requires in
    let tree = c.select.new.self.tree in
    stored_fits c.slots.result tree.span
    (λ none. none_stored (stored.numbers c.args.store.now).fresh one.0 tree (c.select.ensures.slots one.0 one.1)
    (c.args.store.now.fits c.args.id one.0 one.1) (sym c.slots.ensures.slots ∙ none))
    c.select.new.self.proper

pub returns-clause-there : goal.returns-clause-there
returns-clause-there g c = λ total book fit told stands. omega (
  arith,
  c.requires,
  c.len-count.ensures.count,
  c.len-count.ensures.books total book fit told stands,
)

pub returns-clause-axis_is : goal.returns-clause-axis_is
returns-clause-axis_is g c = λ total book series fit told stands at.
    let new = c.select.new.self in
    let view : NodesView = paged_view (ground (g.P.Pages.told (stored.pages new)) (g.P.Pages.view (stored.pages new))
    (g.P.Pages.under (stored.pages new)) (stored.numbers new) new.tree) new.trail in
    axis_so series c.args.id _ c.info-info.result view
    (start_same c.info-info.result.start c.info-info.ensures.start) refl c.slots.ensures.slots
    (c.info-info.ensures.info total book series fit told stands at) (c.select.ensures.agrees total book series fit told stands at)

pub returns-clause-whole : goal.returns-clause-whole
returns-clause-whole g c = rw (
  stored.ForSoundSeries,
  stored.IsSound,
  stored.view,
  stored.IsTold,
  stored.image,
  stored.total,
  stored.pages,
  c.select.ensures.space,
) (λ total book series fit told stands at page damaged.
    let store = c.args.store.now in
    let one = there (stored.catalog store) c.args.id c.requires in
    let own = own_store (g.P.Pages.view (stored.pages store)).size total (g.P.Pages.view (stored.pages store)).image book
    (stored.numbers store) store.space.rules store.small (store.space.spelled fit told) stands in
    whole (g.P.Pages.view (stored.pages store)).image (stored.numbers store) book
    (stored.catalog store) c.args.id one.0 series c.select.new.self.tree page own.0 (store.told fit told) one.1 at
    (c.select.ensures.slots one.0 one.1) damaged)
