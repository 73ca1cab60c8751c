use Rattle.std.proofs.Common.{◌≡◌, ap, refl}
use Rattle.chart_grid.specs.declared.axis.Axis.{Axis}
use Rattle.om3_coeff.specs.View.{NodesView}
use Rattle.zoom_session.specs.Sessions.{session_of}
use Rattle.series_store.specs.Shown as store
use Rattle.chart_service.specs.Shown as shown
use Rattle.chart_service.specs.Planning.{PlansOrStops, RefusesView}
use Rattle.chart_service.specs.Looking.{IsPlanCause}
use Rattle.chart_service.proofs.Answered.{planned_over}
use Rattle.chart_service.proofs.LookLemmas.{node_cause, disk_alone}
use Rattle.chart_service.proofs.PlanLemmas.{plan_cause, if_err}
use Rattle.chart_service.proofs.RoomLemmas.{short_for}
use Rattle.chart_service.proofs.SelectLemmas.{there, some_there, reads_there}
use Rattle.chart_service.proofs.service.Service.plan.Goals as goal

pub returns-clause-planned : goal.returns-clause-planned
returns-clause-planned g c = λ total book told stands.
    let spec = c.args.spec.now in
    let session = session_of c.args.number c.args.self.now.sessions in
    let before = c.selected-axis.new.store in
    let after = c.plan.new.nodes in
    let nodes : NodesView = store.nodes before in
    let nodes' : NodesView = store.nodes after in
    let fit = c.requires.sound in
    some_there book spec.series (λ series. PlansOrStops series spec session c.plan.result)
    (c.selected-axis.ensures.there total book fit told stands) (λ series at.
    planned_over series spec session c.selected-axis.result nodes nodes' c.plan.result
    (c.selected-axis.ensures.axis_is total book series fit told stands at)
    (c.selected-axis.ensures.agrees total book series fit told stands at)
    (λ e cause. disk_alone (g.P.Pages.told (store.pages before)) (g.P.Pages.view (store.pages before)) (g.P.Pages.view (store.pages after))
    (g.P.Pages.under (store.pages before)) (g.P.Pages.told (store.pages after)) (g.P.Pages.under (store.pages after))
    (store.numbers before) (store.numbers after) before.tree after.tree before.trail after.trail e
    (rw (store.pages, c.selected-axis.ensures.space) told) (c.selected-axis.ensures.whole total book series fit told stands at) cause)
    c.plan.ensures.needed c.plan.ensures.planned c.plan.ensures.bounds c.plan.ensures.told c.plan.ensures.in_frame c.plan.ensures.refused
    c.plan.ensures.counted)

pub returns-clause-cause : goal.returns-clause-cause
returns-clause-cause g c = rw (
  shown.IsTold,
  shown.view,
  shown.catalog,
  shown.total,
  store.IsTold,
  store.view,
  store.catalog,
  store.total,
  store.pages,
  ← c.selected-axis.ensures.space,
) (
    let spec = c.args.spec.now in
    let session = session_of c.args.number c.args.self.now.sessions in
    let catalog = shown.catalog c.args.self.now in
    let before = c.selected-axis.new.store in
    let after = c.plan.new.nodes in
    let nodes : NodesView = store.nodes before in
    let nodes' : NodesView = store.nodes after in
    let one = there catalog spec.series c.requires.view.there in
    if_err c.plan.result (RefusesView session nodes nodes')
    (λ error. IsPlanCause (λ id. id ≡ spec.series) error (g.P.Pages.told (store.pages before)) catalog (store.total before)
    (g.P.Pages.view (store.pages before)) (g.P.Pages.view (store.pages after)))
    (λ error. plan_cause (λ id. id ≡ spec.series) session nodes nodes' (g.P.Pages.told (store.pages before)) catalog (store.total before)
    (g.P.Pages.view (store.pages before)) (g.P.Pages.view (store.pages after)) error
    (λ e. node_cause (λ id. id ≡ spec.series) (g.P.Pages.told (store.pages before)) (g.P.Pages.view (store.pages before))
    (g.P.Pages.view (store.pages after)) (g.P.Pages.under (store.pages before)) (g.P.Pages.told (store.pages after))
    (g.P.Pages.under (store.pages after)) (store.numbers before)
    (store.numbers after) before.tree after.tree before.trail after.trail catalog spec.series one.0 e refl one.1
    (c.selected-axis.ensures.tree one.0 one.1)))
    c.plan.ensures.refused)

pub returns-clause-reads : goal.returns-clause-reads
returns-clause-reads g c = λ total book told stands.
    let spec = c.args.spec.now in
    let after = c.plan.new.nodes in
    let few = rw (store.view, store.pages, c.selected-axis.ensures.space) at c.plan.ensures.reads in
    let fit = c.requires.sound in
    reads_there spec.grid.w book spec.series c.selected-axis.result.slots (g.P.Pages.view (shown.pages c.args.self.now)).reads
    (g.P.Pages.view (store.pages after)).reads (c.selected-axis.ensures.there total book fit told stands)
    (λ series at. ap (λ (a : Axis). a.slots) (c.selected-axis.ensures.axis_is total book series fit told stands at)) few

pub returns-clause-large : goal.returns-clause-large
returns-clause-large g c =
    let spec = c.args.spec.now in
    short_for (session_of c.args.number c.args.self.now.sessions) (store.nodes c.selected-axis.new.store)
    (store.nodes c.plan.new.nodes) spec.grid.w c.selected-axis.result.slots c.plan.result c.plan.ensures.refused c.plan.ensures.large
