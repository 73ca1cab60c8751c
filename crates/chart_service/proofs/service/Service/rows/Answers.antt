use Rattle.std.proofs.Common.{◌≡◌, refl}
use Rattle.filter_scan.specs.Answers.{IsCauseOf}
use Rattle.om3_coeff.specs.View.{NodesView}
use Rattle.series_store.specs.Shown as store
use Rattle.chart_service.specs.Shown as shown
use Rattle.chart_service.specs.Planning.{ShowsOrStops}
use Rattle.chart_service.specs.Looking.{IsScanCause}
use Rattle.chart_service.proofs.Filtered.{shows_over}
use Rattle.chart_service.proofs.LookLemmas.{node_cause, disk_alone}
use Rattle.chart_service.proofs.PlanLemmas.{scan_cause, if_err}
use Rattle.chart_service.proofs.SelectLemmas.{rows_there, some_there, there}
use Rattle.chart_service.proofs.service.Service.rows.Goals as goal

pub returns-clause-shown : goal.returns-clause-shown
returns-clause-shown g c = λ total book told stands.
    let spec = c.args.spec.now in
    let before = c.selected-axis.new.store in
    let after = c.shown_rows.new.nodes in
    let nodes : NodesView = store.nodes before in
    let nodes' : NodesView = store.nodes after in
    let fit = c.requires.sound in
    some_there book spec.series (λ series. ShowsOrStops series spec c.shown_rows.result)
    (c.selected-axis.ensures.there total book fit told stands) (λ series at.
    shows_over series spec c.selected-axis.result nodes nodes' c.shown_rows.result
    (c.selected-axis.ensures.axis_is total book series fit told stands at)
    (c.selected-axis.ensures.agrees total book series fit told stands at)
    (λ e cause. disk_alone (g.P.Pages.told (store.pages before)) (g.P.Pages.view (store.pages before)) (g.P.Pages.view (store.pages after))
    (g.P.Pages.under (store.pages before)) (g.P.Pages.told (store.pages after)) (g.P.Pages.under (store.pages after))
    (store.numbers before) (store.numbers after) before.tree after.tree before.trail after.trail e
    (rw (store.pages, c.selected-axis.ensures.space) told) (c.selected-axis.ensures.whole total book series fit told stands at) cause)
    c.shown_rows.ensures.shown c.shown_rows.ensures.in_frame c.shown_rows.ensures.cause)

pub returns-clause-cause : goal.returns-clause-cause
returns-clause-cause g c = rw (
  shown.IsTold,
  shown.view,
  shown.catalog,
  shown.total,
  store.IsTold,
  store.view,
  store.catalog,
  store.total,
  store.pages,
  ← c.selected-axis.ensures.space,
) (
    let spec = c.args.spec.now in
    let catalog = shown.catalog c.args.self.now in
    let before = c.selected-axis.new.store in
    let after = c.shown_rows.new.nodes in
    let nodes : NodesView = store.nodes before in
    let nodes' : NodesView = store.nodes after in
    let one = there catalog spec.series c.requires.view.there in
    if_err c.shown_rows.result (IsCauseOf nodes nodes')
    (λ error. IsScanCause (λ id. id ≡ spec.series) error (g.P.Pages.told (store.pages before)) catalog (store.total before)
    (g.P.Pages.view (store.pages before)) (g.P.Pages.view (store.pages after)))
    (λ error. scan_cause (λ id. id ≡ spec.series) nodes nodes' (g.P.Pages.told (store.pages before)) catalog (store.total before)
    (g.P.Pages.view (store.pages before)) (g.P.Pages.view (store.pages after)) error
    (λ e. node_cause (λ id. id ≡ spec.series) (g.P.Pages.told (store.pages before)) (g.P.Pages.view (store.pages before))
    (g.P.Pages.view (store.pages after)) (g.P.Pages.under (store.pages before)) (g.P.Pages.told (store.pages after))
    (g.P.Pages.under (store.pages after)) (store.numbers before)
    (store.numbers after) before.tree after.tree before.trail after.trail catalog spec.series one.0 e refl one.1
    (c.selected-axis.ensures.tree one.0 one.1)))
    c.shown_rows.ensures.cause)

pub returns-clause-reads : goal.returns-clause-reads
returns-clause-reads g c = λ total book told stands.
    let spec = c.args.spec.now in
    let after = c.shown_rows.new.nodes in
    let few = rw (store.view, store.pages, c.selected-axis.ensures.space) at c.shown_rows.ensures.reads in
    let fit = c.requires.sound in
    rows_there spec.grid.t0 spec.grid.t1 book spec.series c.selected-axis.result (g.P.Pages.view (shown.pages c.args.self.now)).reads
    (g.P.Pages.view (store.pages after)).reads (c.selected-axis.ensures.there total book fit told stands)
    (λ series at. c.selected-axis.ensures.axis_is total book series fit told stands at) few
